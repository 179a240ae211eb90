-- Deviations in ascending order, of which those of one receiver stand one after the other.
use Rattle.std.proofs.Common.{◌≡◌, ℕ, ◌+◌, ◌<◌, ◌≤◌, ◌==◌, Bool, true, false, List, [], ◌∷◌, ◌++◌, length, take, drop, get_or, take-append-drop, refl, ap, sym, ◌∙◌, subst, inl, inr, arith}
use Rattle.std.specs.Prelude.{All, Option, None, filter, find, slice_index_or}
use Rattle.std.specs.Option.{option_or}
use Rattle.std.proofs.lemmas.Bool.{cases_lt}
use Rattle.std.proofs.lemmas.List.{get_or-drop, get_or-take, length-drop, length-take}
use Rattle.std.proofs.lemmas.List.Elements.{filter-append}
use Rattle.std.proofs.lemmas.List.Folds.{find-append}
use Rattle.fr_base.specs.Rows.{AreAscendingDevs, IsEarlierDev, is_dev_of}
use Rattle.fr_base.specs.declared.channel.Channel.{Channel}
use Rattle.fr_base.specs.declared.dev.Dev.{Dev}
use Rattle.fr_verdict.proofs.Parts.{all_rest}

lower : (a b : Dev) → IsEarlierDev a b → a.receiver ≤ b.receiver
lower a b earlier = elim earlier [
  | inl before ↦ omega arith
  | inr (same, rest) ↦ omega arith
]

-- a later one has no smaller receiver
pub no_lower : (devs : List Dev) (i j : ℕ) (d : Dev) → AreAscendingDevs devs → i ≤ j → j < length devs → (slice_index_or devs i d).receiver ≤ (slice_index_or devs j d).receiver
no_lower devs i j d ascend le lt = elim (cases_lt i j) [
  | inl less ↦ lower (slice_index_or devs i d) (slice_index_or devs j d) (ascend i j d less lt)
  | inr other ↦ let same : i ≡ j = omega arith in subst (λ (k : ℕ). (slice_index_or devs i d).receiver ≤ (slice_index_or devs k d).receiver) same (omega arith)
]

-- where one has a smaller receiver than a number, all before it have
pub below_more : (devs : List Dev) (receiver at end : ℕ) → AreAscendingDevs devs → end ≤ at + 1 → at < length devs → ((d : Dev) → (slice_index_or devs at d).receiver < receiver)
    → (k : ℕ) (d : Dev) → k < end → (slice_index_or devs k d).receiver < receiver
below_more devs receiver at end ascend le lt below = λ k d less.
    let here = below d in
    let low = no_lower devs k at d ascend (omega arith) lt in
    omega arith

-- where one has none, nor has any after it
pub above_all : (devs : List Dev) (receiver at : ℕ) → AreAscendingDevs devs → (at < length devs → (d : Dev) → receiver ≤ (slice_index_or devs at d).receiver)
    → (k : ℕ) (d : Dev) → at ≤ k → k < length devs → receiver ≤ (slice_index_or devs k d).receiver
above_all devs receiver at ascend above = λ k d from lt.
    let here = above (omega arith) d in
    let low = no_lower devs at k d ascend from lt in
    omega arith

pub ascend_behind : (devs : List Dev) (n : ℕ) → AreAscendingDevs devs → AreAscendingDevs (drop n devs)
ascend_behind devs n ascend = λ i j d less lt.
    let long = length-drop n devs in
    let far : n + j < length devs = omega arith in
    subst (λ (b : Dev). IsEarlierDev (get_or (drop n devs) i d) b) (sym (get_or-drop n devs j d))
    (subst (λ (a : Dev). IsEarlierDev a (get_or devs (n + j) d)) (sym (get_or-drop n devs i d)) (ascend (n + i) (n + j) d (omega arith) far))

-- ---- what passes a test, and what does not

filter_none : {X : Type 0} (p : X → Bool) (xs : List X) → All (λ x. p x ≡ false) xs → filter p xs ≡ []
filter_none p [] all = refl
filter_none {X = X} p (x ∷ xs) all = let e : p x ≡ false = all 0 x (omega arith) in rw e (filter_none p xs (all_rest (λ (y : X). p y ≡ false) x xs all))

filter_all : {X : Type 0} (p : X → Bool) (xs : List X) → All (λ x. p x ≡ true) xs → filter p xs ≡ xs
filter_all p [] all = refl
filter_all {X = X} p (x ∷ xs) all = let e : p x ≡ true = all 0 x (omega arith) in rw e (ap (λ (ys : List X). x ∷ ys) (filter_all p xs (all_rest (λ (y : X). p y ≡ true) x xs all)))

find_none : {X : Type 0} (p : X → Bool) (xs : List X) → All (λ x. p x ≡ false) xs → find p xs ≡ None
find_none p [] all = refl
find_none {X = X} p (x ∷ xs) all = let e : p x ≡ false = all 0 x (omega arith) in rw e (find_none p xs (all_rest (λ (y : X). p y ≡ false) x xs all))

-- the front and the rest of a list, by places
front_all : {X : Type 0} (P : X → Type 0) (xs : List X) (n : ℕ) → ((k : ℕ) (d : X) → k < n → P (slice_index_or xs k d)) → All P (take n xs)
front_all P xs n each = λ k d lt.
    let long = length-take n xs in
    let less : k < n = omega arith in
    subst P (sym (get_or-take n xs k d less)) (each k d less)

rest_all : {X : Type 0} (P : X → Type 0) (xs : List X) (n : ℕ) → ((k : ℕ) (d : X) → n ≤ k → k < length xs → P (slice_index_or xs k d)) → All P (drop n xs)
rest_all P xs n each = λ k d lt.
    let long = length-drop n xs in
    subst P (sym (get_or-drop n xs k d)) (each (n + k) d (omega arith) (omega arith))

-- ---- the deviations of a receiver

unequal : (a b : ℕ) → a < b → (a == b) ≡ false
unequal a b less = grind arith

unequal_above : (a b : ℕ) → b < a → (a == b) ≡ false
unequal_above a b less = grind arith

equal : (a b : ℕ) → a ≡ b → (a == b) ≡ true
equal a b same = grind arith

-- places from which on, and up to which, they stand
pub parts_of_receiver : (devs rest : List Dev) (receiver from count : ℕ) → rest ≡ drop from devs
    → ((k : ℕ) (d : Dev) → k < from → (slice_index_or devs k d).receiver < receiver)
    → ((k : ℕ) (d : Dev) → from ≤ k → k < length devs → receiver ≤ (slice_index_or devs k d).receiver)
    → ((k : ℕ) (d : Dev) → k < count → (slice_index_or rest k d).receiver < receiver + 1)
    → ((k : ℕ) (d : Dev) → count ≤ k → k < length rest → receiver + 1 ≤ (slice_index_or rest k d).receiver)
    → count ≤ length rest
    → take count rest ≡ filter (λ dev. dev.receiver == receiver) devs
parts_of_receiver devs rest receiver from count is below above own behind few =
    let p : Dev → Bool = λ dev. dev.receiver == receiver in
    let least : All (λ dev. receiver ≤ dev.receiver) rest =
    subst (All (λ (dev : Dev). receiver ≤ dev.receiver)) (sym is) (rest_all (λ (dev : Dev). receiver ≤ dev.receiver) devs from above) in
    let before : filter p (take from devs) ≡ [] =
    filter_none p (take from devs) (front_all (λ (dev : Dev). (dev.receiver == receiver) ≡ false) devs from (λ k d lt. unequal (slice_index_or devs k d).receiver receiver (below k d lt))) in
    let here : filter p (take count rest) ≡ take count rest =
    filter_all p (take count rest)
    (front_all (λ (dev : Dev). (dev.receiver == receiver) ≡ true) rest count
    (λ k d lt. let high = own k d lt in let low = least k d (omega arith) in equal (slice_index_or rest k d).receiver receiver (omega arith))) in
    let after : filter p (drop count rest) ≡ [] =
    filter_none p (drop count rest)
    (rest_all (λ (dev : Dev). (dev.receiver == receiver) ≡ false) rest count (λ k d low lt. let high = behind k d low lt in unequal_above (slice_index_or rest k d).receiver receiver (omega arith))) in
    let within : filter p rest ≡ take count rest =
    ap (filter p) (sym (take-append-drop count rest)) ∙ filter-append p (take count rest) (drop count rest)
    ∙ ap (λ (ys : List Dev). ys ++ filter p (drop count rest)) here ∙ ap (λ (ys : List Dev). take count rest ++ ys) after ∙ appended (take count rest) in
    sym
    (ap (filter p) (sym (take-append-drop from devs)) ∙ filter-append p (take from devs) (drop from devs)
    ∙ ap (λ (ys : List Dev). ys ++ filter p (drop from devs)) before ∙ ap (filter p) (sym is) ∙ within)
  where
    appended : {X : Type 0} (xs : List X) → xs ++ [] ≡ xs
    appended [] = refl
    appended {X = X} (x ∷ xs) = ap (λ (ys : List X). x ∷ ys) (appended xs)

-- a search may begin behind those that fail its test
pub found_behind_place : (p : Dev → Bool) (devs : List Dev) (n : ℕ) → ((k : ℕ) (d : Dev) → k < n → p (slice_index_or devs k d) ≡ false) → find p (drop n devs) ≡ find p devs
found_behind_place p devs n fails =
    let before : find p (take n devs) ≡ None = find_none p (take n devs) (front_all (λ (dev : Dev). p dev ≡ false) devs n fails) in
    sym
    (ap (find p) (sym (take-append-drop n devs)) ∙ find-append p (take n devs) (drop n devs)
    ∙ ap (λ (o : Option Dev). option_or o (find p (drop n devs))) before)

pub not_of : (dev : Dev) (receiver slot : ℕ) (channel : Channel) → dev.receiver < receiver → is_dev_of receiver slot channel dev ≡ false
not_of dev receiver slot channel less = let e : (dev.receiver == receiver) ≡ false = unequal dev.receiver receiver less in rw e refl
