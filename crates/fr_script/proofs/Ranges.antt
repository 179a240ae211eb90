-- The part of a table of deeds between two cycles of one sender, and the first deed of it that is of a receiver.
use Rattle.std.proofs.Common.{◌≡◌, ℕ, ◌<◌, ◌≤◌, true, false, cond, Bool, List, [], ◌∷◌, Option, Some, None, ap, sym, ◌∙◌, refl, arith}
use Rattle.std.specs.Prelude.{IsSome, ◌==◌, ◌&&◌, not, nat_le, nat_lt, if◌then◌else◌}
use Rattle.std.specs.declared.cmp.Ordering.TheVariants.{Less}
use Rattle.std.specs.Ordering.{nat_cmp, ordering_then, is_le}
use Rattle.std.specs.BTreeMap.{is_at}
use Rattle.std.specs.BTreeMap.Range.{entries_between}
use Rattle.std.specs.List.{AllByRecursion}
use Rattle.std.specs.List.Sorted.{IsStrictlySortedBy}
use Rattle.std.specs.Map.{keys_of}
use Rattle.std.specs.declared.ops.Bound.TheVariants.{Included, Excluded}
use Rattle.std.proofs.lemmas.Bool.Decides.{nat_tests}
use Rattle.fr_script.specs.declared.deeds.Passage.{Passage}
use Rattle.fr_script.specs.declared.deed.Deed.{Deed}
use Rattle.fr_script.specs.Deeds.{asked_cmp, deed_in, passage_cmp, passage_of, IsNextCycle}
use Rattle.fr_script.proofs.Tables.{is_same-at}

-- the deeds of a sender between two cycles, the ends cut by a receiver
abbrev pub part : ℕ → ℕ → ℕ → ℕ → List (Passage × Deed) → List (Passage × Deed)
part s r a b es = entries_between asked_cmp (Included (passage_of s r a)) (Excluded (passage_of s r b)) es

-- the cycle of the first of these deeds that is of a receiver, or else the end
abbrev pub first_cycle : ℕ → ℕ → List (Passage × Deed) → ℕ
first_cycle r b [] = b
first_cycle r b (e ∷ es) = if e.0.receiver == r then e.0.cycle else first_cycle r b es

-- whether a passage is of a pair, from one cycle on and before another
abbrev hits : ℕ → ℕ → ℕ → ℕ → Passage → Bool
hits s r a b p = (p.sender == s) && ((p.receiver == r) && (nat_le a p.cycle && nat_lt p.cycle b))

-- the cycle of the first deed that is, or else the end
abbrev found : ℕ → ℕ → ℕ → ℕ → List (Passage × Deed) → ℕ
found s r a b [] = b
found s r a b (e ∷ es) = if hits s r a b e.0 then e.0.cycle else found s r a b es

-- whether a passage lies in the part
abbrev inside : ℕ → ℕ → ℕ → ℕ → Passage → Bool
inside s r a b p = is_le (asked_cmp (passage_of s r a) p) && not (is_le (asked_cmp (passage_of s r b) p))

within-part : (s r a b x z : ℕ)
    → (is_le (ordering_then (nat_cmp s x) (ordering_then (nat_cmp a z) (nat_cmp r r))) && not (is_le (ordering_then (nat_cmp s x) (ordering_then (nat_cmp b z) (nat_cmp r r)))))
    ≡ ((x == s) && (nat_le a z && nat_lt z b))
within-part s r a b x z = grind (arith, nat_tests)

-- in the part the receiver decides
inside-hits : (s r a b : ℕ) (p : Passage) (own : Bool) → (p.receiver == r) ≡ own → (inside s r a b p && own) ≡ hits s r a b p
inside-hits s r a b p true own =
    let same : p.receiver ≡ r = grind (arith, nat_tests) in
    and-true (inside s r a b p)
    ∙ ap (λ (k : ℕ). is_le (ordering_then (nat_cmp s p.sender) (ordering_then (nat_cmp a p.cycle) (nat_cmp r k))) && not (is_le (ordering_then (nat_cmp s p.sender) (ordering_then (nat_cmp b p.cycle) (nat_cmp r k))))) same
    ∙ within-part s r a b p.sender p.cycle
    ∙ ap (λ (k : Bool). (p.sender == s) && (k && (nat_le a p.cycle && nat_lt p.cycle b))) (sym own)
  where
    and-true : (x : Bool) → (x && true) ≡ x
    and-true true = refl
    and-true false = refl
inside-hits s r a b p false own =
    and-false (inside s r a b p)
    ∙ sym (and-false (p.sender == s))
    ∙ ap (λ (k : Bool). (p.sender == s) && (k && (nat_le a p.cycle && nat_lt p.cycle b))) (sym own)
  where
    and-false : (x : Bool) → (x && false) ≡ false
    and-false true = refl
    and-false false = refl

picked : (i : Bool) (r b : ℕ) (e : Passage × Deed) (rest : List (Passage × Deed))
    → first_cycle r b (cond i (e ∷ rest) rest) ≡ (if i && (e.0.receiver == r) then e.0.cycle else first_cycle r b rest)
picked true r b e rest = refl
picked false r b e rest = refl

pub first-found : (s r a b : ℕ) (es : List (Passage × Deed)) → first_cycle r b (part s r a b es) ≡ found s r a b es
first-found s r a b [] = refl
first-found s r a b (e ∷ es) =
    picked (inside s r a b e.0) r b e (part s r a b es)
    ∙ (λ i. if inside-hits s r a b e.0 (e.0.receiver == r) refl i then e.0.cycle else first-found s r a b es i)

-- ---- what is found

hit-is : (s r a b : ℕ) (p : Passage) → hits s r a b p ≡ true → ((p.sender ≡ s) × (p.receiver ≡ r)) × ((a ≤ p.cycle) × (p.cycle < b))
hit-is s r a b p h = (
  (grind (arith, nat_tests), grind (arith, nat_tests)),
  (grind (arith, nat_tests), grind (arith, nat_tests)),
)

hit-own : (s r a b c : ℕ) → a ≤ c → c < b → hits s r a b (passage_of s r c) ≡ true
hit-own s r a b c low high = grind (arith, nat_tests)

from-if : (s r a b n : ℕ) (p : Passage) (h : Bool) → hits s r a b p ≡ h → a ≤ n → n ≤ b → (a ≤ (if h then p.cycle else n)) × ((if h then p.cycle else n) ≤ b)
from-if s r a b n p true e low high = let is = hit-is s r a b p e in (is.1.0, omega (arith, is.1.1))
from-if s r a b n p false e low high = (low, high)

found-bounds : (s r a b : ℕ) (es : List (Passage × Deed)) → a ≤ b → (a ≤ found s r a b es) × (found s r a b es ≤ b)
found-bounds s r a b [] h = (h, omega arith)
found-bounds s r a b (e ∷ es) h =
    let rest = found-bounds s r a b es h in from-if s r a b (found s r a b es) e.0 (hits s r a b e.0) refl rest.0 rest.1

at-other : (s r c : ℕ) (p : Passage) (b : Bool) → is_at (passage_cmp (passage_of s r c)) p ≡ b → (p.sender ≡ s → p.receiver ≡ r → p.cycle ≡ c → ⊥) → b ≡ false
at-other s r c p false e differs = refl
at-other s r c p true e differs =
    let same = is_same-at (passage_of s r c) p ∙ e in
    absurd (differs (grind (arith, nat_tests)) (grind (arith, nat_tests)) (grind (arith, nat_tests)))

-- what comes after a later passage of the pair is not this one
above : (s r c : ℕ) (p y : Passage) → p.sender ≡ s → c < p.cycle → asked_cmp p y ≡ Less → y.sender ≡ s → y.cycle ≡ c → ⊥
above s r c p y own late less sender cycle = grind (arith, nat_tests)

none-above : (s r c : ℕ) (p : Passage) (es : List (Passage × Deed)) → p.sender ≡ s → c < p.cycle → AllByRecursion (λ y. asked_cmp p y ≡ Less) (keys_of es) → deed_in es (passage_of s r c) ≡ None
unfolding deed_in
none-above s r c p [] own late all = refl
none-above s r c p (e ∷ es) own late all =
    let other = at-other s r c e.0 (is_at (passage_cmp (passage_of s r c)) e.0) refl (λ sender receiver cycle. above s r c p e.0 own late all.0 sender cycle) in
    ap (λ (k : Bool). cond k (Some e.1) (deed_in es (passage_of s r c))) other ∙ none-above s r c p es own late all.1

-- no deed of the pair comes before what is found
found-quiet : (s r a b c : ℕ) (es : List (Passage × Deed)) → a ≤ b → IsStrictlySortedBy asked_cmp (keys_of es) → a ≤ c → c < found s r a b es → deed_in es (passage_of s r c) ≡ None
unfolding deed_in IsStrictlySortedBy
found-quiet s r a b c [] h sorted low high = refl
found-quiet s r a b c (e ∷ es) h sorted low high = by (hits s r a b e.0) refl high (λ early. found-quiet s r a b c es h sorted.1 low early) (found-bounds s r a b es h).1
  where
    missing : hits s r a b e.0 ≡ false → e.0.sender ≡ s → e.0.receiver ≡ r → e.0.cycle ≡ c → c < b → ⊥
    missing missed sender receiver cycle under = grind (arith, nat_tests)

    by : (k : Bool) → hits s r a b e.0 ≡ k → c < (if k then e.0.cycle else found s r a b es) → (c < found s r a b es → deed_in es (passage_of s r c) ≡ None) → found s r a b es ≤ b
        → cond (is_at (passage_cmp (passage_of s r c)) e.0) (Some e.1) (deed_in es (passage_of s r c)) ≡ None
    by true hit early later end =
        let is = hit-is s r a b e.0 hit in
        let other = at-other s r c e.0 (is_at (passage_cmp (passage_of s r c)) e.0) refl (λ sender receiver cycle. omega (arith, early, cycle)) in
        ap (λ (k : Bool). cond k (Some e.1) (deed_in es (passage_of s r c))) other ∙ none-above s r c e.0 es is.0.0 early sorted.0
    by false missed early later end =
        let other =
        at-other s r c e.0 (is_at (passage_cmp (passage_of s r c)) e.0) refl
        (λ sender receiver cycle. missing missed sender receiver cycle (omega (arith, early, end)))
        in
        ap (λ (k : Bool). cond k (Some e.1) (deed_in es (passage_of s r c))) other ∙ later early

-- and what is found is one
found-stands : (s r a b : ℕ) (es : List (Passage × Deed)) → found s r a b es < b → IsSome (deed_in es (passage_of s r (found s r a b es)))
unfolding deed_in
found-stands s r a b [] h = absurd (omega (arith, h))
found-stands s r a b (e ∷ es) h = by (hits s r a b e.0) refl h (found-stands s r a b es)
  where
    some : (k : Bool) (d : Deed) (o : Option Deed) → IsSome o → IsSome (cond k (Some d) o)
    some true d o there = refl
    some false d o there = there

    by : (k : Bool) → hits s r a b e.0 ≡ k → (if k then e.0.cycle else found s r a b es) < b
        → (found s r a b es < b → IsSome (deed_in es (passage_of s r (found s r a b es))))
        → IsSome (deed_in (e ∷ es) (passage_of s r (if k then e.0.cycle else found s r a b es)))
    by true hit early later =
        let is = hit-is s r a b e.0 hit in
        let here : is_at (passage_cmp (passage_of s r e.0.cycle)) e.0 ≡ true = sym (is_same-at (passage_of s r e.0.cycle) e.0) ∙ grind (arith, nat_tests) in
        rw here refl
    by false missed early later =
        some (is_at (passage_cmp (passage_of s r (found s r a b es))) e.0) e.1 (deed_in es (passage_of s r (found s r a b es))) (later early)

-- the first deed of a pair in a table
pub next-cycle : (s r a b n : ℕ) (es : List (Passage × Deed)) → a ≤ b → IsStrictlySortedBy asked_cmp (keys_of es) → first_cycle r b (part s r a b es) ≡ n
    → IsNextCycle (λ c. deed_in es (passage_of s r c) ≡ None) (λ c. IsSome (deed_in es (passage_of s r c))) a b n
next-cycle s r a b n es h sorted first = rw (← is) (record {
  from = (found-bounds s r a b es h).0;
  to = (found-bounds s r a b es h).1;
  quiet = λ c low high. found-quiet s r a b c es h sorted low high;
  stands = found-stands s r a b es;
})
  where
    is : found s r a b es ≡ n
    is = sym (first-found s r a b es) ∙ first
