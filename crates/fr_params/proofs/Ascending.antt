-- Lists in ascending order of numbers, and what is found in them.
use Rattle.std.proofs.Common.{◌≡◌, ◌≤◌, ◌<◌, ℕ, zero, suc, Bool, true, false, List, [], ◌∷◌, ◌++◌, Option, None, inl, inr, refl, ap, sym, ◌∙◌, arith}
use Rattle.std.specs.Prelude.{AllPairs, All, Contains, IsSome, find, map, filter, nat_le, ◌==◌, ◌&&◌}
use Rattle.std.proofs.lemmas.Bool.{cases_Bool}
use Rattle.std.proofs.lemmas.Bool.Decides.{nat_tests}
use Rattle.std.proofs.lemmas.List.Elements.{All-head, All-tail}
use Rattle.fr_cluster.proofs.KeyNodes.{AllPairs-rest, Contains-cons_cases}
use Rattle.fr_params.specs.Lists.{as_list, listed}
use Rattle.fr_text.proofs.RecordLines.{and-left, and-right}

-- the numbers ascend, from this one on
pub Ascend : {X : Type 0} → (X → ℕ) → ℕ → List X → Type 0
Ascend number from [] = Unit {0}
Ascend number from (x ∷ xs) = (from ≤ number x) × Ascend number (suc (number x)) xs

pub ascend : {X : Type 0} (number : X → ℕ) (from : ℕ) (xs : List X) → AllPairs (λ a b. number a < number b) xs → All (λ x. from ≤ number x) xs → Ascend number from xs
unfolding Ascend
ascend number from [] pairs above = tt
ascend {X} number from (x ∷ xs) pairs above =
    let Later : X → X → Type 0 = λ a b. number a < number b in (
      All-head (λ (y : X). from ≤ number y) x xs above,
      ascend number (suc (number x)) xs (AllPairs-rest Later x xs pairs) (λ k d lt. pairs 0 (suc k) d (omega arith) (omega (arith, lt))),
    )

-- the same as a test
abbrev pub ascends : {X : Type 0} → (X → ℕ) → ℕ → List X → Bool
ascends number from [] = true
ascends number from (x ∷ xs) = nat_le from (number x) && ascends number (suc (number x)) xs

pub ascend-tested : {X : Type 0} (number : X → ℕ) (from : ℕ) (xs : List X) → ascends number from xs ≡ true → Ascend number from xs
unfolding Ascend
ascend-tested number from [] e = tt
ascend-tested number from (x ∷ xs) e = (
  low-true from (number x) (and-left (nat_le from (number x)) (ascends number (suc (number x)) xs) e),
  ascend-tested number (suc (number x)) xs (and-right (nat_le from (number x)) (ascends number (suc (number x)) xs) e),
)
  where
    low-true : (a b : ℕ) → nat_le a b ≡ true → a ≤ b
    low-true a b t = grind (arith, nat_tests)

-- the element of a number
abbrev pub at_number : {X : Type 0} → (X → ℕ) → ℕ → List X → Option X
at_number number k xs = find (λ x. number x == k) xs

differs : (a b : ℕ) → (a ≡ b → ⊥) → (a == b) ≡ false
differs a b ne = grind arith

equals : (a b : ℕ) → a ≡ b → (a == b) ≡ true
equals a b e = grind arith

above : (a b : ℕ) → b < a → nat_le a b ≡ false
above a b lt = grind (arith, nat_tests)

within : (a b : ℕ) → a ≤ b → nat_le a b ≡ true
within a b le = grind (arith, nat_tests)

-- none is found below what all begin with
none-found : {X : Type 0} (number : X → ℕ) (from k : ℕ) (xs : List X) → Ascend number from xs → k < from → at_number number k xs ≡ None
unfolding Ascend
none-found number from k [] up lt = refl
none-found number from k (x ∷ xs) up lt =
    let least : from ≤ number x = up.0 in
    rw (differs (number x) k (λ e. absurd (omega (arith, e, least, lt)))) (none-found number (suc (number x)) k xs up.1 (omega (arith, least, lt)))

-- an element stands above those before it
later : {X : Type 0} (number : X → ℕ) (from : ℕ) (before : List X) (x : X) (after : List X) → Ascend number from (before ++ x ∷ after) → from ≤ number x
unfolding Ascend
later number from [] x after up = up.0
later number from (y ∷ ys) x after up =
    let more : suc (number y) ≤ number x = later number (suc (number y)) ys x after up.1 in
    let least : from ≤ number y = up.0 in
    omega (arith, more, least)

-- so none of those has its number
pub none-before : {X : Type 0} (number : X → ℕ) (from : ℕ) (before : List X) (x : X) (after : List X) → Ascend number from (before ++ x ∷ after) → at_number number (number x) before ≡ None
unfolding Ascend
none-before number from [] x after up = refl
none-before number from (y ∷ ys) x after up =
    let more : suc (number y) ≤ number x = later number (suc (number y)) ys x after up.1 in
    rw (differs (number y) (number x) (λ e. absurd (omega (arith, e, more)))) (none-before number (suc (number y)) ys x after up.1)

-- those up to a number
abbrev up_to : {X : Type 0} → (X → ℕ) → ℕ → List X → List X
up_to number n xs = filter (λ x. nat_le (number x) n) xs

none-up_to : {X : Type 0} (number : X → ℕ) (from n : ℕ) (xs : List X) → Ascend number from xs → n < from → up_to number n xs ≡ []
unfolding Ascend
none-up_to number from n [] up lt = refl
none-up_to number from n (x ∷ xs) up lt =
    let least : from ≤ number x = up.0 in
    rw (above (number x) n (omega (arith, least, lt))) (none-up_to number (suc (number x)) n xs up.1 (omega (arith, least, lt)))

low-true : (a b : ℕ) → nat_le a b ≡ true → a ≤ b
low-true a b e = grind (arith, nat_tests)

high-false : (a b : ℕ) → nat_le a b ≡ false → b < a
high-false a b e = grind (arith, nat_tests)

same-true : (a b : ℕ) → (a == b) ≡ true → a ≡ b
same-true a b e = grind (arith, nat_tests)

other-false : (a b : ℕ) → (a == b) ≡ false → (a ≡ b → ⊥)
other-false a b e = grind (arith, nat_tests)

-- one number more
next-up_to : {X : Type 0} (number : X → ℕ) (from n : ℕ) (xs : List X) → Ascend number from xs → up_to number n xs ++ as_list (at_number number (suc n) xs) ≡ up_to number (suc n) xs
unfolding Ascend
next-up_to number from n [] up = refl
next-up_to {X} number from n (x ∷ xs) up = elim (cases_Bool (nat_le (number x) n)) [
  | inl le ↦
      let small = low-true (number x) n le in
      rw (le, within (number x) (suc n) (omega (arith, small)), differs (number x) (suc n) (λ e. absurd (omega (arith, e, small))))
      (ap (λ (ys : List X). x ∷ ys) (next-up_to number (suc (number x)) n xs up.1))
  | inr gt ↦ elim (cases_Bool (number x == suc n)) [
    | inl same ↦
        let is : number x ≡ suc n = same-true (number x) (suc n) same in
        rw (
          gt,
          same,
          within (number x) (suc n) (omega (arith, is)),
          none-up_to number (suc (number x)) n xs up.1 (omega (arith, is)),
          none-up_to number (suc (number x)) (suc n) xs up.1 (omega (arith, is)),
        )
        refl
    | inr other ↦
        let more = high-false (number x) n gt in
        let not = other-false (number x) (suc n) other in
        let far : suc n < number x = by (number x) n more not in
        rw (
          gt,
          other,
          above (number x) (suc n) far,
          none-up_to number (suc (number x)) n xs up.1 (omega (arith, far)),
          none-up_to number (suc (number x)) (suc n) xs up.1 (omega (arith, far)),
          none-found number (suc (number x)) (suc n) xs up.1 (omega (arith, far)),
        )
        refl
  ]
] where
  by : (a n : ℕ) → n < a → (a ≡ suc n → ⊥) → suc n < a
  by a n more not = omega (arith, more, not)

listed-up_to : {X : Type 0} (number : X → ℕ) (n : ℕ) (xs : List X) → Ascend number 1 xs → listed n (λ k. at_number number k xs) ≡ up_to number n xs
unfolding listed
listed-up_to number zero xs up = sym (none-up_to number 1 0 xs up (omega arith))
listed-up_to {X} number (suc n) xs up =
    ap (λ (ys : List X). ys ++ as_list (at_number number (suc n) xs)) (listed-up_to number n xs up) ∙ next-up_to number 1 n xs up

all-up_to : {X : Type 0} (number : X → ℕ) (n : ℕ) (xs : List X) → All (λ x. number x ≤ n) xs → up_to number n xs ≡ xs
all-up_to number n [] most = refl
all-up_to {X} number n (x ∷ xs) most =
    rw (within (number x) n (All-head (λ (y : X). number y ≤ n) x xs most)) (ap (λ (ys : List X). x ∷ ys) (all-up_to number n xs (All-tail (λ (y : X). number y ≤ n) x xs most)))

-- found number by number, it is the list again
pub listed-back : {X : Type 0} (number : X → ℕ) (n : ℕ) (xs : List X) → Ascend number 1 xs → All (λ x. number x ≤ n) xs → listed n (λ k. at_number number k xs) ≡ xs
listed-back number n xs up most = listed-up_to number n xs up ∙ all-up_to number n xs most

-- a number in the list is found
pub some-found : {X : Type 0} (number : X → ℕ) (k : ℕ) (xs : List X) → Contains (map number xs) k → IsSome (at_number number k xs)
some-found number k [] among = absurd (omega (arith, among.1))
some-found {X} number k (x ∷ xs) among = elim (Contains-cons_cases (number x) (map number xs) k among) [
  | inl same ↦ rw (equals (number x) k same) refl
  | inr rest ↦ elim (cases_Bool (number x == k)) [
    | inl here ↦ rw here refl
    | inr not ↦ rw not (some-found number k xs rest)
  ]
]
