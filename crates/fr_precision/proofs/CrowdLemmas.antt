-- Of a crowd of senders, more than a list discards at an end, one says no less than the least value that remains, and
-- one no more than the greatest.
use Rattle.std.proofs.Common.{◌≡◌, ℕ, ◌+◌, ◌≤◌, ◌<◌, Bool, true, false, cond, ℤ, List, [], ◌∷◌, ◌++◌, length, All, inl, inr, refl, arith}
use Rattle.std.specs.Prelude.{int_lt, int_le, map}
use Rattle.std.specs.List.{count_by, AllZip}
use Rattle.std.proofs.lemmas.Bool.{cases_Bool}
use Rattle.std.proofs.lemmas.Int.{ints}
use Rattle.std.proofs.lemmas.List.Elements.{All-head, All-tail}
use Rattle.std.proofs.lemmas.List.Sums.{count_by-le-length, sum_by-append, sum_by-cons}
use Rattle.std.proofs.lemmas.List.Sorted.{sum_by-IsPermutation}
use Rattle.std.proofs.lemmas.Slice.Zip.{AllZip-long}
use Rattle.fr_midpoint.specs.Midpoint.{discarded, IsHigh, IsLow}
use Rattle.fr_midpoint.specs.Receivers.{Hears}
use Rattle.fr_midpoint.proofs.Counts.{all_pass, both-le-length, count_by-cons_no, count_by-cons_yes}

-- a test of what is made of each element
pub count_by-map : {X Y : Type 0} (test : Y → Bool) (f : X → Y) (xs : List X) → count_by test (map f xs) ≡ count_by (λ x. test (f x)) xs
count_by-map test f [] = refl
count_by-map test f (x ∷ xs) =
    omega (
      arith,
      sum_by-cons (λ y. cond (test y) 1 0) (f x) (map f xs),
      sum_by-cons (λ z. cond (test (f z)) 1 0) x xs,
      count_by-map test f xs,
    )

-- ---- one of more senders

-- a sender that passes a test, with what it says, which does not pass another
pub record Speaker {X : Type 0} (P : X → Type 0) (Says : X → ℤ → Type 0) (is_member : X → Bool) (fails : ℤ → Bool) : Type 0 where
  pub sender : X
  pub value : ℤ
  pub holds : P sender
  pub member : is_member sender ≡ true
  pub says : Says sender value
  pub is : fails value ≡ false

-- where more senders pass the one than values pass the other
speaker_of :
    {X : Type 0} (P : X → Type 0) (Says : X → ℤ → Type 0) (is_member : X → Bool) (fails : ℤ → Bool) (xs : List X) (said : List ℤ)
    → All P xs → AllZip Says xs said → count_by fails said < count_by is_member xs → Speaker P Says is_member fails
speaker_of P Says is_member fails [] said all each more = absurd (omega arith)
speaker_of P Says is_member fails (x ∷ xs) [] all each more = absurd each
speaker_of P Says is_member fails (x ∷ xs) (v ∷ vs) all each more = elim (cases_Bool (is_member x)) [
  | inl member ↦ elim (cases_Bool (fails v)) [
    | inl passes ↦
        speaker_of P Says is_member fails xs vs (All-tail P x xs all) each.1
        (omega (arith, more, count_by-cons_yes is_member x xs member, count_by-cons_yes fails v vs passes))
    | inr is ↦ record { sender = x; value = v; holds = All-head P x xs all; member = member; says = each.0; is = is }
  ]
  | inr other ↦
      speaker_of P Says is_member fails xs vs (All-tail P x xs all) each.1
      (omega (arith, more, count_by-cons_no is_member x xs other, sum_by-cons (λ y. cond (fails y) 1 0) v vs))
]

-- what passes among all values passes among what was said, but for the further values
pub passed_of :
    {X : Type 0} (Says : X → ℤ → Type 0) (test : ℤ → Bool) (senders : List X) (values : List ℤ) (hears : Hears X Says senders values)
    → (count_by test hears.said ≤ count_by test values) × (count_by test values ≤ count_by test hears.said + length hears.further)
passed_of Says test senders values hears =
    let f : ℤ → ℕ = λ x. cond (test x) 1 0 in
    let moved = sum_by-IsPermutation f (hears.said ++ hears.further) values hears.parts in
    let both = sum_by-append f hears.said hears.further in
    let few = count_by-le-length test hears.further in
    (omega (arith, moved, both), omega (arith, moved, both, few))

-- a member of the crowd that says no less than the least that remains
pub crowd_from :
    {X : Type 0} (P : X → Type 0) (Says : X → ℤ → Type 0) (is_member : X → Bool) (senders : List X) (values : List ℤ) (low : ℤ)
    → All P senders → Hears X Says senders values → IsLow (discarded (length values)) values low
    → discarded (length values) < count_by is_member senders → Speaker P Says is_member (λ v. int_lt v low)
crowd_from P Says is_member senders values low all hears least more =
    let passed = passed_of Says (λ v. int_lt v low) senders values hears in
    speaker_of P Says is_member (λ v. int_lt v low) senders hears.said all hears.each (omega (arith, passed.0, least.few_below, more))

-- and one that says no more than the greatest
pub crowd_to :
    {X : Type 0} (P : X → Type 0) (Says : X → ℤ → Type 0) (is_member : X → Bool) (senders : List X) (values : List ℤ) (high : ℤ)
    → All P senders → Hears X Says senders values → IsHigh (discarded (length values)) values high
    → discarded (length values) < count_by is_member senders → Speaker P Says is_member (λ v. int_lt high v)
crowd_to P Says is_member senders values high all hears greatest more =
    let passed = passed_of Says (λ v. int_lt high v) senders values hears in
    speaker_of P Says is_member (λ v. int_lt high v) senders hears.said all hears.each (omega (arith, passed.0, greatest.few_above, more))

-- ---- one of all senders

not_both : (x high : ℤ) → int_lt x high ≡ true → int_le high x ≡ false
not_both x high h = grind (arith, ints)

nor_both : (x low : ℤ) → int_lt low x ≡ true → int_le x low ≡ false
nor_both x low h = grind (arith, ints)

-- some sender says no less than the greatest that remains
pub some_from :
    {X : Type 0} (P : X → Type 0) (Says : X → ℤ → Type 0) (senders : List X) (values : List ℤ) (high : ℤ)
    → All P senders → Hears X Says senders values → IsHigh (discarded (length values)) values high
    → Speaker P Says (λ (x : X). true) (λ v. int_lt v high)
some_from {X} P Says senders values high all hears greatest =
    let passed = passed_of Says (λ v. int_le high v) senders values hears in
    let rest = both-le-length (λ v. int_lt v high) (λ v. int_le high v) hears.said (λ v h. not_both v high h) in
    let long = AllZip-long Says senders hears.said hears.each in
    speaker_of P Says (λ (x : X). true) (λ v. int_lt v high) senders hears.said all hears.each
    (omega (arith, passed.1, rest, long, greatest.more_from, hears.few, all_pass senders))

-- and some sender no more than the least
pub some_to :
    {X : Type 0} (P : X → Type 0) (Says : X → ℤ → Type 0) (senders : List X) (values : List ℤ) (low : ℤ)
    → All P senders → Hears X Says senders values → IsLow (discarded (length values)) values low
    → Speaker P Says (λ (x : X). true) (λ v. int_lt low v)
some_to {X} P Says senders values low all hears least =
    let passed = passed_of Says (λ v. int_le v low) senders values hears in
    let rest = both-le-length (λ v. int_lt low v) (λ v. int_le v low) hears.said (λ v h. nor_both v low h) in
    let long = AllZip-long Says senders hears.said hears.each in
    speaker_of P Says (λ (x : X). true) (λ v. int_lt low v) senders hears.said all hears.each
    (omega (arith, passed.1, rest, long, least.more_up_to, hears.few, all_pass senders))
