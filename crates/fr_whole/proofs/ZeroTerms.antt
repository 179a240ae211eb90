-- Where each value of a receiver is 0, so are its terms: no offset, and a rate of 0 stays 0.
use Rattle.std.proofs.Common.{◌≡◌, ℕ, suc, ◌<◌, Bool, true, false, ℤ, pos, Option, Some, List, [], ◌∷◌, All, length, refl, ap, ◌∙◌, arith}
use Rattle.std.specs.Prelude.{◌≤ℤ◌, count_by, int_le, int_lt, neg_ℤ}
use Rattle.std.proofs.lemmas.Int.{ints}
use Rattle.std.proofs.lemmas.List.Elements.{All-head, All-tail}
use Rattle.fr_midpoint.specs.Midpoint.{discarded, midpoint_of, IsMidpoint}
use Rattle.fr_midpoint.proofs.Found.{midpoint_of-is}
use Rattle.fr_correct.specs.Terms.{damped, limited, offset_term_at, offset_term_of, rate_term_at, rate_term_of}
use Rattle.fr_precision.proofs.Counting.{count_no, count_yes}

-- a number is 0
abbrev pub IsZero : ℤ → Type 0
IsZero value = value ≡ pos 0

none_passes : (test : ℤ → Bool) (values : List ℤ) → test (pos 0) ≡ false → All IsZero values → count_by test values ≡ 0
none_passes test [] fails all = refl
none_passes test (value ∷ values) fails all =
    count_no test value values (ap test (All-head IsZero value values all) ∙ fails) ∙ none_passes test values fails (All-tail IsZero value values all)

all_pass : (test : ℤ → Bool) (values : List ℤ) → test (pos 0) ≡ true → All IsZero values → count_by test values ≡ length values
all_pass test [] passes all = refl
all_pass test (value ∷ values) passes all =
    count_yes test value values (ap test (All-head IsZero value values all) ∙ passes)
    ∙ ap suc (all_pass test values passes (All-tail IsZero value values all))

-- some value remains
some_remain : (n : ℕ) → discarded (suc n) < suc n
some_remain n = grind arith

zero_is_middle : (value : ℤ) (values : List ℤ) → All IsZero (value ∷ values) → IsMidpoint (value ∷ values) (pos 0)
zero_is_middle value values all =
    let some = some_remain (length values) in
    let below = none_passes (λ v. int_lt v (pos 0)) (value ∷ values) refl all in
    let up_to = all_pass (λ v. int_le v (pos 0)) (value ∷ values) refl all in
    let above = none_passes (λ v. int_lt (pos 0) v) (value ∷ values) refl all in
    let from = all_pass (λ v. int_le (pos 0) v) (value ∷ values) refl all in
    record {
      low = pos 0;
      high = pos 0;
      least = record { few_below = omega (arith, below); more_up_to = omega (arith, up_to, some) };
      greatest = record { few_above = omega (arith, above); more_from = omega (arith, from, some) };
      half = refl;
    }

middle_is : (value : ℤ) (values : List ℤ) → All IsZero (value ∷ values) → midpoint_of (value ∷ values) ≡ Some (pos 0)
middle_is value values all = midpoint_of-is (value ∷ values) (pos 0) (zero_is_middle value values all)

not_above : (limit : ℤ) → pos 0 ≤ℤ limit → int_lt limit (pos 0) ≡ false
not_above limit from = grind (arith, ints)

not_below : (limit : ℤ) → pos 0 ≤ℤ limit → int_lt (pos 0) (neg_ℤ limit) ≡ false
not_below limit from = grind (arith, ints)

zero_limited : (limit : ℤ) → pos 0 ≤ℤ limit → limited limit (pos 0) ≡ pos 0
zero_limited limit from = rw (not_above limit from, not_below limit from) refl

zero_damped : (damping : ℤ) → pos 0 ≤ℤ damping → damped damping (pos 0) ≡ pos 0
zero_damped damping from = rw (not_above damping from, not_below damping from) refl

pub no_offset : (limit : ℤ) (values : List ℤ) → pos 0 ≤ℤ limit → All IsZero values → (offset_term_of limit values).value ≡ pos 0
no_offset limit [] from all = refl
no_offset limit (value ∷ values) from all =
    ap (λ (o : Option ℤ). (offset_term_at limit o).value) (middle_is value values all) ∙ zero_limited limit from

pub no_rate : (damping limit : ℤ) (values : List ℤ) → pos 0 ≤ℤ damping → pos 0 ≤ℤ limit → All IsZero values
    → (rate_term_of (pos 0) damping limit values).value ≡ pos 0
no_rate damping limit [] damps from all = refl
no_rate damping limit (value ∷ values) damps from all =
    ap (λ (o : Option ℤ). (rate_term_at (pos 0) damping limit o).value) (middle_is value values all)
    ∙ ap (limited limit) (zero_damped damping damps)
    ∙ zero_limited limit from
