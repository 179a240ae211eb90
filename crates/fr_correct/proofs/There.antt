-- The terms of some values are there, and within their limit.
use Rattle.std.proofs.Common.{◌≡◌, neg_ℤ, Bool, true, false, [], ◌∷◌, inl, inr, refl, arith}
use Rattle.std.specs.Prelude.{int_lt, if◌then◌else◌}
use Rattle.std.proofs.lemmas.Int.{ints}
use Rattle.fr_base.specs.Within.{IsWithin}
use Rattle.fr_midpoint.specs.Midpoint.{midpoint_by_ranks}
use Rattle.fr_midpoint.proofs.There.{midpoint_is_there_lem}
use Rattle.fr_correct.specs.Terms.{OffsetTermIsThere, RateTermIsThere, TermLiesWithin}

pub offset_term_is_there : OffsetTermIsThere
offset_term_is_there limit [] = inl (refl, refl)
offset_term_is_there limit (value ∷ values) = inr (midpoint_by_ranks (value ∷ values), midpoint_is_there_lem value values, refl)

pub rate_term_is_there : RateTermIsThere
rate_term_is_there old damping limit [] = inl (refl, refl)
rate_term_is_there old damping limit (value ∷ values) = inr (midpoint_by_ranks (value ∷ values), midpoint_is_there_lem value values, refl)

pub term_lies_within : TermLiesWithin
term_lies_within limit before from = by_tests (int_lt limit before) (int_lt before (neg_ℤ limit)) refl refl
  where
    by_tests : (over under : Bool) → int_lt limit before ≡ over → int_lt before (neg_ℤ limit) ≡ under
        → IsWithin limit (if over then limit else (if under then neg_ℤ limit else before))
    by_tests true under is also = record { low = omega (arith, ints, from); high = omega (arith, ints, from) }
    by_tests false true is also = record { low = omega (arith, ints, from); high = omega (arith, ints, from) }
    by_tests false false is also = record { low = grind (arith, ints); high = grind (arith, ints) }
