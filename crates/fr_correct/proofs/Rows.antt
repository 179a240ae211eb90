-- The rate and the offset term, computed on worked rows.
use Rattle.std.specs.Prelude.{◌≡◌, pos, negsuc, [], ◌∷◌, refl}
use Rattle.fr_base.specs.declared.Outcome.TheVariants.{Within, Missing, Exceeded}
use Rattle.fr_midpoint.specs.Midpoint.{midpoint_by_ranks}
use Rattle.fr_correct.specs.Terms.{offset_term_of, rate_term_of}

damped_by_four : rate_term_of (pos 0) (pos 4) (pos 81) (pos 5 ∷ []) ≡ record { value = pos 1; before = pos 1; outcome = Within }
unfolding midpoint_by_ranks
damped_by_four = refl

damped_to_zero : rate_term_of (pos 0) (pos 4) (pos 81) (pos 4 ∷ []) ≡ record { value = pos 0; before = pos 0; outcome = Within }
unfolding midpoint_by_ranks
damped_to_zero = refl

damped_from_below :
    rate_term_of (pos 0) (pos 4) (pos 81) (negsuc 4 ∷ []) ≡ record { value = negsuc 0; before = negsuc 0; outcome = Within }
unfolding midpoint_by_ranks
damped_from_below = refl

damped_and_then_cut :
    rate_term_of (pos 0) (pos 4) (pos 81) (pos 86 ∷ []) ≡ record { value = pos 81; before = pos 82; outcome = Exceeded }
unfolding midpoint_by_ranks
damped_and_then_cut = refl

-- the sum is damped, and not the midpoint
sum_damped :
    rate_term_of (pos 10) (pos 4) (pos 81) (pos 3 ∷ []) ≡ record { value = pos 9; before = pos 9; outcome = Within }
unfolding midpoint_by_ranks
sum_damped = refl

old_term_kept : rate_term_of (pos 7) (pos 4) (pos 81) [] ≡ record { value = pos 7; before = pos 7; outcome = Missing }
old_term_kept = refl

at_the_limit : offset_term_of (pos 316) (negsuc 315 ∷ []) ≡ record { value = negsuc 315; before = negsuc 315; outcome = Within }
unfolding midpoint_by_ranks
at_the_limit = refl

below_the_limit :
    offset_term_of (pos 316) (negsuc 316 ∷ []) ≡ record { value = negsuc 315; before = negsuc 316; outcome = Exceeded }
unfolding midpoint_by_ranks
below_the_limit = refl
