-- The midpoint by ranks, computed on worked rows.
use Rattle.std.proofs.Common.{◌≡◌, pos, negsuc, Some, [], ◌∷◌, refl, lit≤, lit<}
use Rattle.fr_midpoint.specs.Midpoint.{IsMidpoint, midpoint_of, midpoint_by_ranks}

-- of one value, that value
one : IsMidpoint (pos 5 ∷ []) (pos 5)
one = record {
  low = pos 5;
  high = pos 5;
  least = record { few_below = lit≤ tt; more_up_to = lit< tt };
  greatest = record { few_above = lit≤ tt; more_from = lit< tt };
  half = refl;
}

-- of -3 and 4, half of 1 toward zero
two_across_zero : IsMidpoint (negsuc 2 ∷ pos 4 ∷ []) (pos 0)
two_across_zero = record {
  low = negsuc 2;
  high = pos 4;
  least = record { few_below = lit≤ tt; more_up_to = lit< tt };
  greatest = record { few_above = lit≤ tt; more_from = lit< tt };
  half = refl;
}

-- of -4 and -3, half of -7 toward zero
two_below_zero : IsMidpoint (negsuc 3 ∷ negsuc 2 ∷ []) (negsuc 2)
two_below_zero = record {
  low = negsuc 3;
  high = negsuc 2;
  least = record { few_below = lit≤ tt; more_up_to = lit< tt };
  greatest = record { few_above = lit≤ tt; more_from = lit< tt };
  half = refl;
}

-- of -9, 1 and 30, the middle one
three : IsMidpoint (negsuc 8 ∷ pos 1 ∷ pos 30 ∷ []) (pos 1)
three = record {
  low = pos 1;
  high = pos 1;
  least = record { few_below = lit≤ tt; more_up_to = lit< tt };
  greatest = record { few_above = lit≤ tt; more_from = lit< tt };
  half = refl;
}

-- of eight values, two discarded at each end: half of 1 and 4 toward zero
eight :
    IsMidpoint (negsuc 49 ∷ negsuc 39 ∷ pos 1 ∷ pos 2 ∷ pos 3 ∷ pos 4 ∷ pos 60 ∷ pos 70 ∷ []) (pos 2)
eight = record {
  low = pos 1;
  high = pos 4;
  least = record { few_below = lit≤ tt; more_up_to = lit< tt };
  greatest = record { few_above = lit≤ tt; more_from = lit< tt };
  half = refl;
}

-- the same numbers from the ranks of the values
found :
    midpoint_of (negsuc 49 ∷ negsuc 39 ∷ pos 1 ∷ pos 2 ∷ pos 3 ∷ pos 4 ∷ pos 60 ∷ pos 70 ∷ []) ≡ Some (pos 2)
unfolding midpoint_by_ranks
found = refl

found_below_zero : midpoint_of (negsuc 3 ∷ negsuc 2 ∷ []) ≡ Some (negsuc 2)
unfolding midpoint_by_ranks
found_below_zero = refl
