-- The law of two receivers, both sides computed: six correct nodes and two arbitrary ones, of which one receiver hears
-- one alone. It has seven values and discards one at each end, the other has eight and discards two.
use Rattle.std.proofs.Common.{◌≡◌, ◌+◌, ℤ, pos, negsuc, List, [], ◌∷◌, ◌++◌, refl, lit≤, lit<}
use Rattle.std.specs.Prelude.{All, ◌+ℤ◌, ◌-ℤ◌, ◌*ℤ◌, ◌≤ℤ◌}
use Rattle.std.proofs.lemmas.Int.{ints}
use Rattle.std.proofs.Common.{arith}
use Rattle.std.proofs.lemmas.List.Elements.{All-replicate}
use Rattle.std.proofs.lemmas.List.Sorted.{IsPermutation-refl}
use Rattle.fr_base.specs.Within.{IsWithin}
use Rattle.fr_midpoint.specs.Midpoint.{discarded, IsMidpoint}
use Rattle.fr_midpoint.specs.Receivers.{place_at, measured_place, IsPlaced, Receiver, Receives, ShareOne}
use Rattle.fr_midpoint.proofs.Agreement.{two_receivers_lem, one_receiver_lem}

-- the positions of the correct nodes, in ticks
abbrev positions : List ℤ
positions = pos 0 ∷ pos 0 ∷ pos 0 ∷ pos 0 ∷ pos 0 ∷ pos 0 ∷ []

-- the receiver that hears one arbitrary node, and the one that hears both; a microtick has 1,000,000 ticks
abbrev hears_one : Receiver
hears_one = record { base = pos 0; unit = pos 1000000; values = positions ++ pos 100 ∷ [] }

abbrev hears_two : Receiver
hears_two = record { base = pos 0; unit = pos 1000000; values = positions ++ pos 100 ∷ negsuc 99 ∷ [] }

placed : IsPlaced (pos 0) (pos 1000000) (pos 0) (pos 0) (pos 0) (pos 0)
placed = record { low = omega (arith, ints); high = omega (arith, ints) }

receives_one : Receives (pos 0) (pos 0) positions hears_one
receives_one = record {
  lasts = omega (arith, ints);
  hears = record {
    said = positions;
    further = pos 100 ∷ [];
    parts = IsPermutation-refl (positions ++ pos 100 ∷ []);
    few = lit≤ tt;
    each = (placed, (placed, (placed, (placed, (placed, (placed, tt))))));
  };
}

receives_two : Receives (pos 0) (pos 0) positions hears_two
receives_two = record {
  lasts = omega (arith, ints);
  hears = record {
    said = positions;
    further = pos 100 ∷ negsuc 99 ∷ [];
    parts = IsPermutation-refl (positions ++ pos 100 ∷ negsuc 99 ∷ []);
    few = lit≤ tt;
    each = (placed, (placed, (placed, (placed, (placed, (placed, tt))))));
  };
}

share_one : ShareOne hears_one hears_two positions
share_one = lit≤ tt

-- both midpoints are 0
middle_of_seven : IsMidpoint hears_one.values (pos 0)
middle_of_seven = record {
  low = pos 0;
  high = pos 0;
  least = record { few_below = lit≤ tt; more_up_to = lit< tt };
  greatest = record { few_above = lit≤ tt; more_from = lit< tt };
  half = refl;
}

middle_of_eight : IsMidpoint hears_two.values (pos 0)
middle_of_eight = record {
  low = pos 0;
  high = pos 0;
  least = record { few_below = lit≤ tt; more_up_to = lit< tt };
  greatest = record { few_above = lit≤ tt; more_from = lit< tt };
  half = refl;
}

-- the left side, and the right side where a microtick may have up to 1,000,200 ticks
sides :
    (pos 2 *ℤ (place_at hears_one (pos 0) -ℤ place_at hears_two (pos 0)) ≡ pos 0)
    × (pos 0 +ℤ (pos 2 *ℤ (pos 0 +ℤ pos 0)) +ℤ (pos 2 *ℤ pos 1000200) ≡ pos 2000400)
sides = (refl, refl)

all_positions : (P : ℤ → Type 0) → P (pos 0) → All P positions
all_positions P here = All-replicate P 6 (pos 0) here

-- the premises of the law are met, and so is its bound
agree : IsWithin (pos 2000400) (pos 0)
agree =
    two_receivers_lem positions (pos 0) (pos 0) (pos 0) (pos 1000200) hears_one hears_two (pos 0) (pos 0)
    (all_positions (λ x. All (λ y. (x -ℤ y) ≤ℤ pos 0) positions) (all_positions (λ y. (pos 0 -ℤ y) ≤ℤ pos 0) (omega (arith, ints))))
    receives_one
    receives_two
    (omega (arith, ints))
    (omega (arith, ints))
    share_one
    middle_of_seven
    middle_of_eight

among : (pos 0 ≤ℤ pos 0) × (pos 0 ≤ℤ pos 0)
among =
    one_receiver_lem positions (pos 0) (pos 0) (pos 0) (pos 0) hears_two (pos 0)
    (all_positions (λ x. pos 0 ≤ℤ x) (omega (arith, ints)))
    (all_positions (λ x. x ≤ℤ pos 0) (omega (arith, ints)))
    receives_two
    middle_of_eight

-- three correct nodes and one arbitrary one, which moves both receivers as far apart as it can: both round toward zero,
-- one of them forward and the other back, and the bound is reached
abbrev line : List ℤ
line = pos 0 ∷ pos 1 ∷ pos 2 ∷ []

abbrev early : Receiver
early = record { base = negsuc 2; unit = pos 1; values = pos 3 ∷ pos 4 ∷ pos 5 ∷ negsuc 8 ∷ [] }

abbrev late : Receiver
late = record { base = pos 3; unit = pos 1; values = negsuc 2 ∷ negsuc 1 ∷ negsuc 0 ∷ pos 9 ∷ [] }

exactly : (base value position : ℤ) → measured_place base (pos 1) value ≡ position → IsPlaced base (pos 1) (pos 0) (pos 0) position value
exactly base value position is = record { low = omega (arith, ints); high = omega (arith, ints) }

receives_early : Receives (pos 0) (pos 0) line early
receives_early = record {
  lasts = omega (arith, ints);
  hears = record {
    said = pos 3 ∷ pos 4 ∷ pos 5 ∷ [];
    further = negsuc 8 ∷ [];
    parts = IsPermutation-refl early.values;
    few = lit≤ tt;
    each = (exactly (negsuc 2) (pos 3) (pos 0) refl, (exactly (negsuc 2) (pos 4) (pos 1) refl, (exactly (negsuc 2) (pos 5) (pos 2) refl, tt)));
  };
}

receives_late : Receives (pos 0) (pos 0) line late
receives_late = record {
  lasts = omega (arith, ints);
  hears = record {
    said = negsuc 2 ∷ negsuc 1 ∷ negsuc 0 ∷ [];
    further = pos 9 ∷ [];
    parts = IsPermutation-refl late.values;
    few = lit≤ tt;
    each = (exactly (pos 3) (negsuc 2) (pos 0) refl, (exactly (pos 3) (negsuc 1) (pos 1) refl, (exactly (pos 3) (negsuc 0) (pos 2) refl, tt)));
  };
}

share_middle : ShareOne early late line
share_middle = lit≤ tt

middle_of_early : IsMidpoint early.values (pos 3)
middle_of_early = record {
  low = pos 3;
  high = pos 4;
  least = record { few_below = lit≤ tt; more_up_to = lit< tt };
  greatest = record { few_above = lit≤ tt; more_from = lit< tt };
  half = refl;
}

middle_of_late : IsMidpoint late.values (negsuc 0)
middle_of_late = record {
  low = negsuc 1;
  high = negsuc 0;
  least = record { few_below = lit≤ tt; more_up_to = lit< tt };
  greatest = record { few_above = lit≤ tt; more_from = lit< tt };
  half = refl;
}

-- twice the distance is the spread of 2 and two units
reached :
    (pos 2 *ℤ (place_at late (negsuc 0) -ℤ place_at early (pos 3)) ≡ pos 4)
    × (pos 2 +ℤ (pos 2 *ℤ (pos 0 +ℤ pos 0)) +ℤ (pos 2 *ℤ pos 1) ≡ pos 4)
reached = (refl, refl)

-- two correct nodes beside an arbitrary one are too few: two lists of three values may keep no correct one in common; and
-- so are five beside two: a list of seven discards one at each end, though two are arbitrary
too_few : (discarded (2 + 1) + discarded (2 + 1) + 1 ≡ 3) × (discarded (5 + 2) ≡ 1)
too_few = (refl, refl)

-- then the bound does not hold: each receiver has the two correct positions, 0 and 10, and one arbitrary value, which
-- leaves the one of them or the other
moved_down : IsMidpoint (pos 0 ∷ pos 10 ∷ negsuc 99 ∷ []) (pos 0)
moved_down = record {
  low = pos 0;
  high = pos 0;
  least = record { few_below = lit≤ tt; more_up_to = lit< tt };
  greatest = record { few_above = lit≤ tt; more_from = lit< tt };
  half = refl;
}

moved_up : IsMidpoint (pos 0 ∷ pos 10 ∷ pos 100 ∷ []) (pos 10)
moved_up = record {
  low = pos 10;
  high = pos 10;
  least = record { few_below = lit≤ tt; more_up_to = lit< tt };
  greatest = record { few_above = lit≤ tt; more_from = lit< tt };
  half = refl;
}

-- twice their distance is above the spread of 10 and two units
passed :
    (pos 2 *ℤ (measured_place (pos 0) (pos 1) (pos 10) -ℤ measured_place (pos 0) (pos 1) (pos 0)) ≡ pos 20)
    × (pos 10 +ℤ (pos 2 *ℤ (pos 0 +ℤ pos 0)) +ℤ (pos 2 *ℤ pos 1) ≡ pos 12)
passed = (refl, refl)
