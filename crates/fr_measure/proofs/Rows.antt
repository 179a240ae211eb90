-- The values of both maps, computed on worked rows.
use Rattle.std.specs.Prelude.{◌≡◌, true, false, pos, negsuc, Some, None, [], ◌∷◌, refl}
use Rattle.fr_base.specs.declared.Channel.TheVariants.{A, B}
use Rattle.fr_measure.specs.Readings.{no_readings, reading, stored}
use Rattle.fr_measure.specs.Values.{values_of, offset_at, rate_at}

-- of 5 on channel A and -7 on channel B the offset value is -7
least : values_of (offset_at (reading (stored (stored no_readings 3 true A (pos 5)) 3 true B (negsuc 6))) None) ≡ negsuc 6 ∷ []
unfolding values_of
least = refl

-- changes by 3 and by -4 come to 0, half of -1 toward zero
mean :
    values_of
    (
    rate_at
    (
    reading
    (
    stored
    (stored (stored (stored no_readings 3 false A (pos 1)) 3 true A (pos 4)) 3 false B (pos 2))
    3
    true
    B
    (negsuc 1)
    )
    )
    None
    )
    ≡ pos 0 ∷ []
unfolding values_of
mean = refl

-- an even deviation on channel A and an odd one on channel B give no rate value
no_pair : values_of (rate_at (reading (stored (stored no_readings 3 false A (pos 1)) 3 true B (pos 4))) None) ≡ []
unfolding values_of
no_pair = refl

-- in ascending order of key index, with 0 at the node's own
in_order :
    values_of (offset_at (reading (stored (stored no_readings 14 true A (pos 9)) 0 true B (pos 8))) (Some 5))
    ≡ pos 8 ∷ pos 0 ∷ pos 9 ∷ []
unfolding values_of
in_order = refl
