-- Two receivers that have values of some senders each: their midpoints lie no further apart than any two of these values do.
use Rattle.std.proofs.Common.{ℤ, List, get_or, arith}
use Rattle.std.specs.Prelude.{◌+ℤ◌, ◌-ℤ◌}
use Rattle.std.proofs.lemmas.Int.{ints}
use Rattle.fr_base.specs.Within.{IsBetween, IsWithin}
use Rattle.fr_midpoint.specs.Midpoint.{IsMidpoint}
use Rattle.fr_midpoint.specs.Receivers.{place_at, Receiver}
use Rattle.fr_midpoint.specs.Said.{lies_after, AllLieNear, KeepsSaid}
use Rattle.fr_midpoint.proofs.SaidLemmas.{one_between_lem}

around : (bound x y : ℤ) → IsWithin bound (x -ℤ y) → IsBetween (y -ℤ bound) (y +ℤ bound) x
around bound x y near = record { low = omega (arith, ints, near.low); high = omega (arith, ints, near.high) }

about : (bound x y : ℤ) → IsBetween (y -ℤ bound) (y +ℤ bound) x → IsBetween (x -ℤ bound) (x +ℤ bound) y
about bound x y between = record { low = omega (arith, ints, between.high); high = omega (arith, ints, between.low) }

back : (bound x y : ℤ) → IsBetween (x -ℤ bound) (x +ℤ bound) y → IsWithin bound (x -ℤ y)
back bound x y between = record { low = omega (arith, ints, between.high); high = omega (arith, ints, between.low) }

pub two_among : (said other_said : List ℤ) (cross : ℤ) (one other : Receiver) (mid other_mid : ℤ)
    → KeepsSaid said one → KeepsSaid other_said other → AllLieNear one other cross said other_said
    → IsMidpoint one.values mid → IsMidpoint other.values other_mid
    → IsWithin cross (lies_after one other mid other_mid)
two_among said other_said cross one other mid other_mid keeps also_keeps all is also =
    back cross (place_at one mid) (place_at other other_mid)
    (
    one_between_lem other_said (place_at one mid -ℤ cross) (place_at one mid +ℤ cross) other other_mid also_keeps
    (λ j e within.
    about cross (place_at one mid) (place_at other (get_or other_said j e))
    (
    one_between_lem said (place_at other (get_or other_said j e) -ℤ cross) (place_at other (get_or other_said j e) +ℤ cross) one mid keeps
    (λ i d short. around cross (place_at one (get_or said i d)) (place_at other (get_or other_said j e)) (all i d short j e within))
    is
    ))
    also
    )
