-- What the code reads back from a place is the number.
use Rattle.std.proofs.Common.{◌≡◌, pos, ℤ, List, length, get_or, All, ℕ, ◌+◌, ◌-◌, ◌*◌, ◌≤◌, ap₂, ◌∙◌, to_z, of_z, w32, arith}
use Rattle.std.proofs.lemmas.Int.{ints}
use Rattle.std.specs.Prelude.{IsSorted, IsPermutation}
use Rattle.std.specs.Ordering.{int_cmp}
use Rattle.fr_base.specs.Within.{IsWithin}
use Rattle.fr_midpoint.specs.Midpoint.{discarded, half_of_sum, IsMidpoint}
use Rattle.fr_midpoint.proofs.MidpointLemmas.{IsMidpoint-ascending}

pub to_z-of_z-within : (value : ℤ) → IsWithin (pos 2000000) value → to_z w32 (of_z w32 value) ≡ value
to_z-of_z-within value within = omega (arith, ints)

pub IsWithin-read : (value : ℤ) → IsWithin (pos 2000000) value → IsWithin (pos 2000000) (to_z w32 (of_z w32 value))
IsWithin-read value within = rw (to_z-of_z-within value within) within

-- the midpoint of a list, by what the code reads in the ascending one
pub IsMidpoint-read :
    (xs ys : List ℤ) (k : ℕ) (mid : ℤ)
    → IsPermutation xs ys → IsSorted int_cmp ys → All (IsWithin (pos 2000000)) ys → k ≡ discarded (length ys)
    → 2 * k + 1 ≤ length ys → IsWithin (pos 2000000) mid
    → mid ≡ half_of_sum
    (to_z w32 (of_z w32 (get_or ys k (pos 0))))
    (to_z w32 (of_z w32 (get_or ys (length ys - 1 - k) (pos 0))))
    → IsMidpoint xs (to_z w32 (of_z w32 mid))
IsMidpoint-read xs ys k mid moved up all is some within half =
    rw
    (to_z-of_z-within mid within)
    (
    IsMidpoint-ascending
    xs
    ys
    k
    mid
    moved
    up
    is
    some
    (
    half
    ∙ ap₂
    half_of_sum
    (to_z-of_z-within (get_or ys k (pos 0)) (all k (pos 0) (omega arith)))
    (
    to_z-of_z-within
    (get_or ys (length ys - 1 - k) (pos 0))
    (all (length ys - 1 - k) (pos 0) (omega arith))
    )
    )
    )
