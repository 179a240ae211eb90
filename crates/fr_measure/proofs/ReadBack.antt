-- What the code puts into a place is the number.
use Rattle.std.proofs.Common.{◌≡◌, pos, ℤ, Some, to_z, of_z, w32, arith}
use Rattle.std.specs.Option.{ForSome}
use Rattle.std.proofs.lemmas.Int.{ints}
use Rattle.fr_base.specs.Within.{IsWithin}

pub ForSome-read :
    (value : ℤ) → IsWithin (pos 1000000) value → ForSome (Some (to_z w32 (of_z w32 value))) (IsWithin (pos 1000000))
ForSome-read value within x is =
    let back : to_z w32 (of_z w32 value) ≡ value = omega (arith, ints) in
    let same : value ≡ x = cc in
    record { low = omega (arith, ints); high = omega (arith, ints) }
