-- Middles, computed on worked rows.
use Rattle.std.proofs.Common.{◌≡◌, pos, negsuc, None, Some, List, [], ◌∷◌, refl}
use Rattle.fr_course.specs.Readings.{Interval}
use Rattle.fr_course.specs.Middles.{middle, middle_missing}

-- three values: 0, one from -2 to 0, one from 3 to 4
abbrev three : List Interval
three = record { low = pos 0; high = pos 0 } ∷ record { low = negsuc 1; high = pos 0 } ∷ record { low = pos 3; high = pos 4 } ∷ []

-- of them alone it is 0
alone : middle 0 0 three ≡ Some (record { low = pos 0; high = pos 0 })
unfolding middle middle_missing
alone = refl

-- a fourth value below all gives half of -2 and 0, one above all half of 0 and 4
with_one : middle 1 0 three ≡ Some (record { low = negsuc 0; high = pos 2 })
unfolding middle middle_missing
with_one = refl

-- of two further ones one may be left, of any size
with_two : middle 2 0 three ≡ None
unfolding middle middle_missing
with_two = refl

-- without the last it is half of -2 and 0 at least, without the second half of 0 and 4 at most
without_one : middle 0 1 three ≡ Some (record { low = negsuc 0; high = pos 2 })
unfolding middle middle_missing
without_one = refl

-- of one alone it is that one
without_two : middle 0 2 three ≡ Some (record { low = negsuc 1; high = pos 4 })
unfolding middle middle_missing
without_two = refl

-- they are not all missed
without_three : middle 0 3 three ≡ middle 0 2 three
unfolding middle middle_missing
without_three = refl

-- a further value in the place of a missed one gives no less than the least and no more than the greatest of them
without_one_with_one : middle 1 1 three ≡ Some (record { low = negsuc 1; high = pos 4 })
unfolding middle middle_missing
without_one_with_one = refl

-- where two are missed, a further value may be left, of any size
without_two_with_one : middle 1 2 three ≡ None
unfolding middle middle_missing
without_two_with_one = refl
