-- Where others begin and end, at the least and at the greatest: what tells how far a point can lie from any of them.
use Rattle.std.specs.Prelude.{neg_ℤ, List, [], ◌∷◌}
use Rattle.std.specs.Int.{int_max, int_min}
use Rattle.fr_course.specs.Ranges.{greatest_corner}
use Rattle.fr_course.specs.Readings.{meet, Interval}

-- from where the one begins that begins first to where the one ends that ends last
abbrev pub join : Interval → Interval → Interval
join one other = record { low = int_min one.low other.low; high = int_max one.high other.high }

-- what lies in all of some; of none, from one bound of corners to the other
unfoldable pub common : List Interval → Interval
common [] = record { low = neg_ℤ greatest_corner; high = greatest_corner }
common (point ∷ others) = meet (common others) point

-- from where the first of some begins to where the last ends; of none, from the bound above to the one below, so that it
-- tells nothing of a point between
unfoldable pub around : List Interval → Interval
around [] = record { low = greatest_corner; high = neg_ℤ greatest_corner }
around (point ∷ others) = join (around others) point
