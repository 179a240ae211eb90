-- The ends of intervals, by their names and in their order.
use Rattle.std.specs.Prelude.{ℤ, List, IsPermutation, IsSorted}
use Rattle.std.specs.Ordering.{int_cmp}
use Rattle.fr_course.specs.Readings.{Interval}
use Rattle.fr_course.specs.declared.middles.End.{End}
use Rattle.fr_course.specs.declared.middles.End.TheVariants as end

-- an end of an interval
abbrev pub interval_end : End → Interval → ℤ
interval_end end.Low interval = interval.low
interval_end end.High interval = interval.high

-- some numbers are others in ascending order
pub record AreRanked (values ranked : List ℤ) : Type 0 where
  pub same : IsPermutation values ranked
  pub ascend : IsSorted int_cmp ranked
