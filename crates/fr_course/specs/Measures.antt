-- How the nodes of a cluster measure.
use Rattle.std.specs.Prelude.{ℤ, pos}
use Rattle.fr_base.specs.Within.{IsBetween}
use Rattle.fr_course.specs.Ranges.{greatest_damping, IsError, IsMicrotick}

-- the error of an arrival, and how far a rate value may place a sender's action points from their true distance; the shortest and
-- the longest microtick, all in ticks; the damping of rate terms, in microticks
pub record Measuring : Type 0 where
  pub arrival_error : ℤ
  pub rate_error : ℤ
  pub shortest : ℤ
  pub longest : ℤ
  pub damping : ℤ

-- they lie in the ranges of clusters
pub record IsMeasuring (m : Measuring) : Type 0 where
  pub arrival_error : IsError m.arrival_error
  pub rate_error : IsError m.rate_error
  pub shortest : IsMicrotick m.shortest
  pub longest : IsMicrotick m.longest
  pub damping : IsBetween (pos 0) greatest_damping m.damping
