use Rattle.std.proofs.Common.{◌≡◌, pos, drop, map}
use Rattle.fr_base.specs.Within.{IsBetween}
use Rattle.fr_course.specs.Corners.{corner_place}
use Rattle.fr_course.specs.Extremes.{common}
use Rattle.fr_course.specs.Near.{EndWithin}
use Rattle.fr_course.specs.Spread.{least_at}
use Rattle.fr_course.proofs.skews.least_at.Given as goal

-- what is found of the courses behind this place
abbrev pub invariant-loop-place : goal.invariant-loop-place
invariant-loop-place l = record {
  within : IsBetween (pos 0) (pos 6_000_000_000_000_000_000) l.least;
  value : l.least ≡ least_at l.scale (corner_place l.corner) (drop l.place l.courses);
  near : EndWithin (pos 3_000_000_000_000_000_000) l.behind;
  ends : l.behind ≡ common (map (corner_place l.corner l.scale) (drop l.place l.courses));
}
