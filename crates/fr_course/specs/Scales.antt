-- The numbers of a cluster as readings of an observer's clock.
use Rattle.std.specs.Prelude.{◌≤◌, ℕ, ℤ, pos, ◌≤ℤ◌}
use Rattle.fr_base.specs.Within.{IsWithin}
use Rattle.fr_course.specs.Ranges.{greatest_cycle_reading, IsMicroReading}

-- the drift of the observer's clock; the macroticks of a cycle, and the one at which the offset correction starts; the least and
-- the greatest length of a cycle before that correction, and by how much it changes; the shortest and the longest microtick
pub record Scale : Type 0 where
  pub drift : ℕ
  pub macros : ℤ
  pub correction : ℤ
  pub length_from : ℤ
  pub length_to : ℤ
  pub change : ℤ
  pub micro_from : ℤ
  pub micro_to : ℤ

-- they lie in the ranges of clusters
pub record IsReadingScale (scale : Scale) : Type 0 where
  pub drift : scale.drift ≤ 1000
  pub macros_from : pos 1 ≤ℤ scale.macros
  pub macros_to : scale.macros ≤ℤ pos 16_000
  pub correction_from : pos 0 ≤ℤ scale.correction
  pub correction_to : scale.correction ≤ℤ scale.macros
  pub length_from : IsWithin greatest_cycle_reading scale.length_from
  pub length_to : IsWithin greatest_cycle_reading scale.length_to
  pub change : IsWithin greatest_cycle_reading scale.change
  pub micro_from : IsMicroReading scale.micro_from
  pub micro_to : IsMicroReading scale.micro_to
