-- The worked row, computed.
use Rattle.std.proofs.Common.{refl}
use Rattle.fr_course.specs.Spread.{least_from, least_spread, most_from, most_spread}
use Rattle.fr_seen.specs.WorkedStamps.{WorkedRow}

pub worked_row_lem : WorkedRow
unfolding least_from most_from least_spread most_spread
worked_row_lem = record {
  first_of_one = refl;
  first_of_two = refl;
  next_of_one = refl;
  next_of_two = refl;
  start_of_one = refl;
  skew_of_0 = refl;
  skew_of_1 = refl;
  skew_of_2 = refl;
  skew_of_3 = refl;
  offset_of_one = refl;
  offset_of_two = refl;
  step_of_one = refl;
}
