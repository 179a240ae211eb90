use Rattle.fr_course.proofs.ValueLaws.{values_are_counted_lem}
use Rattle.fr_course.proofs.laws.values_are_counted.Goals as goal

pub returns : goal.returns
returns c = values_are_counted_lem
