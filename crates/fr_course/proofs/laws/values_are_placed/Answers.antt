use Rattle.fr_course.proofs.ValueLaws.{values_are_placed_lem}
use Rattle.fr_course.proofs.laws.values_are_placed.Goals as goal

pub returns : goal.returns
returns c = values_are_placed_lem
