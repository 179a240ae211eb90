use Rattle.fr_precision.proofs.DeviationLaws.{counted_is_deviation, recorded_is_deviation}
use Rattle.fr_precision.proofs.deviations.deviations_are_gaps.Goals as goal

pub returns-clause-counted : goal.returns-clause-counted
returns-clause-counted c = counted_is_deviation

pub returns-clause-recorded : goal.returns-clause-recorded
returns-clause-recorded c = recorded_is_deviation
