use Rattle.fr_precision.proofs.Arriving.{frames_are_steady}
use Rattle.fr_precision.proofs.SteadyLemmas.{counted_are_steady, delays_flutter_little, deviations_are_steady}
use Rattle.fr_precision.proofs.steady.pairs_are_steady.Goals as goal

pub returns-clause-counted : goal.returns-clause-counted
returns-clause-counted c = counted_are_steady

pub returns-clause-recorded : goal.returns-clause-recorded
returns-clause-recorded c = deviations_are_steady

pub returns-clause-frames : goal.returns-clause-frames
returns-clause-frames c = frames_are_steady

pub returns-clause-flutter : goal.returns-clause-flutter
returns-clause-flutter c = delays_flutter_little
