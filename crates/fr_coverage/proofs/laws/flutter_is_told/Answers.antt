use Rattle.fr_coverage.proofs.Flutters.{flutter_falls}
use Rattle.fr_coverage.proofs.Placed.{tells_fluttering}
use Rattle.fr_coverage.proofs.laws.flutter_is_told.Goals as goal

pub returns-clause-told : goal.returns-clause-told
returns-clause-told c = λ p d s from sane. tells_fluttering p d s from sane.lists.nodes_ascend

pub returns-clause-falls : goal.returns-clause-falls
returns-clause-falls c = flutter_falls
