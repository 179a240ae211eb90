use Rattle.fr_coverage.proofs.Flutters.{flutter_gaps_are_found, flutter_is_greatest, has_one_flutter}
use Rattle.fr_coverage.proofs.laws.flutter_is_the_greatest.Goals as goal

pub returns-clause-greatest : goal.returns-clause-greatest
returns-clause-greatest c = flutter_is_greatest

pub returns-clause-one : goal.returns-clause-one
returns-clause-one c = has_one_flutter

pub returns-clause-gap : goal.returns-clause-gap
returns-clause-gap c = flutter_gaps_are_found
