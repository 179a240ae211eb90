use Rattle.fr_precision.proofs.LengthLemmas.{lengths_come_near_lem, next_length_is_near}
use Rattle.fr_precision.proofs.lengths.lengths_come_near.Goals as goal

pub returns-clause-two : goal.returns-clause-two
returns-clause-two c = lengths_come_near_lem

pub returns-clause-one : goal.returns-clause-one
returns-clause-one c = next_length_is_near
