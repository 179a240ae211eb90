use Rattle.fr_precision.proofs.OffsetLaws.{offset_terms_are_uncut, own_value_is_deviation, third_check_suffices}
use Rattle.fr_precision.proofs.offsets.offsets_stay_in_limit.Goals as goal

pub returns-clause-uncut : goal.returns-clause-uncut
returns-clause-uncut c = offset_terms_are_uncut

pub returns-clause-check : goal.returns-clause-check
returns-clause-check c = third_check_suffices

pub returns-clause-own : goal.returns-clause-own
returns-clause-own c = own_value_is_deviation
