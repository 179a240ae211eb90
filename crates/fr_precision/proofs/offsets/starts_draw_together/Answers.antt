use Rattle.fr_precision.proofs.OffsetLaws.{corrected_end_lies_among, ends_draw_together, ends_stay_together}
use Rattle.fr_precision.proofs.offsets.starts_draw_together.Goals as goal

pub returns-clause-among : goal.returns-clause-among
returns-clause-among c = corrected_end_lies_among

pub returns-clause-together : goal.returns-clause-together
returns-clause-together c = ends_draw_together

pub returns-clause-fixed : goal.returns-clause-fixed
returns-clause-fixed c = ends_stay_together
