use Rattle.fr_air.proofs.Deciding.{decided-setting}
use Rattle.fr_coverage.specs.Decided.{setting_of}
use Rattle.fr_world.proofs.laws.files_decide_one_run.Goals as goal

pub returns-clause-setting : goal.returns-clause-setting
returns-clause-setting c p d s sane script = decided-setting p d s sane script c.events_are_proper.ensures

pub returns-clause-lawful : goal.returns-clause-lawful
returns-clause-lawful c p d s n sane script =
    c.one_lawful_run.ensures.lawful (setting_of p d s) n (decided-setting p d s sane script c.events_are_proper.ensures)

pub returns-clause-only : goal.returns-clause-only
returns-clause-only c p d s = c.one_lawful_run.ensures.only (setting_of p d s)
