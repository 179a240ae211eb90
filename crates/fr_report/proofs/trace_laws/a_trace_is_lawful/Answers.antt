use Rattle.std.proofs.Common.{◌*◌, refl}
use Rattle.fr_coverage.specs.Decided.{setting_of}
use Rattle.fr_drift.specs.Questions.{doubles_of}
use Rattle.fr_history.specs.Next.{cycles_of}
use Rattle.fr_report.proofs.trace_laws.a_trace_is_lawful.Goals as goal

pub returns : goal.returns
returns c = λ p d s sane fits proper. record {
  cycles = cycles_of (setting_of p d s) (2 * doubles_of d);
  lawful = c.files_decide_one_run.ensures.lawful p d s (2 * doubles_of d) sane proper;
  whole = c.one_lawful_run.ensures.long (setting_of p d s) (2 * doubles_of d);
  shown = refl;
}
