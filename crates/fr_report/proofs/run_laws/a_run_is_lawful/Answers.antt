use Rattle.std.proofs.Common.{◌*◌, ◌<◌, refl, rules}
use Rattle.fr_cluster.specs.Values.{amount}
use Rattle.fr_cluster.specs.declared.names.ParamName.TheVariants as name
use Rattle.fr_coverage.specs.Coverage.{first_gap}
use Rattle.fr_coverage.specs.Decided.{setting_of}
use Rattle.fr_drift.specs.Questions.{doubles_of}
use Rattle.fr_history.specs.Skew.{greatest_skew_of}
use Rattle.fr_history.specs.Cycles.{Cycles, told_of}
use Rattle.fr_history.specs.Next.{cycles_of}
use Rattle.fr_history.specs.Unfollowed.{first_unfollowed_sync_of}
use Rattle.fr_promise.specs.Statement.{IsRunOf}
use Rattle.fr_report.proofs.ReportFigures.{gap_found, skew_found, sync_found}
use Rattle.fr_report.proofs.run_laws.a_run_is_lawful.Goals as goal

pub returns-clause-text : goal.returns-clause-text
returns-clause-text c = λ p d s sane fits script proper.
    let h : Cycles = cycles_of (setting_of p d s) (2 * doubles_of d) in
    let run : IsRunOf (setting_of p d s) h = record {
      lawful = c.files_decide_one_run.ensures.lawful p d s (2 * doubles_of d) sane proper;
      whole = c.one_lawful_run.ensures.long (setting_of p d s) (2 * doubles_of d);
    } in
    let some : 0 < amount p name.gMacroPerCycle = search rules in record {
      cycles = h;
      run = run;
      shown = refl;
      keeps = λ none double first. c.files_keep_precision.ensures p d s h double sane fits script none run first.unfollowed;
      figures = record {
        gap = gap_found p d s (first_gap p d s) refl (c.found_gap_is_first.ensures p d s sane) (c.covered_run_has_no_gap.ensures p d s sane);
        synced = sync_found p h (first_unfollowed_sync_of p h) refl (c.one_first_unfollowed_sync.ensures.found p h) (c.one_first_unfollowed_sync.ensures.none p h);
        greatest = skew_found p (told_of h) (greatest_skew_of p (told_of h)) refl (c.one_greatest_skew.ensures.found p (told_of h)) (c.one_greatest_skew.ensures.none p (told_of h) some);
      };
    }

pub returns-clause-precise : goal.returns-clause-precise
returns-clause-precise c = λ p d s sane fits script proper none double first.
    let h : Cycles = cycles_of (setting_of p d s) (2 * doubles_of d) in
    let run : IsRunOf (setting_of p d s) h = record {
      lawful = c.files_decide_one_run.ensures.lawful p d s (2 * doubles_of d) sane proper;
      whole = c.one_lawful_run.ensures.long (setting_of p d s) (2 * doubles_of d);
    } in
    c.files_keep_precision.ensures p d s h double sane fits script none run first.unfollowed
