use Rattle.std.proofs.Common.{◌≡◌, ◌*◌, ◌<◌, length, refl, rules}
use Rattle.fr_cluster.specs.Values.{amount}
use Rattle.fr_cluster.specs.declared.names.ParamName.TheVariants as name
use Rattle.fr_coverage.specs.Decided.{setting_of}
use Rattle.fr_drift.specs.Questions.{doubles_of}
use Rattle.fr_history.specs.Cycles.{Cycles}
use Rattle.fr_history.specs.Lawful.{IsLawful}
use Rattle.fr_history.specs.Next.{cycles_of}
use Rattle.fr_series.proofs.SeriesFigures.{figures_are}
use Rattle.fr_series.proofs.laws.a_series_is_lawful.Goals as goal

pub returns : goal.returns
returns c = λ p d s sane fits script proper.
    let h : Cycles = cycles_of (setting_of p d s) (2 * doubles_of d) in
    let lawful : IsLawful (setting_of p d s) h = c.files_decide_one_run.ensures.lawful p d s (2 * doubles_of d) sane proper in
    let some : 0 < amount p name.gMacroPerCycle = search rules in
    let whole : length h ≡ 2 * doubles_of d = c.one_lawful_run.ensures.long (setting_of p d s) (2 * doubles_of d) in record {
      cycles = h;
      lawful = lawful;
      whole = whole;
      shown = refl;
      stays = λ none double sync. c.a_covered_run_stays_in_sync.ensures p d s h double sane fits script none lawful whole sync;
      figures =
          figures_are p h (doubles_of d) some whole (c.one_first_unfollowed_sync.ensures.found p h)
          (c.one_first_unfollowed_sync.ensures.none p h);
    }
