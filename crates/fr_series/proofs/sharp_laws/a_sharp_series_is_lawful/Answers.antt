use Rattle.std.proofs.Common.{◌≡◌, ℕ, ◌*◌, ◌/◌, ◌<◌, ◌≤◌, Bool, Option, Some, None, length, refl, arith, rules}
use Rattle.std.specs.Prelude.{IfSome, unwrap_or}
use Rattle.fr_cluster.specs.Values.{Values, amount}
use Rattle.fr_cluster.specs.declared.names.ParamName.TheVariants as name
use Rattle.fr_coverage.specs.Decided.{setting_of}
use Rattle.fr_coverage.specs.Flutter.{flutter_from}
use Rattle.fr_drift.specs.Questions.{doubles_of}
use Rattle.fr_history.specs.Cycles.{Cycles}
use Rattle.fr_history.specs.Lawful.{IsLawful}
use Rattle.fr_history.specs.Next.{cycles_of}
use Rattle.fr_sharp.specs.SharpStatement.{has_arbitrary}
use Rattle.fr_promise.specs.SharpTested.{first_sharp_sync_by}
use Rattle.fr_promise.proofs.FreeLemmas.{first_sharp_sync_by_is, sharp_sync_within}
use Rattle.fr_series.specs.Basis.{asked_from, first_sharp_of}
use Rattle.fr_sharp.specs.SharpCovered.{first_sharp_gap}
use Rattle.fr_series.proofs.SharpFound.{sharp_figures_are, sharp_gap_found}
use Rattle.fr_series.proofs.sharp_laws.a_sharp_series_is_lawful.Goals as goal

-- from which double cycle on all is asked is one of the run
asked_within : (doubles : ℕ) (h : Cycles) (first : Option ℕ) → 1 ≤ doubles → length h ≡ 2 * doubles → IfSome first (λ k. k < length h / 2) → unwrap_or first 0 < doubles
asked_within doubles h None some whole within = some
asked_within doubles h (Some k) some whole within = omega (arith, some, whole, within)

first_within : (beside : Bool) (p : Values) (flutter : ℕ → ℕ) (h : Cycles) (first : Option ℕ) → first_sharp_sync_by beside p flutter h ≡ first → IfSome first (λ k. k < length h / 2)
first_within beside p flutter h None is = tt
first_within beside p flutter h (Some k) is = sharp_sync_within beside p (flutter k) h k (first_sharp_sync_by_is beside p flutter h k is).unfollowed

pub returns : goal.returns
returns c = λ p d s sane fits proper.
    let h : Cycles = cycles_of (setting_of p d s) (2 * doubles_of d) in
    let lawful : IsLawful (setting_of p d s) h = c.files_decide_one_run.ensures.lawful p d s (2 * doubles_of d) sane proper in
    let whole : length h ≡ 2 * doubles_of d = c.one_lawful_run.ensures.long (setting_of p d s) (2 * doubles_of d) in
    let beside : Bool = has_arbitrary p s in
    let from : ℕ = asked_from p d s h in
    let flutter : ℕ = flutter_from p d s from in
    let some : 0 < amount p name.gMacroPerCycle = search rules in
    record {
      cycles = h;
      lawful = lawful;
      whole = whole;
      shown = refl;
      covered = λ n. c.a_gap_is_told.ensures p d s n sane;
      keeps = λ first at covered. c.a_covered_run_stays_in_sharp_sync.ensures p d s h first sane fits covered lawful whole at;
      figures = record {
        flutter = c.flutter_is_the_greatest.ensures.greatest p d s from;
        fluttering = c.flutter_is_told.ensures.told p d s from sane;
        gap = sharp_gap_found p d s from flutter (c.found_gap_from_is_first.ensures.found p d s from sane) (omega arith) (first_sharp_gap p d s from flutter) refl;
        sharp =
            sharp_figures_are p d s h some (c.one_first_sharp_sync.ensures.found beside p (flutter_from p d s) h)
            (c.one_first_sharp_sync.ensures.none beside p (flutter_from p d s) h);
        losses = λ some.
            let within : from < doubles_of d = asked_within (doubles_of d) h (first_sharp_of p d s h) some whole (first_within beside p (flutter_from p d s) h (first_sharp_of p d s h) refl) in
            record {
              lost = c.losses_are_told.ensures.figures p d s from flutter within;
              through = c.losses_are_told.ensures.covered p d s from flutter sane within (omega arith);
              keeps = λ none covered double passed low sync.
                  c.losses_are_told.ensures.keeps p d s from flutter h double passed sane (covered.alone none) (record { lawful = lawful; whole = whole }) low sync;
              joined = λ some covered double.
                  c.losses_are_told.ensures.joined p d s from flutter h double sane (fits some).0 (fits some).1 some (covered.joined some) (record { lawful = lawful; whole = whole });
            };
      };
    }
