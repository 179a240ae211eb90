-- What the figures of a sharper series mean, from the laws of those that compute them.
use Rattle.std.proofs.Common.{◌≡◌, ◌∙◌, ◌⊎◌, inl, inr, ℕ, ◌<◌, ◌≤◌, Bool, true, false, Option, Some, None, length, refl, ap, sym, arith}
use Rattle.std.proofs.lemmas.List.{length-map}
use Rattle.std.specs.Option.{option_or}
use Rattle.fr_cluster.specs.Values.{Values, amount}
use Rattle.fr_cluster.specs.declared.names.ParamName.TheVariants as name
use Rattle.fr_coverage.specs.Coverage.{gap_from, some_join}
use Rattle.fr_coverage.specs.Flutter.{flutter_from}
use Rattle.fr_coverage.specs.Order.{FindsGapFrom}
use Rattle.fr_coverage.specs.declared.gap.Gap.{Gap}
use Rattle.fr_drift.specs.View.{DriftView}
use Rattle.fr_script.specs.View.{ScriptView}
use Rattle.fr_history.specs.Cycles.{Cycle, Cycles, told_of}
use Rattle.fr_bound.specs.SharpBounds.{sharp_near}
use Rattle.fr_bound.specs.SharpChecks.{SharpChecksHold}
use Rattle.fr_sharp.specs.SharpStatement.{has_arbitrary}
use Rattle.fr_promise.specs.SharpTested.{IsFirstSharpSyncBy, IsUnfollowedSharpSyncAt, first_sharp_sync_by}
use Rattle.fr_promise.proofs.FreeLemmas.{sharp_sync_within}
use Rattle.fr_series.specs.Basis.{asked_from, first_sharp_of, scale_from, sharp_figures_of}
use Rattle.fr_sharp.specs.SharpCovered.{failed_sharp, failed_sharp_join, first_sharp_gap, sharp_checks_gap, sharp_gap_to_join, sharp_join_checks_gap}
use Rattle.fr_series.specs.SharpMeaning.{AreSharpFiguresOf, IsFirstSharpGap, IsSharpCheckGap, IsSharpGapFound, IsSharpJoinGap, IsSharpSyncFound}
use Rattle.fr_sharp.proofs.CheckGaps.{found_failing}
use Rattle.fr_sharp.proofs.SharpCovering.{asked-hold, covered_from, holds_at, join_holds_at, sharp_checks-hold}
use Rattle.fr_series.proofs.SharpPlaces.{above_since_is, greatest_since_is}

-- ---- the first failing check

failing_check : (p : Values) (d : DriftView) (s : ScriptView) (flutter : ℕ) (gap : Gap) → sharp_checks_gap (has_arbitrary p s) p flutter ≡ Some gap → IsSharpCheckGap p d s flutter gap
failing_check p d s flutter gap is =
    let beside : Bool = has_arbitrary p s in
    let found = found_failing 2 (holds_at beside p flutter) (failed_sharp beside p flutter) 4 gap (omega arith) is in
    let f = found.1.0 in
    record {
      number = found.0;
      failing = record { from = f.from; to = (let most = f.to in omega (arith, most)); fails = f.fails; earlier = f.earlier };
      told = found.1.1;
    }

-- one of nodes that join, where one does
failing_join : (p : Values) (d : DriftView) (s : ScriptView) (flutter : ℕ) (gap : Gap) → SharpChecksHold flutter (sharp_near (has_arbitrary p s) p flutter) p
    → sharp_gap_to_join (some_join p s) (has_arbitrary p s) p flutter ≡ Some gap → IsSharpJoinGap p d s flutter gap
failing_join p d s flutter gap checks is = by (some_join p s) refl
  where
    by : (joins : Bool) → some_join p s ≡ joins → IsSharpJoinGap p d s flutter gap
    by true joins =
        let beside : Bool = has_arbitrary p s in
        let asked : sharp_join_checks_gap beside p flutter ≡ Some gap = sym (ap (λ (b : Bool). sharp_gap_to_join b beside p flutter) joins) ∙ is in
        let found = found_failing 6 (join_holds_at beside p flutter) (failed_sharp_join beside p flutter) 4 gap (omega arith) asked in
        let f = found.1.0 in
        record {
          checks = checks;
          joins = joins;
          number = found.0;
          failing = record { from = f.from; to = (let most = f.to in omega (arith, most)); fails = f.fails; earlier = f.earlier };
          told = found.1.1;
        }
    by false joins =
        let none : None ≡ Some gap = sym (ap (λ (b : Bool). sharp_gap_to_join b (has_arbitrary p s) p flutter) joins) ∙ is in
        absurd (cc)

-- ---- the first gap

-- what is found is one of the checks, or where none fails one of those of nodes that join, or where none of these fails one of the
-- run
gap_cases : (checks asked run : Option Gap) (gap : Gap) → option_or checks (option_or asked run) ≡ Some gap
    → (checks ≡ Some gap) ⊎ ((checks ≡ None) × (asked ≡ Some gap)) ⊎ ((checks ≡ None) × (asked ≡ None) × (run ≡ Some gap))
gap_cases None None run gap is = inr (inr (refl, refl, is))
gap_cases None (Some g) run gap is = inr (inl (refl, is))
gap_cases (Some g) asked run gap is = inl is

first_gap_is : (p : Values) (d : DriftView) (s : ScriptView) (from flutter : ℕ) → FindsGapFrom p d s from → (gap : Gap) → first_sharp_gap p d s from flutter ≡ Some gap → IsFirstSharpGap p d s from flutter gap
first_gap_is p d s from flutter finds gap is =
    elim (gap_cases (sharp_checks_gap (has_arbitrary p s) p flutter) (sharp_gap_to_join (some_join p s) (has_arbitrary p s) p flutter) (gap_from p d s from) gap is) [
      | inl check ↦ inl (failing_check p d s flutter gap check)
      | inr later ↦
          elim later [
            | inl asked ↦ inr (inl (failing_join p d s flutter gap (sharp_checks-hold (has_arbitrary p s) p flutter asked.0) asked.1))
            | inr run ↦ inr (inr (record { checks = sharp_checks-hold (has_arbitrary p s) p flutter run.0; to_join = asked-hold p s flutter run.1; first = finds.first gap run.2 }))
          ]
    ]

pub sharp_gap_found : (p : Values) (d : DriftView) (s : ScriptView) (from flutter : ℕ) → FindsGapFrom p d s from → flutter_from p d s from ≤ flutter → (found : Option Gap) → first_sharp_gap p d s from flutter ≡ found
    → IsSharpGapFound p d s from flutter found
sharp_gap_found p d s from flutter finds most None is = covered_from p d s from flutter finds most is
sharp_gap_found p d s from flutter finds most (Some gap) is = first_gap_is p d s from flutter finds gap is

-- ---- sharp sync

sharp_sync_found : (beside : Bool) (p : Values) (flutter : ℕ → ℕ) (h : Cycles) (found : Option ℕ) → first_sharp_sync_by beside p flutter h ≡ found
    → ((double : ℕ) → first_sharp_sync_by beside p flutter h ≡ Some double → IsFirstSharpSyncBy beside p flutter h double)
    → (first_sharp_sync_by beside p flutter h ≡ None → (double : ℕ) → IsUnfollowedSharpSyncAt beside p (flutter double) h double → ⊥) → IsSharpSyncFound beside p flutter h found
sharp_sync_found beside p flutter h None is one none = none is
sharp_sync_found beside p flutter h (Some double) is one none = one double is

pub sharp_figures_are : (p : Values) (d : DriftView) (s : ScriptView) (h : Cycles) → 0 < amount p name.gMacroPerCycle
    → ((double : ℕ) → first_sharp_of p d s h ≡ Some double → IsFirstSharpSyncBy (has_arbitrary p s) p (flutter_from p d s) h double)
    → (first_sharp_of p d s h ≡ None → (double : ℕ) → IsUnfollowedSharpSyncAt (has_arbitrary p s) p (flutter_from p d s double) h double → ⊥)
    → AreSharpFiguresOf p d s h (sharp_figures_of p d s h)
sharp_figures_are p d s h some one none =
    let beside : Bool = has_arbitrary p s in
    let first : Option ℕ = first_sharp_of p d s h in
    let long : length (told_of h) ≡ length h = length-map h (λ (c : Cycle). c.told) in
    record {
      synced = sharp_sync_found beside p (flutter_from p d s) h first refl one none;
      greatest =
          greatest_since_is p (told_of h) first some
          (λ double is. let within = sharp_sync_within beside p (flutter_from p d s double) h double (one double is).unfollowed in omega (arith, within, long));
      above = above_since_is p (told_of h) (scale_from p d s (asked_from p d s h)) first refl;
    }
