-- The first gap for which a run is not sharply covered: there is none exactly where it is.
use Rattle.std.proofs.Common.{◌≡◌, ◌∙◌, ℕ, ◌≤◌, Bool, true, false, Option, Some, None, refl, ap, arith}
use Rattle.std.specs.Option.{option_or}
use Rattle.fr_cluster.specs.Sane.{IsSane}
use Rattle.fr_cluster.specs.Values.{Values}
use Rattle.fr_coverage.specs.Coverage.{gap_from, some_join}
use Rattle.fr_coverage.specs.Flutter.{flutter_from}
use Rattle.fr_coverage.specs.Order.{FindsGapFrom}
use Rattle.fr_coverage.specs.declared.gap.Gap.{Gap}
use Rattle.fr_drift.specs.View.{DriftView}
use Rattle.fr_script.specs.View.{ScriptView}
use Rattle.fr_bound.specs.SharpBounds.{sharp_near}
use Rattle.fr_bound.specs.SharpChecks.{FirstSharpFailing, SharpChecksHold, sharp_holds_of}
use Rattle.fr_promise.specs.SharpJoining.{FirstSharpJoinFailing, SharpJoinChecksHold, sharp_join_holds_of}
use Rattle.fr_sharp.specs.SharpStatement.{has_arbitrary}
use Rattle.fr_promise.proofs.JoinBounds.{sharp_join_checks_suffice_lem}
use Rattle.fr_sharp.specs.SharpCovered.{failed_sharp, failed_sharp_join, first_sharp_gap, sharp_checks_gap, sharp_gap_to_join, sharp_join_checks_gap, IsCoveredSharply}
use Rattle.fr_sharp.proofs.CheckGaps.{first_fails, holds_below, none_fails}

-- ---- the checks

abbrev pub holds_at : Bool → Values → ℕ → ℕ → Bool
holds_at beside p flutter number = sharp_holds_of number flutter (sharp_near beside p flutter) p

abbrev pub join_holds_at : Bool → Values → ℕ → ℕ → Bool
join_holds_at beside p flutter number = sharp_join_holds_of number beside flutter p

pub sharp_checks-none : (beside : Bool) (p : Values) (flutter : ℕ) → SharpChecksHold flutter (sharp_near beside p flutter) p → sharp_checks_gap beside p flutter ≡ None
sharp_checks-none beside p flutter hold = none_fails 2 (holds_at beside p flutter) (failed_sharp beside p flutter) (λ number from to. hold number from (omega (arith, to)))

pub sharp_checks-some : (beside : Bool) (p : Values) (flutter number : ℕ) → FirstSharpFailing number beside flutter p → sharp_checks_gap beside p flutter ≡ Some (failed_sharp beside p flutter number)
sharp_checks-some beside p flutter number first =
    first_fails 2 (holds_at beside p flutter) (failed_sharp beside p flutter) number
    (record { from = first.from; to = (let most = first.to in omega (arith, most)); fails = first.fails; earlier = first.earlier })

pub sharp_checks-hold : (beside : Bool) (p : Values) (flutter : ℕ) → sharp_checks_gap beside p flutter ≡ None → SharpChecksHold flutter (sharp_near beside p flutter) p
sharp_checks-hold beside p flutter none = λ number from to. holds_below 2 (holds_at beside p flutter) (failed_sharp beside p flutter) 4 number none from (omega (arith, to))

pub join_checks-none : (beside : Bool) (p : Values) (flutter : ℕ) → SharpJoinChecksHold beside flutter p → sharp_join_checks_gap beside p flutter ≡ None
join_checks-none beside p flutter hold = none_fails 6 (join_holds_at beside p flutter) (failed_sharp_join beside p flutter) (λ number from to. hold number from (omega (arith, to)))

pub join_checks-some : (beside : Bool) (p : Values) (flutter number : ℕ) → FirstSharpJoinFailing number beside flutter p
    → sharp_join_checks_gap beside p flutter ≡ Some (failed_sharp_join beside p flutter number)
join_checks-some beside p flutter number first =
    first_fails 6 (join_holds_at beside p flutter) (failed_sharp_join beside p flutter) number
    (record { from = first.from; to = (let most = first.to in omega (arith, most)); fails = first.fails; earlier = first.earlier })

pub join_checks-hold : (beside : Bool) (p : Values) (flutter : ℕ) → sharp_join_checks_gap beside p flutter ≡ None → SharpJoinChecksHold beside flutter p
join_checks-hold beside p flutter none = λ number from to. holds_below 6 (join_holds_at beside p flutter) (failed_sharp_join beside p flutter) 4 number none from (omega (arith, to))

-- those of nodes that join, where one does
to_join-hold : (joins beside : Bool) (p : Values) (flutter : ℕ) → sharp_gap_to_join joins beside p flutter ≡ None → joins ≡ true → SharpJoinChecksHold beside flutter p
to_join-hold true beside p flutter none is = join_checks-hold beside p flutter none
to_join-hold false beside p flutter none is = absurd (cc)

pub asked-hold : (p : Values) (s : ScriptView) (flutter : ℕ) → sharp_gap_to_join (some_join p s) (has_arbitrary p s) p flutter ≡ None → some_join p s ≡ true
    → SharpJoinChecksHold (has_arbitrary p s) flutter p
asked-hold p s flutter none is = to_join-hold (some_join p s) (has_arbitrary p s) p flutter none is

-- ---- all of them

pub no_sharp_gap : (p : Values) (d : DriftView) (s : ScriptView) (from flutter : ℕ) → IsSane p → FindsGapFrom p d s from → IsCoveredSharply p d s from flutter → first_sharp_gap p d s from flutter ≡ None
no_sharp_gap p d s from flutter sane finds covered = by (some_join p s) refl
  where
    none : (joins : Bool) → sharp_checks_gap (has_arbitrary p s) p flutter ≡ None → sharp_gap_to_join joins (has_arbitrary p s) p flutter ≡ None → gap_from p d s from ≡ None
        → option_or (sharp_checks_gap (has_arbitrary p s) p flutter) (option_or (sharp_gap_to_join joins (has_arbitrary p s) p flutter) (gap_from p d s from)) ≡ None
    none joins checks asked run = rw (checks, asked, run) refl

    by : (joins : Bool) → some_join p s ≡ joins
        → option_or (sharp_checks_gap (has_arbitrary p s) p flutter) (option_or (sharp_gap_to_join (some_join p s) (has_arbitrary p s) p flutter) (gap_from p d s from)) ≡ None
    by false is =
        let c = covered.alone is in
        let asked : sharp_gap_to_join (some_join p s) (has_arbitrary p s) p flutter ≡ None = ap (λ (joins : Bool). sharp_gap_to_join joins (has_arbitrary p s) p flutter) is in
        none (some_join p s) (sharp_checks-none (has_arbitrary p s) p flutter c.checks) asked (finds.none.1 c.none)
    by true is =
        let c = covered.joined is in
        let checks = (sharp_join_checks_suffice_lem (has_arbitrary p s) p flutter sane c.checks).4 in
        let asked : sharp_gap_to_join (some_join p s) (has_arbitrary p s) p flutter ≡ None =
        ap (λ (joins : Bool). sharp_gap_to_join joins (has_arbitrary p s) p flutter) is ∙ join_checks-none (has_arbitrary p s) p flutter c.checks in
        none (some_join p s) (sharp_checks-none (has_arbitrary p s) p flutter checks) asked (finds.none.1 c.none)

gap_parts : (checks asked run : Option Gap) → option_or checks (option_or asked run) ≡ None → (checks ≡ None) × (asked ≡ None) × (run ≡ None)
gap_parts None None None none = (refl, refl, refl)
gap_parts None None (Some gap) none = absurd (cc)
gap_parts None (Some gap) run none = absurd (cc)
gap_parts (Some gap) asked run none = absurd (cc)

pub covered_from : (p : Values) (d : DriftView) (s : ScriptView) (from flutter : ℕ) → FindsGapFrom p d s from → flutter_from p d s from ≤ flutter → first_sharp_gap p d s from flutter ≡ None → IsCoveredSharply p d s from flutter
covered_from p d s from flutter finds most none =
    let parts = gap_parts (sharp_checks_gap (has_arbitrary p s) p flutter) (sharp_gap_to_join (some_join p s) (has_arbitrary p s) p flutter) (gap_from p d s from) none in
    record {
      alone = λ is. record { checks = sharp_checks-hold (has_arbitrary p s) p flutter parts.0; none_joins = is; none = finds.none.0 parts.2; flutters = most };
      joined = λ is. record { checks = asked-hold p s flutter parts.1 is; none = finds.none.0 parts.2; flutters = most };
    }
