-- The gaps of a run by the sharper bounds: the first of each kind, in the order in which they are looked for.
use Rattle.std.specs.Prelude.{◌≡◌, ℕ, Bool, Option, Some, None, if◌then◌else◌}
use Rattle.std.specs.Option.{option_or}
use Rattle.fr_cluster.specs.Values.{Values}
use Rattle.fr_coverage.specs.Coverage.{some_join}
use Rattle.fr_coverage.specs.Kinds.{first_by_kind, gaps_by_kind, AreFirstGaps}
use Rattle.fr_coverage.specs.declared.gap.Gap.{Gap}
use Rattle.fr_drift.specs.View.{DriftView}
use Rattle.fr_script.specs.View.{ScriptView}
use Rattle.fr_bound.specs.SharpBounds.{sharp_near}
use Rattle.fr_bound.specs.SharpChecks.{sharp_holds_of}
use Rattle.fr_promise.specs.SharpJoining.{sharp_join_holds_of}
use Rattle.fr_sharp.specs.SharpStatement.{has_arbitrary}
use Rattle.fr_sharp.specs.SharpCovered.{failed_sharp, failed_sharp_join, first_sharp_gap}
use Rattle.fr_whole.specs.declared.sharp_gaps.SharpGaps.{SharpGaps}

-- the sharper check of a number from 1 to 5, where it fails
abbrev pub failing_at : Bool → Values → ℕ → ℕ → Option Gap
failing_at beside p flutter number =
    if sharp_holds_of number flutter (sharp_near beside p flutter) p then None else Some (failed_sharp beside p flutter number)

-- one from 6 to 9, which is asked where a correct node joins
abbrev pub failing_to_join : Bool → Bool → Values → ℕ → ℕ → Option Gap
failing_to_join joins beside p flutter number =
    if joins then (if sharp_join_holds_of number beside flutter p then None else Some (failed_sharp_join beside p flutter number)) else None

-- those of the run of some parameters, a drift and a script from a double cycle on, where its delays flutter by so many ticks
abbrev pub sharp_gaps_of : Values → DriftView → ScriptView → ℕ → ℕ → SharpGaps
sharp_gaps_of p d s from flutter = record {
  second = failing_at (has_arbitrary p s) p flutter 2;
  third = failing_at (has_arbitrary p s) p flutter 3;
  fourth = failing_at (has_arbitrary p s) p flutter 4;
  fifth = failing_at (has_arbitrary p s) p flutter 5;
  sixth = failing_to_join (some_join p s) (has_arbitrary p s) p flutter 6;
  seventh = failing_to_join (some_join p s) (has_arbitrary p s) p flutter 7;
  eighth = failing_to_join (some_join p s) (has_arbitrary p s) p flutter 8;
  ninth = failing_to_join (some_join p s) (has_arbitrary p s) p flutter 9;
  run = gaps_by_kind p d s from;
}

-- the first of all, if there is one
abbrev pub first_of_checks : SharpGaps → Option Gap → Option Gap
first_of_checks gaps rest =
    option_or gaps.second (option_or gaps.third (option_or gaps.fourth (option_or gaps.fifth
    (option_or gaps.sixth (option_or gaps.seventh (option_or gaps.eighth (option_or gaps.ninth rest)))))))

abbrev pub first_of_all : SharpGaps → Option Gap
first_of_all gaps = first_of_checks gaps (first_by_kind gaps.run)

-- the first of all is the one for which the run is not sharply covered, and each of the run itself is the first of its kind
pub record AreSharpGaps (p : Values) (d : DriftView) (s : ScriptView) (from flutter : ℕ) : Type 0 where
  pub first : first_of_all (sharp_gaps_of p d s from flutter) ≡ first_sharp_gap p d s from flutter
  pub kinds : AreFirstGaps p d s from (gaps_by_kind p d s from)
