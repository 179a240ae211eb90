-- Whether a run is sharply covered: the first gap in the order in which they are looked for. A sharper check from 2 to 5 fails, the
-- one with the least number; where a correct node joins, one from 6 to 9 does; and then the gaps of the run from a double cycle on.
-- Its flutter is its own, so that it is no gap.
use Rattle.std.specs.Prelude.{◌≡◌, ℕ, ◌+◌, pos, Bool, true, false, Option, Some, None, if◌then◌else◌}
use Rattle.std.specs.Option.{option_or}
use Rattle.fr_bound.specs.Checks.{left_of}
use Rattle.fr_cluster.specs.Values.{Values}
use Rattle.fr_coverage.specs.Coverage.{gap_from, some_join}
use Rattle.fr_coverage.specs.First.{first_below}
use Rattle.fr_coverage.specs.declared.gap.Gap.{Gap}
use Rattle.fr_coverage.specs.declared.gap.Gap.TheVariants as gap
use Rattle.fr_drift.specs.View.{DriftView}
use Rattle.fr_script.specs.View.{ScriptView}
use Rattle.fr_sharp.specs.JoinedFiles.{IsSharplyCoveredToJoin}
use Rattle.fr_bound.specs.SharpBounds.{sharp_near}
use Rattle.fr_bound.specs.SharpChecks.{sharp_holds_of, sharp_left_of, sharp_right_of}
use Rattle.fr_promise.specs.SharpJoining.{sharp_join_holds_of, sharp_join_right_of}
use Rattle.fr_sharp.specs.SharpStatement.{has_arbitrary, IsSharplyCovered}

-- a run is sharply covered from a double cycle on where no correct node joins, or sharply covered to join where one does
pub record IsCoveredSharply (p : Values) (d : DriftView) (s : ScriptView) (from flutter : ℕ) : Type 0 where
  pub alone : some_join p s ≡ false → IsSharplyCovered p d s from flutter
  pub joined : some_join p s ≡ true → IsSharplyCoveredToJoin p d s from flutter

-- the check of a number fails, with its two sides
abbrev pub failed_sharp : Bool → Values → ℕ → ℕ → Gap
failed_sharp beside p flutter number =
    gap.Check number (pos (sharp_left_of number p)) (pos (sharp_right_of number flutter (sharp_near beside p flutter) p))

-- the check after k others, numbered from 2
abbrev pub sharp_check_gap : Bool → Values → ℕ → ℕ → Option Gap
sharp_check_gap beside p flutter k =
    if sharp_holds_of (k + 2) flutter (sharp_near beside p flutter) p then None else Some (failed_sharp beside p flutter (k + 2))

abbrev pub sharp_checks_gap : Bool → Values → ℕ → Option Gap
sharp_checks_gap beside p flutter = first_below (sharp_check_gap beside p flutter) 4

-- the same of nodes that join, numbered from 6
abbrev pub failed_sharp_join : Bool → Values → ℕ → ℕ → Gap
failed_sharp_join beside p flutter number = gap.Check number (pos (left_of number p)) (pos (sharp_join_right_of number beside flutter p))

abbrev pub sharp_join_check_gap : Bool → Values → ℕ → ℕ → Option Gap
sharp_join_check_gap beside p flutter k =
    if sharp_join_holds_of (k + 6) beside flutter p then None else Some (failed_sharp_join beside p flutter (k + 6))

abbrev pub sharp_join_checks_gap : Bool → Values → ℕ → Option Gap
sharp_join_checks_gap beside p flutter = first_below (sharp_join_check_gap beside p flutter) 4

-- which are asked where one joins
abbrev pub sharp_gap_to_join : Bool → Bool → Values → ℕ → Option Gap
sharp_gap_to_join joins beside p flutter = if joins then sharp_join_checks_gap beside p flutter else None

-- the first gap, if there is one
abbrev pub first_sharp_gap : Values → DriftView → ScriptView → ℕ → ℕ → Option Gap
first_sharp_gap p d s from flutter =
    option_or (sharp_checks_gap (has_arbitrary p s) p flutter)
    (option_or (sharp_gap_to_join (some_join p s) (has_arbitrary p s) p flutter) (gap_from p d s from))
