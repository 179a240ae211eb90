-- The first of all gaps by the sharper bounds is the first that is found, whatever kinds there are.
use Rattle.std.proofs.Common.{◌≡◌, ◌∙◌, ℕ, Bool, true, false, Option, Some, None, ap, refl, sym}
use Rattle.std.specs.Prelude.{if◌then◌else◌}
use Rattle.std.specs.Option.{option_or}
use Rattle.fr_cluster.specs.Values.{Values}
use Rattle.fr_coverage.specs.Coverage.{gap_from, some_join}
use Rattle.fr_coverage.specs.First.{first_below}
use Rattle.fr_coverage.specs.Kinds.{gaps_by_kind, AreFirstGaps}
use Rattle.fr_coverage.specs.declared.gap.Gap.{Gap}
use Rattle.fr_drift.specs.View.{DriftView}
use Rattle.fr_script.specs.View.{ScriptView}
use Rattle.fr_sharp.specs.SharpStatement.{has_arbitrary}
use Rattle.fr_sharp.specs.SharpCovered.{first_sharp_gap, sharp_check_gap, sharp_gap_to_join, sharp_join_check_gap}
use Rattle.fr_whole.specs.SharpGaps.{first_of_all, sharp_gaps_of, AreSharpGaps}

-- the first of four, and else what comes behind them
parted : (what : ℕ → Option Gap) (rest : Option Gap) → option_or (first_below what 4) rest ≡ option_or (what 0) (option_or (what 1) (option_or (what 2) (option_or (what 3) rest)))
unfolding first_below
parted what rest = by (what 0) (what 1) (what 2) (what 3)
  where
    by : (a b c d : Option Gap) → option_or (option_or (option_or (option_or (option_or None a) b) c) d) rest ≡ option_or a (option_or b (option_or c (option_or d rest)))
    by (Some x) b c d = refl
    by None (Some x) c d = refl
    by None None (Some x) d = refl
    by None None None d = refl

-- the same of those that are asked where a node joins
parted_to_join : (joins : Bool) (what : ℕ → Option Gap) (rest : Option Gap) →
    option_or (if joins then first_below what 4 else None) rest
    ≡ option_or (if joins then what 0 else None) (option_or (if joins then what 1 else None) (option_or (if joins then what 2 else None) (option_or (if joins then what 3 else None) rest)))
parted_to_join true what rest = parted what rest
parted_to_join false what rest = refl

first-of-all : (p : Values) (d : DriftView) (s : ScriptView) (from flutter : ℕ) → first_of_all (sharp_gaps_of p d s from flutter) ≡ first_sharp_gap p d s from flutter
first-of-all p d s from flutter =
    let beside : Bool = has_arbitrary p s in
    let joins : Bool = some_join p s in
    let check : ℕ → Option Gap = sharp_check_gap beside p flutter in
    let run : Option Gap = gap_from p d s from in
    sym
    (parted check (option_or (sharp_gap_to_join joins beside p flutter) run)
    ∙ ap (λ (rest : Option Gap). option_or (check 0) (option_or (check 1) (option_or (check 2) (option_or (check 3) rest))))
    (parted_to_join joins (sharp_join_check_gap beside p flutter) run))

pub sharp_gaps_are : (p : Values) (d : DriftView) (s : ScriptView) (from flutter : ℕ) → AreFirstGaps p d s from (gaps_by_kind p d s from) → AreSharpGaps p d s from flutter
sharp_gaps_are p d s from flutter kinds = record { first = first-of-all p d s from flutter; kinds = kinds }
