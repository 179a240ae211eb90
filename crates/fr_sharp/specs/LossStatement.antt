-- What is promised of a run in which frames are lost, by its files. The words of it, from the top: `IsLawful` (what a run is),
-- `IsCoveredThroughLosses` (what is asked of the files), `apart_through_losses` (by what is heard, `heard_in`), `IsInSharpSyncAt`, `walk_lasts`,
-- `KeepsThrough`.
use Rattle.std.specs.Prelude.{◌≡◌, ◌+◌, ◌-◌, ◌<◌, ◌≤◌, ◌+ℤ◌, ℕ, suc, pos, Bool, true, false, List, []}
use Rattle.fr_cluster.specs.Sane.{IsSane}
use Rattle.fr_cluster.specs.Values.{Values}
use Rattle.fr_drift.specs.Files.{IsDriftFile}
use Rattle.fr_drift.specs.Questions.{doubles_of}
use Rattle.fr_drift.specs.View.{DriftView}
use Rattle.fr_script.specs.Files.{IsScriptFile}
use Rattle.fr_script.specs.View.{ScriptView}
use Rattle.fr_coverage.specs.Coverage.{some_join}
use Rattle.fr_coverage.specs.Decided.{setting_of}
use Rattle.fr_coverage.specs.Flutter.{flutter_from}
use Rattle.fr_coverage.specs.Order.{HasNoGapFrom}
use Rattle.fr_history.specs.Cycles.{Cycles}
use Rattle.fr_promise.specs.Statement.{IsRunOf}
use Rattle.fr_precision.specs.declared.kinds.Kinds.{Kinds}
use Rattle.fr_bound.specs.declared.settling.Spread.{Spread}
use Rattle.fr_precision.specs.Among.{apart_through_losses, spread_through_losses}
use Rattle.fr_sharp.specs.Losses.{IsLossyRunFrom}
use Rattle.fr_sharp.specs.Bearing.{KeepsThrough}
use Rattle.fr_traffic.specs.Traffic.{all_bear_from, heard_in, none_lacks, some_keep, traffic_in}
use Rattle.fr_bound.specs.Bounds.{cycle_change}
use Rattle.fr_bound.specs.Checks.{holds_of}
use Rattle.fr_bound.specs.SharpChecks.{RateSuffices, SharpChecksHold}
use Rattle.fr_runs.specs.SharpHistories.{IsInSharpSyncAt}
use Rattle.fr_precision.specs.Lengths.{strayed_after, walked_after}
use Rattle.fr_precision.specs.SharpRun.{WalkLastsAfter, WalkLastsUpTo}
use Rattle.fr_bound.specs.SharpSpreads.{sharply_near_in}
use Rattle.fr_sharp.specs.SharpStatement.{has_arbitrary}

-- the script of the same run if no frame were lost, damaged or said by another node
abbrev pub without_losses : ScriptView → ScriptView
without_losses s = record { arbitrary = s.arbitrary; joins = s.joins; on_a = []; on_b = [] }

-- how far starts and even lengths may lie apart in a double cycle by what was heard since an earlier one or since it, and how far
-- macroticks, in ticks
abbrev pub spread_since : Bool → Values → ℕ → ℕ → (ℕ → Kinds) → ℕ → Spread
spread_since beside p from flutter what double = spread_through_losses beside p flutter (λ m. what (from + m)) (double - from)

abbrev pub apart_since : Bool → Values → ℕ → ℕ → (ℕ → Kinds) → ℕ → ℕ
apart_since beside p from flutter what double = apart_through_losses beside p flutter (λ m. what (from + m)) (double - from)

-- so by what is heard in a run
abbrev pub run_spread : Values → ScriptView → ℕ → ℕ → ℕ → Spread
run_spread p s from flutter double = spread_since (has_arbitrary p s) p from flutter (heard_in (traffic_in p s)) double

-- by how much more than by the walk lengths may lie beyond their range in a double cycle of it, in ticks, where nodes that lack values kept
-- their rates since an earlier one
abbrev pub run_strayed : Values → ScriptView → ℕ → ℕ → ℕ → ℕ
run_strayed p s from flutter double = strayed_after p flutter (λ m. some_keep (traffic_in p s) (from + m)) (double - from)

-- of the sharper checks those from 2 to 5 hold with a reach, in ticks, that takes in how far action points may lie apart in each double
-- cycle from one on, by what was heard since; no correct node joins; from that double cycle on the run would have no gap if nothing
-- were lost, and its delays flutter by no more than so many ticks; each correct node bears each of these double cycles: it has values, and
-- discards as many as there may be of arbitrary nodes, or lacks some as `bears` says, in the first of them none; and while the walk lasts,
-- the rate limit suffices for how far lengths walk and stray
pub record IsCoveredThroughLosses (p : Values) (d : DriftView) (s : ScriptView) (from flutter reach : ℕ) : Type 0 where
  pub checks : SharpChecksHold flutter reach p
  pub near : (double : ℕ) → from ≤ double → double < doubles_of d → sharply_near_in p (run_spread p s from flutter double) ≤ reach
  pub none_joins : some_join p s ≡ false
  pub none : HasNoGapFrom p d (without_losses s) from
  pub flutters : flutter_from p d s from ≤ flutter
  pub borne : (double : ℕ) → from ≤ double → double < doubles_of d → all_bear_from p (traffic_in p s) from double ≡ true
  pub limit :
      (double passed : ℕ) → from ≤ double → double < doubles_of d → passed ≤ suc double - from → WalkLastsUpTo p flutter passed
      → RateSuffices p (walked_after p flutter passed +ℤ pos (run_strayed p s from flutter (suc double)))

-- the last follows where no node lacks values, or oscillators do not change
abbrev pub LimitFollows : Type 0
LimitFollows =
    (p : Values) (s : ScriptView) (from flutter double passed : ℕ)
    → holds_of 2 p ≡ true
    → ((k : ℕ) → from ≤ k → k ≤ double → none_lacks (traffic_in p s) k ≡ false → cycle_change p ≡ 0)
    → WalkLastsUpTo p flutter passed → RateSuffices p (walked_after p flutter passed +ℤ pos (run_strayed p s from flutter (suc double)))

-- such files give a run as the law of losses asks for
abbrev pub LossyFilesGiveRuns : Type 0
LossyFilesGiveRuns =
    (p : Values) (d : DriftView) (s : ScriptView) (from flutter reach : ℕ) (h : Cycles)
    → IsSane p → IsCoveredThroughLosses p d s from flutter reach → IsRunOf (setting_of p d s) h
    → IsLossyRunFrom (has_arbitrary p s) (setting_of p d s) from flutter h

-- what is kept from a double cycle on, as long as the walk lasts, whatever frames are lost wherever and however many: no corresponding
-- macroticks lie further apart than so by what was heard since, in ticks, no term is cut, none is missing but where a node has no value
-- of its kind, and every correct node is active
abbrev pub KeepsThroughLosses : Values → DriftView → ScriptView → ℕ → Cycles → ℕ → Type 0
KeepsThroughLosses p d s flutter h double =
    (passed : ℕ) → double + passed < doubles_of d → WalkLastsAfter p flutter passed
    → KeepsThrough (setting_of p d s) h (double + passed)
    (apart_through_losses (has_arbitrary p s) p flutter (λ m. heard_in (traffic_in p s) (double + m)) passed)

-- so it is of sane parameters, a drift and a script that are covered through losses from a double cycle on, from each one in sharp sync
-- on from there in which no node lacks values
abbrev pub CoveredFilesKeepThroughLosses : Type 0
CoveredFilesKeepThroughLosses =
    (p : Values) (d : DriftView) (s : ScriptView) (from flutter reach : ℕ) (h : Cycles) (double : ℕ)
    → IsSane p → IsCoveredThroughLosses p d s from flutter reach → IsRunOf (setting_of p d s) h
    → from ≤ double → IsInSharpSyncAt (has_arbitrary p s) p flutter (pos 0) h double → none_lacks (traffic_in p s) double ≡ true
    → KeepsThroughLosses p d s flutter h double

-- the promise: and of three accepted files
abbrev pub FilesKeepThroughLosses : Type 0
FilesKeepThroughLosses =
    (p : Values) (d : DriftView) (s : ScriptView) (drift script : List ℕ) (from flutter reach : ℕ) (h : Cycles) (double : ℕ)
    → IsSane p → IsDriftFile p d drift → IsScriptFile p s script → IsCoveredThroughLosses p d s from flutter reach
    → IsRunOf (setting_of p d s) h → from ≤ double → IsInSharpSyncAt (has_arbitrary p s) p flutter (pos 0) h double
    → none_lacks (traffic_in p s) double ≡ true → KeepsThroughLosses p d s flutter h double

-- in the first double cycle from which files are covered so none does
abbrev pub CoveredFilesAreAwake : Type 0
CoveredFilesAreAwake =
    (p : Values) (d : DriftView) (s : ScriptView) (from flutter reach : ℕ)
    → IsCoveredThroughLosses p d s from flutter reach → from < doubles_of d → none_lacks (traffic_in p s) from ≡ true
