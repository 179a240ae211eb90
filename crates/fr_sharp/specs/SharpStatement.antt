-- What `sharp covered yes` and `sharp synced DOUBLE` promise. The words of it, from the top: `IsLawful` (what a run is),
-- `IsSharplyCovered` (what is asked of the files), `sharp_precision`, `IsInSharpSyncAt`, `sync_lasts`, `KeepsApart`.
use Rattle.std.specs.Prelude.{◌≡◌, ◌<◌, ◌≤◌, ◌-◌, ℕ, pos, Bool, false, ◌&&◌, List, None}
use Rattle.std.specs.List.{list_any}
use Rattle.fr_cluster.specs.Sane.{IsSane}
use Rattle.fr_cluster.specs.Setting.{Setting}
use Rattle.fr_cluster.specs.Values.{Values}
use Rattle.fr_cluster.specs.declared.nodes.NodeSpec.{NodeSpec}
use Rattle.fr_drift.specs.Files.{IsDriftFile}
use Rattle.fr_drift.specs.View.{DriftView}
use Rattle.fr_script.specs.Files.{IsScriptFile}
use Rattle.fr_script.specs.View.{ScriptView, is_arbitrary}
use Rattle.fr_coverage.specs.Coverage.{some_join}
use Rattle.fr_coverage.specs.Decided.{setting_of}
use Rattle.fr_coverage.specs.Flutter.{flutter_from}
use Rattle.fr_coverage.specs.Links.{is_sync}
use Rattle.fr_coverage.specs.Order.{HasNoGapFrom}
use Rattle.fr_history.specs.Cycles.{Cycles}
use Rattle.fr_promise.specs.Statement.{IsRunOf}
use Rattle.fr_promise.specs.HeldWalks.{beyond_after, beyond_for_ever, sync_lasts, SyncLastsAfter, SyncLastsUpTo}
use Rattle.fr_bound.specs.SharpBounds.{sharp_near, sharp_precision}
use Rattle.fr_bound.specs.SharpChecks.{SharpChecksHold}
use Rattle.fr_runs.specs.SharpHistories.{IsInSharpSyncAt, KeepsApart, KeepsSharpPrecision}

-- whether some node with a key slot is arbitrary
abbrev pub has_arbitrary_in : List NodeSpec → ScriptView → Bool
has_arbitrary_in nodes s = list_any (λ node. is_sync node && is_arbitrary s node.id) nodes

abbrev pub has_arbitrary : Values → ScriptView → Bool
has_arbitrary p s = has_arbitrary_in p.nodes s

-- of the sharper checks those from 2 to 5 hold, with action points no further apart than in sharp sync; no correct node joins; and
-- from a double cycle on the run itself has no gap, and its delays flutter by no more than so many ticks
pub record IsSharplyCovered (p : Values) (d : DriftView) (s : ScriptView) (from flutter : ℕ) : Type 0 where
  pub checks : SharpChecksHold flutter (sharp_near (has_arbitrary p s) p flutter) p
  pub none_joins : some_join p s ≡ false
  pub none : HasNoGapFrom p d s from
  pub flutters : flutter_from p d s from ≤ flutter

-- what is kept from a double cycle on
pub record KeepsSharply (beside : Bool) (x : Setting) (flutter : ℕ) (h : Cycles) (double : ℕ) : Type 0 where
  -- in each double cycle of the run, as long as sharp sync lasts since then (on and on where it lasts without a number), no
  -- corresponding macroticks lie further apart than the sharper precision, in ticks, no term is cut or missing, and each correct
  -- node is active behind it
  pub keeps :
      (k : ℕ) → double ≤ k → k < x.doubles → SyncLastsAfter x.params flutter (k - double)
      → KeepsApart x h k (sharp_precision beside x.params flutter)
  -- and each is in sharp sync, behind the last of those too
  pub synced :
      (k : ℕ) → double ≤ k → k < x.doubles → SyncLastsUpTo x.params flutter (k - double)
      → IsInSharpSyncAt beside x.params flutter (beyond_after x.params flutter (k - double)) h k
  -- where it lasts without a number it is so by the cycle, to the end of the run
  pub always :
      sync_lasts x.params flutter ≡ None → KeepsSharpPrecision beside x flutter (beyond_for_ever x.params flutter) h double

-- the promise: of three accepted files that are sharply covered from a double cycle on, from each one in sharp sync on from there
abbrev pub FilesKeepSharpPrecision : Type 0
FilesKeepSharpPrecision =
    (p : Values) (d : DriftView) (s : ScriptView) (drift script : List ℕ) (from flutter : ℕ) (h : Cycles) (double : ℕ)
    → IsSane p → IsDriftFile p d drift → IsScriptFile p s script → IsSharplyCovered p d s from flutter → IsRunOf (setting_of p d s) h
    → from ≤ double → IsInSharpSyncAt (has_arbitrary p s) p flutter (pos 0) h double
    → KeepsSharply (has_arbitrary p s) (setting_of p d s) flutter h double
