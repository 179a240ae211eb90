-- What the sharper promise rests on, whatever the bytes of the files are: a run that is sharply covered is a steady one.
use Rattle.std.specs.Prelude.{◌≡◌, ◌↔◌, ◌<◌, ◌≤◌, ◌||◌, ℕ, pos, true, false, None}
use Rattle.fr_cluster.specs.Values.{Values}
use Rattle.fr_cluster.specs.Sane.{IsSane}
use Rattle.fr_drift.specs.Questions.{doubles_of}
use Rattle.fr_drift.specs.View.{DriftView}
use Rattle.fr_script.specs.View.{ScriptView}
use Rattle.fr_coverage.specs.Decided.{setting_of}
use Rattle.fr_coverage.specs.Flutter.{flutter_from, flutter_of}
use Rattle.fr_coverage.specs.Order.{HasNoGapFrom, HasNoGapOfRun}
use Rattle.fr_history.specs.Cycles.{Cycles, some_joins}
use Rattle.fr_promise.specs.Statement.{IsRunOf}
use Rattle.fr_runs.specs.Flutter.{FluttersWithin}
use Rattle.fr_bound.specs.SharpChecks.{sharp_holds_of}
use Rattle.fr_promise.specs.HeldWalks.{sync_lasts, walk_is_held}
use Rattle.fr_sharp.specs.SettlingHistories.{AreStatedNear}
use Rattle.fr_promise.specs.SharpWay.{IsSharpWay}
use Rattle.fr_sharp.specs.WayHistories.{ComesByTheWay}
use Rattle.fr_promise.specs.declared.way.SharpWay.{SharpWay}
use Rattle.fr_runs.specs.SharpHistories.{IsInSharpSyncAt, IsSteadyRunFrom}
use Rattle.fr_sharp.specs.SharpStatement.{has_arbitrary, IsSharplyCovered, KeepsSharply}
use Rattle.fr_runs.specs.SteadyRuns.{IsSteadyFrom, MayHaveArbitrary}

-- from a double cycle on the delays of the run that files decide flutter by no more than a number, in ticks, exactly where its flutter
-- from there on is no more
abbrev pub FilesFlutter : Type 0
FilesFlutter =
    (p : Values) (d : DriftView) (s : ScriptView) (from flutter : ℕ)
    → FluttersWithin (setting_of p d s) from flutter ↔ (flutter_from p d s from ≤ flutter)

-- where sane parameters, a drift and a script have no gap from a double cycle on but of the checks, and the flutter from there on is no
-- more than this, the run is a steady one from there on; without an arbitrary sync node where the script has none
abbrev pub FilesAreSteady : Type 0
FilesAreSteady =
    (p : Values) (d : DriftView) (s : ScriptView) (from flutter : ℕ)
    → IsSane p → HasNoGapFrom p d s from → flutter_from p d s from ≤ flutter → IsSteadyFrom (setting_of p d s) from flutter

abbrev pub ArbitraryIsTold : Type 0
ArbitraryIsTold = (p : Values) (d : DriftView) (s : ScriptView) → MayHaveArbitrary (has_arbitrary p s) (setting_of p d s)

abbrev pub FilesGiveSteadyRuns : Type 0
FilesGiveSteadyRuns =
    (p : Values) (d : DriftView) (s : ScriptView) (from flutter : ℕ) (h : Cycles)
    → IsSane p → HasNoGapFrom p d s from → flutter_from p d s from ≤ flutter → some_joins (setting_of p d s) ≡ false
    → IsRunOf (setting_of p d s) h → IsSteadyRunFrom (has_arbitrary p s) (setting_of p d s) from flutter h

-- so it keeps the sharper precision from each double cycle in sharp sync on, if it is sharply covered from that one on or before
abbrev pub CoveredFilesKeepSharply : Type 0
CoveredFilesKeepSharply =
    (p : Values) (d : DriftView) (s : ScriptView) (from flutter : ℕ) (h : Cycles) (double : ℕ)
    → IsSane p → IsSharplyCovered p d s from flutter → IsRunOf (setting_of p d s) h
    → from ≤ double → IsInSharpSyncAt (has_arbitrary p s) p flutter (pos 0) h double
    → KeepsSharply (has_arbitrary p s) (setting_of p d s) flutter h double

-- sharp sync lasts on and on exactly where the first of the sharper checks holds or the walk is held
abbrev pub SyncLastsOn : Type 0
SyncLastsOn =
    (p : Values) (flutter reach : ℕ) → IsSane p
    → (sync_lasts p flutter ≡ None) ↔ ((sharp_holds_of 1 flutter reach p || walk_is_held p flutter) ≡ true)

-- the run of sane parameters, a drift and a script without a gap but of the checks, that no node joins, comes into sharp sync as is
-- told of its way by numbers within which its starts and first lengths lie, in ticks, where no check for the way fails
abbrev pub FilesSettleSharply : Type 0
FilesSettleSharply =
    (p : Values) (d : DriftView) (s : ScriptView) (flutter start rate : ℕ) (way : SharpWay) (h : Cycles)
    → IsSane p → HasNoGapOfRun p d s → flutter_of p d s ≤ flutter → some_joins (setting_of p d s) ≡ false → IsRunOf (setting_of p d s) h
    → IsSharpWay (has_arbitrary p s) p flutter start rate way → way.failed ≡ None → AreStatedNear (setting_of p d s) start rate
    → (double : ℕ) → double < doubles_of d → ComesByTheWay (has_arbitrary p s) (setting_of p d s) flutter way h 0 double
