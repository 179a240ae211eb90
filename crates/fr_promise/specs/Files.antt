-- What the files of a run without a gap promise, whatever the bytes of the files are: the laws that the headline rests on.
use Rattle.std.specs.Prelude.{ℕ, ◌≤ℤ◌, ℤ, pos, List}
use Rattle.fr_cluster.specs.Values.{Values}
use Rattle.fr_cluster.specs.Sane.{IsSane}
use Rattle.fr_bound.specs.Bounds.{precision_of}
use Rattle.fr_drift.specs.Files.{DriftFits, IsDriftFile, IsRateWithin}
use Rattle.fr_drift.specs.Questions.{length_of, rate_of, start_of}
use Rattle.fr_drift.specs.View.{DriftView}
use Rattle.fr_script.specs.Files.{ScriptFits}
use Rattle.fr_script.specs.View.{IsScript, ScriptView}
use Rattle.fr_coverage.specs.Decided.{setting_of}
use Rattle.fr_coverage.specs.Order.{HasNoGap}
use Rattle.fr_history.specs.Skew.{IsGreatestSkew}
use Rattle.fr_history.specs.Cycles.{Cycles, told_of}
use Rattle.fr_history.specs.Unfollowed.{IsFirstUnfollowedSync, IsUnfollowedSyncAt}
use Rattle.fr_runs.specs.Stated.{IsCoveredRun}
use Rattle.fr_promise.specs.Statement.{IsRunOf, KeepsPrecision}

-- where parameters of a cluster and a drift and a script that fit them have no gap, the run is a covered one
abbrev pub CoveredFilesAreStated : Type 0
CoveredFilesAreStated =
    (p : Values) (d : DriftView) (s : ScriptView)
    → IsSane p → DriftFits p d → ScriptFits p s → IsScript s → HasNoGap p d s → IsCoveredRun (setting_of p d s)

-- so the run keeps its precision from each double cycle in sync on in which no node follows
abbrev pub FilesKeepPrecision : Type 0
FilesKeepPrecision =
    (p : Values) (d : DriftView) (s : ScriptView) (h : Cycles) (double : ℕ)
    → IsSane p → DriftFits p d → ScriptFits p s → HasNoGap p d s
    → IsRunOf (setting_of p d s) h → IsUnfollowedSyncAt p h double → KeepsPrecision (setting_of p d s) h double

-- from the first such double cycle on, where there is no gap
abbrev pub IsPrecise : Values → DriftView → ScriptView → Cycles → Type 0
IsPrecise p d s h =
    HasNoGap p d s → (double : ℕ) → IsFirstUnfollowedSync p h double → KeepsPrecision (setting_of p d s) h double

-- and the greatest skew of a run that is in sync from its first cycle on is at most the precision, whoever joins later
abbrev pub GreatestSkewIsWithin : Type 0
GreatestSkewIsWithin =
    (p : Values) (d : DriftView) (s : ScriptView) (h : Cycles) (skew : ℤ) (cycle macrotick : ℕ)
    → IsSane p → DriftFits p d → ScriptFits p s → HasNoGap p d s
    → IsRunOf (setting_of p d s) h → IsUnfollowedSyncAt p h 0
    → IsGreatestSkew p (told_of h) skew cycle macrotick → skew ≤ℤ pos (precision_of p)

-- ---- the drift

-- the drift of an accepted file fits the parameters with which the file is accepted
abbrev pub DriftOfAFileFits : Type 0
DriftOfAFileFits = (p : Values) (d : DriftView) (bytes : List ℕ) → IsDriftFile p d bytes → DriftFits p d

-- the first rate terms of a drift that fits parameters lie within their limit, and it starts no cycle 0 below 0
abbrev pub RatesAreWithin : Type 0
RatesAreWithin = (p : Values) (d : DriftView) (node : ℕ) → IsSane p → DriftFits p d → IsRateWithin p (rate_of d node)

abbrev pub StartsAreNatural : Type 0
StartsAreNatural = (p : Values) (d : DriftView) (node : ℕ) → DriftFits p d → pos 0 ≤ℤ start_of d node

-- and no microtick of it is less than 0
abbrev pub LengthsAreNatural : Type 0
LengthsAreNatural = (p : Values) (d : DriftView) (node cycle : ℕ) → DriftFits p d → pos 0 ≤ℤ length_of d node cycle
