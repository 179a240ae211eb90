-- What the figures of a series mean.
use Rattle.std.specs.Prelude.{◌≡◌, ◌≢◌, ℕ, suc, ◌*◌, ◌<◌, ◌≤◌, ◌≤ℤ◌, pos, List, length, Option, Some, None}
use Rattle.fr_base.specs.declared.node_row.NodeRow.{NodeRow}
use Rattle.fr_bound.specs.Bounds.{precision_of}
use Rattle.fr_cluster.specs.Values.{Values, amount}
use Rattle.fr_cluster.specs.declared.names.ParamName.TheVariants as name
use Rattle.fr_skew.specs.Spreads.{spread_at}
use Rattle.fr_skew.specs.declared.peak.Peak.{Peak}
use Rattle.fr_time.specs.Position.{grid_for}
use Rattle.fr_history.specs.Cycles.{Cycles, told_of}
use Rattle.fr_history.specs.History.{History}
use Rattle.fr_history.specs.Sync.{IsInSyncAt}
use Rattle.fr_report.specs.RunText.{IsSyncFound}
use Rattle.fr_series.specs.SharpMeaning.{IsAboveSince, IsGreatestSince}
use Rattle.fr_series.specs.declared.figures.Figures.{Figures}

-- the greatest skew of a cycle over all its macroticks, and the first of them at which it occurs
pub record IsPeakOf (p : Values) (cycle : ℕ) (rows : List NodeRow) (place : Peak) : Type 0 where
  pub here : place.cycle ≡ cycle
  pub macrotick_in : place.macrotick < amount p name.gMacroPerCycle
  pub reached : spread_at (grid_for p) cycle rows place.macrotick ≡ place.skew
  pub greatest : (m : ℕ) → m < amount p name.gMacroPerCycle → spread_at (grid_for p) cycle rows m ≤ℤ place.skew
  pub first : (m : ℕ) → m < place.macrotick → spread_at (grid_for p) cycle rows m ≢ place.skew

-- what is said where it is named: it always is
abbrev pub IsPeakFound : Values → ℕ → List NodeRow → Option Peak → Type 0
IsPeakFound p cycle rows None = ⊥
IsPeakFound p cycle rows (Some place) = IsPeakOf p cycle rows place

-- a history is out of sync from a double cycle on, to its end: it is in sync in none of them, and in the one before,
-- if there is one
pub record IsOutFrom (p : Values) (h : History) (double : ℕ) : Type 0 where
  pub inside : suc (2 * double) < length h
  pub none : (later : ℕ) → double ≤ later → IsInSyncAt p h later → ⊥
  pub before : (earlier : ℕ) → double ≡ suc earlier → IsInSyncAt p h earlier

-- what is said where such a double cycle is named, and where none is: then the last one is in sync
abbrev pub IsLostFound : Values → History → Option ℕ → Type 0
IsLostFound p h None = (last : ℕ) → length h ≡ 2 * suc last → IsInSyncAt p h last
IsLostFound p h (Some double) = IsOutFrom p h double

-- the first double cycle in sync in which no node follows, the greatest skew since then with its first place, from when on the
-- clocks are out of sync, and the first place since that first double cycle at which the skew is above the precision
pub record AreFiguresOf (p : Values) (h : Cycles) (figures : Figures) : Type 0 where
  pub synced : IsSyncFound p h figures.synced
  pub greatest : IsGreatestSince p (told_of h) figures.synced figures.greatest
  pub lost : IsLostFound p (told_of h) figures.lost
  pub above : IsAboveSince p (told_of h) (pos (precision_of p)) figures.synced figures.above
