-- What a report keeps of a run, and when it holds its cycles.
use Rattle.std.specs.Prelude.{◌≡◌, ℕ, ◌*◌, ◌+◌, ◌<◌, ◌≤◌, ℤ, pos, ◌≤ℤ◌, Bool, not, nat_abs, List, [], ◌∷◌, length, All, Option, Some, None, if◌then◌else◌}
use Rattle.fr_base.specs.Counts.{AreAtMost, sum_of}
use Rattle.fr_base.specs.declared.cycle_row.Counts.{Counts}
use Rattle.fr_base.specs.declared.cycle_row.CycleRow.{CycleRow}
use Rattle.fr_base.specs.declared.node_row.NodeRow.{NodeRow}
use Rattle.fr_cluster.specs.Values.{Values}
use Rattle.fr_time.specs.Cycles.{is_odd}
use Rattle.fr_time.specs.Placed.{IsPlacedRow}
use Rattle.fr_skew.specs.Gauge.{GaugeView, gauged}
use Rattle.fr_history.specs.Gauged.{GaugeHolds}
use Rattle.fr_history.specs.History.{History}
use Rattle.fr_history.specs.Recorded.{recorded}
use Rattle.fr_history.specs.Skew.{IsGreatestSkew}
use Rattle.fr_history.specs.Cycles.{Cycle, Cycles, told_of}
use Rattle.fr_history.specs.Unfollowed.{IsFirstUnfollowedSync, IsUnfollowedSyncAt, followed_of, is_none}
use Rattle.fr_lines.specs.Sums.{cuts_in_rows, cuts_of, totals_of}

-- What contracts see of a report: what is gathered of the clocks, the rows of the last odd cycle, the sums of the counts,
-- and how many terms were cut.
pub record ReportView : Type 0 where
  pub gauge : GaugeView
  pub odd : List NodeRow
  pub sums : Counts
  pub cut : ℕ

-- the rows of the last odd cycle of a history
unfoldable pub last_odd_of : History → List NodeRow
last_odd_of [] = []
last_odd_of (r ∷ h) = if is_odd (length h) then r.rows else last_odd_of h

-- a report of these parameters holds some cycles: it tells of them what can be told without them
pub record ReportHolds (p : Values) (report : ReportView) (h : Cycles) : Type 0 where
  pub gauge : GaugeHolds p report.gauge (followed_of h)
  pub odd : report.odd ≡ last_odd_of (told_of h)
  pub sums : report.sums ≡ totals_of (told_of h)
  pub cut : report.cut ≡ cuts_of (told_of h)

-- a row tells of a cycle, beside whether a node follows in it
pub record TellsOf (row : CycleRow) (following : Bool) (c : Cycle) : Type 0 where
  pub told : c.told ≡ recorded row
  pub follows : following ≡ not (is_none c.followers)

-- a report and the row of one more cycle, in which a node follows or none does
abbrev pub with_cycle : ReportView → CycleRow → Bool → ReportView
with_cycle report row following = record {
  gauge = gauged report.gauge row.rows following;
  odd = if is_odd row.cycle then row.rows else report.odd;
  sums = sum_of report.sums row.counts;
  cut = report.cut + cuts_in_rows row.rows;
}

-- a row of the next cycle, whose numbers are within limits
pub record IsRowToAdd (report : ReportView) (row : CycleRow) : Type 0 where
  pub next : row.cycle ≡ report.gauge.added
  pub in_run : row.cycle < 200_000
  pub placed : All (IsPlacedRow report.gauge.grid) row.rows
  pub few : AreAtMost 1_000_000 row.counts

-- the numbers of a report
pub record IsReport (report : ReportView) : Type 0 where
  pub counts : AreAtMost (1_000_000 * report.gauge.added) report.sums
  pub cuts : report.cut ≤ 20_000 * report.gauge.added

-- ---- what is told of cycles that are held

-- the greatest skew that a report tells, and its first place: those of all cycles that it holds
pub record IsGreatestTold (report : ReportView) (skew : ℤ) (cycle : ℕ) (macrotick : ℤ) : Type 0 where
  pub from : pos 0 ≤ℤ macrotick
  pub value : report.gauge.greatest ≡ Some (record { skew = skew; cycle = cycle; macrotick = nat_abs macrotick })
  pub held : (p : Values) (h : Cycles) → ReportHolds p report h → IsGreatestSkew p (told_of h) skew cycle (nat_abs macrotick)

-- and so the first double cycle in sync in which no node follows, or that there is none
abbrev pub IsSyncTold : ReportView → Option ℕ → Type 0
IsSyncTold report None = (p : Values) (h : Cycles) (double : ℕ) → ReportHolds p report h → IsUnfollowedSyncAt p h double → ⊥
IsSyncTold report (Some double) = (p : Values) (h : Cycles) → ReportHolds p report h → IsFirstUnfollowedSync p h double
