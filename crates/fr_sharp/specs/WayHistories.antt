-- A lawful history of a run that no node joins comes into sharp sync as is told of its way.
use Rattle.std.specs.Prelude.{◌≡◌, ◌<◌, ◌≤◌, ◌+◌, ◌*◌, ℕ, pos, Bool, None, Some}
use Rattle.fr_cluster.specs.Setting.{Setting}
use Rattle.fr_history.specs.Cycles.{Cycle, Cycles, cycle_at}
use Rattle.fr_promise.specs.declared.way.SharpWay.{SharpWay}
use Rattle.fr_precision.specs.Lengths.{walked_after}
use Rattle.fr_sharp.specs.SettlingHistories.{AreStatedNear}
use Rattle.fr_runs.specs.SharpHistories.{BeginsActive, IsInSharpSyncAt, IsSteadyRun, KeepsApart, StaysInSharpSyncAt}
use Rattle.fr_precision.specs.SharpStep.{AreSharp}
use Rattle.fr_promise.specs.SharpWay.{IsSharpWay}

-- a history whose starts and even lengths lie within stated numbers in a double cycle, in ticks, with lengths in their range; all
-- nodes are active in it, as they are in the first one in any case
pub record BeginsNear (beside : Bool) (x : Setting) (flutter start rate : ℕ) (h : Cycles) (double : ℕ) : Type 0 where
  pub run : IsSteadyRun beside x flutter h
  pub active : 1 ≤ double → BeginsActive h double
  pub first : (even : Cycle) → cycle_at h (2 * double) ≡ Some even → AreSharp x.params start rate (pos 0) even.told.rows

-- so many double cycles later: before the one that the way names no macroticks lie further apart than its peak; in it the
-- history is in sharp sync, and from it on it stays so as long as the walk lasts
pub record ComesByTheWay (beside : Bool) (x : Setting) (flutter : ℕ) (way : SharpWay) (h : Cycles) (double passed : ℕ) : Type 0 where
  pub before : passed < way.doubles → KeepsApart x h (double + passed) way.peak
  pub arrives :
      passed ≡ way.doubles → IsInSharpSyncAt beside x.params flutter (walked_after x.params flutter passed) h (double + passed)
  pub stays : way.doubles ≤ passed → StaysInSharpSyncAt beside x flutter h double passed

-- where no check for the way fails
abbrev pub HistoriesSettleSharply : Type 0
HistoriesSettleSharply =
    (beside : Bool) (x : Setting) (flutter start rate : ℕ) (way : SharpWay) (h : Cycles) (double : ℕ)
    → IsSharpWay beside x.params flutter start rate way → way.failed ≡ None → BeginsNear beside x flutter start rate h double
    → (passed : ℕ) → double + passed < x.doubles → ComesByTheWay beside x flutter way h double passed

-- and from cycle 0 on, of which so much is stated
abbrev pub StatedRunsSettleSharply : Type 0
StatedRunsSettleSharply =
    (beside : Bool) (x : Setting) (flutter start rate : ℕ) (way : SharpWay) (h : Cycles)
    → IsSharpWay beside x.params flutter start rate way → way.failed ≡ None
    → IsSteadyRun beside x flutter h → AreStatedNear x start rate
    → (double : ℕ) → double < x.doubles → ComesByTheWay beside x flutter way h 0 double
