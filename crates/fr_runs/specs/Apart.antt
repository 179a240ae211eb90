-- A double cycle of a run whose nodes with rows lie apart by free numbers, as nodes do that are not yet in sync, and the next one;
-- whoever follows is left out.
use Rattle.std.specs.Prelude.{◌≡◌, ◌≤◌, ◌≤ℤ◌, ◌+ℤ◌, ◌*ℤ◌, ◌*◌, ℕ, suc, ℤ, pos, Bool, ◌∷◌, length, All, Some}
use Rattle.fr_base.specs.Rows.{dev_in}
use Rattle.fr_base.specs.declared.channel.Channel.{Channel}
use Rattle.fr_base.specs.declared.state.Outcome.TheVariants.{Within}
use Rattle.fr_base.specs.declared.state.State.TheVariants.{Active}
use Rattle.fr_cluster.specs.Setting.{Setting}
use Rattle.fr_cluster.specs.declared.nodes.NodeSpec.{NodeSpec}
use Rattle.fr_time.specs.Slots.{action_point_of}
use Rattle.fr_bound.specs.Bounds.{longest_micro}
use Rattle.fr_bound.specs.Sync.{cycle_length_of, IsCycleLength}
use Rattle.fr_precision.specs.Instants.{LieNear}
use Rattle.fr_precision.specs.Offsets.{IsDeviation, LimitSuffices}
use Rattle.fr_precision.specs.Reception.{LeavesRoom}
use Rattle.fr_precision.specs.Step.{AreSpread, Shrinks}
use Rattle.fr_history.specs.History.{row_for}
use Rattle.fr_history.specs.Cycles.{Cycle, Cycles, told_of}
use Rattle.fr_history.specs.Lawful.{IsLawful}
use Rattle.fr_history.specs.Standing.{row_nodes}
use Rattle.fr_history.specs.Terms.{status_in}
use Rattle.fr_runs.specs.Links.{IsLinked, record_in}
use Rattle.fr_runs.specs.Numbers.{HasRowIn, StoresSyncFrames, offset_term_told, rate_term_told}
use Rattle.fr_runs.specs.Rounds.{IsDoubleOf, RatesBegin}
use Rattle.fr_runs.specs.Supplied.{IsCovered}

-- lawful cycles of a covered run that begins with rates within their limit, in microticks: all that it has, or those up to one of
-- them
pub record IsLawfulPart (x : Setting) (h : Cycles) : Type 0 where
  pub covered : IsCovered x
  pub rates : RatesBegin x
  pub lawful : IsLawful x h
  pub within : length h ≤ 2 * x.doubles

-- The nodes that have rows in a double cycle lie apart by free numbers, all of them in ticks: their starts by `starts`, and the
-- lengths of either cycle by `lengths`.
pub record AreRowsSpread (x : Setting) (even odd : Cycle) (starts lengths reach : ℤ) : Type 0 where
  pub active_even : All (λ row. row.state ≡ Active) even.told.rows
  pub active_odd : All (λ row. row.state ≡ Active) odd.told.rows
  -- the offset limit suffices for corrections as far as `reach`, and slots leave room for frames that come so early or late
  pub limit : LimitSuffices x.params reach
  pub room : LeavesRoom x.params reach
  -- which takes in how far two action points may lie apart
  pub fits : (starts +ℤ (pos 2 *ℤ lengths) +ℤ pos (longest_micro x.params)) ≤ℤ reach
  -- and all lengths are proper
  pub spread : AreSpread x.params starts lengths even.told.rows odd.told.rows

-- each deviation that one of these nodes stores of the key slot of another one, in microticks, is one of both rows, whatever
-- came of the frame
abbrev pub PlacesSyncFrames : Setting → Cycle → Cycle → Type 0
PlacesSyncFrames x even odd =
    (is_odd : Bool) (sender receiver : NodeSpec) (slot : ℕ) (channel : Channel) (value : ℤ)
    → IsLinked x sender receiver slot → HasRowIn x even sender → HasRowIn x even receiver
    → dev_in (record_in is_odd even.told odd.told).devs receiver.id slot channel ≡ Some value
    → IsDeviation x.params is_odd (pos (action_point_of x.params slot))
    (row_for (record_in is_odd even.told odd.told).rows receiver.id) (row_for (record_in is_odd even.told odd.told).rows sender.id)
    value

-- a node is active in both cycles of a double cycle, and their lengths, in ticks, are proper
pub record IsActiveIn (x : Setting) (even odd : Cycle) (node : NodeSpec) : Type 0 where
  pub active_even : (row_for even.told.rows node.id).state ≡ Active
  pub active_odd : (row_for odd.told.rows node.id).state ≡ Active
  pub proper_even : IsCycleLength x.params (cycle_length_of x.params (row_for even.told.rows node.id))
  pub proper_odd : IsCycleLength x.params (cycle_length_of x.params (row_for odd.told.rows node.id))

-- two nodes lie so near in a double cycle, in ticks
abbrev pub LieNearIn : Setting → ℤ → ℤ → Cycle → Cycle → NodeSpec → NodeSpec → Type 0
LieNearIn x starts lengths even odd one other =
    LieNear x.params starts lengths lengths (row_for even.told.rows one.id) (row_for odd.told.rows one.id)
    (row_for even.told.rows other.id) (row_for odd.told.rows other.id)

-- what a double cycle whose rows are spread comes to
pub record DrawsNear (x : Setting) (h earlier : Cycles) (even odd : Cycle) (double : ℕ) (starts lengths : ℤ) : Type 0 where
  -- every sync frame between two of these nodes that no event takes or flips is stored
  pub stored : StoresSyncFrames x even odd double
  -- as a deviation of both rows
  pub placed : PlacesSyncFrames x even odd
  -- no term that one of them computes at its end is cut or missing, and each is active after it
  pub rate_within : (node : NodeSpec) → HasRowIn x even node → (rate_term_told x even odd node).outcome ≡ Within
  pub offset_within : (node : NodeSpec) → HasRowIn x even node → (offset_term_told x even odd node).outcome ≡ Within
  pub active : (node : NodeSpec) → HasRowIn x even node → (status_in x.params (told_of (odd ∷ even ∷ earlier)) node.id).state ≡ Active
  -- they are active in the next double cycle too
  pub next_active :
      (next_even next_odd : Cycle) (node : NodeSpec)
      → IsDoubleOf h (suc double) (odd ∷ even ∷ earlier) next_even next_odd → HasRowIn x even node
      → IsActiveIn x next_even next_odd node
  -- where any two of them lie half as far apart, and some, by whatever numbers are no less than that
  pub next :
      (next_even next_odd : Cycle) (next_starts next_lengths : ℤ) (one other : NodeSpec)
      → IsDoubleOf h (suc double) (odd ∷ even ∷ earlier) next_even next_odd
      → Shrinks x.params starts lengths next_starts next_lengths → HasRowIn x even one → HasRowIn x even other
      → LieNearIn x next_starts next_lengths next_even next_odd one other
  -- so all rows of the next double cycle are active and spread by these numbers, where no further node has one
  pub next_spread :
      (next_even next_odd : Cycle) (next_starts next_lengths : ℤ)
      → IsDoubleOf h (suc double) (odd ∷ even ∷ earlier) next_even next_odd
      → Shrinks x.params starts lengths next_starts next_lengths → row_nodes x (odd ∷ even ∷ earlier) ≡ row_nodes x earlier
      → All (λ row. row.state ≡ Active) next_even.told.rows × All (λ row. row.state ≡ Active) next_odd.told.rows
      × AreSpread x.params next_starts next_lengths next_even.told.rows next_odd.told.rows

abbrev pub SpreadRowsDrawNear : Type 0
SpreadRowsDrawNear =
    (x : Setting) (h earlier : Cycles) (even odd : Cycle) (double : ℕ) (starts lengths reach : ℤ)
    → IsLawfulPart x h → IsDoubleOf h double earlier even odd → AreRowsSpread x even odd starts lengths reach
    → DrawsNear x h earlier even odd double starts lengths
