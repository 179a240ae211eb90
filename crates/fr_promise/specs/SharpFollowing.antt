-- A run whose delays flutter little, and the nodes that follow in one of its double cycles: they have steady pairs of the nodes
-- with rows (section 8.5).
use Rattle.std.specs.Prelude.{◌≡◌, ◌≤◌, ◌≤ℤ◌, ℕ, suc, ℤ, pos, Bool, ◌∷◌, length, All, Contains, Some}
use Rattle.fr_base.specs.Within.{IsWithin}
use Rattle.fr_base.specs.declared.state.State.TheVariants.{Active}
use Rattle.fr_cluster.specs.Setting.{Setting, correct_nodes}
use Rattle.fr_cluster.specs.declared.join.Join.{Join}
use Rattle.fr_cluster.specs.declared.nodes.NodeSpec.{NodeSpec}
use Rattle.fr_reception.specs.Listening.{Caught}
use Rattle.fr_bound.specs.Sync.{cycle_length_of}
use Rattle.fr_precision.specs.Instants.{gap_of, row_in}
use Rattle.fr_precision.specs.Offsets.{LimitSuffices}
use Rattle.fr_precision.specs.Reception.{LeavesRoom}
use Rattle.fr_history.specs.Catching.{begins_with}
use Rattle.fr_history.specs.Cycles.{Cycle, Cycles}
use Rattle.fr_history.specs.History.{row_for}
use Rattle.fr_history.specs.Standing.{following_nodes, row_nodes}
use Rattle.fr_runs.specs.Gathered.{follower_hearer, round_at}
use Rattle.fr_runs.specs.References.{HaveReferences}
use Rattle.fr_runs.specs.Rounds.{IsDoubleOf}
use Rattle.fr_precision.specs.Lengths.{IsAboutCycle}
use Rattle.fr_promise.specs.SharpListening.{IsCaughtSharply}
use Rattle.fr_bound.specs.SharpBounds.{last_action}
use Rattle.fr_precision.specs.SharpRound.{IsSteadilySupplied}
use Rattle.fr_runs.specs.SteadyRuns.{IsSteadyPartFrom}

-- the nodes with rows in a double cycle are active in it, those that follow have rates within their limit, in microticks, and
-- their action points lie within a reach of those of the nodes with rows, in ticks, for which the offset limit suffices and slots
-- leave room
pub record AreFollowersInReach (x : Setting) (h : Cycles) (even odd : Cycle) (reach : ℤ) : Type 0 where
  pub active_even : All (λ row. row.state ≡ Active) even.told.rows
  pub active_odd : All (λ row. row.state ≡ Active) odd.told.rows
  pub rates :
      (node : NodeSpec) → Contains (following_nodes x h) node → IsWithin x.params.rate_limit (row_for even.followers node.id).rate
  pub limit : LimitSuffices x.params reach
  pub room : LeavesRoom x.params reach
  pub acts :
      (is_odd : Bool) (sender follower : NodeSpec) (action : ℤ) → Contains (row_nodes x h) sender
      → Contains (following_nodes x h) follower → pos 0 ≤ℤ action → action ≤ℤ pos (last_action x.params)
      → IsWithin reach
      (
      gap_of x.params is_odd action (row_in is_odd (row_for even.told.rows sender.id) (row_for odd.told.rows sender.id))
      (row_in is_odd (row_for even.followers follower.id) (row_for odd.followers follower.id))
      )

-- then each that follows has its deviations of every sender among the nodes with rows, and those of one channel are a steady pair
abbrev pub FollowersHearSteadily : Type 0
FollowersHearSteadily =
    (x : Setting) (from flutter : ℕ) (h earlier : Cycles) (even odd : Cycle) (double : ℕ) (reach : ℤ) (node : NodeSpec)
    → IsSteadyPartFrom x from flutter h → from ≤ double → IsDoubleOf h double earlier even odd
    → AreFollowersInReach x earlier even odd reach
    → Contains (following_nodes x earlier) node
    → IsSteadilySupplied (round_at x earlier even odd) flutter (follower_hearer x even odd node.id)

-- the nodes with rows in a double cycle have rates within their limit, in microticks, and even lengths at most so far beyond
-- their range, in ticks
pub record AreRowsAbout (x : Setting) (beyond : ℤ) (even : Cycle) : Type 0 where
  pub rates : All (λ row. IsWithin x.params.rate_limit row.rate) even.told.rows
  pub about : All (λ row. IsAboutCycle x.params beyond (cycle_length_of x.params row)) even.told.rows

-- of one of them, and of its own microticks, was caught what a node begins to follow with
pub record IsCaughtOf (x : Setting) (flutter : ℕ) (beyond : ℤ) (h : Cycles) (even odd : Cycle) (node : NodeSpec) (join : Join) (c : Caught) : Type 0 where
  pub reference : NodeSpec
  pub named : reference.id ≡ join.reference
  pub among : Contains (row_nodes x h) reference
  pub key : reference.key ≡ Some c.slot
  pub caught : IsCaughtSharply x.params flutter beyond c (row_for even.told.rows reference.id) (row_for odd.told.rows reference.id)
  pub even_length : c.even_length ≡ x.microtick node.id (length h)
  pub odd_length : c.odd_length ≡ x.microtick node.id (suc (length h))

-- what a node begins to follow with behind a double cycle was caught of its reference's frames, whose delays flutter little
abbrev pub CatchesAreSharp : Type 0
CatchesAreSharp =
    (x : Setting) (from flutter : ℕ) (h earlier : Cycles) (even odd : Cycle) (double : ℕ) (beyond : ℤ) (node : NodeSpec) (join : Join) (c : Caught)
    → IsSteadyPartFrom x from flutter h → from ≤ double → IsDoubleOf h double earlier even odd
    → HaveReferences x → AreRowsAbout x beyond even
    → Contains (correct_nodes x) node → x.join node.id ≡ Some join → begins_with x (odd ∷ even ∷ earlier) node.id join ≡ Some c
    → IsCaughtOf x flutter beyond earlier even odd node join c
