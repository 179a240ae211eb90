-- The step of a run from one double cycle to the next: the clocks of its cycles, and when a double cycle is in
-- sync with its followers near. What was heard is left open.
use Rattle.std.specs.Prelude.{◌≡◌, ◌≤ℤ◌, ◌-ℤ◌, ◌<◌, ◌+◌, ◌*◌, ◌==◌, ℕ, suc, pos, Bool, true, false, ◌&&◌, List, [], ◌∷◌, length, map, filter, All, Contains, Option, None, Some, if◌then◌else◌}
use Rattle.fr_base.specs.Within.{IsWithin}
use Rattle.fr_cluster.specs.Questions.{own_index}
use Rattle.fr_cluster.specs.Sane.{IsSane}
use Rattle.fr_cluster.specs.Setting.{Setting, correct_nodes, is_correct}
use Rattle.fr_cluster.specs.Values.{amount}
use Rattle.fr_cluster.specs.declared.names.ParamName.TheVariants as name
use Rattle.fr_cluster.specs.declared.nodes.NodeSpec.{NodeSpec}
use Rattle.fr_reception.specs.Listening.{Caught}
use Rattle.fr_midpoint.specs.Receivers.{AreFew}
use Rattle.fr_measure.specs.Deviations.{deviations_of}
use Rattle.fr_bound.specs.Bounds.{lambda_of, longest_micro, precision_of, reach_of, shortest_micro}
use Rattle.fr_bound.specs.Checks.{holds_of}
use Rattle.fr_bound.specs.Sync.{IsInSync}
use Rattle.fr_precision.specs.Offsets.{LimitSuffices}
use Rattle.fr_history.specs.History.{row_for, row_of}
use Rattle.fr_history.specs.Rows.{RowsRun, offset_after}
use Rattle.fr_history.specs.Terms.{outcomes_in}
use Rattle.fr_runs.specs.Room.{RateLimitSuffices}
use Rattle.fr_runs.specs.Listening.{IsCaught}
use Rattle.fr_runs.specs.Following.{first_apart, first_lengths, second_apart}
use Rattle.fr_cluster.specs.declared.join.Join.{Join}
use Rattle.fr_history.specs.Cycles.{Cycle, Cycles, some_joins, told_of}
use Rattle.fr_history.specs.Catching.{begins_with}
use Rattle.fr_history.specs.Laws.{follower_laws, follower_offset, row_laws}
use Rattle.fr_history.specs.Standing.{following_nodes, has_row, row_nodes}
use Rattle.fr_precision.specs.Round.{Hearer, IsHeardAt, Round, sync_count}
use Rattle.fr_runs.specs.Hearers.{Hearers, IsOneOf, LiesNear}

-- the clocks of a cycle run by their laws, those of its rows and those of its followers, none of which has a row
pub record CycleRuns (x : Setting) (h : Cycles) (c : Cycle) : Type 0 where
  pub rows : RowsRun (row_laws x h) (offset_after x.params (told_of h) c.told) (row_nodes x h) c.told.rows
  pub followers : RowsRun (follower_laws x h) (follower_offset x.params h c.follower_devs) (following_nodes x h) c.followers
  pub apart : All (λ row. row_of c.told.rows row.node ≡ None) c.followers

-- ---- the receivers of a double cycle

-- its round: the senders are the correct sync nodes that have rows behind some cycles
abbrev pub round_at : Setting → Cycles → Cycle → Cycle → Round
round_at x h even odd = record {
  params = x.params;
  is_arbitrary = x.is_arbitrary;
  has_rows = λ node. is_correct x node && has_row x h node;
  even = row_for even.told.rows;
  odd = row_for odd.told.rows;
}

-- a node with rows as a receiver
abbrev pub row_hearer : Setting → Cycle → Cycle → ℕ → Hearer
row_hearer x even odd node = record {
  even = row_for even.told.rows node;
  odd = row_for odd.told.rows node;
  own = own_index x.params node;
  look = deviations_of x.params even.told.devs odd.told.devs node;
}

-- a node that follows as a receiver: it adds no value of its own
abbrev pub follower_hearer : Setting → Cycle → Cycle → ℕ → Hearer
follower_hearer x even odd node = record {
  even = row_for even.followers node;
  odd = row_for odd.followers node;
  own = None;
  look = deviations_of x.params even.follower_devs odd.follower_devs node;
}

-- whether a node that joins listened so many double cycles before this one
abbrev pub listened_by : Option Join → ℕ → ℕ → Bool
listened_by None ago double = false
listened_by (Some join) ago double = join.double + ago == double

-- the nodes that follow in a double cycle and listened so many double cycles before it
abbrev pub followers_since : Setting → Cycles → ℕ → ℕ → List NodeSpec
followers_since x h ago double = filter (λ node. listened_by (x.join node.id) ago double) (following_nodes x h)

-- whoever follows for the second time listened two double cycles ago, whoever follows for the first time one ago
abbrev pub hearers_of : Setting → Cycles → Cycle → Cycle → ℕ → Hearers
hearers_of x h even odd double = record {
  rows = map (λ node. row_hearer x even odd node.id) (row_nodes x h);
  seconds = map (λ node. follower_hearer x even odd node.id) (followers_since x h 2 double);
  firsts = map (λ node. follower_hearer x even odd node.id) (followers_since x h 1 double);
}

-- ---- a double cycle

-- how far an instant of a receiver may lie from the same one of a sender, in ticks: as far as the reach of the cluster where
-- some node joins, else as far as its precision
abbrev pub reach_in : Setting → ℕ
reach_in x = if some_joins x then reach_of x.params else precision_of x.params

-- the offset limit suffices for that, and the rate limit for a first rate where some node joins; oscillators keep within what
-- is stated, and whichever nodes have rows, the correct sync nodes among them outweigh the arbitrary ones
pub record AreClocksCovered (x : Setting) : Type 0 where
  pub sane : IsSane x.params
  pub first : holds_of 1 x.params ≡ true
  pub second : holds_of 2 x.params ≡ true
  pub limit : LimitSuffices x.params (pos (reach_in x))
  pub rate_limit : some_joins x ≡ true → RateLimitSuffices x.params
  pub few :
      (h : Cycles)
      → AreFew (sync_count x.params (λ node. is_correct x node && has_row x h node)) (sync_count x.params x.is_arbitrary)
  pub least :
      (node : NodeSpec) (cycle : ℕ) → Contains (correct_nodes x) node → cycle < 2 * x.doubles
      → pos (shortest_micro x.params) ≤ℤ x.microtick node.id cycle
  pub most :
      (node : NodeSpec) (cycle : ℕ) → Contains (correct_nodes x) node → cycle < 2 * x.doubles
      → x.microtick node.id cycle ≤ℤ pos (longest_micro x.params)
  pub changes :
      (node : NodeSpec) (cycle : ℕ) → Contains (correct_nodes x) node → suc cycle < 2 * x.doubles
      → IsWithin (pos (amount x.params name.xChangeBound)) (x.microtick node.id (suc cycle) -ℤ x.microtick node.id cycle)

-- the nodes with rows are in sync in a double cycle, after whole double cycles, and its followers lie near them
pub record IsDoubleInSync (x : Setting) (h : Cycles) (even odd : Cycle) (double : ℕ) : Type 0 where
  pub covered : AreClocksCovered x
  pub counted : length h ≡ 2 * double
  pub within : double < x.doubles
  pub even_runs : CycleRuns x h even
  pub odd_runs : CycleRuns x (even ∷ h) odd
  pub rates :
      (node : NodeSpec) → Contains (row_nodes x h) node → IsWithin x.params.rate_limit (row_for even.told.rows node.id).rate
  pub follower_rates :
      (node : NodeSpec) → Contains (following_nodes x h) node → IsWithin x.params.rate_limit (row_for even.followers node.id).rate
  pub in_sync : IsInSync x.params even.told.rows odd.told.rows
  pub seconds_near :
      (n : Hearer) → Contains (hearers_of x h even odd double).seconds n
      → LiesNear x.params (second_apart x.params) (lambda_of x.params) (hearers_of x h even odd double).rows n
  pub firsts_near :
      (n : Hearer) → Contains (hearers_of x h even odd double).firsts n
      → LiesNear x.params (first_apart x.params) (first_lengths x.params) (hearers_of x h even odd double).rows n
  -- no term is told of a node that had no row yet
  pub fresh :
      (node : NodeSpec) → Contains (correct_nodes x) node → has_row x h node.id ≡ false
      → outcomes_in x.params (told_of h) node.id ≡ []

-- what whoever supplies deviations owes of such a double cycle: each receiver has those of its senders, and what a node begins
-- to follow with behind it was caught of the frames of a node with rows, its reference
pub record IsHeardByAll (x : Setting) (h : Cycles) (even odd : Cycle) (double : ℕ) : Type 0 where
  pub supplied : (n : Hearer) → IsOneOf (hearers_of x h even odd double) n → IsHeardAt (round_at x h even odd) n
  pub caught :
      (node : NodeSpec) (join : Join) (c : Caught) → Contains (correct_nodes x) node → x.join node.id ≡ Some join
      → begins_with x (odd ∷ even ∷ h) node.id join ≡ Some c
      → (reference : NodeSpec) × Contains (row_nodes x h) reference × (reference.key ≡ Some c.slot)
      × IsCaught x.params c (row_for even.told.rows reference.id) (row_for odd.told.rows reference.id)
      × (c.even_length ≡ x.microtick node.id (2 * double)) × (c.odd_length ≡ x.microtick node.id (suc (2 * double)))

-- then the next double cycle, if its clocks run by their laws, is such a double cycle too
abbrev pub SyncGoesOn : Type 0
SyncGoesOn =
    (x : Setting) (h : Cycles) (even odd even2 odd2 : Cycle) (double : ℕ)
    → IsDoubleInSync x h even odd double → IsHeardByAll x h even odd double → suc double < x.doubles
    → CycleRuns x (odd ∷ even ∷ h) even2 → CycleRuns x (even2 ∷ odd ∷ even ∷ h) odd2
    → IsDoubleInSync x (odd ∷ even ∷ h) even2 odd2 (suc double)
