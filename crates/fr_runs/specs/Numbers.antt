-- What a covered run keeps from a double cycle in sync to the next one, in numbers: of rates and of offsets.
-- It is said of the nodes that have a row in that double cycle, whoever follows in it, and however far off.
use Rattle.std.specs.Prelude.{◌≡◌, ◌≤◌, ℕ, suc, ◌+◌, ◌*◌, ℤ, ◌+ℤ◌, ◌-ℤ◌, ◌*ℤ◌, pos, Bool, length, Contains, IsSome, Some}
use Rattle.fr_base.specs.Event.Event.{Regular}
use Rattle.fr_base.specs.Rows.{dev_in}
use Rattle.fr_base.specs.Within.{IsWithin}
use Rattle.fr_base.specs.declared.channel.Channel.{Channel}
use Rattle.fr_base.specs.declared.state.Outcome.TheVariants.{Within}
use Rattle.fr_cluster.specs.Questions.{own_index}
use Rattle.fr_cluster.specs.Setting.{Setting, correct_nodes}
use Rattle.fr_cluster.specs.Values.{Values, amount}
use Rattle.fr_cluster.specs.declared.names.ParamName.TheVariants as name
use Rattle.fr_cluster.specs.declared.nodes.NodeSpec.{NodeSpec}
use Rattle.fr_bound.specs.Bounds.{arrival_error, cycle_change, lambda_of, longest_micro, pi_of, y1_of}
use Rattle.fr_bound.specs.Sync.{cycle_length_of, IsCycleLength}
use Rattle.fr_correct.specs.declared.term.Term.{Term}
use Rattle.fr_history.specs.History.{Record, row_for, row_of}
use Rattle.fr_history.specs.Terms.{offset_term_by, rate_term_by}
use Rattle.fr_history.specs.Cycles.{Cycle, Cycles, cycle_at}
use Rattle.fr_history.specs.Lawful.{IsLawful}
use Rattle.fr_history.specs.Unfollowed.{RowsAreInSyncAt}
use Rattle.fr_runs.specs.Links.{IsLinked, Share, cycle_in, record_in}
use Rattle.fr_runs.specs.Rounds.{RatesBegin}
use Rattle.fr_runs.specs.Supplied.{IsCovered}
use Rattle.fr_runs.specs.Stated.{IsCoveredRun, all_cycles}

-- a run, or its cycles up to one of them: they are lawful, it is covered and begins with rates within their limit, and the
-- nodes that have rows in one of its double cycles are in sync there
pub record IsSyncedRun (x : Setting) (h : Cycles) (double : ℕ) : Type 0 where
  pub covered : IsCovered x
  pub rates : RatesBegin x
  pub lawful : IsLawful x h
  pub within : length h ≤ 2 * x.doubles
  pub synced : RowsAreInSyncAt x.params h double

-- all cycles of a run that is stated are such a run in each double cycle in sync
abbrev pub StatedRunsAreSynced : Type 0
StatedRunsAreSynced =
    (x : Setting) (double : ℕ)
    → IsCoveredRun x → RowsAreInSyncAt x.params (all_cycles x) double → IsSyncedRun x (all_cycles x) double

-- the run has the two cycles of a double cycle
pub record HasDouble (h : Cycles) (double : ℕ) (even odd : Cycle) : Type 0 where
  pub has_even : cycle_at h (2 * double) ≡ Some even
  pub has_odd : cycle_at h (suc (2 * double)) ≡ Some odd

-- a correct node has a row in a cycle
pub record HasRowIn (x : Setting) (c : Cycle) (node : NodeSpec) : Type 0 where
  pub correct : Contains (correct_nodes x) node
  pub row : IsSome (row_of c.told.rows node.id)

-- ---- rates

-- twice how far the lengths of two cycles of the next double cycle may lie apart
abbrev pub lengths_after : Values → ℤ
lengths_after p =
    pos (lambda_of p)
    +ℤ pos
    (4 * y1_of p + 2 * longest_micro p + 4 * (amount p name.pClusterDriftDamping * longest_micro p) + 8 * cycle_change p)

-- the length of a node's cycle by its row in a record
abbrev pub node_length : Setting → Record → NodeSpec → ℤ
node_length x r node = cycle_length_of x.params (row_for r.rows node.id)

-- the lengths of the cycles of two nodes lie so near, and that of the one is proper
pub record HasNearLength (x : Setting) (r : Record) (one other : NodeSpec) : Type 0 where
  pub near : IsWithin (lengths_after x.params) (pos 2 *ℤ (node_length x r one -ℤ node_length x r other))
  pub proper : IsCycleLength x.params (node_length x r one)

-- the rate term that a node with a row computes at the end of a double cycle
abbrev pub rate_term_told : Setting → Cycle → Cycle → NodeSpec → Term
rate_term_told x even odd node =
    rate_term_by x.params even.told.devs odd.told.devs (row_for odd.told.rows node.id) (own_index x.params node.id)

-- no rate term that one of them computes at the end of the double cycle is cut or missing, and in both cycles of the next one
-- their lengths lie near each other and are proper
pub record KeepsRates (x : Setting) (h : Cycles) (double : ℕ) (even odd : Cycle) : Type 0 where
  pub uncut : (node : NodeSpec) → HasRowIn x even node → (rate_term_told x even odd node).outcome ≡ Within
  pub lengths :
      (next_even next_odd : Cycle) (one other : NodeSpec)
      → HasDouble h (suc double) next_even next_odd → HasRowIn x even one → HasRowIn x even other
      → HasNearLength x next_even.told one other × HasNearLength x next_odd.told one other

abbrev pub JoinedRunsKeepRates : Type 0
JoinedRunsKeepRates =
    (x : Setting) (h : Cycles) (double : ℕ) (s : IsSyncedRun x h double)
    → KeepsRates x h double s.synced.even s.synced.odd

-- ---- offsets

-- twice how far two starts of the next double cycle may lie apart
abbrev pub starts_after : Values → ℤ
starts_after p =
    pos (pi_of p) +ℤ (pos 6 *ℤ pos (lambda_of p)) +ℤ pos (4 * arrival_error p + 8 * longest_micro p)

-- the start of a node's cycle by its row in a record
abbrev pub node_start : Record → NodeSpec → ℤ
node_start r node = (row_for r.rows node.id).start

-- the offset term there
abbrev pub offset_term_told : Setting → Cycle → Cycle → NodeSpec → Term
offset_term_told x even odd node =
    offset_term_by x.params even.told.devs odd.told.devs node.id (own_index x.params node.id)

-- every sync frame that one of them sends in its key slot, and that no event takes or flips, is stored at every other one that
-- has the channel
abbrev pub StoresSyncFrames : Setting → Cycle → Cycle → ℕ → Type 0
StoresSyncFrames x even odd double =
    (is_odd : Bool) (sender receiver : NodeSpec) (slot : ℕ) (channel : Channel)
    → IsLinked x sender receiver slot → HasRowIn x even sender → HasRowIn x even receiver → Share sender receiver channel
    → x.event (cycle_in is_odd double) sender.id receiver.id channel ≡ Regular
    → IsSome (dev_in (record_in is_odd even.told odd.told).devs receiver.id slot channel)

-- no offset term that one of them computes at the end of the double cycle is cut or missing, their starts of the next one lie
-- near each other, and their sync frames are stored
pub record KeepsOffsets (x : Setting) (h : Cycles) (double : ℕ) (even odd : Cycle) : Type 0 where
  pub uncut : (node : NodeSpec) → HasRowIn x even node → (offset_term_told x even odd node).outcome ≡ Within
  pub starts :
      (next_even next_odd : Cycle) (one other : NodeSpec)
      → HasDouble h (suc double) next_even next_odd → HasRowIn x even one → HasRowIn x even other
      → IsWithin (starts_after x.params) (pos 2 *ℤ (node_start next_even.told one -ℤ node_start next_even.told other))
  pub stored : StoresSyncFrames x even odd double

abbrev pub JoinedRunsKeepOffsets : Type 0
JoinedRunsKeepOffsets =
    (x : Setting) (h : Cycles) (double : ℕ) (s : IsSyncedRun x h double)
    → KeepsOffsets x h double s.synced.even s.synced.odd
