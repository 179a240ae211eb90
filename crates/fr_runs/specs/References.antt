-- The references of nodes that join, and what is caught of them.
use Rattle.std.specs.Prelude.{◌≡◌, ◌≢◌, ◌≤ℤ◌, ◌<◌, ◌*◌, ℕ, suc, pos, true, ◌∷◌, Contains, None, Some}
use Rattle.fr_base.specs.declared.channel.Channel.{Channel}
use Rattle.fr_base.specs.declared.node_row.NodeRow.{NodeRow}
use Rattle.fr_cluster.specs.Sane.{IsSane}
use Rattle.fr_cluster.specs.Setting.{Setting, correct_nodes}
use Rattle.fr_cluster.specs.Values.{Values}
use Rattle.fr_cluster.specs.declared.nodes.NodeSpec.{NodeSpec}
use Rattle.fr_reception.specs.Listening.{Caught, suffices}
use Rattle.fr_bound.specs.Sync.{cycle_length_of, IsCycleLength}
use Rattle.fr_precision.specs.Reception.{IsDelay}
use Rattle.fr_history.specs.Offers.{is_on}
use Rattle.fr_runs.specs.Room.{LimitReaches, RateLimitSuffices}
use Rattle.fr_runs.specs.Listening.{IsCaught}
use Rattle.fr_cluster.specs.declared.join.Join.{Join}
use Rattle.fr_history.specs.Cycles.{Cycle, Cycles}
use Rattle.fr_history.specs.Catching.{begins_with}
use Rattle.fr_history.specs.Standing.{row_nodes}
use Rattle.fr_history.specs.History.{row_for}
use Rattle.fr_runs.specs.Gathered.{IsDoubleInSync}

-- a node that joins has a reference: another correct node with a key slot, which does not join itself
pub record IsReference (x : Setting) (node : NodeSpec) (join : Join) : Type 0 where
  pub reference : NodeSpec
  pub slot : ℕ
  pub correct : Contains (correct_nodes x) reference
  pub named : reference.id ≡ join.reference
  pub key : reference.key ≡ Some slot
  pub stays : x.join reference.id ≡ None
  pub other : reference.id ≢ node.id

-- each node that joins has one
abbrev pub HaveReferences : Setting → Type 0
HaveReferences x =
    (node : NodeSpec) (join : Join) → Contains (correct_nodes x) node → x.join node.id ≡ Some join
    → IsReference x node join

-- and delays between correct nodes keep within what is stated
pub record AreReferenced (x : Setting) : Type 0 where
  pub references : HaveReferences x
  pub delays :
      (sender receiver : NodeSpec) (slot : ℕ) (channel : Channel) (cycle : ℕ)
      → Contains (correct_nodes x) sender → Contains (correct_nodes x) receiver
      → sender.key ≡ Some slot → sender.id ≢ receiver.id
      → is_on x sender.id channel ≡ true → is_on x receiver.id channel ≡ true → cycle < 2 * x.doubles
      → IsDelay x.params channel (x.delay sender.id receiver.id channel cycle)

-- so what a node begins to follow with was caught of its reference's frames
abbrev pub CatchesAreCaught : Type 0
CatchesAreCaught =
    (x : Setting) (h : Cycles) (even odd : Cycle) (double : ℕ) (node : NodeSpec) (join : Join) (c : Caught)
    → IsDoubleInSync x h even odd double → AreReferenced x → Contains (correct_nodes x) node → x.join node.id ≡ Some join
    → begins_with x (odd ∷ even ∷ h) node.id join ≡ Some c
    → (reference : NodeSpec) × Contains (row_nodes x h) reference × (reference.key ≡ Some c.slot)
    × IsCaught x.params c (row_for even.told.rows reference.id) (row_for odd.told.rows reference.id)
    × (c.even_length ≡ x.microtick node.id (2 * double)) × (c.odd_length ≡ x.microtick node.id (suc (2 * double)))

-- and it suffices to begin with, where the reference's start is not negative and the length of its even cycle is proper
abbrev pub CatchesSuffice : Type 0
CatchesSuffice =
    (p : Values) (c : Caught) (even odd : NodeRow) → IsSane p → RateLimitSuffices p → LimitReaches p
    → IsCaught p c even odd → IsCycleLength p (cycle_length_of p even) → pos 0 ≤ℤ even.start → suffices p c ≡ true
