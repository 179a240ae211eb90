-- A cycle in which some correct nodes send and some receive, by the rows of both: in a run each node does both, and a node that
-- only follows receives alone.
use Rattle.std.specs.Prelude.{◌≡◌, ◌≢◌, ◌<◌, ℕ, ℤ, pos, Bool, false, List, map, AllPairs, Contains, Some, None, IsSome}
use Rattle.fr_base.specs.Event.Event.{Regular}
use Rattle.fr_base.specs.Rows.{dev_in}
use Rattle.fr_base.specs.States.{is_halted}
use Rattle.fr_base.specs.Within.{IsWithin}
use Rattle.fr_base.specs.declared.channel.Channel.{Channel}
use Rattle.fr_base.specs.declared.dev.Dev.{Dev}
use Rattle.fr_base.specs.declared.node_row.NodeRow.{NodeRow}
use Rattle.fr_base.specs.declared.state.State.TheVariants.{Active}
use Rattle.fr_cluster.specs.Sane.{IsSane}
use Rattle.fr_cluster.specs.Setting.{Setting, correct_nodes}
use Rattle.fr_cluster.specs.declared.nodes.NodeSpec.{NodeSpec}
use Rattle.fr_time.specs.Slots.{action_point_of}
use Rattle.fr_precision.specs.Instants.{gap_of}
use Rattle.fr_precision.specs.Offsets.{IsDeviation}
use Rattle.fr_precision.specs.Reception.{IsDelay, LeavesRoom}
use Rattle.fr_precision.specs.Rows.{HasProperMicro}
use Rattle.fr_history.specs.History.{AreRowsOf, row_for, row_of}
use Rattle.fr_history.specs.Rows.{uncorrected}
use Rattle.fr_history.specs.Offers.{AreReceptionsBetween, Reception, devs_among}
use Rattle.fr_runs.specs.Links.{Share}

-- the number of the cycle; the nodes that send, and their rows; those that receive, and theirs; and what these recorded
pub record Exchange : Type 0 where
  pub cycle : ℕ
  pub senders : List NodeSpec
  pub sender_rows : List NodeRow
  pub receivers : List NodeSpec
  pub receiver_rows : List NodeRow
  pub devs : List Dev

-- a sender with this key slot, and another node that receives
pub record IsExchanged (e : Exchange) (sender receiver : NodeSpec) (slot : ℕ) : Type 0 where
  pub sends : Contains e.senders sender
  pub hears : Contains e.receivers receiver
  pub key : sender.key ≡ Some slot
  pub other : sender.id ≢ receiver.id

-- the rows are those of correct nodes, and the deviations those that the receivers stored of what the senders offered
pub record IsExchangeOf (x : Setting) (e : Exchange) : Type 0 where
  pub correct_senders : (node : NodeSpec) → Contains e.senders node → Contains (correct_nodes x) node
  pub correct_receivers : (node : NodeSpec) → Contains e.receivers node → Contains (correct_nodes x) node
  pub sender_nodes : AreRowsOf e.senders e.sender_rows
  pub receiver_nodes : AreRowsOf e.receivers e.receiver_rows
  pub receivers_ascend : AllPairs (λ a b. a.id < b.id) e.receivers
  pub receptions : List Reception
  pub received : AreReceptionsBetween x e.cycle (map uncorrected e.sender_rows) (map uncorrected e.receiver_rows) receptions
  pub devs : e.devs ≡ devs_among receptions

-- slots leave room for a reach, senders are active, receivers are not halted and have proper rates and microticks, and each
-- sender's action point lies within reach of each receiver's, with proper delays
pub record IsNearExchange (x : Setting) (e : Exchange) (is_odd : Bool) (reach : ℤ) : Type 0 where
  pub sane : IsSane x.params
  pub room : LeavesRoom x.params reach
  pub is : IsExchangeOf x e
  pub active : (node : NodeSpec) → Contains e.senders node → (row_for e.sender_rows node.id).state ≡ Active
  pub hearing : (node : NodeSpec) → Contains e.receivers node → is_halted (row_for e.receiver_rows node.id).state ≡ false
  pub rate :
      (node : NodeSpec) → Contains e.receivers node
      → IsWithin x.params.rate_limit (row_for e.receiver_rows node.id).rate
  pub micro : (node : NodeSpec) → Contains e.receivers node → HasProperMicro x.params (row_for e.receiver_rows node.id)
  pub near :
      (sender receiver : NodeSpec) (slot : ℕ) → IsExchanged e sender receiver slot
      → IsWithin reach
      (
      gap_of x.params is_odd (pos (action_point_of x.params slot)) (row_for e.sender_rows sender.id)
      (row_for e.receiver_rows receiver.id)
      )
  pub delays :
      (sender receiver : NodeSpec) (slot : ℕ) (channel : Channel)
      → IsExchanged e sender receiver slot → Share sender receiver channel
      → IsDelay x.params channel (x.delay sender.id receiver.id channel e.cycle)

-- then each recorded deviation of a sender is one of both rows, whatever came of its frame
abbrev pub RecordedIsPlaced : Type 0
RecordedIsPlaced =
    (x : Setting) (e : Exchange) (is_odd : Bool) (reach : ℤ) (sender receiver : NodeSpec) (slot : ℕ) (channel : Channel)
    (value : ℤ)
    → IsNearExchange x e is_odd reach → IsExchanged e sender receiver slot
    → dev_in e.devs receiver.id slot channel ≡ Some value
    → IsDeviation x.params is_odd (pos (action_point_of x.params slot)) (row_for e.receiver_rows receiver.id)
    (row_for e.sender_rows sender.id) value

-- there is one where the frame is regular
abbrev pub RegularIsRecorded : Type 0
RegularIsRecorded =
    (x : Setting) (e : Exchange) (is_odd : Bool) (reach : ℤ) (sender receiver : NodeSpec) (slot : ℕ) (channel : Channel)
    → IsNearExchange x e is_odd reach → IsExchanged e sender receiver slot → Share sender receiver channel
    → x.event e.cycle sender.id receiver.id channel ≡ Regular → IsSome (dev_in e.devs receiver.id slot channel)

-- and there is none of a correct node that is no sender
abbrev pub AbsentIsNotRecorded : Type 0
AbsentIsNotRecorded =
    (x : Setting) (e : Exchange) (node receiver : NodeSpec) (slot : ℕ) (channel : Channel)
    → IsSane x.params → IsExchangeOf x e → Contains (correct_nodes x) node → node.key ≡ Some slot
    → row_of e.sender_rows node.id ≡ None → Contains e.receivers receiver
    → dev_in e.devs receiver.id slot channel ≡ None
