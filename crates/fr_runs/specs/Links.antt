-- What a node stores of the frames of a correct sender, by the rows of both, whoever the receiver is: a node of a run, or one
-- that only follows.
use Rattle.std.specs.Prelude.{◌≡◌, ◌≢◌, ℕ, suc, ◌*◌, ℤ, pos, Bool, true, false, List, Contains, Option, Some, None, IsSome}
use Rattle.fr_base.specs.Event.Event.{Regular}
use Rattle.fr_base.specs.States.{is_halted}
use Rattle.fr_base.specs.Within.{IsWithin}
use Rattle.fr_base.specs.declared.channel.Channel.{Channel}
use Rattle.fr_base.specs.declared.node_row.NodeRow.{NodeRow}
use Rattle.fr_base.specs.declared.state.State.TheVariants.{Active}
use Rattle.fr_cluster.specs.Questions.{has_channel}
use Rattle.fr_cluster.specs.Sane.{IsSane}
use Rattle.fr_cluster.specs.Setting.{Setting, correct_nodes}
use Rattle.fr_cluster.specs.declared.nodes.NodeSpec.{NodeSpec}
use Rattle.fr_time.specs.Slots.{action_point_of}
use Rattle.fr_precision.specs.Instants.{gap_of}
use Rattle.fr_precision.specs.Offsets.{IsDeviation}
use Rattle.fr_precision.specs.Reception.{IsDelay, LeavesRoom}
use Rattle.fr_precision.specs.Rows.{HasProperMicro}
use Rattle.fr_history.specs.History.{Record, row_of}
use Rattle.fr_history.specs.Rows.{uncorrected}
use Rattle.fr_history.specs.Offers.{stored_in}

-- ---- two nodes

-- a correct node with this key slot, and another correct node
pub record IsLinked (x : Setting) (sender receiver : NodeSpec) (slot : ℕ) : Type 0 where
  pub sends : Contains (correct_nodes x) sender
  pub hears : Contains (correct_nodes x) receiver
  pub key : sender.key ≡ Some slot
  pub other : sender.id ≢ receiver.id

-- both have the channel
pub record Share (sender receiver : NodeSpec) (channel : Channel) : Type 0 where
  pub by_sender : has_channel (Some sender) channel ≡ true
  pub by_receiver : has_channel (Some receiver) channel ≡ true

-- a channel that both have carries the regular frames of both cycles of a double cycle
pub record IsCarried (x : Setting) (sender receiver : NodeSpec) (double : ℕ) : Type 0 where
  pub channel : Channel
  pub share : Share sender receiver channel
  pub even : x.event (2 * double) sender.id receiver.id channel ≡ Regular
  pub odd : x.event (suc (2 * double)) sender.id receiver.id channel ≡ Regular

-- the record of one of both cycles
abbrev pub record_in : Bool → Record → Record → Record
record_in false even odd = even
record_in true even odd = odd

-- the number of one of both cycles
abbrev pub cycle_in : Bool → ℕ → ℕ
cycle_in false double = 2 * double
cycle_in true double = suc (2 * double)

-- ---- one frame

-- a correct sender in its key slot, and a receiver, in a cycle: the rows with which the cycle ends at both, and the rows of
-- all nodes that send, before their corrections
pub record Link : Type 0 where
  pub cycle : ℕ
  pub rows : List NodeRow
  pub sender : NodeSpec
  pub receiver : NodeSpec
  pub slot : ℕ
  pub from : NodeRow
  pub at : NodeRow

-- slots leave room for the reach, the receiver has a proper rate and a proper microtick, the sender's action point lies within
-- reach of its own, and delays are proper
pub record IsNearLink (x : Setting) (l : Link) (is_odd : Bool) (reach : ℤ) : Type 0 where
  pub sane : IsSane x.params
  pub room : LeavesRoom x.params reach
  pub sends : Contains x.params.nodes l.sender
  pub correct : x.is_arbitrary l.sender.id ≡ false
  pub key : l.sender.key ≡ Some l.slot
  pub found : row_of l.rows l.sender.id ≡ Some (uncorrected l.from)
  pub from_node : l.from.node ≡ l.sender.id
  pub hears : Contains x.params.nodes l.receiver
  pub at_node : l.at.node ≡ l.receiver.id
  pub other : l.sender.id ≢ l.receiver.id
  pub rate : IsWithin x.params.rate_limit l.at.rate
  pub micro : HasProperMicro x.params l.at
  pub near : IsWithin reach (gap_of x.params is_odd (pos (action_point_of x.params l.slot)) l.from l.at)
  pub delays :
      (channel : Channel) → Share l.sender l.receiver channel
      → IsDelay x.params channel (x.delay l.sender.id l.receiver.id channel l.cycle)

-- the deviation that the receiver stores of the sender's slot, if it stores one
abbrev pub stored_on : Setting → Link → Channel → Option ℤ
stored_on x l channel = stored_in x l.cycle l.rows (uncorrected l.at) l.slot channel

-- each deviation that it stores there is one of both rows, whatever came of the frame
abbrev pub StoredIsPlaced : Type 0
StoredIsPlaced =
    (x : Setting) (l : Link) (is_odd : Bool) (reach : ℤ) (channel : Channel) (value : ℤ)
    → IsNearLink x l is_odd reach → stored_on x l channel ≡ Some value
    → IsDeviation x.params is_odd (pos (action_point_of x.params l.slot)) l.at l.from value

-- a regular frame of an active sender is stored, where the receiver is not halted and has the channel
abbrev pub RegularIsStored : Type 0
RegularIsStored =
    (x : Setting) (l : Link) (is_odd : Bool) (reach : ℤ) (channel : Channel)
    → IsNearLink x l is_odd reach → Share l.sender l.receiver channel
    → l.from.state ≡ Active → is_halted l.at.state ≡ false
    → x.event l.cycle l.sender.id l.receiver.id channel ≡ Regular → IsSome (stored_on x l channel)

-- and of a correct node without a row nothing is stored in its key slot
abbrev pub AbsentIsNotStored : Type 0
AbsentIsNotStored =
    (x : Setting) (cycle : ℕ) (rows : List NodeRow) (sender : NodeSpec) (at : NodeRow) (slot : ℕ) (channel : Channel)
    → IsSane x.params → Contains x.params.nodes sender → x.is_arbitrary sender.id ≡ false → sender.key ≡ Some slot
    → row_of rows sender.id ≡ None → stored_in x cycle rows at slot channel ≡ None
