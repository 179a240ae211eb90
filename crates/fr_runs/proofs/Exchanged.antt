-- What a receiver of an exchange stores of a sender, whether its own row is among those of the senders or not: each deviation is
-- where the clocks of both are, and a regular frame is stored.
use Rattle.std.proofs.Common.{◌≡◌, ℕ, ℤ, pos, Bool, false, Option, Some, IsSome, ap, sym, ◌∙◌}
use Rattle.std.specs.Prelude.{is_some}
use Rattle.std.specs.Option.{option_map}
use Rattle.fr_base.specs.Event.Event.{Regular}
use Rattle.fr_base.specs.Rows.{dev_in}
use Rattle.fr_base.specs.States.{is_halted}
use Rattle.fr_base.specs.Within.{IsWithin}
use Rattle.fr_base.specs.declared.channel.Channel.{Channel}
use Rattle.fr_base.specs.declared.state.State.TheVariants.{Active}
use Rattle.fr_cluster.specs.Questions.{has_channel, node_of}
use Rattle.fr_cluster.specs.Sane.{IsSane}
use Rattle.fr_cluster.specs.Setting.{Setting}
use Rattle.fr_cluster.specs.declared.nodes.NodeSpec.{NodeSpec}
use Rattle.fr_time.specs.Slots.{action_point_of}
use Rattle.fr_precision.specs.Instants.{gap_of}
use Rattle.fr_precision.specs.Offsets.{IsDeviation}
use Rattle.fr_precision.specs.Reception.{IsDelay, LeavesRoom}
use Rattle.fr_precision.specs.Rows.{HasProperMicro}
use Rattle.fr_history.specs.Rows.{uncorrected}
use Rattle.fr_history.specs.Offers.{is_on}
use Rattle.fr_history.specs.History.{row_for}
use Rattle.fr_runs.proofs.Rows.{has_row}
use Rattle.fr_runs.specs.Links.{IsNearLink, Share, stored_on}
use Rattle.fr_runs.specs.Exchange.{Exchange, IsExchangeOf, IsExchanged}
use Rattle.fr_runs.proofs.Links.{regular_is_stored_on, stored_is_placed}
use Rattle.fr_runs.proofs.Nodes.{correct_node}
use Rattle.fr_runs.proofs.Reception.{link_of, recorded_in, uncorrected_row}

-- a sender and a receiver of an exchange: slots leave room for a reach, within which the sender's action point lies from the
-- receiver's, the delays are proper, the sender is active, and the receiver is not halted and has a proper rate and microtick
pub record IsNearIn (x : Setting) (e : Exchange) (is_odd : Bool) (reach : ℤ) (sender receiver : NodeSpec) (slot : ℕ) : Type 0 where
  pub sane : IsSane x.params
  pub is : IsExchangeOf x e
  pub link : IsExchanged e sender receiver slot
  pub room : LeavesRoom x.params reach
  pub active : (row_for e.sender_rows sender.id).state ≡ Active
  pub awake : is_halted (row_for e.receiver_rows receiver.id).state ≡ false
  pub rate : IsWithin x.params.rate_limit (row_for e.receiver_rows receiver.id).rate
  pub micro : HasProperMicro x.params (row_for e.receiver_rows receiver.id)
  pub near : IsWithin reach (gap_of x.params is_odd (pos (action_point_of x.params slot)) (row_for e.sender_rows sender.id) (row_for e.receiver_rows receiver.id))
  pub delays : (channel : Channel) → Share sender receiver channel → IsDelay x.params channel (x.delay sender.id receiver.id channel e.cycle)

pub near_link : (x : Setting) (e : Exchange) (is_odd : Bool) (reach : ℤ) (sender receiver : NodeSpec) (slot : ℕ) → IsNearIn x e is_odd reach sender receiver slot
    → IsNearLink x (link_of e sender receiver slot) is_odd reach
unfolding link_of
near_link x e is_odd reach sender receiver slot n =
    let from = correct_node x sender (n.is.correct_senders sender n.link.sends) in
    let has = has_row e.senders e.sender_rows sender n.is.sender_nodes n.link.sends in
    record {
      sane = n.sane;
      room = n.room;
      sends = from.there;
      correct = from.correct;
      key = n.link.key;
      found = uncorrected_row e.sender_rows sender.id ∙ ap (option_map uncorrected) has.is;
      from_node = has.number;
      hears = (correct_node x receiver (n.is.correct_receivers receiver n.link.hears)).there;
      at_node = (has_row e.receivers e.receiver_rows receiver n.is.receiver_nodes n.link.hears).number;
      other = n.link.other;
      rate = n.rate;
      micro = n.micro;
      near = n.near;
      delays = n.delays;
    }

-- what is stored of it
pub recorded_is : (x : Setting) (e : Exchange) (is_odd : Bool) (reach : ℤ) (sender receiver : NodeSpec) (slot : ℕ) (channel : Channel) → IsNearIn x e is_odd reach sender receiver slot
    → dev_in e.devs receiver.id slot channel ≡ stored_on x (link_of e sender receiver slot) channel
unfolding link_of
recorded_is x e is_odd reach sender receiver slot channel n =
    recorded_in x e sender receiver slot channel n.sane n.is (n.is.correct_senders sender n.link.sends) n.link.key n.link.hears

-- each deviation of a sender is one of both rows
pub stored_is_deviation : (x : Setting) (e : Exchange) (is_odd : Bool) (reach : ℤ) (sender receiver : NodeSpec) (slot : ℕ) (channel : Channel) (value : ℤ)
    → IsNearIn x e is_odd reach sender receiver slot → dev_in e.devs receiver.id slot channel ≡ Some value
    → IsDeviation x.params is_odd (pos (action_point_of x.params slot)) (row_for e.receiver_rows receiver.id) (row_for e.sender_rows sender.id) value
unfolding link_of
stored_is_deviation x e is_odd reach sender receiver slot channel value n some =
    stored_is_placed x (link_of e sender receiver slot) is_odd reach channel value (near_link x e is_odd reach sender receiver slot n)
    (sym (recorded_is x e is_odd reach sender receiver slot channel n) ∙ some)

-- and a regular frame of it is stored
pub regular_is_stored : (x : Setting) (e : Exchange) (is_odd : Bool) (reach : ℤ) (sender receiver : NodeSpec) (slot : ℕ) (channel : Channel)
    → IsNearIn x e is_odd reach sender receiver slot → Share sender receiver channel → x.event e.cycle sender.id receiver.id channel ≡ Regular
    → IsSome (dev_in e.devs receiver.id slot channel)
unfolding link_of
regular_is_stored x e is_odd reach sender receiver slot channel n share regular =
    ap is_some (recorded_is x e is_odd reach sender receiver slot channel n)
    ∙ regular_is_stored_on x (link_of e sender receiver slot) is_odd reach channel (near_link x e is_odd reach sender receiver slot n) share n.active n.awake regular

-- ---- channels

-- a node that hears or sends on a channel has it
pub on_channel : (x : Setting) (spec : NodeSpec) (channel : Channel) → node_of x.params spec.id ≡ Some spec → is_on x spec.id channel ≡ has_channel (Some spec) channel
on_channel x spec channel found = ap (λ (o : Option NodeSpec). has_channel o channel) found
