-- What a node stores of the frames of a correct sender, by the rows of both: each deviation that it stores is one of both rows,
-- whatever the bytes, and a regular frame is stored.
use Rattle.std.proofs.Common.{◌≡◌, ◌≢◌, ℕ, ◌<◌, ◌≤◌, ℤ, pos, ◌+ℤ◌, ◌≤ℤ◌, ◌<ℤ◌, Bool, true, false, cond, not, Option, Some, None, List, refl, ap, sym, ◌∙◌, subst, arith}
use Rattle.std.specs.Prelude.{option_and_then}
use Rattle.std.specs.Option.{option_map}
use Rattle.std.proofs.lemmas.Bool.{and_parts, not-false, or_parts}
use Rattle.fr_base.specs.Event.Event.{Regular}
use Rattle.fr_base.specs.States.{is_active, is_halted}
use Rattle.fr_base.specs.declared.channel.Channel.{Channel}
use Rattle.fr_base.specs.declared.node_row.NodeRow.{NodeRow}
use Rattle.fr_base.specs.declared.state.State.TheVariants.{Active}
use Rattle.fr_cluster.specs.Values.{Values}
use Rattle.fr_cluster.specs.Sane.{IsSane}
use Rattle.fr_cluster.specs.Questions.{has_channel, node_of}
use Rattle.fr_cluster.specs.declared.nodes.NodeSpec.{NodeSpec}
use Rattle.fr_time.specs.Instant.{instant_of, action_instant, early_instant}
use Rattle.fr_time.specs.Position.{grid_for}
use Rattle.fr_time.specs.Senders.{sender_of, sync_sending}
use Rattle.fr_time.specs.Slots.{action_point_of, slot_end_of, slot_start_of}
use Rattle.fr_time.proofs.SoleSenders.{key_slot_sender}
use Rattle.fr_time.proofs.Placing.{action_point_lt}
use Rattle.fr_reception.specs.Answers.{ArrivesInSlot, IsStored, answer_of}
use Rattle.fr_reception.specs.Offers.{Offer, deviation_of}
use Rattle.fr_reception.specs.Regular.{regular_frame, regular_header, regular_payload}
use Rattle.fr_reception.specs.declared.heard.Heard.TheVariants.{Stored}
use Rattle.fr_reception.proofs.Answers.{answer_found}
use Rattle.fr_reception.proofs.Early.{early}
use Rattle.fr_reception.proofs.Frames.{regular_is_frame}
use Rattle.fr_precision.specs.Deviations.{counted_of}
use Rattle.fr_precision.specs.Offsets.{IsDeviation}
use Rattle.fr_precision.proofs.DeviationLaws.{counted_is_deviation}
use Rattle.fr_precision.proofs.ReceptionLaws.{arrives_in_slot}
use Rattle.fr_history.specs.Rows.{uncorrected}
use Rattle.fr_history.specs.Offers.{is_on, stored_in, value_of}
use Rattle.fr_cluster.specs.Setting.{Setting}
use Rattle.fr_runs.specs.Links.{AbsentIsNotStored, IsNearLink, Link, RegularIsStored, Share, StoredIsPlaced, stored_on}
use Rattle.fr_runs.proofs.Nodes.{IsKeySlot, key_slot_there, node_there}
use Rattle.fr_runs.proofs.Known.{IsStoredOf, absent_offers_nothing, coming, does_send, is_deaf, offer_is, offer_with, parts_of, stored_value, whole_of}

-- ---- a sender and a receiver within reach of each other

-- what a sender and a receiver are
record LinkFacts (x : Setting) (l : Link) : Type 0 where
  key : IsKeySlot x.params l.slot
  sends : sender_of x.params l.slot l.cycle ≡ Some (sync_sending l.sender)
  sender_is : node_of x.params l.sender.id ≡ Some l.sender
  receiver_is : node_of x.params l.receiver.id ≡ Some l.receiver

link_facts : (x : Setting) (l : Link) (is_odd : Bool) (reach : ℤ) → IsNearLink x l is_odd reach → LinkFacts x l
link_facts x l is_odd reach near = record {
  key = key_slot_there x.params l.sender l.slot near.sane near.sends near.key;
  sends = key_slot_sender x.params l.slot l.cycle l.sender near.sane near.sends near.key;
  sender_is = node_there x.params l.sender near.sane near.sends;
  receiver_is = node_there x.params l.receiver near.sane near.hears;
}

-- the offer of some bytes, and what comes of the sender's frame
unfoldable pub offer_on : Setting → Link → Channel → List ℕ → Offer
offer_on x l channel bytes = offer_with x l.cycle (uncorrected l.from) (uncorrected l.at) l.slot channel bytes

unfoldable pub comes_on : Setting → Link → Channel → Option (List ℕ)
comes_on x l channel = coming x l.cycle l.sender (uncorrected l.from) (uncorrected l.at) l.slot channel

-- what the receiver stores of the sender, by whether it hears, whether the sender sends, and what comes
pub stored_is : (x : Setting) (l : Link) (is_odd : Bool) (reach : ℤ) (channel : Channel) → IsNearLink x l is_odd reach
    → stored_on x l channel
    ≡ option_and_then (λ offer. value_of (answer_of x.params l.cycle (uncorrected l.at) offer))
    (cond (is_deaf x (uncorrected l.at) channel) None
    (cond (does_send x l.sender.id (uncorrected l.from) channel) (option_map (offer_on x l channel) (comes_on x l channel)) None))
unfolding stored_in offer_on comes_on
stored_is x l is_odd reach channel near =
    let facts : LinkFacts x l = link_facts x l is_odd reach near in
    let other : l.sender.id ≢ (uncorrected l.at).node = λ (same : l.sender.id ≡ (uncorrected l.at).node). near.other (same ∙ near.at_node) in
    ap (λ (o : Option Offer). option_and_then (λ offer. value_of (answer_of x.params l.cycle (uncorrected l.at) offer)) o)
    (offer_is x l.cycle l.rows l.sender (uncorrected l.from) (uncorrected l.at) l.slot channel facts.sends other near.correct near.found)

-- ---- where a deviation comes from

-- the start, the action point and the end of a static slot lie no later than its end
starts_within : (p : Values) (slot : ℕ) → IsSane p → IsKeySlot p slot → slot_start_of p slot ≤ slot_end_of p slot
starts_within p slot sane key = let less : action_point_of p slot < slot_end_of p slot = action_point_lt p slot sane key.from in omega (arith, less)

acts_within : (p : Values) (slot : ℕ) → IsSane p → IsKeySlot p slot → action_point_of p slot ≤ slot_end_of p slot
acts_within p slot sane key = let less : action_point_of p slot < slot_end_of p slot = action_point_lt p slot sane key.from in omega (arith, less)

-- a macrotick of a row before its corrections lies where that of the ended row lies
instant_is : (p : Values) (row : NodeRow) (slot macrotick : ℕ) (is_odd : Bool) → IsSane p → IsKeySlot p slot → macrotick ≤ slot_end_of p slot
    → early_instant p (uncorrected row) macrotick ≡ instant_of (grid_for p) row is_odd (pos macrotick)
instant_is p row slot macrotick is_odd sane key within = sym (early p row is_odd slot macrotick sane key.to within)

-- when a frame of the sender arrives
arrives_at : (x : Setting) (l : Link) (is_odd : Bool) (reach : ℤ) (channel : Channel) (bytes : List ℕ) → IsNearLink x l is_odd reach
    → (offer_on x l channel bytes).arrival
    ≡ (instant_of (grid_for x.params) l.from is_odd (pos (action_point_of x.params l.slot)) +ℤ x.delay l.sender.id l.receiver.id channel l.cycle)
unfolding offer_on
arrives_at x l is_odd reach channel bytes near =
    let key : IsKeySlot x.params l.slot = (link_facts x l is_odd reach near).key in
    ap (λ (node : ℕ). action_instant x.params (uncorrected l.from) l.slot +ℤ x.delay node l.at.node channel l.cycle) near.from_node
    ∙ ap (λ (node : ℕ). action_instant x.params (uncorrected l.from) l.slot +ℤ x.delay l.sender.id node channel l.cycle) near.at_node
    ∙ ap (λ (t : ℤ). t +ℤ x.delay l.sender.id l.receiver.id channel l.cycle)
    (instant_is x.params l.from l.slot (action_point_of x.params l.slot) is_odd near.sane key (acts_within x.params l.slot near.sane key))

-- a node that hears or sends on a channel has it
pub on_channel : (x : Setting) (node : ℕ) (spec : NodeSpec) (channel : Channel) → node ≡ spec.id → node_of x.params spec.id ≡ Some spec → is_on x node channel ≡ has_channel (Some spec) channel
on_channel x node spec channel same found =
    ap (λ (id : ℕ). is_on x id channel) same ∙ ap (λ (o : Option NodeSpec). has_channel o channel) found

share_of : (x : Setting) (l : Link) (is_odd : Bool) (reach : ℤ) (channel : Channel) → IsNearLink x l is_odd reach
    → is_deaf x (uncorrected l.at) channel ≡ false → does_send x l.sender.id (uncorrected l.from) channel ≡ true → Share l.sender l.receiver channel
share_of x l is_odd reach channel near hears sends =
    let facts : LinkFacts x l = link_facts x l is_odd reach near in
    let heard : (is_halted l.at.state ≡ false) × (not (is_on x l.at.node channel) ≡ false) = or_parts (is_halted l.at.state) (not (is_on x l.at.node channel)) hears in
    let sent : (is_active l.from.state ≡ true) × (is_on x l.sender.id channel ≡ true) = and_parts (is_active l.from.state) (is_on x l.sender.id channel) sends in
    record {
      by_sender = sym (on_channel x l.sender.id l.sender channel refl facts.sender_is) ∙ sent.1;
      by_receiver = sym (on_channel x l.at.node l.receiver channel near.at_node facts.receiver_is) ∙ not-false (is_on x l.at.node channel) heard.1;
    }

-- a deviation of a frame that came is that of the sender's action point, delayed; both nodes have its channel
pub record IsCounted (x : Setting) (l : Link) (is_odd : Bool) (channel : Channel) (value : ℤ) : Type 0 where
  pub share : Share l.sender l.receiver channel
  pub counted :
      value
      ≡ counted_of x.params l.at l.slot channel
      (instant_of (grid_for x.params) l.from is_odd (pos (action_point_of x.params l.slot)) +ℤ x.delay l.sender.id l.receiver.id channel l.cycle)

pub stored_is_counted : (x : Setting) (l : Link) (is_odd : Bool) (reach : ℤ) (channel : Channel) (value : ℤ) → IsNearLink x l is_odd reach → stored_on x l channel ≡ Some value → IsCounted x l is_odd channel value
unfolding offer_on
stored_is_counted x l is_odd reach channel value near is =
    let p : Values = x.params in
    let answer : Offer → Option ℤ = λ offer. value_of (answer_of p l.cycle (uncorrected l.at) offer) in
    let deaf : Bool = is_deaf x (uncorrected l.at) channel in
    let sends : Bool = does_send x l.sender.id (uncorrected l.from) channel in
    let parts : IsStoredOf deaf sends (λ bytes. answer (offer_on x l channel bytes)) value =
    parts_of deaf sends answer (offer_on x l channel) (comes_on x l channel) value (sym (stored_is x l is_odd reach channel near) ∙ is) in
    let measured : value ≡ deviation_of p (uncorrected l.at) (offer_on x l channel parts.bytes) = stored_value p l.cycle (uncorrected l.at) (offer_on x l channel parts.bytes) value parts.stored in
    record {
      share = share_of x l is_odd reach channel near parts.hears parts.sent;
      counted = measured ∙ ap (λ (t : ℤ). counted_of p l.at l.slot channel t) (arrives_at x l is_odd reach channel parts.bytes near);
    }

-- each deviation that the receiver stores of the sender is one of both rows
pub stored_is_placed : StoredIsPlaced
stored_is_placed x l is_odd reach channel value near is =
    let p : Values = x.params in
    let key : IsKeySlot p l.slot = (link_facts x l is_odd reach near).key in
    let c : IsCounted x l is_odd channel value = stored_is_counted x l is_odd reach channel value near is in
    subst (λ (v : ℤ). IsDeviation p is_odd (pos (action_point_of p l.slot)) l.at l.from v) (sym c.counted)
    (counted_is_deviation p (x.delay l.sender.id l.receiver.id channel l.cycle) l.slot channel is_odd l.at l.from near.sane key.to key.from near.micro (near.delays channel c.share))

-- ---- what is stored

hears_and_sends : (x : Setting) (l : Link) (is_odd : Bool) (reach : ℤ) (channel : Channel) → IsNearLink x l is_odd reach → Share l.sender l.receiver channel
    → l.from.state ≡ Active → is_halted l.at.state ≡ false
    → (is_deaf x (uncorrected l.at) channel ≡ false) × (does_send x l.sender.id (uncorrected l.from) channel ≡ true)
hears_and_sends x l is_odd reach channel near share sends hears =
    let facts : LinkFacts x l = link_facts x l is_odd reach near in
    let heard : is_on x l.at.node channel ≡ true = on_channel x l.at.node l.receiver channel near.at_node facts.receiver_is ∙ share.by_receiver in
    let sent : is_on x l.sender.id channel ≡ true = on_channel x l.sender.id l.sender channel refl facts.sender_is ∙ share.by_sender in
    (rw (hears, heard) refl, rw (sends, sent) refl)

-- what comes of a regular frame
regular_comes : (x : Setting) (l : Link) (is_odd : Bool) (reach : ℤ) (channel : Channel) → IsNearLink x l is_odd reach → x.event l.cycle l.sender.id l.receiver.id channel ≡ Regular
    → comes_on x l channel ≡ Some (regular_frame x.params (sync_sending l.sender) l.slot l.cycle channel)
unfolding comes_on
regular_comes x l is_odd reach channel near regular = rw (near.from_node, near.at_node, regular) refl

-- it arrives in its slot
in_slot : (x : Setting) (l : Link) (is_odd : Bool) (reach : ℤ) (channel : Channel) (bytes : List ℕ) → IsNearLink x l is_odd reach → Share l.sender l.receiver channel
    → ArrivesInSlot x.params (uncorrected l.at) (offer_on x l channel bytes)
unfolding offer_on
in_slot x l is_odd reach channel bytes near share =
    let p : Values = x.params in
    let key : IsKeySlot p l.slot = (link_facts x l is_odd reach near).key in
    let delay : ℤ = x.delay l.sender.id l.receiver.id channel l.cycle in
    let within : (instant_of (grid_for p) l.at is_odd (pos (slot_start_of p l.slot)) ≤ℤ (instant_of (grid_for p) l.from is_odd (pos (action_point_of p l.slot)) +ℤ delay))
    × ((instant_of (grid_for p) l.from is_odd (pos (action_point_of p l.slot)) +ℤ delay) <ℤ instant_of (grid_for p) l.at is_odd (pos (slot_end_of p l.slot))) =
    arrives_in_slot p reach delay l.slot channel is_odd l.at l.from near.sane near.room key.from key.to near.rate near.micro.least near.near (near.delays channel share) in
    let arrival : (offer_on x l channel bytes).arrival ≡ (instant_of (grid_for p) l.from is_odd (pos (action_point_of p l.slot)) +ℤ delay) = arrives_at x l is_odd reach channel bytes near in
    let begins : early_instant p (uncorrected l.at) (slot_start_of p l.slot) ≡ instant_of (grid_for p) l.at is_odd (pos (slot_start_of p l.slot)) =
    instant_is p l.at l.slot (slot_start_of p l.slot) is_odd near.sane key (starts_within p l.slot near.sane key) in
    let ends : early_instant p (uncorrected l.at) (slot_end_of p l.slot) ≡ instant_of (grid_for p) l.at is_odd (pos (slot_end_of p l.slot)) =
    instant_is p l.at l.slot (slot_end_of p l.slot) is_odd near.sane key (omega arith) in
    record { begun = rw (begins, arrival) within.0; not_ended = rw (ends, arrival) within.1 }

-- a regular frame of an active sender is stored at a receiver that is not halted
pub regular_is_stored_on : RegularIsStored
unfolding offer_on
regular_is_stored_on x l is_odd reach channel near share active hearing regular =
    let p : Values = x.params in
    let facts : LinkFacts x l = link_facts x l is_odd reach near in
    let bytes : List ℕ = regular_frame p (sync_sending l.sender) l.slot l.cycle channel in
    let at : NodeRow = uncorrected l.at in
    let offer : Offer = offer_on x l channel bytes in
    let both = hears_and_sends x l is_odd reach channel near share active hearing in
    let comes : comes_on x l channel ≡ Some bytes = regular_comes x l is_odd reach channel near regular in
    let stored : IsStored p l.cycle at offer (deviation_of p at offer) = record {
      header = regular_header p (sync_sending l.sender) l.slot l.cycle;
      length_right = record {
        cycle_right = record {
          slot_id = record {
            received = record {
              in_slot = in_slot x l is_odd reach channel bytes near share;
              payload = regular_payload p (sync_sending l.sender) l.slot l.cycle;
              frame = regular_is_frame p (sync_sending l.sender) l.slot l.cycle channel near.sane facts.sends;
            };
            id = refl;
          };
          count = refl;
        };
        words = refl;
      };
      sync = refl;
      key_slot = facts.key.indexed;
      measured = refl;
    } in
    let answer : Stored (deviation_of p at offer) ≡ answer_of p l.cycle at offer = answer_found p l.cycle at offer (Stored (deviation_of p at offer)) stored in
    let found : stored_on x l channel ≡ Some (deviation_of p at offer) =
    stored_is x l is_odd reach channel near
    ∙ whole_of (is_deaf x at channel) (does_send x l.sender.id (uncorrected l.from) channel) (λ o. value_of (answer_of p l.cycle at o)) (offer_on x l channel) (comes_on x l channel) bytes both.0 both.1 comes
    ∙ ap value_of (sym answer) in
    rw found refl

-- ---- what is not

pub absent_is_not_stored : AbsentIsNotStored
unfolding stored_in
absent_is_not_stored x cycle rows sender at slot channel sane sends correct key absent =
    ap (option_and_then (λ offer. value_of (answer_of x.params cycle at offer)))
    (absent_offers_nothing x cycle rows sender at slot channel (key_slot_sender x.params slot cycle sender sane sends key) correct absent)
