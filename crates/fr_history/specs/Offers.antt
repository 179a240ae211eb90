-- What is offered to the nodes in a cycle (chapter 5), and what was sent. The rows are those of the cycle before its
-- corrections: all static slots lie before the start of the offset correction, so the offset term moves none of their
-- instants.
use Rattle.std.specs.Prelude.{◌≡◌, ℕ, ◌==◌, ℤ, ◌+ℤ◌, ◌*ℤ◌, Bool, not, ◌&&◌, ◌||◌, List, [], ◌∷◌, map, Option, Some, None, unwrap_or, option_and_then, All, if◌then◌else◌}
use Rattle.std.specs.List.{flat_map, filter_map, range_with_len}
use Rattle.std.specs.Option.{option_map, option_to_list}
use Rattle.fr_base.specs.States.{is_active, is_halted}
use Rattle.fr_base.specs.Event.{Event}
use Rattle.fr_base.specs.Event.Event.{Regular, Silent, Flip, Say}
use Rattle.fr_base.specs.declared.channel.Channel.{Channel}
use Rattle.fr_base.specs.declared.channel.Channel.TheVariants.{A, B}
use Rattle.fr_base.specs.declared.dev.Dev.{Dev}
use Rattle.fr_base.specs.declared.node_row.NodeRow.{NodeRow}
use Rattle.fr_cluster.specs.Values.{amount}
use Rattle.fr_cluster.specs.Questions.{compensation_of, has_channel, node_of}
use Rattle.fr_cluster.specs.declared.names.ParamName.TheVariants as name
use Rattle.fr_time.specs.Senders.{sender_of}
use Rattle.fr_time.specs.declared.senders.Sending.{Sending}
use Rattle.fr_reception.specs.Regular.{is_sync_frame, regular_frame}
use Rattle.fr_reception.specs.Offers.{Offer, flipped}
use Rattle.fr_time.specs.Instant.{action_instant}
use Rattle.fr_reception.specs.Answers.{IsAnswer, answer_of}
use Rattle.fr_reception.specs.declared.heard.Heard.{Heard}
use Rattle.fr_reception.specs.declared.heard.Heard.TheVariants.{Stored, Ignored}
use Rattle.fr_cluster.specs.Setting.{Setting}
use Rattle.fr_history.specs.History.{row_of}

-- whether a node of the cluster has a channel
abbrev pub is_on : Setting → ℕ → Channel → Bool
is_on x node channel = has_channel (node_of x.params node) channel

-- what arrives of the frame of a correct sender: the frame, the frame with one bit inverted, or nothing
abbrev pub arrived_of : Event → List ℕ → Option (List ℕ)
arrived_of Regular frame = Some frame
arrived_of Silent frame = None
arrived_of (Flip bit) frame = Some (flipped bit frame)
arrived_of (Say shift bytes) frame = None

-- what an arbitrary sender says, if it says something: a shift in ticks, and bytes, or else its regular frame
abbrev pub said_in_event : Event → List ℕ → Option (ℤ × List ℕ)
said_in_event Regular frame = None
said_in_event Silent frame = None
said_in_event (Flip bit) frame = None
said_in_event (Say shift bytes) frame = Some (shift, unwrap_or bytes frame)

-- the frame that a correct sender sends in its slot comes to a receiver its delay after the sender's action point
abbrev pub sent_offer : Setting → ℕ → Sending → NodeRow → NodeRow → ℕ → Channel → Option Offer
sent_offer x cycle sending sender receiver slot channel =
    option_map
    (λ bytes. record {
      slot = slot;
      channel = channel;
      arrival = action_instant x.params sender slot +ℤ x.delay sender.node receiver.node channel cycle;
      bytes = bytes;
    })
    (arrived_of (x.event cycle sender.node receiver.node channel) (regular_frame x.params sending slot cycle channel))

-- what an arbitrary sender says comes so much later than the receiver expects it
abbrev pub said_offer : Setting → ℕ → Sending → NodeRow → ℕ → Channel → Option Offer
said_offer x cycle sending receiver slot channel =
    option_map
    (λ said. record {
      slot = slot;
      channel = channel;
      arrival = action_instant x.params receiver slot +ℤ (compensation_of x.params channel *ℤ receiver.length) +ℤ said.0;
      bytes = said.1;
    })
    (said_in_event (x.event cycle sending.node receiver.node channel) (regular_frame x.params sending slot cycle channel))

-- of a correct sender, where it is active and has the channel
abbrev pub active_offer : Setting → ℕ → Sending → Option NodeRow → NodeRow → ℕ → Channel → Option Offer
active_offer x cycle sending None receiver slot channel = None
active_offer x cycle sending (Some sender) receiver slot channel =
    if is_active sender.state && is_on x sending.node channel then sent_offer x cycle sending sender receiver slot channel else None

-- the sender of a slot offers its frame to a receiver; an arbitrary one in its key slot alone
abbrev pub sender_offer : Setting → ℕ → List NodeRow → NodeRow → ℕ → Channel → Sending → Option Offer
sender_offer x cycle rows receiver slot channel sending =
    if sending.node == receiver.node then None
    else if x.is_arbitrary sending.node then (if is_sync_frame sending.kind then said_offer x cycle sending receiver slot channel else None)
    else active_offer x cycle sending (row_of rows sending.node) receiver slot channel

-- what is offered to a receiver in a slot of the cycle on a channel: nothing where it is halted or has not the channel
unfoldable pub offer_in : Setting → ℕ → List NodeRow → NodeRow → ℕ → Channel → Option Offer
offer_in x cycle rows receiver slot channel =
    if is_halted receiver.state || not (is_on x receiver.node channel) then None
    else option_and_then (sender_offer x cycle rows receiver slot channel) (sender_of x.params slot cycle)

-- the static slots in ascending order, and both channels
abbrev pub static_slots_of : Setting → List ℕ
static_slots_of x = range_with_len 1 (amount x.params name.gNumberOfStaticSlots)

abbrev pub channels : List Channel
channels = A ∷ B ∷ []

-- what is offered to a receiver, in ascending order of slot and channel
abbrev pub offers_to : Setting → ℕ → List NodeRow → NodeRow → List Offer
offers_to x cycle rows receiver =
    flat_map (λ slot. flat_map (λ channel. option_to_list (offer_in x cycle rows receiver slot channel)) channels) (static_slots_of x)

-- what a receiver makes of an offer; its row is the one before its corrections
pub record Reception : Type 0 where
  pub receiver : NodeRow
  pub offer : Offer
  pub heard : Heard

-- each reception answers its offer as the rules say
abbrev pub IsProper : Setting → ℕ → Reception → Type 0
IsProper x cycle reception = IsAnswer x.params cycle reception.receiver reception.offer reception.heard

-- the receiver and the offer of a reception
abbrev pub offer_pair : Reception → NodeRow × Offer
offer_pair reception = (reception.receiver, reception.offer)

-- what senders with these rows offer to receivers with those, in ascending order of receiver, slot and channel
abbrev pub offers_between : Setting → ℕ → List NodeRow → List NodeRow → List (NodeRow × Offer)
offers_between x cycle rows receivers =
    flat_map (λ receiver. map (λ offer. (receiver, offer)) (offers_to x cycle rows receiver)) receivers

-- where each of them sends and receives
abbrev pub offers_among : Setting → ℕ → List NodeRow → List (NodeRow × Offer)
offers_among x cycle rows = offers_between x cycle rows rows

-- the receptions of such receivers: one for each offer, in that order, each with its answer
pub record AreReceptionsBetween (x : Setting) (cycle : ℕ) (rows receivers : List NodeRow) (receptions : List Reception) : Type 0 where
  pub whole : map offer_pair receptions ≡ offers_between x cycle rows receivers
  pub answered : All (IsProper x cycle) receptions

-- the receptions of a cycle: each node that has a row sends and receives
abbrev pub AreReceptions : Setting → ℕ → List NodeRow → List Reception → Type 0
AreReceptions x cycle rows receptions = AreReceptionsBetween x cycle rows rows receptions

-- the same as a function of the rows
abbrev pub reception_of : Setting → ℕ → NodeRow × Offer → Reception
reception_of x cycle pair = record { receiver = pair.0; offer = pair.1; heard = answer_of x.params cycle pair.0 pair.1 }

abbrev pub receptions_between : Setting → ℕ → List NodeRow → List NodeRow → List Reception
receptions_between x cycle rows receivers = map (reception_of x cycle) (offers_between x cycle rows receivers)

abbrev pub receptions_among : Setting → ℕ → List NodeRow → List Reception
receptions_among x cycle rows = receptions_between x cycle rows rows

-- the deviation of a reception that was stored
abbrev pub dev_by : NodeRow → Offer → Heard → Option Dev
dev_by receiver offer (Stored value) = Some (record { receiver = receiver.node; slot = offer.slot; channel = offer.channel; value = value })
dev_by receiver offer (Ignored why) = None

abbrev pub dev_of : Reception → Option Dev
dev_of reception = dev_by reception.receiver reception.offer reception.heard

-- the deviations of receptions that were stored
abbrev pub devs_among : List Reception → List Dev
devs_among receptions = filter_map dev_of receptions

-- the deviations that receivers with those rows store of senders with these
abbrev pub devs_between : Setting → ℕ → List NodeRow → List NodeRow → List Dev
devs_between x cycle rows receivers = devs_among (receptions_between x cycle rows receivers)

-- the deviation that an answer stores
abbrev pub value_of : Heard → Option ℤ
value_of (Stored value) = Some value
value_of (Ignored why) = None

-- the deviation that a node of this row stores in a slot on a channel, if it stores one
unfoldable pub stored_in : Setting → ℕ → List NodeRow → NodeRow → ℕ → Channel → Option ℤ
stored_in x cycle rows row slot channel =
    option_and_then (λ offer. value_of (answer_of x.params cycle row offer)) (offer_in x cycle rows row slot channel)

-- the frame of a sender, where it is an active correct node with the channel
abbrev pub active_frame : Setting → ℕ → Sending → Option NodeRow → ℕ → Channel → Option (List ℕ)
active_frame x cycle sending None slot channel = None
active_frame x cycle sending (Some sender) slot channel =
    if is_active sender.state && is_on x sending.node channel then Some (regular_frame x.params sending slot cycle channel) else None

abbrev pub sender_frame : Setting → ℕ → List NodeRow → ℕ → Channel → Sending → Option (List ℕ)
sender_frame x cycle rows slot channel sending = active_frame x cycle sending (row_of rows sending.node) slot channel

-- the frame that a correct node sends in a slot of the cycle on a channel, if one does
unfoldable pub frame_in : Setting → ℕ → List NodeRow → ℕ → Channel → Option (List ℕ)
frame_in x cycle rows slot channel = option_and_then (sender_frame x cycle rows slot channel) (sender_of x.params slot cycle)

-- the frames that correct nodes send on a channel, in ascending order of slot
abbrev pub frames_on : Setting → ℕ → List NodeRow → Channel → List (List ℕ)
frames_on x cycle rows channel = filter_map (λ slot. frame_in x cycle rows slot channel) (static_slots_of x)
