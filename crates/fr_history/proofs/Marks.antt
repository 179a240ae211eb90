-- An offer in a slot on a channel is one of that slot and that channel.
use Rattle.std.proofs.Common.{◌≡◌, ℕ, ◌==◌, Bool, true, false, not, ◌&&◌, ◌||◌, Option, Some, None, IfSome, List, refl, if◌then◌else◌}
use Rattle.std.specs.Prelude.{option_and_then}
use Rattle.std.specs.Option.{option_map}
use Rattle.fr_base.specs.States.{is_active, is_halted}
use Rattle.fr_base.specs.declared.channel.Channel.{Channel}
use Rattle.fr_base.specs.declared.node_row.NodeRow.{NodeRow}
use Rattle.fr_time.specs.Senders.{sender_of}
use Rattle.fr_time.specs.declared.senders.Sending.{Sending}
use Rattle.fr_reception.specs.Regular.{is_sync_frame, regular_frame}
use Rattle.fr_reception.specs.Offers.{Offer}
use Rattle.fr_cluster.specs.Setting.{Setting}
use Rattle.fr_history.specs.History.{row_of}
use Rattle.fr_history.specs.Offers.{active_offer, arrived_of, is_on, offer_in, said_in_event, said_offer, sender_offer, sent_offer}

-- the slot and the channel of an offer
pub record HasMarks (slot : ℕ) (channel : Channel) (offer : Offer) : Type 0 where
  pub slot_is : offer.slot ≡ slot
  pub channel_is : offer.channel ≡ channel

IsMarked : ℕ → Channel → Option Offer → Type 0
IsMarked slot channel offer = IfSome offer (HasMarks slot channel)

option_map-marked : {T : Type 0} (slot : ℕ) (channel : Channel) (f : T → Offer) → ((t : T) → HasMarks slot channel (f t)) → (o : Option T) → IsMarked slot channel (option_map f o)
unfolding IsMarked
option_map-marked slot channel f each None = tt
option_map-marked slot channel f each (Some t) = each t

if-marked : (slot : ℕ) (channel : Channel) (b : Bool) (o p : Option Offer) → IsMarked slot channel o → IsMarked slot channel p → IsMarked slot channel (if b then o else p)
if-marked slot channel true o p first second = first
if-marked slot channel false o p first second = second

none-marked : (slot : ℕ) (channel : Channel) → IsMarked slot channel None
unfolding IsMarked
none-marked slot channel = tt

and_then-marked : {T : Type 0} (slot : ℕ) (channel : Channel) (f : T → Option Offer) → ((t : T) → IsMarked slot channel (f t)) → (o : Option T) → IsMarked slot channel (option_and_then f o)
unfolding IsMarked
and_then-marked slot channel f each None = tt
and_then-marked slot channel f each (Some t) = each t

sent-marked : (x : Setting) (cycle : ℕ) (sending : Sending) (sender receiver : NodeRow) (slot : ℕ) (channel : Channel) → IsMarked slot channel (sent_offer x cycle sending sender receiver slot channel)
sent-marked x cycle sending sender receiver slot channel =
    option_map-marked slot channel _ (λ bytes. record { slot_is = refl; channel_is = refl }) (arrived_of (x.event cycle sender.node receiver.node channel) (regular_frame x.params sending slot cycle channel))

said-marked : (x : Setting) (cycle : ℕ) (sending : Sending) (receiver : NodeRow) (slot : ℕ) (channel : Channel) → IsMarked slot channel (said_offer x cycle sending receiver slot channel)
said-marked x cycle sending receiver slot channel =
    option_map-marked slot channel _ (λ said. record { slot_is = refl; channel_is = refl }) (said_in_event (x.event cycle sending.node receiver.node channel) (regular_frame x.params sending slot cycle channel))

active-marked : (x : Setting) (cycle : ℕ) (sending : Sending) (sender : Option NodeRow) (receiver : NodeRow) (slot : ℕ) (channel : Channel) → IsMarked slot channel (active_offer x cycle sending sender receiver slot channel)
active-marked x cycle sending None receiver slot channel = none-marked slot channel
active-marked x cycle sending (Some sender) receiver slot channel =
    if-marked slot channel (is_active sender.state && is_on x sending.node channel) (sent_offer x cycle sending sender receiver slot channel) None (sent-marked x cycle sending sender receiver slot channel) (none-marked slot channel)

sender-marked : (x : Setting) (cycle : ℕ) (rows : List NodeRow) (receiver : NodeRow) (slot : ℕ) (channel : Channel) (sending : Sending) → IsMarked slot channel (sender_offer x cycle rows receiver slot channel sending)
sender-marked x cycle rows receiver slot channel sending =
    let said : Option Offer = said_offer x cycle sending receiver slot channel in
    let sent : Option Offer = active_offer x cycle sending (row_of rows sending.node) receiver slot channel in
    let one : Option Offer = if is_sync_frame sending.kind then said else None in
    if-marked slot channel (sending.node == receiver.node) None (if x.is_arbitrary sending.node then one else sent) (none-marked slot channel)
    (if-marked slot channel (x.is_arbitrary sending.node) one sent
    (if-marked slot channel (is_sync_frame sending.kind) said None (said-marked x cycle sending receiver slot channel) (none-marked slot channel))
    (active-marked x cycle sending (row_of rows sending.node) receiver slot channel))

offer_marked : (x : Setting) (cycle : ℕ) (rows : List NodeRow) (receiver : NodeRow) (slot : ℕ) (channel : Channel) → IsMarked slot channel (offer_in x cycle rows receiver slot channel)
unfolding offer_in
offer_marked x cycle rows receiver slot channel =
    if-marked slot channel (is_halted receiver.state || not (is_on x receiver.node channel)) None (option_and_then (sender_offer x cycle rows receiver slot channel) (sender_of x.params slot cycle)) (none-marked slot channel)
    (and_then-marked slot channel (sender_offer x cycle rows receiver slot channel) (sender-marked x cycle rows receiver slot channel) (sender_of x.params slot cycle))

pub offer_in-marked : (x : Setting) (cycle : ℕ) (rows : List NodeRow) (receiver : NodeRow) (slot : ℕ) (channel : Channel) → IfSome (offer_in x cycle rows receiver slot channel) (HasMarks slot channel)
unfolding IsMarked
offer_in-marked x cycle rows receiver slot channel = offer_marked x cycle rows receiver slot channel
