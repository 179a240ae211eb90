-- What a receiver is offered of a known sender, and what it stores of that.
use Rattle.std.proofs.Common.{◌≡◌, ◌≢◌, ℕ, ◌==◌, ℤ, ◌+ℤ◌, Bool, true, false, cond, not, ◌||◌, ◌&&◌, Option, Some, None, Result, Ok, Err, List, refl, ap, sym, ◌∙◌}
use Rattle.std.specs.Prelude.{int_le, int_lt, is_none, option_and_then}
use Rattle.std.specs.Option.{option_map}
use Rattle.std.proofs.lemmas.Bool.{cond_both, ne_eqb}
use Rattle.fr_base.specs.States.{is_active, is_halted}
use Rattle.fr_base.specs.declared.channel.Channel.{Channel}
use Rattle.fr_base.specs.declared.node_row.NodeRow.{NodeRow}
use Rattle.fr_frame.specs.declared.header.Header.{Header}
use Rattle.fr_frame.specs.declared.fault.FrameFault.{FrameFault}
use Rattle.fr_frame.specs.Reading.{read_as}
use Rattle.fr_cluster.specs.Values.{Values, amount}
use Rattle.fr_cluster.specs.Questions.{key_index_of}
use Rattle.fr_cluster.specs.declared.names.ParamName.TheVariants as name
use Rattle.fr_cluster.specs.declared.nodes.NodeSpec.{NodeSpec}
use Rattle.fr_time.specs.Cycles.{cycle_count}
use Rattle.fr_time.specs.Instant.{action_instant, slot_begins, slot_ends}
use Rattle.fr_time.specs.Senders.{sender_of, sync_sending}
use Rattle.fr_time.specs.declared.senders.Sending.{Sending}
use Rattle.fr_reception.specs.Answers.{answer_by, answer_of}
use Rattle.fr_reception.specs.Offers.{Offer, deviation_of}
use Rattle.fr_reception.specs.Regular.{regular_frame}
use Rattle.fr_reception.specs.declared.heard.Heard.{Heard}
use Rattle.fr_reception.specs.declared.heard.Heard.TheVariants.{Stored, Ignored}
use Rattle.fr_reception.specs.declared.heard.Ignored.{Ignored as Reason}
use Rattle.fr_reception.specs.declared.heard.Ignored.TheVariants as reason
use Rattle.fr_history.specs.History.{row_of}
use Rattle.fr_history.specs.Offers.{active_offer, arrived_of, is_on, offer_in, sender_offer, value_of}
use Rattle.fr_cluster.specs.Setting.{Setting}

-- ---- the offer of a known sender

-- whether a node hears nothing on a channel, and whether a node sends on it
abbrev pub is_deaf : Setting → NodeRow → Channel → Bool
is_deaf x receiver channel = is_halted receiver.state || not (is_on x receiver.node channel)

abbrev pub does_send : Setting → ℕ → NodeRow → Channel → Bool
does_send x node sender channel = is_active sender.state && is_on x node channel

-- what comes of the sender's frame, and the offer of it
abbrev pub coming : Setting → ℕ → NodeSpec → NodeRow → NodeRow → ℕ → Channel → Option (List ℕ)
coming x cycle node sender receiver slot channel =
    arrived_of (x.event cycle sender.node receiver.node channel) (regular_frame x.params (sync_sending node) slot cycle channel)

abbrev pub offer_with : Setting → ℕ → NodeRow → NodeRow → ℕ → Channel → List ℕ → Offer
offer_with x cycle sender receiver slot channel bytes = record {
  slot = slot;
  channel = channel;
  arrival = action_instant x.params sender slot +ℤ x.delay sender.node receiver.node channel cycle;
  bytes = bytes;
}

pub offer_is : (x : Setting) (cycle : ℕ) (rows : List NodeRow) (node : NodeSpec) (sender receiver : NodeRow) (slot : ℕ) (channel : Channel)
    → sender_of x.params slot cycle ≡ Some (sync_sending node) → node.id ≢ receiver.node → x.is_arbitrary node.id ≡ false → row_of rows node.id ≡ Some sender
    → offer_in x cycle rows receiver slot channel
    ≡ cond (is_deaf x receiver channel) None (cond (does_send x node.id sender channel) (option_map (offer_with x cycle sender receiver slot channel) (coming x cycle node sender receiver slot channel)) None)
unfolding offer_in
offer_is x cycle rows node sender receiver slot channel sends other correct found =
    let offers : Sending → Option Offer = sender_offer x cycle rows receiver slot channel in
    let known : Option NodeRow → Option Offer = λ row. active_offer x cycle (sync_sending node) row receiver slot channel in
    let own : offers (sync_sending node) ≡ known (row_of rows node.id) =
    rw (ne_eqb node.id receiver.node other, correct) refl in
    ap (λ (o : Option Sending). cond (is_deaf x receiver channel) None (option_and_then offers o)) sends
    ∙ ap (λ (o : Option Offer). cond (is_deaf x receiver channel) None o) (own ∙ ap known found)

-- a correct sender without a row offers nothing in its key slot
no_offer : (deaf : Bool) → let none : Option Offer = None in cond deaf none none ≡ none
no_offer true = refl
no_offer false = refl

pub absent_offers_nothing : (x : Setting) (cycle : ℕ) (rows : List NodeRow) (node : NodeSpec) (receiver : NodeRow) (slot : ℕ) (channel : Channel)
    → sender_of x.params slot cycle ≡ Some (sync_sending node) → x.is_arbitrary node.id ≡ false → row_of rows node.id ≡ None → offer_in x cycle rows receiver slot channel ≡ None
unfolding offer_in
absent_offers_nothing x cycle rows node receiver slot channel sends correct absent =
    let offers : Sending → Option Offer = sender_offer x cycle rows receiver slot channel in
    let known : Option NodeRow → Option Offer = λ row. active_offer x cycle (sync_sending node) row receiver slot channel in
    let own : offers (sync_sending node) ≡ cond (node.id == receiver.node) None (known (row_of rows node.id)) = rw correct refl in
    ap (λ (o : Option Sending). cond (is_deaf x receiver channel) None (option_and_then offers o)) sends
    ∙ ap (λ (o : Option Offer). cond (is_deaf x receiver channel) None o) (own ∙ ap (λ (row : Option NodeRow). cond (node.id == receiver.node) None (known row)) absent ∙ no_offer (node.id == receiver.node))
    ∙ no_offer (is_deaf x receiver channel)

-- ---- what is stored of it

-- the receiver hears, the sender sends, and this is stored of some bytes
pub record IsStoredOf (deaf sends : Bool) (value_by : List ℕ → Option ℤ) (value : ℤ) : Type 0 where
  pub hears : deaf ≡ false
  pub sent : sends ≡ true
  pub bytes : List ℕ
  pub stored : value_by bytes ≡ Some value

pub parts_of : (deaf sends : Bool) (answer : Offer → Option ℤ) (offer : List ℕ → Offer) (o : Option (List ℕ)) (value : ℤ)
    → option_and_then answer (cond deaf None (cond sends (option_map offer o) None)) ≡ Some value → IsStoredOf deaf sends (λ bytes. answer (offer bytes)) value
parts_of true sends answer offer o value is = absurd (cc)
parts_of false false answer offer o value is = absurd (cc)
parts_of false true answer offer None value is = absurd (cc)
parts_of false true answer offer (Some bytes) value is = record { hears = refl; sent = refl; bytes = bytes; stored = is }

pub whole_of : (deaf sends : Bool) (answer : Offer → Option ℤ) (offer : List ℕ → Offer) (o : Option (List ℕ)) (bytes : List ℕ)
    → deaf ≡ false → sends ≡ true → o ≡ Some bytes
    → option_and_then answer (cond deaf None (cond sends (option_map offer o) None)) ≡ answer (offer bytes)
whole_of deaf sends answer offer o bytes hears sent comes = rw (hears, sent, comes) refl

-- what is stored is of a key slot, and is the deviation of its offer, whatever the bytes
read_stored : (p : Values) (cycle : ℕ) (row : NodeRow) (offer : Offer) (value : ℤ) (r : Result Header FrameFault) → value_of (answer_by p cycle row offer r) ≡ Some value
    → (is_none (key_index_of p offer.slot) ≡ false) × (value ≡ deviation_of p row offer)
read_stored p cycle row offer value (Err fault) is = absurd (cc)
read_stored p cycle row offer value (Ok header) is =
    let Fits : Heard → Type 0 = λ heard. value_of heard ≡ Some value → (is_none (key_index_of p offer.slot) ≡ false) × (value ≡ deviation_of p row offer) in
    let length : ℕ = amount p name.gPayloadLengthStatic in
    let stored : Heard = Stored (deviation_of p row offer) in
    let by_sync : Heard = cond (not header.sync || is_none (key_index_of p offer.slot)) (Ignored reason.Plain) stored in
    let by_length : Heard = cond (not (header.words == length)) (Ignored (reason.WrongLength length header.words)) by_sync in
    let by_cycle : Heard = cond (not (header.cycle == cycle_count cycle)) (Ignored (reason.WrongCycle (cycle_count cycle) header.cycle)) by_length in
    cond_both (not (header.id == offer.slot)) (Ignored (reason.WrongId offer.slot header.id)) by_cycle Fits
    (λ _. ignored (reason.WrongId offer.slot header.id))
    (λ _. cond_both (not (header.cycle == cycle_count cycle)) (Ignored (reason.WrongCycle (cycle_count cycle) header.cycle)) by_length Fits
    (λ _. ignored (reason.WrongCycle (cycle_count cycle) header.cycle))
    (λ _. cond_both (not (header.words == length)) (Ignored (reason.WrongLength length header.words)) by_sync Fits
    (λ _. ignored (reason.WrongLength length header.words))
    (λ _. cond_both (not header.sync || is_none (key_index_of p offer.slot)) (Ignored reason.Plain) stored Fits
    (λ _. ignored reason.Plain) (λ key same. let e : deviation_of p row offer ≡ value = cc in (second (not header.sync) (is_none (key_index_of p offer.slot)) key, sym e)))))
    is
  where
    ignored : (why : Reason) → value_of (Ignored why) ≡ Some value → (is_none (key_index_of p offer.slot) ≡ false) × (value ≡ deviation_of p row offer)
    ignored why wrong = absurd (cc)

    second : (a b : Bool) → (a || b) ≡ false → b ≡ false
    second false b e = e
    second true b e = absurd (cc e)

pub stored_parts : (p : Values) (cycle : ℕ) (row : NodeRow) (offer : Offer) (value : ℤ) → value_of (answer_of p cycle row offer) ≡ Some value
    → (is_none (key_index_of p offer.slot) ≡ false) × (value ≡ deviation_of p row offer)
unfolding answer_of
stored_parts p cycle row offer value is =
    let out : Bool = int_lt offer.arrival (slot_begins p row offer.slot) || int_le (slot_ends p row offer.slot) offer.arrival in
    cond_both out (Ignored (reason.Outside offer.arrival (slot_begins p row offer.slot) (slot_ends p row offer.slot))) (answer_by p cycle row offer (read_as offer.channel offer.bytes))
    (λ heard. value_of heard ≡ Some value → (is_none (key_index_of p offer.slot) ≡ false) × (value ≡ deviation_of p row offer))
    (λ _ wrong. absurd (cc)) (λ _. read_stored p cycle row offer value (read_as offer.channel offer.bytes)) is

pub stored_value : (p : Values) (cycle : ℕ) (row : NodeRow) (offer : Offer) (value : ℤ) → value_of (answer_of p cycle row offer) ≡ Some value → value ≡ deviation_of p row offer
stored_value p cycle row offer value is = (stored_parts p cycle row offer value is).1
