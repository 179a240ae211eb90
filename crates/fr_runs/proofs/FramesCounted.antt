-- What a receiver stores in a cycle is counted from the arrival of the sender's frame, and nothing is stored of a silent one.
use Rattle.std.proofs.Common.{◌≡◌, ℕ, ℤ, ◌+ℤ◌, Bool, true, false, cond, not, Option, Some, None, IsSome, List, map, refl, ap, sym, ◌∙◌, subst, ◌||◌, ◌==◌, arith}
use Rattle.std.specs.Prelude.{option_and_then, ◌*ℤ◌, Contains}
use Rattle.std.specs.Option.{option_map}
use Rattle.fr_base.specs.Event.{Event}
use Rattle.fr_base.specs.Rows.{dev_in}
use Rattle.fr_base.specs.States.{is_halted}
use Rattle.fr_base.specs.declared.channel.Channel.{Channel}
use Rattle.fr_base.specs.declared.node_row.NodeRow.{NodeRow}
use Rattle.fr_cluster.specs.Questions.{compensation_of}
use Rattle.fr_cluster.specs.Sane.{IsSane}
use Rattle.fr_cluster.specs.Setting.{Setting}
use Rattle.fr_cluster.specs.Values.{Values}
use Rattle.fr_cluster.specs.declared.nodes.NodeSpec.{NodeSpec}
use Rattle.fr_time.specs.Instant.{action_instant}
use Rattle.fr_time.specs.Senders.{sender_of, sync_sending}
use Rattle.fr_time.specs.declared.senders.Sending.{Sending}
use Rattle.fr_time.proofs.SoleSenders.{key_slot_sender}
use Rattle.fr_reception.specs.Answers.{answer_of}
use Rattle.fr_reception.specs.Offers.{Offer}
use Rattle.fr_reception.specs.Regular.{regular_frame}
use Rattle.fr_history.specs.History.{row_for, row_of}
use Rattle.fr_history.specs.Offers.{active_offer, arrived_of, is_on, offer_in, said_in_event, said_offer, sender_offer, stored_in, value_of}
use Rattle.fr_history.specs.Rows.{uncorrected}
use Rattle.fr_runs.specs.Exchange.{Exchange, IsExchangeOf}
use Rattle.fr_runs.specs.Links.{IsNearLink, Link, stored_on}
use Rattle.fr_runs.proofs.Known.{does_send, is_deaf}
use Rattle.fr_runs.specs.SteadyRuns.{is_silent}
use Rattle.fr_runs.proofs.Reception.{link_of, recorded_there}
use Rattle.fr_runs.proofs.Rows.{has_row}
use Rattle.fr_runs.proofs.Links.{comes_on, offer_on, stored_is, stored_is_counted, IsCounted}
use Rattle.fr_runs.proofs.Exchanged.{near_link, recorded_is, IsNearIn}

-- where something arrives it is not silent
arrived_comes : (e : Event) (frame : List ℕ) → IsSome (arrived_of e frame) → is_silent e ≡ false
arrived_comes e frame arrived = grind arith

-- what is stored of some bytes comes of a frame that is not lost
bytes_come : (deaf sends : Bool) (answer : Offer → Option ℤ) (offer : List ℕ → Offer) (o : Option (List ℕ)) (value : ℤ)
    → option_and_then answer (cond deaf None (cond sends (option_map offer o) None)) ≡ Some value → IsSome o
bytes_come true sends answer offer o value is = absurd (cc)
bytes_come false false answer offer o value is = absurd (cc)
bytes_come false true answer offer None value is = absurd (cc)
bytes_come false true answer offer (Some bytes) value is = refl

stored_comes : (x : Setting) (l : Link) (is_odd : Bool) (reach : ℤ) (channel : Channel) (value : ℤ) → IsNearLink x l is_odd reach → stored_on x l channel ≡ Some value
    → is_silent (x.event l.cycle l.sender.id l.receiver.id channel) ≡ false
unfolding comes_on
stored_comes x l is_odd reach channel value near is =
    let come =
    bytes_come (is_deaf x (uncorrected l.at) channel) (does_send x l.sender.id (uncorrected l.from) channel) (λ offer. value_of (answer_of x.params l.cycle (uncorrected l.at) offer))
    (offer_on x l channel) (comes_on x l channel) value (sym (stored_is x l is_odd reach channel near) ∙ is) in
    let event : x.event l.cycle l.from.node l.at.node channel ≡ x.event l.cycle l.sender.id l.receiver.id channel =
    ap (λ (node : ℕ). x.event l.cycle node l.at.node channel) near.from_node ∙ ap (λ (node : ℕ). x.event l.cycle l.sender.id node channel) near.at_node in
    sym (ap is_silent event) ∙ arrived_comes (x.event l.cycle l.from.node l.at.node channel) (regular_frame x.params (sync_sending l.sender) l.slot l.cycle channel) come

-- ---- of what is recorded in a cycle

-- a sender and a receiver of it
abbrev pub link_in : Exchange → NodeSpec → NodeSpec → ℕ → Link
link_in e sender receiver slot = record {
  cycle = e.cycle;
  rows = map uncorrected e.sender_rows;
  sender = sender;
  receiver = receiver;
  slot = slot;
  from = row_for e.sender_rows sender.id;
  at = row_for e.receiver_rows receiver.id;
}

pub recorded_is_counted : (x : Setting) (e : Exchange) (is_odd : Bool) (reach : ℤ) (sender receiver : NodeSpec) (slot : ℕ) (channel : Channel) (value : ℤ) → IsNearIn x e is_odd reach sender receiver slot
    → dev_in e.devs receiver.id slot channel ≡ Some value → IsCounted x (link_in e sender receiver slot) is_odd channel value
unfolding link_of
recorded_is_counted x e is_odd reach sender receiver slot channel value n is =
    stored_is_counted x (link_in e sender receiver slot) is_odd reach channel value (near_link x e is_odd reach sender receiver slot n)
    (sym (recorded_is x e is_odd reach sender receiver slot channel n) ∙ is)

-- nothing is recorded of a silent one
pub recorded_comes : (x : Setting) (e : Exchange) (is_odd : Bool) (reach : ℤ) (sender receiver : NodeSpec) (slot : ℕ) (channel : Channel) (value : ℤ) → IsNearIn x e is_odd reach sender receiver slot
    → dev_in e.devs receiver.id slot channel ≡ Some value → is_silent (x.event e.cycle sender.id receiver.id channel) ≡ false
unfolding link_of
recorded_comes x e is_odd reach sender receiver slot channel value n is =
    stored_comes x (link_in e sender receiver slot) is_odd reach channel value (near_link x e is_odd reach sender receiver slot n)
    (sym (recorded_is x e is_odd reach sender receiver slot channel n) ∙ is)

-- ---- of an arbitrary sender

said_comes : (e : Event) (frame : List ℕ) → IsSome (said_in_event e frame) → is_silent e ≡ false
said_comes e frame said = grind arith

-- what is stored of an offer that is made of what it says
said_some : (deaf own : Bool) (answer : Offer → Option ℤ) (offer : ℤ × List ℕ → Offer) (o : Option (ℤ × List ℕ)) (value : ℤ)
    → option_and_then answer (cond deaf None (cond own None (option_map offer o))) ≡ Some value → IsSome o
said_some true own answer offer o value is = absurd (cc)
said_some false true answer offer o value is = absurd (cc)
said_some false false answer offer None value is = absurd (cc)
said_some false false answer offer (Some said) value is = refl

-- nothing is recorded of one that says nothing
pub recorded_says : (x : Setting) (e : Exchange) (sender receiver : NodeSpec) (slot : ℕ) (channel : Channel) (value : ℤ) → IsSane x.params → IsExchangeOf x e → Contains x.params.nodes sender → sender.key ≡ Some slot
    → x.is_arbitrary sender.id ≡ true → Contains e.receivers receiver → dev_in e.devs receiver.id slot channel ≡ Some value → is_silent (x.event e.cycle sender.id receiver.id channel) ≡ false
unfolding stored_in offer_in
recorded_says x e sender receiver slot channel value sane is there key arbitrary hears some =
    let p : Values = x.params in
    let row : NodeRow = uncorrected (row_for e.receiver_rows receiver.id) in
    let rows : List NodeRow = map uncorrected e.sender_rows in
    let sending : Sending = sync_sending sender in
    let frame : List ℕ = regular_frame p sending slot e.cycle channel in
    let answer : Offer → Option ℤ = λ offer. value_of (answer_of p e.cycle row offer) in
    let deaf : Bool = is_halted row.state || not (is_on x row.node channel) in
    let stored : option_and_then answer (cond deaf None (option_and_then (sender_offer x e.cycle rows row slot channel) (sender_of p slot e.cycle))) ≡ Some value =
    sym (recorded_there x e sender receiver slot channel sane is there key hears) ∙ some in
    let Sent : Option Sending → Type 0 = λ o. option_and_then answer (cond deaf None (option_and_then (sender_offer x e.cycle rows row slot channel) o)) ≡ Some value in
    let By : Bool → Type 0 = λ b.
    option_and_then answer
    (cond deaf None (cond (sender.id == row.node) None (cond b (said_offer x e.cycle sending row slot channel) (active_offer x e.cycle sending (row_of rows sender.id) row slot channel)))) ≡ Some value in
    let said =
    said_some deaf (sender.id == row.node) answer
    (λ said. record { slot = slot; channel = channel; arrival = action_instant p row slot +ℤ (compensation_of p channel *ℤ row.length) +ℤ said.0; bytes = said.1 })
    (said_in_event (x.event e.cycle sender.id row.node channel) frame) value (subst By arbitrary (subst Sent (key_slot_sender p slot e.cycle sender sane there key) stored)) in
    sym (ap (λ (node : ℕ). is_silent (x.event e.cycle sender.id node channel)) (has_row e.receivers e.receiver_rows receiver is.receiver_nodes hears).number)
    ∙ said_comes (x.event e.cycle sender.id row.node channel) frame said
