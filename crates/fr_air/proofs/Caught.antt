-- What a listener catches in a turn of its reference's key slot.
use Rattle.std.proofs.Common.{◌≡◌, ◌≢◌, ◌∙◌, ℕ, ◌+◌, ◌*◌, ◌≤◌, ◌==◌, ◌&&◌, ◌||◌, not, Bool, true, false, cond, ℤ, pos, List, Option, Some, None, IsSome, FitsSigned, w64, to_z, of_z, refl, ap, sym, subst, arith}
use Rattle.std.specs.Prelude.{Contains, option_and_then}
use Rattle.std.specs.Option.{option_map}
use Rattle.std.proofs.lemmas.Bool.{cond_both, eqb-true}
use Rattle.std.proofs.lemmas.Int.{ints, to_z-of_z}
use Rattle.fr_base.specs.Event.{Event}
use Rattle.fr_base.specs.States.{is_active}
use Rattle.fr_base.specs.Within.{IsBetween}
use Rattle.fr_base.specs.declared.channel.Channel.{Channel}
use Rattle.fr_base.specs.declared.channel.Channel.TheVariants as channel
use Rattle.fr_base.specs.declared.node_row.NodeRow.{NodeRow}
use Rattle.fr_cluster.proofs.KeyNodes.{key_among}
use Rattle.fr_cluster.specs.Constraints.{key_slots}
use Rattle.fr_cluster.specs.Questions.{key_in, key_index_of, node_of, own_key}
use Rattle.fr_cluster.specs.Sane.{IsSane}
use Rattle.fr_cluster.specs.Setting.{Setting}
use Rattle.fr_cluster.specs.Values.{Values, amount}
use Rattle.fr_cluster.specs.declared.names.ParamName.TheVariants as name
use Rattle.fr_cluster.specs.declared.nodes.NodeSpec.{NodeSpec}
use Rattle.fr_time.specs.Cycles.{is_odd}
use Rattle.fr_time.specs.Senders.{sender_of}
use Rattle.fr_time.specs.declared.senders.Sending.{Sending}
use Rattle.fr_reception.specs.Listening.{good_arrival}
use Rattle.fr_reception.specs.Offers.{Offer}
use Rattle.fr_reception.specs.Regular.{regular_frame}
use Rattle.fr_node.specs.Listening.{ListenerView, with_arrival}
use Rattle.fr_history.specs.History.{row_of as row_in}
use Rattle.fr_history.specs.Offers.{active_offer, arrived_of, is_on, sent_offer}
use Rattle.fr_time.proofs.Keys.{key_index_is, key_slot_within}
use Rattle.fr_history.specs.Catching.{caught_arrival, listener_offer, listening_row, sender_offers}
use Rattle.fr_script.specs.View.{is_arbitrary, join_of}
use Rattle.fr_air.proofs.Listening.{find-holds, own_key-sender}
use Rattle.fr_air.proofs.Among.{found-among}
use Rattle.fr_air.specs.Files.{setting_in}
use Rattle.fr_air.specs.Listening.{after_catch, after_frame, frame_with, heard_by_listener, offer_caught, with_caught, CanBeHeard, CatchesTurn, IsListener, StartsEarly}
use Rattle.fr_air.specs.Sending.{offer_at, sending_row_by, sending_row_in, sent_instant, sent_with}
use Rattle.fr_air.specs.Turns.{frame_of_turn}
use Rattle.fr_air.specs.declared.files.RunInputs.{RunInputs}
use Rattle.fr_air.specs.declared.turn.Turn.{Turn}

-- ---- key slots

own-among : (p : Values) (id slot : ℕ) → own_key p id ≡ Some slot → Contains (key_slots p.nodes) slot
own-among p id slot own = among (node_of p id) refl own
  where
    among : (node : Option NodeSpec) → node_of p id ≡ node → key_in node ≡ Some slot → Contains (key_slots p.nodes) slot
    among None is nothing = cc
    among (Some node) is key = key_among p.nodes node slot (find-holds (λ n. n.id == id) p.nodes node is).0 key

-- the key slot of a node is a static slot
pub own-static : (p : Values) (id slot : ℕ) → IsSane p → own_key p id ≡ Some slot → slot ≤ amount p name.gNumberOfStaticSlots
own-static p id slot sane own = (key_slot_within p slot sane (own-among p id slot own)).1

-- and it has a key index
pub own-indexed : (p : Values) (id slot : ℕ) → own_key p id ≡ Some slot → IsSome (key_index_of p slot)
own-indexed p id slot own = let P : Option ℕ → Type 0 = IsSome in subst P (sym (key_index_is p slot (own-among p id slot own))) refl

-- who sends in the key slot of a node is that node
pub reference-sends : (f : RunInputs) (turn : Turn) (l : ListenerView) (sending : Sending) → IsSane f.params → (is : IsListener f l) → turn.slot ≡ l.reference → sender_of f.params turn.slot turn.cycle ≡ Some sending → sending.node ≡ is.node
reference-sends f turn l sending sane is slot sends =
    let here : option_map (λ (s : Sending). s.node) (sender_of f.params turn.slot turn.cycle) ≡ Some is.node =
    own_key-sender f.params is.node turn.slot turn.cycle sane (is.key ∙ ap Some (sym slot)) in
    let both : Some sending.node ≡ Some is.node = sym (ap (option_map (λ (s : Sending). s.node)) sends) ∙ here in
    cc

-- and there is one
pub reference-there : (f : RunInputs) (turn : Turn) (l : ListenerView) → IsSane f.params → IsListener f l → turn.slot ≡ l.reference → sender_of f.params turn.slot turn.cycle ≡ None → ⊥
reference-there f turn l sane is slot none =
    let here : option_map (λ (s : Sending). s.node) (sender_of f.params turn.slot turn.cycle) ≡ Some is.node =
    own_key-sender f.params is.node turn.slot turn.cycle sane (is.key ∙ ap Some (sym slot)) in
    let nobody : None ≡ Some is.node = sym (ap (option_map (λ (s : Sending). s.node)) none) ∙ here in
    cc

-- ---- starts

sends-found : (x : Setting) (found : Option NodeRow) (node : ℕ) (channel : Channel) (row : NodeRow) → sending_row_by x found node channel ≡ Some row → found ≡ Some row
sends-found x None node channel row is = absurd (cc)
sends-found x (Some found) node channel row is =
    cond_both (is_active found.state && is_on x node channel) (Some found) None (λ o. o ≡ Some row → Some found ≡ Some row) (λ sends same. same) (λ quiet none. absurd (cc)) is

-- the row of a node that joins nobody starts within the longest run
pub starts-soon : (f : RunInputs) (cycle : ℕ) (rows : List NodeRow) (node : ℕ) (channel : Channel) (row : NodeRow) → CanBeHeard f cycle rows → join_of f.script node ≡ None → sending_row_in (setting_in f) rows node channel ≡ Some row →
    IsBetween (pos 0) (pos 200_000_000_000_000_000) row.start
starts-soon f cycle rows node channel row heard stays is =
    let found : StartsEarly f cycle row × (row.node ≡ node) = found-among (StartsEarly f cycle) rows node row heard.starts (sends-found (setting_in f) (row_in rows node) node channel row is) in
    let start : IsBetween (pos 0) (pos (1_000_000_000_000 * (cycle + 1))) row.start = found.0 (ap (join_of f.script) found.1 ∙ stays) in
    record { low = start.low; high = omega (arith, ints, start.high, heard.in_run) }

-- ---- what is offered

-- a sender offers where it is active and has the channel
active-caught : (x : Setting) (turn : Turn) (sending : Sending) (found : Option NodeRow) (listener : ℕ) →
    active_offer x turn.cycle sending found (listening_row listener) turn.slot turn.channel
    ≡ offer_caught x turn (sending_row_by x found sending.node turn.channel) (regular_frame x.params sending turn.slot turn.cycle turn.channel) listener
active-caught x turn sending None listener = refl
active-caught x turn sending (Some sender) listener = by (is_active sender.state && is_on x sending.node turn.channel)
  where
    frame : List ℕ
    frame = regular_frame x.params sending turn.slot turn.cycle turn.channel

    by : (b : Bool) → cond b (sent_offer x turn.cycle sending sender (listening_row listener) turn.slot turn.channel) None ≡ offer_caught x turn (cond b (Some sender) None) frame listener
    by true = refl
    by false = refl

-- what a listener that has the channel is offered
listener-offered : (x : Setting) (turn : Turn) (rows : List NodeRow) (listener : ℕ) (sending : Sending) → is_on x listener turn.channel ≡ true → sender_of x.params turn.slot turn.cycle ≡ Some sending →
    (sending.node == listener) ≡ false → x.is_arbitrary sending.node ≡ false →
    listener_offer x turn.cycle rows listener turn.slot turn.channel
    ≡ offer_caught x turn (sending_row_in x rows sending.node turn.channel) (regular_frame x.params sending turn.slot turn.cycle turn.channel) listener
listener-offered x turn rows listener sending on sends other correct =
    let offers : Sending → Option Offer = sender_offers x turn.cycle rows listener turn.slot turn.channel in
    let active : Option Offer = active_offer x turn.cycle sending (row_in rows sending.node) (listening_row listener) turn.slot turn.channel in
    ap (λ (b : Bool). cond (not b) None (option_and_then offers (sender_of x.params turn.slot turn.cycle))) on
    ∙ ap (option_and_then offers) sends
    ∙ ap (λ (b : Bool). cond (b || x.is_arbitrary sending.node) None active) other
    ∙ ap (λ (b : Bool). cond b None active) correct
    ∙ active-caught x turn sending (row_in rows sending.node) listener

-- a listener after an offer, or after none
catch-is : (turn : Turn) (offer : Option Offer) (l : ListenerView) → after_catch turn offer l ≡ with_caught (is_odd turn.cycle) turn.channel (option_and_then (good_arrival l.reference) offer) l
catch-is turn None l = refl
catch-is turn (Some offer) l = refl

-- what it catches of its reference
pub reference-caught : (f : RunInputs) (turn : Turn) (rows : List NodeRow) (l : ListenerView) (sending : Sending) → IsSane f.params → IsListener f l → turn.slot ≡ l.reference → is_on (setting_in f) l.id turn.channel ≡ true →
    sender_of f.params turn.slot turn.cycle ≡ Some sending →
    after_catch turn (offer_caught (setting_in f) turn (sending_row_in (setting_in f) rows sending.node turn.channel) (frame_of_turn f turn sending) l.id) l
    ≡ heard_by_listener (setting_in f) turn.cycle rows turn.channel l
unfolding caught_arrival
reference-caught f turn rows l sending sane is slot on sends =
    let x : Setting = setting_in f in
    let named : sending.node ≡ is.node = reference-sends f turn l sending sane is slot sends in
    let other : (sending.node == l.id) ≡ false = by (sending.node == l.id) refl (λ same. is.other (sym named ∙ eqb-true sending.node l.id same)) in
    let correct : x.is_arbitrary sending.node ≡ false = ap x.is_arbitrary named ∙ is.correct_reference in
    catch-is turn (offer_caught x turn (sending_row_in x rows sending.node turn.channel) (frame_of_turn f turn sending) l.id) l
    ∙ ap (λ (o : Option Offer). with_caught (is_odd turn.cycle) turn.channel (option_and_then (good_arrival l.reference) o) l) (sym (listener-offered x turn rows l.id sending on sends other correct))
    ∙ ap (λ (s : ℕ). with_caught (is_odd turn.cycle) turn.channel (option_and_then (good_arrival l.reference) (listener_offer x turn.cycle rows l.id s turn.channel)) l) slot
  where
    by : (b : Bool) → (sending.node == l.id) ≡ b → ((sending.node == l.id) ≡ true → ⊥) → (sending.node == l.id) ≡ false
    by true same never = absurd (never same)
    by false differs never = differs

-- a listener that has not the channel catches nothing on it
pub nothing-caught : (x : Setting) (cycle : ℕ) (rows : List NodeRow) (channel : Channel) (l : ListenerView) → is_on x l.id channel ≡ false → l ≡ heard_by_listener x cycle rows channel l
unfolding caught_arrival
nothing-caught x cycle rows channel l off =
    sym (ap (λ (b : Bool). with_caught (is_odd cycle) channel
    (option_and_then (good_arrival l.reference) (cond (not b) None (option_and_then (sender_offers x cycle rows l.id l.reference channel) (sender_of x.params l.reference cycle)))) l) off)

-- what is caught leaves its number and its reference
arrival-reference : (odd : Bool) (channel : Channel) (at : ℤ) (l : ListenerView) → ((with_arrival l odd channel at).id ≡ l.id) × ((with_arrival l odd channel at).reference ≡ l.reference)
arrival-reference false channel.A at l = (refl, refl)
arrival-reference false channel.B at l = (refl, refl)
arrival-reference true channel.A at l = (refl, refl)
arrival-reference true channel.B at l = (refl, refl)

caught-reference : (odd : Bool) (channel : Channel) (at : Option ℤ) (l : ListenerView) → ((with_caught odd channel at l).id ≡ l.id) × ((with_caught odd channel at l).reference ≡ l.reference)
caught-reference odd channel None l = (refl, refl)
caught-reference odd channel (Some at) l = arrival-reference odd channel at l

pub catches : (f : RunInputs) (turn : Turn) (rows : List NodeRow) (before after : ListenerView) → IsListener f before → after ≡ heard_by_listener (setting_in f) turn.cycle rows turn.channel before → CatchesTurn f turn rows before after
catches f turn rows before after is heard =
    let same = caught-reference (is_odd turn.cycle) turn.channel (caught_arrival (setting_in f) turn.cycle rows before.id before.reference turn.channel) before in
    let id : after.id ≡ before.id = ap (λ (l : ListenerView). l.id) heard ∙ same.0 in
    let reference : after.reference ≡ before.reference = ap (λ (l : ListenerView). l.reference) heard ∙ same.1 in
    let Known : ℕ → Type 0 = λ n. IsSome (node_of f.params n) in
    let Correct : ℕ → Type 0 = λ n. is_arbitrary f.script n ≡ false in
    let Other : ℕ → Type 0 = λ n. is.node ≢ n in
    record {
      listener_is = heard;
      reference_is = reference;
      listens = record {
        known = subst Known (sym id) is.known;
        correct = subst Correct (sym id) is.correct;
        node = is.node;
        key = is.key ∙ ap Some (sym reference);
        correct_reference = is.correct_reference;
        other = subst Other (sym id) is.other;
        stays = is.stays;
      };
    }

pub off-channel : (b : Bool) → (b && b) ≡ false → b ≡ false
off-channel true both = both
off-channel false both = both

-- what a listener catches at an instant that was computed is what comes to it
module _ (x : Setting) (turn : Turn) (sender : NodeRow) (frame : List ℕ) (listener : ListenerView) (one other : ℕ) (event : Event) (first : one ≡ listener.id) (second : other ≡ listener.id)
    (is : event ≡ x.event turn.cycle sender.node other turn.channel) where
  event_is : event ≡ x.event turn.cycle sender.node listener.id turn.channel
  event_is = is ∙ ap (λ (receiver : ℕ). x.event turn.cycle sender.node receiver turn.channel) second

  pub caught-sent : (arrival : ℤ) (bit : Option ℕ) (after : ListenerView) → FitsSigned w64 arrival → arrival ≡ sent_instant x turn sender one → arrived_of event frame ≡ Some (frame_with bit frame) →
      after ≡ after_frame turn (to_z w64 (of_z w64 arrival)) bit frame listener → after ≡ after_catch turn (sent_with x turn sender frame listener.id) listener
  caught-sent arrival bit after fits at arrives catches =
      let instant : arrival ≡ sent_instant x turn sender listener.id = at ∙ ap (sent_instant x turn sender) first in
      catches
      ∙ ap (λ (a : ℤ). after_frame turn a bit frame listener) (to_z-of_z w64 arrival fits ∙ instant)
      ∙ ap (λ (o : Option (List ℕ)). after_catch turn (option_map (offer_at turn (sent_instant x turn sender listener.id)) o) listener)
      (sym arrives ∙ ap (λ (e : Event). arrived_of e frame) event_is)

  pub nothing-sent : arrived_of event frame ≡ None → listener ≡ after_catch turn (sent_with x turn sender frame listener.id) listener
  nothing-sent none =
      ap (λ (o : Option (List ℕ)). after_catch turn (option_map (offer_at turn (sent_instant x turn sender listener.id)) o) listener)
      (sym none ∙ ap (λ (e : Event). arrived_of e frame) event_is)
