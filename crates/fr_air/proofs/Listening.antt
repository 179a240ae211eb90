-- A node that hears a sender can hear in the sender's slot.
use Rattle.std.proofs.Common.{◌≡◌, ◌≢◌, ℕ, ◌≤◌, ℤ, pos, IsSome, Bool, true, false, not, ◌&&◌, ◌==◌, List, [], ◌∷◌, Option, Some, None, refl, ap, sym, subst, ◌∙◌}
use Rattle.std.specs.Prelude.{Contains, find}
use Rattle.std.specs.Option.{option_map}
use Rattle.std.proofs.lemmas.Bool.{and_parts, cond_both, eqb-true, eq-eqb}
use Rattle.std.proofs.lemmas.List.Elements.{Contains-append_left, Contains-append_right, Contains-push}
use Rattle.fr_base.specs.States.{is_halted}
use Rattle.fr_base.specs.declared.node_row.NodeRow.{NodeRow}
use Rattle.fr_base.specs.declared.state.State.{State}
use Rattle.fr_base.specs.declared.state.State.TheVariants.{Active, Passive, Halt}
use Rattle.fr_cluster.specs.Questions.{has_channel, node_of, own_key, key_in}
use Rattle.fr_cluster.specs.Sane.{IsSane}
use Rattle.fr_cluster.specs.Values.{Values, amount}
use Rattle.fr_cluster.specs.declared.names.ParamName.TheVariants as name
use Rattle.fr_cluster.specs.declared.nodes.NodeSpec.{NodeSpec}
use Rattle.fr_time.proofs.SoleSenders.{key_slot_sender}
use Rattle.fr_time.specs.Senders.{sender_of}
use Rattle.fr_reception.specs.Offers.{Offer}
use Rattle.fr_node.specs.View.{NodeView, node_row_of, state_of_node}
use Rattle.fr_cluster.specs.Setting.{Setting}
use Rattle.fr_air.specs.Files.{setting_in}
use Rattle.std.specs.Borrow.{Bor}
use Rattle.fr_base.specs.Event.{Event}
use Rattle.fr_base.specs.Event.Event.{Say}
use Rattle.fr_base.specs.Within.{IsWithin}
use Rattle.fr_history.specs.Offers.{arrived_of, said_in_event}
use Rattle.fr_air.specs.Listening.{frame_with}
use Rattle.fr_air.specs.Sending.{bytes_by, carried, hears, offer_at, offer_from, offer_heard, said_by, said_instant, said_with, sent_instant, sent_with, AreShort, ComesAs}
use Rattle.fr_script.specs.Events.{IsProperEvent}
use Rattle.fr_air.specs.declared.turn.Bytes.{Bytes}
use Rattle.fr_air.specs.declared.turn.Coming.{Coming}
use Rattle.fr_air.specs.Cycling.{IsReady}
use Rattle.fr_air.specs.Turns.{CanHear, HasHeard}
use Rattle.fr_air.specs.Counting.{with_answer}
use Rattle.fr_base.specs.declared.cycle_row.Counts.{Counts}
use Rattle.fr_reception.specs.Answers.{answer_of}
use Rattle.fr_reception.specs.declared.heard.Heard.{Heard}
use Rattle.fr_node.specs.Cycle.{after_hearing}
use Rattle.fr_node.specs.Fits.{NodeFits}
use Rattle.fr_script.specs.View.{is_arbitrary}
use Rattle.fr_air.specs.declared.turn.Turn.{Turn}
use Rattle.fr_air.specs.declared.files.RunInputs.{RunInputs}

-- what a search finds is in the list, and passes the test
pub find-holds : {X : Type 0} (test : X → Bool) (xs : List X) (x : X) → find test xs ≡ Some x → Contains xs x × (test x ≡ true)
find-holds test [] x found = cc
find-holds test (y ∷ ys) x found =
    cond_both (test y) (Some y) (find test ys) (λ o. o ≡ Some x → Contains (y ∷ ys) x × (test x ≡ true))
    (λ passes same. let e : y ≡ x = cc in (subst (Contains (y ∷ ys)) e (Contains-append_left (y ∷ []) ys y (Contains-push [] y)), ap test (sym e) ∙ passes))
    (λ fails rest. let more : Contains ys x × (test x ≡ true) = find-holds test ys x rest in (Contains-append_right (y ∷ []) ys x more.0, more.1))
    found

-- a node sends in its own key slot, in every cycle
pub own_key-sender : (p : Values) (id slot cycle : ℕ) → IsSane p → own_key p id ≡ Some slot → option_map (λ sending. sending.node) (sender_of p slot cycle) ≡ Some id
own_key-sender p id slot cycle sane own = among (node_of p id) refl own
  where
    among : (node : Option NodeSpec) → node_of p id ≡ node → key_in node ≡ Some slot → option_map (λ sending. sending.node) (sender_of p slot cycle) ≡ Some id
    among None is nothing = cc
    among (Some node) is key =
        let known : Contains p.nodes node × ((node.id == id) ≡ true) = find-holds (λ n. n.id == id) p.nodes node is in
        let named : node.id ≡ id = eqb-true node.id id known.1 in
        ap (option_map (λ sending. sending.node)) (key_slot_sender p slot cycle node sane known.0 key) ∙ ap Some named

not_halted : (state : State) → not (is_halted state) ≡ true → state ≢ Halt
not_halted Active is same = cc
not_halted Passive is same = cc
not_halted Halt is same = cc

pub can_hear : (f : RunInputs) (turn : Turn) (node : NodeView) (sender : ℕ) → IsReady f turn.cycle node → turn.slot ≤ amount f.params name.gNumberOfStaticSlots →
    option_map (λ sending. sending.node) (sender_of f.params turn.slot turn.cycle) ≡ Some sender → hears (setting_in f) (node_row_of node) sender turn.channel ≡ true → CanHear f turn node
can_hear f turn node sender ready static_slot sends heard =
    let p : Values = f.params in
    let both : ((not (is_halted (state_of_node node)) && has_channel (node_of p node.id) turn.channel) ≡ true) × (not (sender == node.id) ≡ true) = and_parts _ _ heard in
    let first : (not (is_halted (state_of_node node)) ≡ true) × (has_channel (node_of p node.id) turn.channel ≡ true) = and_parts _ _ both.0 in
    record {
      ready = ready;
      receives = record {
        fits = ready.fits;
        under_way = ready.under_way;
        receives = not_halted (state_of_node node) first.0;
        on_channel = first.1;
        static_slot = static_slot;
        not_itself = λ (own : own_key p node.id ≡ Some turn.slot).
            let here : Some sender ≡ Some node.id = sym sends ∙ own_key-sender p node.id turn.slot turn.cycle ready.fits.sane own in
            let same : sender ≡ node.id = cc in
            let equal : (sender == node.id) ≡ true = eq-eqb sender node.id same in
            let never : not (sender == node.id) ≡ false = ap not equal in
            cc;
      };
    }

-- what is offered comes from a sender that is heard
pub is_heard : (x : Setting) (turn : Turn) (sender : ℕ) (row : Option NodeRow) (frame : List ℕ) (receiver : NodeRow) (offer : Offer) → offer_heard x turn sender row frame receiver ≡ Some offer →
    hears x receiver sender turn.channel ≡ true
is_heard x turn sender row frame receiver offer comes =
    cond_both (hears x receiver sender turn.channel) (offer_from x turn sender row frame receiver) None (λ o. o ≡ Some offer → hears x receiver sender turn.channel ≡ true)
    (λ heard same. heard) (λ unheard none. absurd (cc)) comes

-- a node has heard what it answered, and nothing but its table changed
pub has_heard : (f : RunInputs) (turn : Turn) (arrival : ℤ) (bytes : List ℕ) (before node : NodeView) (counted counts : Counts) (heard : Heard) → IsReady f turn.cycle before →
    heard ≡ answer_of f.params before.cycle (node_row_of before) (offer_at turn arrival bytes) → node ≡ after_hearing f.params before turn.slot turn.channel heard → node ≡ record before { table = node.table } →
    NodeFits f.params node → counts ≡ with_answer heard counted → HasHeard f turn (Some (offer_at turn arrival bytes)) before counted node counts
has_heard f turn arrival bytes before node counted counts heard ready answer after rest fits now =
    let offer : Offer = offer_at turn arrival bytes in
    let same : heard ≡ answer_of f.params turn.cycle (node_row_of before) offer = answer ∙ ap (λ (c : ℕ). answer_of f.params c (node_row_of before) offer) ready.in_cycle in
    let Waits : NodeView → Type 0 = λ n. IsSome n.length in
    let Correct : NodeView → Type 0 = λ n. is_arbitrary f.script n.id ≡ false in
    let InCycle : NodeView → Type 0 = λ n. n.cycle ≡ turn.cycle in
    record {
      node_is = after ∙ ap (after_hearing f.params before turn.slot turn.channel) same;
      ready = record { fits = fits; under_way = subst Waits (sym rest) ready.under_way; correct = subst Correct (sym rest) ready.correct; in_cycle = subst InCycle (sym rest) ready.in_cycle };
      counts_are = now ∙ ap (λ (h : Heard). with_answer h counted) same;
    }

-- what an arbitrary sender says comes as it is said
pub said_comes : (x : Setting) (turn : Turn) (sender : ℕ) (frame : List ℕ) (receiver : NodeRow) (shift arrival : ℤ) (bytes : Option (Bor (List ℕ))) →
    Say shift (option_map (λ (b : Bor (List ℕ)). b.now) bytes) ≡ x.event turn.cycle sender receiver.node turn.channel → IsProperEvent (Say shift (option_map (λ (b : Bor (List ℕ)). b.now) bytes)) →
    arrival ≡ said_instant x turn receiver shift → IsWithin (pos 4_000_000_000_000_000_000) arrival →
    ComesAs turn frame (said_with x turn sender frame receiver) (let coming : Coming = record { arrival = arrival; bytes = said_by bytes } in Some coming)
said_comes x turn sender frame receiver shift arrival bytes event proper at within = record {
  offer_is = offer bytes ∙ ap (λ (e : Event). option_map (λ said. offer_at turn (said_instant x turn receiver said.0) said.1) (said_in_event e frame)) event;
  within = record { arrival = within; short = short bytes proper };
} where
  short : (bytes : Option (Bor (List ℕ))) → IsProperEvent (Say shift (option_map (λ (b : Bor (List ℕ)). b.now) bytes)) → AreShort (said_by bytes)
  short None proper = tt
  short (Some b) proper = proper.said.few

  offer : (bytes : Option (Bor (List ℕ))) → Some (offer_at turn arrival (bytes_by frame (said_by bytes)))
      ≡ option_map (λ said. offer_at turn (said_instant x turn receiver said.0) said.1) (said_in_event (Say shift (option_map (λ (b : Bor (List ℕ)). b.now) bytes)) frame)
  offer None = ap (λ (a : ℤ). Some (offer_at turn a frame)) at
  offer (Some b) = ap (λ (a : ℤ). Some (offer_at turn a b.now)) at

-- what comes of the frame of a correct sender comes as it is sent
pub sent_comes : (x : Setting) (turn : Turn) (sender : NodeRow) (frame : List ℕ) (receiver : ℕ) (arrival : ℤ) (event : Event) (bytes : Bytes) → event ≡ x.event turn.cycle sender.node receiver turn.channel →
    arrived_of event frame ≡ Some (bytes_by frame bytes) → AreShort bytes → arrival ≡ sent_instant x turn sender receiver → IsWithin (pos 4_000_000_000_000_000_000) arrival →
    ComesAs turn frame (sent_with x turn sender frame receiver) (let coming : Coming = record { arrival = arrival; bytes = bytes } in Some coming)
sent_comes x turn sender frame receiver arrival event bytes is arrives short at within = record {
  offer_is =
      ap (λ (a : ℤ). Some (offer_at turn a (bytes_by frame bytes))) at
      ∙ ap (option_map (offer_at turn (sent_instant x turn sender receiver))) (sym arrives ∙ ap (λ (e : Event). arrived_of e frame) is);
  within = record { arrival = within; short = short };
}

-- the bytes of one with a bit inverted, or none, are these, and no longer than a frame
pub carried_frame : (bit : Option ℕ) (frame : List ℕ) → frame_with bit frame ≡ bytes_by frame (carried bit)
carried_frame None frame = refl
carried_frame (Some bit) frame = refl

pub carried_short : (bit : Option ℕ) → AreShort (carried bit)
carried_short None = tt
carried_short (Some bit) = tt

-- and nothing comes of one of which nothing arrives
pub nothing_comes : (x : Setting) (turn : Turn) (sender : NodeRow) (frame : List ℕ) (receiver : ℕ) (event : Event) → event ≡ x.event turn.cycle sender.node receiver turn.channel → arrived_of event frame ≡ None →
    ComesAs turn frame (sent_with x turn sender frame receiver) None
nothing_comes x turn sender frame receiver event is none = record {
  offer_is = ap (option_map (offer_at turn (sent_instant x turn sender receiver))) (sym none ∙ ap (λ (e : Event). arrived_of e frame) is);
  within = tt;
}
