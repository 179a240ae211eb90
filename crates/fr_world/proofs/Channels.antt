-- What is offered in a slot on a channel, by who sends there.
use Rattle.std.proofs.Common.{◌≡◌, ℕ, Bool, true, false, not, cond, ◌&&◌, ◌||◌, ◌==◌, List, [], ◌∷◌, Option, Some, None, map, refl, ap, sym, ◌∙◌, ap₂, ◌+◌, ◌≤◌, length, ℤ, arith}
use Rattle.std.specs.Prelude.{All, if◌then◌else◌, option_and_then}
use Rattle.std.specs.Option.{option_map}
use Rattle.std.proofs.lemmas.Bool.{eqb-true, cond_both}
use Rattle.std.proofs.lemmas.List.Elements.{All-head, All-tail}
use Rattle.fr_base.specs.States.{is_active, is_halted}
use Rattle.fr_base.specs.declared.channel.Channel.{Channel}
use Rattle.fr_base.specs.declared.cycle_row.Counts.{Counts}
use Rattle.fr_base.specs.declared.node_row.NodeRow.{NodeRow}
use Rattle.fr_time.specs.Senders.{sender_of}
use Rattle.fr_time.specs.declared.senders.Sending.{Sending}
use Rattle.fr_cluster.specs.Questions.{key_index_of}
use Rattle.fr_cluster.specs.Values.{Values}
use Rattle.fr_reception.specs.Answers.{answer_of}
use Rattle.fr_reception.specs.Offers.{Offer}
use Rattle.fr_reception.specs.declared.heard.Heard.{Heard}
use Rattle.fr_reception.specs.declared.heard.Heard.TheVariants.{Stored, Ignored}
use Rattle.fr_node.specs.Cycle.{after_hearing, with_deviation}
use Rattle.fr_air.proofs.Loops.{at_most-frame, at_most-more, at_most-offers}
use Rattle.fr_reception.specs.Regular.{is_sync_frame, regular_frame}
use Rattle.fr_script.specs.View.{is_arbitrary}
use Rattle.fr_node.specs.View.{NodeView, node_row_of}
use Rattle.fr_cluster.specs.Setting.{Setting}
use Rattle.fr_history.specs.History.{row_of as row_in}
use Rattle.fr_history.specs.Offers.{active_frame, active_offer, frame_in, is_on, offer_in, said_offer, sender_offer, sent_offer, sender_frame}
use Rattle.fr_air.specs.Counting.{counted_frame, counted_offer, counted_offers, counts_on}
use Rattle.fr_air.specs.Hearing.{after_channel, after_offer, after_slots}
use Rattle.fr_base.specs.Counts.{AreAtMost}
use Rattle.fr_air.specs.Cycling.{IsReady}
use Rattle.fr_air.specs.Files.{setting_in}
use Rattle.fr_air.specs.Sending.{hears, offer_heard, sending_row_by, sending_row_in}
use Rattle.fr_air.specs.declared.files.RunInputs.{RunInputs}
use Rattle.fr_air.specs.declared.turn.Turn.{Turn}
use Rattle.fr_air.specs.Walk.{over_slots}

-- ---- offers

-- two orders of the same tests
gates : (halted on same : Bool) (o : Option Offer) → cond (halted || not on) None (cond same None o) ≡ cond ((not halted && on) && not same) o None
gates true on true o = refl
gates true on false o = refl
gates false true true o = refl
gates false true false o = refl
gates false false true o = refl
gates false false false o = refl

abbrev nothing : Option Offer
nothing = None

never_heard : (b : Bool) → cond b nothing nothing ≡ nothing
never_heard true = refl
never_heard false = refl

-- a slot in which no one sends offers nothing
pub unused-offer : (x : Setting) (cycle : ℕ) (rows : List NodeRow) (receiver : NodeRow) (slot : ℕ) (channel : Channel) → sender_of x.params slot cycle ≡ None → offer_in x cycle rows receiver slot channel ≡ None
unfolding offer_in
unused-offer x cycle rows receiver slot channel none =
    ap (λ (s : Option Sending). cond (is_halted receiver.state || not (is_on x receiver.node channel)) None (option_and_then (sender_offer x cycle rows receiver slot channel) s)) none
    ∙ never_heard (is_halted receiver.state || not (is_on x receiver.node channel))

-- what a sender offers, once it is known what comes from it
by_sender : (x : Setting) (cycle : ℕ) (rows : List NodeRow) (receiver : NodeRow) (slot : ℕ) (channel : Channel) (sending : Sending) (o : Option Offer) → sender_of x.params slot cycle ≡ Some sending →
    (if x.is_arbitrary sending.node then (if is_sync_frame sending.kind then said_offer x cycle sending receiver slot channel else None) else active_offer x cycle sending (row_in rows sending.node) receiver slot channel) ≡ o →
    offer_in x cycle rows receiver slot channel ≡ (if hears x receiver sending.node channel then o else None)
unfolding offer_in
by_sender x cycle rows receiver slot channel sending o sends comes =
    ap (λ (s : Option Sending). cond (is_halted receiver.state || not (is_on x receiver.node channel)) None (option_and_then (sender_offer x cycle rows receiver slot channel) s)) sends
    ∙ ap (λ (p : Option Offer). cond (is_halted receiver.state || not (is_on x receiver.node channel)) None (cond (sending.node == receiver.node) None p)) comes
    ∙ gates (is_halted receiver.state) (is_on x receiver.node channel) (sending.node == receiver.node) o

pub said-offer : (x : Setting) (turn : Turn) (rows : List NodeRow) (receiver : NodeRow) (sending : Sending) → sender_of x.params turn.slot turn.cycle ≡ Some sending → x.is_arbitrary sending.node ≡ true → is_sync_frame sending.kind ≡ true →
    offer_in x turn.cycle rows receiver turn.slot turn.channel ≡ offer_heard x turn sending.node None (regular_frame x.params sending turn.slot turn.cycle turn.channel) receiver
said-offer x turn rows receiver sending sends arbitrary sync =
    by_sender x turn.cycle rows receiver turn.slot turn.channel sending (said_offer x turn.cycle sending receiver turn.slot turn.channel) sends
    (ap (λ (b : Bool). cond b (if is_sync_frame sending.kind then said_offer x turn.cycle sending receiver turn.slot turn.channel else None) (active_offer x turn.cycle sending (row_in rows sending.node) receiver turn.slot turn.channel)) arbitrary
    ∙ ap (λ (b : Bool). cond b (said_offer x turn.cycle sending receiver turn.slot turn.channel) None) sync)

pub unsaid-offer : (x : Setting) (turn : Turn) (rows : List NodeRow) (receiver : NodeRow) (sending : Sending) → sender_of x.params turn.slot turn.cycle ≡ Some sending → x.is_arbitrary sending.node ≡ true → is_sync_frame sending.kind ≡ false →
    offer_in x turn.cycle rows receiver turn.slot turn.channel ≡ None
unsaid-offer x turn rows receiver sending sends arbitrary plain =
    by_sender x turn.cycle rows receiver turn.slot turn.channel sending None sends
    (ap (λ (b : Bool). cond b (if is_sync_frame sending.kind then said_offer x turn.cycle sending receiver turn.slot turn.channel else None) (active_offer x turn.cycle sending (row_in rows sending.node) receiver turn.slot turn.channel)) arbitrary
    ∙ ap (λ (b : Bool). cond b (said_offer x turn.cycle sending receiver turn.slot turn.channel) None) plain)
    ∙ never_heard (hears x receiver sending.node turn.channel)

active_row : (x : Setting) (turn : Turn) (sending : Sending) (found : Option NodeRow) (receiver : NodeRow) (row : NodeRow) → sending_row_by x found sending.node turn.channel ≡ Some row →
    active_offer x turn.cycle sending found receiver turn.slot turn.channel ≡ sent_offer x turn.cycle sending row receiver turn.slot turn.channel
active_row x turn sending None receiver row is = cc
active_row x turn sending (Some sender) receiver row is =
    cond_both (is_active sender.state && is_on x sending.node turn.channel) (Some sender) None (λ o. o ≡ Some row → active_offer x turn.cycle sending (Some sender) receiver turn.slot turn.channel ≡ sent_offer x turn.cycle sending row receiver turn.slot turn.channel)
    (λ sends same. let e : sender ≡ row = cc in
    ap (λ (b : Bool). cond b (sent_offer x turn.cycle sending sender receiver turn.slot turn.channel) None) sends
    ∙ ap (λ (r : NodeRow). sent_offer x turn.cycle sending r receiver turn.slot turn.channel) e)
    (λ quiet other. cc)
    is

passive_row : (x : Setting) (turn : Turn) (sending : Sending) (found : Option NodeRow) (receiver : NodeRow) → sending_row_by x found sending.node turn.channel ≡ None →
    active_offer x turn.cycle sending found receiver turn.slot turn.channel ≡ None
passive_row x turn sending None receiver is = refl
passive_row x turn sending (Some sender) receiver is =
    cond_both (is_active sender.state && is_on x sending.node turn.channel) (Some sender) None (λ o. o ≡ None → active_offer x turn.cycle sending (Some sender) receiver turn.slot turn.channel ≡ None)
    (λ sends same. cc)
    (λ quiet other. ap (λ (b : Bool). cond b (sent_offer x turn.cycle sending sender receiver turn.slot turn.channel) None) quiet)
    is

pub sent-offer : (x : Setting) (turn : Turn) (rows : List NodeRow) (receiver : NodeRow) (sending : Sending) (row : NodeRow) → sender_of x.params turn.slot turn.cycle ≡ Some sending → x.is_arbitrary sending.node ≡ false →
    sending_row_in x rows sending.node turn.channel ≡ Some row →
    offer_in x turn.cycle rows receiver turn.slot turn.channel ≡ offer_heard x turn sending.node (Some row) (regular_frame x.params sending turn.slot turn.cycle turn.channel) receiver
sent-offer x turn rows receiver sending row sends correct is =
    by_sender x turn.cycle rows receiver turn.slot turn.channel sending (sent_offer x turn.cycle sending row receiver turn.slot turn.channel) sends
    (ap (λ (b : Bool). cond b (if is_sync_frame sending.kind then said_offer x turn.cycle sending receiver turn.slot turn.channel else None) (active_offer x turn.cycle sending (row_in rows sending.node) receiver turn.slot turn.channel)) correct
    ∙ active_row x turn sending (row_in rows sending.node) receiver row is)

pub unsent-offer : (x : Setting) (turn : Turn) (rows : List NodeRow) (receiver : NodeRow) (sending : Sending) → sender_of x.params turn.slot turn.cycle ≡ Some sending → x.is_arbitrary sending.node ≡ false →
    sending_row_in x rows sending.node turn.channel ≡ None → offer_in x turn.cycle rows receiver turn.slot turn.channel ≡ None
unsent-offer x turn rows receiver sending sends correct is =
    by_sender x turn.cycle rows receiver turn.slot turn.channel sending None sends
    (ap (λ (b : Bool). cond b (if is_sync_frame sending.kind then said_offer x turn.cycle sending receiver turn.slot turn.channel else None) (active_offer x turn.cycle sending (row_in rows sending.node) receiver turn.slot turn.channel)) correct
    ∙ passive_row x turn sending (row_in rows sending.node) receiver is)
    ∙ never_heard (hears x receiver sending.node turn.channel)

-- ---- frames

pub unused-frame : (x : Setting) (cycle : ℕ) (rows : List NodeRow) (slot : ℕ) (channel : Channel) → sender_of x.params slot cycle ≡ None → frame_in x cycle rows slot channel ≡ None
unfolding frame_in
unused-frame x cycle rows slot channel none = ap (option_and_then (sender_frame x cycle rows slot channel)) none

framed : (x : Setting) (turn : Turn) (sending : Sending) (found : Option NodeRow) →
    active_frame x turn.cycle sending found turn.slot turn.channel ≡ option_map (λ row. regular_frame x.params sending turn.slot turn.cycle turn.channel) (sending_row_by x found sending.node turn.channel)
framed x turn sending None = refl
framed x turn sending (Some row) = by (is_active row.state && is_on x sending.node turn.channel)
  where
    frame : List ℕ
    frame = regular_frame x.params sending turn.slot turn.cycle turn.channel

    by : (b : Bool) → cond b (Some frame) None ≡ option_map (λ row. frame) (cond b (Some row) None)
    by true = refl
    by false = refl

pub sender-frame : (x : Setting) (turn : Turn) (rows : List NodeRow) (sending : Sending) → sender_of x.params turn.slot turn.cycle ≡ Some sending →
    frame_in x turn.cycle rows turn.slot turn.channel ≡ option_map (λ row. regular_frame x.params sending turn.slot turn.cycle turn.channel) (sending_row_in x rows sending.node turn.channel)
unfolding frame_in
sender-frame x turn rows sending sends =
    ap (option_and_then (sender_frame x turn.cycle rows turn.slot turn.channel)) sends
    ∙ framed x turn sending (row_in rows sending.node)

-- an arbitrary node is not among the correct ones
pub arbitrary-row : (f : RunInputs) (cycle : ℕ) (nodes : List NodeView) (node : ℕ) → All (IsReady f cycle) nodes → is_arbitrary f.script node ≡ true → row_in (map node_row_of nodes) node ≡ None
arbitrary-row f cycle [] node ready arbitrary = refl
arbitrary-row f cycle (n ∷ ns) node ready arbitrary =
    cond_both (n.id == node) (Some (node_row_of n)) (row_in (map node_row_of ns) node) (λ o. o ≡ None)
    (λ same. let e : n.id ≡ node = eqb-true n.id node same in
    let correct : is_arbitrary f.script node ≡ false = ap (is_arbitrary f.script) (sym e) ∙ (All-head (IsReady f cycle) n ns ready).correct in
    cc)
    (λ other. arbitrary-row f cycle ns node (All-tail (IsReady f cycle) n ns ready) arbitrary)

-- ---- all receivers

-- nothing is offered to any
pub silent-nodes : (x : Setting) (cycle : ℕ) (rows : List NodeRow) (slot : ℕ) (channel : Channel) (nodes : List NodeView) → ((r : NodeRow) → offer_in x cycle rows r slot channel ≡ None) → nodes ≡ map (after_channel x cycle rows slot channel) nodes
silent-nodes x cycle rows slot channel [] none = refl
silent-nodes x cycle rows slot channel (n ∷ ns) none =
    ap₂ (λ m ms. m ∷ ms) (sym (ap (after_offer x cycle n) (none (node_row_of n)))) (silent-nodes x cycle rows slot channel ns none)

-- the same is offered to all
pub heard-nodes : (x : Setting) (cycle : ℕ) (rows : List NodeRow) (slot : ℕ) (channel : Channel) (offer : NodeRow → Option Offer) (nodes : List NodeView) → ((r : NodeRow) → offer_in x cycle rows r slot channel ≡ offer r) →
    map (λ node. after_offer x cycle node (offer (node_row_of node))) nodes ≡ map (after_channel x cycle rows slot channel) nodes
heard-nodes x cycle rows slot channel offer [] same = refl
heard-nodes x cycle rows slot channel offer (n ∷ ns) same =
    ap₂ (λ m ms. m ∷ ms) (sym (ap (after_offer x cycle n) (same (node_row_of n)))) (heard-nodes x cycle rows slot channel offer ns same)

pub offers-same : (x : Setting) (cycle : ℕ) (first second : NodeRow → Option Offer) (rows : List NodeRow) (c : Counts) → ((r : NodeRow) → first r ≡ second r) → counted_offers x cycle first rows c ≡ counted_offers x cycle second rows c
unfolding counted_offers
offers-same x cycle first second [] c same = refl
offers-same x cycle first second (r ∷ rs) c same =
    offers-same x cycle first second rs (counted_offer x cycle r (first r) c) same
    ∙ ap (λ (o : Option Offer). counted_offers x cycle second rs (counted_offer x cycle r o c)) (same r)

pub offers-none : (x : Setting) (cycle : ℕ) (rows : List NodeRow) (c : Counts) → counted_offers x cycle (λ r. None) rows c ≡ c
unfolding counted_offers
offers-none x cycle [] c = refl
offers-none x cycle (r ∷ rs) c = offers-none x cycle rs c

pub silent-counts : (x : Setting) (cycle : ℕ) (rows : List NodeRow) (slot : ℕ) (channel : Channel) (c : Counts) → ((r : NodeRow) → offer_in x cycle rows r slot channel ≡ None) → frame_in x cycle rows slot channel ≡ None →
    c ≡ counts_on x cycle rows slot channel c
silent-counts x cycle rows slot channel c none unsent =
    let o : NodeRow → Option Offer = λ r. offer_in x cycle rows r slot channel in
    sym (ap (λ (f : Option (List ℕ)). counted_offers x cycle o rows (counted_frame channel f c)) unsent
    ∙ offers-same x cycle o (λ r. None) rows c none
    ∙ offers-none x cycle rows c)

pub heard-counts : (x : Setting) (cycle : ℕ) (rows : List NodeRow) (slot : ℕ) (channel : Channel) (offer : NodeRow → Option Offer) (frame : Option (List ℕ)) (c : Counts) → ((r : NodeRow) → offer_in x cycle rows r slot channel ≡ offer r) →
    frame_in x cycle rows slot channel ≡ frame → counted_offers x cycle offer rows (counted_frame channel frame c) ≡ counts_on x cycle rows slot channel c
heard-counts x cycle rows slot channel offer frame c same sent =
    let o : NodeRow → Option Offer = λ r. offer_in x cycle rows r slot channel in
    sym (ap (λ (f : Option (List ℕ)). counted_offers x cycle o rows (counted_frame channel f c)) sent
    ∙ offers-same x cycle o offer rows (counted_frame channel frame c) same)

-- ---- hearing changes tables alone

deviation-row : (node : NodeView) (index : Option ℕ) (channel : Channel) (value : ℤ) → node_row_of (with_deviation node index channel value) ≡ node_row_of node
deviation-row node None channel value = refl
deviation-row node (Some index) channel value = refl

heard-row : (p : Values) (node : NodeView) (slot : ℕ) (channel : Channel) (heard : Heard) → node_row_of (after_hearing p node slot channel heard) ≡ node_row_of node
heard-row p node slot channel (Stored value) = deviation-row node (key_index_of p slot) channel value
heard-row p node slot channel (Ignored why) = refl

pub offer-row : (x : Setting) (cycle : ℕ) (node : NodeView) (offer : Option Offer) → node_row_of (after_offer x cycle node offer) ≡ node_row_of node
offer-row x cycle node None = refl
offer-row x cycle node (Some offer) = heard-row x.params node offer.slot offer.channel (answer_of x.params cycle (node_row_of node) offer)

pub channel-rows : (x : Setting) (cycle : ℕ) (rows : List NodeRow) (slot : ℕ) (channel : Channel) (nodes : List NodeView) → map node_row_of (map (after_channel x cycle rows slot channel) nodes) ≡ map node_row_of nodes
channel-rows x cycle rows slot channel [] = refl
channel-rows x cycle rows slot channel (n ∷ ns) =
    ap₂ (λ r rs. r ∷ rs) (offer-row x cycle n (offer_in x cycle rows (node_row_of n) slot channel)) (channel-rows x cycle rows slot channel ns)

-- ---- how many there are

pub at_most-on : (x : Setting) (cycle : ℕ) (rows : List NodeRow) (slot : ℕ) (channel : Channel) (n : ℕ) (c : Counts) → length rows ≤ 64 → AreAtMost n c → AreAtMost (n + 65) (counts_on x cycle rows slot channel c)
at_most-on x cycle rows slot channel n c few most =
    let o : NodeRow → Option Offer = λ r. offer_in x cycle rows r slot channel in
    let frame : Option (List ℕ) = frame_in x cycle rows slot channel in
    at_most-more (n + 1 + length rows) (n + 65) (counts_on x cycle rows slot channel c) (omega arith)
    (at_most-offers x cycle o rows (n + 1) (counted_frame channel frame c) (at_most-frame channel frame n c most))

-- an arbitrary node's frame is not one of a correct node
pub arbitrary-frame : (f : RunInputs) (turn : Turn) (nodes : List NodeView) (sending : Sending) → sender_of f.params turn.slot turn.cycle ≡ Some sending → All (IsReady f turn.cycle) nodes → is_arbitrary f.script sending.node ≡ true →
    frame_in (setting_in f) turn.cycle (map node_row_of nodes) turn.slot turn.channel ≡ None
arbitrary-frame f turn nodes sending sends ready arbitrary =
    sender-frame (setting_in f) turn (map node_row_of nodes) sending sends
    ∙ ap (λ (row : Option NodeRow). option_map (λ r. regular_frame f.params sending turn.slot turn.cycle turn.channel) (sending_row_by (setting_in f) row sending.node turn.channel))
    (arbitrary-row f turn.cycle nodes sending.node ready arbitrary)

-- before the first slot
pub slots-none : (x : Setting) (cycle : ℕ) (rows : List NodeRow) (nodes : List NodeView) → nodes ≡ map (after_slots x cycle rows 0) nodes
unfolding over_slots
slots-none x cycle rows [] = refl
slots-none x cycle rows (n ∷ ns) = ap (λ (ms : List NodeView). n ∷ ms) (slots-none x cycle rows ns)
