-- The receptions that the function gives are those of the laws.
use Rattle.std.proofs.Common.{◌≡◌, ℕ, ◌<◌, ◌^◌, ◌-◌, ◌/◌, ◌%◌, ℤ, Bool, true, false, Option, Some, None, List, [], ◌∷◌, All, IfSome, map, refl, ◌∙◌, lit<, arith, get_or, bit_xor, if◌then◌else◌, ◌≤◌, zero, suc, ◌==◌, not, ◌||◌, ◌&&◌}
use Rattle.std.specs.Prelude.{option_and_then, slice_index_or}
use Rattle.std.specs.List.{flat_map}
use Rattle.std.specs.Option.{option_map, option_to_list}
use Rattle.std.proofs.lemmas.Nat.{xor_lt}
use Rattle.std.proofs.Math.Nat.{pow-le-pow_right}
use Rattle.std.proofs.lemmas.List.Elements.{All-cons, All-head, All-map, All-nil, All-set, All-tail, All-weaker}
use Rattle.fr_base.specs.States.{is_active, is_halted}
use Rattle.fr_base.specs.Event.{Event}
use Rattle.fr_base.specs.Event.Event.{Regular, Silent, Flip, Say}
use Rattle.fr_base.specs.declared.channel.Channel.{Channel}
use Rattle.fr_base.specs.declared.node_row.NodeRow.{NodeRow}
use Rattle.fr_cluster.specs.Sane.{IsSane}
use Rattle.fr_cluster.specs.Values.{Values}
use Rattle.fr_time.specs.Senders.{sender_of}
use Rattle.fr_time.specs.declared.senders.Sending.{Sending}
use Rattle.fr_reception.specs.Answers.{IsAnswer, answer_of}
use Rattle.fr_reception.specs.Offers.{Offer, flipped}
use Rattle.fr_reception.specs.Regular.{is_sync_frame, regular_frame}
use Rattle.fr_cluster.specs.Setting.{IsSetting, SaysBytes, Setting}
use Rattle.fr_history.specs.History.{row_of}
use Rattle.fr_history.specs.Offers.{AreReceptionsBetween, IsProper, active_offer, is_on, arrived_of, offer_in, offer_pair, offers_between, offers_to, reception_of, receptions_between, said_in_event, said_offer, sender_offer, sent_offer, channels, static_slots_of}
use Rattle.fr_history.proofs.Lists.{All-every, All-flat_map, map-map, map_left}

-- an offer of bytes has an answer, the one that the function gives
abbrev pub AnswersExist : Type 0
AnswersExist = (p : Values) (cycle : ℕ) (row : NodeRow) (offer : Offer) → All (λ byte. byte < 2 ^ 8) offer.bytes → IsAnswer p cycle row offer (answer_of p cycle row offer)

-- regular frames are made of bytes
abbrev pub FramesAreBytes : Type 0
FramesAreBytes = (p : Values) (sending : Sending) (slot cycle : ℕ) (channel : Channel) → IsSane p → sender_of p slot cycle ≡ Some sending → All (λ byte. byte < 2 ^ 8) (regular_frame p sending slot cycle channel)

abbrev AreBytes : List ℕ → Type 0
AreBytes bytes = All (λ byte. byte < 2 ^ 8) bytes

abbrev IsOfBytes : Offer → Type 0
IsOfBytes offer = AreBytes offer.bytes

abbrev IsGood : Option Offer → Type 0
IsGood offer = IfSome offer IsOfBytes

-- ---- what is offered is made of bytes

power-lt : (k : ℕ) → 2 ^ (7 - k) < 2 ^ 8
power-lt k =
    let most : 2 ^ (7 - k) ≤ 2 ^ 7 = pow-le-pow_right {n = 2} (lit< tt) {i = 7 - k} {j = 7} (omega arith) in
    omega (arith, most)

byte_at-lt : (bytes : List ℕ) (k : ℕ) → AreBytes bytes → get_or bytes k 0 < 2 ^ 8
byte_at-lt [] k small = lit< tt
byte_at-lt (byte ∷ bytes) zero small = All-head (λ b. b < 2 ^ 8) byte bytes small
byte_at-lt (byte ∷ bytes) (suc k) small = byte_at-lt bytes k (All-tail (λ b. b < 2 ^ 8) byte bytes small)

flipped-bytes : (bit : ℕ) (frame : List ℕ) → AreBytes frame → AreBytes (flipped bit frame)
unfolding flipped
flipped-bytes bit frame small =
    All-set (λ byte. byte < 2 ^ 8) frame (bit / 8) (bit_xor (slice_index_or frame (bit / 8) 0) (2 ^ (7 - bit % 8)))
    (xor_lt 8 (slice_index_or frame (bit / 8) 0) (2 ^ (7 - bit % 8)) (byte_at-lt frame (bit / 8) small) (power-lt (bit % 8))) small

left-bytes : (event : Event) (frame : List ℕ) → AreBytes frame → IfSome (arrived_of event frame) AreBytes
left-bytes Regular frame small = small
left-bytes Silent frame small = tt
left-bytes (Flip bit) frame small = flipped-bytes bit frame small
left-bytes (Say shift bytes) frame small = tt

said-bytes : (event : Event) (frame : List ℕ) → SaysBytes event → AreBytes frame → IfSome (said_in_event event frame) (λ said. AreBytes said.1)
said-bytes Regular frame says small = tt
said-bytes Silent frame says small = tt
said-bytes (Flip bit) frame says small = tt
said-bytes (Say shift None) frame says small = small
said-bytes (Say shift (Some bytes)) frame says small = says

option_map-good : {T : Type 0} (P : T → Type 0) (f : T → Offer) → ((t : T) → P t → IsOfBytes (f t)) → (o : Option T) → IfSome o P → IsGood (option_map f o)
option_map-good P f each None is = tt
option_map-good P f each (Some t) is = each t is

if-good : (b : Bool) (o p : Option Offer) → IsGood o → IsGood p → IsGood (if b then o else p)
if-good true o p first second = first
if-good false o p first second = second

and_then-good : (f : Sending → Option Offer) (o : Option Sending) → ((sending : Sending) → o ≡ Some sending → IsGood (f sending)) → IsGood (option_and_then f o)
and_then-good f None each = tt
and_then-good f (Some sending) each = each sending refl

sent-good : (x : Setting) (cycle : ℕ) (sending : Sending) (sender receiver : NodeRow) (slot : ℕ) (channel : Channel) → AreBytes (regular_frame x.params sending slot cycle channel) → IsGood (sent_offer x cycle sending sender receiver slot channel)
sent-good x cycle sending sender receiver slot channel small =
    option_map-good AreBytes _ (λ bytes is. is) (arrived_of (x.event cycle sender.node receiver.node channel) (regular_frame x.params sending slot cycle channel))
    (left-bytes (x.event cycle sender.node receiver.node channel) (regular_frame x.params sending slot cycle channel) small)

said-good : (x : Setting) → IsSetting x → (cycle : ℕ) (sending : Sending) (receiver : NodeRow) (slot : ℕ) (channel : Channel) → AreBytes (regular_frame x.params sending slot cycle channel) → IsGood (said_offer x cycle sending receiver slot channel)
said-good x setting cycle sending receiver slot channel small =
    option_map-good (λ (said : ℤ × List ℕ). AreBytes said.1) _ (λ said is. is) (said_in_event (x.event cycle sending.node receiver.node channel) (regular_frame x.params sending slot cycle channel))
    (said-bytes (x.event cycle sending.node receiver.node channel) (regular_frame x.params sending slot cycle channel) (setting.bytes cycle sending.node receiver.node channel) small)

active-good : (x : Setting) (cycle : ℕ) (sending : Sending) (sender : Option NodeRow) (receiver : NodeRow) (slot : ℕ) (channel : Channel) → AreBytes (regular_frame x.params sending slot cycle channel) → IsGood (active_offer x cycle sending sender receiver slot channel)
active-good x cycle sending None receiver slot channel small = tt
active-good x cycle sending (Some sender) receiver slot channel small =
    if-good (is_active sender.state && is_on x sending.node channel) (sent_offer x cycle sending sender receiver slot channel) None (sent-good x cycle sending sender receiver slot channel small) tt

sender-good : (x : Setting) → IsSetting x → (cycle : ℕ) (rows : List NodeRow) (receiver : NodeRow) (slot : ℕ) (channel : Channel) (sending : Sending) → AreBytes (regular_frame x.params sending slot cycle channel) → IsGood (sender_offer x cycle rows receiver slot channel sending)
sender-good x setting cycle rows receiver slot channel sending small =
    let said : Option Offer = said_offer x cycle sending receiver slot channel in
    let sent : Option Offer = active_offer x cycle sending (row_of rows sending.node) receiver slot channel in
    let one : IsGood (if is_sync_frame sending.kind then said else None) = if-good (is_sync_frame sending.kind) said None (said-good x setting cycle sending receiver slot channel small) tt in
    let two : IsGood sent = active-good x cycle sending (row_of rows sending.node) receiver slot channel small in
    if-good (sending.node == receiver.node) None (if x.is_arbitrary sending.node then (if is_sync_frame sending.kind then said else None) else sent) tt
    (if-good (x.is_arbitrary sending.node) (if is_sync_frame sending.kind then said else None) sent one two)

offer-good : FramesAreBytes → (x : Setting) → IsSetting x → (cycle : ℕ) (rows : List NodeRow) (receiver : NodeRow) (slot : ℕ) (channel : Channel) → IsGood (offer_in x cycle rows receiver slot channel)
unfolding offer_in
offer-good frames x setting cycle rows receiver slot channel =
    if-good (is_halted receiver.state || not (is_on x receiver.node channel)) None (option_and_then (sender_offer x cycle rows receiver slot channel) (sender_of x.params slot cycle)) tt
    (and_then-good (sender_offer x cycle rows receiver slot channel) (sender_of x.params slot cycle)
    (λ sending sends. sender-good x setting cycle rows receiver slot channel sending (frames x.params sending slot cycle channel setting.sane sends)))

listed-good : (o : Option Offer) → IsGood o → All IsOfBytes (option_to_list o)
listed-good None is = All-nil IsOfBytes
listed-good (Some offer) is = All-cons IsOfBytes offer [] is (All-nil IsOfBytes)

offers-good : FramesAreBytes → (x : Setting) → IsSetting x → (cycle : ℕ) (rows receivers : List NodeRow) → All (λ pair. IsOfBytes pair.1) (offers_between x cycle rows receivers)
offers-good frames x setting cycle rows receivers =
    All-flat_map (λ (pair : NodeRow × Offer). IsOfBytes pair.1) (λ receiver. map (λ offer. (receiver, offer)) (offers_to x cycle rows receiver))
    (λ receiver. All-map (λ (pair : NodeRow × Offer). IsOfBytes pair.1) (λ offer. (receiver, offer)) (offers_to x cycle rows receiver)
    (All-flat_map IsOfBytes (λ slot. flat_map (λ channel. option_to_list (offer_in x cycle rows receiver slot channel)) channels)
    (λ slot. All-flat_map IsOfBytes (λ channel. option_to_list (offer_in x cycle rows receiver slot channel))
    (λ channel. listed-good (offer_in x cycle rows receiver slot channel) (offer-good frames x setting cycle rows receiver slot channel)) channels)
    (static_slots_of x)))
    receivers

-- ---- each offer is answered

pub receptions_are : AnswersExist → FramesAreBytes → (x : Setting) → IsSetting x → (cycle : ℕ) (rows receivers : List NodeRow)
    → AreReceptionsBetween x cycle rows receivers (receptions_between x cycle rows receivers)
receptions_are answers frames x setting cycle rows receivers =
    let pairs : List (NodeRow × Offer) = offers_between x cycle rows receivers in
    record {
      whole = map-map offer_pair (reception_of x cycle) pairs ∙ map_left (λ pair. offer_pair (reception_of x cycle pair)) pairs (All-every (λ pair. offer_pair (reception_of x cycle pair) ≡ pair) (λ pair. refl) pairs);
      answered = All-map (IsProper x cycle) (reception_of x cycle) pairs
          (All-weaker (λ (pair : NodeRow × Offer). IsOfBytes pair.1) (λ pair. IsProper x cycle (reception_of x cycle pair))
          (λ pair small. answers x.params cycle pair.0 pair.1 small) pairs (offers-good frames x setting cycle rows receivers));
    }
