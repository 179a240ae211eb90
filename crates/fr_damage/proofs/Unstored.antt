-- What is no frame is not stored and not caught: a flipped frame, in a slot and in a run.
use Rattle.std.proofs.Common.{◌≡◌, ◌⊎◌, ℕ, ℤ, ◌+◌, ◌*◌, ◌+ℤ◌, ◌^◌, ◌<◌, ◌≤◌, Bool, true, false, not, ◌&&◌, ◌||◌, ◌==◌, if◌then◌else◌, Option, Some, None, List, [], ◌∷◌, map, length, Result, Ok, Err, refl, ap, sym, ◌∙◌, subst, inl, inr, arith}
use Rattle.std.specs.Prelude.{All, option_and_then}
use Rattle.std.proofs.lemmas.Bool.{cases_Bool, eqb-true}
use Rattle.fr_base.specs.States.{is_active, is_halted}
use Rattle.fr_base.specs.Event.{Event}
use Rattle.fr_base.specs.Event.Event.{Flip}
use Rattle.fr_base.specs.Rows.{dev_in}
use Rattle.fr_base.specs.declared.dev.Dev.{Dev}
use Rattle.fr_base.specs.declared.channel.Channel.{Channel}
use Rattle.fr_base.specs.declared.node_row.NodeRow.{NodeRow}
use Rattle.fr_crc.specs.Bits.{message_of, xor}
use Rattle.fr_frame.specs.declared.header.Header.{Header}
use Rattle.fr_frame.specs.declared.fault.FrameFault.{FrameFault}
use Rattle.fr_frame.specs.declared.fault.FrameFault.TheVariants.{HeaderCrc, FrameCrc}
use Rattle.fr_frame.specs.Frame.{IsFrame, IsNoFrame}
use Rattle.fr_frame.specs.Reading.{payload_in, read_as}
use Rattle.fr_frame.proofs.Exact.{lengths_fit, read_frame}
use Rattle.fr_cluster.specs.Sane.{IsSane}
use Rattle.fr_cluster.specs.Setting.{Setting}
use Rattle.fr_cluster.specs.Values.{Values}
use Rattle.fr_coverage.specs.Decided.{setting_of}
use Rattle.fr_drift.specs.View.{DriftView}
use Rattle.fr_script.specs.Files.{ScriptFits}
use Rattle.fr_script.specs.View.{ScriptView}
use Rattle.fr_script.proofs.Outcomes.{fits-flip}
use Rattle.fr_time.specs.Instant.{action_instant}
use Rattle.fr_time.specs.Senders.{sender_of}
use Rattle.fr_time.specs.declared.senders.Sending.{Sending}
use Rattle.fr_reception.specs.Answers.{ArrivesInSlot, IsAnswer, answer_of}
use Rattle.fr_reception.specs.Listening.{good_arrival, is_sync_of}
use Rattle.fr_reception.specs.Offers.{Offer, flipped}
use Rattle.fr_reception.specs.Regular.{is_sync_frame, payload_bytes, regular_frame, regular_header, regular_payload}
use Rattle.fr_reception.specs.declared.heard.Heard.{Heard}
use Rattle.fr_reception.specs.declared.heard.Heard.TheVariants.{Stored, Ignored}
use Rattle.fr_reception.specs.declared.heard.Ignored.TheVariants as reason
use Rattle.fr_reception.proofs.Answers.{answer_found, answer_is}
use Rattle.fr_reception.proofs.Frames.{length-regular_frame, regular_is_frame, regular_is_of_bytes}
use Rattle.fr_history.specs.History.{row_of}
use Rattle.fr_history.specs.Rows.{uncorrected}
use Rattle.fr_history.proofs.Devs.{dev_in-unstored}
use Rattle.fr_history.proofs.Found.{receptions_found}
use Rattle.fr_history.specs.Offers.{AreReceptionsBetween, Reception, active_offer, arrived_of, devs_among, is_on, offer_in, said_in_event, said_offer, sender_offer, sent_offer, stored_in, value_of}
use Rattle.fr_history.specs.Catching.{caught_arrival, listening_row, sender_offers}
use Rattle.fr_history.specs.Cycles.{Cycle, Cycles}
use Rattle.fr_history.specs.Lawful.{FollowersObey, ToldObeys}
use Rattle.fr_damage.specs.Damage.{FailsFrameCrc, FailsHeaderCrc, IsInHeaderCode, IsOutsideHeaderCode, ones}
use Rattle.fr_damage.proofs.Few.{few_no_frame}
use Rattle.fr_damage.proofs.Inverted.{TwoInverted, one_in_header_code, one_no_frame, one_outside, two_in_header_code, two_no_frame, two_outside}
use Rattle.fr_damage.specs.Flips.{IsFlipped, ScriptFlips}
use Rattle.fr_damage.proofs.Copies.{flipped_message, flipped_small, flipped_twice}

-- ---- a flipped frame
pub flip_no_frame : (channel : Channel) (header : Header) (payload frame : List ℕ) (bit : ℕ) → IsFrame channel header payload frame → bit < 8 * length frame → IsNoFrame channel (flipped bit frame)
flip_no_frame channel header payload frame bit is below = one_no_frame channel header payload frame (flipped bit frame) bit is below (flipped_message bit frame below)

in_frame : (channel : Channel) (header : Header) (payload frame : List ℕ) (bit : ℕ) → IsFrame channel header payload frame → IsInHeaderCode bit → bit < 8 * length frame
in_frame channel header payload frame bit is within = omega (arith, within.1, (lengths_fit channel header payload frame is).0)

pub flip_in_header : (channel : Channel) (header : Header) (payload frame : List ℕ) (bit : ℕ) → IsFrame channel header payload frame → All (λ b. b < 2 ^ 8) frame → IsInHeaderCode bit → FailsHeaderCrc channel (flipped bit frame)
flip_in_header channel header payload frame bit is small within =
    one_in_header_code channel header payload frame (flipped bit frame) bit is (flipped_small bit frame small) within (flipped_message bit frame (in_frame channel header payload frame bit is within))

pub flip_outside : (channel : Channel) (header : Header) (payload frame : List ℕ) (bit : ℕ) → IsFrame channel header payload frame → All (λ b. b < 2 ^ 8) frame → IsOutsideHeaderCode bit → bit < 8 * length frame → FailsFrameCrc channel (flipped bit frame)
flip_outside channel header payload frame bit is small outside below =
    one_outside channel header payload frame (flipped bit frame) bit is (flipped_small bit frame small) outside below (flipped_message bit frame below)

-- ---- a frame flipped twice
abbrev pub flipped_two : ℕ → ℕ → List ℕ → List ℕ
flipped_two bit distance frame = flipped bit (flipped (bit + distance) frame)

two_inverted : (bit distance : ℕ) (frame : List ℕ) → bit + distance < 8 * length frame → TwoInverted bit distance frame (flipped_two bit distance frame)
two_inverted bit distance frame below = flipped_twice bit (bit + distance) frame (omega arith) below

pub flips_no_frame : (channel : Channel) (header : Header) (payload frame : List ℕ) (bit distance : ℕ) → IsFrame channel header payload frame → 1 ≤ distance → bit + distance < 8 * length frame → IsNoFrame channel (flipped_two bit distance frame)
flips_no_frame channel header payload frame bit distance is some below =
    two_no_frame channel header payload frame (flipped_two bit distance frame) bit distance is some below (two_inverted bit distance frame below)

pub flips_in_header : (channel : Channel) (header : Header) (payload frame : List ℕ) (bit distance : ℕ) → IsFrame channel header payload frame → All (λ b. b < 2 ^ 8) frame →
    1 ≤ distance → bit + distance < 8 * length frame → IsInHeaderCode bit ⊎ IsInHeaderCode (bit + distance) → FailsHeaderCrc channel (flipped_two bit distance frame)
flips_in_header channel header payload frame bit distance is small some below within =
    two_in_header_code channel header payload frame (flipped_two bit distance frame) bit distance is (flipped_small bit (flipped (bit + distance) frame) (flipped_small (bit + distance) frame small)) some within (two_inverted bit distance frame below)

pub flips_outside : (channel : Channel) (header : Header) (payload frame : List ℕ) (bit distance : ℕ) → IsFrame channel header payload frame → All (λ b. b < 2 ^ 8) frame →
    1 ≤ distance → bit + distance < 8 * length frame → IsOutsideHeaderCode bit → IsOutsideHeaderCode (bit + distance) → FailsFrameCrc channel (flipped_two bit distance frame)
flips_outside channel header payload frame bit distance is small some below near far =
    two_outside channel header payload frame (flipped_two bit distance frame) bit distance is (flipped_small bit (flipped (bit + distance) frame) (flipped_small (bit + distance) frame small)) near far some below (two_inverted bit distance frame below)

-- ---- the answer
pub not_stored : (p : Values) (cycle : ℕ) (row : NodeRow) (offer : Offer) (value : ℤ) → IsNoFrame offer.channel offer.bytes → IsAnswer p cycle row offer (Stored value) → ⊥
not_stored p cycle row offer value none is = none is.header is.length_right.cycle_right.slot_id.received.payload is.length_right.cycle_right.slot_id.received.frame

no_value : (p : Values) (cycle : ℕ) (row : NodeRow) (offer : Offer) (heard : Heard) → IsNoFrame offer.channel offer.bytes → IsAnswer p cycle row offer heard → value_of heard ≡ None
no_value p cycle row offer (Stored value) none is = absurd (not_stored p cycle row offer value none is)
no_value p cycle row offer (Ignored why) none is = refl

pub flip_not_stored : (p : Values) (cycle : ℕ) (row : NodeRow) (offer : Offer) (header : Header) (payload frame : List ℕ) (bit : ℕ) (value : ℤ) → IsFrame offer.channel header payload frame →
    bit < 8 * length frame → offer.bytes ≡ flipped bit frame → IsAnswer p cycle row offer (Stored value) → ⊥
flip_not_stored p cycle row offer header payload frame bit value is below same =
    let P : List ℕ → Type 0 = λ (bytes : List ℕ). IsNoFrame offer.channel bytes in
    not_stored p cycle row offer value (subst P (sym same) (flip_no_frame offer.channel header payload frame bit is below))

pub flip_damaged_header : (p : Values) (cycle : ℕ) (row : NodeRow) (offer : Offer) (header : Header) (payload frame : List ℕ) (bit : ℕ) → IsFrame offer.channel header payload frame →
    All (λ b. b < 2 ^ 8) frame → IsInHeaderCode bit → offer.bytes ≡ flipped bit frame → ArrivesInSlot p row offer →
    (kept : ℕ) × ((computed : ℕ) × IsAnswer p cycle row offer (Ignored (reason.Damaged (HeaderCrc kept computed))))
flip_damaged_header p cycle row offer header payload frame bit is small within same in_slot =
    let P : List ℕ → Type 0 = λ (bytes : List ℕ). FailsHeaderCrc offer.channel bytes in
    let fails : FailsHeaderCrc offer.channel offer.bytes = subst P (sym same) (flip_in_header offer.channel header payload frame bit is small within) in
    (fails.0, (fails.1.0, record { in_slot = in_slot; first_fault = fails.1.1 }))

pub flip_damaged_frame : (p : Values) (cycle : ℕ) (row : NodeRow) (offer : Offer) (header : Header) (payload frame : List ℕ) (bit : ℕ) → IsFrame offer.channel header payload frame →
    All (λ b. b < 2 ^ 8) frame → IsOutsideHeaderCode bit → bit < 8 * length frame → offer.bytes ≡ flipped bit frame → ArrivesInSlot p row offer →
    (kept : ℕ) × ((computed : ℕ) × IsAnswer p cycle row offer (Ignored (reason.Damaged (FrameCrc kept computed))))
flip_damaged_frame p cycle row offer header payload frame bit is small outside below same in_slot =
    let P : List ℕ → Type 0 = λ (bytes : List ℕ). FailsFrameCrc offer.channel bytes in
    let fails : FailsFrameCrc offer.channel offer.bytes = subst P (sym same) (flip_outside offer.channel header payload frame bit is small outside below) in
    (fails.0, (fails.1.0, record { in_slot = in_slot; first_fault = fails.1.1 }))

-- ---- what is done with no frame

-- a receiver makes nothing of bytes that are no frame
abbrev MakesNothing : (Offer → Option ℤ) → Type 0
MakesNothing heard = (offer : Offer) → All (λ b. b < 2 ^ 8) offer.bytes → IsNoFrame offer.channel offer.bytes → heard offer ≡ None

stores_nothing : (p : Values) (cycle : ℕ) (row : NodeRow) → MakesNothing (λ offer. value_of (answer_of p cycle row offer))
stores_nothing p cycle row offer small none = no_value p cycle row offer (answer_of p cycle row offer) none (answer_is p cycle row offer small)

pub catches_nothing : (slot : ℕ) → MakesNothing (good_arrival slot)
catches_nothing slot offer small none = ap (λ (good : Bool). if good then Some offer.arrival else None) (by_read (read_as offer.channel offer.bytes) refl)
  where
    by_read : (r : Result Header FrameFault) → read_as offer.channel offer.bytes ≡ r → is_sync_of slot r ≡ false
    by_read (Ok header) read = absurd (none header (payload_in header offer.bytes) (read_frame offer.channel offer.bytes header small read))
    by_read (Err fault) read = refl

pub few_not_caught : (slot : ℕ) (offer : Offer) (header : Header) (payload frame : List ℕ) → All (λ b. b < 2 ^ 8) offer.bytes → IsFrame offer.channel header payload frame → length offer.bytes ≡ length frame →
    1 ≤ ones (xor (message_of frame) (message_of offer.bytes)) → ones (xor (message_of frame) (message_of offer.bytes)) ≤ 3 → good_arrival slot offer ≡ None
few_not_caught slot offer header payload frame small is long some few =
    catches_nothing slot offer small (few_no_frame offer.channel header payload frame offer.bytes is long some few)

-- ---- in a run

-- a receiver makes nothing of what is offered
abbrev IsNothing : (Offer → Option ℤ) → Option Offer → Type 0
IsNothing heard offer = option_and_then heard offer ≡ None

if-nothing : (heard : Offer → Option ℤ) (b : Bool) (one other : Option Offer) → IsNothing heard one → IsNothing heard other → IsNothing heard (if b then one else other)
if-nothing heard true one other first second = first
if-nothing heard false one other first second = second

-- the sender's row is one of the node
row_is : (rows : List NodeRow) (node : ℕ) (row : NodeRow) → row_of rows node ≡ Some row → row.node ≡ node
row_is [] node row found = cc
row_is (r ∷ rows) node row found = elim (cases_Bool (r.node == node)) [
  | inl passes ↦
      let here : row_of (r ∷ rows) node ≡ Some r = rw passes refl in
      let same : r ≡ row = cc in
      ap (λ (y : NodeRow). y.node) (sym same) ∙ eqb-true r.node node passes
  | inr fails ↦
      let rest : row_of (r ∷ rows) node ≡ row_of rows node = rw fails refl in
      row_is rows node row (sym rest ∙ found)
]

sent-nothing : (heard : Offer → Option ℤ) → MakesNothing heard → (x : Setting) (cycle : ℕ) (sender receiver : NodeRow) (slot : ℕ) (channel : Channel) → IsSane x.params → (is : IsFlipped x cycle receiver.node slot channel) →
    sender.node ≡ is.sending.node → IsNothing heard (sent_offer x cycle is.sending sender receiver slot channel)
sent-nothing heard nothing x cycle sender receiver slot channel sane is same =
    let sending : Sending = is.sending in
    let bit : ℕ = is.bit in
    let frame : List ℕ = regular_frame x.params sending slot cycle channel in
    let header : Header = regular_header x.params sending slot cycle in
    let payload : List ℕ = regular_payload x.params sending slot cycle in
    let regular : IsFrame channel header payload frame = regular_is_frame x.params sending slot cycle channel sane is.sends in
    let small : All (λ b. b < 2 ^ 8) frame = regular_is_of_bytes x.params sending slot cycle channel sane is.sends in
    let long : length frame ≡ 8 + payload_bytes x.params = length-regular_frame x.params sending slot cycle channel sane is.sends in
    let none : IsNoFrame channel (flipped bit frame) = flip_no_frame channel header payload frame bit regular (omega (arith, long, is.within)) in
    let event : x.event cycle sender.node receiver.node channel ≡ Flip bit = ap (λ (node : ℕ). x.event cycle node receiver.node channel) same ∙ is.event in
    let arrived : arrived_of (x.event cycle sender.node receiver.node channel) frame ≡ Some (flipped bit frame) = ap (λ (e : Event). arrived_of e frame) event in
    let offer : Offer = record {
      slot = slot;
      channel = channel;
      arrival = action_instant x.params sender slot +ℤ x.delay sender.node receiver.node channel cycle;
      bytes = flipped bit frame;
    } in
    let offered : sent_offer x cycle sending sender receiver slot channel ≡ Some offer = rw arrived refl in
    let P : Option Offer → Type 0 = λ (o : Option Offer). IsNothing heard o in
    subst P (sym offered) (nothing offer (flipped_small bit frame small) none)

said-nothing : (heard : Offer → Option ℤ) (x : Setting) (cycle : ℕ) (receiver : NodeRow) (slot : ℕ) (channel : Channel) → (is : IsFlipped x cycle receiver.node slot channel) →
    IsNothing heard (said_offer x cycle is.sending receiver slot channel)
said-nothing heard x cycle receiver slot channel is =
    let sending : Sending = is.sending in
    let nothing : said_in_event (x.event cycle sending.node receiver.node channel) (regular_frame x.params sending slot cycle channel) ≡ None =
    ap (λ (e : Event). said_in_event e (regular_frame x.params sending slot cycle channel)) is.event in
    let offered : said_offer x cycle sending receiver slot channel ≡ None = rw nothing refl in
    let P : Option Offer → Type 0 = λ (o : Option Offer). IsNothing heard o in
    subst P (sym offered) refl

active-nothing : (heard : Offer → Option ℤ) → MakesNothing heard → (x : Setting) (cycle : ℕ) (rows : List NodeRow) (sender : Option NodeRow) (receiver : NodeRow) (slot : ℕ) (channel : Channel) → IsSane x.params →
    (is : IsFlipped x cycle receiver.node slot channel) → row_of rows is.sending.node ≡ sender → IsNothing heard (active_offer x cycle is.sending sender receiver slot channel)
active-nothing heard nothing x cycle rows None receiver slot channel sane is found = refl
active-nothing heard nothing x cycle rows (Some sender) receiver slot channel sane is found =
    if-nothing heard (is_active sender.state && is_on x is.sending.node channel) (sent_offer x cycle is.sending sender receiver slot channel) None
    (sent-nothing heard nothing x cycle sender receiver slot channel sane is (row_is rows is.sending.node sender found)) refl

sender-nothing : (heard : Offer → Option ℤ) → MakesNothing heard → (x : Setting) (cycle : ℕ) (rows : List NodeRow) (receiver : NodeRow) (slot : ℕ) (channel : Channel) → IsSane x.params →
    (is : IsFlipped x cycle receiver.node slot channel) → IsNothing heard (sender_offer x cycle rows receiver slot channel is.sending)
sender-nothing heard nothing x cycle rows receiver slot channel sane is =
    let sending : Sending = is.sending in
    let said : Option Offer = said_offer x cycle sending receiver slot channel in
    let sent : Option Offer = active_offer x cycle sending (row_of rows sending.node) receiver slot channel in
    let one : IsNothing heard (if is_sync_frame sending.kind then said else None) =
    if-nothing heard (is_sync_frame sending.kind) said None (said-nothing heard x cycle receiver slot channel is) refl in
    let two : IsNothing heard sent = active-nothing heard nothing x cycle rows (row_of rows sending.node) receiver slot channel sane is refl in
    if-nothing heard (sending.node == receiver.node) None (if x.is_arbitrary sending.node then (if is_sync_frame sending.kind then said else None) else sent) refl
    (if-nothing heard (x.is_arbitrary sending.node) (if is_sync_frame sending.kind then said else None) sent one two)

pub flip_unstored : (x : Setting) (cycle : ℕ) (rows : List NodeRow) (receiver : NodeRow) (slot : ℕ) (channel : Channel) → IsSane x.params → IsFlipped x cycle receiver.node slot channel →
    stored_in x cycle rows receiver slot channel ≡ None
unfolding stored_in offer_in
flip_unstored x cycle rows receiver slot channel sane is =
    let heard : Offer → Option ℤ = λ offer. value_of (answer_of x.params cycle receiver offer) in
    let inner : option_and_then (sender_offer x cycle rows receiver slot channel) (sender_of x.params slot cycle) ≡ sender_offer x cycle rows receiver slot channel is.sending =
    ap (option_and_then (sender_offer x cycle rows receiver slot channel)) is.sends in
    let P : Option Offer → Type 0 = λ (o : Option Offer). IsNothing heard o in
    if-nothing heard (is_halted receiver.state || not (is_on x receiver.node channel)) None (option_and_then (sender_offer x cycle rows receiver slot channel) (sender_of x.params slot cycle)) refl
    (subst P (sym inner) (sender-nothing heard (stores_nothing x.params cycle receiver) x cycle rows receiver slot channel sane is))

-- nor does a node catch it that listens
pub flip_uncaught : (x : Setting) (cycle : ℕ) (rows : List NodeRow) (node slot : ℕ) (channel : Channel) → IsSane x.params → IsFlipped x cycle node slot channel → caught_arrival x cycle rows node slot channel ≡ None
unfolding caught_arrival
flip_uncaught x cycle rows node slot channel sane is =
    let heard : Offer → Option ℤ = good_arrival slot in
    let sending : Sending = is.sending in
    let sent : Option Offer = active_offer x cycle sending (row_of rows sending.node) (listening_row node) slot channel in
    let inner : option_and_then (sender_offers x cycle rows node slot channel) (sender_of x.params slot cycle) ≡ sender_offers x cycle rows node slot channel sending =
    ap (option_and_then (sender_offers x cycle rows node slot channel)) is.sends in
    let P : Option Offer → Type 0 = λ (o : Option Offer). IsNothing heard o in
    if-nothing heard (not (is_on x node channel)) None (option_and_then (sender_offers x cycle rows node slot channel) (sender_of x.params slot cycle)) refl
    (subst P (sym inner)
    (if-nothing heard ((sending.node == node) || x.is_arbitrary sending.node) None sent refl
    (active-nothing heard (catches_nothing slot) x cycle rows (row_of rows sending.node) (listening_row node) slot channel sane is refl)))

-- ---- in a cycle

unlisted : (x : Setting) (cycle : ℕ) (rows receivers : List NodeRow) (receptions : List Reception) (receiver slot : ℕ) (channel : Channel) → IsSane x.params → AreReceptionsBetween x cycle rows receivers receptions →
    IsFlipped x cycle receiver slot channel → dev_in (devs_among receptions) receiver slot channel ≡ None
unlisted x cycle rows receivers receptions receiver slot channel sane are is =
    let P : ℕ → Type 0 = λ (node : ℕ). IsFlipped x cycle node slot channel in
    ap (λ (heard : List Reception). dev_in (devs_among heard) receiver slot channel) (receptions_found answer_found x cycle rows receivers receptions are)
    ∙ dev_in-unstored x cycle rows receivers receiver slot channel (λ row own. flip_unstored x cycle rows row slot channel sane (subst P (sym own) is))

pub flip_unlisted : (x : Setting) (h : Cycles) (c : Cycle) (receiver slot : ℕ) (channel : Channel) → IsSane x.params → ToldObeys x h c → IsFlipped x (length h) receiver slot channel →
    dev_in c.told.devs receiver slot channel ≡ None
flip_unlisted x h c receiver slot channel sane obeys is =
    ap (λ (devs : List Dev). dev_in devs receiver slot channel) obeys.devs
    ∙ unlisted x (length h) (map uncorrected c.told.rows) (map uncorrected c.told.rows) obeys.receptions receiver slot channel sane obeys.received is

pub flip_unfollowed : (x : Setting) (h : Cycles) (c : Cycle) (receiver slot : ℕ) (channel : Channel) → IsSane x.params → FollowersObey x h c → IsFlipped x (length h) receiver slot channel →
    dev_in c.follower_devs receiver slot channel ≡ None
flip_unfollowed x h c receiver slot channel sane obeys is =
    ap (λ (devs : List Dev). dev_in devs receiver slot channel) obeys.devs
    ∙ unlisted x (length h) (map uncorrected c.told.rows) (map uncorrected c.followers) obeys.receptions receiver slot channel sane obeys.received is

-- ---- by the function
pub flip_not_found : (p : Values) (cycle : ℕ) (row : NodeRow) (offer : Offer) (header : Header) (payload frame : List ℕ) (bit : ℕ) (value : ℤ) → IsFrame offer.channel header payload frame →
    All (λ b. b < 2 ^ 8) frame → bit < 8 * length frame → offer.bytes ≡ flipped bit frame → answer_of p cycle row offer ≡ Stored value → ⊥
flip_not_found p cycle row offer header payload frame bit value is small below same found =
    let P : List ℕ → Type 0 = λ (bytes : List ℕ). All (λ b. b < 2 ^ 8) bytes in
    let Q : Heard → Type 0 = λ (heard : Heard). IsAnswer p cycle row offer heard in
    let answered : IsAnswer p cycle row offer (answer_of p cycle row offer) = answer_is p cycle row offer (subst P (sym same) (flipped_small bit frame small)) in
    flip_not_stored p cycle row offer header payload frame bit value is below same (subst Q found answered)

-- ---- of three files

flips_it : (p : Values) (d : DriftView) (s : ScriptView) (cycle node slot : ℕ) (channel : Channel) → ScriptFits p s → ScriptFlips p s cycle node slot channel → IsFlipped (setting_of p d s) cycle node slot channel
flips_it p d s cycle node slot channel fits flips = record {
  sending = flips.sending;
  bit = flips.bit;
  sends = flips.sends;
  event = flips.event;
  within = fits-flip p s cycle flips.sending.node node channel flips.bit fits flips.event;
}

pub files_unstored : (p : Values) (d : DriftView) (s : ScriptView) (cycle : ℕ) (rows : List NodeRow) (receiver : NodeRow) (slot : ℕ) (channel : Channel) →
    IsSane p → ScriptFits p s → ScriptFlips p s cycle receiver.node slot channel → stored_in (setting_of p d s) cycle rows receiver slot channel ≡ None
files_unstored p d s cycle rows receiver slot channel sane fits flips = flip_unstored (setting_of p d s) cycle rows receiver slot channel sane (flips_it p d s cycle receiver.node slot channel fits flips)

pub files_unlisted : (p : Values) (d : DriftView) (s : ScriptView) (h : Cycles) (c : Cycle) (receiver slot : ℕ) (channel : Channel) →
    IsSane p → ScriptFits p s → ToldObeys (setting_of p d s) h c → ScriptFlips p s (length h) receiver slot channel → dev_in c.told.devs receiver slot channel ≡ None
files_unlisted p d s h c receiver slot channel sane fits obeys flips = flip_unlisted (setting_of p d s) h c receiver slot channel sane obeys (flips_it p d s (length h) receiver slot channel fits flips)

pub files_unfollowed : (p : Values) (d : DriftView) (s : ScriptView) (h : Cycles) (c : Cycle) (receiver slot : ℕ) (channel : Channel) →
    IsSane p → ScriptFits p s → FollowersObey (setting_of p d s) h c → ScriptFlips p s (length h) receiver slot channel → dev_in c.follower_devs receiver slot channel ≡ None
files_unfollowed p d s h c receiver slot channel sane fits obeys flips = flip_unfollowed (setting_of p d s) h c receiver slot channel sane obeys (flips_it p d s (length h) receiver slot channel fits flips)

pub files_uncaught : (p : Values) (d : DriftView) (s : ScriptView) (cycle : ℕ) (rows : List NodeRow) (node slot : ℕ) (channel : Channel) →
    IsSane p → ScriptFits p s → ScriptFlips p s cycle node slot channel → caught_arrival (setting_of p d s) cycle rows node slot channel ≡ None
files_uncaught p d s cycle rows node slot channel sane fits flips = flip_uncaught (setting_of p d s) cycle rows node slot channel sane (flips_it p d s cycle node slot channel fits flips)
