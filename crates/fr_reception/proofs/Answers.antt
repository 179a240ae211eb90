-- An offer has one answer: the one that the function gives.
use Rattle.std.proofs.Common.{◌≡◌, ◌⊎◌, ℕ, ℤ, true, false, not, cond, ◌||◌, ◌==◌, ◌^◌, ◌<◌, ◌≤ℤ◌, ◌<ℤ◌, Option, Some, None, Result, Ok, Err, refl, ap, sym, ◌∙◌, inl, inr, arith}
use Rattle.std.specs.Prelude.{All, IsSome, is_none, int_lt, int_le}
use Rattle.std.proofs.lemmas.Bool.{cond_both, cond-true, cond-false, or_parts, or_cases, or_from, or_left, or_right, not-true, not-false, not_from_true, not_from_false, eqb-true, eqb-false, eq-eqb, ne_eqb}
use Rattle.std.proofs.lemmas.Int.{ints}
use Rattle.fr_base.specs.declared.node_row.NodeRow.{NodeRow}
use Rattle.fr_frame.specs.declared.header.Header.{Header}
use Rattle.fr_frame.specs.declared.fault.FrameFault.{FrameFault}
use Rattle.fr_frame.specs.Reading.{read_as}
use Rattle.fr_frame.proofs.Reading.{Reads, reads}
use Rattle.fr_frame.proofs.Found.{frame_read, fault_read}
use Rattle.fr_cluster.specs.Values.{Values, amount}
use Rattle.fr_cluster.specs.Questions.{key_index_of}
use Rattle.fr_cluster.specs.declared.names.ParamName.TheVariants as name
use Rattle.fr_time.specs.Cycles.{cycle_count}
use Rattle.fr_reception.specs.declared.heard.Heard.{Heard}
use Rattle.fr_reception.specs.declared.heard.Heard.TheVariants.{Stored, Ignored}
use Rattle.fr_reception.specs.declared.heard.Ignored.TheVariants as reason
use Rattle.fr_reception.specs.Offers.{Offer, deviation_of}
use Rattle.fr_time.specs.Instant.{slot_begins, slot_ends}
use Rattle.fr_reception.specs.Answers.{ArrivesInSlot, IsReceived, HasSlotId, HasCycleCount, HasStaticLength, IsOutsideSlot, IsAnswer, answer_by, answer_of}

-- ---- tests of numbers, and what they tell
told_before : (a b : ℤ) → int_lt a b ≡ true → a <ℤ b
told_before a b told = grind (arith, ints)

told_from : (a b : ℤ) → int_lt a b ≡ false → b ≤ℤ a
told_from a b told = grind (arith, ints)

told_to : (a b : ℤ) → int_le a b ≡ true → a ≤ℤ b
told_to a b told = grind (arith, ints)

told_after : (a b : ℤ) → int_le a b ≡ false → b <ℤ a
told_after a b told = grind (arith, ints)

tells_before : (a b : ℤ) → a <ℤ b → int_lt a b ≡ true
tells_before a b is = grind (arith, ints)

tells_from : (a b : ℤ) → b ≤ℤ a → int_lt a b ≡ false
tells_from a b is = grind (arith, ints)

tells_to : (a b : ℤ) → a ≤ℤ b → int_le a b ≡ true
tells_to a b is = grind (arith, ints)

tells_after : (a b : ℤ) → b <ℤ a → int_le a b ≡ false
tells_after a b is = grind (arith, ints)

told_none : (o : Option ℕ) → is_none o ≡ true → o ≡ None
told_none None told = refl
told_none (Some x) told = cc

told_some : (o : Option ℕ) → is_none o ≡ false → IsSome o
told_some None told = cc
told_some (Some x) told = refl

tells_some : (o : Option ℕ) → IsSome o → is_none o ≡ false
tells_some None is = cc
tells_some (Some x) is = refl

-- ---- the answer's cases one after the other

-- with the cluster's payload length
abbrev by_sync : Values → NodeRow → Offer → Header → Heard
by_sync p row offer header =
    cond (not header.sync || is_none (key_index_of p offer.slot)) (Ignored reason.Plain) (Stored (deviation_of p row offer))

-- with the cycle's count
abbrev by_length : Values → NodeRow → Offer → Header → Heard
by_length p row offer header =
    cond (not (header.words == amount p name.gPayloadLengthStatic)) (Ignored (reason.WrongLength (amount p name.gPayloadLengthStatic) header.words)) (by_sync p row offer header)

-- with the slot's number
abbrev by_cycle : Values → ℕ → NodeRow → Offer → Header → Heard
by_cycle p cycle row offer header =
    cond (not (header.cycle == cycle_count cycle)) (Ignored (reason.WrongCycle (cycle_count cycle) header.cycle)) (by_length p row offer header)

-- ---- what the function answers is an answer
plain_or_stored : (p : Values) (cycle : ℕ) (row : NodeRow) (offer : Offer) (h : Header) → HasStaticLength p cycle row offer h → IsAnswer p cycle row offer (by_sync p row offer h)
plain_or_stored p cycle row offer h right =
    cond_both (not h.sync || is_none (key_index_of p offer.slot)) (Ignored reason.Plain) (Stored (deviation_of p row offer)) (IsAnswer p cycle row offer)
    (λ either. record { header = h; length_right = right; plain = cases either })
    (λ neither. let parts : (not h.sync ≡ false) × (is_none (key_index_of p offer.slot) ≡ false) = or_parts (not h.sync) (is_none (key_index_of p offer.slot)) neither in
    record { header = h; length_right = right; sync = not-false h.sync parts.0; key_slot = told_some (key_index_of p offer.slot) parts.1; measured = refl })
  where
    cases : (not h.sync || is_none (key_index_of p offer.slot)) ≡ true → (h.sync ≡ false) ⊎ (key_index_of p offer.slot ≡ None)
    cases either = elim (or_cases (not h.sync) (is_none (key_index_of p offer.slot)) either) [
      | inl clear ↦ inl (not-true h.sync clear)
      | inr none ↦ inr (told_none (key_index_of p offer.slot) none)
    ]

length_or_more : (p : Values) (cycle : ℕ) (row : NodeRow) (offer : Offer) (h : Header) → HasCycleCount p cycle row offer h → IsAnswer p cycle row offer (by_length p row offer h)
length_or_more p cycle row offer h right =
    let own : ℕ = amount p name.gPayloadLengthStatic in
    cond_both (not (h.words == own)) (Ignored (reason.WrongLength own h.words)) (by_sync p row offer h) (IsAnswer p cycle row offer)
    (λ wrong. record { header = h; cycle_right = right; static = refl; stated = refl; differs = eqb-false h.words own (not-true (h.words == own) wrong) })
    (λ fine. plain_or_stored p cycle row offer h (record { cycle_right = right; words = eqb-true h.words own (not-false (h.words == own) fine) }))

cycle_or_more : (p : Values) (cycle : ℕ) (row : NodeRow) (offer : Offer) (h : Header) → HasSlotId p row offer h → IsAnswer p cycle row offer (by_cycle p cycle row offer h)
cycle_or_more p cycle row offer h right =
    let own : ℕ = cycle_count cycle in
    cond_both (not (h.cycle == own)) (Ignored (reason.WrongCycle own h.cycle)) (by_length p row offer h) (IsAnswer p cycle row offer)
    (λ wrong. record { header = h; slot_id = right; counted = refl; stated = refl; differs = eqb-false h.cycle own (not-true (h.cycle == own) wrong) })
    (λ fine. length_or_more p cycle row offer h (record { slot_id = right; count = eqb-true h.cycle own (not-false (h.cycle == own) fine) }))

id_or_more : (p : Values) (cycle : ℕ) (row : NodeRow) (offer : Offer) (h : Header) → IsReceived p row offer h → IsAnswer p cycle row offer (answer_by p cycle row offer (Ok h))
id_or_more p cycle row offer h right =
    cond_both (not (h.id == offer.slot)) (Ignored (reason.WrongId offer.slot h.id)) (by_cycle p cycle row offer h) (IsAnswer p cycle row offer)
    (λ wrong. record { header = h; received = right; own = refl; got = refl; differs = eqb-false h.id offer.slot (not-true (h.id == offer.slot) wrong) })
    (λ fine. cycle_or_more p cycle row offer h (record { received = right; id = eqb-true h.id offer.slot (not-false (h.id == offer.slot) fine) }))

-- whatever the bytes are read as
by_reading : (p : Values) (cycle : ℕ) (row : NodeRow) (offer : Offer) (r : Result Header FrameFault) → Reads offer.channel offer.bytes r → ArrivesInSlot p row offer → IsAnswer p cycle row offer (answer_by p cycle row offer r)
by_reading p cycle row offer (Ok h) is in_slot = id_or_more p cycle row offer h (record { in_slot = in_slot; payload = _; frame = is })
by_reading p cycle row offer (Err fault) is in_slot = record { in_slot = in_slot; first_fault = is }

pub answer_is : (p : Values) (cycle : ℕ) (row : NodeRow) (offer : Offer) → All (λ byte. byte < 2 ^ 8) offer.bytes → IsAnswer p cycle row offer (answer_of p cycle row offer)
unfolding answer_of
answer_is p cycle row offer small =
    let from : ℤ = slot_begins p row offer.slot in
    let to : ℤ = slot_ends p row offer.slot in
    cond_both (int_lt offer.arrival from || int_le to offer.arrival) (Ignored (reason.Outside offer.arrival from to)) (answer_by p cycle row offer (read_as offer.channel offer.bytes)) (IsAnswer p cycle row offer)
    (λ out. record { arrives = refl; begins = refl; ends = refl; outside = outside_of from to out })
    (λ within. let parts : (int_lt offer.arrival from ≡ false) × (int_le to offer.arrival ≡ false) = or_parts (int_lt offer.arrival from) (int_le to offer.arrival) within in
    by_reading p cycle row offer (read_as offer.channel offer.bytes) (reads offer.channel offer.bytes small)
    (record { begun = told_from offer.arrival from parts.0; not_ended = told_after to offer.arrival parts.1 }))
  where
    outside_of : (from to : ℤ) → (int_lt offer.arrival from || int_le to offer.arrival) ≡ true → (offer.arrival <ℤ from) ⊎ (to ≤ℤ offer.arrival)
    outside_of from to out = elim (or_cases (int_lt offer.arrival from) (int_le to offer.arrival) out) [
      | inl before ↦ inl (told_before offer.arrival from before)
      | inr after ↦ inr (told_to to offer.arrival after)
    ]

-- ---- an answer is what the function answers
in_slot_answer : (p : Values) (cycle : ℕ) (row : NodeRow) (offer : Offer) → ArrivesInSlot p row offer → answer_of p cycle row offer ≡ answer_by p cycle row offer (read_as offer.channel offer.bytes)
unfolding answer_of
in_slot_answer p cycle row offer is =
    let from : ℤ = slot_begins p row offer.slot in
    let to : ℤ = slot_ends p row offer.slot in
    cond-false (int_lt offer.arrival from || int_le to offer.arrival) (Ignored (reason.Outside offer.arrival from to)) (answer_by p cycle row offer (read_as offer.channel offer.bytes))
    (or_from (int_lt offer.arrival from) (int_le to offer.arrival) (tells_from offer.arrival from is.begun) (tells_after to offer.arrival is.not_ended))

received_answer : (p : Values) (cycle : ℕ) (row : NodeRow) (offer : Offer) (h : Header) → IsReceived p row offer h → answer_of p cycle row offer ≡ answer_by p cycle row offer (Ok h)
received_answer p cycle row offer h is =
    in_slot_answer p cycle row offer is.in_slot ∙ ap (answer_by p cycle row offer) (frame_read offer.channel h is.payload offer.bytes is.frame)

slot_answer : (p : Values) (cycle : ℕ) (row : NodeRow) (offer : Offer) (h : Header) → HasSlotId p row offer h → answer_of p cycle row offer ≡ by_cycle p cycle row offer h
slot_answer p cycle row offer h is =
    received_answer p cycle row offer h is.received
    ∙ cond-false (not (h.id == offer.slot)) (Ignored (reason.WrongId offer.slot h.id)) (by_cycle p cycle row offer h) (not_from_true (h.id == offer.slot) (eq-eqb h.id offer.slot is.id))

cycle_answer : (p : Values) (cycle : ℕ) (row : NodeRow) (offer : Offer) (h : Header) → HasCycleCount p cycle row offer h → answer_of p cycle row offer ≡ by_length p row offer h
cycle_answer p cycle row offer h is =
    slot_answer p cycle row offer h is.slot_id
    ∙ cond-false (not (h.cycle == cycle_count cycle)) (Ignored (reason.WrongCycle (cycle_count cycle) h.cycle)) (by_length p row offer h) (not_from_true (h.cycle == cycle_count cycle) (eq-eqb h.cycle (cycle_count cycle) is.count))

length_answer : (p : Values) (cycle : ℕ) (row : NodeRow) (offer : Offer) (h : Header) → HasStaticLength p cycle row offer h → answer_of p cycle row offer ≡ by_sync p row offer h
length_answer p cycle row offer h is =
    let own : ℕ = amount p name.gPayloadLengthStatic in
    cycle_answer p cycle row offer h is.cycle_right
    ∙ cond-false (not (h.words == own)) (Ignored (reason.WrongLength own h.words)) (by_sync p row offer h) (not_from_true (h.words == own) (eq-eqb h.words own is.words))

outside_found : (p : Values) (cycle : ℕ) (row : NodeRow) (offer : Offer) (arrival from to : ℤ) → IsOutsideSlot p row offer arrival from to → Ignored (reason.Outside arrival from to) ≡ answer_of p cycle row offer
unfolding answer_of
outside_found p cycle row offer arrival from to is =
    let begins : ℤ = slot_begins p row offer.slot in
    let ends : ℤ = slot_ends p row offer.slot in
    ap (λ (x : ℤ). Ignored (reason.Outside x from to)) is.arrives
    ∙ ap (λ (x : ℤ). Ignored (reason.Outside offer.arrival x to)) is.begins
    ∙ ap (λ (x : ℤ). Ignored (reason.Outside offer.arrival begins x)) is.ends
    ∙ sym (cond-true (int_lt offer.arrival begins || int_le ends offer.arrival) (Ignored (reason.Outside offer.arrival begins ends)) (answer_by p cycle row offer (read_as offer.channel offer.bytes)) out)
  where
    out : (int_lt offer.arrival (slot_begins p row offer.slot) || int_le (slot_ends p row offer.slot) offer.arrival) ≡ true
    out = elim is.outside [
      | inl before ↦ or_left (int_lt offer.arrival (slot_begins p row offer.slot)) (int_le (slot_ends p row offer.slot) offer.arrival) (ap (λ (x : ℤ). int_lt x (slot_begins p row offer.slot)) (sym is.arrives) ∙ ap (int_lt arrival) (sym is.begins) ∙ tells_before arrival from before)
      | inr after ↦ or_right (int_lt offer.arrival (slot_begins p row offer.slot)) (int_le (slot_ends p row offer.slot) offer.arrival) (ap (λ (x : ℤ). int_le x offer.arrival) (sym is.ends) ∙ ap (int_le to) (sym is.arrives) ∙ tells_to to arrival after)
    ]

pub answer_found : (p : Values) (cycle : ℕ) (row : NodeRow) (offer : Offer) (heard : Heard) → IsAnswer p cycle row offer heard → heard ≡ answer_of p cycle row offer
answer_found p cycle row offer (Stored value) is =
    let h : Header = is.header in
    ap Stored is.measured
    ∙ sym (length_answer p cycle row offer h is.length_right
    ∙ cond-false (not h.sync || is_none (key_index_of p offer.slot)) (Ignored reason.Plain) (Stored (deviation_of p row offer))
    (or_from (not h.sync) (is_none (key_index_of p offer.slot)) (not_from_true h.sync is.sync) (tells_some (key_index_of p offer.slot) is.key_slot)))
answer_found p cycle row offer (Ignored (reason.Outside arrival from to)) is = outside_found p cycle row offer arrival from to is
answer_found p cycle row offer (Ignored (reason.Damaged fault)) is =
    sym (in_slot_answer p cycle row offer is.in_slot ∙ ap (answer_by p cycle row offer) (fault_read offer.channel offer.bytes fault is.first_fault))
answer_found p cycle row offer (Ignored (reason.WrongId slot id)) is =
    let h : Header = is.header in
    let same : h.id ≡ offer.slot → ⊥ = λ (e : h.id ≡ offer.slot). is.differs (is.got ∙ e ∙ sym is.own) in
    ap (λ (x : ℕ). Ignored (reason.WrongId x id)) is.own
    ∙ ap (λ (x : ℕ). Ignored (reason.WrongId offer.slot x)) is.got
    ∙ sym (received_answer p cycle row offer h is.received
    ∙ cond-true (not (h.id == offer.slot)) (Ignored (reason.WrongId offer.slot h.id)) (by_cycle p cycle row offer h) (not_from_false (h.id == offer.slot) (ne_eqb h.id offer.slot same)))
answer_found p cycle row offer (Ignored (reason.WrongCycle own got)) is =
    let h : Header = is.header in
    let same : h.cycle ≡ cycle_count cycle → ⊥ = λ (e : h.cycle ≡ cycle_count cycle). is.differs (is.stated ∙ e ∙ sym is.counted) in
    ap (λ (x : ℕ). Ignored (reason.WrongCycle x got)) is.counted
    ∙ ap (λ (x : ℕ). Ignored (reason.WrongCycle (cycle_count cycle) x)) is.stated
    ∙ sym (slot_answer p cycle row offer h is.slot_id
    ∙ cond-true (not (h.cycle == cycle_count cycle)) (Ignored (reason.WrongCycle (cycle_count cycle) h.cycle)) (by_length p row offer h) (not_from_false (h.cycle == cycle_count cycle) (ne_eqb h.cycle (cycle_count cycle) same)))
answer_found p cycle row offer (Ignored (reason.WrongLength own got)) is =
    let h : Header = is.header in
    let static : ℕ = amount p name.gPayloadLengthStatic in
    let same : h.words ≡ static → ⊥ = λ (e : h.words ≡ static). is.differs (is.stated ∙ e ∙ sym is.static) in
    ap (λ (x : ℕ). Ignored (reason.WrongLength x got)) is.static
    ∙ ap (λ (x : ℕ). Ignored (reason.WrongLength static x)) is.stated
    ∙ sym (cycle_answer p cycle row offer h is.cycle_right
    ∙ cond-true (not (h.words == static)) (Ignored (reason.WrongLength static h.words)) (by_sync p row offer h) (not_from_false (h.words == static) (ne_eqb h.words static same)))
answer_found p cycle row offer (Ignored reason.Plain) is =
    sym (length_answer p cycle row offer is.header is.length_right
    ∙ cond-true (not is.header.sync || is_none (key_index_of p offer.slot)) (Ignored reason.Plain) (Stored (deviation_of p row offer)) (either p offer is.header is.plain))
  where
    either : (p : Values) (offer : Offer) (h : Header) → (h.sync ≡ false) ⊎ (key_index_of p offer.slot ≡ None) → (not h.sync || is_none (key_index_of p offer.slot)) ≡ true
    either p offer h (inl clear) = or_left (not h.sync) (is_none (key_index_of p offer.slot)) (not_from_false h.sync clear)
    either p offer h (inr none) = or_right (not h.sync) (is_none (key_index_of p offer.slot)) (ap (λ (o : Option ℕ). is_none o) none)

pub answer_is_one : (p : Values) (cycle : ℕ) (row : NodeRow) (offer : Offer) (first second : Heard) → IsAnswer p cycle row offer first → IsAnswer p cycle row offer second → first ≡ second
answer_is_one p cycle row offer first second one other = answer_found p cycle row offer first one ∙ sym (answer_found p cycle row offer second other)
