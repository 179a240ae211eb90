-- The counts of a cycle, slot by slot, are those of a record over its rows.
use Rattle.std.proofs.Common.{◌≡◌, ℕ, zero, suc, ◌+◌, Bool, cond, Option, Some, None, List, [], ◌∷◌, ◌++◌, map, length, refl, ap, ap₂, sym, ◌∙◌, arith, bit_xor}
use Rattle.std.specs.Prelude.{count_by, fold}
use Rattle.std.specs.List.{cons_option, filter_map, flat_map, range_with_len, sum_by}
use Rattle.std.specs.Option.{option_map_or, option_to_list}
use Rattle.std.proofs.lemmas.List.{length-append}
use Rattle.std.proofs.lemmas.List.Elements.{filter_map-append}
use Rattle.std.proofs.lemmas.List.Sums.{fold-append, sum_by-cons}
use Rattle.fr_base.specs.declared.channel.Channel.{Channel}
use Rattle.fr_base.specs.declared.channel.Channel.TheVariants.{A, B}
use Rattle.fr_base.specs.declared.cycle_row.Counts.{Counts}
use Rattle.fr_base.specs.declared.node_row.NodeRow.{NodeRow}
use Rattle.fr_cluster.specs.Values.{amount}
use Rattle.fr_cluster.specs.declared.names.ParamName.TheVariants as name
use Rattle.fr_reception.specs.Answers.{answer_of}
use Rattle.fr_reception.specs.Offers.{Offer}
use Rattle.fr_reception.specs.Regular.{carried_crc}
use Rattle.fr_reception.specs.declared.heard.Heard.{Heard}
use Rattle.fr_reception.specs.declared.heard.Heard.TheVariants.{Stored, Ignored}
use Rattle.fr_reception.specs.declared.heard.Ignored.TheVariants as reason
use Rattle.fr_cluster.specs.Setting.{Setting}
use Rattle.fr_history.specs.Kinds.{is_stored, is_outside, is_damaged, is_wrong_id, is_wrong_cycle, is_wrong_length, is_plain}
use Rattle.fr_history.specs.Rows.{crcs_sum}
use Rattle.fr_history.specs.Records.{counts_over}
use Rattle.fr_history.specs.Offers.{channels, frame_in, offer_in, offers_among, offers_to, reception_of, receptions_among, static_slots_of}
use Rattle.fr_air.specs.Counting.{with_answer, counted_frame, counted_offer, counted_offers, counted_sent, counts_after, counts_in, counts_on}
use Rattle.fr_base.specs.Counts.{no_counts}
use Rattle.fr_air.proofs.Sums.{range_more, sum_by-flat_map, sum_by-map, sum_by-more, sum_by-plus, sum_by-same, sum_by-turned}
use Rattle.fr_air.specs.Walk.{over_slots}

-- ---- one kind of answers

-- one of the counts tells how many answers pass a test
record IsKind (test : Heard → Bool) (count : Counts → ℕ) : Type 0 where
  heard : (h : Heard) (c : Counts) → count (with_answer h c) ≡ count c + cond (test h) 1 0
  sent : (channel : Channel) (frame : List ℕ) (c : Counts) → count (counted_sent channel frame c) ≡ count c
  none : count no_counts ≡ 0

-- one where an offer is answered so
abbrev hit : (Heard → Bool) → Setting → ℕ → NodeRow → Option Offer → ℕ
hit test x cycle row o = option_map_or (λ offer. cond (test (answer_of x.params cycle row offer)) 1 0) o 0

plus_zero : (n : ℕ) → n ≡ n + 0
plus_zero n = omega arith

offer_count : (test : Heard → Bool) (count : Counts → ℕ) → IsKind test count → (x : Setting) (cycle : ℕ) (row : NodeRow) (o : Option Offer) (c : Counts) → count (counted_offer x cycle row o c) ≡ count c + hit test x cycle row o
offer_count test count kind x cycle row None c = plus_zero (count c)
offer_count test count kind x cycle row (Some offer) c = kind.heard (answer_of x.params cycle row offer) c

offers_count : (test : Heard → Bool) (count : Counts → ℕ) → IsKind test count → (x : Setting) (cycle : ℕ) (offer : NodeRow → Option Offer) (rows : List NodeRow) (c : Counts) →
    count (counted_offers x cycle offer rows c) ≡ count c + sum_by (λ row. hit test x cycle row (offer row)) rows
unfolding counted_offers
offers_count test count kind x cycle offer [] c = plus_zero (count c)
offers_count test count kind x cycle offer (row ∷ rows) c =
    let first : Counts = counted_offer x cycle row (offer row) c in
    offers_count test count kind x cycle offer rows first
    ∙ ap (λ (n : ℕ). n + sum_by (λ r. hit test x cycle r (offer r)) rows) (offer_count test count kind x cycle row (offer row) c)
    ∙ turn (count c) (hit test x cycle row (offer row)) (sum_by (λ r. hit test x cycle r (offer r)) rows)
    ∙ ap (λ (n : ℕ). count c + n) (sym (sum_by-cons (λ r. hit test x cycle r (offer r)) row rows))
  where
    turn : (a b d : ℕ) → a + b + d ≡ a + (b + d)
    turn a b d = omega arith

frame_count : (test : Heard → Bool) (count : Counts → ℕ) → IsKind test count → (channel : Channel) (o : Option (List ℕ)) (c : Counts) → count (counted_frame channel o c) ≡ count c
frame_count test count kind channel None c = refl
frame_count test count kind channel (Some frame) c = kind.sent channel frame c

-- the answers of all receivers in a slot on a channel
abbrev hits_on : (Heard → Bool) → Setting → ℕ → List NodeRow → ℕ → Channel → ℕ
hits_on test x cycle rows slot channel = sum_by (λ row. hit test x cycle row (offer_in x cycle rows row slot channel)) rows

channel_count : (test : Heard → Bool) (count : Counts → ℕ) → IsKind test count → (x : Setting) (cycle : ℕ) (rows : List NodeRow) (slot : ℕ) (channel : Channel) (c : Counts) →
    count (counts_on x cycle rows slot channel c) ≡ count c + hits_on test x cycle rows slot channel
channel_count test count kind x cycle rows slot channel c =
    offers_count test count kind x cycle (λ row. offer_in x cycle rows row slot channel) rows (counted_frame channel (frame_in x cycle rows slot channel) c)
    ∙ ap (λ (n : ℕ). n + hits_on test x cycle rows slot channel) (frame_count test count kind channel (frame_in x cycle rows slot channel) c)

slot_count : (test : Heard → Bool) (count : Counts → ℕ) → IsKind test count → (x : Setting) (cycle : ℕ) (rows : List NodeRow) (slot : ℕ) (c : Counts) →
    count (counts_in x cycle rows slot c) ≡ count c + (hits_on test x cycle rows slot A + hits_on test x cycle rows slot B)
slot_count test count kind x cycle rows slot c =
    channel_count test count kind x cycle rows slot B (counts_on x cycle rows slot A c)
    ∙ ap (λ (n : ℕ). n + hits_on test x cycle rows slot B) (channel_count test count kind x cycle rows slot A c)
    ∙ turn (count c) (hits_on test x cycle rows slot A) (hits_on test x cycle rows slot B)
  where
    turn : (a b d : ℕ) → a + b + d ≡ a + (b + d)
    turn a b d = omega arith

slots_count : (test : Heard → Bool) (count : Counts → ℕ) → IsKind test count → (x : Setting) (cycle : ℕ) (rows : List NodeRow) (slots : ℕ) →
    count (counts_after x cycle rows slots no_counts) ≡ sum_by (λ slot. hits_on test x cycle rows slot A + hits_on test x cycle rows slot B) (range_with_len 1 slots)
unfolding over_slots
slots_count test count kind x cycle rows zero = kind.none
slots_count test count kind x cycle rows (suc earlier) =
    let here : ℕ → ℕ = λ slot. hits_on test x cycle rows slot A + hits_on test x cycle rows slot B in
    let e : suc earlier ≡ 1 + earlier = omega arith in
    slot_count test count kind x cycle rows (suc earlier) (counts_after x cycle rows earlier no_counts)
    ∙ ap (λ (n : ℕ). n + here (suc earlier)) (slots_count test count kind x cycle rows earlier)
    ∙ ap (λ (n : ℕ). sum_by here (range_with_len 1 earlier) + here n) e
    ∙ sym (sum_by-more here 1 earlier)

-- the receptions by receiver, slot and channel
option_count : (f : Offer → ℕ) (o : Option Offer) → sum_by f (option_to_list o) ≡ option_map_or f o 0
option_count f None = refl
option_count f (Some offer) = zero_plus (f offer)
  where
    zero_plus : (n : ℕ) → 0 + n ≡ n
    zero_plus n = omega arith

two_channels : (f : Channel → ℕ) → sum_by f channels ≡ f A + f B
two_channels f = zero_plus (f A) (f B)
  where
    zero_plus : (n m : ℕ) → 0 + n + m ≡ n + m
    zero_plus n m = omega arith

row_count : (test : Heard → Bool) (x : Setting) (cycle : ℕ) (rows : List NodeRow) (row : NodeRow) →
    sum_by (λ offer. cond (test (answer_of x.params cycle row offer)) 1 0) (offers_to x cycle rows row) ≡ sum_by (λ slot. hit test x cycle row (offer_in x cycle rows row slot A) + hit test x cycle row (offer_in x cycle rows row slot B)) (static_slots_of x)
row_count test x cycle rows row =
    let one : Offer → ℕ = λ offer. cond (test (answer_of x.params cycle row offer)) 1 0 in
    let offers : ℕ → Channel → List Offer = λ slot channel. option_to_list (offer_in x cycle rows row slot channel) in
    sum_by-flat_map one (λ slot. flat_map (offers slot) channels) (static_slots_of x)
    ∙ sum_by-same (λ slot. sum_by one (flat_map (offers slot) channels)) (λ slot. hit test x cycle row (offer_in x cycle rows row slot A) + hit test x cycle row (offer_in x cycle rows row slot B)) (static_slots_of x)
    (λ slot. sum_by-flat_map one (offers slot) channels
    ∙ two_channels (λ channel. sum_by one (offers slot channel))
    ∙ ap₂ (λ n m. n + m) (option_count one (offer_in x cycle rows row slot A)) (option_count one (offer_in x cycle rows row slot B)))

receptions_count : (test : Heard → Bool) (x : Setting) (cycle : ℕ) (rows : List NodeRow) →
    count_by (λ reception. test reception.heard) (receptions_among x cycle rows) ≡ sum_by (λ slot. hits_on test x cycle rows slot A + hits_on test x cycle rows slot B) (static_slots_of x)
receptions_count test x cycle rows =
    let pair_count : NodeRow × Offer → ℕ = λ pair. cond (test (answer_of x.params cycle pair.0 pair.1)) 1 0 in
    let pairs : NodeRow → List (NodeRow × Offer) = λ row. map (λ offer. (row, offer)) (offers_to x cycle rows row) in
    let at : NodeRow → ℕ → ℕ = λ row slot. hit test x cycle row (offer_in x cycle rows row slot A) + hit test x cycle row (offer_in x cycle rows row slot B) in
    sum_by-map (λ reception. cond (test reception.heard) 1 0) (reception_of x cycle) (offers_among x cycle rows)
    ∙ sum_by-flat_map pair_count pairs rows
    ∙ sum_by-same (λ row. sum_by pair_count (pairs row)) (λ row. sum_by (at row) (static_slots_of x)) rows
    (λ row. sum_by-map pair_count (λ offer. (row, offer)) (offers_to x cycle rows row) ∙ row_count test x cycle rows row)
    ∙ sum_by-turned at rows (static_slots_of x)
    ∙ sum_by-same (λ slot. sum_by (λ row. at row slot) rows) (λ slot. hits_on test x cycle rows slot A + hits_on test x cycle rows slot B) (static_slots_of x)
    (λ slot. sum_by-plus (λ row. hit test x cycle row (offer_in x cycle rows row slot A)) (λ row. hit test x cycle row (offer_in x cycle rows row slot B)) rows)

kind_count : (test : Heard → Bool) (count : Counts → ℕ) → IsKind test count → (x : Setting) (cycle : ℕ) (rows : List NodeRow) →
    count (counts_after x cycle rows (amount x.params name.gNumberOfStaticSlots) no_counts) ≡ count_by (λ reception. test reception.heard) (receptions_among x cycle rows)
kind_count test count kind x cycle rows = slots_count test count kind x cycle rows (amount x.params name.gNumberOfStaticSlots) ∙ sym (receptions_count test x cycle rows)

-- ---- the seven kinds

plus_none : (n : ℕ) → n ≡ n + 0
plus_none n = omega arith

stored-kind : IsKind is_stored (λ c. c.stored)
stored-kind = record { heard = by_heard; sent = by_channel; none = refl }
  where
    by_heard : (h : Heard) (c : Counts) → (with_answer h c).stored ≡ c.stored + cond (is_stored h) 1 0
    by_heard (Stored value) c = refl
    by_heard (Ignored (reason.Outside a f t)) c = plus_none c.stored
    by_heard (Ignored (reason.Damaged fault)) c = plus_none c.stored
    by_heard (Ignored (reason.WrongId s i)) c = plus_none c.stored
    by_heard (Ignored (reason.WrongCycle o g)) c = plus_none c.stored
    by_heard (Ignored (reason.WrongLength o g)) c = plus_none c.stored
    by_heard (Ignored reason.Plain) c = plus_none c.stored

    by_channel : (channel : Channel) (frame : List ℕ) (c : Counts) → (counted_sent channel frame c).stored ≡ c.stored
    by_channel A frame c = refl
    by_channel B frame c = refl

outside-kind : IsKind is_outside (λ c. c.outside)
outside-kind = record { heard = by_heard; sent = by_channel; none = refl }
  where
    by_heard : (h : Heard) (c : Counts) → (with_answer h c).outside ≡ c.outside + cond (is_outside h) 1 0
    by_heard (Stored value) c = plus_none c.outside
    by_heard (Ignored (reason.Outside a f t)) c = refl
    by_heard (Ignored (reason.Damaged fault)) c = plus_none c.outside
    by_heard (Ignored (reason.WrongId s i)) c = plus_none c.outside
    by_heard (Ignored (reason.WrongCycle o g)) c = plus_none c.outside
    by_heard (Ignored (reason.WrongLength o g)) c = plus_none c.outside
    by_heard (Ignored reason.Plain) c = plus_none c.outside

    by_channel : (channel : Channel) (frame : List ℕ) (c : Counts) → (counted_sent channel frame c).outside ≡ c.outside
    by_channel A frame c = refl
    by_channel B frame c = refl

damaged-kind : IsKind is_damaged (λ c. c.damaged)
damaged-kind = record { heard = by_heard; sent = by_channel; none = refl }
  where
    by_heard : (h : Heard) (c : Counts) → (with_answer h c).damaged ≡ c.damaged + cond (is_damaged h) 1 0
    by_heard (Stored value) c = plus_none c.damaged
    by_heard (Ignored (reason.Outside a f t)) c = plus_none c.damaged
    by_heard (Ignored (reason.Damaged fault)) c = refl
    by_heard (Ignored (reason.WrongId s i)) c = plus_none c.damaged
    by_heard (Ignored (reason.WrongCycle o g)) c = plus_none c.damaged
    by_heard (Ignored (reason.WrongLength o g)) c = plus_none c.damaged
    by_heard (Ignored reason.Plain) c = plus_none c.damaged

    by_channel : (channel : Channel) (frame : List ℕ) (c : Counts) → (counted_sent channel frame c).damaged ≡ c.damaged
    by_channel A frame c = refl
    by_channel B frame c = refl

wrong_id-kind : IsKind is_wrong_id (λ c. c.wrong_id)
wrong_id-kind = record { heard = by_heard; sent = by_channel; none = refl }
  where
    by_heard : (h : Heard) (c : Counts) → (with_answer h c).wrong_id ≡ c.wrong_id + cond (is_wrong_id h) 1 0
    by_heard (Stored value) c = plus_none c.wrong_id
    by_heard (Ignored (reason.Outside a f t)) c = plus_none c.wrong_id
    by_heard (Ignored (reason.Damaged fault)) c = plus_none c.wrong_id
    by_heard (Ignored (reason.WrongId s i)) c = refl
    by_heard (Ignored (reason.WrongCycle o g)) c = plus_none c.wrong_id
    by_heard (Ignored (reason.WrongLength o g)) c = plus_none c.wrong_id
    by_heard (Ignored reason.Plain) c = plus_none c.wrong_id

    by_channel : (channel : Channel) (frame : List ℕ) (c : Counts) → (counted_sent channel frame c).wrong_id ≡ c.wrong_id
    by_channel A frame c = refl
    by_channel B frame c = refl

wrong_cycle-kind : IsKind is_wrong_cycle (λ c. c.wrong_cycle)
wrong_cycle-kind = record { heard = by_heard; sent = by_channel; none = refl }
  where
    by_heard : (h : Heard) (c : Counts) → (with_answer h c).wrong_cycle ≡ c.wrong_cycle + cond (is_wrong_cycle h) 1 0
    by_heard (Stored value) c = plus_none c.wrong_cycle
    by_heard (Ignored (reason.Outside a f t)) c = plus_none c.wrong_cycle
    by_heard (Ignored (reason.Damaged fault)) c = plus_none c.wrong_cycle
    by_heard (Ignored (reason.WrongId s i)) c = plus_none c.wrong_cycle
    by_heard (Ignored (reason.WrongCycle o g)) c = refl
    by_heard (Ignored (reason.WrongLength o g)) c = plus_none c.wrong_cycle
    by_heard (Ignored reason.Plain) c = plus_none c.wrong_cycle

    by_channel : (channel : Channel) (frame : List ℕ) (c : Counts) → (counted_sent channel frame c).wrong_cycle ≡ c.wrong_cycle
    by_channel A frame c = refl
    by_channel B frame c = refl

wrong_length-kind : IsKind is_wrong_length (λ c. c.wrong_length)
wrong_length-kind = record { heard = by_heard; sent = by_channel; none = refl }
  where
    by_heard : (h : Heard) (c : Counts) → (with_answer h c).wrong_length ≡ c.wrong_length + cond (is_wrong_length h) 1 0
    by_heard (Stored value) c = plus_none c.wrong_length
    by_heard (Ignored (reason.Outside a f t)) c = plus_none c.wrong_length
    by_heard (Ignored (reason.Damaged fault)) c = plus_none c.wrong_length
    by_heard (Ignored (reason.WrongId s i)) c = plus_none c.wrong_length
    by_heard (Ignored (reason.WrongCycle o g)) c = plus_none c.wrong_length
    by_heard (Ignored (reason.WrongLength o g)) c = refl
    by_heard (Ignored reason.Plain) c = plus_none c.wrong_length

    by_channel : (channel : Channel) (frame : List ℕ) (c : Counts) → (counted_sent channel frame c).wrong_length ≡ c.wrong_length
    by_channel A frame c = refl
    by_channel B frame c = refl

plain-kind : IsKind is_plain (λ c. c.plain)
plain-kind = record { heard = by_heard; sent = by_channel; none = refl }
  where
    by_heard : (h : Heard) (c : Counts) → (with_answer h c).plain ≡ c.plain + cond (is_plain h) 1 0
    by_heard (Stored value) c = plus_none c.plain
    by_heard (Ignored (reason.Outside a f t)) c = plus_none c.plain
    by_heard (Ignored (reason.Damaged fault)) c = plus_none c.plain
    by_heard (Ignored (reason.WrongId s i)) c = plus_none c.plain
    by_heard (Ignored (reason.WrongCycle o g)) c = plus_none c.plain
    by_heard (Ignored (reason.WrongLength o g)) c = plus_none c.plain
    by_heard (Ignored reason.Plain) c = refl

    by_channel : (channel : Channel) (frame : List ℕ) (c : Counts) → (counted_sent channel frame c).plain ≡ c.plain
    by_channel A frame c = refl
    by_channel B frame c = refl

-- ---- what is sent on channel A

kept_a : (h : Heard) (c : Counts) → ((with_answer h c).sent_a ≡ c.sent_a) × ((with_answer h c).xor_a ≡ c.xor_a)
kept_a (Stored value) c = (refl, refl)
kept_a (Ignored (reason.Outside a f t)) c = (refl, refl)
kept_a (Ignored (reason.Damaged fault)) c = (refl, refl)
kept_a (Ignored (reason.WrongId s i)) c = (refl, refl)
kept_a (Ignored (reason.WrongCycle o g)) c = (refl, refl)
kept_a (Ignored (reason.WrongLength o g)) c = (refl, refl)
kept_a (Ignored reason.Plain) c = (refl, refl)

offer_kept_a : (x : Setting) (cycle : ℕ) (row : NodeRow) (o : Option Offer) (c : Counts) → ((counted_offer x cycle row o c).sent_a ≡ c.sent_a) × ((counted_offer x cycle row o c).xor_a ≡ c.xor_a)
offer_kept_a x cycle row None c = (refl, refl)
offer_kept_a x cycle row (Some offer) c = kept_a (answer_of x.params cycle row offer) c

offers_kept_a : (x : Setting) (cycle : ℕ) (offer : NodeRow → Option Offer) (rows : List NodeRow) (c : Counts) → ((counted_offers x cycle offer rows c).sent_a ≡ c.sent_a) × ((counted_offers x cycle offer rows c).xor_a ≡ c.xor_a)
unfolding counted_offers
offers_kept_a x cycle offer [] c = (refl, refl)
offers_kept_a x cycle offer (row ∷ rows) c =
    let first : ((counted_offer x cycle row (offer row) c).sent_a ≡ c.sent_a) × ((counted_offer x cycle row (offer row) c).xor_a ≡ c.xor_a) = offer_kept_a x cycle row (offer row) c in
    let rest = offers_kept_a x cycle offer rows (counted_offer x cycle row (offer row) c) in
    (rest.0 ∙ first.0, rest.1 ∙ first.1)

-- one frame more, if one is sent
sent_by_a : (o : Option (List ℕ)) (c : Counts) →
    ((counted_frame A o c).sent_a ≡ c.sent_a + length (option_to_list o)) × ((counted_frame A o c).xor_a ≡ fold (λ sum frame. bit_xor sum (carried_crc frame)) c.xor_a (option_to_list o))
sent_by_a None c = (plus_none c.sent_a, refl)
sent_by_a (Some frame) c = (refl, refl)

other_frame_a : (o : Option (List ℕ)) (c : Counts) → ((counted_frame B o c).sent_a ≡ c.sent_a) × ((counted_frame B o c).xor_a ≡ c.xor_a)
other_frame_a None c = (refl, refl)
other_frame_a (Some frame) c = (refl, refl)

-- ---- what is sent on channel B

kept_b : (h : Heard) (c : Counts) → ((with_answer h c).sent_b ≡ c.sent_b) × ((with_answer h c).xor_b ≡ c.xor_b)
kept_b (Stored value) c = (refl, refl)
kept_b (Ignored (reason.Outside a f t)) c = (refl, refl)
kept_b (Ignored (reason.Damaged fault)) c = (refl, refl)
kept_b (Ignored (reason.WrongId s i)) c = (refl, refl)
kept_b (Ignored (reason.WrongCycle o g)) c = (refl, refl)
kept_b (Ignored (reason.WrongLength o g)) c = (refl, refl)
kept_b (Ignored reason.Plain) c = (refl, refl)

offer_kept_b : (x : Setting) (cycle : ℕ) (row : NodeRow) (o : Option Offer) (c : Counts) → ((counted_offer x cycle row o c).sent_b ≡ c.sent_b) × ((counted_offer x cycle row o c).xor_b ≡ c.xor_b)
offer_kept_b x cycle row None c = (refl, refl)
offer_kept_b x cycle row (Some offer) c = kept_b (answer_of x.params cycle row offer) c

offers_kept_b : (x : Setting) (cycle : ℕ) (offer : NodeRow → Option Offer) (rows : List NodeRow) (c : Counts) → ((counted_offers x cycle offer rows c).sent_b ≡ c.sent_b) × ((counted_offers x cycle offer rows c).xor_b ≡ c.xor_b)
unfolding counted_offers
offers_kept_b x cycle offer [] c = (refl, refl)
offers_kept_b x cycle offer (row ∷ rows) c =
    let first : ((counted_offer x cycle row (offer row) c).sent_b ≡ c.sent_b) × ((counted_offer x cycle row (offer row) c).xor_b ≡ c.xor_b) = offer_kept_b x cycle row (offer row) c in
    let rest = offers_kept_b x cycle offer rows (counted_offer x cycle row (offer row) c) in
    (rest.0 ∙ first.0, rest.1 ∙ first.1)

-- one frame more, if one is sent
sent_by_b : (o : Option (List ℕ)) (c : Counts) →
    ((counted_frame B o c).sent_b ≡ c.sent_b + length (option_to_list o)) × ((counted_frame B o c).xor_b ≡ fold (λ sum frame. bit_xor sum (carried_crc frame)) c.xor_b (option_to_list o))
sent_by_b None c = (plus_none c.sent_b, refl)
sent_by_b (Some frame) c = (refl, refl)

other_frame_b : (o : Option (List ℕ)) (c : Counts) → ((counted_frame A o c).sent_b ≡ c.sent_b) × ((counted_frame A o c).xor_b ≡ c.xor_b)
other_frame_b None c = (refl, refl)
other_frame_b (Some frame) c = (refl, refl)

frames_more : (x : Setting) (cycle : ℕ) (rows : List NodeRow) (channel : Channel) (earlier : ℕ) →
    filter_map (λ slot. frame_in x cycle rows slot channel) (range_with_len 1 (suc earlier)) ≡ filter_map (λ slot. frame_in x cycle rows slot channel) (range_with_len 1 earlier) ++ option_to_list (frame_in x cycle rows (suc earlier) channel)
frames_more x cycle rows channel earlier =
    let f : ℕ → Option (List ℕ) = λ slot. frame_in x cycle rows slot channel in
    let e : 1 + earlier ≡ suc earlier = omega arith in
    ap (filter_map f) (range_more 1 earlier)
    ∙ filter_map-append f (range_with_len 1 earlier) ((1 + earlier) ∷ [])
    ∙ ap (λ (ys : List (List ℕ)). filter_map f (range_with_len 1 earlier) ++ ys) (one_more (f (1 + earlier)) ∙ ap (λ (n : ℕ). option_to_list (f n)) e)
  where
    one_more : (o : Option (List ℕ)) → cons_option o [] ≡ option_to_list o
    one_more None = refl
    one_more (Some frame) = refl

slot_sent_a : (x : Setting) (cycle : ℕ) (rows : List NodeRow) (slot : ℕ) (c : Counts) →
    ((counts_in x cycle rows slot c).sent_a ≡ c.sent_a + length (option_to_list (frame_in x cycle rows slot A)))
    × ((counts_in x cycle rows slot c).xor_a ≡ fold (λ sum frame. bit_xor sum (carried_crc frame)) c.xor_a (option_to_list (frame_in x cycle rows slot A)))
slot_sent_a x cycle rows slot c =
    let first : Counts = counts_on x cycle rows slot A c in
    let frame : Counts = counted_frame A (frame_in x cycle rows slot A) c in
    let later : Counts = counted_frame B (frame_in x cycle rows slot B) first in
    let heard = offers_kept_a x cycle (λ row. offer_in x cycle rows row slot A) rows frame in
    let again = offers_kept_a x cycle (λ row. offer_in x cycle rows row slot B) rows later in
    let sent = sent_by_a (frame_in x cycle rows slot A) c in
    let skipped = other_frame_a (frame_in x cycle rows slot B) first in
    (again.0 ∙ skipped.0 ∙ heard.0 ∙ sent.0, again.1 ∙ skipped.1 ∙ heard.1 ∙ sent.1)

slots_sent_a : (x : Setting) (cycle : ℕ) (rows : List NodeRow) (slots : ℕ) →
    ((counts_after x cycle rows slots no_counts).sent_a ≡ length (filter_map (λ slot. frame_in x cycle rows slot A) (range_with_len 1 slots)))
    × ((counts_after x cycle rows slots no_counts).xor_a ≡ crcs_sum (filter_map (λ slot. frame_in x cycle rows slot A) (range_with_len 1 slots)))
unfolding over_slots
slots_sent_a x cycle rows zero = (refl, refl)
slots_sent_a x cycle rows (suc earlier) =
    let before = slots_sent_a x cycle rows earlier in
    let frames : List (List ℕ) = filter_map (λ slot. frame_in x cycle rows slot A) (range_with_len 1 earlier) in
    let more : List (List ℕ) = option_to_list (frame_in x cycle rows (suc earlier) A) in
    let here = slot_sent_a x cycle rows (suc earlier) (counts_after x cycle rows earlier no_counts) in (
      here.0 ∙ ap (λ (n : ℕ). n + length more) before.0 ∙ sym (length-append frames more) ∙ sym (ap length (frames_more x cycle rows A earlier)),
      here.1 ∙ ap (λ (n : ℕ). fold (λ sum f. bit_xor sum (carried_crc f)) n more) before.1 ∙ sym (fold-append (λ (sum : ℕ) (f : List ℕ). bit_xor sum (carried_crc f)) 0 frames more) ∙ sym (ap crcs_sum (frames_more x cycle rows A earlier)),
    )

slot_sent_b : (x : Setting) (cycle : ℕ) (rows : List NodeRow) (slot : ℕ) (c : Counts) →
    ((counts_in x cycle rows slot c).sent_b ≡ c.sent_b + length (option_to_list (frame_in x cycle rows slot B)))
    × ((counts_in x cycle rows slot c).xor_b ≡ fold (λ sum frame. bit_xor sum (carried_crc frame)) c.xor_b (option_to_list (frame_in x cycle rows slot B)))
slot_sent_b x cycle rows slot c =
    let skipped : Counts = counted_frame A (frame_in x cycle rows slot A) c in
    let first : Counts = counts_on x cycle rows slot A c in
    let frame : Counts = counted_frame B (frame_in x cycle rows slot B) first in
    let heard = offers_kept_b x cycle (λ row. offer_in x cycle rows row slot A) rows skipped in
    let again = offers_kept_b x cycle (λ row. offer_in x cycle rows row slot B) rows frame in
    let before = other_frame_b (frame_in x cycle rows slot A) c in
    let sent = sent_by_b (frame_in x cycle rows slot B) first in
    let more : List (List ℕ) = option_to_list (frame_in x cycle rows slot B) in
    (again.0 ∙ sent.0 ∙ ap (λ (n : ℕ). n + length more) (heard.0 ∙ before.0), again.1 ∙ sent.1 ∙ ap (λ (n : ℕ). fold (λ sum f. bit_xor sum (carried_crc f)) n more) (heard.1 ∙ before.1))

slots_sent_b : (x : Setting) (cycle : ℕ) (rows : List NodeRow) (slots : ℕ) →
    ((counts_after x cycle rows slots no_counts).sent_b ≡ length (filter_map (λ slot. frame_in x cycle rows slot B) (range_with_len 1 slots)))
    × ((counts_after x cycle rows slots no_counts).xor_b ≡ crcs_sum (filter_map (λ slot. frame_in x cycle rows slot B) (range_with_len 1 slots)))
unfolding over_slots
slots_sent_b x cycle rows zero = (refl, refl)
slots_sent_b x cycle rows (suc earlier) =
    let before = slots_sent_b x cycle rows earlier in
    let frames : List (List ℕ) = filter_map (λ slot. frame_in x cycle rows slot B) (range_with_len 1 earlier) in
    let more : List (List ℕ) = option_to_list (frame_in x cycle rows (suc earlier) B) in
    let here = slot_sent_b x cycle rows (suc earlier) (counts_after x cycle rows earlier no_counts) in (
      here.0 ∙ ap (λ (n : ℕ). n + length more) before.0 ∙ sym (length-append frames more) ∙ sym (ap length (frames_more x cycle rows B earlier)),
      here.1 ∙ ap (λ (n : ℕ). fold (λ sum f. bit_xor sum (carried_crc f)) n more) before.1 ∙ sym (fold-append (λ (sum : ℕ) (f : List ℕ). bit_xor sum (carried_crc f)) 0 frames more) ∙ sym (ap crcs_sum (frames_more x cycle rows B earlier)),
    )

-- ---- all counts

counts_with : ℕ → ℕ → ℕ → ℕ → ℕ → ℕ → ℕ → ℕ → ℕ → ℕ → ℕ → Counts
counts_with sa sb xa xb stored outside damaged id cycle long plain = record {
  sent_a = sa;
  sent_b = sb;
  xor_a = xa;
  xor_b = xb;
  stored = stored;
  outside = outside;
  damaged = damaged;
  wrong_id = id;
  wrong_cycle = cycle;
  wrong_length = long;
  plain = plain;
}

counts_same : (a b : Counts) → a.sent_a ≡ b.sent_a → a.sent_b ≡ b.sent_b → a.xor_a ≡ b.xor_a → a.xor_b ≡ b.xor_b → a.stored ≡ b.stored → a.outside ≡ b.outside → a.damaged ≡ b.damaged → a.wrong_id ≡ b.wrong_id → a.wrong_cycle ≡ b.wrong_cycle → a.wrong_length ≡ b.wrong_length → a.plain ≡ b.plain → a ≡ b
unfolding counts_with
counts_same a b h0 h1 h2 h3 h4 h5 h6 h7 h8 h9 h10 =
    let made : counts_with a.sent_a a.sent_b a.xor_a a.xor_b a.stored a.outside a.damaged a.wrong_id a.wrong_cycle a.wrong_length a.plain
    ≡ counts_with b.sent_a b.sent_b b.xor_a b.xor_b b.stored b.outside b.damaged b.wrong_id b.wrong_cycle b.wrong_length b.plain = cc in
    made

pub all_counted : (x : Setting) (cycle : ℕ) (rows : List NodeRow) → counts_after x cycle rows (amount x.params name.gNumberOfStaticSlots) no_counts ≡ counts_over x cycle rows
all_counted x cycle rows =
    let slots : ℕ = amount x.params name.gNumberOfStaticSlots in
    let after : Counts = counts_after x cycle rows slots no_counts in
    let a = slots_sent_a x cycle rows slots in
    let b = slots_sent_b x cycle rows slots in
    counts_same after (counts_over x cycle rows) a.0 b.0 a.1 b.1
    (kind_count is_stored (λ c. c.stored) stored-kind x cycle rows)
    (kind_count is_outside (λ c. c.outside) outside-kind x cycle rows)
    (kind_count is_damaged (λ c. c.damaged) damaged-kind x cycle rows)
    (kind_count is_wrong_id (λ c. c.wrong_id) wrong_id-kind x cycle rows)
    (kind_count is_wrong_cycle (λ c. c.wrong_cycle) wrong_cycle-kind x cycle rows)
    (kind_count is_wrong_length (λ c. c.wrong_length) wrong_length-kind x cycle rows)
    (kind_count is_plain (λ c. c.plain) plain-kind x cycle rows)
