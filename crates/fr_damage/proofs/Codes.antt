-- What the two CRCs of a frame see of damage to its bytes.
use Rattle.std.proofs.Common.{◌≡◌, ℕ, ◌+◌, ◌*◌, ◌^◌, ◌<◌, ◌≤◌, Bool, List, ◌++◌, length, take, drop, get_or, refl, ap, sym, ◌∙◌, subst, inl, inr, lit<, arith, length-append, length-drop}
use Rattle.std.specs.Prelude.{All}
use Rattle.std.proofs.lemmas.List.{take-append-drop, take_at, drop_at, get_or-drop, get_or_past}
use Rattle.std.proofs.lemmas.Bool.{cases_lt}
use Rattle.fr_base.specs.declared.channel.Channel.{Channel}
use Rattle.fr_crc.specs.Bits.{bits, xor, zeros, message_of}
use Rattle.fr_crc.specs.Crc.{IsCrc, IsHeaderCrc, IsFrameCrc, header_generator, header_start, header_message, frame_generator, frame_start}
use Rattle.fr_crc.specs.Register.{after}
use Rattle.fr_crc.specs.Computed.{frame_crc_of}
use Rattle.fr_crc.proofs.Remainders.{length-bits, number_from_bits}
use Rattle.fr_crc.proofs.Existence.{a_header_crc, a_frame_crc}
use Rattle.fr_frame.specs.declared.header.Header.{Header}
use Rattle.fr_frame.specs.declared.fault.FrameFault.TheVariants.{HeaderCrc, FrameCrc}
use Rattle.fr_frame.specs.Frame.{trailer_bytes, IsFrame, IsNoFrame}
use Rattle.fr_frame.specs.Fault.{HasHeader, HasRightHeader, HasRightLength, HasRightChecks, IsFirstFault, body_of, trailer_of}
use Rattle.fr_frame.specs.Reading.{crc_of, header_of, header_crc_in, frame_crc_in}
use Rattle.fr_frame.proofs.Parts.{frame_checks}
use Rattle.fr_frame.proofs.Reading.{header_held, trailer_held}
use Rattle.fr_damage.specs.Damage.{header_code, FailsHeaderCrc, FailsFrameCrc}
use Rattle.fr_damage.proofs.Changes.{code_after, codes_unseen}
use Rattle.fr_damage.proofs.Patterns.{Unseen}
use Rattle.fr_damage.proofs.Spelling.{header_code_is, length-covered, message-append, length-message, trailer_spelled}

-- ---- a right CRC brings its register to zeros
header_code_after : (bytes : List ℕ) (h : Header) (a : ℕ) → HasRightHeader bytes h a → after header_generator header_start (header_code (message_of bytes)) ≡ zeros (length header_generator)
header_code_after bytes h a is =
    let some : 0 < length header_generator = rw (length-bits 11 0x385) (lit< tt) in
    ap (after header_generator header_start) (header_code_is bytes h a is.holds)
    ∙ code_after header_generator header_start (header_message h.sync h.startup h.id h.words) (bits 11 a) some is.right.remainder

pub frame_code_after : (channel : Channel) (bytes : List ℕ) (h : Header) (a b : ℕ) → HasRightChecks channel bytes h a b →
    after frame_generator (bits 24 (frame_start channel)) (message_of bytes) ≡ zeros (length frame_generator)
frame_code_after channel bytes h a b is =
    let some : 0 < length frame_generator = rw (length-bits 24 0x5D6DCB) (lit< tt) in
    let whole : message_of bytes ≡ message_of (body_of h bytes) ++ bits 24 b =
    ap message_of (sym (take-append-drop (5 + 2 * h.words) bytes))
    ∙ message-append (body_of h bytes) (trailer_of h bytes)
    ∙ ap (λ (xs : List Bool). message_of (body_of h bytes) ++ xs) (ap message_of is.spelled ∙ trailer_spelled b) in
    ap (after frame_generator (bits 24 (frame_start channel))) whole
    ∙ code_after frame_generator (bits 24 (frame_start channel)) (message_of (body_of h bytes)) (bits 24 b) some is.right.remainder

pub header_long : (bytes : List ℕ) (h : Header) (a : ℕ) → HasHeader bytes h a → length (header_code (message_of bytes)) ≡ 31
header_long bytes h a is =
    ap length (header_code_is bytes h a is)
    ∙ length-append (header_message h.sync h.startup h.id h.words) (bits 11 a)
    ∙ omega (arith, length-covered h.sync h.startup h.id h.words, length-bits 11 a)

headers_unseen : (bytes damaged : List ℕ) (h g : Header) (a b : ℕ) → HasRightHeader bytes h a → HasRightHeader damaged g b →
    Unseen header_generator (xor (header_code (message_of bytes)) (header_code (message_of damaged)))
headers_unseen bytes damaged h g a b one other =
    codes_unseen header_generator header_start (header_code (message_of bytes)) (header_code (message_of damaged))
    (length-bits 11 0x01A ∙ sym (length-bits 11 0x385))
    (header_long bytes h a one.holds ∙ sym (header_long damaged g b other.holds))
    (header_code_after bytes h a one) (header_code_after damaged g b other)

frames_unseen : (channel : Channel) (bytes damaged : List ℕ) (h g : Header) (a b c d : ℕ) → length bytes ≡ length damaged →
    HasRightChecks channel bytes h a b → HasRightChecks channel damaged g c d →
    Unseen frame_generator (xor (message_of bytes) (message_of damaged))
frames_unseen channel bytes damaged h g a b c d same one other =
    codes_unseen frame_generator (bits 24 (frame_start channel)) (message_of bytes) (message_of damaged)
    (length-bits 24 (frame_start channel) ∙ sym (length-bits 24 0x5D6DCB))
    (length-message bytes ∙ ap (λ (n : ℕ). 8 * n) same ∙ sym (length-message damaged))
    (frame_code_after channel bytes h a b one) (frame_code_after channel damaged g c d other)

-- ---- damage that the frame CRC sees leaves no frame
pub seen_is_no_frame : (channel : Channel) (h : Header) (payload bytes damaged : List ℕ) → IsFrame channel h payload bytes → length bytes ≡ length damaged →
    (Unseen frame_generator (xor (message_of bytes) (message_of damaged)) → ⊥) → IsNoFrame channel damaged
seen_is_no_frame channel h payload bytes damaged (a, (b, is)) same seen = λ g rest other.
    seen (frames_unseen channel bytes damaged h g a b other.0 other.1.0 same (frame_checks channel h payload a b bytes is) (frame_checks channel g rest other.0 other.1.0 damaged other.1.1))

-- ---- the header of damaged bytes

-- what stands past the end is read as 0, so each place of bytes holds a byte
byte_at : (bytes : List ℕ) → All (λ b. b < 2 ^ 8) bytes → (k : ℕ) → get_or bytes k 0 < 256
byte_at bytes small k = elim (cases_lt k (length bytes)) [ inl within ↦ small k 0 within | inr past ↦ rw (get_or_past bytes k 0 past) (lit< tt) ]

held : (bytes : List ℕ) → All (λ b. b < 2 ^ 8) bytes → 8 ≤ length bytes → HasHeader bytes (header_of bytes) (header_crc_in bytes)
held bytes small enough =
    let each : (k : ℕ) → get_or bytes k 0 < 256 = byte_at bytes small in
    header_held bytes (λ k below. each k) (omega arith)

-- damage that the header CRC sees is told by it
pub seen_in_header : (channel : Channel) (h : Header) (payload bytes damaged : List ℕ) → IsFrame channel h payload bytes → length bytes ≡ length damaged →
    All (λ b. b < 2 ^ 8) damaged →
    (Unseen header_generator (xor (header_code (message_of bytes)) (header_code (message_of damaged))) → ⊥) → FailsHeaderCrc channel damaged
seen_in_header channel h payload bytes damaged (a, (b, is)) same small seen =
    let whole : HasRightChecks channel bytes h a b = frame_checks channel h payload a b bytes is in
    let right : HasRightHeader bytes h a = whole.length_right.header_right in
    let enough : 8 ≤ length damaged = omega (arith, same, right.enough) in
    let g : Header = header_of damaged in
    let kept : ℕ = header_crc_in damaged in
    let computed : ℕ = crc_of g in
    let holds : HasHeader damaged g kept = held damaged small enough in
    let crc : IsHeaderCrc g.sync g.startup g.id g.words computed = a_header_crc g.sync g.startup g.id g.words in
    let P : ℕ → Type 0 = λ (x : ℕ). IsHeaderCrc g.sync g.startup g.id g.words x in
    let first : IsFirstFault channel damaged (HeaderCrc kept computed) = record {
      header = g;
      enough = enough;
      holds = holds;
      right = crc;
      differs = λ (e : kept ≡ computed). seen (headers_unseen bytes damaged h g a kept right (record { enough = enough; holds = holds; right = subst P (sym e) crc }));
    } in
    (kept, (computed, first))

-- two lists in two parts each of the same lengths
pub lists_told : (xs ys us vs : List Bool) → length xs ≡ length us → xs ++ ys ≡ us ++ vs → (xs ≡ us) × (ys ≡ vs)
lists_told xs ys us vs long same = (
  sym (take_at xs ys (length us) long) ∙ ap (take (length us)) same ∙ take_at us vs (length us) refl,
  sym (drop_at xs ys (length us) long) ∙ ap (drop (length us)) same ∙ drop_at us vs (length us) refl,
)

-- damage outside of the header's covered bits and its CRC that the frame CRC sees is told by that
pub seen_in_frame : (channel : Channel) (h : Header) (payload bytes damaged : List ℕ) → IsFrame channel h payload bytes → length bytes ≡ length damaged →
    All (λ b. b < 2 ^ 8) damaged → header_code (message_of damaged) ≡ header_code (message_of bytes) →
    (Unseen frame_generator (xor (message_of bytes) (message_of damaged)) → ⊥) → FailsFrameCrc channel damaged
seen_in_frame channel h payload bytes damaged (a, (b, is)) same small code seen =
    let whole : HasRightChecks channel bytes h a b = frame_checks channel h payload a b bytes is in
    let right : HasRightHeader bytes h a = whole.length_right.header_right in
    let enough : 8 ≤ length damaged = omega (arith, same, right.enough) in
    let g : Header = header_of damaged in
    let kept : ℕ = header_crc_in damaged in
    let holds : HasHeader damaged g kept = held damaged small enough in
    let codes : header_message g.sync g.startup g.id g.words ++ bits 11 kept ≡ header_message h.sync h.startup h.id h.words ++ bits 11 a =
    sym (header_code_is damaged g kept holds) ∙ code ∙ header_code_is bytes h a right.holds in
    let parts : (header_message g.sync g.startup g.id g.words ≡ header_message h.sync h.startup h.id h.words) × (bits 11 kept ≡ bits 11 a) =
    lists_told (header_message g.sync g.startup g.id g.words) (bits 11 kept) (header_message h.sync h.startup h.id h.words) (bits 11 a)
    (length-covered g.sync g.startup g.id g.words ∙ sym (length-covered h.sync h.startup h.id h.words)) codes in
    let P : List Bool → Type 0 = λ (m : List Bool). IsCrc header_generator header_start m (bits 11 a) in
    let Q : List Bool → Type 0 = λ (r : List Bool). IsCrc header_generator header_start (header_message g.sync g.startup g.id g.words) r in
    let crc : IsHeaderCrc g.sync g.startup g.id g.words kept = record { fits = holds.kept_fits; remainder = subst Q (sym parts.1) (subst P (sym parts.0) right.right.remainder) } in
    let tails : bits 11 g.id ++ bits 7 g.words ≡ bits 11 h.id ++ bits 7 h.words = ap (drop 2) parts.0 in
    let words_bits : bits 7 g.words ≡ bits 7 h.words = (lists_told (bits 11 g.id) (bits 7 g.words) (bits 11 h.id) (bits 7 h.words) (length-bits 11 g.id ∙ sym (length-bits 11 h.id)) tails).1 in
    let words : g.words ≡ h.words = number_from_bits 7 g.words h.words (omega (arith, holds.words_fit)) (omega (arith, right.holds.words_fit)) words_bits in
    let length_right : HasRightLength damaged g kept = record { header_right = record { enough = enough; holds = holds; right = crc }; long = omega (arith, same, whole.length_right.long, words) } in
    let each : (k : ℕ) → get_or damaged k 0 < 256 = byte_at damaged small in
    let back : List ℕ = trailer_of g damaged in
    let back_small : (k : ℕ) → get_or back k 0 < 256 = λ (k : ℕ). rw (get_or-drop (5 + 2 * g.words) damaged k 0) (each (5 + 2 * g.words + k)) in
    let back_long : length back ≡ 3 = rw length-drop (omega (arith, length_right.long)) in
    let last : ℕ = frame_crc_in back in
    let computed : ℕ = frame_crc_of channel (body_of g damaged) in
    let spelled : (last < 2 ^ 24) × (back ≡ trailer_bytes last) = trailer_held back back_long (λ k below. back_small k) in
    let frame_crc : IsFrameCrc channel (body_of g damaged) computed = a_frame_crc channel (body_of g damaged) in
    let R : ℕ → Type 0 = λ (x : ℕ). IsFrameCrc channel (body_of g damaged) x in
    let first : IsFirstFault channel damaged (FrameCrc last computed) = record {
      header = g;
      crc = kept;
      length_right = length_right;
      kept_fits = spelled.0;
      spelled = spelled.1;
      right = frame_crc;
      differs = λ (e : last ≡ computed).
          seen (frames_unseen channel bytes damaged h g a b kept last same whole (record { length_right = length_right; right = subst R (sym e) frame_crc; spelled = spelled.1 }));
    } in
    (last, (computed, first))
