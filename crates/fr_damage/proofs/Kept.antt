-- Which CRC a fault of one inverted bit names beside another: that of the frame.
use Rattle.std.proofs.Common.{◌≡◌, ℕ, ◌+◌, ◌-◌, ◌*◌, ◌^◌, ◌<◌, ◌≤◌, Bool, List, ◌++◌, length, ap, sym, ◌∙◌, subst, inr, arith}
use Rattle.std.specs.Prelude.{All}
use Rattle.std.proofs.lemmas.List.{take-append-drop, length-take-le}
use Rattle.fr_base.specs.declared.channel.Channel.{Channel}
use Rattle.fr_crc.specs.Bits.{bits, message_of}
use Rattle.fr_crc.specs.Crc.{IsCrc, IsHeaderCrc, IsFrameCrc, header_generator, header_start, header_message, frame_generator, frame_start}
use Rattle.fr_crc.proofs.Remainders.{number_from_bits}
use Rattle.fr_crc.proofs.Unique.{remainder_is_one}
use Rattle.fr_frame.specs.declared.header.Header.{Header}
use Rattle.fr_frame.specs.declared.fault.FrameFault.TheVariants.{HeaderCrc, FrameCrc}
use Rattle.fr_frame.specs.Frame.{trailer_bytes, IsFrameWith}
use Rattle.fr_frame.specs.Fault.{HasHeader, HasRightChecks, HasRightHeader, IsFirstFault, body_of, trailer_of}
use Rattle.fr_frame.proofs.Parts.{frame_checks}
use Rattle.fr_damage.specs.Damage.{inverted, header_code, FailsHeaderCrc, FailsFrameCrc, IsInHeaderCode, IsOutsideHeaderCode}
use Rattle.fr_damage.proofs.Patterns.{length-inverted}
use Rattle.fr_damage.proofs.Spelling.{header_code_is, length-covered, length-message, message-append, trailer_spelled}
use Rattle.fr_damage.proofs.Codes.{lists_told}
use Rattle.fr_damage.proofs.Inverted.{OneInverted, code_inverted, inverted-front, inverted-behind, one_in_header_code, one_long, one_outside}

-- ---- the header CRC
abbrev message_in : Header → List Bool
message_in h = header_message h.sync h.startup h.id h.words

-- two headers with the same covered bits have the same CRC
header_alike : (h g : Header) (a b : ℕ) → message_in g ≡ message_in h → IsHeaderCrc h.sync h.startup h.id h.words a → IsHeaderCrc g.sync g.startup g.id g.words b → b ≡ a
header_alike h g a b same one other =
    let P : List Bool → Type 0 = λ (m : List Bool). IsCrc header_generator header_start m (bits 11 a) in
    number_from_bits 11 b a other.fits one.fits (remainder_is_one header_generator header_start (message_in g) (bits 11 b) (bits 11 a) other.remainder (subst P (sym same) one.remainder))

codes_of : (bytes damaged : List ℕ) (h g : Header) (a kept place : ℕ) → HasHeader bytes h a → HasHeader damaged g kept → IsInHeaderCode place → OneInverted place bytes damaged →
    message_in g ++ bits 11 kept ≡ inverted (place - 3) (message_in h ++ bits 11 a)
codes_of bytes damaged h g a kept place one other within flip =
    sym (header_code_is damaged g kept other) ∙ ap header_code flip ∙ code_inverted place (message_of bytes) within ∙ ap (inverted (place - 3)) (header_code_is bytes h a one)

pub covered_bit : (channel : Channel) (h : Header) (payload bytes damaged : List ℕ) (a b place : ℕ) → IsFrameWith channel h payload a b bytes → All (λ byte. byte < 2 ^ 8) damaged →
    3 ≤ place → place ≤ 22 → OneInverted place bytes damaged → (computed : ℕ) × IsFirstFault channel damaged (HeaderCrc a computed)
covered_bit channel h payload bytes damaged a b place is small from to flip =
    let found : FailsHeaderCrc channel damaged = one_in_header_code channel h payload bytes damaged place (a, (b, is)) small (from, omega arith) flip in
    let fault : IsFirstFault channel damaged (HeaderCrc found.0 found.1.0) = found.1.1 in
    let g : Header = fault.header in
    let right : HasRightHeader bytes h a = (frame_checks channel h payload a b bytes is).length_right.header_right in
    let below : place - 3 < length (message_in h) = omega (arith, length-covered h.sync h.startup h.id h.words) in
    let codes : message_in g ++ bits 11 found.0 ≡ inverted (place - 3) (message_in h) ++ bits 11 a =
    codes_of bytes damaged h g a found.0 place right.holds fault.holds (from, omega arith) flip ∙ inverted-front (place - 3) (message_in h) (bits 11 a) below in
    let long : length (message_in g) ≡ length (inverted (place - 3) (message_in h)) =
    length-covered g.sync g.startup g.id g.words ∙ sym (length-inverted (place - 3) (message_in h) ∙ length-covered h.sync h.startup h.id h.words) in
    let tail : bits 11 found.0 ≡ bits 11 a = (lists_told (message_in g) (bits 11 found.0) (inverted (place - 3) (message_in h)) (bits 11 a) long codes).1 in
    let same : found.0 ≡ a = number_from_bits 11 found.0 a fault.holds.kept_fits right.holds.kept_fits tail in
    let P : ℕ → Type 0 = λ (x : ℕ). IsFirstFault channel damaged (HeaderCrc x found.1.0) in
    (found.1.0, subst P same fault)

pub header_crc_bit : (channel : Channel) (h : Header) (payload bytes damaged : List ℕ) (a b place : ℕ) → IsFrameWith channel h payload a b bytes → All (λ byte. byte < 2 ^ 8) damaged →
    23 ≤ place → place ≤ 33 → OneInverted place bytes damaged →
    (kept : ℕ) × ((bits 11 kept ≡ inverted (place - 23) (bits 11 a)) × IsFirstFault channel damaged (HeaderCrc kept a))
header_crc_bit channel h payload bytes damaged a b place is small from to flip =
    let found : FailsHeaderCrc channel damaged = one_in_header_code channel h payload bytes damaged place (a, (b, is)) small (omega arith, to) flip in
    let fault : IsFirstFault channel damaged (HeaderCrc found.0 found.1.0) = found.1.1 in
    let g : Header = fault.header in
    let right : HasRightHeader bytes h a = (frame_checks channel h payload a b bytes is).length_right.header_right in
    let past : place - 3 ≡ length (message_in h) + (place - 23) = omega (arith, length-covered h.sync h.startup h.id h.words) in
    let codes : message_in g ++ bits 11 found.0 ≡ message_in h ++ inverted (place - 23) (bits 11 a) =
    codes_of bytes damaged h g a found.0 place right.holds fault.holds (omega arith, to) flip ∙ inverted-behind (place - 23) (place - 3) (message_in h) (bits 11 a) past in
    let parts : (message_in g ≡ message_in h) × (bits 11 found.0 ≡ inverted (place - 23) (bits 11 a)) =
    lists_told (message_in g) (bits 11 found.0) (message_in h) (inverted (place - 23) (bits 11 a)) (length-covered g.sync g.startup g.id g.words ∙ sym (length-covered h.sync h.startup h.id h.words)) codes in
    let same : found.1.0 ≡ a = header_alike h g a found.1.0 parts.0 right.right fault.right in
    let P : ℕ → Type 0 = λ (x : ℕ). IsFirstFault channel damaged (HeaderCrc found.0 x) in
    (found.0, (parts.1, subst P same fault))

-- ---- the frame CRC
parted : (bytes : List ℕ) (h : Header) (b : ℕ) → trailer_of h bytes ≡ trailer_bytes b → message_of bytes ≡ message_of (body_of h bytes) ++ bits 24 b
parted bytes h b spelled =
    ap message_of (sym (take-append-drop (5 + 2 * h.words) bytes))
    ∙ message-append (body_of h bytes) (trailer_of h bytes)
    ∙ ap (λ (xs : List Bool). message_of (body_of h bytes) ++ xs) (ap message_of spelled ∙ trailer_spelled b)

length-body : (bytes : List ℕ) (h : Header) → length bytes ≡ 8 + 2 * h.words → length (message_of (body_of h bytes)) ≡ 8 * (5 + 2 * h.words)
length-body bytes h long =
    length-message (body_of h bytes) ∙ ap (λ (n : ℕ). 8 * n) (length-take-le (5 + 2 * h.words) bytes (omega (arith, long)))

-- two bodies with the same bits have the same CRC
body_alike : (channel : Channel) (one other : List ℕ) (a b : ℕ) → message_of other ≡ message_of one → IsFrameCrc channel one a → IsFrameCrc channel other b → b ≡ a
body_alike channel one other a b same first second =
    let P : List Bool → Type 0 = λ (m : List Bool). IsCrc frame_generator (bits 24 (frame_start channel)) m (bits 24 a) in
    number_from_bits 24 b a second.fits first.fits (remainder_is_one frame_generator (bits 24 (frame_start channel)) (message_of other) (bits 24 b) (bits 24 a) second.remainder (subst P (sym same) first.remainder))

pub body_bit : (channel : Channel) (h : Header) (payload bytes damaged : List ℕ) (a b place : ℕ) → IsFrameWith channel h payload a b bytes → All (λ byte. byte < 2 ^ 8) damaged →
    IsOutsideHeaderCode place → place + 24 < 8 * length bytes → OneInverted place bytes damaged → (computed : ℕ) × IsFirstFault channel damaged (FrameCrc b computed)
body_bit channel h payload bytes damaged a b place is small outside below flip =
    let found : FailsFrameCrc channel damaged = one_outside channel h payload bytes damaged place (a, (b, is)) small outside (omega arith) flip in
    let fault : IsFirstFault channel damaged (FrameCrc found.0 found.1.0) = found.1.1 in
    let g : Header = fault.header in
    let whole : HasRightChecks channel bytes h a b = frame_checks channel h payload a b bytes is in
    let body_long : length (message_of (body_of h bytes)) ≡ 8 * (5 + 2 * h.words) = length-body bytes h whole.length_right.long in
    let other_long : length (message_of (body_of g damaged)) ≡ 8 * (5 + 2 * g.words) = length-body damaged g fault.length_right.long in
    let counts : length bytes ≡ length damaged = one_long place bytes damaged flip in
    let within : place < length (message_of (body_of h bytes)) = omega (arith, body_long, whole.length_right.long) in
    let codes : message_of (body_of g damaged) ++ bits 24 found.0 ≡ inverted place (message_of (body_of h bytes)) ++ bits 24 b =
    sym (parted damaged g found.0 fault.spelled) ∙ flip ∙ ap (inverted place) (parted bytes h b whole.spelled) ∙ inverted-front place (message_of (body_of h bytes)) (bits 24 b) within in
    let long : length (message_of (body_of g damaged)) ≡ length (inverted place (message_of (body_of h bytes))) =
    omega (arith, body_long, other_long, counts, whole.length_right.long, fault.length_right.long, length-inverted place (message_of (body_of h bytes))) in
    let tail : bits 24 found.0 ≡ bits 24 b = (lists_told (message_of (body_of g damaged)) (bits 24 found.0) (inverted place (message_of (body_of h bytes))) (bits 24 b) long codes).1 in
    let same : found.0 ≡ b = number_from_bits 24 found.0 b fault.kept_fits whole.right.fits tail in
    let P : ℕ → Type 0 = λ (x : ℕ). IsFirstFault channel damaged (FrameCrc x found.1.0) in
    (found.1.0, subst P same fault)

pub frame_crc_bit : (channel : Channel) (h : Header) (payload bytes damaged : List ℕ) (a b place : ℕ) → IsFrameWith channel h payload a b bytes → All (λ byte. byte < 2 ^ 8) damaged →
    8 * length bytes ≤ place + 24 → place < 8 * length bytes → OneInverted place bytes damaged →
    (kept : ℕ) × ((bits 24 kept ≡ inverted (place + 24 - 8 * length bytes) (bits 24 b)) × IsFirstFault channel damaged (FrameCrc kept b))
frame_crc_bit channel h payload bytes damaged a b place is small from below flip =
    let whole : HasRightChecks channel bytes h a b = frame_checks channel h payload a b bytes is in
    let behind : 33 < place = omega (arith, from, whole.length_right.header_right.enough) in
    let found : FailsFrameCrc channel damaged = one_outside channel h payload bytes damaged place (a, (b, is)) small (inr behind) below flip in
    let fault : IsFirstFault channel damaged (FrameCrc found.0 found.1.0) = found.1.1 in
    let g : Header = fault.header in
    let body_long : length (message_of (body_of h bytes)) ≡ 8 * (5 + 2 * h.words) = length-body bytes h whole.length_right.long in
    let other_long : length (message_of (body_of g damaged)) ≡ 8 * (5 + 2 * g.words) = length-body damaged g fault.length_right.long in
    let counts : length bytes ≡ length damaged = one_long place bytes damaged flip in
    let j : ℕ = place + 24 - 8 * length bytes in
    let past : place ≡ length (message_of (body_of h bytes)) + j = omega (arith, body_long, whole.length_right.long, from) in
    let codes : message_of (body_of g damaged) ++ bits 24 found.0 ≡ message_of (body_of h bytes) ++ inverted j (bits 24 b) =
    sym (parted damaged g found.0 fault.spelled) ∙ flip ∙ ap (inverted place) (parted bytes h b whole.spelled) ∙ inverted-behind j place (message_of (body_of h bytes)) (bits 24 b) past in
    let long : length (message_of (body_of g damaged)) ≡ length (message_of (body_of h bytes)) =
    omega (arith, body_long, other_long, counts, whole.length_right.long, fault.length_right.long) in
    let parts : (message_of (body_of g damaged) ≡ message_of (body_of h bytes)) × (bits 24 found.0 ≡ inverted j (bits 24 b)) =
    lists_told (message_of (body_of g damaged)) (bits 24 found.0) (message_of (body_of h bytes)) (inverted j (bits 24 b)) long codes in
    let same : found.1.0 ≡ b = body_alike channel (body_of h bytes) (body_of g damaged) b found.1.0 parts.0 whole.right fault.right in
    let P : ℕ → Type 0 = λ (x : ℕ). IsFirstFault channel damaged (FrameCrc found.0 x) in
    (found.0, (parts.1, subst P same fault))
