-- Each list of bits is that of a number, so each message has a remainder.
use Rattle.std.proofs.Common.{◌≡◌, ℕ, ◌+◌, ◌-◌, ◌*◌, ◌^◌, ◌<◌, suc, Bool, true, false, List, [], ◌∷◌, length, ◌==◌, refl, ap, sym, ◌∙◌, subst, lit<, arith}
use Rattle.std.specs.Int.{bit_at}
use Rattle.std.proofs.lemmas.Nat.Bits.{bit_at_cat_low, bit_at_cat_high}
use Rattle.fr_base.specs.declared.channel.Channel.{Channel}
use Rattle.fr_crc.specs.Bits.{bits, message_of, one_of, number_of_bits}
use Rattle.fr_crc.specs.Crc.{IsCrc, IsHeaderCrc, IsFrameCrc, header_generator, header_start, header_message, frame_generator, frame_start}
use Rattle.fr_crc.specs.Register.{after}
use Rattle.fr_crc.specs.Computed.{header_crc_of, frame_crc_of}
use Rattle.fr_crc.proofs.Division.{divides}
use Rattle.fr_crc.proofs.Remainders.{bits_first, bits_none, bits_same, length-bits}

pow-double : (n : ℕ) → 2 ^ suc n ≡ 2 * 2 ^ n
pow-double n = omega arith

pub number_of-lt : (bs : List Bool) → number_of_bits bs < 2 ^ length bs
number_of-lt [] = lit< tt
number_of-lt (false ∷ bs) = omega (arith, number_of-lt bs, pow-double (length bs))
number_of-lt (true ∷ bs) = omega (arith, number_of-lt bs, pow-double (length bs))

top_bit : (b : Bool) (n m : ℕ) → m < 2 ^ n → (bit_at (one_of b * 2 ^ n + m) n == 1) ≡ b
top_bit b n m small =
    let e : n - n ≡ 0 = omega arith in
    let top : bit_at (one_of b * 2 ^ n + m) n ≡ bit_at (one_of b) 0 = bit_at_cat_high (one_of b) n m n small (omega arith) ∙ ap (bit_at (one_of b)) e in
    ap (λ (x : ℕ). x == 1) top ∙ tested b
  where
    tested : (c : Bool) → (bit_at (one_of c) 0 == 1) ≡ c
    tested false = refl
    tested true = refl

pub bits-number_of : (bs : List Bool) → bits (length bs) (number_of_bits bs) ≡ bs
bits-number_of [] = bits_none 0
bits-number_of (b ∷ bs) =
    let low : bits (length bs) (number_of_bits (b ∷ bs)) ≡ bits (length bs) (number_of_bits bs) =
    bits_same (length bs) (number_of_bits (b ∷ bs)) (number_of_bits bs) (λ i below. bit_at_cat_low (one_of b) (length bs) (number_of_bits bs) i below) in
    bits_first (length bs) (number_of_bits (b ∷ bs))
    ∙ ap (λ (x : Bool). x ∷ bits (length bs) (number_of_bits (b ∷ bs))) (top_bit b (length bs) (number_of_bits bs) (number_of-lt bs))
    ∙ ap (λ (xs : List Bool). b ∷ xs) (low ∙ bits-number_of bs)

pub a_remainder : (generator start message : List Bool) → 0 < length generator → length start ≡ length generator → (remainder : List Bool) × IsCrc generator start message remainder
a_remainder generator start message some width = (after generator start message, divides generator start message some width)

-- the number of a remainder has its bits
numbered : (w terms start : ℕ) (message : List Bool) → 0 < w →
    (number_of_bits (after (bits w terms) (bits w start) message) < 2 ^ w) × IsCrc (bits w terms) (bits w start) message (bits w (number_of_bits (after (bits w terms) (bits w start) message)))
numbered w terms start message some =
    let g : List Bool = bits w terms in
    let s : List Bool = bits w start in
    let r : List Bool = after g s message in
    let wide : 0 < length g = rw (length-bits w terms) some in
    let is : IsCrc g s message r = divides g s message wide (length-bits w start ∙ sym (length-bits w terms)) in
    let long : length r ≡ w = is.width ∙ length-bits w terms in
    let back : r ≡ bits w (number_of_bits r) = sym (bits-number_of r) ∙ ap (λ (n : ℕ). bits n (number_of_bits r)) long in
    let P : List Bool → Type 0 = λ (xs : List Bool). IsCrc g s message xs in
    let Q : ℕ → Type 0 = λ (n : ℕ). number_of_bits r < 2 ^ n in
    (subst Q long (number_of-lt r), subst P back is)

-- the CRCs that the register ends with are those of the definition
pub a_header_crc : (sync startup : Bool) (id words : ℕ) → IsHeaderCrc sync startup id words (header_crc_of sync startup id words)
unfolding header_crc_of
a_header_crc sync startup id words =
    let m : List Bool = header_message sync startup id words in
    let crc : ℕ = number_of_bits (after header_generator header_start m) in
    let found : (crc < 2 ^ 11) × IsCrc header_generator header_start m (bits 11 crc) = numbered 11 0x385 0x01A m (lit< tt) in
    record { fits = found.0; remainder = found.1 }

pub a_frame_crc : (channel : Channel) (body : List ℕ) → IsFrameCrc channel body (frame_crc_of channel body)
unfolding frame_crc_of
a_frame_crc channel body =
    let crc : ℕ = number_of_bits (after frame_generator (bits 24 (frame_start channel)) (message_of body)) in
    let found : (crc < 2 ^ 24) × IsCrc frame_generator (bits 24 (frame_start channel)) (message_of body) (bits 24 crc) = numbered 24 0x5D6DCB (frame_start channel) (message_of body) (lit< tt) in
    record { fits = found.0; remainder = found.1 }
