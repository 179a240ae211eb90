-- What the register's loops keep, and the CRCs that they end with.
use Rattle.std.proofs.Common.{◌≡◌, ℕ, ◌+◌, ◌-◌, ◌/◌, ◌^◌, ◌<◌, zero, suc, Bool, List, length, drop, get_or, bit_and, ◌==◌, ap, sym, ◌∙◌, subst, lit<, arith}
use Rattle.std.proofs.lemmas.Nat.Bits.{shr_and_one}
use Rattle.std.proofs.lemmas.List.{at_drop_more}
use Rattle.fr_base.specs.declared.channel.Channel.{Channel}
use Rattle.fr_crc.specs.Bits.{bits, message_of}
use Rattle.fr_crc.specs.Crc.{IsCrc, IsHeaderCrc, IsFrameCrc, header_generator, header_start, header_message, frame_generator, frame_start}
use Rattle.fr_crc.specs.Register.{register_stepped, after}
use Rattle.fr_crc.proofs.Division.{after-append, divides}
use Rattle.fr_crc.proofs.Remainders.{bits_first, bits_none, length-bits}

-- one bit of a number, and the lower ones
pub after-bits_first : (g s : List Bool) (k n : ℕ) → 0 < k → after g s (bits k n) ≡ after g (register_stepped g s (bit_and (n / 2 ^ (k - 1)) 1 == 1)) (bits (k - 1) n)
after-bits_first g s zero n some = absurd (omega arith)
after-bits_first g s (suc k) n some =
    let e : suc k - 1 ≡ k = omega arith in
    rw (e, shr_and_one n k, bits_first k n)

pub after-bits_none : (g s : List Bool) (k n : ℕ) → k ≡ 0 → after g s (bits k n) ≡ s
after-bits_none g s k n none = rw (none, bits_none n)

-- one byte, and those after it
pub after-message_first : (g s : List Bool) (bytes : List ℕ) (i : ℕ) → i < length bytes →
    after g s (message_of (drop i bytes)) ≡ after g (after g s (bits 8 (get_or bytes i 0))) (message_of (drop (i + 1) bytes))
after-message_first g s bytes i below =
    at_drop_more (λ (xs : List ℕ). after g s (message_of xs)) bytes i 0 below
    ∙ after-append g s (bits 8 (get_or bytes i 0)) (message_of (drop (i + 1) bytes))

remainder_of : (w terms start : ℕ) (message r : List Bool) → 0 < w → r ≡ after (bits w terms) (bits w start) message → IsCrc (bits w terms) (bits w start) message r
remainder_of w terms start message r some same =
    let wide : 0 < length (bits w terms) = rw (length-bits w terms) some in
    let P : List Bool → Type 0 = λ (xs : List Bool). IsCrc (bits w terms) (bits w start) message xs in
    subst P (sym same) (divides (bits w terms) (bits w start) message wide (length-bits w start ∙ sym (length-bits w terms)))

pub header_crc_after : (sync startup : Bool) (id words first second third last : ℕ) → last < 2 ^ 11 →
    bits 11 first ≡ register_stepped header_generator header_start sync →
    bits 11 second ≡ register_stepped header_generator (bits 11 first) startup →
    bits 11 third ≡ after header_generator (bits 11 second) (bits 11 id) →
    bits 11 last ≡ after header_generator (bits 11 third) (bits 7 words) →
    IsHeaderCrc sync startup id words last
header_crc_after sync startup id words first second third last fits one two three four =
    let g : List Bool = header_generator in
    let whole : bits 11 last ≡ after g header_start (header_message sync startup id words) =
    four
    ∙ ap (λ (s : List Bool). after g s (bits 7 words)) three
    ∙ ap (λ (s : List Bool). after g (after g s (bits 11 id)) (bits 7 words)) (two ∙ ap (λ (s : List Bool). register_stepped g s startup) one)
    ∙ sym (after-append g (register_stepped g (register_stepped g header_start sync) startup) (bits 11 id) (bits 7 words)) in
    record { fits = fits; remainder = remainder_of 11 0x385 0x01A (header_message sync startup id words) (bits 11 last) (lit< tt) whole }

-- the register after all bits of a header at once
pub header_crc_of_all : (sync startup : Bool) (id words last : ℕ) → last < 2 ^ 11 → bits 11 last ≡ after header_generator header_start (header_message sync startup id words) → IsHeaderCrc sync startup id words last
header_crc_of_all sync startup id words last fits whole =
    record { fits = fits; remainder = remainder_of 11 0x385 0x01A (header_message sync startup id words) (bits 11 last) (lit< tt) whole }

pub frame_crc_after : (channel : Channel) (body : List ℕ) (start crc : ℕ) → crc < 2 ^ 24 → start ≡ frame_start channel →
    bits 24 crc ≡ after frame_generator (bits 24 start) (message_of body) → IsFrameCrc channel body crc
frame_crc_after channel body start crc fits from whole =
    let told : bits 24 crc ≡ after frame_generator (bits 24 (frame_start channel)) (message_of body) =
    whole ∙ ap (λ (s : ℕ). after frame_generator (bits 24 s) (message_of body)) from in
    record { fits = fits; remainder = remainder_of 24 0x5D6DCB (frame_start channel) (message_of body) (bits 24 crc) (lit< tt) told }
