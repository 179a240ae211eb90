-- A flipped copy of bytes has one bit inverted.
use Rattle.std.proofs.Common.{◌≡◌, ℕ, ◌+◌, ◌-◌, ◌*◌, ◌/◌, ◌%◌, ◌^◌, ◌<◌, ◌≤◌, zero, suc, Bool, List, [], ◌∷◌, ◌++◌, length, set, get_or, bit_xor, refl, ap, sym, ◌∙◌, lit<, arith}
use Rattle.std.specs.Prelude.{All}
use Rattle.std.proofs.lemmas.Nat.{xor_lt}
use Rattle.std.proofs.Math.Nat.{pow-le-pow_right}
use Rattle.std.proofs.lemmas.List.{length-set}
use Rattle.std.proofs.lemmas.List.Elements.{All-head, All-set, All-tail}
use Rattle.fr_crc.specs.Bits.{bits, xor, zeros, message_of}
use Rattle.fr_crc.proofs.Remainders.{bits-xor, length-bits}
use Rattle.fr_crc.proofs.Sums.{xor_comm, xor-zeros}
use Rattle.fr_damage.specs.Damage.{inverted}
use Rattle.fr_damage.proofs.Inverted.{inverted-behind, inverted-front}
use Rattle.fr_damage.proofs.Patterns.{inverted-xor}
use Rattle.fr_reception.specs.Offers.{flipped}

-- ---- one byte
power_bits : (j : ℕ) → j < 8 → bits 8 (2 ^ (7 - j)) ≡ inverted j (zeros 8)
unfolding bits
power_bits zero below = refl
power_bits (suc zero) below = refl
power_bits (suc (suc zero)) below = refl
power_bits (suc (suc (suc zero))) below = refl
power_bits (suc (suc (suc (suc zero)))) below = refl
power_bits (suc (suc (suc (suc (suc zero))))) below = refl
power_bits (suc (suc (suc (suc (suc (suc zero)))))) below = refl
power_bits (suc (suc (suc (suc (suc (suc (suc zero))))))) below = refl
power_bits (suc (suc (suc (suc (suc (suc (suc (suc j)))))))) below = absurd (omega arith)

byte_flipped : (b j : ℕ) → j < 8 → bits 8 (bit_xor b (2 ^ (7 - j))) ≡ inverted j (bits 8 b)
byte_flipped b j below =
    bits-xor 8 b (2 ^ (7 - j))
    ∙ ap (xor (bits 8 b)) (power_bits j below)
    ∙ inverted-xor j (bits 8 b) (zeros 8)
    ∙ ap (inverted j) (xor_comm (bits 8 b) (zeros 8) ∙ xor-zeros 8 (bits 8 b) (length-bits 8 b))

-- ---- bytes
set_flipped : (bytes : List ℕ) (k j p : ℕ) → j < 8 → k < length bytes → p ≡ 8 * k + j →
    message_of (set bytes k (bit_xor (get_or bytes k 0) (2 ^ (7 - j)))) ≡ inverted p (message_of bytes)
set_flipped [] k j p small below is = absurd (omega arith)
set_flipped (b ∷ bytes) zero j p small below is =
    let e : p ≡ j = omega arith in
    let within : j < length (bits 8 b) = omega (arith, small, length-bits 8 b) in
    ap (λ (xs : List Bool). xs ++ message_of bytes) (byte_flipped b j small)
    ∙ sym (inverted-front j (bits 8 b) (message_of bytes) within)
    ∙ sym (ap (λ (n : ℕ). inverted n (bits 8 b ++ message_of bytes)) e)
set_flipped (b ∷ bytes) (suc k) j p small below is =
    ap (λ (xs : List Bool). bits 8 b ++ xs) (set_flipped bytes k j (8 * k + j) small (omega arith) refl)
    ∙ sym (inverted-behind (8 * k + j) p (bits 8 b) (message_of bytes) (omega (arith, is, length-bits 8 b)))

pub flipped_message : (bit : ℕ) (bytes : List ℕ) → bit < 8 * length bytes → message_of (flipped bit bytes) ≡ inverted bit (message_of bytes)
unfolding flipped
flipped_message bit bytes below = set_flipped bytes (bit / 8) (bit % 8) bit (omega arith) (omega arith) (omega arith)

-- ---- it is made of bytes
power-lt : (k : ℕ) → 2 ^ (7 - k) < 2 ^ 8
power-lt k =
    let most : 2 ^ (7 - k) ≤ 2 ^ 7 = pow-le-pow_right {n = 2} (lit< tt) {i = 7 - k} {j = 7} (omega arith) in
    omega (arith, most)

byte_at-lt : (bytes : List ℕ) (k : ℕ) → All (λ b. b < 2 ^ 8) bytes → get_or bytes k 0 < 2 ^ 8
byte_at-lt [] k small = lit< tt
byte_at-lt (byte ∷ bytes) zero small = All-head (λ b. b < 2 ^ 8) byte bytes small
byte_at-lt (byte ∷ bytes) (suc k) small = byte_at-lt bytes k (All-tail (λ b. b < 2 ^ 8) byte bytes small)

pub flipped_small : (bit : ℕ) (bytes : List ℕ) → All (λ b. b < 2 ^ 8) bytes → All (λ b. b < 2 ^ 8) (flipped bit bytes)
unfolding flipped
flipped_small bit bytes small =
    All-set (λ b. b < 2 ^ 8) bytes (bit / 8) (bit_xor (get_or bytes (bit / 8) 0) (2 ^ (7 - bit % 8)))
    (xor_lt 8 (get_or bytes (bit / 8) 0) (2 ^ (7 - bit % 8)) (byte_at-lt bytes (bit / 8) small) (power-lt (bit % 8))) small

-- ---- two inverted bits
length-flipped : (bit : ℕ) (bytes : List ℕ) → length (flipped bit bytes) ≡ length bytes
unfolding flipped
length-flipped bit bytes = length-set bytes (bit / 8) (bit_xor (get_or bytes (bit / 8) 0) (2 ^ (7 - bit % 8)))

pub flipped_twice : (bit other : ℕ) (bytes : List ℕ) → bit < 8 * length bytes → other < 8 * length bytes → message_of (flipped bit (flipped other bytes)) ≡ inverted bit (inverted other (message_of bytes))
flipped_twice bit other bytes first second =
    flipped_message bit (flipped other bytes) (omega (arith, first, length-flipped other bytes)) ∙ ap (inverted bit) (flipped_message other bytes second)
