-- The bits of a frame's bytes: the covered bits of the header and its CRC stand together, and the frame CRC at the end.
use Rattle.std.proofs.Common.{◌≡◌, ℕ, ◌+◌, ◌*◌, ◌/◌, ◌%◌, ◌^◌, ◌<◌, ◌≤◌, zero, suc, Bool, true, false, List, [], ◌∷◌, ◌++◌, length, take, drop, ◌==◌, refl, ap, sym, ◌∙◌, append_assoc, arith, length-append}
use Rattle.std.specs.Int.{bit_at}
use Rattle.std.proofs.lemmas.Nat.{shr-shr}
use Rattle.std.proofs.lemmas.List.{append-nil, take_at, take-append-drop}
use Rattle.fr_crc.specs.Bits.{bits, message_of}
use Rattle.fr_crc.specs.Crc.{header_message}
use Rattle.fr_crc.proofs.Remainders.{bits_first, bits_none, bits-mod, length-bits}
use Rattle.fr_frame.specs.declared.header.Header.{Header}
use Rattle.fr_frame.specs.Frame.{bit, header_bytes, trailer_bytes}
use Rattle.fr_frame.specs.Fault.{HasHeader}
use Rattle.fr_frame.proofs.Bytes.{bit-lt}
use Rattle.fr_damage.specs.Damage.{header_code}

-- ---- bits of numbers
bits-split : (j k n : ℕ) → bits (j + k) n ≡ bits j (n / 2 ^ k) ++ bits k n
bits-split zero k n =
    let none : 0 + k ≡ k = omega arith in
    ap (λ (w : ℕ). bits w n) none ∙ sym (ap (λ (xs : List Bool). xs ++ bits k n) (bits_none (n / 2 ^ k)))
bits-split (suc j) k n =
    let moved : n / 2 ^ k / 2 ^ j ≡ n / 2 ^ (k + j) = shr-shr n k j in
    let turned : k + j ≡ j + k = omega arith in
    let top : bit_at (n / 2 ^ k) j ≡ bit_at n (j + k) = ap (λ (x : ℕ). x % 2) moved ∙ ap (bit_at n) turned in
    let more : suc j + k ≡ suc (j + k) = omega arith in
    ap (λ (w : ℕ). bits w n) more
    ∙ bits_first (j + k) n
    ∙ ap (λ (x : ℕ). (x == 1) ∷ bits (j + k) n) (sym top)
    ∙ ap (λ (xs : List Bool). (bit_at (n / 2 ^ k) j == 1) ∷ xs) (bits-split j k n)
    ∙ sym (ap (λ (xs : List Bool). xs ++ bits k n) (bits_first j (n / 2 ^ k)))

-- the lowest bits of two numbers with one remainder
bits_rest : (k a b : ℕ) → a % 2 ^ k ≡ b % 2 ^ k → bits k a ≡ bits k b
bits_rest k a b same = sym (bits-mod k a) ∙ ap (bits k) same ∙ bits-mod k b

bit_told : (b : Bool) → (bit b == 1) ≡ b
bit_told false = refl
bit_told true = refl

-- ---- bytes of messages
pub message-append : (xs ys : List ℕ) → message_of (xs ++ ys) ≡ message_of xs ++ message_of ys
message-append [] ys = refl
message-append (x ∷ xs) ys = ap (λ (zs : List Bool). bits 8 x ++ zs) (message-append xs ys) ∙ sym (append_assoc (bits 8 x) (message_of xs) (message_of ys))

pub length-message : (bytes : List ℕ) → length (message_of bytes) ≡ 8 * length bytes
length-message [] = refl
length-message (b ∷ bytes) = length-append (bits 8 b) (message_of bytes) ∙ omega (arith, length-bits 8 b, length-message bytes)

-- ---- the five bytes of a header
first_byte : (h : Header) → h.id ≤ 2047 →
    bits 8 (128 * bit h.reserved + 64 * bit h.preamble + 32 * bit h.null_bit + 16 * bit h.sync + 8 * bit h.startup + h.id / 256)
    ≡ h.reserved ∷ h.preamble ∷ h.null_bit ∷ h.sync ∷ h.startup ∷ bits 3 (h.id / 256)
first_byte h id =
    let r : bit h.reserved < 2 = bit-lt h.reserved in
    let p : bit h.preamble < 2 = bit-lt h.preamble in
    let n : bit h.null_bit < 2 = bit-lt h.null_bit in
    let s : bit h.sync < 2 = bit-lt h.sync in
    let t : bit h.startup < 2 = bit-lt h.startup in
    let b : ℕ = 128 * bit h.reserved + 64 * bit h.preamble + 32 * bit h.null_bit + 16 * bit h.sync + 8 * bit h.startup + h.id / 256 in
    let b7 : bit_at b 7 ≡ bit h.reserved = omega arith in
    let b6 : bit_at b 6 ≡ bit h.preamble = omega arith in
    let b5 : bit_at b 5 ≡ bit h.null_bit = omega arith in
    let b4 : bit_at b 4 ≡ bit h.sync = omega arith in
    let b3 : bit_at b 3 ≡ bit h.startup = omega arith in
    let low : b % 8 ≡ h.id / 256 % 8 = omega arith in
    let e7 : (bit_at b 7 == 1) ≡ h.reserved = ap (λ (x : ℕ). x == 1) b7 ∙ bit_told h.reserved in
    let e6 : (bit_at b 6 == 1) ≡ h.preamble = ap (λ (x : ℕ). x == 1) b6 ∙ bit_told h.preamble in
    let e5 : (bit_at b 5 == 1) ≡ h.null_bit = ap (λ (x : ℕ). x == 1) b5 ∙ bit_told h.null_bit in
    let e4 : (bit_at b 4 == 1) ≡ h.sync = ap (λ (x : ℕ). x == 1) b4 ∙ bit_told h.sync in
    let e3 : (bit_at b 3 == 1) ≡ h.startup = ap (λ (x : ℕ). x == 1) b3 ∙ bit_told h.startup in
    let rest : bits 3 b ≡ bits 3 (h.id / 256) = bits_rest 3 b (h.id / 256) low in
    rw (bits_first 7 b, bits_first 6 b, bits_first 5 b, bits_first 4 b, bits_first 3 b, e7, e6, e5, e4, e3, rest)

joined : (i3 i8 w7 a1 a8 a2 c6 : List Bool) →
    i3 ++ (i8 ++ ((w7 ++ a1) ++ (a8 ++ ((a2 ++ c6) ++ [])))) ≡ (((i3 ++ i8) ++ w7) ++ (a1 ++ (a8 ++ a2))) ++ c6
joined i3 i8 w7 a1 a8 a2 c6 = simp (append_assoc, append-nil)

-- the eleven bits of a header CRC, as they stand in three bytes
crc_parts : (a : ℕ) → bits 11 a ≡ bits 1 (a / 1024) ++ (bits 8 (a / 4 % 256) ++ bits 2 (a % 4))
crc_parts a =
    bits-split 1 10 a
    ∙ ap (λ (xs : List Bool). bits 1 (a / 1024) ++ xs) (bits-split 8 2 a)
    ∙ ap (λ (xs : List Bool). bits 1 (a / 1024) ++ (xs ++ bits 2 a)) (sym (bits-mod 8 (a / 4)))
    ∙ ap (λ (xs : List Bool). bits 1 (a / 1024) ++ (bits 8 (a / 4 % 256) ++ xs)) (sym (bits-mod 2 a))

pub header_spelled : (h : Header) (a : ℕ) → h.id ≤ 2047 → h.words ≤ 127 → h.cycle ≤ 63 → a < 2 ^ 11 →
    message_of (header_bytes h a) ≡ h.reserved ∷ h.preamble ∷ h.null_bit ∷ ((header_message h.sync h.startup h.id h.words ++ bits 11 a) ++ bits 6 h.cycle)
header_spelled h a id words cycle fits =
    let b2 : ℕ = 2 * h.words + a / 1024 in
    let b4 : ℕ = 64 * (a % 4) + h.cycle in
    let i3 : List Bool = bits 3 (h.id / 256) in
    let i8 : List Bool = bits 8 (h.id % 256) in
    let a1 : List Bool = bits 1 (a / 1024) in
    let a8 : List Bool = bits 8 (a / 4 % 256) in
    let a2 : List Bool = bits 2 (a % 4) in
    let id_is : i3 ++ i8 ≡ bits 11 h.id = sym (bits-split 3 8 h.id ∙ ap (λ (xs : List Bool). i3 ++ xs) (sym (bits-mod 8 h.id))) in
    let words_high : b2 / 2 ≡ h.words = omega (arith, fits) in
    let words_low : b2 % 2 ≡ a / 1024 % 2 = omega arith in
    let third : bits 8 b2 ≡ bits 7 h.words ++ a1 =
    bits-split 7 1 b2 ∙ ap (λ (x : ℕ). bits 7 x ++ bits 1 b2) words_high ∙ ap (λ (xs : List Bool). bits 7 h.words ++ xs) (bits_rest 1 b2 (a / 1024) words_low) in
    let cycle_high : b4 / 64 ≡ a % 4 = omega (arith, cycle) in
    let cycle_low : b4 % 64 ≡ h.cycle % 64 = omega arith in
    let fifth : bits 8 b4 ≡ a2 ++ bits 6 h.cycle =
    bits-split 2 6 b4 ∙ ap (λ (x : ℕ). bits 2 x ++ bits 6 b4) cycle_high ∙ ap (λ (xs : List Bool). a2 ++ xs) (bits_rest 6 b4 h.cycle cycle_low) in
    let front : List Bool → List Bool = λ (xs : List Bool). h.reserved ∷ h.preamble ∷ h.null_bit ∷ h.sync ∷ h.startup ∷ xs in
    let tail : List Bool = i8 ++ (bits 8 b2 ++ (a8 ++ (bits 8 b4 ++ []))) in
    ap (λ (xs : List Bool). xs ++ tail) (first_byte h id)
    ∙ ap (λ (xs : List Bool). front (i3 ++ (i8 ++ (xs ++ (a8 ++ (bits 8 b4 ++ [])))))) third
    ∙ ap (λ (xs : List Bool). front (i3 ++ (i8 ++ ((bits 7 h.words ++ a1) ++ (a8 ++ (xs ++ [])))))) fifth
    ∙ ap front (joined i3 i8 (bits 7 h.words) a1 a8 a2 (bits 6 h.cycle))
    ∙ ap (λ (xs : List Bool). front (((xs ++ bits 7 h.words) ++ (a1 ++ (a8 ++ a2))) ++ bits 6 h.cycle)) id_is
    ∙ ap (λ (xs : List Bool). front (((bits 11 h.id ++ bits 7 h.words) ++ xs) ++ bits 6 h.cycle)) (sym (crc_parts a))

pub length-covered : (sync startup : Bool) (id words : ℕ) → length (header_message sync startup id words) ≡ 20
length-covered sync startup id words =
    ap (λ (n : ℕ). suc (suc n)) (length-append (bits 11 id) (bits 7 words) ∙ omega (arith, length-bits 11 id, length-bits 7 words))

-- the covered bits and the CRC of a header are bits 3 to 33
pub header_code_is : (bytes : List ℕ) (h : Header) (a : ℕ) → HasHeader bytes h a → header_code (message_of bytes) ≡ header_message h.sync h.startup h.id h.words ++ bits 11 a
header_code_is bytes h a is =
    let code : List Bool = header_message h.sync h.startup h.id h.words ++ bits 11 a in
    let long : length code ≡ 31 = length-append (header_message h.sync h.startup h.id h.words) (bits 11 a) ∙ omega (arith, length-covered h.sync h.startup h.id h.words, length-bits 11 a) in
    let whole : message_of bytes ≡ message_of (header_bytes h a) ++ message_of (drop 5 bytes) =
    ap message_of (sym (take-append-drop 5 bytes)) ∙ message-append (take 5 bytes) (drop 5 bytes) ∙ ap (λ (xs : List ℕ). message_of xs ++ message_of (drop 5 bytes)) is.spelled in
    ap header_code (whole ∙ ap (λ (xs : List Bool). xs ++ message_of (drop 5 bytes)) (header_spelled h a is.id_fits is.words_fit is.cycle_fits is.kept_fits))
    ∙ ap (take 31) (append_assoc code (bits 6 h.cycle) (message_of (drop 5 bytes)))
    ∙ take_at code (bits 6 h.cycle ++ message_of (drop 5 bytes)) 31 long

-- ---- the three bytes of a frame CRC
pub trailer_spelled : (b : ℕ) → message_of (trailer_bytes b) ≡ bits 24 b
trailer_spelled b =
    let high : List Bool = bits 8 (b / 65536) in
    ap (λ (xs : List Bool). high ++ (bits 8 (b / 256 % 256) ++ xs)) (append-nil (bits 8 (b % 256)))
    ∙ ap (λ (xs : List Bool). high ++ (xs ++ bits 8 (b % 256))) (bits-mod 8 (b / 256))
    ∙ ap (λ (xs : List Bool). high ++ (bits 8 (b / 256) ++ xs)) (bits-mod 8 b)
    ∙ ap (λ (xs : List Bool). high ++ xs) (sym (bits-split 8 8 b))
    ∙ sym (bits-split 8 16 b)
