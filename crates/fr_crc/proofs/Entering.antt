-- The register after several bits at once, by an entry of a table.
use Rattle.std.proofs.Common.{◌≡◌, ℕ, ◌+◌, ◌*◌, ◌/◌, ◌%◌, ◌^◌, ◌<◌, ◌≤◌, zero, suc, Bool, true, false, List, [], ◌∷◌, ◌++◌, length, get_or, ◌==◌, bit_and, refl, ap, sym, ◌∙◌, subst, lit<, arith, length-append}
use Rattle.std.specs.Int.{bit_at}
use Rattle.std.specs.Prelude.{bit_xor}
use Rattle.std.proofs.lemmas.Nat.{and_mask, xor_lt, shr-shr, shl-shr}
use Rattle.std.proofs.lemmas.Nat.Bits.{bit_at-zero, bit_at_cat_low}
use Rattle.std.proofs.lemmas.List.{append_assoc, append-nil}
use Rattle.std.proofs.lemmas.List.FromFn.{get_or-map-range_with_len}
use mir.Val.{bool_byte}
use Rattle.fr_crc.specs.Bits.{bits, differ, xor, zeros, times_bit, number_of_bits}
use Rattle.fr_crc.specs.Crc.{IsCrc, frame_generator}
use Rattle.fr_crc.specs.Entries.{frame_entries}
use Rattle.fr_crc.specs.Register.{register_stepped, after}
use Rattle.fr_crc.proofs.Sums.{differ_comm, differ_assoc, xor_comm, xor_assoc, xor-append, xor-zeros, length-xor, length-zeros, length-times_bit}
use Rattle.fr_crc.proofs.Division.{divides, length-stepped, zeros_after}
use Rattle.fr_crc.proofs.Existence.{number_of-lt, bits-number_of}
use Rattle.fr_crc.proofs.Remainders.{bits_first, bits_none, bits_same, bits-mod, bits-xor, length-bits}

-- one bit more in the register that is the sum of two
joined : (hi lo t g : List Bool) (h b u : Bool) → length hi + length lo ≡ length t →
    xor (xor (hi ++ lo) t ++ false ∷ []) (times_bit (differ (differ h u) b) g)
    ≡ xor (hi ++ (lo ++ false ∷ [])) (xor (t ++ false ∷ []) (times_bit (differ u (differ h b)) g))
joined hi lo t g h b u long =
    let one : List Bool = false ∷ [] in
    let same : length (hi ++ lo) ≡ length t = length-append hi lo ∙ long in
    let bit : differ (differ h u) b ≡ differ u (differ h b) = ap (λ (x : Bool). differ x b) (differ_comm h u) ∙ differ_assoc u h b in
    let apart : xor ((hi ++ lo) ++ one) (t ++ one) ≡ xor (hi ++ lo) t ++ one = xor-append (hi ++ lo) t one one same in
    ap (λ (xs : List Bool). xor xs (times_bit (differ (differ h u) b) g)) (sym apart)
    ∙ xor_assoc ((hi ++ lo) ++ one) (t ++ one) (times_bit (differ (differ h u) b) g)
    ∙ ap (λ (xs : List Bool). xor xs (xor (t ++ one) (times_bit (differ (differ h u) b) g))) (append_assoc hi lo one)
    ∙ ap (λ (x : Bool). xor (hi ++ (lo ++ one)) (xor (t ++ one) (times_bit x g))) bit

-- the register after as many bits as stand at its front
pub chunk : (g hi lo t m : List Bool) → length hi ≡ length m → length t ≡ length g → length hi + length lo ≡ length g →
    after g (xor (hi ++ lo) t) m ≡ xor (lo ++ zeros (length m)) (after g t (xor hi m))
chunk g [] lo t [] same wide whole = ap (λ (xs : List Bool). xor xs t) (sym (append-nil lo))
chunk g [] lo t (b ∷ m) same wide whole = absurd (omega arith)
chunk g (h ∷ hi) lo t [] same wide whole = absurd (omega arith)
chunk g (h ∷ hi) lo [] (b ∷ m) same wide whole = absurd (omega arith)
chunk g (h ∷ hi) lo (u ∷ t) (b ∷ m) same wide whole =
    let one : List Bool = false ∷ [] in
    let taken : List Bool = times_bit (differ u (differ h b)) g in
    let next : List Bool = xor (t ++ one) taken in
    let moved : length (t ++ one) ≡ length taken = length-append t one ∙ omega (arith, length-times_bit (differ u (differ h b)) g) in
    let next_wide : length next ≡ length g = length-xor (t ++ one) taken moved ∙ length-times_bit (differ u (differ h b)) g in
    let next_whole : length hi + length (lo ++ one) ≡ length g = omega (arith, length-append lo one) in
    ap (λ (xs : List Bool). after g xs m) (joined hi lo t g h b u (omega arith))
    ∙ chunk g hi (lo ++ one) next m (omega arith) next_wide next_whole
    ∙ ap (λ (xs : List Bool). xor xs (after g next (xor hi m))) (sym (zeros_after lo (length m)))

pub length-after : (g s m : List Bool) → length s ≡ length g → length (after g s m) ≡ length g
length-after g s [] same = same
length-after g s (b ∷ m) same = length-after g (register_stepped g s b) m (length-stepped g s b same)

-- a number written by as many bits as the register has
pub number_of_register : (w entry : ℕ) (g start m : List Bool) → length g ≡ w → length start ≡ w → entry ≡ number_of_bits (after g start m) →
    (entry < 2 ^ w) × (bits w entry ≡ after g start m)
number_of_register w entry g start m wide from is =
    let s : List Bool = after g start m in
    let long : length s ≡ w = length-after g start m (from ∙ sym wide) ∙ wide in (
      rw is (rw long at (number_of-lt s)),
      ap (bits w) is ∙ ap (λ (n : ℕ). bits n (number_of_bits s)) (sym long) ∙ bits-number_of s,
    )

pub of_register : (w entry : ℕ) (g m : List Bool) → length g ≡ w → entry ≡ number_of_bits (after g (zeros w) m) →
    (entry < 2 ^ w) × (bits w entry ≡ after g (zeros w) m)
of_register w entry g m wide is = number_of_register w entry g (zeros w) m wide (length-zeros w) is

frame_entry_is : (i : ℕ) → i < 256 → get_or frame_entries i 0 ≡ number_of_bits (after frame_generator (zeros 24) (bits 8 i))
unfolding frame_entries
frame_entry_is i below =
    get_or-map-range_with_len (λ (j : ℕ). number_of_bits (after frame_generator (zeros 24) (bits 8 j))) 0 256 i i 0 below (omega arith)

-- the entries of the frame CRC's table
pub frame_entered : (index entry : ℕ) → index < 256 → entry ≡ get_or frame_entries index 0 →
    (entry < 2 ^ 24) × (bits 24 entry ≡ after frame_generator (zeros 24) (bits 8 index))
frame_entered index entry below is =
    of_register 24 entry frame_generator (bits 8 index) (length-bits 24 0x5D6DCB) (is ∙ frame_entry_is index below)

-- what the register holds after a message from zeros on is a remainder
pub from_zeros : (w terms entry : ℕ) (m : List Bool) → 0 < w → bits w entry ≡ after (bits w terms) (zeros w) m → IsCrc (bits w terms) (zeros w) m (bits w entry)
from_zeros w terms entry m some is =
    let wide : 0 < length (bits w terms) = rw (length-bits w terms) some in
    let P : List Bool → Type 0 = λ (xs : List Bool). IsCrc (bits w terms) (zeros w) m xs in
    subst P (sym is) (divides (bits w terms) (zeros w) m wide (length-zeros w ∙ sym (length-bits w terms)))

pub bits-split : (j k n : ℕ) → bits (j + k) n ≡ bits j (n / 2 ^ k) ++ bits k n
bits-split zero k n =
    let none : 0 + k ≡ k = omega arith in
    ap (λ (w : ℕ). bits w n) none ∙ sym (ap (λ (xs : List Bool). xs ++ bits k n) (bits_none (n / 2 ^ k)))
bits-split (suc j) k n =
    let moved : n / 2 ^ k / 2 ^ j ≡ n / 2 ^ (k + j) = shr-shr n k j in
    let turned : k + j ≡ j + k = omega arith in
    let bit : bit_at (n / 2 ^ k) j ≡ bit_at n (j + k) = ap (λ (x : ℕ). x % 2) moved ∙ ap (bit_at n) turned in
    let more : suc j + k ≡ suc (j + k) = omega arith in
    ap (λ (w : ℕ). bits w n) more
    ∙ bits_first (j + k) n
    ∙ ap (λ (x : ℕ). (x == 1) ∷ bits (j + k) n) (sym bit)
    ∙ ap (λ (xs : List Bool). (bit_at (n / 2 ^ k) j == 1) ∷ xs) (bits-split j k n)
    ∙ sym (ap (λ (xs : List Bool). xs ++ bits k n) (bits_first j (n / 2 ^ k)))

pub bits_of_zero : (k : ℕ) → bits k 0 ≡ zeros k
bits_of_zero zero = bits_none 0
bits_of_zero (suc k) = rw (bits_first k 0, bits_of_zero k, bit_at-zero k)

-- a number moved to the left
bits-shifted : (k l n : ℕ) → bits (k + l) (n % 2 ^ l * 2 ^ k) ≡ bits l n ++ zeros k
bits-shifted k l n =
    let x : ℕ = n % 2 ^ l in
    let turned : k + l ≡ l + k = omega arith in
    let none : x * 2 ^ k ≡ x * 2 ^ k + 0 = omega arith in
    let low : bits k (x * 2 ^ k) ≡ bits k 0 =
    bits_same k (x * 2 ^ k) 0 (λ i below. ap (λ (m : ℕ). bit_at m i) none ∙ bit_at_cat_low x k 0 i below) in
    ap (λ (w : ℕ). bits w (x * 2 ^ k)) turned
    ∙ bits-split l k (x * 2 ^ k)
    ∙ ap (λ (m : ℕ). bits l m ++ bits k (x * 2 ^ k)) (shl-shr x k)
    ∙ ap (λ (xs : List Bool). xs ++ bits k (x * 2 ^ k)) (bits-mod l n)
    ∙ ap (λ (xs : List Bool). bits l n ++ xs) (low ∙ bits_of_zero k)

-- the register after k bits by an entry of the table
pub bits-entered : (k l terms r m entry : ℕ) →
    bits (k + l) entry ≡ after (bits (k + l) terms) (zeros (k + l)) (bits k (bit_xor (r / 2 ^ l) m)) →
    bits (k + l) (bit_xor (r % 2 ^ l * 2 ^ k) entry) ≡ after (bits (k + l) terms) (bits (k + l) r) (bits k m)
bits-entered k l terms r m entry holds =
    let g : List Bool = bits (k + l) terms in
    let hi : List Bool = bits k (r / 2 ^ l) in
    let lo : List Bool = bits l r in
    let none : List Bool = zeros (k + l) in
    let long : length (hi ++ lo) ≡ k + l = ap length (sym (bits-split k l r)) ∙ length-bits (k + l) r in
    let front : bits (k + l) r ≡ xor (hi ++ lo) none = bits-split k l r ∙ sym (xor_comm (hi ++ lo) none ∙ xor-zeros (k + l) (hi ++ lo) long) in
    let hi_long : length hi ≡ length (bits k m) = length-bits k (r / 2 ^ l) ∙ sym (length-bits k m) in
    let none_long : length none ≡ length g = length-zeros (k + l) ∙ sym (length-bits (k + l) terms) in
    let whole : length hi + length lo ≡ length g = omega (arith, length-bits k (r / 2 ^ l), length-bits l r, length-bits (k + l) terms) in
    bits-xor (k + l) (r % 2 ^ l * 2 ^ k) entry
    ∙ ap (λ (xs : List Bool). xor xs (bits (k + l) entry)) (bits-shifted k l r)
    ∙ ap (xor (lo ++ zeros k)) (holds ∙ ap (after g none) (bits-xor k (r / 2 ^ l) m))
    ∙ ap (λ (n : ℕ). xor (lo ++ zeros n) (after g none (xor hi (bits k m)))) (sym (length-bits k m))
    ∙ sym (chunk g hi lo none (bits k m) hi_long none_long whole)
    ∙ ap (λ (xs : List Bool). after g xs (bits k m)) (sym front)

-- the register of the frame CRC after one more byte
kept_places : (r : ℕ) → bit_and r 65535 * 256 % 4294967296 ≡ r % 2 ^ 16 * 2 ^ 8
kept_places r =
    let mask : bit_and r 65535 ≡ r % 65536 = and_mask r 16 in
    omega (arith, mask)

pub byte-lt : (r entry : ℕ) → entry < 2 ^ 24 → bit_xor (bit_and r 65535 * 256 % 4294967296) entry < 2 ^ 24
byte-lt r entry fits = xor_lt 24 (bit_and r 65535 * 256 % 4294967296) entry (omega (arith, kept_places r)) fits

pub bits-byte : (r byte entry : ℕ) → bits 24 entry ≡ after frame_generator (zeros 24) (bits 8 (bit_xor (r / 65536) byte)) →
    bits 24 (bit_xor (bit_and r 65535 * 256 % 4294967296) entry) ≡ after frame_generator (bits 24 r) (bits 8 byte)
bits-byte r byte entry holds =
    ap (λ (x : ℕ). bits 24 (bit_xor x entry)) (kept_places r) ∙ bits-entered 8 16 0x5D6DCB r byte entry holds

-- the covered bits as a number
pub bits-covered : (sync startup : Bool) (s t id words : ℕ) → s < 2 → t < 2 → (s == 1) ≡ sync → (t == 1) ≡ startup → id < 2048 → words < 128 →
    bits 20 (((s * 2 + t) * 2048 + id) * 128 + words) ≡ sync ∷ startup ∷ (bits 11 id ++ bits 7 words)
bits-covered sync startup s t id words s_bit t_bit s_is t_is id_fits words_fits =
    let high : ℕ = (s * 2 + t) * 2048 + id in
    let front : (high * 128 + words) / 128 ≡ high = omega (arith, words_fits) in
    let low : (high * 128 + words) % 128 ≡ words = omega (arith, words_fits) in
    let rest : bits 7 (high * 128 + words) ≡ bits 7 words = sym (bits-mod 7 (high * 128 + words)) ∙ ap (bits 7) low in
    let first : bit_at high 12 ≡ s = omega (arith, s_bit, t_bit, id_fits) in
    let second : bit_at high 11 ≡ t = omega (arith, s_bit, t_bit, id_fits) in
    let below : high % 2048 ≡ id = omega (arith, id_fits) in
    let inner : bits 11 high ≡ bits 11 id = sym (bits-mod 11 high) ∙ ap (bits 11) below in
    bits-split 13 7 (high * 128 + words)
    ∙ ap (λ (x : ℕ). bits 13 x ++ bits 7 (high * 128 + words)) front
    ∙ ap (λ (xs : List Bool). bits 13 high ++ xs) rest
    ∙ ap (λ (xs : List Bool). xs ++ bits 7 words)
    (bits_first 12 high ∙ ap (λ (x : ℕ). (x == 1) ∷ bits 12 high) first
    ∙ ap (λ (xs : List Bool). (s == 1) ∷ xs) (bits_first 11 high ∙ ap (λ (x : ℕ). (x == 1) ∷ bits 11 high) second ∙ ap (λ (xs : List Bool). (t == 1) ∷ xs) inner))
    ∙ ap (λ (b : Bool). b ∷ (t == 1) ∷ (bits 11 id ++ bits 7 words)) s_is
    ∙ ap (λ (b : Bool). sync ∷ b ∷ (bits 11 id ++ bits 7 words)) t_is

bit_of : (b : Bool) → (bool_byte b < 2) × ((bool_byte b == 1) ≡ b)
bit_of false = (lit< tt, refl)
bit_of true = (lit< tt, refl)

pub covered_is : (sync startup : Bool) (s t i w id words : ℕ) → s ≡ bool_byte sync → t ≡ bool_byte startup → i ≡ id → w ≡ words → id ≤ 2047 → words ≤ 127 →
    bits 20 (((s * 2 + t) * 2048 + i) * 128 + w) ≡ sync ∷ startup ∷ (bits 11 id ++ bits 7 words)
covered_is sync startup s t i w id words s_is t_is i_is w_is id_fits words_fits =
    let first = bit_of sync in
    let second = bit_of startup in
    rw (s_is, t_is, i_is, w_is)
    (bits-covered sync startup (bool_byte sync) (bool_byte startup) id words first.0 second.0 first.1 second.1 (omega (arith, id_fits)) (omega (arith, words_fits)))
