-- The bits of a number, and the register as a number.
use Rattle.std.proofs.Common.{◌≡◌, ℕ, ◌+◌, ◌-◌, ◌*◌, ◌/◌, ◌%◌, ◌^◌, ◌<◌, ◌≤◌, zero, suc, Bool, true, false, not, List, [], ◌∷◌, ◌++◌, length, ◌==◌, bit_and, refl, ap, sym, ◌∙◌, arith, length-append, below_more}
use Rattle.std.specs.Int.{bit_at}
use Rattle.std.specs.Prelude.{bit_xor}
use Rattle.std.proofs.lemmas.Nat.{shr_split, and_mask, one_shl, xor_lt, shl_whole, mod_below, pow_pos}
use Rattle.std.proofs.lemmas.Nat.Bits.{bit_at_lowest, bit_at-suc, bit_at-lt, bit_at_xor, bit_at_cat_low, shr_and_one, same_from_bits_below}
use mathlib.Core.Bool.{beq}
use Rattle.fr_crc.specs.Bits.{bits, differ, xor, zeros}
use Rattle.fr_crc.proofs.Sums.{xor_comm, xor-zeros}
use Rattle.fr_crc.specs.Register.{register_stepped}

pub bits_first : (k n : ℕ) → bits (suc k) n ≡ (bit_at n k == 1) ∷ bits k n
unfolding bits
bits_first k n = refl

pub bits_none : (n : ℕ) → bits 0 n ≡ []
unfolding bits
bits_none n = refl

pub length-bits : (k n : ℕ) → length (bits k n) ≡ k
length-bits zero n = rw (bits_none n)
length-bits (suc k) n = rw (bits_first k n, length-bits k n)

-- numbers with the same bits
pub bits_same : (k a b : ℕ) → ((i : ℕ) → i < k → bit_at a i ≡ bit_at b i) → bits k a ≡ bits k b
bits_same zero a b same = rw (bits_none a, bits_none b)
bits_same (suc k) a b same =
    rw (bits_first k a, bits_first k b, same k (omega arith), bits_same k a b (λ i below. same i (omega arith)))

pub bits-mod : (k n : ℕ) → bits k (n % 2 ^ k) ≡ bits k n
bits-mod k n = bits_same k (n % 2 ^ k) n (λ i below.
    sym (bit_at_cat_low (n / 2 ^ k) k (n % 2 ^ k) i below) ∙ ap (λ (m : ℕ). bit_at m i) (shr_split n k))

pub bits-double : (k n : ℕ) → bits (suc k) (n * 2) ≡ bits k n ++ false ∷ []
bits-double zero n =
    let low : bit_at (n * 2) 0 ≡ 0 = bit_at_lowest (n * 2) ∙ omega arith in
    rw (bits_first 0 (n * 2), bits_none (n * 2), bits_none n, low)
bits-double (suc k) n =
    let half : n * 2 / 2 ≡ n = omega arith in
    let top : bit_at (n * 2) (suc k) ≡ bit_at n k = bit_at-suc (n * 2) k ∙ ap (λ (m : ℕ). bit_at m k) half in
    rw (bits_first (suc k) (n * 2), bits_first k n, top, bits-double k n)

-- the sum of two bits
bit_sum : (x y : ℕ) → x < 2 → y < 2 → ((x + y) % 2 == 1) ≡ differ (x == 1) (y == 1)
bit_sum zero zero p q = refl
bit_sum zero (suc zero) p q = refl
bit_sum zero (suc (suc y)) p q = absurd (omega arith)
bit_sum (suc zero) zero p q = refl
bit_sum (suc zero) (suc zero) p q = refl
bit_sum (suc zero) (suc (suc y)) p q = absurd (omega arith)
bit_sum (suc (suc x)) y p q = absurd (omega arith)

pub bits-xor : (k a b : ℕ) → bits k (bit_xor a b) ≡ xor (bits k a) (bits k b)
bits-xor zero a b = rw (bits_none (bit_xor a b), bits_none a)
bits-xor (suc k) a b =
    rw (bits_first k (bit_xor a b), bits_first k a, bits_first k b, bit_at_xor a b k, bit_sum (bit_at a k) (bit_at b k) (bit_at-lt a k) (bit_at-lt b k), bits-xor k a b)

-- a bit is told by its test
same_bit : (x y : ℕ) → x < 2 → y < 2 → (x == 1) ≡ (y == 1) → x ≡ y
same_bit zero zero p q same = refl
same_bit zero (suc zero) p q same = cc
same_bit zero (suc (suc y)) p q same = absurd (omega arith)
same_bit (suc zero) zero p q same = cc
same_bit (suc zero) (suc zero) p q same = refl
same_bit (suc zero) (suc (suc y)) p q same = absurd (omega arith)
same_bit (suc (suc x)) y p q same = absurd (omega arith)

-- the bits of a number are told by their list
bits_told : (k a b : ℕ) → bits k a ≡ bits k b → (i : ℕ) → i < k → bit_at a i ≡ bit_at b i
bits_told zero a b same i below = absurd (omega arith)
bits_told (suc k) a b same i below =
    let whole : (bit_at a k == 1) ∷ bits k a ≡ (bit_at b k == 1) ∷ bits k b = sym (bits_first k a) ∙ same ∙ bits_first k b in
    let first : (bit_at a k == 1) ≡ (bit_at b k == 1) = cc in
    let rest : bits k a ≡ bits k b = cc in
    let P : ℕ → Type 0 = λ j. bit_at a j ≡ bit_at b j in
    below_more P k (bits_told k a b rest) (same_bit (bit_at a k) (bit_at b k) (bit_at-lt a k) (bit_at-lt b k) first) i (omega arith)

-- a number of k bits is told by its bits
pub number_from_bits : (k a b : ℕ) → a < 2 ^ k → b < 2 ^ k → bits k a ≡ bits k b → a ≡ b
number_from_bits k a b small below same = same_from_bits_below k a b small below (bits_told k a b same)

differ-not_beq : (a b : Bool) → not (beq a b) ≡ differ a b
differ-not_beq false false = refl
differ-not_beq false true = refl
differ-not_beq true false = refl
differ-not_beq true true = refl

mask : (w n : ℕ) → w ≤ 31 → bit_and n (1 * 2 ^ w % 4294967296 - 1) ≡ n % 2 ^ w
mask w n room =
    let one : 1 * 2 ^ w % 2 ^ 32 ≡ 2 ^ w = one_shl w 32 (omega arith) in
    rw one (and_mask n w)

-- the register moved by one place fits
pub moved-lt : (w n : ℕ) → w ≤ 31 → bit_and n (1 * 2 ^ w % 4294967296 - 1) < 2 ^ w
moved-lt w n room = rw (mask w n room) (mod_below n (2 ^ w) (pow_pos w))

pub taken-lt : (w n terms : ℕ) → w ≤ 31 → terms < 2 ^ w → bit_xor (bit_and n (1 * 2 ^ w % 4294967296 - 1)) terms < 2 ^ w
taken-lt w n terms room fits = xor_lt w (bit_and n (1 * 2 ^ w % 4294967296 - 1)) terms (moved-lt w n room) fits

-- the bits of the register moved by one place
bits-moved : (k n : ℕ) → suc k ≤ 31 → n < 2 ^ suc k → bits (suc k) (bit_and (n * 2 % 4294967296) (1 * 2 ^ suc k % 4294967296 - 1)) ≡ bits k n ++ false ∷ []
bits-moved k n room fits =
    let whole : n * 2 % 4294967296 ≡ n * 2 = shl_whole n (suc k) 1 32 fits (omega arith) in
    rw (mask (suc k) (n * 2 % 4294967296) room, whole, bits-mod (suc k) (n * 2)) (bits-double k n)

-- the next register, where the generator is added and where it is not
pub bits-taken : (w terms n : ℕ) (bit : Bool) → 1 ≤ w → w ≤ 31 → n < 2 ^ w → not (beq (bit_and (n / 2 ^ (w - 1)) 1 == 1) bit) ≡ true →
    bits w (bit_xor (bit_and (n * 2 % 4294967296) (1 * 2 ^ w % 4294967296 - 1)) terms) ≡ register_stepped (bits w terms) (bits w n) bit
bits-taken zero terms n bit some room fits top = absurd (omega arith)
bits-taken (suc k) terms n bit some room fits top =
    let e : suc k - 1 ≡ k = omega arith in
    let first : (bit_and (n / 2 ^ (suc k - 1)) 1 == 1) ≡ (bit_at n k == 1) = rw (e, shr_and_one n k) in
    let due : differ (bit_at n k == 1) bit ≡ true = sym (differ-not_beq (bit_at n k == 1) bit) ∙ rw first at top in
    rw (bits-xor, bits-moved k n room fits, bits_first k n, due)

pub bits-left : (w terms n : ℕ) (bit : Bool) → 1 ≤ w → w ≤ 31 → n < 2 ^ w → not (beq (bit_and (n / 2 ^ (w - 1)) 1 == 1) bit) ≡ false →
    bits w (bit_and (n * 2 % 4294967296) (1 * 2 ^ w % 4294967296 - 1)) ≡ register_stepped (bits w terms) (bits w n) bit
bits-left zero terms n bit some room fits top = absurd (omega arith)
bits-left (suc k) terms n bit some room fits top =
    let e : suc k - 1 ≡ k = omega arith in
    let first : (bit_and (n / 2 ^ (suc k - 1)) 1 == 1) ≡ (bit_at n k == 1) = rw (e, shr_and_one n k) in
    let due : differ (bit_at n k == 1) bit ≡ false = sym (differ-not_beq (bit_at n k == 1) bit) ∙ rw first at top in
    let moved : List Bool = bits k n ++ false ∷ [] in
    let long : length moved ≡ length (bits (suc k) terms) = rw (length-bits (suc k) terms) (simp (length-append, length-bits) (omega arith)) in
    rw (bits-moved k n room fits, bits_first k n, due, xor_comm moved (zeros (length (bits (suc k) terms))), xor-zeros (length (bits (suc k) terms)) moved long)
