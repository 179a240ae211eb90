-- The numbers in the bytes of a header and of a trailer.
use Rattle.std.proofs.Common.{◌≡◌, ℕ, ◌+◌, ◌*◌, ◌/◌, ◌%◌, ◌^◌, ◌<◌, ◌≤◌, zero, suc, Bool, true, false, not, nat_eq, List, [], ◌∷◌, length, get_or, bit_and, bit_or, refl, ◌∙◌, lit<, arith}
use Rattle.std.proofs.lemmas.Nat.{and_mask, or_shifted, pow_pos}
use Rattle.std.proofs.lemmas.Nat.Bits.{and_pow, bit_at-lt}
use Rattle.std.proofs.lemmas.Bool.{ne_eqb}
use Rattle.std.specs.Int.{bit_at}
use Rattle.fr_frame.specs.declared.header.Header.{Header}
use Rattle.fr_frame.specs.Frame.{bit, header_bytes, trailer_bytes}

nat_eq-zero : (n : ℕ) → 0 < n → nat_eq n 0 ≡ false
nat_eq-zero n some = ne_eqb n 0 (λ (e : n ≡ 0). omega arith)

flag_of : (m p : ℕ) → m < 2 → 0 < p → bit (not (nat_eq (m * p) 0)) ≡ m
flag_of zero p small some = let e : 0 * p ≡ 0 = omega arith in rw e
flag_of (suc zero) p small some = let e : nat_eq (1 * p) 0 ≡ false = nat_eq-zero (1 * p) (omega arith) in rw e
flag_of (suc (suc m)) p small some = absurd (omega arith)

-- an indicator in a byte
flag : (n k : ℕ) → bit (not (nat_eq (bit_and n (2 ^ k)) 0)) ≡ n / 2 ^ k % 2
flag n k = rw (and_pow n k) (flag_of (bit_at n k) (2 ^ k) (bit_at-lt n k) (pow_pos k))

-- a list of five, and one of three
pub five : (xs : List ℕ) → length xs ≡ 5 → xs ≡ get_or xs 0 0 ∷ get_or xs 1 0 ∷ get_or xs 2 0 ∷ get_or xs 3 0 ∷ get_or xs 4 0 ∷ []
five [] long = absurd (omega arith)
five (a ∷ []) long = absurd (omega arith)
five (a ∷ b ∷ []) long = absurd (omega arith)
five (a ∷ b ∷ c ∷ []) long = absurd (omega arith)
five (a ∷ b ∷ c ∷ d ∷ []) long = absurd (omega arith)
five (a ∷ b ∷ c ∷ d ∷ e ∷ []) long = refl
five (a ∷ b ∷ c ∷ d ∷ e ∷ f ∷ xs) long = absurd (omega arith)

pub three : (xs : List ℕ) → length xs ≡ 3 → xs ≡ get_or xs 0 0 ∷ get_or xs 1 0 ∷ get_or xs 2 0 ∷ []
three [] long = absurd (omega arith)
three (a ∷ []) long = absurd (omega arith)
three (a ∷ b ∷ []) long = absurd (omega arith)
three (a ∷ b ∷ c ∷ []) long = refl
three (a ∷ b ∷ c ∷ d ∷ xs) long = absurd (omega arith)

id_is : (b0 b1 : ℕ) → b1 < 256 → bit_or (bit_and b0 7 * 256 % 65536) b1 ≡ b0 % 8 * 256 + b1
id_is b0 b1 small =
    let low : bit_and b0 7 ≡ b0 % 8 = and_mask b0 3 in
    let whole : b0 % 8 * 256 % 65536 ≡ b0 % 8 * 256 = omega arith in
    rw (low, whole) (or_shifted (b0 % 8) 8 b1 small)

kept_is : (b2 b3 b4 : ℕ) → b3 < 256 → b4 < 256 → bit_or (bit_or (bit_and b2 1 * 1024 % 65536) (b3 * 4 % 65536)) (b4 / 64) ≡ b2 % 2 * 1024 + b3 * 4 + b4 / 64
kept_is b2 b3 b4 small below =
    let low : bit_and b2 1 ≡ b2 % 2 = and_mask b2 1 in
    let high : b2 % 2 * 1024 % 65536 ≡ b2 % 2 * 1024 = omega arith in
    let middle : b3 * 4 % 65536 ≡ b3 * 4 = omega arith in
    let two : bit_or (b2 % 2 * 1024) (b3 * 4) ≡ b2 % 2 * 1024 + b3 * 4 = or_shifted (b2 % 2) 10 (b3 * 4) (omega arith) in
    let turned : b2 % 2 * 1024 + b3 * 4 ≡ (b2 % 2 * 256 + b3) * 4 = omega arith in
    rw (low, high, middle, two, turned) (or_shifted (b2 % 2 * 256 + b3) 2 (b4 / 64) (omega arith))

trailer_is : (b0 b1 b2 : ℕ) → b0 < 256 → b1 < 256 → b2 < 256 → bit_or (bit_or (b0 * 65536 % 4294967296) (b1 * 256 % 4294967296)) b2 ≡ b0 * 65536 + b1 * 256 + b2
trailer_is b0 b1 b2 first second third =
    let high : b0 * 65536 % 4294967296 ≡ b0 * 65536 = omega arith in
    let middle : b1 * 256 % 4294967296 ≡ b1 * 256 = omega arith in
    let two : bit_or (b0 * 65536) (b1 * 256) ≡ b0 * 65536 + b1 * 256 = or_shifted b0 16 (b1 * 256) (omega arith) in
    let turned : b0 * 65536 + b1 * 256 ≡ (b0 * 256 + b1) * 256 = omega arith in
    rw (high, middle, two, turned) (or_shifted (b0 * 256 + b1) 8 b2 third)

-- the header that five bytes hold
abbrev pub header_in : ℕ → ℕ → ℕ → ℕ → Header
header_in b0 b1 b2 b4 = record {
  reserved = not (nat_eq (bit_and b0 128) 0);
  preamble = not (nat_eq (bit_and b0 64) 0);
  null_bit = not (nat_eq (bit_and b0 32) 0);
  sync = not (nat_eq (bit_and b0 16) 0);
  startup = not (nat_eq (bit_and b0 8) 0);
  id = bit_or (bit_and b0 7 * 256 % 65536) b1;
  words = b2 / 2;
  cycle = bit_and b4 63;
}

-- and the CRC that they keep
abbrev pub kept_in : ℕ → ℕ → ℕ → ℕ
kept_in b2 b3 b4 = bit_or (bit_or (bit_and b2 1 * 1024 % 65536) (b3 * 4 % 65536)) (b4 / 64)

pub kept-lt : (b2 b3 b4 : ℕ) → b3 < 256 → b4 < 256 → kept_in b2 b3 b4 < 2048
kept-lt b2 b3 b4 small below = rw (kept_is b2 b3 b4 small below) (omega arith)

-- five bytes are the spelling of what they hold
spelled : (b0 b1 b2 b3 b4 : ℕ) → b0 < 256 → b1 < 256 → b2 < 256 → b3 < 256 → b4 < 256 →
    b0 ∷ b1 ∷ b2 ∷ b3 ∷ b4 ∷ [] ≡ header_bytes (header_in b0 b1 b2 b4) (kept_in b2 b3 b4)
spelled b0 b1 b2 b3 b4 s0 s1 s2 s3 s4 =
    let h : Header = header_in b0 b1 b2 b4 in
    let id : h.id ≡ b0 % 8 * 256 + b1 = id_is b0 b1 s1 in
    let kept : kept_in b2 b3 b4 ≡ b2 % 2 * 1024 + b3 * 4 + b4 / 64 = kept_is b2 b3 b4 s3 s4 in
    let cycle : h.cycle ≡ b4 % 64 = and_mask b4 6 in
    let f7 : bit h.reserved ≡ b0 / 128 % 2 = flag b0 7 in
    let f6 : bit h.preamble ≡ b0 / 64 % 2 = flag b0 6 in
    let f5 : bit h.null_bit ≡ b0 / 32 % 2 = flag b0 5 in
    let f4 : bit h.sync ≡ b0 / 16 % 2 = flag b0 4 in
    let f3 : bit h.startup ≡ b0 / 8 % 2 = flag b0 3 in
    let e0 : b0 ≡ 128 * bit h.reserved + 64 * bit h.preamble + 32 * bit h.null_bit + 16 * bit h.sync + 8 * bit h.startup + h.id / 256 = rw (f7, f6, f5, f4, f3, id) (omega arith) in
    let e1 : b1 ≡ h.id % 256 = rw id (omega arith) in
    let e2 : b2 ≡ 2 * h.words + kept_in b2 b3 b4 / 1024 = rw kept (omega arith) in
    let e3 : b3 ≡ kept_in b2 b3 b4 / 4 % 256 = rw kept (omega arith) in
    let e4 : b4 ≡ 64 * (kept_in b2 b3 b4 % 4) + h.cycle = rw (kept, cycle) (omega arith) in
    cc

pub header_spelled : (front : List ℕ) → length front ≡ 5 → ((k : ℕ) → get_or front k 0 < 256) →
    front ≡ header_bytes (header_in (get_or front 0 0) (get_or front 1 0) (get_or front 2 0) (get_or front 4 0)) (kept_in (get_or front 2 0) (get_or front 3 0) (get_or front 4 0))
header_spelled front long small = five front long ∙ spelled (get_or front 0 0) (get_or front 1 0) (get_or front 2 0) (get_or front 3 0) (get_or front 4 0) (small 0) (small 1) (small 2) (small 3) (small 4)

-- the frame CRC that three bytes keep
abbrev pub trailer_in : ℕ → ℕ → ℕ → ℕ
trailer_in b0 b1 b2 = bit_or (bit_or (b0 * 65536 % 4294967296) (b1 * 256 % 4294967296)) b2

pub trailer-lt : (b0 b1 b2 : ℕ) → b0 < 256 → b1 < 256 → b2 < 256 → trailer_in b0 b1 b2 < 16777216
trailer-lt b0 b1 b2 first second third = rw (trailer_is b0 b1 b2 first second third) (omega arith)

pub trailer_spelled : (back : List ℕ) → length back ≡ 3 → ((k : ℕ) → get_or back k 0 < 256) →
    back ≡ trailer_bytes (trailer_in (get_or back 0 0) (get_or back 1 0) (get_or back 2 0))
trailer_spelled back long small =
    let b0 : ℕ = get_or back 0 0 in
    let b1 : ℕ = get_or back 1 0 in
    let b2 : ℕ = get_or back 2 0 in
    let crc : trailer_in b0 b1 b2 ≡ b0 * 65536 + b1 * 256 + b2 = trailer_is b0 b1 b2 (small 0) (small 1) (small 2) in
    let s1 : b1 < 256 = small 1 in
    let s2 : b2 < 256 = small 2 in
    let e0 : b0 ≡ trailer_in b0 b1 b2 / 65536 = rw crc (omega arith) in
    let e1 : b1 ≡ trailer_in b0 b1 b2 / 256 % 256 = rw crc (omega arith) in
    let e2 : b2 ≡ trailer_in b0 b1 b2 % 256 = rw crc (omega arith) in
    let list : b0 ∷ b1 ∷ b2 ∷ [] ≡ trailer_bytes (trailer_in b0 b1 b2) = cc in
    three back long ∙ list

-- ---- a header and its CRC are told by their bytes
same_indicator : (a b : Bool) → bit a ≡ bit b → a ≡ b
same_indicator false false same = refl
same_indicator false true same = absurd (omega arith)
same_indicator true false same = absurd (omega arith)
same_indicator true true same = refl

pub bit-lt : (a : Bool) → bit a < 2
bit-lt false = lit< tt
bit-lt true = lit< tt

-- the sum of five indicators and three bits more
indicators : (a b c d e i p q r s t j : ℕ) → a < 2 → b < 2 → c < 2 → d < 2 → e < 2 → i < 8 → p < 2 → q < 2 → r < 2 → s < 2 → t < 2 → j < 8 →
    128 * a + 64 * b + 32 * c + 16 * d + 8 * e + i ≡ 128 * p + 64 * q + 32 * r + 16 * s + 8 * t + j →
    (a ≡ p) × (b ≡ q) × (c ≡ r) × (d ≡ s) × (e ≡ t) × (i ≡ j)
indicators a b c d e i p q r s t j a2 b2 c2 d2 e2 i8 p2 q2 r2 s2 t2 j8 same = (omega arith, omega arith, omega arith, omega arith, omega arith, omega arith)

abbrev made : Bool → Bool → Bool → Bool → Bool → ℕ → ℕ → ℕ → Header
made a b c d e id words cycle = record { reserved = a; preamble = b; null_bit = c; sync = d; startup = e; id = id; words = words; cycle = cycle }

-- headers with the same fields
same_header : (h g : Header) → bit h.reserved ≡ bit g.reserved → bit h.preamble ≡ bit g.preamble → bit h.null_bit ≡ bit g.null_bit → bit h.sync ≡ bit g.sync → bit h.startup ≡ bit g.startup →
    h.id ≡ g.id → h.words ≡ g.words → h.cycle ≡ g.cycle → h ≡ g
same_header h g a b c d e id words cycle =
    let ea : h.reserved ≡ g.reserved = same_indicator h.reserved g.reserved a in
    let eb : h.preamble ≡ g.preamble = same_indicator h.preamble g.preamble b in
    let ec : h.null_bit ≡ g.null_bit = same_indicator h.null_bit g.null_bit c in
    let ed : h.sync ≡ g.sync = same_indicator h.sync g.sync d in
    let ee : h.startup ≡ g.startup = same_indicator h.startup g.startup e in
    let whole : made h.reserved h.preamble h.null_bit h.sync h.startup h.id h.words h.cycle ≡ made g.reserved g.preamble g.null_bit g.sync g.startup g.id g.words g.cycle = cc in
    whole

pub header_is_told : (h g : Header) (a b : ℕ) → h.id ≤ 2047 → g.id ≤ 2047 → h.cycle ≤ 63 → g.cycle ≤ 63 → a < 2048 → b < 2048 →
    header_bytes h a ≡ header_bytes g b → (h ≡ g) × (a ≡ b)
header_is_told h g a b h_id g_id h_cycle g_cycle a_fits b_fits same =
    let e0 : 128 * bit h.reserved + 64 * bit h.preamble + 32 * bit h.null_bit + 16 * bit h.sync + 8 * bit h.startup + h.id / 256 ≡ 128 * bit g.reserved + 64 * bit g.preamble + 32 * bit g.null_bit + 16 * bit g.sync + 8 * bit g.startup + g.id / 256 = cc in
    let e1 : h.id % 256 ≡ g.id % 256 = cc in
    let e2 : 2 * h.words + a / 1024 ≡ 2 * g.words + b / 1024 = cc in
    let e3 : a / 4 % 256 ≡ b / 4 % 256 = cc in
    let e4 : 64 * (a % 4) + h.cycle ≡ 64 * (b % 4) + g.cycle = cc in
    let flags : (bit h.reserved ≡ bit g.reserved) × (bit h.preamble ≡ bit g.preamble) × (bit h.null_bit ≡ bit g.null_bit) × (bit h.sync ≡ bit g.sync) × (bit h.startup ≡ bit g.startup) × (h.id / 256 ≡ g.id / 256) =
    indicators (bit h.reserved) (bit h.preamble) (bit h.null_bit) (bit h.sync) (bit h.startup) (h.id / 256) (bit g.reserved) (bit g.preamble) (bit g.null_bit) (bit g.sync) (bit g.startup) (g.id / 256)
    (bit-lt h.reserved) (bit-lt h.preamble) (bit-lt h.null_bit) (bit-lt h.sync) (bit-lt h.startup) (omega arith) (bit-lt g.reserved) (bit-lt g.preamble) (bit-lt g.null_bit) (bit-lt g.sync) (bit-lt g.startup) (omega arith) e0 in
    let id : h.id ≡ g.id = omega (arith, e1, flags.5) in
    let words : h.words ≡ g.words = omega (arith, e2) in
    let cycle : h.cycle ≡ g.cycle = omega (arith, e4) in
    let kept : a ≡ b = omega (arith, e2, e3, e4) in
    (same_header h g flags.0 flags.1 flags.2 flags.3 flags.4 id words cycle, kept)

pub trailer_is_told : (a b : ℕ) → trailer_bytes a ≡ trailer_bytes b → a ≡ b
trailer_is_told a b same =
    let e0 : a / 65536 ≡ b / 65536 = cc in
    let e1 : a / 256 % 256 ≡ b / 256 % 256 = cc in
    let e2 : a % 256 ≡ b % 256 = cc in
    omega (arith, e0, e1, e2)
