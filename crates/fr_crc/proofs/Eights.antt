-- The register of the frame CRC after eight bytes at once: each byte's own share, by its entry of a table, and their sum.
use Rattle.std.proofs.Common.{◌≡◌, ℕ, ◌+◌, ◌/◌, ◌%◌, ◌^◌, ◌<◌, Bool, true, false, List, [], ◌∷◌, ◌++◌, length, take, drop, get_or, refl, ap, sym, ◌∙◌, arith, length-append}
use Rattle.std.specs.Prelude.{bit_xor}
use Rattle.std.proofs.lemmas.Nat.{xor_lt}
use Rattle.std.proofs.lemmas.List.{append_assoc, append-nil, drop-drop, take-append-drop}
use Rattle.std.proofs.lemmas.Grind.{flat_map-append}
use Rattle.std.proofs.lemmas.List.FromFn.{get_or-map-range_with_len}
use Rattle.fr_crc.specs.Bits.{bits, differ, xor, zeros, times_bit, message_of, number_of_bits}
use Rattle.fr_crc.specs.Crc.{frame_generator}
use Rattle.fr_crc.specs.Entries.{entries_before}
use Rattle.fr_crc.specs.Register.{register_stepped, after}
use Rattle.fr_crc.proofs.Sums.{differ-false, differ_self, differ_assoc, xor_comm, xor_assoc, xor-append, xor-zeros, length-xor, length-zeros, length-times_bit}
use Rattle.fr_crc.proofs.Division.{after-append, length-stepped}
use Rattle.fr_crc.proofs.Remainders.{bits-mod, bits-xor, length-bits}
use Rattle.fr_crc.proofs.Entering.{bits-split, chunk, length-after, of_register}

-- ---- the register after a message is the sum of what its start and the message alone lead to

xor_self : (xs : List Bool) → xor xs xs ≡ zeros (length xs)
xor_self [] = refl
xor_self (x ∷ xs) = rw (differ_self x, xor_self xs)

times_bit-differ : (a b : Bool) (g : List Bool) → times_bit (differ a b) g ≡ xor (times_bit a g) (times_bit b g)
times_bit-differ false b g = sym (xor-zeros (length g) (times_bit b g) (length-times_bit b g))
times_bit-differ true false g = sym (xor_comm g (zeros (length g)) ∙ xor-zeros (length g) g refl)
times_bit-differ true true g = sym (xor_self g)

crossed : (a b c d : List Bool) → xor (xor a b) (xor c d) ≡ xor (xor a c) (xor b d)
crossed a b c d =
    let inner : xor b (xor c d) ≡ xor c (xor b d) = sym (xor_assoc b c d) ∙ ap (λ (xs : List Bool). xor xs d) (xor_comm b c) ∙ xor_assoc c b d in
    xor_assoc a b (xor c d) ∙ ap (xor a) inner ∙ sym (xor_assoc a c (xor b d))

register_stepped-xor : (g s t : List Bool) (b : Bool) → length s ≡ length t → register_stepped g (xor s t) b ≡ xor (register_stepped g s false) (register_stepped g t b)
register_stepped-xor g [] [] b same = refl
register_stepped-xor g [] (y ∷ t) b same = absurd (omega arith)
register_stepped-xor g (x ∷ s) [] b same = absurd (omega arith)
register_stepped-xor g (x ∷ s) (y ∷ t) b same =
    let one : List Bool = false ∷ [] in
    let even : length s ≡ length t = omega arith in
    let bit : differ (differ x y) b ≡ differ (differ x false) (differ y b) = differ_assoc x y b ∙ ap (λ (v : Bool). differ v (differ y b)) (sym (differ-false x)) in
    ap (λ (v : Bool). xor (xor s t ++ one) (times_bit v g)) bit
    ∙ ap (xor (xor s t ++ one)) (times_bit-differ (differ x false) (differ y b) g)
    ∙ ap (λ (xs : List Bool). xor xs (xor (times_bit (differ x false) g) (times_bit (differ y b) g))) (sym (xor-append s t one one even))
    ∙ crossed (s ++ one) (t ++ one) (times_bit (differ x false) g) (times_bit (differ y b) g)

after-xor : (g s t m : List Bool) → length s ≡ length g → length t ≡ length g → after g (xor s t) m ≡ xor (after g s (zeros (length m))) (after g t m)
after-xor g s t [] first second = refl
after-xor g s t (b ∷ m) first second =
    ap (λ (xs : List Bool). after g xs m) (register_stepped-xor g s t b (first ∙ sym second))
    ∙ after-xor g (register_stepped g s false) (register_stepped g t b) m (length-stepped g s false first) (length-stepped g t b second)

-- the share of a front, behind which so many bits stand, and that of those bits
pub after-front_from : (w : ℕ) (g start front m : List Bool) (n : ℕ) → length g ≡ w → length start ≡ w → length m ≡ n →
    after g start (front ++ m) ≡ xor (after g start (front ++ zeros n)) (after g (zeros w) m)
after-front_from w g start front m n wide from long =
    let none : List Bool = zeros w in
    let none_long : length none ≡ length g = length-zeros w ∙ sym wide in
    let s : List Bool = after g start front in
    let s_long : length s ≡ length g = length-after g start front (from ∙ sym wide) in
    let whole : s ≡ xor s none = sym (xor_comm s none ∙ xor-zeros w s (s_long ∙ wide)) in
    after-append g start front m
    ∙ ap (λ (xs : List Bool). after g xs m) whole
    ∙ after-xor g s none m s_long none_long
    ∙ ap (λ (k : ℕ). xor (after g s (zeros k)) (after g none m)) long
    ∙ ap (λ (xs : List Bool). xor xs (after g none m)) (sym (after-append g start front (zeros n)))

after-front : (w : ℕ) (g front m : List Bool) (n : ℕ) → length g ≡ w → length m ≡ n →
    after g (zeros w) (front ++ m) ≡ xor (after g (zeros w) (front ++ zeros n)) (after g (zeros w) m)
after-front w g front m n wide long = after-front_from w g (zeros w) front m n wide (length-zeros w) long

-- ---- the tables

entry_before : (n i : ℕ) → i < 256 → get_or (entries_before n) i 0 ≡ number_of_bits (after frame_generator (zeros 24) (bits 8 i ++ zeros n))
unfolding entries_before
entry_before n i below =
    get_or-map-range_with_len (λ (j : ℕ). number_of_bits (after frame_generator (zeros 24) (bits 8 j ++ zeros n))) 0 256 i i 0 below (omega arith)

-- what stands for a byte before so many bits
pub entered_before : (n index entry : ℕ) → index < 256 → entry ≡ get_or (entries_before n) index 0 →
    (entry < 2 ^ 24) × (bits 24 entry ≡ after frame_generator (zeros 24) (bits 8 index ++ zeros n))
entered_before n index entry below is =
    of_register 24 entry frame_generator (bits 8 index ++ zeros n) (length-bits 24 0x5D6DCB) (is ∙ entry_before n index below)

-- ---- one byte in front of others

-- from zeros on, a message of so many bits leads to this register
pub record LeadsTo (n register : ℕ) (message : List Bool) : Type 0 where
  pub long : length message ≡ n
  pub fits : register < 2 ^ 24
  pub is : bits 24 register ≡ after frame_generator (zeros 24) message

pub last_byte : (index entry : ℕ) → entry < 2 ^ 24 → bits 24 entry ≡ after frame_generator (zeros 24) (bits 8 index) → LeadsTo 8 entry (bits 8 index ++ [])
last_byte index entry fits is = record {
  long = ap length (append-nil (bits 8 index)) ∙ length-bits 8 index;
  fits = fits;
  is = is ∙ ap (after frame_generator (zeros 24)) (sym (append-nil (bits 8 index)));
}

pub one_before : (n index entry rest : ℕ) (m : List Bool) → index < 256 → entry ≡ get_or (entries_before n) index 0 → LeadsTo n rest m → LeadsTo (8 + n) (bit_xor entry rest) (bits 8 index ++ m)
one_before n index entry rest m below is leads =
    let found : (entry < 2 ^ 24) × (bits 24 entry ≡ after frame_generator (zeros 24) (bits 8 index ++ zeros n)) = entered_before n index entry below is in
    record {
      long = length-append (bits 8 index) m ∙ ap (λ (k : ℕ). k + length m) (length-bits 8 index) ∙ ap (λ (k : ℕ). 8 + k) leads.long;
      fits = xor_lt 24 entry rest found.0 leads.fits;
      is = bits-xor 24 entry rest
          ∙ ap (λ (xs : List Bool). xor xs (bits 24 rest)) found.1
          ∙ ap (xor (after frame_generator (zeros 24) (bits 8 index ++ zeros n))) leads.is
          ∙ sym (after-front 24 frame_generator (bits 8 index) m n (length-bits 24 0x5D6DCB) leads.long);
    }

-- ---- the register stands before the first three bytes

-- bits of as many bits as the register has
after-wide : (w : ℕ) (g s m : List Bool) → length g ≡ w → length s ≡ w → length m ≡ w → after g s m ≡ after g (zeros w) (xor s m)
after-wide w g s m g_long s_long m_long =
    let none : List Bool = zeros w in
    let front : s ≡ xor (s ++ []) none = sym (xor_comm (s ++ []) none ∙ ap (xor none) (append-nil s) ∙ xor-zeros w s s_long) in
    let sum_long : length (xor s m) ≡ w = length-xor s m (s_long ∙ sym m_long) ∙ m_long in
    let last : length (after g none (xor s m)) ≡ length m = length-after g none (xor s m) (length-zeros w ∙ sym g_long) ∙ g_long ∙ sym m_long in
    ap (λ (xs : List Bool). after g xs m) front
    ∙ chunk g s [] none m (s_long ∙ sym m_long) (length-zeros w ∙ sym g_long) (omega (arith, s_long, g_long))
    ∙ xor-zeros (length m) (after g none (xor s m)) last

joined : (a b c d : List Bool) → (a ++ (b ++ c)) ++ d ≡ a ++ (b ++ (c ++ d))
joined a b c d = append_assoc a (b ++ c) d ∙ ap (λ (xs : List Bool). a ++ xs) (append_assoc b c d)

three_long : (a b c : ℕ) → length (bits 8 a ++ (bits 8 b ++ bits 8 c)) ≡ 24
three_long a b c =
    length-append (bits 8 a) (bits 8 b ++ bits 8 c)
    ∙ ap (λ (k : ℕ). length (bits 8 a) + k) (length-append (bits 8 b) (bits 8 c))
    ∙ omega (arith, length-bits 8 a, length-bits 8 b, length-bits 8 c)

-- a register of three bytes and three bytes of the message
three_xor : (r a b c : ℕ) → xor (bits 24 r) (bits 8 a ++ (bits 8 b ++ bits 8 c))
    ≡ bits 8 (bit_xor (r / 65536) a) ++ (bits 8 (bit_xor (r / 256 % 256) b) ++ bits 8 (bit_xor (r % 256) c))
three_xor r a b c =
    let one : bits 24 r ≡ bits 8 (r / 65536) ++ bits 16 r = bits-split 8 16 r in
    let two : bits 16 r ≡ bits 8 (r / 256) ++ bits 8 r = bits-split 8 8 r in
    let whole : bits 24 r ≡ bits 8 (r / 65536) ++ (bits 8 (r / 256) ++ bits 8 r) = one ∙ ap (λ (xs : List Bool). bits 8 (r / 65536) ++ xs) two in
    let first : xor (bits 8 (r / 65536)) (bits 8 a) ≡ bits 8 (bit_xor (r / 65536) a) = sym (bits-xor 8 (r / 65536) a) in
    let second : xor (bits 8 (r / 256)) (bits 8 b) ≡ bits 8 (bit_xor (r / 256 % 256) b) =
    ap (λ (xs : List Bool). xor xs (bits 8 b)) (sym (bits-mod 8 (r / 256))) ∙ sym (bits-xor 8 (r / 256 % 256) b) in
    let third : xor (bits 8 r) (bits 8 c) ≡ bits 8 (bit_xor (r % 256) c) =
    ap (λ (xs : List Bool). xor xs (bits 8 c)) (sym (bits-mod 8 r)) ∙ sym (bits-xor 8 (r % 256) c) in
    ap (λ (xs : List Bool). xor xs (bits 8 a ++ (bits 8 b ++ bits 8 c))) whole
    ∙ xor-append (bits 8 (r / 65536)) (bits 8 a) (bits 8 (r / 256) ++ bits 8 r) (bits 8 b ++ bits 8 c) (length-bits 8 (r / 65536) ∙ sym (length-bits 8 a))
    ∙ ap (λ (xs : List Bool). xs ++ xor (bits 8 (r / 256) ++ bits 8 r) (bits 8 b ++ bits 8 c)) first
    ∙ ap (λ (xs : List Bool). bits 8 (bit_xor (r / 65536) a) ++ xs)
    (xor-append (bits 8 (r / 256)) (bits 8 b) (bits 8 r) (bits 8 c) (length-bits 8 (r / 256) ∙ sym (length-bits 8 b))
    ∙ ap (λ (xs : List Bool). xs ++ xor (bits 8 r) (bits 8 c)) second
    ∙ ap (λ (xs : List Bool). bits 8 (bit_xor (r / 256 % 256) b) ++ xs) third)

pub after-three : (r a b c : ℕ) (m : List Bool) → after frame_generator (bits 24 r) (bits 8 a ++ (bits 8 b ++ (bits 8 c ++ m)))
    ≡ after frame_generator (zeros 24) (bits 8 (bit_xor (r / 65536) a) ++ (bits 8 (bit_xor (r / 256 % 256) b) ++ (bits 8 (bit_xor (r % 256) c) ++ m)))
after-three r a b c m =
    let g : List Bool = frame_generator in
    let s : List Bool = bits 24 r in
    let front : List Bool = bits 8 a ++ (bits 8 b ++ bits 8 c) in
    let x : List Bool = bits 8 (bit_xor (r / 65536) a) in
    let y : List Bool = bits 8 (bit_xor (r / 256 % 256) b) in
    let z : List Bool = bits 8 (bit_xor (r % 256) c) in
    ap (after g s) (sym (joined (bits 8 a) (bits 8 b) (bits 8 c) m))
    ∙ after-append g s front m
    ∙ ap (λ (xs : List Bool). after g xs m) (after-wide 24 g s front (length-bits 24 0x5D6DCB) (length-bits 24 r) (three_long a b c))
    ∙ ap (λ (xs : List Bool). after g (after g (zeros 24) xs) m) (three_xor r a b c)
    ∙ sym (after-append g (zeros 24) (x ++ (y ++ z)) m)
    ∙ ap (after g (zeros 24)) (joined x y z m)

-- ---- eight bytes

pub eight : (xs : List ℕ) → length xs ≡ 8 →
    xs ≡ get_or xs 0 0 ∷ get_or xs 1 0 ∷ get_or xs 2 0 ∷ get_or xs 3 0 ∷ get_or xs 4 0 ∷ get_or xs 5 0 ∷ get_or xs 6 0 ∷ get_or xs 7 0 ∷ []
eight [] long = absurd (omega arith)
eight (a ∷ []) long = absurd (omega arith)
eight (a ∷ b ∷ []) long = absurd (omega arith)
eight (a ∷ b ∷ c ∷ []) long = absurd (omega arith)
eight (a ∷ b ∷ c ∷ d ∷ []) long = absurd (omega arith)
eight (a ∷ b ∷ c ∷ d ∷ e ∷ []) long = absurd (omega arith)
eight (a ∷ b ∷ c ∷ d ∷ e ∷ f ∷ []) long = absurd (omega arith)
eight (a ∷ b ∷ c ∷ d ∷ e ∷ f ∷ h ∷ []) long = absurd (omega arith)
eight (a ∷ b ∷ c ∷ d ∷ e ∷ f ∷ h ∷ i ∷ []) long = refl
eight (a ∷ b ∷ c ∷ d ∷ e ∷ f ∷ h ∷ i ∷ j ∷ xs) long = absurd (omega arith)

-- the register after eight bytes, by the entry of each
pub after-eight : (r : ℕ) (bytes : List ℕ) (e0 e1 e2 e3 e4 e5 e6 e7 : ℕ) → r < 2 ^ 24 → length bytes ≡ 8 → ((k : ℕ) → get_or bytes k 0 < 256) →
    e0 ≡ get_or (entries_before 56) (bit_xor (r / 65536) (get_or bytes 0 0)) 0 →
    e1 ≡ get_or (entries_before 48) (bit_xor (r / 256 % 256) (get_or bytes 1 0)) 0 →
    e2 ≡ get_or (entries_before 40) (bit_xor (r % 256) (get_or bytes 2 0)) 0 →
    e3 ≡ get_or (entries_before 32) (get_or bytes 3 0) 0 →
    e4 ≡ get_or (entries_before 24) (get_or bytes 4 0) 0 →
    e5 ≡ get_or (entries_before 16) (get_or bytes 5 0) 0 →
    e6 ≡ get_or (entries_before 8) (get_or bytes 6 0) 0 →
    e7 < 2 ^ 24 → bits 24 e7 ≡ after frame_generator (zeros 24) (bits 8 (get_or bytes 7 0)) →
    let all = bit_xor e0 (bit_xor e1 (bit_xor e2 (bit_xor e3 (bit_xor e4 (bit_xor e5 (bit_xor e6 e7)))))) in
    (all < 2 ^ 24) × (bits 24 all ≡ after frame_generator (bits 24 r) (message_of bytes))
after-eight r bytes e0 e1 e2 e3 e4 e5 e6 e7 fits long small is0 is1 is2 is3 is4 is5 is6 last_fits last_is =
    let b0 : ℕ = get_or bytes 0 0 in
    let b1 : ℕ = get_or bytes 1 0 in
    let b2 : ℕ = get_or bytes 2 0 in
    let b3 : ℕ = get_or bytes 3 0 in
    let b4 : ℕ = get_or bytes 4 0 in
    let b5 : ℕ = get_or bytes 5 0 in
    let b6 : ℕ = get_or bytes 6 0 in
    let b7 : ℕ = get_or bytes 7 0 in
    let m7 : List Bool = bits 8 b7 ++ [] in
    let m6 : List Bool = bits 8 b6 ++ m7 in
    let m5 : List Bool = bits 8 b5 ++ m6 in
    let m4 : List Bool = bits 8 b4 ++ m5 in
    let m3 : List Bool = bits 8 b3 ++ m4 in
    let x0 : ℕ = bit_xor (r / 65536) b0 in
    let x1 : ℕ = bit_xor (r / 256 % 256) b1 in
    let x2 : ℕ = bit_xor (r % 256) b2 in
    let s0 : x0 < 256 = xor_lt 8 (r / 65536) b0 (omega (arith, fits)) (small 0) in
    let s1 : x1 < 256 = xor_lt 8 (r / 256 % 256) b1 (omega arith) (small 1) in
    let s2 : x2 < 256 = xor_lt 8 (r % 256) b2 (omega arith) (small 2) in
    let v6 : ℕ = bit_xor e6 e7 in
    let v5 : ℕ = bit_xor e5 v6 in
    let v4 : ℕ = bit_xor e4 v5 in
    let v3 : ℕ = bit_xor e3 v4 in
    let v2 : ℕ = bit_xor e2 v3 in
    let v1 : ℕ = bit_xor e1 v2 in
    let l7 : LeadsTo 8 e7 m7 = last_byte b7 e7 last_fits last_is in
    let l6 : LeadsTo 16 v6 m6 = one_before 8 b6 e6 e7 m7 (small 6) is6 l7 in
    let l5 : LeadsTo 24 v5 m5 = one_before 16 b5 e5 v6 m6 (small 5) is5 l6 in
    let l4 : LeadsTo 32 v4 m4 = one_before 24 b4 e4 v5 m5 (small 4) is4 l5 in
    let l3 : LeadsTo 40 v3 m3 = one_before 32 b3 e3 v4 m4 (small 3) is3 l4 in
    let l2 : LeadsTo 48 v2 (bits 8 x2 ++ m3) = one_before 40 x2 e2 v3 m3 s2 is2 l3 in
    let l1 : LeadsTo 56 v1 (bits 8 x1 ++ (bits 8 x2 ++ m3)) = one_before 48 x1 e1 v2 (bits 8 x2 ++ m3) s1 is1 l2 in
    let l0 : LeadsTo 64 (bit_xor e0 v1) (bits 8 x0 ++ (bits 8 x1 ++ (bits 8 x2 ++ m3))) = one_before 56 x0 e0 v1 (bits 8 x1 ++ (bits 8 x2 ++ m3)) s0 is0 l1 in
    let whole : message_of bytes ≡ bits 8 b0 ++ (bits 8 b1 ++ (bits 8 b2 ++ m3)) = ap message_of (eight bytes long) in
    (l0.fits, l0.is ∙ sym (after-three r b0 b1 b2 m3) ∙ ap (after frame_generator (bits 24 r)) (sym whole))

-- ---- sixteen bytes

pub sixteen : (xs : List ℕ) → length xs ≡ 16 →
    xs ≡ get_or xs 0 0 ∷ get_or xs 1 0 ∷ get_or xs 2 0 ∷ get_or xs 3 0 ∷ get_or xs 4 0 ∷ get_or xs 5 0 ∷ get_or xs 6 0 ∷ get_or xs 7 0 ∷ get_or xs 8 0 ∷ get_or xs 9 0 ∷ get_or xs 10 0 ∷ get_or xs 11 0 ∷ get_or xs 12 0 ∷ get_or xs 13 0 ∷ get_or xs 14 0 ∷ get_or xs 15 0 ∷ []
sixteen [] long = absurd (omega arith)
sixteen (x0 ∷ []) long = absurd (omega arith)
sixteen (x0 ∷ x1 ∷ []) long = absurd (omega arith)
sixteen (x0 ∷ x1 ∷ x2 ∷ []) long = absurd (omega arith)
sixteen (x0 ∷ x1 ∷ x2 ∷ x3 ∷ []) long = absurd (omega arith)
sixteen (x0 ∷ x1 ∷ x2 ∷ x3 ∷ x4 ∷ []) long = absurd (omega arith)
sixteen (x0 ∷ x1 ∷ x2 ∷ x3 ∷ x4 ∷ x5 ∷ []) long = absurd (omega arith)
sixteen (x0 ∷ x1 ∷ x2 ∷ x3 ∷ x4 ∷ x5 ∷ x6 ∷ []) long = absurd (omega arith)
sixteen (x0 ∷ x1 ∷ x2 ∷ x3 ∷ x4 ∷ x5 ∷ x6 ∷ x7 ∷ []) long = absurd (omega arith)
sixteen (x0 ∷ x1 ∷ x2 ∷ x3 ∷ x4 ∷ x5 ∷ x6 ∷ x7 ∷ x8 ∷ []) long = absurd (omega arith)
sixteen (x0 ∷ x1 ∷ x2 ∷ x3 ∷ x4 ∷ x5 ∷ x6 ∷ x7 ∷ x8 ∷ x9 ∷ []) long = absurd (omega arith)
sixteen (x0 ∷ x1 ∷ x2 ∷ x3 ∷ x4 ∷ x5 ∷ x6 ∷ x7 ∷ x8 ∷ x9 ∷ x10 ∷ []) long = absurd (omega arith)
sixteen (x0 ∷ x1 ∷ x2 ∷ x3 ∷ x4 ∷ x5 ∷ x6 ∷ x7 ∷ x8 ∷ x9 ∷ x10 ∷ x11 ∷ []) long = absurd (omega arith)
sixteen (x0 ∷ x1 ∷ x2 ∷ x3 ∷ x4 ∷ x5 ∷ x6 ∷ x7 ∷ x8 ∷ x9 ∷ x10 ∷ x11 ∷ x12 ∷ []) long = absurd (omega arith)
sixteen (x0 ∷ x1 ∷ x2 ∷ x3 ∷ x4 ∷ x5 ∷ x6 ∷ x7 ∷ x8 ∷ x9 ∷ x10 ∷ x11 ∷ x12 ∷ x13 ∷ []) long = absurd (omega arith)
sixteen (x0 ∷ x1 ∷ x2 ∷ x3 ∷ x4 ∷ x5 ∷ x6 ∷ x7 ∷ x8 ∷ x9 ∷ x10 ∷ x11 ∷ x12 ∷ x13 ∷ x14 ∷ []) long = absurd (omega arith)
sixteen (x0 ∷ x1 ∷ x2 ∷ x3 ∷ x4 ∷ x5 ∷ x6 ∷ x7 ∷ x8 ∷ x9 ∷ x10 ∷ x11 ∷ x12 ∷ x13 ∷ x14 ∷ x15 ∷ []) long = refl
sixteen (x0 ∷ x1 ∷ x2 ∷ x3 ∷ x4 ∷ x5 ∷ x6 ∷ x7 ∷ x8 ∷ x9 ∷ x10 ∷ x11 ∷ x12 ∷ x13 ∷ x14 ∷ x15 ∷ x16 ∷ xs) long = absurd (omega arith)

-- the register after sixteen bytes, by the entry of each
pub after-sixteen : (r : ℕ) (bytes : List ℕ) (e0 e1 e2 e3 e4 e5 e6 e7 e8 e9 e10 e11 e12 e13 e14 e15 : ℕ) → r < 2 ^ 24 → length bytes ≡ 16 → ((k : ℕ) → get_or bytes k 0 < 256) →
    e0 ≡ get_or (entries_before 120) (bit_xor (r / 65536) (get_or bytes 0 0)) 0 →
    e1 ≡ get_or (entries_before 112) (bit_xor (r / 256 % 256) (get_or bytes 1 0)) 0 →
    e2 ≡ get_or (entries_before 104) (bit_xor (r % 256) (get_or bytes 2 0)) 0 →
    e3 ≡ get_or (entries_before 96) (get_or bytes 3 0) 0 →
    e4 ≡ get_or (entries_before 88) (get_or bytes 4 0) 0 →
    e5 ≡ get_or (entries_before 80) (get_or bytes 5 0) 0 →
    e6 ≡ get_or (entries_before 72) (get_or bytes 6 0) 0 →
    e7 ≡ get_or (entries_before 64) (get_or bytes 7 0) 0 →
    e8 ≡ get_or (entries_before 56) (get_or bytes 8 0) 0 →
    e9 ≡ get_or (entries_before 48) (get_or bytes 9 0) 0 →
    e10 ≡ get_or (entries_before 40) (get_or bytes 10 0) 0 →
    e11 ≡ get_or (entries_before 32) (get_or bytes 11 0) 0 →
    e12 ≡ get_or (entries_before 24) (get_or bytes 12 0) 0 →
    e13 ≡ get_or (entries_before 16) (get_or bytes 13 0) 0 →
    e14 ≡ get_or (entries_before 8) (get_or bytes 14 0) 0 →
    e15 < 2 ^ 24 → bits 24 e15 ≡ after frame_generator (zeros 24) (bits 8 (get_or bytes 15 0)) →
    let all = bit_xor e0 (bit_xor e1 (bit_xor e2 (bit_xor e3 (bit_xor e4 (bit_xor e5 (bit_xor e6 (bit_xor e7 (bit_xor e8 (bit_xor e9 (bit_xor e10 (bit_xor e11 (bit_xor e12 (bit_xor e13 (bit_xor e14 e15)))))))))))))) in
    (all < 2 ^ 24) × (bits 24 all ≡ after frame_generator (bits 24 r) (message_of bytes))
after-sixteen r bytes e0 e1 e2 e3 e4 e5 e6 e7 e8 e9 e10 e11 e12 e13 e14 e15 fits long small is0 is1 is2 is3 is4 is5 is6 is7 is8 is9 is10 is11 is12 is13 is14 last_fits last_is =
    let b0 : ℕ = get_or bytes 0 0 in
    let b1 : ℕ = get_or bytes 1 0 in
    let b2 : ℕ = get_or bytes 2 0 in
    let b3 : ℕ = get_or bytes 3 0 in
    let b4 : ℕ = get_or bytes 4 0 in
    let b5 : ℕ = get_or bytes 5 0 in
    let b6 : ℕ = get_or bytes 6 0 in
    let b7 : ℕ = get_or bytes 7 0 in
    let b8 : ℕ = get_or bytes 8 0 in
    let b9 : ℕ = get_or bytes 9 0 in
    let b10 : ℕ = get_or bytes 10 0 in
    let b11 : ℕ = get_or bytes 11 0 in
    let b12 : ℕ = get_or bytes 12 0 in
    let b13 : ℕ = get_or bytes 13 0 in
    let b14 : ℕ = get_or bytes 14 0 in
    let b15 : ℕ = get_or bytes 15 0 in
    let m15 : List Bool = bits 8 b15 ++ [] in
    let m14 : List Bool = bits 8 b14 ++ m15 in
    let m13 : List Bool = bits 8 b13 ++ m14 in
    let m12 : List Bool = bits 8 b12 ++ m13 in
    let m11 : List Bool = bits 8 b11 ++ m12 in
    let m10 : List Bool = bits 8 b10 ++ m11 in
    let m9 : List Bool = bits 8 b9 ++ m10 in
    let m8 : List Bool = bits 8 b8 ++ m9 in
    let m7 : List Bool = bits 8 b7 ++ m8 in
    let m6 : List Bool = bits 8 b6 ++ m7 in
    let m5 : List Bool = bits 8 b5 ++ m6 in
    let m4 : List Bool = bits 8 b4 ++ m5 in
    let m3 : List Bool = bits 8 b3 ++ m4 in
    let x0 : ℕ = bit_xor (r / 65536) b0 in
    let x1 : ℕ = bit_xor (r / 256 % 256) b1 in
    let x2 : ℕ = bit_xor (r % 256) b2 in
    let s0 : x0 < 256 = xor_lt 8 (r / 65536) b0 (omega (arith, fits)) (small 0) in
    let s1 : x1 < 256 = xor_lt 8 (r / 256 % 256) b1 (omega arith) (small 1) in
    let s2 : x2 < 256 = xor_lt 8 (r % 256) b2 (omega arith) (small 2) in
    let v14 : ℕ = bit_xor e14 e15 in
    let v13 : ℕ = bit_xor e13 v14 in
    let v12 : ℕ = bit_xor e12 v13 in
    let v11 : ℕ = bit_xor e11 v12 in
    let v10 : ℕ = bit_xor e10 v11 in
    let v9 : ℕ = bit_xor e9 v10 in
    let v8 : ℕ = bit_xor e8 v9 in
    let v7 : ℕ = bit_xor e7 v8 in
    let v6 : ℕ = bit_xor e6 v7 in
    let v5 : ℕ = bit_xor e5 v6 in
    let v4 : ℕ = bit_xor e4 v5 in
    let v3 : ℕ = bit_xor e3 v4 in
    let v2 : ℕ = bit_xor e2 v3 in
    let v1 : ℕ = bit_xor e1 v2 in
    let l15 : LeadsTo 8 e15 m15 = last_byte b15 e15 last_fits last_is in
    let l14 : LeadsTo 16 v14 m14 = one_before 8 b14 e14 e15 m15 (small 14) is14 l15 in
    let l13 : LeadsTo 24 v13 m13 = one_before 16 b13 e13 v14 m14 (small 13) is13 l14 in
    let l12 : LeadsTo 32 v12 m12 = one_before 24 b12 e12 v13 m13 (small 12) is12 l13 in
    let l11 : LeadsTo 40 v11 m11 = one_before 32 b11 e11 v12 m12 (small 11) is11 l12 in
    let l10 : LeadsTo 48 v10 m10 = one_before 40 b10 e10 v11 m11 (small 10) is10 l11 in
    let l9 : LeadsTo 56 v9 m9 = one_before 48 b9 e9 v10 m10 (small 9) is9 l10 in
    let l8 : LeadsTo 64 v8 m8 = one_before 56 b8 e8 v9 m9 (small 8) is8 l9 in
    let l7 : LeadsTo 72 v7 m7 = one_before 64 b7 e7 v8 m8 (small 7) is7 l8 in
    let l6 : LeadsTo 80 v6 m6 = one_before 72 b6 e6 v7 m7 (small 6) is6 l7 in
    let l5 : LeadsTo 88 v5 m5 = one_before 80 b5 e5 v6 m6 (small 5) is5 l6 in
    let l4 : LeadsTo 96 v4 m4 = one_before 88 b4 e4 v5 m5 (small 4) is4 l5 in
    let l3 : LeadsTo 104 v3 m3 = one_before 96 b3 e3 v4 m4 (small 3) is3 l4 in
    let l2 : LeadsTo 112 v2 (bits 8 x2 ++ m3) = one_before 104 x2 e2 v3 m3 s2 is2 l3 in
    let l1 : LeadsTo 120 v1 (bits 8 x1 ++ (bits 8 x2 ++ m3)) = one_before 112 x1 e1 v2 (bits 8 x2 ++ m3) s1 is1 l2 in
    let l0 : LeadsTo 128 (bit_xor e0 v1) (bits 8 x0 ++ (bits 8 x1 ++ (bits 8 x2 ++ m3))) = one_before 120 x0 e0 v1 (bits 8 x1 ++ (bits 8 x2 ++ m3)) s0 is0 l1 in
    let whole : message_of bytes ≡ bits 8 b0 ++ (bits 8 b1 ++ (bits 8 b2 ++ m3)) = ap message_of (sixteen bytes long) in
    (l0.fits, l0.is ∙ sym (after-three r b0 b1 b2 m3) ∙ ap (after frame_generator (bits 24 r)) (sym whole))

-- ---- four bytes

pub four : (xs : List ℕ) → length xs ≡ 4 → xs ≡ get_or xs 0 0 ∷ get_or xs 1 0 ∷ get_or xs 2 0 ∷ get_or xs 3 0 ∷ []
four [] long = absurd (omega arith)
four (a ∷ []) long = absurd (omega arith)
four (a ∷ b ∷ []) long = absurd (omega arith)
four (a ∷ b ∷ c ∷ []) long = absurd (omega arith)
four (a ∷ b ∷ c ∷ d ∷ []) long = refl
four (a ∷ b ∷ c ∷ d ∷ e ∷ xs) long = absurd (omega arith)

-- the register after four bytes, by the entry of each
pub after-four : (r : ℕ) (bytes : List ℕ) (e0 e1 e2 e3 : ℕ) → r < 2 ^ 24 → length bytes ≡ 4 → ((k : ℕ) → get_or bytes k 0 < 256) →
    e0 ≡ get_or (entries_before 24) (bit_xor (r / 65536) (get_or bytes 0 0)) 0 →
    e1 ≡ get_or (entries_before 16) (bit_xor (r / 256 % 256) (get_or bytes 1 0)) 0 →
    e2 ≡ get_or (entries_before 8) (bit_xor (r % 256) (get_or bytes 2 0)) 0 →
    e3 < 2 ^ 24 → bits 24 e3 ≡ after frame_generator (zeros 24) (bits 8 (get_or bytes 3 0)) →
    let all = bit_xor e0 (bit_xor e1 (bit_xor e2 e3)) in
    (all < 2 ^ 24) × (bits 24 all ≡ after frame_generator (bits 24 r) (message_of bytes))
after-four r bytes e0 e1 e2 e3 fits long small is0 is1 is2 last_fits last_is =
    let b0 : ℕ = get_or bytes 0 0 in
    let b1 : ℕ = get_or bytes 1 0 in
    let b2 : ℕ = get_or bytes 2 0 in
    let b3 : ℕ = get_or bytes 3 0 in
    let m3 : List Bool = bits 8 b3 ++ [] in
    let x0 : ℕ = bit_xor (r / 65536) b0 in
    let x1 : ℕ = bit_xor (r / 256 % 256) b1 in
    let x2 : ℕ = bit_xor (r % 256) b2 in
    let s0 : x0 < 256 = xor_lt 8 (r / 65536) b0 (omega (arith, fits)) (small 0) in
    let s1 : x1 < 256 = xor_lt 8 (r / 256 % 256) b1 (omega arith) (small 1) in
    let s2 : x2 < 256 = xor_lt 8 (r % 256) b2 (omega arith) (small 2) in
    let v2 : ℕ = bit_xor e2 e3 in
    let v1 : ℕ = bit_xor e1 v2 in
    let l3 : LeadsTo 8 e3 m3 = last_byte b3 e3 last_fits last_is in
    let l2 : LeadsTo 16 v2 (bits 8 x2 ++ m3) = one_before 8 x2 e2 e3 m3 s2 is2 l3 in
    let l1 : LeadsTo 24 v1 (bits 8 x1 ++ (bits 8 x2 ++ m3)) = one_before 16 x1 e1 v2 (bits 8 x2 ++ m3) s1 is1 l2 in
    let l0 : LeadsTo 32 (bit_xor e0 v1) (bits 8 x0 ++ (bits 8 x1 ++ (bits 8 x2 ++ m3))) = one_before 24 x0 e0 v1 (bits 8 x1 ++ (bits 8 x2 ++ m3)) s0 is0 l1 in
    let whole : message_of bytes ≡ bits 8 b0 ++ (bits 8 b1 ++ (bits 8 b2 ++ m3)) = ap message_of (four bytes long) in
    (l0.fits, l0.is ∙ sym (after-three r b0 b1 b2 m3) ∙ ap (after frame_generator (bits 24 r)) (sym whole))

-- ---- bytes, several at a time

-- the first so many bytes, and those behind them
pub after-behind : (g s : List Bool) (bytes : List ℕ) (k : ℕ) → after g s (message_of bytes) ≡ after g (after g s (message_of (take k bytes))) (message_of (drop k bytes))
after-behind g s bytes k =
    ap (λ (xs : List ℕ). after g s (message_of xs)) (sym (take-append-drop k bytes))
    ∙ ap (after g s) (flat_map-append (bits 8) (take k bytes) (drop k bytes))
    ∙ after-append g s (message_of (take k bytes)) (message_of (drop k bytes))

pub after-cut : (g s : List Bool) (bytes : List ℕ) (i n : ℕ) → n ≡ 16 →
    after g s (message_of (drop i bytes)) ≡ after g (after g s (message_of (take n (drop i bytes)))) (message_of (drop (i + 16) bytes))
after-cut g s bytes i n is =
    after-behind g s (drop i bytes) 16
    ∙ ap (λ (xs : List ℕ). after g (after g s (message_of (take 16 (drop i bytes)))) (message_of xs)) (drop-drop 16 i bytes)
    ∙ ap (λ (k : ℕ). after g (after g s (message_of (take k (drop i bytes)))) (message_of (drop (i + 16) bytes))) (sym is)
