-- In how many bits at least two code words of a CRC differ.
use Rattle.std.proofs.Common.{◌≡◌, ◌≢◌, ℕ, ◌+◌, ◌-◌, ◌*◌, ◌<◌, ◌≤◌, zero, suc, Bool, true, false, not, List, [], ◌∷◌, ◌++◌, length, refl, ap, sym, ◌∙◌, inl, inr, arith, length-append}
use Rattle.std.proofs.lemmas.Bool.{and_parts, cases_Bool, cases_lt}
use Rattle.fr_crc.specs.Bits.{differ, one_of, xor, zeros}
use Rattle.fr_crc.specs.Crc.{IsCrc, header_generator, frame_generator}
use Rattle.fr_crc.specs.Register.{register_stepped, after}
use Rattle.fr_crc.proofs.Division.{after-append, length-stepped}
use Rattle.fr_crc.proofs.Remainders.{length-bits}
use Rattle.fr_crc.proofs.Sums.{xor-append, length-xor, length-zeros}
use Rattle.fr_damage.specs.Damage.{EndsInOne, has_odd_ones, ones}
use Rattle.fr_damage.proofs.Registers.{xor_none, idle, after_back}
use Rattle.fr_damage.proofs.Patterns.{Unseen, away, not_empty, odd_is_seen, one_stepped, passed, two_return}
use Rattle.fr_damage.proofs.Periods.{header_ends, frame_ends, header_odd, frame_odd, frame_stays_away, header_sees}
use Rattle.fr_damage.proofs.Changes.{code_after, codes_unseen}
use Rattle.fr_damage.proofs.Sees.{is_none, sees}

-- ---- how many bits are 1
ones-zeros : (n : ℕ) → ones (zeros n) ≡ 0
ones-zeros zero = refl
ones-zeros (suc n) = omega (arith, ones-zeros n)

pub ones-append : (xs ys : List Bool) → ones (xs ++ ys) ≡ ones xs + ones ys
ones-append [] ys = omega arith
ones-append (x ∷ xs) ys = let rest : ones (xs ++ ys) ≡ ones xs + ones ys = ones-append xs ys in omega (arith, rest)

no_ones : (e : List Bool) → ones e ≡ 0 → e ≡ zeros (length e)
no_ones [] none = refl
no_ones (false ∷ e) none = ap (λ (xs : List Bool). false ∷ xs) (no_ones e (omega arith))
no_ones (true ∷ e) none = absurd (omega arith)

parity : (e : List Bool) → (k : ℕ) × (ones e ≡ 2 * k + one_of (has_odd_ones e))
parity [] = (0, refl)
parity (b ∷ e) = let rest : (k : ℕ) × (ones e ≡ 2 * k + one_of (has_odd_ones e)) = parity e in more b (has_odd_ones e) rest.0 (ones e) rest.1
  where
    more : (b odd : Bool) (k n : ℕ) → n ≡ 2 * k + one_of odd → (j : ℕ) × (one_of b + n ≡ 2 * j + one_of (differ b odd))
    more false odd k n is = (k, omega (arith, is))
    more true false k n is = (k, omega (arith, is))
    more true true k n is = (suc k, omega (arith, is))

-- an even number of bits
even_ones : (e : List Bool) → has_odd_ones e ≡ false → (k : ℕ) × (ones e ≡ 2 * k)
even_ones e even =
    let found : (k : ℕ) × (ones e ≡ 2 * k + one_of (has_odd_ones e)) = parity e in
    let none : one_of (has_odd_ones e) ≡ 0 = ap one_of even in
    (found.0, omega (arith, found.1, none))

-- the first one
record FirstOne (e : List Bool) : Type 0 where
  pub skipped : ℕ
  pub rest : List Bool
  pub is : e ≡ zeros skipped ++ (true ∷ rest)
  pub count : ones e ≡ suc (ones rest)
  pub long : length e ≡ skipped + suc (length rest)

first_one : (e : List Bool) → 1 ≤ ones e → FirstOne e
first_one [] some = absurd (omega arith)
first_one (true ∷ e) some = record { skipped = 0; rest = e; is = refl; count = omega arith; long = omega arith }
first_one (false ∷ e) some =
    let found : FirstOne e = first_one e (omega arith) in
    record {
      skipped = suc found.skipped;
      rest = found.rest;
      is = ap (λ (xs : List Bool). false ∷ xs) found.is;
      count = omega (arith, found.count);
      long = omega (arith, found.long);
    }

-- what comes after the first one, where the whole is not seen
after_first : (g e : List Bool) (first : FirstOne e) → Unseen g e → after g g first.rest ≡ zeros (length g)
after_first g e first unseen =
    sym (ap (λ (s : List Bool). after g s first.rest) (one_stepped g))
    ∙ passed g (true ∷ first.rest) first.skipped (sym (ap (after g (zeros (length g))) first.is) ∙ unseen)

-- ---- what is computed holds of each list of bits
is_none-zeros : (n : ℕ) → is_none (zeros n) ≡ true
is_none-zeros zero = refl
is_none-zeros (suc n) = is_none-zeros n

not_zeros : (r : List Bool) (n : ℕ) → not (is_none r) ≡ true → r ≡ zeros n → ⊥
not_zeros r n some same =
    let both : true ≡ false = sym some ∙ ap not (ap is_none same ∙ is_none-zeros n) in
    absurd (cc)

sees_each : (n w : ℕ) (g r e : List Bool) → EndsInOne g → length r ≡ length g → sees n w g r ≡ true → length e ≡ n → ones e ≤ w → after g r e ≡ zeros (length g) → ⊥
sees_each zero w g r [] ends wide sees_it long few none = not_zeros r (length g) sees_it none
sees_each zero w g r (b ∷ e) ends wide sees_it long few none = absurd (omega arith)
sees_each (suc n) zero g r e ends wide sees_it long few none =
    let all : e ≡ zeros (length e) = no_ones e (omega arith) in
    not_zeros r (length g) sees_it (after_back g r (length e) ends wide (sym (ap (after g r) all) ∙ none))
sees_each (suc n) (suc w) g r [] ends wide sees_it long few none = absurd (omega arith)
sees_each (suc n) (suc w) g r (false ∷ e) ends wide sees_it long few none =
    let parts : (sees n (suc w) g (register_stepped g r false) ≡ true) × (sees n w g (register_stepped g r true) ≡ true) =
    and_parts (sees n (suc w) g (register_stepped g r false)) (sees n w g (register_stepped g r true)) sees_it in
    sees_each n (suc w) g (register_stepped g r false) e ends (length-stepped g r false wide) parts.0 (omega arith) (omega arith) none
sees_each (suc n) (suc w) g r (true ∷ e) ends wide sees_it long few none =
    let parts : (sees n (suc w) g (register_stepped g r false) ≡ true) × (sees n w g (register_stepped g r true) ≡ true) =
    and_parts (sees n (suc w) g (register_stepped g r false)) (sees n w g (register_stepped g r true)) sees_it in
    sees_each n w g (register_stepped g r true) e ends (length-stepped g r true wide) parts.1 (omega arith) (omega arith) none

-- ---- 31 bits and the header's generator
pub five_are_seen : (e : List Bool) → length e ≤ 31 → 1 ≤ ones e → ones e ≤ 5 → Unseen header_generator e → ⊥
five_are_seen e short some few unseen = elim (cases_Bool (has_odd_ones e)) [
  | inl odd ↦ odd_is_seen header_generator e header_odd odd unseen
  | inr even ↦
      let g : List Bool = header_generator in
      let twice : (k : ℕ) × (ones e ≡ 2 * k) = even_ones e even in
      let first : FirstOne e = first_one e some in
      let fill : ℕ = 30 - length first.rest in
      let within : length first.rest ≤ 30 = omega (arith, short, first.long) in
      let padded : List Bool = first.rest ++ zeros fill in
      let long : length padded ≡ 30 = length-append first.rest (zeros fill) ∙ omega (arith, within, length-zeros fill) in
      let three : ones padded ≤ 3 = omega (arith, few, twice.1, first.count, ones-append first.rest (zeros fill), ones-zeros fill) in
      let none : after g g padded ≡ zeros (length g) =
      after-append g g first.rest (zeros fill)
      ∙ ap (λ (s : List Bool). after g s (zeros fill)) (after_first g e first unseen)
      ∙ idle g (length g) fill refl in
      sees_each 30 3 g g padded header_ends refl header_sees long three none
]

-- ---- 2,096 bits and the frame's generator
pub three_are_seen : (e : List Bool) → length e ≤ 2096 → 1 ≤ ones e → ones e ≤ 3 → Unseen frame_generator e → ⊥
three_are_seen e short some few unseen = elim (cases_Bool (has_odd_ones e)) [
  | inl odd ↦ odd_is_seen frame_generator e frame_odd odd unseen
  | inr even ↦
      let g : List Bool = frame_generator in
      let twice : (k : ℕ) × (ones e ≡ 2 * k) = even_ones e even in
      let first : FirstOne e = first_one e some in
      let second : FirstOne first.rest = first_one first.rest (omega (arith, some, few, twice.1, first.count)) in
      let none : second.rest ≡ zeros (length second.rest) = no_ones second.rest (omega (arith, few, twice.1, first.count, second.count)) in
      let whole : e ≡ zeros first.skipped ++ (true ∷ (zeros second.skipped ++ (true ∷ zeros (length second.rest)))) =
      first.is
      ∙ ap (λ (xs : List Bool). zeros first.skipped ++ (true ∷ xs)) second.is
      ∙ ap (λ (xs : List Bool). zeros first.skipped ++ (true ∷ (zeros second.skipped ++ (true ∷ xs)))) none in
      let near : second.skipped < 4093 = omega (arith, short, first.long, second.long) in
      away 4093 g (register_stepped g g false) frame_stays_away second.skipped near
      (two_return g first.skipped second.skipped (length second.rest) frame_ends (sym (ap (after g (zeros (length g))) whole) ∙ unseen))
]

-- ---- code words
pub some_ones : (c d : List Bool) → length c ≡ length d → c ≢ d → 1 ≤ ones (xor c d)
some_ones c d same differ = elim (cases_lt 0 (ones (xor c d))) [
  | inl some ↦ some
  | inr none ↦
      let all : xor c d ≡ zeros (length (xor c d)) = no_ones (xor c d) (omega arith) in
      absurd (differ (xor_none c d same (all ∙ ap zeros (length-xor c d same))))
]

-- two code words with one start value
code_difference : (g s m n r q : List Bool) → 0 < length g → length m ≡ length n → IsCrc g s m r → IsCrc g s n q → Unseen g (xor (m ++ r) (n ++ q)) × (ones (xor (m ++ r) (n ++ q)) ≡ ones (xor m n) + ones (xor r q))
code_difference g s m n r q some same one other =
    let widths : length r ≡ length q = one.width ∙ sym other.width in
    let long : length (m ++ r) ≡ length (n ++ q) = simp length-append (omega (arith, same, widths)) in (
      codes_unseen g s (m ++ r) (n ++ q) one.start_width long (code_after g s m r some one) (code_after g s n q some other),
      ap ones (xor-append m n r q same) ∙ ones-append (xor m n) (xor r q),
    )

pub header_codes : (s m n r q : List Bool) → length m ≤ 20 → length m ≡ length n → m ≢ n → IsCrc header_generator s m r → IsCrc header_generator s n q → 6 ≤ ones (xor m n) + ones (xor r q)
header_codes s m n r q short same differ one other = elim (cases_lt (ones (xor m n) + ones (xor r q)) 6) [
  | inr enough ↦ enough
  | inl few ↦
      let both = code_difference header_generator s m n r q (not_empty header_generator header_ends) same one other in
      let widths : length r ≡ length q = one.width ∙ sym other.width in
      let eleven : length q ≡ 11 = other.width ∙ length-bits 11 0x385 in
      let codes : length (m ++ r) ≡ length (n ++ q) = simp length-append (omega (arith, same, widths)) in
      let long : length (xor (m ++ r) (n ++ q)) ≤ 31 = rw (length-xor (m ++ r) (n ++ q) codes, length-append n q) (omega (arith, short, same, eleven)) in
      absurd (five_are_seen (xor (m ++ r) (n ++ q)) long (omega (arith, both.1, some_ones m n same differ)) (omega (arith, both.1, few)) both.0)
]

pub frame_codes : (s m n r q : List Bool) → length m ≤ 2072 → length m ≡ length n → m ≢ n → IsCrc frame_generator s m r → IsCrc frame_generator s n q → 4 ≤ ones (xor m n) + ones (xor r q)
frame_codes s m n r q short same differ one other = elim (cases_lt (ones (xor m n) + ones (xor r q)) 4) [
  | inr enough ↦ enough
  | inl few ↦
      let both = code_difference frame_generator s m n r q (not_empty frame_generator frame_ends) same one other in
      let widths : length r ≡ length q = one.width ∙ sym other.width in
      let wide : length q ≡ 24 = other.width ∙ length-bits 24 0x5D6DCB in
      let codes : length (m ++ r) ≡ length (n ++ q) = simp length-append (omega (arith, same, widths)) in
      let long : length (xor (m ++ r) (n ++ q)) ≤ 2096 = rw (length-xor (m ++ r) (n ++ q) codes, length-append n q) (omega (arith, short, same, wide)) in
      absurd (three_are_seen (xor (m ++ r) (n ++ q)) long (omega (arith, both.1, some_ones m n same differ)) (omega (arith, both.1, few)) both.0)
]
