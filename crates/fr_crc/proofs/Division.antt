-- The register's bits after a message are the remainder.
use Rattle.std.proofs.Common.{◌≡◌, ℕ, ◌<◌, suc, Bool, true, false, List, [], ◌∷◌, ◌++◌, length, refl, ap, sym, ◌∙◌, arith, length-append}
use Rattle.std.proofs.lemmas.List.{append-nil}
use Rattle.fr_crc.specs.Bits.{differ, xor, zeros, times_bit, mul}
use Rattle.fr_crc.specs.Crc.{IsCrc}
use Rattle.fr_crc.specs.Register.{register_stepped, after}
use Rattle.fr_crc.proofs.Sums.{differ-false, xor_comm, xor_assoc, xor-append, xor-zeros, xor_twice, length-xor, length-zeros, length-times_bit, mul-cons}

pub length-stepped : (g s : List Bool) (b : Bool) → length s ≡ length g → length (register_stepped g s b) ≡ length g
length-stepped g [] b same = same
length-stepped g (t ∷ s) b same =
    let e : length (s ++ false ∷ []) ≡ length (times_bit (differ t b) g) = rw (length-append, length-times_bit (differ t b) g) (omega arith) in
    length-xor (s ++ false ∷ []) (times_bit (differ t b) g) e ∙ length-times_bit (differ t b) g

pub after-append : (g s m n : List Bool) → after g s (m ++ n) ≡ after g (after g s m) n
after-append g s [] n = refl
after-append g s (b ∷ m) n = after-append g (register_stepped g s b) m n

-- zeros after a zero
pub zeros_after : (s : List Bool) (k : ℕ) → s ++ zeros (suc k) ≡ (s ++ false ∷ []) ++ zeros k
zeros_after [] k = refl
zeros_after (t ∷ s) k = ap (λ (xs : List Bool). t ∷ xs) (zeros_after s k)

-- what is added on both sides of a sum
xor-both : (a c m : List Bool) → length a ≡ length c → length a ≡ length m → xor a m ≡ xor c (xor (xor a c) m)
xor-both a c m first second =
    let inner : xor (xor a c) m ≡ xor c (xor a m) = ap (λ (xs : List Bool). xor xs m) (xor_comm a c) ∙ xor_assoc c a m in
    let long : length c ≡ length (xor a m) = sym first ∙ second ∙ sym (length-xor a m second) in
    sym (ap (xor c) inner ∙ xor_twice c (xor a m) long)

-- what the first bit of the quotient takes away
division_step : (g s m : List Bool) (t b : Bool) → suc (length s) ≡ length g →
    xor (s ++ zeros (suc (length m))) (m ++ zeros (length g)) ≡ xor (times_bit (differ t b) g ++ zeros (length m)) (xor (register_stepped g (t ∷ s) b ++ zeros (length m)) (m ++ zeros (length g)))
division_step g s m t b same =
    let taken : List Bool = times_bit (differ t b) g in
    let moved : List Bool = s ++ false ∷ [] in
    let later : List Bool = zeros (length m) in
    let message : List Bool = m ++ zeros (length g) in
    let taken_length : length taken ≡ length g = length-times_bit (differ t b) g in
    let after_length : length later ≡ length m = length-zeros (length m) in
    let none_length : length (zeros (length g)) ≡ length g = length-zeros (length g) in
    let moved_length : length moved ≡ length taken = simp length-append (omega arith) in
    let first : length (moved ++ later) ≡ length (taken ++ later) = simp length-append (omega arith) in
    let second : length (moved ++ later) ≡ length message = simp length-append (omega arith) in
    let parts : xor (moved ++ later) (taken ++ later) ≡ register_stepped g (t ∷ s) b ++ later =
    xor-append moved taken later later moved_length ∙ ap (λ (xs : List Bool). xor moved taken ++ xs) (xor-zeros (length m) later after_length) in
    ap (λ (xs : List Bool). xor xs message) (zeros_after s (length m))
    ∙ xor-both (moved ++ later) (taken ++ later) message first second
    ∙ ap (λ (xs : List Bool). xor (taken ++ later) (xor xs message)) parts

-- the division with one more bit of the message
division_more : (g s m q r : List Bool) (t b : Bool) → suc (length s) ≡ length g → length q ≡ length m →
    xor (register_stepped g (t ∷ s) b ++ zeros (length m)) (m ++ zeros (length g)) ≡ xor (mul q (true ∷ g)) (zeros (length m) ++ r) →
    differ t b ∷ xor (s ++ zeros (suc (length m))) (m ++ zeros (length g)) ≡ xor (mul (differ t b ∷ q) (true ∷ g)) (false ∷ (zeros (length m) ++ r))
division_more g s m q r t b same long rest =
    let left : List Bool = times_bit (differ t b) g ++ zeros (length m) in
    let tail : List Bool = zeros (length m) ++ r in
    let product : mul (differ t b ∷ q) (true ∷ g) ≡ differ t b ∷ xor left (mul q (true ∷ g)) =
    mul-cons (differ t b) q g ∙ ap (λ (n : ℕ). differ t b ∷ xor (times_bit (differ t b) g ++ zeros n) (mul q (true ∷ g))) long in
    let whole : xor (mul (differ t b ∷ q) (true ∷ g)) (false ∷ tail) ≡ differ t b ∷ xor (xor left (mul q (true ∷ g))) tail =
    ap (λ (xs : List Bool). xor xs (false ∷ tail)) product ∙ ap (λ (x : Bool). x ∷ xor (xor left (mul q (true ∷ g))) tail) (differ-false (differ t b)) in
    let step : xor (s ++ zeros (suc (length m))) (m ++ zeros (length g)) ≡ xor (xor left (mul q (true ∷ g))) tail =
    division_step g s m t b same ∙ ap (xor left) rest ∙ sym (xor_assoc left (mul q (true ∷ g)) tail) in
    ap (λ (xs : List Bool). differ t b ∷ xs) step ∙ sym whole

pub divides : (g s m : List Bool) → 0 < length g → length s ≡ length g → IsCrc g s m (after g s m)
divides g s [] some same = record {
  start_width = same;
  width = same;
  quotient = [];
  quotient_length = refl;
  division = rw (append-nil s, xor_comm s (zeros (length g)));
}
divides g [] (b ∷ m) some same = absurd (omega arith)
divides g (t ∷ s) (b ∷ m) some same =
    let rest : IsCrc g (register_stepped g (t ∷ s) b) m (after g (register_stepped g (t ∷ s) b) m) = divides g (register_stepped g (t ∷ s) b) m some (length-stepped g (t ∷ s) b same) in
    record {
      start_width = same;
      width = rest.width;
      quotient = differ t b ∷ rest.quotient;
      quotient_length = ap suc rest.quotient_length;
      division = division_more g s m rest.quotient (after g (register_stepped g (t ∷ s) b) m) t b same rest.quotient_length rest.division;
    }
