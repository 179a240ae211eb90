-- A message has one remainder.
use Rattle.std.proofs.Common.{◌≡◌, ℕ, ◌+◌, zero, suc, Bool, true, false, List, [], ◌∷◌, ◌++◌, length, ap, sym, ◌∙◌, arith, length-append}
use Rattle.fr_base.specs.declared.channel.Channel.{Channel}
use Rattle.fr_crc.specs.Bits.{xor, zeros, times_bit, mul}
use Rattle.fr_crc.specs.Crc.{IsCrc, IsHeaderCrc, IsFrameCrc}
use Rattle.fr_crc.proofs.Sums.{differ-false, xor_assoc, xor-zeros, xor_cancel, length-xor, length-zeros, length-times_bit, mul-cons, length-mul}
use Rattle.fr_crc.proofs.Remainders.{number_from_bits}

-- the division of one bit more, with its first bit apart
apart : (g q r : List Bool) (c : Bool) (k : ℕ) → length q ≡ k →
    xor (mul (c ∷ q) (true ∷ g)) (zeros (suc k) ++ r) ≡ c ∷ xor (times_bit c g ++ zeros k) (xor (mul q (true ∷ g)) (zeros k ++ r))
apart g q r c k long =
    ap (λ (xs : List Bool). xor xs (false ∷ (zeros k ++ r))) (mul-cons c q g ∙ ap (λ (n : ℕ). c ∷ xor (times_bit c g ++ zeros n) (mul q (true ∷ g))) long)
    ∙ rw (differ-false c, xor_assoc (times_bit c g ++ zeros k) (mul q (true ∷ g)) (zeros k ++ r))

-- two divisions with one sum have one remainder
one_rest : (k : ℕ) (g p q r s : List Bool) → length p ≡ k → length q ≡ k → length r ≡ length g → length s ≡ length g →
    xor (mul p (true ∷ g)) (zeros k ++ r) ≡ xor (mul q (true ∷ g)) (zeros k ++ s) → r ≡ s
one_rest zero g [] [] r s p_long q_long r_long s_long same =
    sym (xor-zeros (length g) r r_long) ∙ same ∙ xor-zeros (length g) s s_long
one_rest zero g (c ∷ p) q r s p_long q_long r_long s_long same = absurd (omega arith)
one_rest zero g [] (d ∷ q) r s p_long q_long r_long s_long same = absurd (omega arith)
one_rest (suc k) g [] q r s p_long q_long r_long s_long same = absurd (omega arith)
one_rest (suc k) g (c ∷ p) [] r s p_long q_long r_long s_long same = absurd (omega arith)
one_rest (suc k) g (c ∷ p) (d ∷ q) r s p_long q_long r_long s_long same =
    let p_k : length p ≡ k = omega arith in
    let q_k : length q ≡ k = omega arith in
    let here : List Bool = xor (mul p (true ∷ g)) (zeros k ++ r) in
    let there : List Bool = xor (mul q (true ∷ g)) (zeros k ++ s) in
    let whole : c ∷ xor (times_bit c g ++ zeros k) here ≡ d ∷ xor (times_bit d g ++ zeros k) there =
    sym (apart g p r c k p_k) ∙ same ∙ apart g q s d k q_k in
    let bit : c ≡ d = cc in
    let rest : xor (times_bit c g ++ zeros k) here ≡ xor (times_bit d g ++ zeros k) there = cc in
    let turned : xor (times_bit c g ++ zeros k) here ≡ xor (times_bit c g ++ zeros k) there =
    rest ∙ ap (λ (b : Bool). xor (times_bit b g ++ zeros k) there) (sym bit) in
    one_rest k g p q r s p_k q_k r_long s_long (xor_cancel (times_bit c g ++ zeros k) here there
    (front c k g ∙ sym (sum_length g p r k p_k r_long)) (front c k g ∙ sym (sum_length g q s k q_k s_long)) turned)
  where
    front : (c : Bool) (k : ℕ) (g : List Bool) → length (times_bit c g ++ zeros k) ≡ k + length g
    front c k g = simp (length-append, length-times_bit, length-zeros) (omega arith)

    sum_length : (g q r : List Bool) (k : ℕ) → length q ≡ k → length r ≡ length g → length (xor (mul q (true ∷ g)) (zeros k ++ r)) ≡ k + length g
    sum_length g q r k q_long r_long =
        let right : length (zeros k ++ r) ≡ k + length g = simp (length-append, length-zeros) (omega arith) in
        let left : length (mul q (true ∷ g)) ≡ length (zeros k ++ r) = length-mul q g ∙ omega arith in
        length-xor (mul q (true ∷ g)) (zeros k ++ r) left ∙ right

pub remainder_is_one : (generator start message first second : List Bool) → IsCrc generator start message first → IsCrc generator start message second → first ≡ second
remainder_is_one generator start message first second one other =
    one_rest (length message) generator one.quotient other.quotient first second one.quotient_length other.quotient_length one.width other.width
    (sym one.division ∙ other.division)

pub header_crc_is_one : (sync startup : Bool) (id words first second : ℕ) → IsHeaderCrc sync startup id words first → IsHeaderCrc sync startup id words second → first ≡ second
header_crc_is_one sync startup id words first second one other =
    number_from_bits 11 first second one.fits other.fits (remainder_is_one _ _ _ _ _ one.remainder other.remainder)

pub frame_crc_is_one : (channel : Channel) (body : List ℕ) (first second : ℕ) → IsFrameCrc channel body first → IsFrameCrc channel body second → first ≡ second
frame_crc_is_one channel body first second one other =
    number_from_bits 24 first second one.fits other.fits (remainder_is_one _ _ _ _ _ one.remainder other.remainder)
