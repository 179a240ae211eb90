-- The CRCs of a sum of messages, and which changes of a message change its CRC.
use Rattle.std.proofs.Common.{◌≡◌, ◌↔◌, ℕ, ◌+◌, ◌<◌, ◌≤◌, suc, Bool, true, false, List, [], ◌∷◌, ◌++◌, length, ap, sym, ◌∙◌, subst, arith, length-append}
use Rattle.std.proofs.lemmas.List.{append-nil}
use Rattle.fr_crc.specs.Bits.{xor, zeros}
use Rattle.fr_crc.specs.Crc.{IsCrc}
use Rattle.fr_crc.specs.Register.{register_stepped, after}
use Rattle.fr_crc.proofs.Sums.{length-xor, length-zeros}
use Rattle.fr_crc.proofs.Division.{after-append, divides}
use Rattle.fr_crc.proofs.Unique.{remainder_is_one}
use Rattle.fr_damage.specs.Damage.{inverted, has_odd_ones, EndsInOne, DifferWithin}
use Rattle.fr_damage.proofs.Registers.{xor_self, xor_none, after-sum, feed}
use Rattle.fr_damage.proofs.Patterns.{Unseen, not_empty, length-inverted, one_difference, one_is_seen, two_difference, two_are_seen, odd_is_seen, burst_is_seen, burst_difference, burst_long, two_unseen, stays_away, generator_unseen, window_difference}

-- the remainder is what the register ends with
pub remainder_after : (g s m r : List Bool) → 0 < length g → IsCrc g s m r → after g s m ≡ r
remainder_after g s m r some is = remainder_is_one g s m (after g s m) r (divides g s m some is.start_width) is

-- the remainder of a sum is the sum of the remainders
pub sum_crc : (g s t m n r q : List Bool) → 0 < length g → length m ≡ length n → IsCrc g s m r → IsCrc g t n q → IsCrc g (xor s t) (xor m n) (xor r q)
sum_crc g s t m n r q some same one other =
    let starts : length s ≡ length t = one.start_width ∙ sym other.start_width in
    let ended : after g (xor s t) (xor m n) ≡ xor r q =
    after-sum g s t m n one.start_width other.start_width same
    ∙ ap (λ (xs : List Bool). xor xs (after g t n)) (remainder_after g s m r some one)
    ∙ ap (xor r) (remainder_after g t n q some other) in
    let P : List Bool → Type 0 = λ (xs : List Bool). IsCrc g (xor s t) (xor m n) xs in
    subst P ended (divides g (xor s t) (xor m n) some (length-xor s t starts ∙ other.start_width))

-- with one start value it is that of the difference
pub difference_crc : (g s m n r q : List Bool) → 0 < length g → length m ≡ length n → IsCrc g s m r → IsCrc g s n q → IsCrc g (zeros (length g)) (xor m n) (xor r q)
difference_crc g s m n r q some same one other =
    let P : List Bool → Type 0 = λ (xs : List Bool). IsCrc g xs (xor m n) (xor r q) in
    subst P (xor_self s ∙ ap zeros one.start_width) (sum_crc g s s m n r q some same one other)

pub equal_crcs : (g s m n r q : List Bool) → 0 < length g → length m ≡ length n → IsCrc g s m r → IsCrc g s n q →
    (r ≡ q) ↔ IsCrc g (zeros (length g)) (xor m n) (zeros (length g))
equal_crcs g s m n r q some same one other =
    let is : IsCrc g (zeros (length g)) (xor m n) (xor r q) = difference_crc g s m n r q some same one other in
    let widths : length r ≡ length q = one.width ∙ sym other.width in
    let P : List Bool → Type 0 = λ (xs : List Bool). IsCrc g (zeros (length g)) (xor m n) xs in (
      λ (e : r ≡ q). subst P (ap (λ (xs : List Bool). xor xs q) e ∙ xor_self q ∙ ap zeros other.width) is,
      λ (none : IsCrc g (zeros (length g)) (xor m n) (zeros (length g))).
          xor_none r q widths (remainder_is_one g (zeros (length g)) (xor m n) (xor r q) (zeros (length g)) is none ∙ ap zeros (sym other.width)),
    )

-- where two CRCs agree, the register does not see the difference
pub alike_unseen : (g s m n r q : List Bool) → 0 < length g → length m ≡ length n → IsCrc g s m r → IsCrc g s n q → r ≡ q → Unseen g (xor m n)
alike_unseen g s m n r q some same one other e =
    remainder_after g (zeros (length g)) (xor m n) (zeros (length g)) some ((equal_crcs g s m n r q some same one other).0 e)

-- ---- a message and its CRC bring the register to zeros
pub code_after : (g s m r : List Bool) → 0 < length g → IsCrc g s m r → after g s (m ++ r) ≡ zeros (length g)
code_after g s m r some is =
    let long : length (r ++ []) ≡ length g = ap length (append-nil r) ∙ is.width in
    let fed : after g (r ++ []) r ≡ zeros (length r) = feed g r [] long in
    after-append g s m r
    ∙ ap (λ (xs : List Bool). after g xs r) (remainder_after g s m r some is ∙ sym (append-nil r))
    ∙ fed
    ∙ ap zeros is.width

-- so the register does not see the difference of two of them
pub codes_unseen : (g s c d : List Bool) → length s ≡ length g → length c ≡ length d → after g s c ≡ zeros (length g) → after g s d ≡ zeros (length g) → Unseen g (xor c d)
codes_unseen g s c d s_long same one other =
    let none : List Bool = zeros (length g) in
    sym (ap (λ (xs : List Bool). after g xs (xor c d)) (xor_self s ∙ ap zeros s_long))
    ∙ after-sum g s s c d s_long s_long same
    ∙ ap (λ (xs : List Bool). xor xs (after g s d)) one
    ∙ ap (xor none) other
    ∙ xor_self none
    ∙ ap zeros (length-zeros (length g))

-- ---- the changes
pub one_bit : (g s m r q : List Bool) (place : ℕ) → EndsInOne g → place < length m → IsCrc g s m r → IsCrc g s (inverted place m) q → r ≡ q → ⊥
one_bit g s m r q place ends below one other same =
    let e : Unseen g (xor m (inverted place m)) = alike_unseen g s m (inverted place m) r q (not_empty g ends) (sym (length-inverted place m)) one other same in
    one_is_seen g place (length m) ends below (sym (ap (after g (zeros (length g))) (one_difference place m)) ∙ e)

pub two_bits : (g s m r q : List Bool) (most place distance : ℕ) → EndsInOne g → stays_away most g (register_stepped g g false) ≡ true →
    1 ≤ distance → distance ≤ most → place + distance < length m →
    IsCrc g s m r → IsCrc g s (inverted place (inverted (place + distance) m)) q → r ≡ q → ⊥
two_bits g s m r q most place distance ends is some near below one other same =
    let long : length m ≡ length (inverted place (inverted (place + distance) m)) =
    sym (length-inverted place (inverted (place + distance) m) ∙ length-inverted (place + distance) m) in
    let e : Unseen g (xor m (inverted place (inverted (place + distance) m))) = alike_unseen g s m (inverted place (inverted (place + distance) m)) r q (not_empty g ends) long one other same in
    two_are_seen g most place distance (length m) ends is some near below (sym (ap (after g (zeros (length g))) (two_difference place (place + distance) m)) ∙ e)

-- where the register comes back, two inverted bits so far apart leave the CRC as it was
pub two_bits_alike : (g s m r q : List Bool) (place d : ℕ) → 0 < length g → after g g (zeros (suc d)) ≡ g → place + suc d < length m →
    IsCrc g s m r → IsCrc g s (inverted place (inverted (place + suc d) m)) q → r ≡ q
two_bits_alike g s m r q place d some back below one other =
    let n : List Bool = inverted place (inverted (place + suc d) m) in
    let long : length m ≡ length n = sym (length-inverted place (inverted (place + suc d) m) ∙ length-inverted (place + suc d) m) in
    let none : List Bool = zeros (length g) in
    let unseen : Unseen g (xor m n) = ap (after g none) (two_difference place (place + suc d) m) ∙ two_unseen g place d (length m) back below in
    let P : List Bool → Type 0 = λ (xs : List Bool). IsCrc g none (xor m n) xs in
    (equal_crcs g s m n r q some long one other).1 (subst P unseen (divides g none (xor m n) some (length-zeros (length g))))

has_some : (g : List Bool) → has_odd_ones g ≡ true → 0 < length g
has_some [] odd = absurd (cc)
has_some (x ∷ g) odd = omega arith

pub odd_bits : (g s m n r q : List Bool) → has_odd_ones g ≡ true → length m ≡ length n → has_odd_ones (xor m n) ≡ true → IsCrc g s m r → IsCrc g s n q → r ≡ q → ⊥
odd_bits g s m n r q odd long some one other same =
    odd_is_seen g (xor m n) odd some (alike_unseen g s m n r q (has_some g odd) long one other same)

pub a_burst : (g s m n r q : List Bool) → EndsInOne g → DifferWithin (length g) m n → IsCrc g s m r → IsCrc g s n q → r ≡ q → ⊥
a_burst g s m n r q ends differ one other same =
    burst_is_seen g (xor m n) ends (burst_difference (length g) m n differ) (alike_unseen g s m n r q (not_empty g ends) (burst_long (length g) m n differ) one other same)

-- a burst of one bit more that the CRC does not see
pub wider_burst : (g s before middle behind r q : List Bool) → 0 < length g → length middle ≡ length g + 1 →
    IsCrc g s (before ++ middle ++ behind) r → IsCrc g s (before ++ xor middle (true ∷ g) ++ behind) q → r ≡ q
wider_burst g s before middle behind r q some width one other =
    let wide : length middle ≡ suc (length g) = omega arith in
    let m : List Bool = before ++ middle ++ behind in
    let n : List Bool = before ++ xor middle (true ∷ g) ++ behind in
    let none : List Bool = zeros (length g) in
    let long : length m ≡ length n = simp length-append (omega (arith, wide, length-xor middle (true ∷ g) wide)) in
    let unseen : Unseen g (xor m n) = ap (after g none) (window_difference before middle (true ∷ g) behind wide) ∙ generator_unseen g (length before) (length behind) in
    let P : List Bool → Type 0 = λ (xs : List Bool). IsCrc g none (xor m n) xs in
    (equal_crcs g s m n r q some long one other).1 (subst P unseen (divides g none (xor m n) some (length-zeros (length g))))
