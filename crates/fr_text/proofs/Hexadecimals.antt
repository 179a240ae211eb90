-- Hexadecimal text, digit by digit.
use Rattle.std.proofs.Common.{◌≡◌, ℕ, suc, ◌-◌, ◌≤◌, ◌/◌, ◌%◌, List, [], ◌∷◌, ◌++◌, refl, ap, sym, ◌∙◌, append_assoc, append-nil, arith}
use Rattle.fr_text.specs.Numerals.{hexadecimal, digit_of}

step : (k n : ℕ) → hexadecimal (suc k) n ≡ hexadecimal k (n / 16) ++ digit_of (n % 16) ∷ []
unfolding hexadecimal
step k n = refl

hexadecimal_step : (k n : ℕ) → 1 ≤ k → hexadecimal k n ≡ hexadecimal (k - 1) (n / 16) ++ digit_of (n % 16) ∷ []
hexadecimal_step k n some =
    let same : k ≡ suc (k - 1) = omega arith in
    ap (λ (d : ℕ). hexadecimal d n) same ∙ step (k - 1) n

pub append_last : (old : List ℕ) (k n : ℕ) → 1 ≤ k → (old ++ hexadecimal (k - 1) (n / 16)) ++ digit_of (n % 16) ∷ [] ≡ old ++ hexadecimal k n
append_last old k n some = append_assoc old (hexadecimal (k - 1) (n / 16)) (digit_of (n % 16) ∷ []) ∙ ap (λ (text : List ℕ). old ++ text) (sym (hexadecimal_step k n some))

none : (n : ℕ) → hexadecimal 0 n ≡ []
unfolding hexadecimal
none n = refl

pub append_none : (old : List ℕ) (k n : ℕ) → k ≡ 0 → old ≡ old ++ hexadecimal k n
append_none old k n zero = sym (ap (λ (d : ℕ). old ++ hexadecimal d n) zero ∙ ap (λ (text : List ℕ). old ++ text) (none n) ∙ append-nil old)
