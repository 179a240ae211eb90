-- The decimal text of a number of 128 bits, a digit at a time.
use Rattle.std.proofs.Common.{◌≡◌, ℕ, ◌+◌, ◌<◌, ◌≤◌, ◌^◌, ◌/◌, ◌%◌, List, [], ◌∷◌, ◌++◌, length, ap, ◌∙◌, sym, length-append, append_assoc, arith}
use Rattle.std.specs.Fmt.{decimal}
use Rattle.std.proofs.lemmas.Fmt.{decimal_step_wide, decimal_digit, length-decimal-le_wide}

few_digits : (n : ℕ) → n < 2 ^ 128 → n < 10 ^ 64
few_digits n fits = omega (arith, fits)

pub length_more : (n : ℕ) → 10 ≤ n → n < 2 ^ 128 → length (decimal n) ≡ length (decimal (n / 10)) + 1
length_more n more fits = ap length (decimal_step_wide n more (few_digits n fits)) ∙ length-append (decimal (n / 10)) ((48 + n % 10) ∷ [])

pub length_one : (n : ℕ) → n < 10 → length (decimal n) ≡ 1
length_one n less = ap length (decimal_digit n less)

-- the text so far, a number without its last digit, and this
pub append_last : (old : List ℕ) (n : ℕ) → 10 ≤ n → n < 2 ^ 128 → (old ++ decimal (n / 10)) ++ (48 + n % 10) ∷ [] ≡ old ++ decimal n
append_last old n more fits =
    append_assoc old (decimal (n / 10)) ((48 + n % 10) ∷ []) ∙ ap (λ (text : List ℕ). old ++ text) (sym (decimal_step_wide n more (few_digits n fits)))

pub append_only : (old : List ℕ) (n : ℕ) → n < 10 → old ++ (48 + n) ∷ [] ≡ old ++ decimal n
append_only old n less = ap (λ (text : List ℕ). old ++ text) (sym (decimal_digit n less))

-- there are at most 39
pub digits_fit : (n : ℕ) → n < 2 ^ 128 → length (decimal n) ≤ 39
digits_fit n fits = length-decimal-le_wide 39 n (omega arith) (omega (arith, fits)) (few_digits n fits)
