-- The decimal text of a number, two digits at a time.
use Rattle.std.proofs.Common.{◌≡◌, ℕ, ◌+◌, ◌<◌, ◌≤◌, ◌^◌, ◌/◌, ◌%◌, List, [], ◌∷◌, ◌++◌, length, ap, ◌∙◌, sym, length-append, append_assoc, arith}
use Rattle.std.specs.Prelude.{ℤ}
use lib.Signed.{mag}
use Rattle.std.specs.Fmt.{decimal, signed_decimal}
use Rattle.std.proofs.lemmas.Fmt.{decimal_step, decimal_digit, length-decimal-le, length_signed_le}

-- the digits of a number below 100
abbrev pub two_digits : ℕ → List ℕ
two_digits n = (48 + n / 10) ∷ (48 + n % 10) ∷ []

two_more : (n : ℕ) → 100 ≤ n → n < 2 ^ 64 → decimal n ≡ decimal (n / 100) ++ two_digits (n % 100)
two_more n more fits =
    let tens : n / 10 / 10 ≡ n / 100 = omega arith in
    let ten : n / 10 % 10 ≡ n % 100 / 10 = omega arith in
    let one : n % 10 ≡ n % 100 % 10 = omega arith in
    decimal_step n (omega arith) fits
    ∙ ap (λ (text : List ℕ). text ++ (48 + n % 10) ∷ []) (decimal_step (n / 10) (omega arith) (omega arith))
    ∙ append_assoc (decimal (n / 10 / 10)) ((48 + n / 10 % 10) ∷ []) ((48 + n % 10) ∷ [])
    ∙ (λ i. decimal (tens i) ++ (48 + ten i) ∷ (48 + one i) ∷ [])

two_only : (n : ℕ) → 10 ≤ n → n < 100 → decimal n ≡ two_digits n
two_only n more less =
    decimal_step n more (omega arith) ∙ ap (λ (text : List ℕ). text ++ (48 + n % 10) ∷ []) (decimal_digit (n / 10) (omega arith))

pub length_two_more : (n : ℕ) → 100 ≤ n → n < 2 ^ 64 → length (decimal n) ≡ length (decimal (n / 100)) + 2
length_two_more n more fits = ap length (two_more n more fits) ∙ length-append (decimal (n / 100)) (two_digits (n % 100))

pub length_two_only : (n : ℕ) → 10 ≤ n → n < 100 → length (decimal n) ≡ 2
length_two_only n more less = ap length (two_only n more less)

pub length_digit : (n : ℕ) → n < 10 → length (decimal n) ≡ 1
length_digit n less = ap length (decimal_digit n less)

-- the text so far, a number without its last two digits, and these
pub append_two : (old : List ℕ) (n : ℕ) → 100 ≤ n → n < 2 ^ 64 → (old ++ decimal (n / 100)) ++ two_digits (n % 100) ≡ old ++ decimal n
append_two old n more fits = append_assoc old (decimal (n / 100)) (two_digits (n % 100)) ∙ ap (λ (text : List ℕ). old ++ text) (sym (two_more n more fits))

pub append_both : (old : List ℕ) (n : ℕ) → 10 ≤ n → n < 100 → old ++ two_digits n ≡ old ++ decimal n
append_both old n more less = ap (λ (text : List ℕ). old ++ text) (sym (two_only n more less))

pub append_digit : (old : List ℕ) (n : ℕ) → n < 10 → old ++ (48 + n) ∷ [] ≡ old ++ decimal n
append_digit old n less = ap (λ (text : List ℕ). old ++ text) (sym (decimal_digit n less))

-- a number of 64 bits has at most 20 digits
pub natural_fits : (n : ℕ) → n < 2 ^ 64 → length (decimal n) ≤ 20
natural_fits n fits = length-decimal-le 20 n (omega arith) (omega arith) fits

-- and a signed one, with its sign, at most 20 bytes
pub signed_fits : (z : ℤ) → mag z < 2 ^ 63 → length (signed_decimal z) ≤ 20
signed_fits z fits = length_signed_le 19 z (omega arith) fits
