-- What fields say that are written as numbers.
use Rattle.std.proofs.Common.{◌≡◌, ◌<◌, ◌≤◌, ◌^◌, ℕ, suc, ℤ, pos, negsuc, ◌≤ℤ◌, true, false, List, [], ◌∷◌, length, Some, Ok, ap, ◌∙◌, refl, arith}
use Rattle.std.specs.Prelude.{◌==◌, ◌||◌, nat_le, nat_lt, int_lt}
use Rattle.std.specs.Char.{is_ascii_digit}
use Rattle.std.specs.Fmt.{decimal, signed_decimal}
use Rattle.std.specs.List.{list_all}
use Rattle.std.specs.Str.Parse.{AllDigits, IsNumeral, digits_value}
use Rattle.std.proofs.lemmas.Bool.Decides.{nat_tests}
use Rattle.std.proofs.lemmas.Fmt.{decimal_is_IsNumeral, length-decimal-le}
use Rattle.std.proofs.lemmas.Int.{ints}
use Rattle.std.proofs.lemmas.Str.Parse.{digit_from_value}
use Rattle.fr_base.specs.Number.{number_of, within}
use Rattle.fr_text.specs.Fields.{natural_of}

digit-passes : (c : ℕ) → 48 ≤ c → c ≤ 57 → is_ascii_digit c ≡ true
digit-passes c low high = grind (arith, nat_tests)

digits-pass : (ds : List ℕ) → AllDigits 10 ds → list_all is_ascii_digit ds ≡ true
digits-pass [] h = refl
digits-pass (c ∷ cs) h = let k = digit_from_value c h.0 in rw (digit-passes c k.0 k.1, digits-pass cs h.1) refl

no-minus : (c : ℕ) → 48 ≤ c → (c == 45) ≡ false
no-minus c low = grind (arith, nat_tests)

few-pass : (n : ℕ) → n ≤ 18 → nat_le n 18 ≡ true
few-pass n h = grind (arith, nat_tests)

some-pass : (n : ℕ) → 1 ≤ n → nat_le 1 n ≡ true
some-pass n h = grind (arith, nat_tests)

-- digits read as their number
read-digits : (ds : List ℕ) → IsNumeral 10 ds → length ds ≤ 18 → number_of ds ≡ Some (pos (digits_value 10 ds))
read-digits [] h few = absurd (omega (arith, h.0))
read-digits (c ∷ cs) h few =
    let k = digit_from_value c h.1.0 in
    rw (no-minus c k.0, some-pass (length (c ∷ cs)) h.0, few-pass (length (c ∷ cs)) few, digits-pass (c ∷ cs) h.1) refl

-- and behind a minus as that number below 0
read-minus : (c : ℕ) (cs : List ℕ) → IsNumeral 10 (c ∷ cs) → length (c ∷ cs) ≤ 18 → (n : ℕ) → digits_value 10 (c ∷ cs) ≡ suc n → number_of (45 ∷ c ∷ cs) ≡ Some (negsuc n)
read-minus c cs h few n e = rw (some-pass (length (c ∷ cs)) h.0, few-pass (length (c ∷ cs)) few, digits-pass (c ∷ cs) h.1, e) refl

pub number-decimal : (n : ℕ) → n < 10 ^ 18 → number_of (decimal n) ≡ Some (pos n)
number-decimal n h =
    let numeral = decimal_is_IsNumeral n (omega arith) in
    let few : length (decimal n) ≤ 18 = length-decimal-le 18 n (omega arith) h (omega arith) in
    read-digits (decimal n) numeral.0 few ∙ ap (λ (k : ℕ). Some (pos k)) numeral.1

minus-decimal : (n : ℕ) (ds : List ℕ) → decimal (suc n) ≡ ds → IsNumeral 10 ds → digits_value 10 ds ≡ suc n → length ds ≤ 18 → number_of (45 ∷ ds) ≡ Some (negsuc n)
minus-decimal n [] is h e few = absurd (omega (arith, h.0))
minus-decimal n (c ∷ cs) is h e few = read-minus c cs h few n e

pub number-signed : (z : ℤ) → negsuc 999_999_999_999_999_998 ≤ℤ z → z ≤ℤ pos 999_999_999_999_999_999 → number_of (signed_decimal z) ≡ Some z
number-signed (pos n) low high = number-decimal n (omega (arith, ints))
number-signed (negsuc n) low high =
    let small : suc n < 10 ^ 18 = omega (arith, ints) in
    let numeral = decimal_is_IsNumeral (suc n) (omega arith) in
    minus-decimal n (decimal (suc n)) refl numeral.0 numeral.1 (length-decimal-le 18 (suc n) (omega arith) small (omega arith))

between : (low high n : ℕ) → low ≤ n → n ≤ high → (nat_lt n low || nat_lt high n) ≡ false
between low high n from to = grind (arith, nat_tests)

-- a natural number in its range
pub natural-decimal : (low high n : ℕ) → low ≤ n → n ≤ high → n < 10 ^ 18 → natural_of low high (decimal n) ≡ Ok n
natural-decimal low high n from to small = rw (number-decimal n small, between low high n from to) refl

between-signed : (low high z : ℤ) → low ≤ℤ z → z ≤ℤ high → (int_lt z low || int_lt high z) ≡ false
between-signed low high z from to = grind (arith, ints)

-- a number in its range
pub within-signed : (low high z : ℤ) → negsuc 999_999_999_999_999_998 ≤ℤ low → high ≤ℤ pos 999_999_999_999_999_999 → low ≤ℤ z → z ≤ℤ high
    → within low high (number_of (signed_decimal z)) ≡ Ok z
within-signed low high z least most from to = rw (number-signed z (omega (arith, ints)) (omega (arith, ints)), between-signed low high z from to) refl
