-- Fields that are written without quotes: those of numbers.
use Rattle.std.proofs.Common.{◌≡◌, ◌<◌, ◌+◌, ◌^◌, ◌%◌, ◌/◌, ℕ, suc, zero, ℤ, pos, negsuc, ◌≤ℤ◌, Bool, true, false, List, [], ◌∷◌, refl, ◌∙◌, arith}
use Rattle.std.specs.Prelude.{◌==◌, nat_lt, if◌then◌else◌}
use Rattle.std.specs.Fmt.{decimal, signed_decimal}
use Rattle.std.specs.Str.Parse.{AllDigits}
use Rattle.std.proofs.lemmas.Fmt.{decimal_is_IsNumeral}
use Rattle.std.proofs.lemmas.Int.{ints}
use Rattle.std.proofs.lemmas.List.Folds.{list_all-append}
use Rattle.std.proofs.lemmas.Str.Parse.{digit_from_value}
use Rattle.fr_text.specs.Numerals.{digit_of, hexadecimal}
use Rattle.fr_text.specs.Texts.{is_plain_byte, is_plain_field}

not-equal : (a b : ℕ) → b < a → (a == b) ≡ false
not-equal a b more = grind arith

-- a byte above the comma is plain
pub above-comma : (c : ℕ) → 44 < c → is_plain_byte c ≡ true
above-comma c more = rw (not-equal c 44 more, not-equal c 34 (omega arith), not-equal c 13 (omega arith), not-equal c 10 (omega arith)) refl

digits-plain : (ds : List ℕ) → AllDigits 10 ds → is_plain_field ds ≡ true
digits-plain [] h = refl
digits-plain (c ∷ cs) h = let k = digit_from_value c h.0 in rw (above-comma c (omega (arith, k.0)), digits-plain cs h.1) refl

pub decimal-plain : (n : ℕ) → n < 2 ^ 64 → is_plain_field (decimal n) ≡ true
decimal-plain n fits = let numeral = decimal_is_IsNumeral n fits in digits-plain (decimal n) numeral.0.1

pub signed-plain : (z : ℤ) → negsuc 999_999_999_999_999_998 ≤ℤ z → z ≤ℤ pos 999_999_999_999_999_999 → is_plain_field (signed_decimal z) ≡ true
signed-plain (pos n) low high = decimal-plain n (omega (arith, ints))
signed-plain (negsuc n) low high = decimal-plain (suc n) (omega (arith, ints))

digit-plain : (d : ℕ) → is_plain_byte (digit_of d) ≡ true
digit-plain d = by (nat_lt d 10)
  where
    by : (low : Bool) → is_plain_byte (if low then 48 + d else 55 + d) ≡ true
    by true = above-comma (48 + d) (omega arith)
    by false = above-comma (55 + d) (omega arith)

pub hexadecimal-plain : (digits n : ℕ) → is_plain_field (hexadecimal digits n) ≡ true
unfolding hexadecimal
hexadecimal-plain zero n = refl
hexadecimal-plain (suc digits) n =
    list_all-append is_plain_byte (hexadecimal digits (n / 16)) (digit_of (n % 16) ∷ [])
    ∙ rw (hexadecimal-plain digits (n / 16), digit-plain (n % 16)) refl
