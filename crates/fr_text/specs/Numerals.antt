-- Numbers as hexadecimal text.
use Rattle.std.specs.Prelude.{ℕ, zero, suc, ◌+◌, ◌/◌, ◌%◌, List, [], ◌∷◌, ◌++◌, nat_lt, if◌then◌else◌}

-- the character of a digit: 0 to 9, A to F
abbrev pub digit_of : ℕ → ℕ
digit_of digit = if nat_lt digit 10 then 48 + digit else 55 + digit

-- that many hexadecimal digits of a number, upper case, the last digit last
unfoldable pub hexadecimal : ℕ → ℕ → List ℕ
hexadecimal zero number = []
hexadecimal (suc digits) number = hexadecimal digits (number / 16) ++ digit_of (number % 16) ∷ []
