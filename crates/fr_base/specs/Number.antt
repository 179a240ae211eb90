-- The numbers that the fields of a file and the words of a command write.
use Rattle.std.specs.Prelude.{ℕ, ℤ, pos, neg_ℤ, Bool, List, length, drop, nat_le, int_lt, ◌&&◌, ◌||◌, if◌then◌else◌, Option, Some, None, option_map, Result, Ok, Err}
use Rattle.std.specs.List.{list_all}
use Rattle.std.specs.Char.{is_ascii_digit}
use Rattle.std.specs.Str.Parse.{digits_value, starts_with_minus}
use Rattle.fr_base.specs.declared.numbers.NumberFault.{NumberFault}
use Rattle.fr_base.specs.declared.numbers.NumberFault.TheVariants as fault

-- 1 to 18 bytes, each a decimal digit
abbrev pub is_digits : List ℕ → Bool
is_digits text = nat_le 1 (length text) && nat_le (length text) 18 && list_all is_ascii_digit text

-- the number that decimal digits write, where a text is that many of them
abbrev pub magnitude_of : List ℕ → Option ℕ
magnitude_of text = if is_digits text then Some (digits_value 10 text) else None

-- the number that a text writes: its digits, with an optional minus in front
abbrev pub number_of : List ℕ → Option ℤ
number_of text = if starts_with_minus text then option_map (λ n. neg_ℤ (pos n)) (magnitude_of (drop 1 text)) else option_map pos (magnitude_of text)

-- a number where it lies from lo to hi, and else why there is none
abbrev pub within : ℤ → ℤ → Option ℤ → Result ℤ NumberFault
within lo hi None = Err fault.NotDigits
within lo hi (Some z) = if int_lt z lo || int_lt hi z then Err fault.OutOfRange else Ok z
