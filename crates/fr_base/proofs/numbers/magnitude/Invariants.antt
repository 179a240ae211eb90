use Rattle.std.proofs.Common.{◌≡◌, ◌<◌, ◌^◌, take, true}
use Rattle.std.specs.List.{list_all}
use Rattle.std.specs.Char.{is_ascii_digit}
use Rattle.std.specs.Str.Parse.{digits_value}
use Rattle.fr_base.proofs.numbers.magnitude.Given as goal

-- the bytes so far are digits, the sum is their value, and so it has no more digits than they
abbrev pub invariant-loop-digit : goal.invariant-loop-digit
invariant-loop-digit l = record {
  digits : list_all is_ascii_digit (take l.digit-index l.digits) ≡ true;
  value : l.sum ≡ digits_value 10 (take l.digit-index l.digits);
  small : l.sum < 10 ^ l.digit-index;
}
