use Rattle.std.proofs.Common.{◌≡◌, ℕ, ◌<◌, ◌≤◌, ◌^◌, ◌*◌, ◌+◌, ◌-◌, arith, sym, refl, add-one}
use Rattle.std.proofs.Math.Nat.{pow-le-pow_right, pow-suc}
use Rattle.std.specs.Char.{digit_value, is_ascii_digit, IsAsciiDigit}
use Rattle.std.proofs.lemmas.Bool.Decides.{nat_tests}
use Rattle.std.proofs.lemmas.List.Folds.{list_all_more}
use Rattle.std.proofs.lemmas.Int.Digits.{digits_value_more}
use Rattle.fr_base.proofs.numbers.magnitude.Goals as goal

-- 18 digits and one more fit 64 bits
pow-below : (i : ℕ) → i < 19 → 10 ^ i ≤ 10 ^ 18
pow-below i h = pow-le-pow_right {n = 10} (omega arith) {i = i} {j = 18} (omega arith)

-- one digit more is ten times as much
pow-ten : (i : ℕ) → 10 ^ (i + 1) ≡ 10 ^ i * 10
pow-ten i = rw add-one (pow-suc 10 i)

-- the value of a byte that is a digit
digit_value-ascii : (d : ℕ) → IsAsciiDigit d → digit_value d ≡ d - 48
digit_value-ascii d h = grind (arith, nat_tests)

pub overflow_mul-sum : goal.overflow_mul-sum
overflow_mul-sum c = let few = pow-below c.loop-digit.digit-index (omega arith) in omega arith

pub overflow_add-sum : goal.overflow_add-sum
overflow_add-sum c =
    let few = pow-below c.loop-digit.digit-index (omega arith) in omega (arith, c.if-not-is_ascii_digit.ensures.cases)

pub loop-digit-preserved : goal.loop-digit-preserved
loop-digit-preserved c = record {
  digits =
      let more = list_all_more is_ascii_digit c.args.digits.now c.loop-digit.digit-index 0 c.loop-digit-test.true in
      rw (more, c.loop-digit.invariant.digits) (sym c.if-not-is_ascii_digit.ensures.value);
  value =
      let more = digits_value_more 10 c.args.digits.now c.loop-digit.digit-index c.loop-digit-test.true in
      let digit = digit_value-ascii _ c.if-not-is_ascii_digit.ensures.cases in
      rw (more, digit, ← c.loop-digit.invariant.value, c.from.ensures) refl;
  small =
      let tenfold = pow-ten c.loop-digit.digit-index in omega (arith, c.if-not-is_ascii_digit.ensures.cases);
}

pub returns-clause-small : goal.returns-clause-small
returns-clause-small c =
    let most = pow-le-pow_right {n = 10} (omega arith) {i = c.loop-digit.digit-index} {j = 18} (omega arith) in omega arith
