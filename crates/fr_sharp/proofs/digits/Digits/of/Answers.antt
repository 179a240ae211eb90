use Rattle.std.proofs.Common.{◌≡◌, length, ap, arith, rules}
use Rattle.fr_sharp.proofs.DigitTexts.{digits_fit}
use Rattle.fr_sharp.proofs.digits.Digits.of.Goals as goal

pub append-requires : goal.append-requires
append-requires c =
    let none : length c.none-digits.result ≡ 0 = ap length c.none-digits.ensures in
    omega (arith, none, digits_fit c.args.value (search rules))
