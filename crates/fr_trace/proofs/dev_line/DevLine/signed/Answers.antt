use Rattle.std.proofs.Common.{◌≡◌, ℕ, ◌+◌, ◌≤◌, List, ◌++◌, length, ap, ◌∙◌, length-append, arith, rules}
use Rattle.std.specs.Fmt.{decimal}
use Rattle.fr_text.proofs.Decimals.{natural_fits}
use Rattle.fr_trace.proofs.dev_line.DevLine.signed.Goals as goal

-- a number of at most 20 digits before some bytes
few : (value : ℕ) (before after : List ℕ) → length (decimal value) ≤ 20 → after ≡ decimal value ++ before → length after ≤ 20 + length before
few value before after fits is =
    let long : length after ≡ length (decimal value) + length before = ap length is ∙ length-append (decimal value) before in
    omega (arith, long, fits)

pub digits-requires : goal.digits-requires
digits-requires c = omega (arith, natural_fits c.unsigned_abs.result (search rules), c.requires)

pub byte-requires : goal.byte-requires
byte-requires c =
    omega (arith, few c.unsigned_abs.result c.args.self.now c.digits.new.self (natural_fits c.unsigned_abs.result (search rules)) c.digits.ensures, c.requires)

pub returns-then-value-lt0-clause-short : goal.returns-then-value-lt0-clause-short
returns-then-value-lt0-clause-short c =
    let long : length c.byte.new.self ≡ length c.digits.new.self + 1 = c.byte.ensures.long in
    omega (arith, long, few c.unsigned_abs.result c.args.self.now c.digits.new.self (natural_fits c.unsigned_abs.result (search rules)) c.digits.ensures)

pub returns-else-value-lt0-clause-short : goal.returns-else-value-lt0-clause-short
returns-else-value-lt0-clause-short c =
    omega (arith, few c.unsigned_abs.result c.args.self.now c.digits.new.self (natural_fits c.unsigned_abs.result (search rules)) c.digits.ensures)
