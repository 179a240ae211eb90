use Rattle.std.proofs.Common.{◌≡◌, ◌+◌, length, ap, ◌∙◌, length-append, arith, rules}
use Rattle.std.specs.Fmt.{decimal}
use Rattle.fr_text.proofs.Decimals.{natural_fits}
use Rattle.fr_capture.proofs.line_end.LineEnd.natural.Goals as goal

pub digits-requires : goal.digits-requires
digits-requires c = omega (arith, natural_fits c.args.value (search rules), c.requires)

pub returns-clause-short : goal.returns-clause-short
returns-clause-short c =
    let long : length c.digits.new.self ≡ length (decimal c.args.value) + length c.args.self.now = ap length c.digits.ensures ∙ length-append (decimal c.args.value) c.args.self.now in
    omega (arith, long, natural_fits c.args.value (search rules))
