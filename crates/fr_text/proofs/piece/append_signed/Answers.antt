use Rattle.std.proofs.Common.{◌≡◌, ◌+◌, ◌≤◌, FitsSigned, length, w64, arith, rules}
use Rattle.std.specs.Fmt.{signed_decimal}
use Rattle.std.proofs.lemmas.Int.{to_z-of_z}
use Rattle.fr_text.proofs.Decimals.{signed_fits}
use Rattle.fr_text.proofs.piece.append_signed.Goals as goal

pub signed-requires : goal.signed-requires
signed-requires c =
    let short : length (signed_decimal c.args.value) ≤ 20 = signed_fits c.args.value (search rules) in
    rw (to_z-of_z w64 c.args.value c.ranges.value) (omega (arith, short, c.requires))

pub returns-clause-short : goal.returns-clause-short
returns-clause-short c =
    let short : length (signed_decimal c.args.value) ≤ 20 = signed_fits c.args.value (search rules) in
    let fits : FitsSigned w64 c.args.value = c.ranges.value in
    let long : length c.signed.new.self ≡ length c.args.line.now + length (signed_decimal c.args.value) = simp to_z-of_z at c.signed.ensures.long in
    omega (arith, short, long)
