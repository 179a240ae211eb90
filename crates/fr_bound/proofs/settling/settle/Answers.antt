use Rattle.std.proofs.Common.{◌≡◌, nat_abs, to_z, of_z, w64, refl, rules, arith}
use Rattle.std.proofs.lemmas.Int.{to_z-of_z, to_z_pos}
use Rattle.fr_bound.proofs.settling.settle.Goals as goal

pub returns-clause-peak : goal.returns-clause-peak
returns-clause-peak c =
    let start : to_z w64 (of_z w64 c.args.start) ≡ c.args.start = to_z-of_z w64 c.args.start (search rules) in
    let rate : to_z w64 (of_z w64 c.args.rate) ≡ c.args.rate = to_z-of_z w64 c.args.rate (search rules) in
    let peak : nat_abs (to_z w64 c.way-doubles.result.1) ≡ c.way-doubles.result.1 =
    rw (to_z_pos w64 c.way-doubles.result.1 (omega (arith, c.way-doubles.ensures.most))) refl in
    rw peak (rw (start, rate) at c.way-doubles.ensures.peak)
