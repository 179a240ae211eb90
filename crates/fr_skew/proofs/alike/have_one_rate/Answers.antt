use Rattle.std.proofs.Common.{FitsSigned, w32, rules}
use Rattle.std.proofs.lemmas.Int.{to_z-of_z}
use Rattle.fr_skew.proofs.Pacing.{none_of_one_rate}
use Rattle.fr_skew.proofs.alike.have_one_rate.Goals as goal

pub returns-in-None : goal.returns-in-None
returns-in-None c held = none_of_one_rate c.args.rows.now c.in-None.ensures.value

pub returns-in-Some : goal.returns-in-Some
returns-in-Some c held =
    let first = c.in-Some.first.now in
    let rate : FitsSigned w32 first.rate = search rules in
    let each = simp to_z-of_z at c.have_rate.ensures in
    record { rate = first.rate; each = each held }
