use Rattle.std.proofs.Common.{◌≡◌, ap, ◌∙◌, FitsSigned, w32, w64, rules, arith}
use Rattle.std.specs.Prelude.{◌-ℤ◌}
use Rattle.std.proofs.lemmas.Int.{ints, to_z-of_z}
use Rattle.fr_time.specs.Instant.{early_position}
use Rattle.fr_time.specs.Position.{even_position, floor_of, grid_for}
use Rattle.fr_time.specs.Slots.{action_point_of}
use Rattle.fr_node.proofs.answers.deviation.Goals as goal

pub returns-clause-value : goal.returns-clause-value
returns-clause-value c =
    let at : FitsSigned w64 c.args.arrival.at = search rules in
    let rate : FitsSigned w32 c.args.row.now.rate = search rules in
    let point : FitsSigned w64 c.action_point.result = omega (arith, ints) in
    let passed : c.microticks_until-passed.result ≡ floor_of (c.args.arrival.at -ℤ c.args.row.now.start) c.args.row.now.length = simp to_z-of_z at c.microticks_until-passed.ensures.value in
    let read : c.early_position-due.result ≡ even_position (grid_for c.args.params.now) c.args.row.now.rate c.action_point.result = simp to_z-of_z at c.early_position-due.ensures.value in
    let due : c.early_position-due.result ≡ early_position c.args.params.now c.args.row.now (action_point_of c.args.params.now c.args.arrival.slot) =
    read ∙ ap (even_position (grid_for c.args.params.now) c.args.row.now.rate) c.action_point.ensures.value in
    omega (arith, ints, passed, due, c.microticks_until-passed.ensures.within.low, c.microticks_until-passed.ensures.within.high, c.early_position-due.ensures.within.low, c.early_position-due.ensures.within.high, c.compensation.ensures.value, c.compensation.ensures.from, c.compensation.ensures.to)
