use Rattle.std.proofs.Common.{◌≡◌, ℤ, pos, ap, ◌∙◌, FitsSigned, w32, w64, arith}
use Rattle.std.specs.Prelude.{◌+ℤ◌, ◌-ℤ◌, ◌*ℤ◌}
use Rattle.std.proofs.lemmas.Int.{ints, to_z-of_z}
use Rattle.fr_time.specs.Position.{even_position, grid_for}
use Rattle.fr_time.specs.Slots.{action_point_of}
use Rattle.fr_node.specs.Listening.{caught_in}
use Rattle.fr_node.proofs.Beginning.{key_is_static, start_is}
use Rattle.fr_node.proofs.listener.first_start.Goals as goal

pub rest_of-rest-requires-clause-slot : goal.rest_of-rest-requires-clause-slot
rest_of-rest-requires-clause-slot c = key_is_static c.args.params.now c.args.caught.now.slot c.sane.ensures c.requires.slot

pub returns-clause-value : goal.returns-clause-value
returns-clause-value c =
    let p = c.args.params.now in
    let k = c.args.caught.now in
    let rate : FitsSigned w32 c.args.rate = c.ranges.rate in
    let rest : FitsSigned w64 c.rest_of-rest.result = omega (arith, ints, c.rest_of-rest.ensures.within.low, c.rest_of-rest.ensures.within.high) in
    let taken : FitsSigned w64 c.compensation.result = omega (arith, ints, c.compensation.ensures.from, c.compensation.ensures.to) in
    let left : FitsSigned w64 c.less-rest.result = omega (arith, ints, c.less-rest.ensures.within.low, c.less-rest.ensures.within.high) in
    let ticks : FitsSigned w64 c.ticks_of.result = omega (arith, ints, c.ticks_of.ensures.within.low, c.ticks_of.ensures.within.high) in
    let late : FitsSigned w64 c.args.caught.now.late = omega (arith, ints, c.requires.caught.late.low, c.requires.caught.late.high) in
    let length : FitsSigned w64 c.args.caught.now.odd_length = omega (arith, ints, c.requires.caught.odd_length.low, c.requires.caught.odd_length.high) in
    let rest_is : c.rest_of-rest.result ≡ (p.micros +ℤ c.args.rate) -ℤ even_position (grid_for p) c.args.rate (pos (action_point_of p k.slot)) = simp to_z-of_z at c.rest_of-rest.ensures.value in
    let less_is : c.less-rest.result ≡ c.rest_of-rest.result -ℤ c.compensation.result = simp to_z-of_z at c.less-rest.ensures.value in
    let ticks_is : c.ticks_of.result ≡ c.less-rest.result *ℤ k.odd_length = simp to_z-of_z at c.ticks_of.ensures.value in
    let behind_is : c.behind.result ≡ k.late +ℤ c.ticks_of.result = simp to_z-of_z at c.behind.ensures.value in
    let last : FitsSigned w64 c.behind.result = omega (arith, ints, c.behind.ensures.within.low, c.behind.ensures.within.high) in
    simp to_z-of_z (start_is p (caught_in k) c.args.rate c.rest_of-rest.result c.less-rest.result c.ticks_of.result c.behind.result c.requires.rate rest_is
    (less_is ∙ ap (λ (x : ℤ). c.rest_of-rest.result -ℤ x) c.compensation.ensures.value) ticks_is behind_is)
