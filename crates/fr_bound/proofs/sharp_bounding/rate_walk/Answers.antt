use Rattle.std.proofs.Common.{rules, ◌≡◌, pos, to_z, of_z, w64, ◌∙◌}
use Rattle.std.specs.Prelude.{◌<ℤ◌}
use Rattle.std.proofs.lemmas.Int.{to_z-of_z}
use Rattle.fr_bound.proofs.SharpNumbers.{above_none, walk_damped}
use Rattle.fr_bound.proofs.sharp_bounding.rate_walk.Goals as goal

pub returns-then-damping-gt0-clause-value : goal.returns-then-damping-gt0-clause-value
returns-then-damping-gt0-clause-value c =
    let back : to_z w64 (of_z w64 c.value-damping.result) ≡ c.value-damping.result = to_z-of_z w64 c.value-damping.result (search rules) in
    let some : pos 0 <ℤ c.args.params.now.damping = above_none c.args.params.now.damping _ (back ∙ c.value-damping.ensures.value) c.if-damping-gt0.true in
    rw (back, c.value-damping.ensures.value, c.walk_changes-changes.ensures.value, c.shortest_microtick-shortest.ensures.value)
    (walk_damped c.args.params.now c.args.flutter some)
