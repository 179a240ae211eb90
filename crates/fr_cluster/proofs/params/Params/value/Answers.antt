use Rattle.std.proofs.Common.{◌≡◌, subst, rules, w64}
use mir.Val.{to_z, of_z}
use Rattle.std.proofs.lemmas.Int.{to_z-of_z}
use Rattle.fr_cluster.specs.Sane.{IsSane}
use Rattle.fr_cluster.proofs.params.Params.value.Goals as goal

pub returns-clause-range : goal.returns-clause-range
returns-clause-range c =
    let sane : IsSane c.args.self.now = subst IsSane c.self.view_is c.self.invariant in
    let back : to_z w64 (of_z w64 c.figure.result) ≡ c.figure.result = to_z-of_z w64 c.figure.result (search rules) in
    rw (back, c.figure.ensures) (sane.ranges c.args.name)
