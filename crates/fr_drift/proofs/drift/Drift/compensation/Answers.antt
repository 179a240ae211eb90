use Rattle.std.proofs.Common.{◌≡◌, rules}
use mir.Val.{to_z, of_z}
use mir.Syntax.{w64}
use Rattle.std.proofs.lemmas.Int.{to_z-of_z}
use Rattle.fr_base.specs.declared.channel.Channel.TheVariants as channel
use Rattle.fr_drift.proofs.drift.Drift.compensation.Goals as goal

pub returns-in-A-clause-from : goal.returns-in-A-clause-from
returns-in-A-clause-from c =
    let back : to_z w64 (of_z w64 c.self.inside.compensation_a) ≡ c.self.inside.compensation_a = to_z-of_z w64 c.self.inside.compensation_a (search rules) in
    rw back (c.self.invariant.compensation channel.A).from

pub returns-in-A-clause-to : goal.returns-in-A-clause-to
returns-in-A-clause-to c =
    let back : to_z w64 (of_z w64 c.self.inside.compensation_a) ≡ c.self.inside.compensation_a = to_z-of_z w64 c.self.inside.compensation_a (search rules) in
    rw back (c.self.invariant.compensation channel.A).to

pub returns-in-B-clause-from : goal.returns-in-B-clause-from
returns-in-B-clause-from c =
    let back : to_z w64 (of_z w64 c.self.inside.compensation_b) ≡ c.self.inside.compensation_b = to_z-of_z w64 c.self.inside.compensation_b (search rules) in
    rw back (c.self.invariant.compensation channel.B).from

pub returns-in-B-clause-to : goal.returns-in-B-clause-to
returns-in-B-clause-to c =
    let back : to_z w64 (of_z w64 c.self.inside.compensation_b) ≡ c.self.inside.compensation_b = to_z-of_z w64 c.self.inside.compensation_b (search rules) in
    rw back (c.self.invariant.compensation channel.B).to
