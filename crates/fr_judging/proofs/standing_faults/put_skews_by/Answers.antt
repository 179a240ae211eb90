use Rattle.std.proofs.Common.{◌≡◌, ℤ, pos, ap, of_z, to_z, rules}
use mir.Syntax.{w128}
use Rattle.fr_observe.specs.Telling.{skew_faults}
use Rattle.fr_observe.proofs.Told.{told_all}
use Rattle.fr_judging.proofs.standing_faults.put_skews_by.Goals as goal

pub returns : goal.returns
returns g c =
    let s = c.args.scene.now in
    let bound : to_z w128 (of_z w128 c.from.result) ≡ pos c.args.apart = search rules in
    told_all (ap (λ (b : ℤ). skew_faults b s.scale.now s.number s.senders.now) bound) c.put_skews.ensures
