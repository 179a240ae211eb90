use Rattle.std.proofs.Common.{◌≡◌, pos, of_z, to_z, rules}
use mir.Syntax.{w128}
use Rattle.fr_judging.specs.Knowing.{known_apart}
use Rattle.fr_observe.specs.Telling.{apart_faults}
use Rattle.fr_observe.proofs.Told.{told_all, told_cut, told_then}
use Rattle.fr_judging.proofs.standing_faults.put_apart_by.Goals as goal

pub returns-in_err-put_apart : goal.returns-in_err-put_apart
unfolding known_apart
returns-in_err-put_apart g c =
    let s = c.args.scene.now in
    let starts : to_z w128 (of_z w128 c.from.result) ≡ pos c.args.known.spread.starts = search rules in
    let lengths : to_z w128 (of_z w128 c.from-2.result) ≡ pos c.args.known.spread.lengths = search rules in
    told_cut _ _ (told_all (λ i. apart_faults (starts i) (lengths i) s.scale.now s.number s.senders.now) c.in_err-put_apart.ensures) c.from_residual.ensures.0

pub returns : goal.returns
unfolding known_apart
returns g c =
    let s = c.args.scene.now in
    let starts : to_z w128 (of_z w128 c.from.result) ≡ pos c.args.known.spread.starts = search rules in
    let lengths : to_z w128 (of_z w128 c.from-2.result) ≡ pos c.args.known.spread.lengths = search rules in
    told_then _ (told_all (λ i. apart_faults (starts i) (lengths i) s.scale.now s.number s.senders.now) c.in_ok-put_apart.ensures) c.put_of_senders.ensures
