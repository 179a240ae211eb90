use Rattle.std.proofs.Common.{Option, ap}
use Rattle.fr_bound.specs.declared.judging.Known.{Known}
use Rattle.fr_judging.specs.Knowing.{judged_skews, known_apart}
use Rattle.fr_observe.proofs.Told.{told_all, told_cut, told_then}
use Rattle.fr_judging.proofs.standing_faults.put_moving_heard.Goals as goal

pub returns-in_err-put_judged_skews : goal.returns-in_err-put_judged_skews
returns-in_err-put_judged_skews g c =
    let s = c.args.scene.now in
    let same = ap (λ (met : Option Known). judged_skews s.params.now s.log.now s.scale.now s.number s.senders.now c.args.what met) c.judged_met.ensures in
    told_cut _ (known_apart s.params.now s.scale.now s.number s.senders.now c.args.standing.now.known) (told_all same c.in_err-put_judged_skews.ensures)
    c.from_residual.ensures.0

pub returns : goal.returns
returns g c =
    let s = c.args.scene.now in
    let same = ap (λ (met : Option Known). judged_skews s.params.now s.log.now s.scale.now s.number s.senders.now c.args.what met) c.judged_met.ensures in
    told_then _ (told_all same c.in_ok-put_judged_skews.ensures) c.put_known_apart.ensures
