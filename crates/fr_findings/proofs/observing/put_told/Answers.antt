use Rattle.std.proofs.Common.{◌≡◌, ◌∙◌, pos, w64, ap, subst, rules}
use mir.Val.{of_z, to_z}
use Rattle.fr_base.specs.Device.{Puts}
use Rattle.fr_judging.specs.Hearing.{log_heard, yardstick}
use Rattle.fr_findings.specs.Ground.{offending_given}
use Rattle.fr_findings.specs.Text.{whole_told}
use Rattle.fr_findings.proofs.Printing.{made-basis}
use Rattle.fr_findings.proofs.observing.put_told.Goals as goal

pub returns : goal.returns
returns g c =
    let p = c.args.params.now in
    let l = c.args.log.now in
    let heard : c.heard-heard.result ≡ log_heard p l = c.heard-heard.ensures in
    let back : to_z w64 (of_z w64 c.yardstick.result) ≡ c.yardstick.result = search rules in
    let precision : to_z w64 (of_z w64 c.yardstick.result) ≡ pos (yardstick p l (log_heard p l)) =
    back ∙ c.yardstick.ensures ∙ ap (λ h. pos (yardstick p l h)) heard in
    subst (Puts c.put_whole.result (g.O.Sink.state c.args.out.now) (g.O.Sink.state c.put_whole.new.out))
    (λ i. whole_told (made-basis (precision i) (c.scale_of-scale.ensures.value i) p l (c.log_span.ensures i) (heard i)) c.args.frames.now.seen.now (offending_given c.args.frames.now.offending) c.args.tally.now)
    c.put_whole.ensures
