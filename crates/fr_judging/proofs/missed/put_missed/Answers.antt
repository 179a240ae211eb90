use Rattle.std.proofs.Common.{◌≡◌, ◌∙◌, ℕ, List, Option, None, Ok, sym, subst}
use Rattle.fr_base.specs.Device.{Puts}
use Rattle.fr_base.proofs.Putting.{puts_none}
use Rattle.fr_observe.specs.Faults.{first_of_faults}
use Rattle.fr_observe.specs.declared.fault.Fault.{Fault}
use Rattle.fr_judging.specs.Knowing.{standing_faults}
use Rattle.fr_judging.proofs.Clear.{missed-clear}
use Rattle.fr_judging.proofs.missed.put_missed.Goals as goal

pub returns-then-is_clear : goal.returns-then-is_clear
returns-then-is_clear g c =
    let s = c.args.scene.now in
    let st = c.args.standing.now in
    let a = g.O.Sink.state c.args.out.now in
    let against : Option Fault = c.args.against.now in
    let none : against ≡ None = c.is_clear.ensures.none c.if-is_clear.true in
    let told : None ≡ first_of_faults (standing_faults s.params.now s.scale.now s.log.now s.span s.before.now s.here.now s.number s.senders.now st) =
    sym none ∙ c.requires.against in
    subst (Puts (Ok tt) a a)
    (missed-clear s.params.now s.log.now s.scale.now s.number s.span s.before.now s.here.now s.senders.now st (c.is_clear.ensures.lost c.if-is_clear.true) told)
    (puts_none a)
