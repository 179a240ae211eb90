use Rattle.std.proofs.Common.{drop, Option, Result, filter_map}
use Rattle.fr_judging.specs.Missing.{unlike_term}
use Rattle.fr_base.specs.Device.{Sunk}
use Rattle.fr_base.specs.declared.sink.PutFault.{PutFault}
use Rattle.fr_observe.specs.Telling.{TellsFaults}
use Rattle.fr_observe.specs.declared.fault.Fault.{Fault}
use Rattle.fr_judging.proofs.standing_faults.put_term.Given as goal

-- what tells of those that are left tells of all
abbrev pub invariant-loop-sender : goal.invariant-loop-sender
invariant-loop-sender g l =
    (result : Result (Unit {0}) PutFault) (after : Sunk) (last : Option Fault)
    → TellsFaults result (g.O.Sink.state l.out) after l.first last (filter_map (λ s. unlike_term l.term l.scene.params.now l.scene.log.now l.scene.scale.now l.scene.number l.scene.senders.now s l.lost) (drop l.sender-index l.scene.senders.now))
    → TellsFaults result (g.O.Sink.state l.initial.out) after l.initial.first last (filter_map (λ s. unlike_term l.term l.scene.params.now l.scene.log.now l.scene.scale.now l.scene.number l.scene.senders.now s l.lost) l.scene.senders.now)
