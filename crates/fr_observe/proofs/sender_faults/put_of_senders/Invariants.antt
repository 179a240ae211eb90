use Rattle.std.proofs.Common.{drop, Option, Result, filter_map}
use Rattle.fr_observe.specs.Telling.{sender_fault}
use Rattle.fr_base.specs.Device.{Sunk}
use Rattle.fr_base.specs.declared.sink.PutFault.{PutFault}
use Rattle.fr_observe.specs.Telling.{TellsFaults}
use Rattle.fr_observe.specs.declared.fault.Fault.{Fault}
use Rattle.fr_observe.proofs.sender_faults.put_of_senders.Given as goal

-- what tells of those that are left tells of all
abbrev pub invariant-loop-sender : goal.invariant-loop-sender
invariant-loop-sender g l =
    (result : Result (Unit {0}) PutFault) (after : Sunk) (last : Option Fault)
    → TellsFaults result (g.O.Sink.state l.out) after l.first last (filter_map (sender_fault l.asked l.scene.params.now l.scene.log.now l.scene.scale.now l.scene.number l.scene.senders.now) (drop l.sender-index l.scene.senders.now))
    → TellsFaults result (g.O.Sink.state l.initial.out) after l.initial.first last (filter_map (sender_fault l.asked l.scene.params.now l.scene.log.now l.scene.scale.now l.scene.number l.scene.senders.now) l.scene.senders.now)
