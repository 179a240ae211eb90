use Rattle.std.proofs.Common.{drop, Option, Result}
use Rattle.std.specs.List.{flat_map}
use Rattle.fr_observe.specs.Faults.{node_missing}
use Rattle.fr_base.specs.Device.{Sunk}
use Rattle.fr_base.specs.declared.sink.PutFault.{PutFault}
use Rattle.fr_observe.specs.Telling.{TellsFaults}
use Rattle.fr_observe.specs.declared.fault.Fault.{Fault}
use Rattle.fr_observe.proofs.missing.put_all_missing.Given as goal

-- what tells of those that are left tells of all
abbrev pub invariant-loop-place : goal.invariant-loop-place
invariant-loop-place g l =
    (result : Result (Unit {0}) PutFault) (after : Sunk) (last : Option Fault)
    → TellsFaults result (g.O.Sink.state l.out) after l.first last (flat_map (node_missing l.scene.log.now l.scene.span l.scene.before.now l.scene.here.now l.scene.number) (drop l.place l.scene.params.now.nodes))
    → TellsFaults result (g.O.Sink.state l.initial.out) after l.initial.first last (flat_map (node_missing l.scene.log.now l.scene.span l.scene.before.now l.scene.here.now l.scene.number) l.scene.params.now.nodes)
