use Rattle.std.proofs.Common.{drop, Option, Result, map}
use Rattle.fr_observe.specs.Faults.{irregular_fault}
use Rattle.fr_base.specs.Device.{Sunk}
use Rattle.fr_base.specs.declared.sink.PutFault.{PutFault}
use Rattle.fr_observe.specs.Telling.{TellsFaults}
use Rattle.fr_observe.specs.declared.fault.Fault.{Fault}
use Rattle.fr_observe.proofs.slot_faults.put_slot_faults.Given as goal

-- what tells of those that are left tells of all
abbrev pub invariant-loop-sighting : goal.invariant-loop-sighting
invariant-loop-sighting g l =
    (result : Result (Unit {0}) PutFault) (after : Sunk) (last : Option Fault)
    → TellsFaults result (g.O.Sink.state l.out) after l.first last (map (irregular_fault l.params) (drop l.sighting-index l.frames))
    → TellsFaults result (g.O.Sink.state l.initial.out) after l.initial.first last (map (irregular_fault l.params) l.frames)
