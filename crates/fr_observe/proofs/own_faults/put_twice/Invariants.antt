use Rattle.std.proofs.Common.{All, drop, Option, Result, filter_map}
use Rattle.fr_observe.specs.Faults.{IsFirst, twice_fault}
use Rattle.fr_base.specs.Device.{Sunk}
use Rattle.fr_base.specs.declared.sink.PutFault.{PutFault}
use Rattle.fr_observe.specs.Telling.{TellsFaults}
use Rattle.fr_observe.specs.declared.fault.Fault.{Fault}
use Rattle.fr_observe.proofs.own_faults.put_twice.Given as goal

-- what tells of those that are left tells of all; what is kept are first ones
abbrev pub invariant-loop-sighting : goal.invariant-loop-sighting
invariant-loop-sighting g l = record {
  firsts : All (IsFirst l.here) l.firsts;
  told : (result : Result (Unit {0}) PutFault) (after : Sunk) (last : Option Fault)
      → TellsFaults result (g.O.Sink.state l.out) after l.first last (filter_map (twice_fault l.here) (drop l.sighting-index l.here))
      → TellsFaults result (g.O.Sink.state l.initial.out) after l.initial.first last (filter_map (twice_fault l.here) l.here);
}
