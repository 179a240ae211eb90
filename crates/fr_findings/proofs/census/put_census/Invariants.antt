use Rattle.std.proofs.Common.{drop, Result}
use Rattle.std.specs.List.{flat_map}
use Rattle.fr_base.specs.Device.{Puts, Sunk}
use Rattle.fr_base.specs.declared.sink.PutFault.{PutFault}
use Rattle.fr_findings.specs.Census.{census_rows}
use Rattle.fr_findings.proofs.census.put_census.Given as goal

-- what puts the rows of the nodes that are left puts all of them
abbrev pub invariant-loop-place : goal.invariant-loop-place
invariant-loop-place g l =
    (result : Result (Unit {0}) PutFault) (after : Sunk) → Puts result (g.O.Sink.state l.out) after (flat_map (census_rows l.log l.seen) (drop l.place l.params.nodes))
    → Puts result (g.O.Sink.state l.initial.out) after (flat_map (census_rows l.log l.seen) l.params.nodes)
