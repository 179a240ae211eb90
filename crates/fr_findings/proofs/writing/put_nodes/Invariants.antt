use Rattle.std.proofs.Common.{drop, Result}
use Rattle.std.specs.List.{flat_map}
use Rattle.fr_base.specs.Device.{Puts, Sunk}
use Rattle.fr_base.specs.declared.sink.PutFault.{PutFault}
use Rattle.fr_observe.specs.Observing.{node_row}
use Rattle.fr_findings.proofs.writing.put_nodes.Given as goal

-- what puts the rows of the senders that are left puts all of them
abbrev pub invariant-loop-sender : goal.invariant-loop-sender
invariant-loop-sender g l =
    (result : Result (Unit {0}) PutFault) (after : Sunk) → Puts result (g.O.Sink.state l.out) after (flat_map (node_row l.scale l.double) (drop l.sender-index l.senders))
    → Puts result (g.O.Sink.state l.initial.out) after (flat_map (node_row l.scale l.double) l.senders)
