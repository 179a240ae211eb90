use Rattle.std.proofs.Common.{drop, filter_map, Result}
use Rattle.std.specs.List.{flat_map}
use Rattle.fr_base.specs.Device.{Puts, Sunk}
use Rattle.fr_base.specs.declared.sink.PutFault.{PutFault}
use Rattle.fr_judging.specs.Missing.{missed_where, missed_row}
use Rattle.fr_judging.proofs.missed.put_of_term.Given as goal

-- what puts the rows of the senders that are left puts those of all
abbrev pub invariant-loop-sender : goal.invariant-loop-sender
invariant-loop-sender g l =
    (result : Result (Unit {0}) PutFault) (after : Sunk)
    → Puts result (g.O.Sink.state l.out) after (flat_map missed_row (filter_map (missed_where l.term l.scene.params.now l.scene.log.now l.scene.scale.now l.scene.number l.scene.senders.now) (drop l.sender-index l.scene.senders.now)))
    → Puts result (g.O.Sink.state l.initial.out) after (flat_map missed_row (filter_map (missed_where l.term l.scene.params.now l.scene.log.now l.scene.scale.now l.scene.number l.scene.senders.now) l.scene.senders.now))
