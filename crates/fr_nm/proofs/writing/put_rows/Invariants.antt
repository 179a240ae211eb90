use Rattle.std.specs.Prelude.{Result}
use Rattle.fr_base.specs.Device.{Puts, Sunk}
use Rattle.fr_base.specs.declared.sink.PutFault.{PutFault}
use Rattle.fr_nm.specs.Text.{rows_text}
use Rattle.fr_nm.proofs.writing.put_rows.Given as goal

-- what puts the rows that are left puts all of them
abbrev pub invariant-loop-cycle : goal.invariant-loop-cycle
invariant-loop-cycle g l =
    (result : Result (Unit {0}) PutFault) (after : Sunk) → Puts result (g.O.Sink.state l.out) after (rows_text l.width l.cycle-iterator)
    → Puts result (g.O.Sink.state l.initial.out) after (rows_text l.width l.rows.entries)
