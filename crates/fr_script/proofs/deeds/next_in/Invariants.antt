use Rattle.std.specs.Prelude.{◌≡◌}
use Rattle.fr_script.proofs.Ranges.{first_cycle, part}
use Rattle.fr_script.proofs.deeds.next_in.Given as goal

-- no deed before those that are left is of the receiver
abbrev pub invariant-loop-passage : goal.invariant-loop-passage
invariant-loop-passage l = first_cycle l.receiver l.end (part l.fn.sender l.receiver l.cycle l.end l.rows.entries) ≡ first_cycle l.receiver l.end l.passage-iterator
