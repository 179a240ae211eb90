use Rattle.fr_part_tests.proofs.Fed.{IsFed}
use Rattle.fr_part_tests.proofs.capture.fed_by_bytes.Given as goal

-- it was fed no more than the bytes so far
abbrev pub invariant-loop-done : goal.invariant-loop-done
invariant-loop-done l = IsFed l.capture l.done
