use Rattle.std.specs.Prelude.{◌≡◌}
use Rattle.fr_call_tests.proofs.listener.listen.Given as goal

-- it stays the listener that it is
abbrev pub invariant-loop-channel : goal.invariant-loop-channel
invariant-loop-channel l = record { id : l.listener.id ≡ 3; reference : l.listener.reference ≡ 1 }
