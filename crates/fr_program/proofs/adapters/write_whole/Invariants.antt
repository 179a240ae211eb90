use Rattle.fr_program.proofs.Transfers.{IsWritten}
use Rattle.fr_program.proofs.adapters.write_whole.Given as goal

abbrev pub invariant-turns : goal.invariant-turns
invariant-turns g l = IsWritten (g.W.Write.contents l.fn.stream) (g.W.Write.contents l.stream) l.piece l.rest l.turn
