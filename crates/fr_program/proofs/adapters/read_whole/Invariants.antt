use Rattle.std.proofs.Common.{◌≡◌, false}
use Rattle.fr_program.specs.Watched.{has_failed, reader_of}
use Rattle.fr_program.proofs.Transfers.{IsRead}
use Rattle.fr_program.proofs.adapters.read_whole.Given as goal

abbrev pub invariant-turns : goal.invariant-turns
invariant-turns g l = IsRead 16777216 (g.F.Read.remaining (reader_of l.fn.file)) (g.F.Read.remaining (reader_of l.file)) l.into.items l.turn × (has_failed l.file ≡ false)
