use Rattle.fr_frame.proofs.Exact.{read_frame, read_fault}
use Rattle.fr_frame.proofs.laws.what_is_read_is_there.Goals as goal

pub returns : goal.returns
returns c = record { frame = read_frame; fault = read_fault }
