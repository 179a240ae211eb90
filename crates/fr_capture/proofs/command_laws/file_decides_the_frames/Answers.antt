use Rattle.fr_capture.proofs.Decided.{one_text}
use Rattle.fr_capture.proofs.command_laws.file_decides_the_frames.Goals as goal

pub returns : goal.returns
returns c = one_text c.one_list_of_frames.ensures
