use Rattle.fr_log.proofs.Fitting.{fits-limits}
use Rattle.fr_log.proofs.file_laws.sync_frames_of_a_log_have_limits.Goals as goal

pub returns : goal.returns
returns c = fits-limits
