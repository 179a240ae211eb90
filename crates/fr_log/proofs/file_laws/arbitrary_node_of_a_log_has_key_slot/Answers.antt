use Rattle.fr_log.proofs.Fitting.{fits-key}
use Rattle.fr_log.proofs.file_laws.arbitrary_node_of_a_log_has_key_slot.Goals as goal

pub returns : goal.returns
returns c = fits-key
