use Rattle.fr_trace.proofs.TraceSound.{sound_trace}
use Rattle.fr_trace.proofs.laws.trace_of_a_file_is_sound.Goals as goal

pub returns : goal.returns
returns c = sound_trace
