use Rattle.fr_script.proofs.ScriptSound.{sound_script}
use Rattle.fr_script.proofs.laws.script_of_a_file_is_sound.Goals as goal

pub returns : goal.returns
returns c = sound_script
