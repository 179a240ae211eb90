use Rattle.fr_damage.proofs.Weights.{frame_codes, header_codes}
use Rattle.fr_damage.proofs.crcs.code_words_lie_apart.Goals as goal

pub returns : goal.returns
returns c = record { header = header_codes; frame = frame_codes }
