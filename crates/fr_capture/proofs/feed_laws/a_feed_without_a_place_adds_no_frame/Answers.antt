use Rattle.std.specs.Prelude.{take}
use Rattle.fr_capture.proofs.Going.{still}
use Rattle.fr_capture.proofs.feed_laws.a_feed_without_a_place_adds_no_frame.Goals as goal

pub returns : goal.returns
returns c = λ before after bytes piece used was channel unfinished is. still before after bytes (take used piece) was is channel unfinished.kept
