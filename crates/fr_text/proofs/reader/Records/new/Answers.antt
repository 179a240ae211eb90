use Rattle.std.proofs.Common.{refl, false}
use Rattle.fr_text.proofs.Left.{left_by-start}
use Rattle.fr_text.proofs.reader.Records.new.Goals as goal

pub returns : goal.returns
returns c = left_by-start false _ _ c.args.bytes.now refl c.from_reader.ensures.state c.from_reader.ensures.source
