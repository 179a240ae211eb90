use Rattle.std.proofs.Common.{append_assoc}
use Rattle.fr_capture.proofs.lines.frame_line.Goals as goal

pub returns : goal.returns
returns c =
    rw (
      c.word-6.ensures.bytes,
      c.natural-4.ensures.bytes,
      c.word-5.ensures.bytes,
      c.natural-3.ensures.bytes,
      c.from-3.ensures,
      c.word-4.ensures.bytes,
      c.natural-2.ensures.bytes,
      c.from-2.ensures,
      c.word-3.ensures.bytes,
      c.natural.ensures.bytes,
      c.from.ensures,
      c.word-2.ensures.bytes,
      c.hex.ensures.bytes,
      c.word.ensures.bytes,
      c.new-line.ensures,
    ) (simp append_assoc)
