use Rattle.std.proofs.Common.{refl}
use Rattle.fr_answer.proofs.bound_lost.figure_lines.Goals as goal

pub returns : goal.returns
returns c =
    rw (
      c.wide_line.ensures,
      c.wide_line-2.ensures,
      c.check_line.ensures,
      c.check_line-2.ensures,
      c.check_line-3.ensures,
      c.check_line-4.ensures,
      c.check_line-5.ensures,
      c.lasts_line.ensures,
      c.value_line.ensures,
      c.from.ensures,
      c.peak_line.ensures,
      c.peak_line-2.ensures,
      c.meeting_line.ensures,
      c.longest_line.ensures,
    ) refl
