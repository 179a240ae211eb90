use Rattle.std.proofs.Common.{refl}
use Rattle.fr_answer.proofs.bound_sharp_join.join_lines.Goals as goal

pub returns : goal.returns
returns c =
    rw (
      c.reach_line.ensures,
      c.reach_line-2.ensures,
      c.check_line.ensures,
      c.check_line-2.ensures,
      c.check_line-3.ensures,
      c.check_line-4.ensures,
      c.check_line-5.ensures,
      c.check_line-6.ensures,
      c.check_line-7.ensures,
      c.first_rates_line.ensures,
    ) refl
