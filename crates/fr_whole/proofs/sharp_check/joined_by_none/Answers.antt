use Rattle.std.proofs.Common.{ℕ, List, ap, inr}
use Rattle.fr_text.specs.declared.status.Status.TheVariants.{No}
use Rattle.fr_whole.specs.SharpCheckAnswer.{joined_text}
use Rattle.fr_whole.proofs.sharp_check.joined_by_none.Goals as goal

pub returns-in-Some-clause-refused : goal.returns-in-Some-clause-refused
returns-in-Some-clause-refused c =
    let found = c.in-Some.ensures in (
      joined_text c.in-Some.node,
      inr (record { covered = c.requires.covered; first = found.0; others = found.1; joins = found.2; shown = ap joined_text found.3 }),
      ap (λ (l : List ℕ). record { status = No; line = l }) c.joined_line.ensures,
    )
