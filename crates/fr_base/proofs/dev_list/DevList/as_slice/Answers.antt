-- The list is in order, whatever room there is beside it.
use Rattle.std.proofs.Common.{subst}
use Rattle.fr_base.specs.Rows.{AreAscendingDevs, Roomy}
use Rattle.fr_base.proofs.dev_list.DevList.as_slice.Goals as goal

pub returns-clause-ascending : goal.returns-clause-ascending
returns-clause-ascending c = let P : Roomy → Type 0 = λ list. AreAscendingDevs list.entries in subst P c.self.view_is c.self.invariant
