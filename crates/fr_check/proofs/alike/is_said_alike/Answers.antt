use Rattle.std.proofs.Common.{◌∙◌, sym, subst}
use Rattle.std.specs.Prelude.{All}
use Rattle.fr_base.specs.Rows.{AreAscendingDevs}
use Rattle.fr_base.specs.Timed.{IsTimed}
use Rattle.fr_verdict.specs.Alike.{is_said_alike_in}
use Rattle.fr_check.proofs.alike.is_said_alike.Goals as goal

pub is_said_alike_in-requires-clause-evens : goal.is_said_alike_in-requires-clause-evens
is_said_alike_in-requires-clause-evens c = subst AreAscendingDevs (sym c.deref.ensures.value) c.requires.even.ordered

pub is_said_alike_in-requires-clause-odds : goal.is_said_alike_in-requires-clause-odds
is_said_alike_in-requires-clause-odds c = subst AreAscendingDevs (sym c.deref-2.ensures.value) c.requires.odd.ordered

pub is_said_alike_in-requires-clause-rows : goal.is_said_alike_in-requires-clause-rows
is_said_alike_in-requires-clause-rows c = subst (All IsTimed) (sym c.deref-3.ensures.value) c.requires.odd.timed

pub returns : goal.returns
returns c =
    c.is_said_alike_in.ensures
    ∙ (λ i. is_said_alike_in c.args.params.now (c.deref.ensures.value i) (c.deref-2.ensures.value i) c.args.slot (c.deref-3.ensures.value i))
