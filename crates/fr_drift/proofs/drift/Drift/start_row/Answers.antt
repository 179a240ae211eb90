use Rattle.std.proofs.Common.{◌∙◌, refl, sym}
use Rattle.fr_drift.proofs.drift.Drift.start_row.Goals as goal

pub returns-in-Some-clause-told : goal.returns-in-Some-clause-told
returns-in-Some-clause-told c = c.in-Some.ensures.value ∙ rw (← c.self.view_is) refl

pub returns-in-Some-clause-proper : goal.returns-in-Some-clause-proper
returns-in-Some-clause-proper c = rw (sym c.in-Some.ensures.value) at (c.self.invariant.starts c.args.node)

pub returns-in-None-clause-told : goal.returns-in-None-clause-told
returns-in-None-clause-told c = c.in-None.ensures.value ∙ rw (← c.self.view_is) refl
