use Rattle.std.proofs.Common.{◌∙◌}
use Rattle.fr_trace.proofs.Keeping.{latest-last, latest-none}
use Rattle.fr_trace.proofs.draft.latest_rows.Goals as goal

pub returns-in-None : goal.returns-in-None
returns-in-None c = latest-none c.args.cycles.now c.in-None.ensures.cases

pub returns-in-Some : goal.returns-in-Some
returns-in-Some c =
    c.as_slice.ensures.value ∙ latest-last c.args.cycles.now _ c.in-Some.last.now c.in-Some.ensures.cases.0
