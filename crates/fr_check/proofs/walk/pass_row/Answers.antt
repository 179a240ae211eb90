use Rattle.std.proofs.Common.{◌∙◌, sym, None, Some}
use Rattle.fr_trace.specs.Cycles.{history_by, kept_of}
use Rattle.fr_check.proofs.Walking.{row_count, row_found, row_passed}
use Rattle.fr_check.proofs.walk.pass_row.Goals as goal

pub returns-in-Some-clause-found : goal.returns-in-Some-clause-found
returns-in-Some-clause-found c =
    row_found c.args.params.now c.args.trace.now c.args.number (history_by c.args.behind.now) (kept_of c.args.cycle.now) c.args.row.now c.in-Some.breach (sym (c.row_breach.ensures (kept_of c.args.cycle.now) c.requires.kept) ∙ c.in-Some.is)

pub returns-in-Err-clause-found : goal.returns-in-Err-clause-found
returns-in-Err-clause-found c =
    row_passed c.args.params.now c.args.trace.now c.args.number (history_by c.args.behind.now) (kept_of c.args.cycle.now) c.args.row.now (Some c.in-Err.breach) (sym (c.row_breach.ensures (kept_of c.args.cycle.now) c.requires.kept) ∙ c.in-None.is) c.in-Err.ensures.found

pub returns-in-Ok-clause-none : goal.returns-in-Ok-clause-none
returns-in-Ok-clause-none c =
    row_passed c.args.params.now c.args.trace.now c.args.number (history_by c.args.behind.now) (kept_of c.args.cycle.now) c.args.row.now None (sym (c.row_breach.ensures (kept_of c.args.cycle.now) c.requires.kept) ∙ c.in-None.is) c.in-Ok.ensures.none

pub returns-in-Ok-clause-next : goal.returns-in-Ok-clause-next
returns-in-Ok-clause-next c =
    row_count c.args.number c.in-Ok.next (history_by c.args.behind.now) (kept_of c.args.cycle.now) c.args.row.now c.in-Ok.ensures.next
