use Rattle.std.proofs.Common.{◌∙◌, sym}
use Rattle.fr_bound.proofs.JudgedNumbers.{judged_else, judged_then, not_judged}
use Rattle.fr_bound.proofs.judging.is_judged.Goals as goal

pub returns-then-not-is_taken_in-clause-no : goal.returns-then-not-is_taken_in-clause-no
returns-then-not-is_taken_in-clause-no c = λ none judged. not_judged c.args.params.now c.args.flutter c.args.known (sym c.is_taken_in.ensures.value ∙ c.if-not-is_taken_in.true) judged

pub returns-then-checks_hold-clause-value : goal.returns-then-checks_hold-clause-value
returns-then-checks_hold-clause-value c =
    c.has_room.ensures
    ∙ judged_then c.args.params.now c.args.flutter c.args.known c.near_by-reach.result c.checks_hold.result c.near_by-reach.ensures.value c.if-checks_hold.true c.checks_hold.ensures.yes

pub returns-else-checks_hold-clause-value : goal.returns-else-checks_hold-clause-value
returns-else-checks_hold-clause-value c =
    judged_else c.args.params.now c.args.flutter c.args.known c.near_by-reach.result c.checks_hold.result c.near_by-reach.ensures.value c.if-checks_hold.false c.checks_hold.ensures.no
