use Rattle.std.proofs.Common.{◌<◌, ◌≤◌, ◌∙◌, sym, length, rules, arith}
use Rattle.fr_script.proofs.InTurn.{all-before-end}
use Rattle.fr_script.proofs.sayings.is_behind.Goals as goal

pub returns-else-count-eq0 : goal.returns-else-count-eq0
returns-else-count-eq0 c = λ behind.
    let some : 0 < length c.args.rows.now = search rules in
    let all : length c.args.rows.now ≤ length c.args.rows.now = omega arith in
    all-before-end c.args.rows.now (length c.args.rows.now) c.args.passage.now c.index-rows-count.result c.requires some all (sym c.is_before.ensures ∙ behind)
