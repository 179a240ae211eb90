use Rattle.std.proofs.Common.{◌∙◌, ◌≤◌, List, length, ap, arith}
use Rattle.std.specs.List.{flat_map}
use Rattle.std.proofs.lemmas.List.{take_all}
use Rattle.fr_base.specs.declared.node_row.NodeRow.{NodeRow}
use Rattle.fr_time.specs.Cycles.{is_odd}
use Rattle.fr_skew.specs.Courses.{course_if}
use Rattle.fr_skew.proofs.Coursing.{courses_joined}
use Rattle.fr_skew.proofs.courses.courses_of.Goals as goal

pub returns : goal.returns
returns c =
    let rows = c.args.rows.now in
    let done : length rows ≤ c.loop-row.row-index = omega arith in
    c.loop-row.invariant.0
    ∙ ap (λ (some : List NodeRow). flat_map (course_if c.args.grid.now (is_odd c.args.cycle)) some) (take_all c.loop-row.row-index rows done)
    ∙ courses_joined c.args.grid.now (is_odd c.args.cycle) rows
