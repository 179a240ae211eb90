use Rattle.std.proofs.Common.{◌≡◌, ◌∷◌}
use Rattle.std.specs.Map.Iter.{deref_pair}
use Rattle.std.proofs.lemmas.Map.Iter.{rest_all, rest_more}
use Rattle.fr_base.proofs.Putting.{puts_none}
use Rattle.fr_nm.specs.Text.{row_line}
use Rattle.fr_nm.proofs.Lines.{row-cut, row-then}
use Rattle.fr_nm.proofs.writing.put_rows.Goals as goal

pub loop-cycle-preserved : goal.loop-cycle-preserved
loop-cycle-preserved g c = λ result after put.
    let parts : c.loop-cycle.cycle-iterator ≡ (c.in-Some.cycle.now, c.in-Some.row.now) ∷ c.next.new.self = rest_more deref_pair c.loop-cycle.cycle-iterator c.next.new.self c.next.result (c.in-Some.cycle, c.in-Some.row) c.in-Some.is c.next.ensures.steps in
    let text : c.row_line.result ≡ row_line c.args.width c.in-Some.cycle.now c.in-Some.row.now = c.row_line.ensures in
    c.loop-cycle.invariant result after (row-then c.args.width (c.in-Some.cycle.now, c.in-Some.row.now) c.next.new.self c.loop-cycle.cycle-iterator c.row_line.result result text parts c.in_ok-put_line.ensures put)

pub returns-in_err-put_line : goal.returns-in_err-put_line
returns-in_err-put_line g c =
    let parts : c.loop-cycle.cycle-iterator ≡ (c.in-Some.cycle.now, c.in-Some.row.now) ∷ c.next.new.self = rest_more deref_pair c.loop-cycle.cycle-iterator c.next.new.self c.next.result (c.in-Some.cycle, c.in-Some.row) c.in-Some.is c.next.ensures.steps in
    let text : c.row_line.result ≡ row_line c.args.width c.in-Some.cycle.now c.in-Some.row.now = c.row_line.ensures in
    c.loop-cycle.invariant _ _ (row-cut c.args.width (c.in-Some.cycle.now, c.in-Some.row.now) c.next.new.self c.loop-cycle.cycle-iterator c.row_line.result c.from_residual.result text parts c.in_err-put_line.ensures c.from_residual.ensures.0)

pub returns : goal.returns
returns g c =
    let none = rest_all deref_pair c.loop-cycle.cycle-iterator c.next.new.self c.next.result c.in-None.is c.next.ensures.steps in
    c.loop-cycle.invariant _ _ (rw none (puts_none _))
