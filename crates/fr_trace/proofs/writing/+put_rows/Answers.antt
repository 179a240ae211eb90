use Rattle.std.proofs.Common.{◌≡◌, ℕ, ◌<◌, List, ◌∷◌, ◌++◌, ap, sym, ◌∙◌, subst, rules}
use Rattle.fr_base.specs.Rows.{AreAscendingRows}
use Rattle.fr_base.proofs.Putting.{cut, then}
use Rattle.fr_text.specs.Pieces.{line}
use Rattle.fr_trace.specs.Text.{clock_text, devs_text, clock_rows_text}
use Rattle.fr_trace.proofs.Lines.{rows-first, rows-later}
use Rattle.fr_trace.proofs.Nodes.{pairs-first, pairs-rest}
use Rattle.fr_trace.proofs.writing.+put_rows.Goals as goal

pub returns-in_err-put_row-in-Some : goal.returns-in_err-put_row-in-Some
returns-in_err-put_row-in-Some g t c = λ ascend_rows ascend_devs.
    let parts : c.in-Some.row.now ∷ c.in-Some.rest.now ≡ c.args.rows.now = search rules in
    let text : (line (clock_text c.args.cycle c.in-Some.row.now) ++ devs_text c.args.cycle c.in-Some.row.now.node c.args.devs.now) ++ clock_rows_text c.args.cycle c.args.devs.now c.in-Some.rest.now ≡ clock_rows_text c.args.cycle c.args.devs.now c.args.rows.now =
    rows-first c.args.cycle c.args.devs.now c.in-Some.row.now c.in-Some.rest.now ∙ ap (clock_rows_text c.args.cycle c.args.devs.now) parts in
    rw (← text) (cut _ _ (c.in_err-put_row-in-Some.ensures ascend_devs) c.from_residual.ensures.0)

pub returns-in_ok-put_row-in-Some : goal.returns-in_ok-put_row-in-Some
returns-in_ok-put_row-in-Some g t c = λ ascend_rows ascend_devs.
    let cycle = c.args.cycle in
    let row = c.in-Some.row.now in
    let rest = c.in-Some.rest.now in
    let devs = c.args.devs.now in
    let fewer = c.devs_behind.result.now in
    let parts : row ∷ rest ≡ c.args.rows.now = search rules in
    let ascend : AreAscendingRows (row ∷ rest) = subst AreAscendingRows (sym parts) ascend_rows in
    let later : clock_rows_text cycle fewer rest ≡ clock_rows_text cycle devs rest =
    rows-later cycle row.node fewer devs (c.devs_behind.ensures.later cycle) rest (pairs-first (λ a b. a.node < b.node) row rest ascend) in
    let text : (line (clock_text cycle row) ++ devs_text cycle row.node devs) ++ clock_rows_text cycle fewer rest ≡ clock_rows_text cycle devs c.args.rows.now =
    ap (λ (l : List ℕ). (line (clock_text cycle row) ++ devs_text cycle row.node devs) ++ l) later
    ∙ rows-first cycle devs row rest
    ∙ ap (clock_rows_text cycle devs) parts in
    rw (← text) (then _ (c.in_ok-put_row-in-Some.ensures ascend_devs)
    (c.put_rows.ensures (pairs-rest (λ a b. a.node < b.node) row rest ascend) (c.devs_behind.ensures.ascending ascend_devs)))
