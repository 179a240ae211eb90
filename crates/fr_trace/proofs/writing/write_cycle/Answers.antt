use Rattle.std.proofs.Common.{◌≡◌, sym, ◌∙◌, subst}
use Rattle.fr_base.specs.Rows.{AreAscendingDevs, AreAscendingRows}
use Rattle.fr_history.specs.Recorded.{recorded}
use Rattle.fr_trace.specs.Text.{clock_rows_text, cycle_text}
use Rattle.fr_trace.proofs.Lines.{cycle_by_rows}
use Rattle.fr_trace.proofs.writing.write_cycle.Goals as goal

pub returns : goal.returns
returns g c = λ h numbered.
    let row = c.args.row.now in
    let rows : AreAscendingRows c.as_slice.result.now = subst AreAscendingRows (sym c.as_slice.ensures.rows) c.as_slice.ensures.ascending in
    let devs : AreAscendingDevs c.as_slice-2.result.now = subst AreAscendingDevs (sym c.as_slice-2.ensures.devs) c.as_slice-2.ensures.ascending in
    let same : clock_rows_text row.cycle c.as_slice-2.result.now c.as_slice.result.now ≡ cycle_text h (recorded row) =
    (λ i. clock_rows_text (sym numbered i) (c.as_slice-2.ensures.devs i) (c.as_slice.ensures.rows i)) ∙ sym (cycle_by_rows h (recorded row) row.rows)
    in
    rw (← same) (c.put_rows.ensures rows devs)
