use Rattle.fr_base.proofs.Putting.{cut, then}
use Rattle.fr_lines.specs.Text.{clocks_text, told_text}
use Rattle.fr_lines.proofs.told.Told.write.Goals as goal

pub returns-in_err-put_lines : goal.returns-in_err-put_lines
unfolding told_text
returns-in_err-put_lines g c =
    let told = c.args.self.now in
    rw (← c.lines.ensures) (cut _ (clocks_text told.clocks) c.in_err-put_lines.ensures c.from_residual.ensures.0)

pub returns : goal.returns
unfolding told_text
returns g c =
    rw (← c.lines.ensures, ← c.as_slice.ensures) (then _ c.in_ok-put_lines.ensures c.put_clocks.ensures)
