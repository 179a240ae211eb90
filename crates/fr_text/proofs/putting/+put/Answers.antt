use Rattle.std.proofs.Common.{◌≡◌, ◌∷◌, ◌++◌, ap, sym, ◌∙◌, rules}
use Rattle.fr_base.proofs.Putting.{cut, then}
use Rattle.fr_text.specs.Lines.{joined_lines, shown}
use Rattle.fr_text.proofs.Joining.{joined_first}
use Rattle.fr_text.proofs.putting.+put.Goals as goal

pub put_before-returns-in_err-put_line-in-Some : goal.put_before-returns-in_err-put_line-in-Some
put_before-returns-in_err-put_line-in-Some g t c =
    let text : c.in-Some.line ≡ shown c.args.line.now = sym (ap shown c.in-Some.is) in
    rw (← text) (cut _ _ c.in_err-put_line-in-Some.ensures c.from_residual.ensures.0)

pub put_before-returns-in_ok-put_line-in-Some : goal.put_before-returns-in_ok-put_line-in-Some
put_before-returns-in_ok-put_line-in-Some g t c =
    let text : c.in-Some.line ≡ shown c.args.line.now = sym (ap shown c.in-Some.is) in
    rw (← text) (then _ c.in_ok-put_line-in-Some.ensures c.put_lines.ensures)

pub put_lines-returns-in-Some : goal.put_lines-returns-in-Some
put_lines-returns-in-Some g t c =
    let parts : c.in-Some.line.now ∷ c.in-Some.rest.now ≡ c.args.lines.now = search rules in
    let text : shown c.in-Some.line.now ++ joined_lines c.in-Some.rest.now ≡ joined_lines c.args.lines.now =
    joined_first c.in-Some.line.now c.in-Some.rest.now ∙ ap joined_lines parts in
    rw (← text) c.put_before.ensures
