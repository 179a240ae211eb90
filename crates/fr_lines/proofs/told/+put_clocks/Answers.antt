use Rattle.std.proofs.Common.{◌≡◌, ◌∷◌, ◌++◌, List, ℕ, ap, ◌∙◌, rules}
use Rattle.fr_base.proofs.Putting.{cut, then}
use Rattle.fr_lines.specs.Text.{clocks_text}
use Rattle.fr_lines.proofs.told.+put_clocks.Goals as goal

pub returns-in_err-put_line-in-Some : goal.returns-in_err-put_line-in-Some
returns-in_err-put_line-in-Some g t c =
    let parts : c.in-Some.clock.now ∷ c.in-Some.rest.now ≡ c.args.clocks.now = search rules in
    let text : c.clock_line.result ++ clocks_text c.in-Some.rest.now ≡ clocks_text c.args.clocks.now =
    ap (λ (line : List ℕ). line ++ clocks_text c.in-Some.rest.now) c.clock_line.ensures ∙ ap clocks_text parts in
    rw (← text) (cut _ _ c.in_err-put_line-in-Some.ensures c.from_residual.ensures.0)

pub returns-in_ok-put_line-in-Some : goal.returns-in_ok-put_line-in-Some
returns-in_ok-put_line-in-Some g t c =
    let parts : c.in-Some.clock.now ∷ c.in-Some.rest.now ≡ c.args.clocks.now = search rules in
    let text : c.clock_line.result ++ clocks_text c.in-Some.rest.now ≡ clocks_text c.args.clocks.now =
    ap (λ (line : List ℕ). line ++ clocks_text c.in-Some.rest.now) c.clock_line.ensures ∙ ap clocks_text parts in
    rw (← text) (then _ c.in_ok-put_line-in-Some.ensures c.put_clocks.ensures)
