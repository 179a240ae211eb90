use Rattle.std.proofs.Common.{◌∙◌, ℕ, Bool, List, ◌++◌, ap, subst}
use Rattle.fr_base.specs.Device.{Puts}
use Rattle.fr_base.proofs.Putting.{cut, then}
use Rattle.fr_findings.specs.Census.{census_text}
use Rattle.fr_findings.specs.Text.{end_told}
use Rattle.fr_findings.proofs.observing.put_end.Goals as goal

pub returns-in_err-put_census : goal.returns-in_err-put_census
returns-in_err-put_census g c = cut _ _ c.in_err-put_census.ensures c.from_residual.ensures.0

pub returns : goal.returns
returns g c =
    let text : List ℕ = census_text c.args.ground.now.params.now c.args.ground.now.log.now c.args.seen.now in
    let end : Bool → List ℕ = λ sure. end_told c.args.seen.now c.args.tally.now sure c.args.progress.now in
    subst (λ (rest : List ℕ). Puts c.put_lines.result (g.O.Sink.state c.args.out.now) (g.O.Sink.state c.put_lines.new.out) (text ++ rest)) (c.end_lines.ensures ∙ ap end c.are_numbers_sure-sure.ensures)
    (then {text = text} c.put_lines.result c.in_ok-put_census.ensures c.put_lines.ensures)
