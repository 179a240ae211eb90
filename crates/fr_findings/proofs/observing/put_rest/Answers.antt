use Rattle.std.proofs.Common.{ℕ, List, ◌++◌, subst}
use Rattle.fr_base.specs.Device.{Puts}
use Rattle.fr_base.proofs.Putting.{cut, then}
use Rattle.fr_findings.specs.Census.{census_text}
use Rattle.fr_findings.specs.Ground.{basis_in, offending_given}
use Rattle.fr_observe.specs.Observing.{seen_doubles}
use Rattle.fr_sightings.specs.Sure.{are_numbers_sure}
use Rattle.fr_findings.specs.Text.{all_told, end_told}
use Rattle.fr_findings.specs.Verdict.{no_progress, told_of_doubles}
use Rattle.fr_findings.specs.declared.progress.Progress.{Progress}
use Rattle.fr_findings.proofs.observing.put_rest.Goals as goal

pub returns-in_err-put_all : goal.returns-in_err-put_all
unfolding all_told
returns-in_err-put_all g c = cut _ _ c.in_err-put_all.ensures.puts c.from_residual.ensures.0

pub returns : goal.returns
unfolding all_told
returns g c =
    let b = basis_in c.args.ground.now in
    let text : List ℕ = told_of_doubles b c.args.frames.now.seen.now (offending_given c.args.frames.now.offending) no_progress (seen_doubles c.args.frames.now.seen.now) in
    let census : List ℕ = census_text b.params b.log c.args.frames.now.seen.now in
    subst (λ (progress : Progress). Puts c.put_end.result (g.O.Sink.state c.args.out.now) (g.O.Sink.state c.put_end.new.out) (text ++ (census ++ end_told c.args.frames.now.seen.now c.args.tally.now (are_numbers_sure b.params b.log) progress)))
    c.in_ok-put_all.ensures.progress
    (then {text = text} c.put_end.result c.in_ok-put_all.ensures.puts c.put_end.ensures)
