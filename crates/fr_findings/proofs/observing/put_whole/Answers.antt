use Rattle.std.proofs.Common.{◌≡◌, ℕ, List, ◌++◌, subst, rules}
use Rattle.fr_base.specs.Device.{Puts}
use Rattle.fr_base.proofs.Putting.{cut, then}
use Rattle.fr_findings.specs.Ground.{basis_in, offending_given}
use Rattle.fr_observe.specs.Faults.{stated_flutter}
use Rattle.fr_observe.specs.Observing.{precision_row}
use Rattle.fr_findings.specs.Text.{all_told, whole_told}
use Rattle.fr_findings.proofs.observing.put_whole.Goals as goal

pub returns-in_err-put_line : goal.returns-in_err-put_line
unfolding whole_told
returns-in_err-put_line g c =
    let b = basis_in c.args.ground.now in
    let rest : List ℕ = all_told b c.args.frames.now.seen.now (offending_given c.args.frames.now.offending) c.args.tally.now in
    let text : c.precision_row.result ≡ precision_row c.args.ground.now.precision (stated_flutter b.params b.log) b.log.lost = search rules in
    subst (λ (l : List ℕ). Puts c.from_residual.result (g.O.Sink.state c.args.out.now) (g.O.Sink.state c.put_line.new.out) (l ++ rest)) text
    (cut {text = c.precision_row.result} c.from_residual.result rest c.in_err-put_line.ensures c.from_residual.ensures.0)

pub returns : goal.returns
unfolding whole_told
returns g c =
    let b = basis_in c.args.ground.now in
    let rest : List ℕ = all_told b c.args.frames.now.seen.now (offending_given c.args.frames.now.offending) c.args.tally.now in
    let text : c.precision_row.result ≡ precision_row c.args.ground.now.precision (stated_flutter b.params b.log) b.log.lost = search rules in
    subst (λ (l : List ℕ). Puts c.put_rest.result (g.O.Sink.state c.args.out.now) (g.O.Sink.state c.put_rest.new.out) (l ++ rest)) text
    (then {text = c.precision_row.result} c.put_rest.result c.in_ok-put_line.ensures c.put_rest.ensures)
