use Rattle.std.proofs.Common.{Option, ap}
use Rattle.fr_bound.specs.declared.judging.Known.{Known}
use Rattle.fr_judging.specs.Knowing.{judged_terms, known_missing, term_faults}
use Rattle.fr_observe.proofs.Told.{told_all, told_cut, told_then}
use Rattle.fr_judging.proofs.standing_faults.put_term_faults.Goals as goal

pub returns-in_err-put_judged_terms : goal.returns-in_err-put_judged_terms
unfolding term_faults
returns-in_err-put_judged_terms g c =
    let s = c.args.scene.now in
    let same = ap (λ (met : Option Known). judged_terms s.params.now s.log.now s.scale.now s.number s.senders.now met) c.judged_met.ensures in
    told_cut _ (known_missing s.params.now s.log.now s.span s.before.now s.here.now s.number c.args.standing.now.known) (told_all same c.in_err-put_judged_terms.ensures)
    c.from_residual.ensures.0

pub returns : goal.returns
unfolding term_faults
returns g c =
    let s = c.args.scene.now in
    let same = ap (λ (met : Option Known). judged_terms s.params.now s.log.now s.scale.now s.number s.senders.now met) c.judged_met.ensures in
    told_then _ (told_all same c.in_ok-put_judged_terms.ensures) c.put_known_missing.ensures
