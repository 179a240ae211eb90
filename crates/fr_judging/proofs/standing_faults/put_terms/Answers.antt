use Rattle.std.proofs.Common.{ℕ, filter_map, ap}
use Rattle.fr_observe.specs.Faults.{offset_fault, rate_fault}
use Rattle.fr_observe.proofs.Told.{told_all, told_cut, told_then}
use Rattle.fr_judging.proofs.standing_faults.put_terms.Goals as goal

pub returns-in_err-put_term : goal.returns-in_err-put_term
returns-in_err-put_term g c =
    let s = c.args.scene.now in
    let p = s.params.now in
    let l = s.log.now in
    let scale = s.scale.now in
    let all = s.senders.now in
    let offsets = ap (λ (lost : ℕ). filter_map (offset_fault p l scale s.number all lost) all) c.lost-lost.ensures.value in
    told_cut _ (filter_map (rate_fault p l scale s.number all l.lost) all) (told_all offsets c.in_err-put_term.ensures) c.from_residual.ensures.0

pub returns : goal.returns
returns g c =
    let s = c.args.scene.now in
    let p = s.params.now in
    let l = s.log.now in
    let scale = s.scale.now in
    let all = s.senders.now in
    let offsets = ap (λ (lost : ℕ). filter_map (offset_fault p l scale s.number all lost) all) c.lost-lost.ensures.value in
    let rates = ap (λ (lost : ℕ). filter_map (rate_fault p l scale s.number all lost) all) c.lost-lost.ensures.value in
    told_then _ (told_all offsets c.in_ok-put_term.ensures) (told_all rates c.put_term-2.ensures)
