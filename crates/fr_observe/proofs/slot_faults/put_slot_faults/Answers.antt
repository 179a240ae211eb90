use Rattle.std.proofs.Common.{◌≡◌, [], ◌∷◌, map, get_or, refl, arith, rules}
use Rattle.fr_observe.specs.Faults.{irregular_fault, slot_faults}
use Rattle.fr_sightings.specs.declared.sighting.Sighting.{Sighting}
use Rattle.fr_observe.specs.declared.fault.Fault.{Fault}
use Rattle.fr_observe.proofs.Told.{told_end, told_next, told_same, told_stop}
use Rattle.fr_observe.proofs.slot_faults.put_slot_faults.Goals as goal

pub loop-sighting-preserved : goal.loop-sighting-preserved
loop-sighting-preserved g c = λ result after last rest.
    let h : Sighting → Fault = irregular_fault c.args.params.now in
    let items = c.args.frames.now in
    let place = c.loop-sighting.sighting-index in
    let item = c.sighting-item.result in
    let at : item ≡ get_or items place item = search rules in
    let is : c.irregular_fault.result ≡ h item = search rules in
    c.loop-sighting.invariant result after last
    (told_next (λ x. h x ∷ []) (map h) (λ x xs. refl) result items place item (omega arith) at
    (told_same is c.in_ok-tell_one.ensures) rest)

pub returns-in_err-tell_one : goal.returns-in_err-tell_one
unfolding slot_faults
returns-in_err-tell_one g c =
    let h : Sighting → Fault = irregular_fault c.args.params.now in
    let items = c.args.frames.now in
    let place = c.loop-sighting.sighting-index in
    let item = c.sighting-item.result in
    let at : item ≡ get_or items place item = search rules in
    let is : c.irregular_fault.result ≡ h item = search rules in
    c.loop-sighting.invariant _ _ _
    (told_stop (λ x. h x ∷ []) (map h) (λ x xs. refl) c.from_residual.result items place item (omega arith) at
    (told_same is c.in_err-tell_one.ensures) c.from_residual.ensures.0)

pub returns : goal.returns
unfolding slot_faults
returns g c =
    let h : Sighting → Fault = irregular_fault c.args.params.now in
    c.loop-sighting.invariant _ _ _
    (
    told_end (λ x. h x ∷ []) (map h) (λ x xs. refl) (g.O.Sink.state c.loop-sighting.out) c.loop-sighting.first c.args.frames.now c.loop-sighting.sighting-index refl
    (omega arith)
    )
