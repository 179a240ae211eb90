use Rattle.std.proofs.Common.{◌≡◌, Option, filter_map, get_or, option_to_list, refl, arith, rules}
use Rattle.fr_observe.specs.Faults.{twice_fault}
use Rattle.fr_sightings.specs.declared.sighting.Sighting.{Sighting}
use Rattle.fr_observe.specs.declared.fault.Fault.{Fault}
use Rattle.fr_observe.proofs.Told.{may-step, told_end, told_is, told_next, told_stop}
use Rattle.fr_observe.proofs.own_faults.put_twice.Goals as goal

pub loop-sighting-preserved : goal.loop-sighting-preserved
loop-sighting-preserved g c = record {
  firsts = c.twice_fault.ensures.firsts;
  told = λ result after last rest.
      let h : Sighting → Option Fault = twice_fault c.args.here.now in
      let items = c.args.here.now in
      let place = c.loop-sighting.sighting-index in
      let item = c.sighting-item.result in
      let at : item ≡ get_or items place item = search rules in
      c.loop-sighting.invariant.told result after last
      (told_next (λ x. option_to_list (h x)) (filter_map h) (may-step h) result items place item (omega arith) at
      (told_is c.twice_fault.ensures.value c.in_ok-tell.ensures) rest);
}

pub returns-in_err-tell : goal.returns-in_err-tell
returns-in_err-tell g c =
    let h : Sighting → Option Fault = twice_fault c.args.here.now in
    let items = c.args.here.now in
    let place = c.loop-sighting.sighting-index in
    let item = c.sighting-item.result in
    let at : item ≡ get_or items place item = search rules in
    c.loop-sighting.invariant.told _ _ _
    (told_stop (λ x. option_to_list (h x)) (filter_map h) (may-step h) c.from_residual.result items place item (omega arith) at
    (told_is c.twice_fault.ensures.value c.in_err-tell.ensures) c.from_residual.ensures.0)

pub returns : goal.returns
returns g c =
    let h : Sighting → Option Fault = twice_fault c.args.here.now in
    c.loop-sighting.invariant.told _ _ _
    (
    told_end (λ x. option_to_list (h x)) (filter_map h) (may-step h) (g.O.Sink.state c.loop-sighting.out) c.loop-sighting.first c.args.here.now c.loop-sighting.sighting-index refl
    (omega arith)
    )
