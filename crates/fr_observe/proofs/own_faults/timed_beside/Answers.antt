use Rattle.std.proofs.Common.{ℕ, ◌*◌, ◌≤◌, Option, IfSome, sym, subst}
use Rattle.fr_log.specs.Rows.{last_stamp}
use Rattle.fr_sightings.proofs.Stamps.{first-timed}
use Rattle.fr_observe.proofs.own_faults.timed_beside.Goals as goal

pub returns-clause-timed : goal.returns-clause-timed
returns-clause-timed c =
    let s = c.args.sighting.now in
    subst (λ (o : Option ℕ). IfSome o (λ stamp. c.args.log.now.unit * stamp ≤ last_stamp)) (sym c.first_beside.ensures.value)
    (first-timed c.args.log.now c.args.here.now s.node s.channel s.number c.requires.here)
