use Rattle.std.proofs.Common.{ℕ, ◌*◌, ◌≤◌, Option, IfSome, sym, subst}
use Rattle.fr_log.specs.Rows.{last_stamp}
use Rattle.fr_sightings.proofs.Stamps.{first-timed}
use Rattle.fr_sightings.proofs.intervals.timed_stamp.Goals as goal

pub returns-clause-timed : goal.returns-clause-timed
returns-clause-timed c =
    subst (λ (o : Option ℕ). IfSome o (λ stamp. c.args.log.now.unit * stamp ≤ last_stamp)) (sym c.first_stamp.ensures)
    (first-timed c.args.log.now c.args.seen.now c.args.node c.args.channel c.args.cycle c.requires)
