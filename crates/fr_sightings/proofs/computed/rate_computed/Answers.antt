use Rattle.std.proofs.Common.{◌∙◌, ◌≤◌, List, length, sym, subst}
use Rattle.fr_course.specs.declared.intervals.Interval.{Interval}
use Rattle.fr_sightings.specs.Computing.{value_seen}
use Rattle.fr_sightings.specs.declared.computed.Measured.TheVariants as measured
use Rattle.fr_sightings.proofs.Others.{values-few}
use Rattle.fr_sightings.proofs.computed.rate_computed.Goals as goal

pub middle-requires-clause-few : goal.middle-requires-clause-few
middle-requires-clause-few c =
    subst (λ (l : List Interval). length l ≤ 64) (sym (c.as_slice.ensures ∙ c.values_seen-known.ensures.value))
    (values-few (value_seen measured.RateValue c.args.scale.now c.args.measuring.now c.args.sender.now.course) c.args.senders.now c.args.sender.now c.requires.few c.requires.among)
