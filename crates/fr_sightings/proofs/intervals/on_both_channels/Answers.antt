use Rattle.std.proofs.Common.{Option, IfSome, subst}
use Rattle.fr_course.specs.Near.{EndBetween}
use Rattle.fr_course.specs.declared.intervals.Interval.{Interval}
use Rattle.fr_sightings.proofs.intervals.on_both_channels.Goals as goal

pub returns-in-Some-on_b-clause-near : goal.returns-in-Some-on_b-clause-near
returns-in-Some-on_b-clause-near c = λ least greatest a b.
    let P : Option Interval → Type 0 = λ o. IfSome o (EndBetween least greatest) in
    c.meet.ensures.near least greatest (subst P c.in-Some-on_b.is b) (subst P c.in-Some.is a)
