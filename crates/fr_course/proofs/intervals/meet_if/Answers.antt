use Rattle.fr_course.proofs.intervals.meet_if.Goals as goal

pub returns-in-Some-clause-near : goal.returns-in-Some-clause-near
returns-in-Some-clause-near c =
    λ least greatest x y. c.meet.ensures.near least greatest (rw c.in-Some.is at x) y
