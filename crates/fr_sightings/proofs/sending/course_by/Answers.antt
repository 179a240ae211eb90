use Rattle.std.proofs.Common.{◌≡◌, ◌∙◌, ℤ, ap}
use mir.Syntax.{w128}
use Rattle.std.proofs.lemmas.Int.{to_z-of_z}
use Rattle.fr_course.specs.Course.{course_from}
use Rattle.fr_sightings.proofs.Gathering.{course-at}
use Rattle.fr_sightings.proofs.sending.course_by.Goals as goal

pub returns-clause-proper : goal.returns-clause-proper
returns-clause-proper c =
    let value : c.course_from.result ≡ course_from c.args.scale.now c.args.action c.args.even c.args.odd c.args.span =
    c.course_from.ensures.value ∙ ap (λ (a : ℤ). course_from c.args.scale.now a c.args.even c.args.odd c.args.span) (to_z-of_z w128 c.args.action c.ranges.action) in
    course-at c.args.scale.now c.args.action c.args.even c.args.odd c.args.span c.course_from.result value c.course_from.ensures.near
