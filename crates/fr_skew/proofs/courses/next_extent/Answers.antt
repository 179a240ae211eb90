use Rattle.std.proofs.Common.{◌≡◌, ◌∙◌, ◌<◌, FitsSigned, Some, w64, length, get_or, ap, sym, subst, arith, rules}
use Rattle.std.proofs.lemmas.Int.{to_z-of_z}
use Rattle.std.proofs.lemmas.List.Elements.{All-get_or}
use Rattle.fr_skew.specs.Courses.{gone_on, next_instant, CanGoOn}
use Rattle.fr_skew.specs.Extents.{widened}
use Rattle.fr_skew.proofs.Coursing.{instants-more, swept-more, swept-next}
use Rattle.fr_skew.proofs.courses.next_extent.Goals as goal

pub next-at-requires : goal.next-at-requires
next-at-requires c =
    let courses = c.args.courses.now in
    let i = c.loop-course.course-index in
    let course = c.course-item.result in
    let lt : i < length courses = omega arith in
    let at : course ≡ get_or courses i course = swept-next gone_on courses c.loop-course.courses i course lt c.loop-course.invariant.0 c.course-item.is in
    subst CanGoOn (sym at ∙ c.course-item.is) (All-get_or CanGoOn courses i course lt c.requires)

pub loop-course-preserved : goal.loop-course-preserved
loop-course-preserved c =
    let courses = c.args.courses.now in
    let i = c.loop-course.course-index in
    let course = c.course-item.result in
    let lt : i < length courses = omega arith in
    let here : course ≡ get_or courses i course = swept-next gone_on courses c.loop-course.courses i course lt c.loop-course.invariant.0 c.course-item.is in
    let stepped : c.next-at.new.self ≡ gone_on course = c.next-at.ensures.after ∙ ap gone_on (sym c.course-item.is) in
    let at : c.next-at.result ≡ next_instant course = c.next-at.ensures.instant ∙ ap next_instant (sym c.course-item.is) in
    let fits : FitsSigned w64 c.next-at.result = search rules in
    let value : c.widened.result ≡ widened c.loop-course.extent c.next-at.result = simp to_z-of_z at c.widened.ensures.value in (
      swept-more gone_on courses c.loop-course.courses i course c.next-at.new.self lt c.loop-course.invariant.0 c.course-item.is stepped,
      ap Some value ∙ instants-more courses i course c.loop-course.extent c.next-at.result lt here c.loop-course.invariant.1 at,
      c.widened.ensures.proper,
    )
