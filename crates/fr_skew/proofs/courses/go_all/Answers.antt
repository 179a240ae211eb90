use Rattle.std.proofs.Common.{◌≡◌, ◌∙◌, ◌<◌, pos, length, get_or, ap, sym, arith}
use Rattle.std.specs.Prelude.{◌≤ℤ◌}
use Rattle.std.proofs.lemmas.List.Elements.{All-get_or}
use Rattle.fr_skew.specs.Courses.{gone_to}
use Rattle.fr_skew.specs.declared.courses.Course.{Course}
use Rattle.fr_skew.proofs.Coursing.{swept-more, swept-next}
use Rattle.fr_skew.proofs.courses.go_all.Goals as goal

pub go-requires : goal.go-requires
go-requires c =
    let courses = c.args.courses.now in
    let i = c.loop-course.course-index in
    let course = c.course-item.result in
    let lt : i < length courses = omega arith in
    let at : course ≡ get_or courses i course = swept-next (gone_to (pos c.args.macrotick)) courses c.loop-course.courses i course lt c.loop-course.invariant c.course-item.is in
    let Can : Course → Type 0 = λ x. pos c.args.macrotick ≤ℤ x.walk.grid.macros in
    rw (← c.course-item.is) (rw at (All-get_or Can courses i course lt c.requires))

pub loop-course-preserved : goal.loop-course-preserved
loop-course-preserved c =
    let courses = c.args.courses.now in
    let i = c.loop-course.course-index in
    let course = c.course-item.result in
    let lt : i < length courses = omega arith in
    let stepped : c.go.new.self ≡ gone_to (pos c.args.macrotick) course = c.go.ensures ∙ ap (gone_to (pos c.args.macrotick)) (sym c.course-item.is) in
    swept-more (gone_to (pos c.args.macrotick)) courses c.loop-course.courses i course c.go.new.self lt c.loop-course.invariant c.course-item.is stepped
