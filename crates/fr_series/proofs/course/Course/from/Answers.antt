use Rattle.std.proofs.Common.{◌≡◌, ℕ, Bool, Option, true, ap, ap₂, sym, ◌∙◌}
use Rattle.fr_cluster.specs.Values.{Values}
use Rattle.fr_series.specs.Basis.{sharp_scale_of, stays_for}
use Rattle.fr_series.proofs.Courses.{course_stays}
use Rattle.fr_series.proofs.course.Course.from.Goals as goal

pub returns-clause-is : goal.returns-clause-is
returns-clause-is c =
    let p : Values = c.args.params.now in
    let told = c.flutter-place.ensures.told in
    record {
      scale =
          c.sharp_scale.ensures.value
          ∙ ap₂ (λ (b : Bool) (t : ℕ). sharp_scale_of b p t) c.has_arbitrary-beside.ensures (c.ticks_of.ensures ∙ told.ticks);
      stays = λ later low holds.
          course_stays p c.args.drift.now c.args.script.now c.args.double c.flutter-place.result told later low
          (sym (ap (λ (until : Option ℕ). stays_for until later) c.last_of.ensures) ∙ holds);
    }
