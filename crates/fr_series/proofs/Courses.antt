-- By which numbers double cycles are in sharp sync, from one on.
use Rattle.std.proofs.Common.{◌≡◌, ◌∙◌, ℕ, ◌+◌, ◌≤◌, Bool, true, Option, Some, None, refl, ap, sym, arith}
use Rattle.std.specs.Option.{option_map}
use Rattle.std.specs.Prelude.{nat_le}
use Rattle.std.proofs.lemmas.Bool.Decides.{nat_tests}
use Rattle.fr_cluster.specs.Values.{Values}
use Rattle.fr_coverage.specs.Flutter.{flutter_from, TellsFluttering}
use Rattle.fr_coverage.specs.declared.gap.Fluttering.{Fluttering}
use Rattle.fr_drift.specs.View.{DriftView}
use Rattle.fr_script.specs.View.{ScriptView}
use Rattle.fr_sharp.specs.SharpStatement.{has_arbitrary}
use Rattle.fr_series.specs.Basis.{scale_from, sharp_scale_of, stays_for, IsCourse}
use Rattle.fr_series.specs.declared.course.Course.{Course}

-- up to the place of the flutter it stays
pub course_stays : (p : Values) (d : DriftView) (s : ScriptView) (n : ℕ) (found : Option Fluttering) → TellsFluttering p d s n found → (later : ℕ) → n ≤ later
    → stays_for (option_map (λ (place : Fluttering). place.double) found) later ≡ true → flutter_from p d s later ≡ flutter_from p d s n
course_stays p d s n None told later low holds = told.none refl later low ∙ sym (told.none refl n (omega arith))
course_stays p d s n (Some place) told later low holds =
    let high : later ≤ place.double = grind (arith, nat_tests) in told.stays place refl later low high

-- so the numbers of a double cycle are those of the next one
pub course_next : (p : Values) (d : DriftView) (s : ScriptView) (n : ℕ) (course : Course) → IsCourse p d s n course → stays_for course.until (n + 1) ≡ true
    → IsCourse p d s (n + 1) course
course_next p d s n course is holds =
    let same : flutter_from p d s (n + 1) ≡ flutter_from p d s n = is.stays (n + 1) (omega arith) holds in
    record {
      scale = is.scale ∙ ap (sharp_scale_of (has_arbitrary p s) p) (sym same);
      stays = λ later low still. is.stays later (omega arith) still ∙ sym same;
    }
