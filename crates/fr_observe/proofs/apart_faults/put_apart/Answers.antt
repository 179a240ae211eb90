use Rattle.std.proofs.Common.{◌≡◌, ◌∙◌, ◌*◌, List, ap, rules}
use Rattle.fr_course.specs.Spread.{lengths_apart, starts_apart}
use Rattle.fr_course.specs.declared.courses.Course.{Course}
use Rattle.fr_observe.specs.Faults.{beyond_fault}
use Rattle.fr_observe.specs.Observing.{courses_of}
use Rattle.fr_observe.specs.declared.apart_faults.Apart.TheVariants.{Lengths, Starts}
use Rattle.fr_observe.proofs.Told.{told_cut, told_is, told_then}
use Rattle.fr_observe.proofs.apart_faults.put_apart.Goals as goal

pub returns-in_err-tell : goal.returns-in_err-tell
returns-in_err-tell g c =
    let s = c.args.scene.now in
    let one : c.as_slice.result.now ≡ courses_of s.senders.now = c.as_slice.ensures ∙ c.courses_of-courses.ensures.value in
    let given : c.starts_fault-starts.result ≡ beyond_fault Starts (2 * s.number) c.args.starts (starts_apart s.scale.now c.as_slice.result.now) = search rules in
    let starts : c.starts_fault-starts.result ≡ beyond_fault Starts (2 * s.number) c.args.starts (starts_apart s.scale.now (courses_of s.senders.now)) =
    given ∙ ap (λ (l : List Course). beyond_fault Starts (2 * s.number) c.args.starts (starts_apart s.scale.now l)) one in
    told_cut _ _ (told_is starts c.in_err-tell.ensures) c.from_residual.ensures.0

pub returns : goal.returns
returns g c =
    let s = c.args.scene.now in
    let one : c.as_slice.result.now ≡ courses_of s.senders.now = c.as_slice.ensures ∙ c.courses_of-courses.ensures.value in
    let given : c.starts_fault-starts.result ≡ beyond_fault Starts (2 * s.number) c.args.starts (starts_apart s.scale.now c.as_slice.result.now) = search rules in
    let starts : c.starts_fault-starts.result ≡ beyond_fault Starts (2 * s.number) c.args.starts (starts_apart s.scale.now (courses_of s.senders.now)) =
    given ∙ ap (λ (l : List Course). beyond_fault Starts (2 * s.number) c.args.starts (starts_apart s.scale.now l)) one in
    let two : c.as_slice-2.result.now ≡ courses_of s.senders.now = c.as_slice-2.ensures ∙ c.courses_of-courses.ensures.value in
    let next : c.lengths_fault-lengths.result ≡ beyond_fault Lengths (2 * s.number) c.args.lengths (lengths_apart s.scale.now c.as_slice-2.result.now) = search rules in
    let lengths : c.lengths_fault-lengths.result ≡ beyond_fault Lengths (2 * s.number) c.args.lengths (lengths_apart s.scale.now (courses_of s.senders.now)) =
    next ∙ ap (λ (l : List Course). beyond_fault Lengths (2 * s.number) c.args.lengths (lengths_apart s.scale.now l)) two in
    told_then _ (told_is starts c.in_ok-tell.ensures) (told_is lengths c.tell-2.ensures)
