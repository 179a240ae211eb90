-- The courses of senders that have frames in both cycles of the next double cycle too.
use Rattle.std.proofs.Common.{◌≡◌, ℕ, suc, ◌+◌, All, Option, Some, ℤ, refl, ap, sym, ◌∙◌, subst}
use Rattle.std.specs.Prelude.{Contains, IfSome}
use Rattle.std.proofs.lemmas.List.Elements.{All-contains}
use Rattle.fr_base.specs.declared.channel.Channel.{Channel}
use Rattle.fr_cluster.specs.Setting.{Setting}
use Rattle.fr_cluster.specs.declared.nodes.NodeSpec.{NodeSpec}
use Rattle.fr_history.specs.Cycles.{Cycle, Cycles}
use Rattle.fr_history.specs.History.{row_for}
use Rattle.fr_runs.specs.Numbers.{HasDouble}
use Rattle.fr_log.specs.View.{LogView}
use Rattle.fr_course.specs.Course.{even_start}
use Rattle.fr_course.specs.Readings.{reading_scale}
use Rattle.fr_course.specs.declared.courses.Course.{Course}
use Rattle.fr_course.specs.Scales.{Scale}
use Rattle.fr_course.specs.declared.stamps.Delays.{Delays}
use Rattle.fr_course.specs.declared.stamps.Observer.{Observer}
use Rattle.fr_observe.specs.Observing.{senders_of}
use Rattle.fr_sightings.specs.Senders.{course_in, if_there, observer_of, seen_sender, seen_senders, sightings_in}
use Rattle.fr_sightings.specs.Sightings.{sightings_of}
use Rattle.fr_sightings.specs.declared.sender.Sender.{Sender}
use Rattle.fr_seen.specs.Clocks.{ReadsIn, StraightClock}
use Rattle.fr_seen.specs.Courses.{IsCourseThere}
use Rattle.fr_seen.specs.LogSeen.{GoesOnBy, SenderGoesOn, log_senders, run_double}
use Rattle.fr_seen.proofs.CornerLaws.{corners_lie_lem}
use Rattle.fr_seen.proofs.CourseLaws.{courses_are_there}
use Rattle.fr_seen.proofs.Doubles.{numbers_of}
use Rattle.fr_seen.proofs.SenderLaws.{all_given, sender_found, senders_go_on}
use Rattle.fr_seen.specs.Completeness.{IsNoWider, IsSharp, corner_width, length_width, stamp_width, starting_in}
use Rattle.fr_seen.specs.Contradictions.{IsObservedRun}
use Rattle.fr_seen.proofs.SeenCourses.{course_there}
use Rattle.fr_seen.proofs.CompletenessWidths.{corners_are_narrow}
use Rattle.fr_seen.proofs.CompletenessSenders.{IsByBoth, course_by_both, course_found, ordered, wider}

-- a course that is there
there_is : (course : Course) → IsCourseThere course → if_there (Some course) ≡ Some course
there_is course is = rw (is.even, is.odd, is.apart, is.length) refl

-- what is known of the next course
pub record IsNextBy (scale : Scale) (observer : Observer) (limits : Delays) (o : Option Course) : Type 0 where
  pub next : Course
  pub is : o ≡ Some next
  pub both : IsByBoth scale observer limits next

module _ (x : Setting) (h : Cycles) (base : ℕ) (delays : ℕ → Channel → Delays) (clock : ℕ → StraightClock) (l : LogView) (run : IsObservedRun x h base delays clock l) (double : ℕ) (width : ℤ) where
  abbrev Scaled : Scale
  Scaled = reading_scale l.drift x.params

  abbrev ByNext : Sender → Type 0
  ByNext s = (sharp : IsSharp x l (double + 1) width s) → IsNextBy (reading_scale l.drift x.params) (observer_of l) sharp.limits s.next

  next_by : (node : NodeSpec) (slot : ℕ) (s : Sender) → Contains x.params.nodes node → node.key ≡ Some slot → s.node ≡ node.id
      → s.next ≡ if_there (course_in (reading_scale l.drift x.params) x.params l (sightings_in (sightings_of x.params l) (double + 1)) (double + 1) node.id slot) → ByNext s
  next_by node slot s among keyed same next_is sharp =
      let found = course_found x h base delays clock l run (double + 1) width s.node slot sharp.channel sharp.limits sharp.limited sharp.in_even sharp.in_odd in
      let given : course_in Scaled x.params l (sightings_in (sightings_of x.params l) (double + 1)) (double + 1) node.id slot ≡ Some found.course =
      ap (λ n. course_in Scaled x.params l (sightings_in (sightings_of x.params l) (double + 1)) (double + 1) n slot) (sym same) ∙ found.is in
      record {
        next = found.course;
        is = next_is ∙ ap if_there given ∙ there_is found.course (course_there x h base delays clock l run node slot (double + 1) found.course among keyed given);
        both = course_by_both x h base delays clock l run (double + 1) width s.node slot found.course sharp.channel sharp.limits found.is sharp.limited sharp.in_even sharp.in_odd;
      }

  all_next : All ByNext (log_senders x l double)
  unfolding senders_of seen_senders
  all_next =
      all_given (seen_sender Scaled x.params l (sightings_in (sightings_of x.params l) double) (sightings_in (sightings_of x.params l) (double + 1)) double) ByNext x.params.nodes
      (λ node among s given. of node among s given)
    where
      of : (node : NodeSpec) → Contains x.params.nodes node → (s : Sender)
          → seen_sender Scaled x.params l (sightings_in (sightings_of x.params l) double) (sightings_in (sightings_of x.params l) (double + 1)) double node ≡ Some s → ByNext s
      of node among s given =
          let by = sender_found x h base delays clock l run.timed.sane run.log run.seen double node s given in
          next_by node by.slot s among by.keyed (sym (ap (λ (o : Sender). o.node) by.sender_is)) (sym (ap (λ (o : Sender). o.next) by.sender_is))

  -- its first corner lies over the next start, and is no wider
  pub record HasNextStart (next_even : Cycle) (s : Sender) : Type 0 where
    pub next : Course
    pub is : s.next ≡ Some next
    pub reads : ReadsIn (clock (run_double base double)) (even_start (reading_scale l.drift x.params) next) (starting_in next_even s)
    pub narrow : IsNoWider width (even_start (reading_scale l.drift x.params) next)

  pub next_starts : (even odd next_even next_odd : Cycle) (s : Sender) → HasDouble h (run_double base double) even odd → HasDouble h (suc (run_double base double)) next_even next_odd
      → Contains (log_senders x l double) s → IsSharp x l (double + 1) width s → HasNextStart next_even s
  next_starts even odd next_even next_odd s has next_has among sharp =
      let clock_of = clock (run_double base double) in
      let by = All-contains ByNext (log_senders x l double) s all_next among sharp in
      let all = senders_go_on x h base delays clock l double even odd next_even next_odd run.timed run.log run.seen has next_has in
      let goes : GoesOnBy x l.drift clock_of even odd next_even next_odd s by.next =
      subst (λ o. IfSome o (GoesOnBy x l.drift clock_of even odd next_even next_odd s)) by.is
      (All-contains (SenderGoesOn x l.drift clock_of even odd next_even next_odd) (log_senders x l double) s all among) in
      let on = goes.goes.on.second in
      let first = row_for next_even.told.rows s.node in
      let last = row_for next_odd.told.rows s.node in
      let numbers = numbers_of x.params run.timed.sane in
      let there = courses_are_there x.params l.drift clock_of by.next first last on.seen.within_drift on.holds in
      let narrow =
      corners_are_narrow Scaled (stamp_width (observer_of l) sharp.limits) (length_width Scaled (observer_of l) sharp.limits) by.next
      (record { even = by.both.even; odd = by.both.odd; length = by.both.length; order = ordered by.next.length.low by.next.length.high there.length })
      (record { macros_some = numbers.macros_some; from = on.seen.acts_from; to = on.seen.acts_to; correction_to = numbers.correction_to }) in
      record {
        next = by.next;
        is = by.is;
        reads = (corners_lie_lem x.params l.drift clock_of by.next first last on.seen on.holds).even_starts;
        narrow = wider (corner_width Scaled (observer_of l) sharp.limits) width (even_start Scaled by.next) narrow.even_starts sharp.width_to;
      }
