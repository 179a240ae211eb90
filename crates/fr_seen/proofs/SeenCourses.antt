-- The courses of a log are those of nodes of each run that it is seen of, and none of their intervals is empty.
use Rattle.std.proofs.Common.{◌≡◌, ℕ, suc, ◌*◌, ◌/◌, ◌≤◌, Option, Some, ℤ, pos, List, [], ◌∷◌, All, map, refl, inl, arith}
use Rattle.std.specs.Prelude.{Contains}
use Rattle.std.proofs.lemmas.List.Elements.{All-head}
use Rattle.fr_base.specs.declared.channel.Channel.{Channel}
use Rattle.fr_cluster.specs.Setting.{Setting}
use Rattle.fr_cluster.specs.declared.nodes.NodeSpec.{NodeSpec}
use Rattle.fr_time.specs.Slots.{action_point_of}
use Rattle.fr_history.specs.Cycles.{Cycle, Cycles}
use Rattle.fr_history.specs.History.{row_for}
use Rattle.fr_log.specs.View.{LogView}
use Rattle.fr_course.specs.Readings.{meet_all, reading_scale}
use Rattle.fr_course.specs.Course.{course_from}
use Rattle.fr_course.specs.declared.courses.Course.{Course}
use Rattle.fr_course.specs.declared.intervals.Interval.{Interval}
use Rattle.fr_course.specs.Scales.{Scale}
use Rattle.fr_course.specs.declared.stamps.Delays.{Delays}
use Rattle.fr_sightings.specs.Senders.{course_in, observer_of, sightings_in}
use Rattle.fr_sightings.specs.Sightings.{sightings_of}
use Rattle.fr_seen.specs.Clocks.{StraightClock}
use Rattle.fr_seen.specs.Courses.{IsCourseThere}
use Rattle.fr_seen.specs.Observed.{IsSentBy, SentFrame, box_of, span_between}
use Rattle.fr_seen.specs.Skews.{IsOnCourse, SeenNode}
use Rattle.fr_seen.specs.LogSeen.{HasBoth, run_double}
use Rattle.fr_seen.proofs.CourseLaws.{courses_are_there}
use Rattle.fr_seen.proofs.ObservedLaws.{seen_courses_hold}
use Rattle.fr_seen.proofs.SenderLaws.{is_picked, own_is, sender_has_both, sender_has_rows}
use Rattle.fr_seen.specs.Contradictions.{IsObservedRun}
use Rattle.fr_seen.specs.LogDoubles.{IsDoubleThere}
use Rattle.fr_seen.proofs.SeenDoubles.{double_of_cycle, frame_sent}

-- a node with its course and its rows
abbrev pub node_on : Cycle → Cycle → ℕ → Course → SeenNode
node_on even odd node course = record { course = course; even = row_for even.told.rows node; odd = row_for odd.told.rows node }

module _ (x : Setting) (h : Cycles) (base : ℕ) (delays : ℕ → Channel → Delays) (clock : ℕ → StraightClock) (l : LogView) (run : IsObservedRun x h base delays clock l) where
  abbrev Scaled : Scale
  Scaled = reading_scale l.drift x.params

  -- a frame's double cycle is there
  pub sent_there : (node slot at cycle : ℕ) (f : SentFrame) → at ≤ cycle / 2 → IsSentBy run.seen.sent node slot cycle f → IsDoubleThere h at
  sent_there node slot at cycle f before by =
      let sent = frame_sent x h base delays clock l run f by.there in
      double_of_cycle h f.cycle at x.doubles sent.told run.whole sent.has_cycle (same f.cycle cycle at by.in_cycle before)
    where
      same : (f c a : ℕ) → f ≡ c → a ≤ c / 2 → a ≤ f / 2
      same f c a is le = omega (arith, is, le)

  even_half : (at : ℕ) → at ≤ 2 * at / 2
  even_half at = omega arith

  odd_half : (at : ℕ) → at ≤ suc (2 * at) / 2
  odd_half at = omega arith

  -- so is that of frames by which a course is
  frames_there : (node slot at : ℕ) (action : ℤ) (span : Option Interval) (course : Course) (evens odds : List SentFrame) → All (IsSentBy run.seen.sent node slot (2 * at)) evens
      → All (IsSentBy run.seen.sent node slot (suc (2 * at))) odds
      → course_from Scaled action (meet_all (map (box_of (observer_of l) delays) evens)) (meet_all (map (box_of (observer_of l) delays) odds)) span ≡ Some course
      → IsDoubleThere h at
  unfolding meet_all
  frames_there node slot at action span course (f ∷ evens) odds evens_are odds_are is =
      sent_there node slot at (2 * at) f (even_half at) (All-head (IsSentBy run.seen.sent node slot (2 * at)) f evens evens_are)
  frames_there node slot at action span course [] (f ∷ odds) evens_are odds_are is =
      sent_there node slot at (suc (2 * at)) f (odd_half at) (All-head (IsSentBy run.seen.sent node slot (suc (2 * at))) f odds odds_are)
  frames_there node slot at action span course [] [] evens_are odds_are is = absurd (cc is)

  -- a course in a double cycle of the log, which is that one of the run
  pub record IsCourseRun (node at : ℕ) (course : Course) : Type 0 where
    pub double : IsDoubleThere h at
    pub rows : HasBoth double.even double.odd node
    pub on : IsOnCourse x.params l.drift (clock at) (node_on double.even double.odd node course)

  abbrev Given : NodeSpec → ℕ → ℕ → Course → Type 0
  Given node slot double course =
      course_in Scaled x.params l (sightings_in (sightings_of x.params l) double) double node.id slot ≡ Some course

  pub course_run : (node : NodeSpec) (slot double : ℕ) (course : Course) → Contains x.params.nodes node → node.key ≡ Some slot → Given node slot double course
      → IsCourseRun node.id (run_double base double) course
  course_run node slot double course among keyed is =
      let at = run_double base double in
      let sane = run.timed.sane in
      let own = own_is x h base delays clock l sane run.log run.seen node slot among keyed in
      let picks = is_picked x h base delays clock l sane run.log run.seen node.id slot double at course own refl is in
      let there =
      frames_there node.id slot at (pos (action_point_of x.params slot)) (meet_all (map (span_between (observer_of l) delays) picks.picked.pairs)) course picks.picked.even picks.picked.odd
      picks.are.in_even picks.are.in_odd picks.course_is in
      let rows = sender_has_both x h base delays clock l sane run.log run.seen node.id slot double at there.even there.odd course run.timed there.has picks in
      record {
        double = there;
        rows = rows;
        on = seen_courses_hold x h base (observer_of l) delays clock run.seen.sent node.id slot at at (row_for there.even.told.rows node.id) (row_for there.odd.told.rows node.id) picks.picked course
            run.timed run.seen.seen
            (sender_has_rows x h base delays clock l sane run.log run.seen node slot at there.even there.odd among keyed there.has rows) picks.are (inl refl) picks.course_is;
      }

  pub course_there : (node : NodeSpec) (slot double : ℕ) (course : Course) → Contains x.params.nodes node → node.key ≡ Some slot → Given node slot double course → IsCourseThere course
  course_there node slot double course among keyed is =
      let at = run_double base double in
      let it = course_run node slot double course among keyed is in
      courses_are_there x.params l.drift (clock at) course (row_for it.double.even.told.rows node.id) (row_for it.double.odd.told.rows node.id)
      (run.seen.seen.within_drift at) it.on.holds
