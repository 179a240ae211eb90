-- No term that was seen contradicts what its node must have computed in a double cycle that is judged.
use Rattle.std.proofs.Common.{◌≡◌, ◌⊎◌, ℕ, suc, ◌+◌, ◌*◌, ◌/◌, ◌%◌, ◌<◌, ◌==◌, Bool, true, false, ◌||◌, ℤ, pos, Option, Some, None, All, length, refl, ap, sym, ◌∙◌, subst, inl, inr, arith}
use Rattle.std.specs.Prelude.{◌-ℤ◌, ◌≤ℤ◌, Contains, IfSome, int_lt, find, if◌then◌else◌}
use Rattle.std.specs.Option.{option_and_then, option_map}
use Rattle.std.proofs.lemmas.Int.{ints}
use Rattle.std.proofs.lemmas.List.Elements.{All-contains}
use Rattle.fr_base.specs.Within.{IsBetween}
use Rattle.fr_base.specs.declared.channel.Channel.{Channel}
use Rattle.fr_base.specs.declared.channel.Channel.TheVariants.{A, B}
use Rattle.fr_cluster.specs.Setting.{Setting, correct_nodes}
use Rattle.fr_cluster.specs.Values.{Values}
use Rattle.fr_bound.specs.declared.judging.Heard.{Heard}
use Rattle.fr_bound.specs.declared.judging.Known.{Known}
use Rattle.fr_cluster.specs.declared.nodes.NodeSpec.{NodeSpec}
use Rattle.fr_cluster.proofs.Elements.{filtered, found}
use Rattle.fr_time.specs.Slots.{action_point_of}
use Rattle.fr_history.specs.Cycles.{Cycle, Cycles}
use Rattle.fr_history.specs.History.{row_for}
use Rattle.fr_runs.specs.Numbers.{HasDouble}
use Rattle.fr_log.specs.View.{LogView}
use Rattle.fr_course.specs.Course.{course_from}
use Rattle.fr_course.specs.Readings.{meet_all, reading_scale}
use Rattle.fr_course.specs.Terms.{offset_seen, rate_step_seen}
use Rattle.fr_course.specs.declared.courses.Course.{Course}
use Rattle.fr_course.specs.declared.intervals.Interval.{Interval}
use Rattle.fr_course.specs.Scales.{Scale}
use Rattle.fr_course.specs.declared.stamps.Delays.{Delays}
use Rattle.fr_course.specs.declared.stamps.Observer.{Observer}
use Rattle.fr_observe.specs.Observing.{senders_of, terms_of}
use Rattle.fr_sightings.specs.Senders.{box_by, box_on, course_in, delays_in, double_of, first_stamp, if_there, is_in, is_sent_in, observer_of, on_both_channels, own_slot, seen_box, seen_sender, seen_sender_by, seen_senders, seen_span, sender_on, sightings_in}
use Rattle.fr_sightings.specs.Sightings.{sightings_of}
use Rattle.fr_sightings.specs.declared.sender.Sender.{Sender}
use Rattle.fr_sightings.specs.declared.sighting.Sighting.{Sighting}
use Rattle.fr_seen.specs.Clocks.{StraightClock}
use Rattle.fr_seen.specs.LogSeen.{GoesOnBy, SenderGoesOn, TermHolds, log_senders, run_double, seen_twice}
use Rattle.fr_seen.proofs.RowLaws.{observed_next_rows_hold}
use Rattle.fr_seen.proofs.SenderLaws.{all_given, mapped_some, senders_go_on}
use Rattle.fr_seen.proofs.TermLaws.{rate_steps_are_seen}
use Rattle.fr_seen.specs.Contradictions.{IsObservedRun, MissesFew}
use Rattle.fr_observe.specs.Faults.{offset_due, offset_fault, rate_due, rate_fault, stated_flutter, unlike_fault, unlike_with}
use Rattle.fr_judging.specs.Missing.{unlike_term}
use Rattle.fr_observe.specs.declared.term.Term.{Term}
use Rattle.fr_observe.specs.declared.term.Term.TheVariants.{Offset, Rate}
use Rattle.fr_seen_runs.specs.ComputedTerms.{IsNamedLog, OffsetIsComputed, RateIsComputed}
use Rattle.fr_seen_runs.specs.JudgedTerms.{IsJudgedRun, MissedIsSo, OffsetsAreComputed, RatesAreComputed}
use Rattle.fr_seen.specs.LogDoubles.{IsDoubleThere}
use Rattle.fr_seen_runs.proofs.ComputedSenders.{there_some}
use Rattle.fr_seen.proofs.SeenDoubles.{doubles_to, sighting_within}

-- ---- what was seen and what was computed have a number in common

unlike_none : (what : Term) (cycle node : ℕ) (seen computed : Option Interval) (value : ℤ)
    → IfSome seen (λ i. IsBetween i.low i.high value) → IfSome computed (λ i. IsBetween i.low i.high value) → unlike_fault what cycle node seen computed ≡ None
unlike_none what cycle node None computed value one other = refl
unlike_none what cycle node (Some seen) None value one other = refl
unlike_none what cycle node (Some seen) (Some computed) value one other =
    by (int_lt seen.high computed.low) (int_lt computed.high seen.low) (no_less computed.low seen.high value other.low one.high) (no_less seen.low computed.high value one.low other.high)
  where
    no_less : (low high v : ℤ) → low ≤ℤ v → v ≤ℤ high → int_lt high low ≡ false
    no_less low high v from to = grind (arith, ints)

    by : (first second : Bool) → first ≡ false → second ≡ false → (if first || second then Some (unlike_with what cycle node seen computed) else None) ≡ None
    by true second a b = absurd (cc a)
    by false true a b = absurd (cc b)
    by false false a b = refl

-- ---- a sender of the next double cycle is seen there

-- one of some sightings of a double cycle
record IsSeenIn (p : Values) (l : LogView) (double : ℕ) : Type 0 where
  sighting : Sighting
  there : Contains (sightings_of p l) sighting
  is : double_of sighting ≡ double

met_one : (a b : Option Interval) (i : Interval) → on_both_channels a b ≡ Some i → ((j : Interval) × (a ≡ Some j)) ⊎ ((j : Interval) × (b ≡ Some j))
unfolding meet_all
met_one None None i is = absurd (cc is)
met_one (Some j) b i is = inl (j, refl)
met_one None (Some j) i is = inr (j, refl)

stamp_of : (observer : Observer) (delays : Option Delays) (stamp : Option ℕ) (i : Interval) → box_by observer delays stamp ≡ Some i → (n : ℕ) × (stamp ≡ Some n)
stamp_of observer None stamp i is = absurd (cc is)
stamp_of observer (Some delays) None i is = absurd (cc is)
stamp_of observer (Some delays) (Some n) i is = (n, refl)

module _ (p : Values) (l : LogView) (double : ℕ) where
  stamped_in : (node cycle : ℕ) (ch : Channel) (stamp : ℕ) → first_stamp (sightings_in (sightings_of p l) double) node ch cycle ≡ Some stamp → IsSeenIn p l double
  unfolding first_stamp
  stamped_in node cycle ch stamp is =
      let some = mapped_some (λ (s : Sighting). s.stamp) (find (is_sent_in node ch cycle) (sightings_in (sightings_of p l) double)) stamp is in
      let among = (found (is_sent_in node ch cycle) (sightings_in (sightings_of p l) double) some.0 some.1.0).1 in
      let kept = filtered (is_in double) (sightings_of p l) some.0 among in
      record { sighting = some.0; there = kept.0; is = same (double_of some.0) double kept.1 }
    where
      same : (a b : ℕ) → (a == b) ≡ true → a ≡ b
      same a b is = grind arith

  boxed_on : (node cycle : ℕ) (ch : Channel) (i : Interval) → box_on l (sightings_in (sightings_of p l) double) node cycle ch ≡ Some i → IsSeenIn p l double
  boxed_on node cycle ch i is =
      let stamp = stamp_of (observer_of l) (delays_in l node ch) (first_stamp (sightings_in (sightings_of p l) double) node ch cycle) i is in
      stamped_in node cycle ch stamp.0 stamp.1

  boxed_in : (node cycle : ℕ) (i : Interval) → seen_box l (sightings_in (sightings_of p l) double) node cycle ≡ Some i → IsSeenIn p l double
  unfolding seen_box
  boxed_in node cycle i is =
      elim (met_one (box_on l (sightings_in (sightings_of p l) double) node cycle A) (box_on l (sightings_in (sightings_of p l) double) node cycle B) i is) [
        | inl on ↦ boxed_on node cycle A on.0 on.1
        | inr on ↦ boxed_on node cycle B on.0 on.1
      ]

  course_seen : (scale : Scale) (node slot : ℕ) (course : Course) → course_in scale p l (sightings_in (sightings_of p l) double) double node slot ≡ Some course → IsSeenIn p l double
  unfolding course_in
  course_seen scale node slot course is =
      by (seen_box l (sightings_in (sightings_of p l) double) node (2 * double)) (seen_box l (sightings_in (sightings_of p l) double) node (2 * double + 1)) refl refl is
    where
      by : (early late : Option Interval) → seen_box l (sightings_in (sightings_of p l) double) node (2 * double) ≡ early
          → seen_box l (sightings_in (sightings_of p l) double) node (2 * double + 1) ≡ late → course_from scale (pos (action_point_of p slot)) early late
          (seen_span l (sightings_in (sightings_of p l) double) (sightings_in (sightings_of p l) double) node (2 * double) (2 * double + 1)) ≡ Some course → IsSeenIn p l double
      by (Some early) late one other is = boxed_in node (2 * double) early one
      by None (Some late) one other is = boxed_in node (2 * double + 1) late other
      by None None one other is = absurd (cc is)

-- where a sender is one of the next double cycle too
next_by : (scale : Scale) (p : Values) (l : LogView) (double : ℕ) (node : NodeSpec) (s : Sender) (next : Course)
    → seen_sender scale p l (sightings_in (sightings_of p l) double) (sightings_in (sightings_of p l) (double + 1)) double node ≡ Some s → s.next ≡ Some next → IsSeenIn p l (double + 1)
unfolding seen_sender
next_by scale p l double node s next is goes = by (own_slot l node) is
  where
    by : (o : Option ℕ) → option_and_then (seen_sender_by scale p l (sightings_in (sightings_of p l) double) (sightings_in (sightings_of p l) (double + 1)) double node.id) o ≡ Some s → IsSeenIn p l (double + 1)
    by None is = absurd (cc is)
    by (Some slot) is =
        let onward = if_there (course_in scale p l (sightings_in (sightings_of p l) (double + 1)) (double + 1) node.id slot) in
        let some =
        mapped_some (sender_on l (sightings_in (sightings_of p l) double) (sightings_in (sightings_of p l) (double + 1)) double node.id onward)
        (if_there (course_in scale p l (sightings_in (sightings_of p l) double) double node.id slot)) s is in
        course_seen p l (double + 1) scale node.id slot next
        (there_some (course_in scale p l (sightings_in (sightings_of p l) (double + 1)) (double + 1) node.id slot) next (ap (λ (t : Sender). t.next) some.1.1 ∙ goes))

abbrev NextSeen : Values → LogView → ℕ → Sender → Type 0
NextSeen p l double s = (next : Course) → s.next ≡ Some next → IsSeenIn p l (double + 1)

next_seen : (x : Setting) (l : LogView) (double : ℕ) → All (NextSeen x.params l double) (log_senders x l double)
unfolding senders_of seen_senders
next_seen x l double =
    let scale = reading_scale l.drift x.params in
    let seen = sightings_of x.params l in
    all_given (seen_sender scale x.params l (sightings_in seen double) (sightings_in seen (double + 1)) double) (NextSeen x.params l double) x.params.nodes
    (λ node among s given next goes. next_by scale x.params l double node s next given goes)

-- ---- what was seen and what was computed

module _ (x : Setting) (h : Cycles) (base : ℕ) (delays : ℕ → Channel → Delays) (clock : ℕ → StraightClock) (l : LogView) (double : ℕ) (o : IsObservedRun x h base delays clock l) where
  -- a double cycle and the next one, where the terms of a sender are computed as the courses say
  pub record AreComputed (lost : ℕ) (s : Sender) : Type 0 where
    pub even : Cycle
    pub odd : Cycle
    pub has : HasDouble h (run_double base double) even odd
    pub next : IsDoubleThere h (suc (run_double base double))
    pub offset : OffsetIsComputed x l odd (log_senders x l double) lost s
    pub rate : RateIsComputed x l odd next.even (log_senders x l double) lost s

  -- where it is one of both
  abbrev pub ComputesBoth : ℕ → Sender → Type 0
  ComputesBoth lost s = (next : Course) → s.next ≡ Some next → AreComputed lost s

  -- ---- offsets

  pub offset_none : (lost : ℕ) (s : Sender) → Contains (log_senders x l double) s → ComputesBoth lost s
      → offset_fault x.params l (reading_scale l.drift x.params) double (log_senders x l double) lost s ≡ None
  unfolding terms_of
  offset_none lost s among computes = by s.next refl
    where
      by : (next : Option Course) → s.next ≡ next
          → unlike_fault Offset (2 * double + 1) s.node (option_map (λ course. offset_seen (reading_scale l.drift x.params) s.course course s.onward) next)
          (offset_due x.params l (reading_scale l.drift x.params) (log_senders x l double) lost s) ≡ None
      by None goes = refl
      by (Some next) goes =
          let both = computes next goes in
          let terms =
          All-contains (TermHolds x l.drift both.odd) (log_senders x l double) s
          (observed_next_rows_hold x h base delays clock l double both.even both.odd both.next.even both.next.odd o.timed o.log o.seen both.has both.next.has).terms among in
          let Term : Option Course → Type 0 = λ n. IfSome (option_map (λ course. offset_seen (reading_scale l.drift x.params) s.course course s.onward) n) (λ i. IsBetween i.low i.high (row_for both.odd.told.rows s.node).offset) in
          unlike_none Offset (2 * double + 1) s.node (Some (offset_seen (reading_scale l.drift x.params) s.course next s.onward))
          (offset_due x.params l (reading_scale l.drift x.params) (log_senders x l double) lost s) (row_for both.odd.told.rows s.node).offset (subst Term goes terms) both.offset

  -- ---- rates

  pub rate_none : (lost : ℕ) (s : Sender) → Contains (log_senders x l double) s → ComputesBoth lost s
      → rate_fault x.params l (reading_scale l.drift x.params) double (log_senders x l double) lost s ≡ None
  rate_none lost s among computes = by s.next refl
    where
      by : (next : Option Course) → s.next ≡ next
          → unlike_fault Rate (2 * double + 1) s.node (option_map (rate_step_seen (reading_scale l.drift x.params) s.course) next)
          (rate_due x.params l (reading_scale l.drift x.params) (log_senders x l double) lost s) ≡ None
      by None goes = refl
      by (Some next) goes =
          let both = computes next goes in
          let goes_on =
          All-contains (SenderGoesOn x l.drift (clock (run_double base double)) both.even both.odd both.next.even both.next.odd) (log_senders x l double) s
          (senders_go_on x h base delays clock l double both.even both.odd both.next.even both.next.odd o.timed o.log o.seen both.has both.next.has) among in
          let Goes : Option Course → Type 0 = λ n. IfSome n (GoesOnBy x l.drift (clock (run_double base double)) both.even both.odd both.next.even both.next.odd s) in
          let on = subst Goes goes goes_on in
          unlike_none Rate (2 * double + 1) s.node (Some (rate_step_seen (reading_scale l.drift x.params) s.course next))
          (rate_due x.params l (reading_scale l.drift x.params) (log_senders x l double) lost s)
          ((row_for both.next.even.told.rows s.node).rate -ℤ (row_for both.odd.told.rows s.node).rate)
          (
          rate_steps_are_seen x.params l.drift (clock (run_double base double)) (seen_twice both.even both.odd both.next.even both.next.odd s next) s.onward on.goes
          )
          both.rate

  -- ---- the next double cycle

  seen_within : (d : ℕ) → IsSeenIn x.params l d → run_double base d < x.doubles
  seen_within d seen =
      less seen.sighting.number base d x.doubles (length h) seen.is o.whole (sighting_within x h base delays clock l o seen.sighting seen.there) o.seen.seen.whole_base
    where
      less : (n b d k long : ℕ) → n / 2 ≡ d → long ≡ 2 * k → n + b < long → b % 64 ≡ 0 → d + b / 2 < k
      less n b d k long half whole below base_is = omega (arith, half, whole, below, base_is)

  -- where a sender is one of the next double cycle too, the run has that
  pub next_within : (s : Sender) (next : Course) → Contains (log_senders x l double) s → s.next ≡ Some next → suc (run_double base double) < x.doubles
  next_within s next among goes =
      let seen = All-contains (NextSeen x.params l double) (log_senders x l double) s (next_seen x l double) among next goes in
      after double (base / 2) x.doubles (seen_within (double + 1) seen)
    where
      after : (d b k : ℕ) → d + 1 + b < k → suc (d + b) < k
      after d b k less = omega (arith, less)

-- ---- in a double cycle that is judged

module _
    (what : Heard) (x : Setting) (h : Cycles) (base : ℕ) (delays : ℕ → Channel → Delays) (clock : ℕ → StraightClock) (l : LogView) (double : ℕ) (known : Known)
    (log : IsNamedLog x h base delays clock l) (j : IsJudgedRun what x (stated_flutter x.params l) h (run_double base double) known)
  where
    pub observed : IsObservedRun x h base delays clock l
    observed = record { timed = log.timed; whole = j.run.whole; log = log.log; seen = log.seen }

    -- the terms of a sender whose node misses few of the others are computed as the courses say
    pub computes_both : OffsetsAreComputed → RatesAreComputed → (lost : ℕ) (s : Sender) (node : NodeSpec) → Contains (log_senders x l double) s → Contains (correct_nodes x) node → node.id ≡ s.node
        → MissesFew x (run_double base double) lost node → ComputesBoth x h base delays clock l double observed lost s
    computes_both offsets rates lost s node among correct same misses next goes =
        let below = next_within x h base delays clock l double observed s next among goes in
        let here = doubles_to h x.doubles (run_double base double) j.run.whole (before (run_double base double) x.doubles below) in
        let later = doubles_to h x.doubles (suc (run_double base double)) j.run.whole below in
        record {
          even = here.even;
          odd = here.odd;
          has = here.has;
          next = later;
          offset = offsets what x h base delays clock l double lost known here.even here.odd s node log j here.has among correct same misses;
          rate = rates what x h base delays clock l double lost known here.even here.odd later.even later.odd s node log j here.has later.has among correct same misses;
        }
      where
        before : (d k : ℕ) → suc d < k → d < k
        before d k less = omega (arith, less)

    pub term_none : OffsetsAreComputed → RatesAreComputed → (kind : Term) (lost : ℕ) (s : Sender) (node : NodeSpec) → Contains (log_senders x l double) s → Contains (correct_nodes x) node
        → node.id ≡ s.node → MissesFew x (run_double base double) lost node
        → unlike_term kind x.params l (reading_scale l.drift x.params) double (log_senders x l double) s lost ≡ None
    term_none offsets rates Offset lost s node among correct same misses =
        offset_none x h base delays clock l double observed lost s among (computes_both offsets rates lost s node among correct same misses)
    term_none offsets rates Rate lost s node among correct same misses =
        rate_none x h base delays clock l double observed lost s among (computes_both offsets rates lost s node among correct same misses)

pub missed_is_so : OffsetsAreComputed → RatesAreComputed → MissedIsSo
missed_is_so offsets rates what kind x h base delays clock l double lost known s node fault log j among correct same is misses =
    let e : Some fault ≡ None = sym is ∙ term_none what x h base delays clock l double known log j offsets rates kind lost s node among correct same misses in
    cc e
