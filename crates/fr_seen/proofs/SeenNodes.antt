-- A double cycle of a log in both of whose cycles all nodes that are not arbitrary were seen: its rows in each run that the log is seen
-- of are active ones, of senders, and no node follows in it. So one that is seen in sync is in sync in the run.
use Rattle.std.proofs.Common.{◌≡◌, ℕ, suc, ◌+◌, ◌*◌, Bool, true, false, Option, Some, None, ℤ, pos, List, [], ◌∷◌, All, map, refl, ap, sym, ◌∙◌, subst, inl, inr, arith}
use Rattle.std.specs.Prelude.{◌≤ℤ◌, ◌-ℤ◌, ◌&&◌, ◌||◌, not, Contains, filter_map, is_some}
use Rattle.std.specs.List.{cons_option, list_all}
use Rattle.std.specs.Option.{option_and_then, option_map}
use Rattle.std.proofs.lemmas.List.Elements.{All-contains, All-head, All-map, All-weaker, All-contains_itself}
use Rattle.std.proofs.lemmas.List.Sums.{AllPass-from_list_all}
use Rattle.fr_base.specs.Within.{LieWithin, IsBetween}
use Rattle.fr_base.specs.declared.channel.Channel.{Channel}
use Rattle.fr_base.specs.declared.node_row.NodeRow.{NodeRow}
use Rattle.fr_base.specs.declared.state.State.TheVariants.{Active}
use Rattle.fr_cluster.specs.Questions.{own_key}
use Rattle.fr_cluster.specs.Setting.{Setting, correct_nodes}
use Rattle.fr_cluster.specs.declared.nodes.NodeSpec.{NodeSpec}
use Rattle.fr_cluster.proofs.Elements.{Contains-here, Contains-there}
use Rattle.fr_cluster.proofs.KeyNodes.{Contains-cons_cases}
use Rattle.fr_time.specs.Slots.{action_point_of}
use Rattle.fr_bound.specs.Sync.{cycle_length_of}
use Rattle.fr_history.specs.Cycles.{Cycle, Cycles, cycle_at}
use Rattle.fr_history.specs.History.{AreRowsOf, row_for, row_of}
use Rattle.fr_history.specs.Standing.{row_nodes}
use Rattle.fr_runs.proofs.Courses.{is_correct_row}
use Rattle.fr_runs.proofs.Going.{rows_ascend}
use Rattle.fr_runs.proofs.Nodes.{correct_node}
use Rattle.fr_precision.proofs.RoundLemmas.{contains_map}
use Rattle.fr_runs.proofs.Rows.{Ascend, all_rows}
use Rattle.fr_log.specs.View.{LogView, is_arbitrary_in}
use Rattle.fr_course.specs.Readings.{meet_all, reading_scale}
use Rattle.fr_course.specs.Course.{course_from}
use Rattle.fr_course.specs.declared.courses.Course.{Course}
use Rattle.fr_course.specs.declared.intervals.Interval.{Interval}
use Rattle.fr_course.specs.Scales.{Scale}
use Rattle.fr_course.specs.declared.stamps.Delays.{Delays}
use Rattle.fr_observe.specs.Observing.{courses_of, senders_of}
use Rattle.fr_sightings.specs.Senders.{course_in, if_there, observer_of, own_slot, seen_box, seen_sender, seen_sender_by, seen_senders, seen_span, sender_on, sightings_in}
use Rattle.fr_sightings.specs.Sightings.{sightings_of}
use Rattle.fr_sightings.specs.declared.sender.Sender.{Sender}
use Rattle.fr_sightings.specs.declared.sighting.Sighting.{Sighting}
use Rattle.fr_sightings.proofs.Proper.{both}
use Rattle.fr_seen.specs.Clocks.{StraightClock}
use Rattle.fr_seen.specs.Courses.{IsCourseThere}
use Rattle.fr_seen.specs.Observed.{IsSentBy, SentFrame, box_of}
use Rattle.fr_seen.specs.LogSeen.{log_senders, run_double, sender_rows}
use Rattle.fr_seen.proofs.RunLaws.{cut_at, two_at}
use Rattle.fr_seen.proofs.SenderLaws.{box_meets, even_at, odd_at, own_is, senders_are_on_course}
use Rattle.fr_seen.specs.Contradictions.{IsObservedRun, NamesArbitrary}
use Rattle.fr_seen.specs.LogDoubles.{IsDoubleThere, LieAsSeen, IsAsLong}
use Rattle.fr_observe.specs.Faults.{is_seen_whole}
use Rattle.fr_course.specs.Spread.{lengths_apart, starts_apart}
use Rattle.fr_seen.proofs.SeenDoubles.{frame_sent}
use Rattle.fr_seen.proofs.SenderRows.{trans}
use Rattle.fr_seen.proofs.SeenCourses.{course_there}
use Rattle.fr_course.specs.Computed.{length_ticks}
use Rattle.fr_seen.proofs.SendersApart.{all_within, two_within, lie_as_seen}

-- ---- lists

given_contains : {X Y : Type 0} (f : X → Option Y) (xs : List X) (x : X) (y : Y) → Contains xs x → f x ≡ Some y → Contains (filter_map f xs) y
given_contains f [] x y among is = absurd (omega (arith, among.1))
given_contains {Y = Y} f (z ∷ xs) x y among is = elim (Contains-cons_cases z xs x among) [
  | inl same ↦ here (f z) (ap f same ∙ is)
  | inr more ↦ there (f z) (given_contains f xs x y more is)
] where
  here : (o : Option Y) → o ≡ Some y → Contains (cons_option o (filter_map f xs)) y
  here None is = absurd (cc is)
  here (Some other) is = subst (λ o. Contains (cons_option o (filter_map f xs)) y) (sym is) (Contains-here y (filter_map f xs))

  there : (o : Option Y) → Contains (filter_map f xs) y → Contains (cons_option o (filter_map f xs)) y
  there None more = more
  there (Some other) more = Contains-there other (filter_map f xs) y more

-- ---- a node that was seen in a cycle

-- its row is there and active
pub record IsActiveIn (c : Cycle) (node : ℕ) : Type 0 where
  pub row : NodeRow
  pub has_row : row_of c.told.rows node ≡ Some row
  pub active : row.state ≡ Active

row_active : (c : Cycle) (node : ℕ) → IsActiveIn c node → (row_for c.told.rows node).state ≡ Active
unfolding row_for
row_active c node is = rw is.has_row is.active

-- ---- rows of nodes that were all seen

-- the rows of both cycles are active, and the even ones those of senders, which lie as their courses tell
pub record AreRowsSeen (x : Setting) (drift : ℕ) (even odd : Cycle) (senders : List Sender) : Type 0 where
  pub each_active : (node : NodeSpec) → Contains (correct_nodes x) node → IsActiveIn even node.id
  pub active_even : All (λ (row : NodeRow). row.state ≡ Active) even.told.rows
  pub active_odd : All (λ (row : NodeRow). row.state ≡ Active) odd.told.rows
  pub even_among : All (Contains (sender_rows even senders)) even.told.rows
  pub lie : LieAsSeen x drift even odd senders

-- what any two of some numbers keep, any two of those among them do, and within what is no less
near_by : (f : NodeRow → ℤ) (most bound : ℤ) (rows some : List NodeRow) → LieWithin most (map f some) → most ≤ℤ bound → All (Contains some) rows → LieWithin bound (map f rows)
near_by f most bound rows some near le among =
    all_within bound f rows
    (λ a b here there.
    trans (f a -ℤ f b) most bound (two_within most f some a b near (All-contains (Contains some) rows a among here) (All-contains (Contains some) rows b among there)) le)

module _ (x : Setting) (drift : ℕ) (even odd : Cycle) (senders : List Sender) (seen : AreRowsSeen x drift even odd senders) where
  abbrev Long : Sender → Interval
  Long s = length_ticks (reading_scale drift x.params) s.course

  pub starts_near : (bound : ℤ) → (starts_apart (reading_scale drift x.params) (courses_of senders)).high ≤ℤ bound → LieWithin bound (map (λ (row : NodeRow). row.start) even.told.rows)
  starts_near bound le =
      near_by (λ (row : NodeRow). row.start) (starts_apart (reading_scale drift x.params) (courses_of senders)).high bound even.told.rows (sender_rows even senders) seen.lie.starts_to le
      seen.even_among

  pub lengths_near : (bound : ℤ) → (lengths_apart (reading_scale drift x.params) (courses_of senders)).high ≤ℤ bound → LieWithin bound (map (cycle_length_of x.params) even.told.rows)
  lengths_near bound le =
      near_by (cycle_length_of x.params) (lengths_apart (reading_scale drift x.params) (courses_of senders)).high bound even.told.rows (sender_rows even senders) seen.lie.even_lengths_to le
      seen.even_among

  -- what holds of each length that the course of a sender allows
  module _ (P : ℤ → Type 0) (each : (s : Sender) → Contains senders s → (ticks : ℤ) → IsBetween (Long s).low (Long s).high ticks → P ticks) where
    long_as_seen : (s : Sender) → Contains senders s → IsAsLong x drift even odd s
    long_as_seen s among = All-contains (IsAsLong x drift even odd) senders s seen.lie.long among

    pub even_long : All (λ (row : NodeRow). P (cycle_length_of x.params row)) even.told.rows
    even_long =
        let Holds : NodeRow → Type 0 = λ row. P (cycle_length_of x.params row) in
        let at : Sender → NodeRow = λ s. row_for even.told.rows s.node in
        let holds : (s : Sender) → Contains senders s → Holds (at s) = λ s among. each s among (cycle_length_of x.params (at s)) (long_as_seen s among).even_long in
        let all : All Holds (sender_rows even senders) = All-map Holds at senders (All-weaker (Contains senders) (λ (s : Sender). Holds (at s)) holds senders (All-contains_itself senders)) in
        All-weaker (Contains (sender_rows even senders)) Holds (λ row there. All-contains Holds (sender_rows even senders) row all there) even.told.rows seen.even_among

-- ---- the nodes of a log

module _ (x : Setting) (h : Cycles) (base : ℕ) (delays : ℕ → Channel → Delays) (clock : ℕ → StraightClock) (l : LogView) (run : IsObservedRun x h base delays clock l) where
  abbrev Scaled : Scale
  Scaled = reading_scale l.drift x.params

  abbrev Here : ℕ → List Sighting
  Here double = sightings_in (sightings_of x.params l) double

  active_by : (node slot at : ℕ) (c : Cycle) (f : SentFrame) → cycle_at h at ≡ Some c → IsSentBy run.seen.sent node slot at f → IsActiveIn c node
  active_by node slot at c f has by =
      let sent = frame_sent x h base delays clock l run f by.there in
      let told : sent.told ≡ c = same sent.told c (sym sent.has_cycle ∙ ap (cycle_at h) by.in_cycle ∙ has) in
      record {
        row = f.row;
        has_row = sym (ap (row_of c.told.rows) by.by_node) ∙ sym (ap (λ (d : Cycle). row_of d.told.rows f.node) told) ∙ sent.has_row;
        active = sent.active;
      }
    where
      same : (a b : Cycle) → Some a ≡ Some b → a ≡ b
      same a b is = cc is

  active_in : (node slot cycle at d : ℕ) (c : Cycle) → own_key x.params node ≡ Some slot → at ≡ cycle + base → cycle_at h at ≡ Some c
      → is_some (seen_box l (Here d) node cycle) ≡ true → IsActiveIn c node
  unfolding meet_all
  active_in node slot cycle at d c own at_is has seen =
      let meets = box_meets x h base delays clock l run.timed.sane run.log run.seen node slot cycle at d own at_is in
      by meets.some meets.each (ap is_some (sym meets.are) ∙ seen)
    where
      by : (fs : List SentFrame) → All (IsSentBy run.seen.sent node slot at) fs → is_some (meet_all (map (box_of (observer_of l) delays) fs)) ≡ true → IsActiveIn c node
      by [] each some = absurd (cc some)
      by (f ∷ fs) each some = active_by node slot at c f has (All-head (IsSentBy run.seen.sent node slot at) f fs each)

  -- ---- a node that was seen in both cycles is a sender

  pub record IsSender (double : ℕ) (node : ℕ) : Type 0 where
    pub s : Sender
    pub among : Contains (log_senders x l double) s
    pub number : s.node ≡ node

  there_some : (course : Course) → IsCourseThere course → if_there (Some course) ≡ Some course
  there_some course is = rw (is.even, is.odd, is.apart, is.length) refl

  is_sender : (double slot : ℕ) (node : NodeSpec) → Contains x.params.nodes node → is_arbitrary_in l node.id ≡ false → node.key ≡ Some slot
      → is_some (seen_box l (Here double) node.id (2 * double)) ≡ true → is_some (seen_box l (Here double) node.id (2 * double + 1)) ≡ true → IsSender double node.id
  unfolding course_in seen_sender senders_of seen_senders
  is_sender double slot node among correct keyed early late =
      by (course_in Scaled x.params l (Here double) double node.id slot) refl
      (given (seen_box l (Here double) node.id (2 * double)) (seen_box l (Here double) node.id (2 * double + 1)) early late)
    where
      own : own_slot l node ≡ Some slot
      own = rw correct keyed

      given : (even odd : Option Interval) → is_some even ≡ true → is_some odd ≡ true
          → is_some (course_from Scaled (pos (action_point_of x.params slot)) even odd (seen_span l (Here double) (Here double) node.id (2 * double) (2 * double + 1))) ≡ true
      given None odd early late = absurd (cc early)
      given (Some even) None early late = absurd (cc late)
      given (Some even) (Some odd) early late = refl

      by : (o : Option Course) → course_in Scaled x.params l (Here double) double node.id slot ≡ o → is_some o ≡ true → IsSender double node.id
      by None is some = absurd (cc some)
      by (Some course) is some =
          let there = course_there x h base delays clock l run node slot double course among keyed is in
          let next = if_there (course_in Scaled x.params l (Here (double + 1)) (double + 1) node.id slot) in
          let s : Sender = sender_on l (Here double) (Here (double + 1)) double node.id next course in
          let told : seen_sender Scaled x.params l (Here double) (Here (double + 1)) double node ≡ Some s =
          ap (option_and_then (seen_sender_by Scaled x.params l (Here double) (Here (double + 1)) double node.id)) own
          ∙ ap (λ o. option_map (sender_on l (Here double) (Here (double + 1)) double node.id next) (if_there o)) is
          ∙ ap (option_map (sender_on l (Here double) (Here (double + 1)) double node.id next)) (there_some course there) in
          record {
            s = s;
            among = given_contains (seen_sender Scaled x.params l (Here double) (Here (double + 1)) double) x.params.nodes node s among told;
            number = refl;
          }

  -- ---- a double cycle in which all were seen

  module _ (double : ℕ) (named : NamesArbitrary x l) (there : IsDoubleThere h (run_double base double)) (whole : list_all (is_seen_whole l (Here double) double) x.params.nodes ≡ true) where
    abbrev Senders : List Sender
    Senders = log_senders x l double

    abbrev At : ℕ
    At = run_double base double

    -- a correct node is a sender, with active rows in both cycles
    record IsSeenNode (node : ℕ) : Type 0 where
      sender : IsSender double node
      in_even : IsActiveIn there.even node
      in_odd : IsActiveIn there.odd node

    node_seen : (node : NodeSpec) → Contains (correct_nodes x) node → IsSeenNode node.id
    node_seen node correct =
        let is = correct_node x node correct in
        let number : is_arbitrary_in l node.id ≡ false = sym (named node is.there) ∙ is.correct in
        let seen = All-contains (λ (n : NodeSpec). is_seen_whole l (Here double) double n ≡ true) x.params.nodes node
        (AllPass-from_list_all (is_seen_whole l (Here double) double) x.params.nodes whole) is.there in
        by node.key refl is.there number
        (
        both (is_some node.key && is_some (seen_box l (Here double) node.id (2 * double))) (is_some (seen_box l (Here double) node.id (2 * double + 1)))
        (or_else (is_arbitrary_in l node.id) (is_some node.key && is_some (seen_box l (Here double) node.id (2 * double)) && is_some (seen_box l (Here double) node.id (2 * double + 1))) number seen)
        )
      where
        or_else : (a b : Bool) → a ≡ false → (a || b) ≡ true → b ≡ true
        or_else true b not is = absurd (cc not)
        or_else false b not is = is

        by : (key : Option ℕ) → node.key ≡ key → Contains x.params.nodes node → is_arbitrary_in l node.id ≡ false
            → ((is_some node.key && is_some (seen_box l (Here double) node.id (2 * double))) ≡ true) × (is_some (seen_box l (Here double) node.id (2 * double + 1)) ≡ true)
            → IsSeenNode node.id
        by None keyed among number seen =
            absurd (none_there (is_some (seen_box l (Here double) node.id (2 * double))) (ap (λ k. is_some k && is_some (seen_box l (Here double) node.id (2 * double))) (sym keyed) ∙ seen.0))
          where
            none_there : (b : Bool) → (false && b) ≡ true → ⊥
            none_there b is = cc is
        by (Some slot) keyed among number seen =
            let early = (both (is_some node.key) (is_some (seen_box l (Here double) node.id (2 * double))) seen.0).1 in
            let own = own_is x h base delays clock l run.timed.sane run.log run.seen node slot among keyed in
            record {
              sender = is_sender double slot node among number keyed early seen.1;
              in_even = active_in node.id slot (2 * double) (2 * At) double there.even own (even_at x h base delays clock l run.timed.sane run.log run.seen double At refl) there.has.has_even early;
              in_odd = active_in node.id slot (2 * double + 1) (suc (2 * At)) double there.odd own (odd_at x h base delays clock l run.timed.sane run.log run.seen double At refl) there.has.has_odd seen.1;
            }

    -- the rows of a cycle are those of nodes that are correct
    module _ (c : Cycle) (nodes : List NodeSpec) (ascend : Ascend nodes) (are : AreRowsOf nodes c.told.rows)
        (correct : (node : NodeSpec) → Contains nodes node → Contains (correct_nodes x) node) where
      rows_among : All (Contains (sender_rows c Senders)) c.told.rows
      rows_among = all_rows nodes c.told.rows (Contains (sender_rows c Senders)) ascend are (λ node among. row_among node.id (node_seen node (correct node among)).sender)
        where
          row_among : (node : ℕ) → IsSender double node → Contains (sender_rows c Senders) (row_for c.told.rows node)
          row_among node is =
              subst (λ n. Contains (sender_rows c Senders) (row_for c.told.rows n)) is.number (contains_map (λ (s : Sender). row_for c.told.rows s.node) Senders is.s is.among)

      rows_active : ((node : NodeSpec) → Contains (correct_nodes x) node → IsActiveIn c node.id) → All (λ (row : NodeRow). row.state ≡ Active) c.told.rows
      rows_active active = all_rows nodes c.told.rows (λ (row : NodeRow). row.state ≡ Active) ascend are (λ node among. row_active c node.id (active node (correct node among)))

    pub rows_seen : AreRowsSeen x l.drift there.even there.odd (log_senders x l double)
    rows_seen =
        let cut = cut_at h At there.even there.odd there.has in
        let two = two_at x h At there.even there.odd run.timed there.has cut in
        let even_nodes = row_nodes x cut.earlier in
        let odd_nodes = row_nodes x (there.even ∷ cut.earlier) in
        let even_ascend = rows_ascend x cut.earlier run.timed.sane in
        let odd_ascend = rows_ascend x (there.even ∷ cut.earlier) run.timed.sane in
        let even_correct = is_correct_row x cut.earlier in
        let odd_correct = is_correct_row x (there.even ∷ cut.earlier) in
        let in_even : (node : NodeSpec) → Contains (correct_nodes x) node → IsActiveIn there.even node.id = λ node correct. (node_seen node correct).in_even in
        let in_odd : (node : NodeSpec) → Contains (correct_nodes x) node → IsActiveIn there.odd node.id = λ node correct. (node_seen node correct).in_odd in
        record {
          each_active = in_even;
          active_even = rows_active there.even even_nodes even_ascend two.even_runs.0.rows.nodes even_correct in_even;
          active_odd = rows_active there.odd odd_nodes odd_ascend two.odd_runs.rows.nodes odd_correct in_odd;
          even_among = rows_among there.even even_nodes even_ascend two.even_runs.0.rows.nodes even_correct;
          lie =
              lie_as_seen x l.drift (clock At) there.even there.odd run.timed.sane (run.seen.seen.within_drift At) Senders
              (senders_are_on_course x h base delays clock l double there.even there.odd run.timed run.log run.seen there.has);
        }
