-- The senders of a log that is seen of a run: frames that they sent there, by which their courses hold.
use Rattle.std.proofs.Common.{◌≡◌, ◌⊎◌, ℕ, suc, ◌+◌, ◌*◌, ◌/◌, ◌%◌, ◌==◌, Bool, true, false, Option, Some, None, ℤ, pos, List, [], ◌∷◌, ◌++◌, All, map, refl, ap, sym, ◌∙◌, subst, inl, inr, arith}
use Rattle.std.specs.Prelude.{◌+ℤ◌, ◌&&◌, Contains, filter_map, find, IfSome, IsSome, is_some, unwrap_or, if◌then◌else◌}
use Rattle.std.specs.List.{cons_option}
use Rattle.std.specs.Option.{option_and_then, option_map, option_to_list}
use Rattle.std.proofs.lemmas.Int.{ints}
use Rattle.std.proofs.lemmas.List.Elements.{All-append, All-cons, All-contains, All-head, All-nil}
use Rattle.fr_base.specs.Rows.{channel_rank}
use Rattle.fr_base.specs.declared.channel.Channel.{Channel}
use Rattle.fr_base.specs.declared.channel.Channel.TheVariants.{A, B}
use Rattle.fr_base.specs.declared.node_row.NodeRow.{NodeRow}
use Rattle.fr_cluster.specs.Questions.{key_in, own_key}
use Rattle.fr_cluster.specs.Sane.{IsSane}
use Rattle.fr_cluster.specs.Setting.{Setting}
use Rattle.fr_cluster.specs.declared.nodes.NodeSpec.{NodeSpec}
use Rattle.fr_cluster.proofs.Elements.{Contains-here, Contains-there, filtered, found}
use Rattle.fr_time.specs.Slots.{action_point_of}
use Rattle.fr_history.specs.Cycles.{Cycle, Cycles, cycle_at}
use Rattle.fr_history.specs.History.{blank_row, row_for, row_of}
use Rattle.fr_runs.specs.Numbers.{HasDouble}
use Rattle.fr_runs.proofs.Nodes.{key_slot_there, node_there}
use Rattle.fr_log.specs.View.{IsLog, LogView, is_arbitrary_in}
use Rattle.fr_course.specs.Readings.{meet_all, reading_scale}
use Rattle.fr_course.specs.Course.{course_from, is_there, span_of, stamped}
use Rattle.fr_course.specs.declared.courses.Course.{Course}
use Rattle.fr_course.specs.declared.intervals.Interval.{Interval}
use Rattle.fr_course.specs.Scales.{Scale}
use Rattle.fr_course.specs.declared.stamps.Delays.{Delays}
use Rattle.fr_observe.specs.Observing.{senders_of}
use Rattle.fr_sightings.specs.Senders.{box_by, seen_box, box_on, course_in, delays_in, first_stamp, if_there, is_in, is_sent_in, observer_of, on_both_channels, own_slot, seen_sender_by, seen_sender, sender_on, seen_senders, sightings_in, span_by, seen_span, span_on}
use Rattle.fr_sightings.specs.Sightings.{IsSighting, sightings_of}
use Rattle.fr_sightings.specs.declared.sender.Sender.{Sender}
use Rattle.fr_sightings.specs.declared.sighting.Sighting.{Sighting}
use Rattle.fr_sightings.proofs.Proper.{both}
use Rattle.fr_sightings.proofs.Rising.{sightings_are_rising}
use Rattle.fr_seen.specs.Clocks.{StraightClock}
use Rattle.fr_seen.specs.Observed.{ArePaired, ArePicked, HasRows, IsCourseBy, IsSentBy, IsSentIn, Picked, SentFrame, box_of, span_between}
use Rattle.fr_seen.specs.RunRows.{IsTimedRun}
use Rattle.fr_seen.specs.TermsSeen.{GoesOn}
use Rattle.fr_seen.specs.LogSeen.{GoesOnBy, HasBoth, IsAmongSent, IsLogSeen, IsSenderOn, SenderGoesOn, SendersAreOnCourse, SendersGoOn, run_double}
use Rattle.fr_seen.proofs.ObservedLaws.{seen_courses_hold, seen_nodes_go_on}
use Rattle.fr_seen.proofs.RunLaws.{nodes_have_both_rows}
use Rattle.fr_seen.proofs.SightingLaws.{sightings_are_sent}

-- ---- lists

-- what holds of each that some elements give holds of all that they give
pub all_given : {X Y : Type 0} (f : X → Option Y) (P : Y → Type 0) (xs : List X) → ((x : X) → Contains xs x → (y : Y) → f x ≡ Some y → P y) → All P (filter_map f xs)
all_given f P [] each = All-nil P
all_given {X = X} {Y = Y} f P (x ∷ xs) each = by (f x) (each x (Contains-here x xs)) (all_given f P xs (λ y at. each y (Contains-there x xs y at)))
  where
    by : (o : Option Y) → ((y : Y) → o ≡ Some y → P y) → All P (filter_map f xs) → All P (cons_option o (filter_map f xs))
    by None here rest = rest
    by (Some y) here rest = All-cons P y (filter_map f xs) (here y refl) rest

map_more : {X Y : Type 0} (f : X → Y) (xs ys : List X) → map f xs ++ map f ys ≡ map f (xs ++ ys)
map_more f [] ys = refl
map_more f (x ∷ xs) ys = ap (λ zs. f x ∷ zs) (map_more f xs ys)

pub mapped_some : {X Y : Type 0} (f : X → Y) (o : Option X) (y : Y) → option_map f o ≡ Some y → (z : X) × ((o ≡ Some z) × (f z ≡ y))
mapped_some f None y is = absurd (cc is)
mapped_some {Y = Y} f (Some z) y is = (z, (refl, same (f z) y is))
  where
    same : (a b : Y) → Some a ≡ Some b → a ≡ b
    same a b is = cc is

-- some that pass, whose intervals are those of a channel, or meet where both channels do
pub record Picks {X : Type 0} (P : X → Type 0) (f : X → Interval) (on : Option Interval) : Type 0 where
  pub some : List X
  pub each : All P some
  pub are : option_to_list on ≡ map f some

pub record Meets {X : Type 0} (P : X → Type 0) (f : X → Interval) (met : Option Interval) : Type 0 where
  pub some : List X
  pub each : All P some
  pub are : met ≡ meet_all (map f some)

picks_none : {X : Type 0} (P : X → Type 0) (f : X → Interval) → Picks P f None
picks_none P f = record { some = []; each = All-nil P; are = refl }

picks_one : {X : Type 0} (P : X → Type 0) (f : X → Interval) (x : X) (i : Interval) → P x → i ≡ f x → Picks P f (Some i)
picks_one P f x i is same = record { some = x ∷ []; each = All-cons P x [] is (All-nil P); are = ap (λ j. j ∷ []) same }

meets_both : {X : Type 0} (P : X → Type 0) (f : X → Interval) (a b : Option Interval) → Picks P f a → Picks P f b → Meets P f (on_both_channels a b)
meets_both P f a b one other =
    record {
      some = one.some ++ other.some;
      each = All-append P one.some other.some one.each other.each;
      are = ap meet_all (ap (λ xs. xs ++ option_to_list b) one.are ∙ ap (λ xs. map f one.some ++ xs) other.are ∙ map_more f one.some other.some);
    }

-- ---- rows

pub some_row : (rows : List NodeRow) (node : ℕ) → IsSome (row_of rows node) → row_of rows node ≡ Some (row_for rows node)
unfolding row_for
some_row rows node is = by (row_of rows node) is
  where
    by : (o : Option NodeRow) → IsSome o → o ≡ Some (unwrap_or o blank_row)
    by None is = absurd (cc is)
    by (Some row) is = refl

-- ---- the log

module _ (x : Setting) (h : Cycles) (base : ℕ) (delays : ℕ → Channel → Delays) (clock : ℕ → StraightClock) (l : LogView) (sane : IsSane x.params) (is_log : IsLog l) (is : IsLogSeen x h base delays clock l) where
  abbrev Sightings : List Sighting
  Sightings = sightings_of x.params l

  -- a frame that a node sent in a slot of a cycle of the run, on a channel and with a stamp
  pub record IsSentOn (node slot at : ℕ) (ch : Channel) (stamp : ℕ) : Type 0 where
    pub sent : SentFrame
    pub sent_so : IsSentBy is.sent node slot at sent
    pub channel : sent.frame.channel ≡ ch
    pub stamp_is : sent.frame.stamp ≡ pos stamp

  pub all_proper : All (IsSighting x.params l) (sightings_of x.params l)
  unfolding sightings_of
  all_proper = (sightings_are_rising x.params l l.entries sane is_log.entries).proper

  -- a sighting is such a frame
  pub sent_by : (node slot cycle at : ℕ) (ch : Channel) (s : Sighting) → own_key x.params node ≡ Some slot → at ≡ cycle + base
      → Contains (sightings_of x.params l) s → is_sent_in node ch cycle s ≡ true → IsSentOn node slot at ch s.stamp
  sent_by node slot cycle at ch s own at_is there passes =
      let one = both ((s.node == node) && (channel_rank s.channel == channel_rank ch)) (s.number == cycle) passes in
      let other = both (s.node == node) (channel_rank s.channel == channel_rank ch) one.0 in
      let of = All-contains (IsAmongSent is.sent) Sightings s (sightings_are_sent x h base delays clock l sane is_log is) there in
      let proper = All-contains (IsSighting x.params l) Sightings s all_proper there in
      let node_is : s.node ≡ node = same s.node node other.0 in
      let keyed : own_key x.params s.node ≡ Some slot = ap (own_key x.params) node_is ∙ own in
      let sent = All-contains (IsSentIn x h base) is.sent of.sent is.seen.sent of.there in
      record {
        sent = of.sent;
        sent_so = record {
          there = of.there;
          by_node = of.is.told.by_node ∙ node_is;
          in_slot = of.is.told.slot ∙ same_slot s.slot slot (sym proper.own ∙ keyed);
          in_cycle = counted of.sent.cycle s.number cycle base at of.sent.frame.number sent.numbered of.is.number (same s.number cycle one.1) at_is;
        };
        channel = of.is.told.channel ∙ same_channel s.channel ch other.1;
        stamp_is = of.is.told.stamp;
      }
    where
      same : (a b : ℕ) → (a == b) ≡ true → a ≡ b
      same a b is = grind arith

      same_slot : (a b : ℕ) → Some a ≡ Some b → a ≡ b
      same_slot a b is = cc is

      same_channel : (a b : Channel) → (channel_rank a == channel_rank b) ≡ true → a ≡ b
      same_channel A A is = refl
      same_channel A B is = absurd (cc is)
      same_channel B A is = absurd (cc is)
      same_channel B B is = refl

      counted : (c n cycle b at : ℕ) (number : ℤ) → pos c ≡ number +ℤ pos b → number ≡ pos n → n ≡ cycle → at ≡ cycle + b → c ≡ at
      counted c n cycle b at number a e f g = omega (arith, ints)

  pub sent_first : (node slot cycle at d : ℕ) (ch : Channel) (stamp : ℕ) → own_key x.params node ≡ Some slot → at ≡ cycle + base
      → first_stamp (sightings_in Sightings d) node ch cycle ≡ Some stamp → IsSentOn node slot at ch stamp
  unfolding first_stamp
  sent_first node slot cycle at d ch stamp own at_is first = by (find (is_sent_in node ch cycle) (sightings_in Sightings d)) refl first
    where
      by : (o : Option Sighting) → find (is_sent_in node ch cycle) (sightings_in Sightings d) ≡ o → option_map (λ (s : Sighting). s.stamp) o ≡ Some stamp → IsSentOn node slot at ch stamp
      by None at_o stamp_is = absurd (cc stamp_is)
      by (Some s) at_o stamp_is =
          let here = found (is_sent_in node ch cycle) (sightings_in Sightings d) s at_o in
          subst (IsSentOn node slot at ch) (same s.stamp stamp stamp_is)
          (sent_by node slot cycle at ch s own at_is (filtered (is_in d) Sightings s here.1).0 here.0)
        where
          same : (a b : ℕ) → Some a ≡ Some b → a ≡ b
          same a b is = cc is

  -- the limits of its delay are those of the log
  limits_are : (node : ℕ) (ch : Channel) (d : Delays) → delays_in l node ch ≡ Some d → delays node ch ≡ d
  limits_are node ch d at = subst (λ o. IfSome o (λ limits. delays node ch ≡ limits)) at (is.limits node ch)

  -- ---- intervals

  abbrev Boxes : ℕ → ℕ → ℕ → Option Interval → Type 0
  Boxes node slot at on = Picks (IsSentBy is.sent node slot at) (box_of (observer_of l) delays) on

  box_picks : (node slot cycle at d : ℕ) (ch : Channel) → own_key x.params node ≡ Some slot → at ≡ cycle + base
      → (limits : Option Delays) → delays_in l node ch ≡ limits → (stamp : Option ℕ) → first_stamp (sightings_in Sightings d) node ch cycle ≡ stamp
      → Boxes node slot at (box_by (observer_of l) limits stamp)
  box_picks node slot cycle at d ch own at_is None limits stamp first = picks_none (IsSentBy is.sent node slot at) (box_of (observer_of l) delays)
  box_picks node slot cycle at d ch own at_is (Some limit) limits None first = picks_none (IsSentBy is.sent node slot at) (box_of (observer_of l) delays)
  box_picks node slot cycle at d ch own at_is (Some limit) limits (Some stamp) first =
      let f = sent_first node slot cycle at d ch stamp own at_is first in
      let same : delays f.sent.node f.sent.frame.channel ≡ limit =
      ap (λ n. delays n f.sent.frame.channel) f.sent_so.by_node ∙ ap (delays node) f.channel ∙ limits_are node ch limit limits in
      picks_one (IsSentBy is.sent node slot at) (box_of (observer_of l) delays) f.sent (stamped (observer_of l) limit (pos stamp)) f.sent_so
      (sym (ap (λ t. stamped (observer_of l) (delays f.sent.node f.sent.frame.channel) t) f.stamp_is ∙ ap (λ e. stamped (observer_of l) e (pos stamp)) same))

  pub box_meets : (node slot cycle at d : ℕ) → own_key x.params node ≡ Some slot → at ≡ cycle + base
      → Meets (IsSentBy is.sent node slot at) (box_of (observer_of l) delays) (seen_box l (sightings_in Sightings d) node cycle)
  unfolding seen_box
  box_meets node slot cycle at d own at_is =
      meets_both (IsSentBy is.sent node slot at) (box_of (observer_of l) delays) (box_on l (sightings_in Sightings d) node cycle A) (box_on l (sightings_in Sightings d) node cycle B)
      (box_picks node slot cycle at d A own at_is (delays_in l node A) refl (first_stamp (sightings_in Sightings d) node A cycle) refl)
      (box_picks node slot cycle at d B own at_is (delays_in l node B) refl (first_stamp (sightings_in Sightings d) node B cycle) refl)

  abbrev Spans : ℕ → ℕ → ℕ → ℕ → Option Interval → Type 0
  Spans node slot at next on = Picks (ArePaired is.sent node slot at next) (span_between (observer_of l) delays) on

  span_picks : (node slot cycle at later next d e : ℕ) (ch : Channel) → own_key x.params node ≡ Some slot → at ≡ cycle + base → next ≡ later + base
      → (limits : Option Delays) → delays_in l node ch ≡ limits → (stamp : Option ℕ) → first_stamp (sightings_in Sightings d) node ch cycle ≡ stamp
      → (last : Option ℕ) → first_stamp (sightings_in Sightings e) node ch later ≡ last
      → Spans node slot at next (span_by (observer_of l) limits stamp last)
  span_picks node slot cycle at later next d e ch own at_is next_is None limits stamp first last second =
      picks_none (ArePaired is.sent node slot at next) (span_between (observer_of l) delays)
  span_picks node slot cycle at later next d e ch own at_is next_is (Some limit) limits None first last second =
      picks_none (ArePaired is.sent node slot at next) (span_between (observer_of l) delays)
  span_picks node slot cycle at later next d e ch own at_is next_is (Some limit) limits (Some stamp) first None second =
      picks_none (ArePaired is.sent node slot at next) (span_between (observer_of l) delays)
  span_picks node slot cycle at later next d e ch own at_is next_is (Some limit) limits (Some stamp) first (Some last) second =
      let f = sent_first node slot cycle at d ch stamp own at_is first in
      let g = sent_first node slot later next e ch last own next_is second in
      let same : delays f.sent.node f.sent.frame.channel ≡ limit =
      ap (λ n. delays n f.sent.frame.channel) f.sent_so.by_node ∙ ap (delays node) f.channel ∙ limits_are node ch limit limits in
      let pair : SentFrame × SentFrame = (f.sent, g.sent) in
      picks_one (ArePaired is.sent node slot at next) (span_between (observer_of l) delays) pair (span_of (observer_of l) limit (pos stamp) (pos last))
      (record { first = f.sent_so; second = g.sent_so; channel = g.channel ∙ sym f.channel })
      (sym
      (
      ap (λ t. span_of (observer_of l) (delays f.sent.node f.sent.frame.channel) t g.sent.frame.stamp) f.stamp_is
      ∙ ap (λ t. span_of (observer_of l) (delays f.sent.node f.sent.frame.channel) (pos stamp) t) g.stamp_is
      ∙ ap (λ d. span_of (observer_of l) d (pos stamp) (pos last)) same
      ))

  span_meets : (node slot cycle at later next d e : ℕ) → own_key x.params node ≡ Some slot → at ≡ cycle + base → next ≡ later + base
      → Meets (ArePaired is.sent node slot at next) (span_between (observer_of l) delays) (seen_span l (sightings_in Sightings d) (sightings_in Sightings e) node cycle later)
  unfolding seen_span
  span_meets node slot cycle at later next d e own at_is next_is =
      meets_both (ArePaired is.sent node slot at next) (span_between (observer_of l) delays)
      (span_on l (sightings_in Sightings d) (sightings_in Sightings e) node cycle later A) (span_on l (sightings_in Sightings d) (sightings_in Sightings e) node cycle later B)
      (span_picks node slot cycle at later next d e A own at_is next_is (delays_in l node A) refl (first_stamp (sightings_in Sightings d) node A cycle) refl
      (first_stamp (sightings_in Sightings e) node A later) refl)
      (span_picks node slot cycle at later next d e B own at_is next_is (delays_in l node B) refl (first_stamp (sightings_in Sightings d) node B cycle) refl
      (first_stamp (sightings_in Sightings e) node B later) refl)

  -- ---- a course

  pub record IsPicked (node slot double run : ℕ) (course : Course) : Type 0 where
    pub picked : Picked
    pub are : ArePicked is.sent node slot run picked
    pub course_is : IsCourseBy x (observer_of l) delays slot picked course

  pub even_at : (double run : ℕ) → run ≡ run_double base double → 2 * run ≡ 2 * double + base
  even_at double run run_is = twice base double run is.seen.whole_base run_is
    where
      twice : (b k r : ℕ) → b % 64 ≡ 0 → r ≡ k + b / 2 → 2 * r ≡ 2 * k + b
      twice b k r whole r_is = omega (arith, whole, r_is)

  pub odd_at : (double run : ℕ) → run ≡ run_double base double → suc (2 * run) ≡ 2 * double + 1 + base
  odd_at double run run_is = more (2 * run) (2 * double) base (even_at double run run_is)
    where
      more : (r k b : ℕ) → r ≡ k + b → suc r ≡ k + 1 + b
      more r k b is = omega (arith, is)

  pub is_picked : (node slot double run : ℕ) (course : Course) → own_key x.params node ≡ Some slot → run ≡ run_double base double
      → course_in (reading_scale l.drift x.params) x.params l (sightings_in Sightings double) double node slot ≡ Some course → IsPicked node slot double run course
  unfolding course_in
  is_picked node slot double run course own run_is is_course =
      let scale = reading_scale l.drift x.params in
      let action = pos (action_point_of x.params slot) in
      let here = sightings_in Sightings double in
      let even_is = even_at double run run_is in
      let odd_is = odd_at double run run_is in
      let evens = box_meets node slot (2 * double) (2 * run) double own even_is in
      let odds = box_meets node slot (2 * double + 1) (suc (2 * run)) double own odd_is in
      let pairs = span_meets node slot (2 * double) (2 * run) (2 * double + 1) (suc (2 * run)) double double own even_is odd_is in
      let box = box_of (observer_of l) delays in
      let span = span_between (observer_of l) delays in
      record {
        picked = record { even = evens.some; odd = odds.some; pairs = pairs.some };
        are = record { in_even = evens.each; in_odd = odds.each; paired = pairs.each };
        course_is =
            ap (λ s. course_from scale action (meet_all (map box evens.some)) (meet_all (map box odds.some)) s) (sym pairs.are)
            ∙ ap (λ o. course_from scale action (meet_all (map box evens.some)) o (seen_span l here here node (2 * double) (2 * double + 1))) (sym odds.are)
            ∙ ap (λ e. course_from scale action e (seen_box l here node (2 * double + 1)) (seen_span l here here node (2 * double) (2 * double + 1))) (sym evens.are)
            ∙ is_course;
      }

  -- ---- its rows

  sent_row : (node slot at : ℕ) (c : Cycle) (f : SentFrame) → cycle_at h at ≡ Some c → IsSentBy is.sent node slot at f → IsSome (row_of c.told.rows node)
  sent_row node slot at c f has by =
      let sent = All-contains (IsSentIn x h base) is.sent f is.seen.sent by.there in
      let told : sent.told ≡ c = same sent.told c (sym sent.has_cycle ∙ ap (cycle_at h) by.in_cycle ∙ has) in
      ap is_some (sym (ap (row_of c.told.rows) by.by_node) ∙ sym (ap (λ (d : Cycle). row_of d.told.rows f.node) told) ∙ sent.has_row)
    where
      same : (a b : Cycle) → Some a ≡ Some b → a ≡ b
      same a b is = cc is

  rows_by : (node slot at : ℕ) (even odd : Cycle) (course : Course) (span : Option Interval) → HasDouble h at even odd
      → (evens : List SentFrame) → All (IsSentBy is.sent node slot (2 * at)) evens → (odds : List SentFrame) → All (IsSentBy is.sent node slot (suc (2 * at))) odds
      → course_from (reading_scale l.drift x.params) (pos (action_point_of x.params slot)) (meet_all (map (box_of (observer_of l) delays) evens))
      (meet_all (map (box_of (observer_of l) delays) odds)) span ≡ Some course
      → IsSome (row_of even.told.rows node) ⊎ IsSome (row_of odd.told.rows node)
  unfolding meet_all
  rows_by node slot at even odd course span has (f ∷ evens) evens_are odds odds_are is_course =
      inl (sent_row node slot (2 * at) even f has.has_even (All-head (IsSentBy is.sent node slot (2 * at)) f evens evens_are))
  rows_by node slot at even odd course span has [] evens_are (f ∷ odds) odds_are is_course =
      inr (sent_row node slot (suc (2 * at)) odd f has.has_odd (All-head (IsSentBy is.sent node slot (suc (2 * at))) f odds odds_are))
  rows_by node slot at even odd course span has [] evens_are [] odds_are is_course = absurd (cc is_course)

  pub own_is : (node : NodeSpec) (slot : ℕ) → Contains x.params.nodes node → node.key ≡ Some slot → own_key x.params node.id ≡ Some slot
  own_is node slot among keyed = ap key_in (node_there x.params node sane among) ∙ keyed

  pub sender_has_rows : (node : NodeSpec) (slot at : ℕ) (even odd : Cycle) → Contains x.params.nodes node → node.key ≡ Some slot → HasDouble h at even odd → HasBoth even odd node.id
      → HasRows x h node.id slot at (row_for even.told.rows node.id) (row_for odd.told.rows node.id)
  sender_has_rows node slot at even odd among keyed has rows =
      let key = key_slot_there x.params node slot sane among keyed in
      record {
        even_cycle = even;
        odd_cycle = odd;
        has = has;
        even_row = some_row even.told.rows node.id rows.in_even;
        odd_row = some_row odd.told.rows node.id rows.in_odd;
        slot_from = key.from;
        slot_to = key.to;
      }

  pub sender_has_both : (node slot double at : ℕ) (even odd : Cycle) (course : Course) → IsTimedRun x h → HasDouble h at even odd → IsPicked node slot double at course → HasBoth even odd node
  sender_has_both node slot double at even odd course run has by =
      let rows =
      rows_by node slot at even odd course (meet_all (map (span_between (observer_of l) delays) by.picked.pairs)) has by.picked.even by.are.in_even by.picked.odd by.are.in_odd by.course_is in
      let ways = nodes_have_both_rows x h at even odd node run has in
      elim rows [
        | inl there ↦ record { in_even = there; in_odd = ways.0 there }
        | inr there ↦ record { in_even = ways.1 there; in_odd = there }
      ]

  -- ---- a sender

  abbrev Scaled : Scale
  Scaled = reading_scale l.drift x.params

  pub record IsSenderBy (double : ℕ) (node : NodeSpec) (s : Sender) : Type 0 where
    pub slot : ℕ
    pub keyed : node.key ≡ Some slot
    pub course : Course
    pub course_is : course_in Scaled x.params l (sightings_in Sightings double) double node.id slot ≡ Some course
    pub sender_is :
        sender_on l (sightings_in Sightings double) (sightings_in Sightings (double + 1)) double node.id
        (if_there (course_in Scaled x.params l (sightings_in Sightings (double + 1)) (double + 1) node.id slot)) course
        ≡ s

  pub there_some : (o : Option Course) (course : Course) → if_there o ≡ Some course → o ≡ Some course
  there_some None course is = absurd (cc is)
  there_some (Some other) course is = by (is_there other) is
    where
      by : (b : Bool) → (if b then Some other else None) ≡ Some course → Some other ≡ Some course
      by true is = is
      by false is = absurd (cc is)

  pub keyed_by : (node : NodeSpec) (slot : ℕ) → own_slot l node ≡ Some slot → node.key ≡ Some slot
  keyed_by node slot is = by (is_arbitrary_in l node.id) is
    where
      by : (b : Bool) → (if b then None else node.key) ≡ Some slot → node.key ≡ Some slot
      by true is = absurd (cc is)
      by false is = is

  pub sender_found : (double : ℕ) (node : NodeSpec) (s : Sender)
      → seen_sender Scaled x.params l (sightings_in Sightings double) (sightings_in Sightings (double + 1)) double node ≡ Some s → IsSenderBy double node s
  unfolding seen_sender
  sender_found double node s is = by (own_slot l node) refl is
    where
      by : (o : Option ℕ) → own_slot l node ≡ o
          → option_and_then (seen_sender_by Scaled x.params l (sightings_in Sightings double) (sightings_in Sightings (double + 1)) double node.id) o ≡ Some s → IsSenderBy double node s
      by None own is = absurd (cc is)
      by (Some slot) own is =
          let some =
          mapped_some
          (sender_on l (sightings_in Sightings double) (sightings_in Sightings (double + 1)) double node.id
          (if_there (course_in Scaled x.params l (sightings_in Sightings (double + 1)) (double + 1) node.id slot)))
          (if_there (course_in Scaled x.params l (sightings_in Sightings double) double node.id slot)) s is in
          record {
            slot = slot;
            keyed = keyed_by node slot own;
            course = some.0;
            course_is = there_some (course_in Scaled x.params l (sightings_in Sightings double) double node.id slot) some.0 some.1.0;
            sender_is = some.1.1;
          }

  -- ---- its course

  sender_holds : (double : ℕ) (even odd : Cycle) (node : NodeSpec) (s : Sender) → IsTimedRun x h → HasDouble h (run_double base double) even odd → Contains x.params.nodes node
      → IsSenderBy double node s → IsSenderOn x l.drift (clock (run_double base double)) even odd s
  sender_holds double even odd node s run has among by =
      let at = run_double base double in
      let own = own_is node by.slot among by.keyed in
      let picks = is_picked node.id by.slot double at by.course own refl by.course_is in
      let rows = sender_has_both node.id by.slot double at even odd by.course run has picks in
      subst (IsSenderOn x l.drift (clock at) even odd) by.sender_is
      (
      record {
        rows = rows;
        on = seen_courses_hold x h base (observer_of l) delays clock is.sent node.id by.slot at at (row_for even.told.rows node.id) (row_for odd.told.rows node.id) picks.picked by.course run is.seen
            (sender_has_rows node by.slot at even odd among by.keyed has rows) picks.are (inl refl) picks.course_is;
      }
      )

  pub next_run : (double : ℕ) → suc (run_double base double) ≡ run_double base (double + 1)
  next_run double = later double (base / 2)
    where
      later : (d b : ℕ) → suc (d + b) ≡ d + 1 + b
      later d b = omega arith

  pub next_at : (double : ℕ) → 2 * suc (run_double base double) ≡ 2 * double + 2 + base
  next_at double = later (run_double base double) double base (even_at double (run_double base double) refl)
    where
      later : (r d b : ℕ) → 2 * r ≡ 2 * d + b → 2 * suc r ≡ 2 * d + 2 + b
      later r d b is = omega (arith, is)

  sender_goes_on : (double : ℕ) (even odd next_even next_odd : Cycle) (node : NodeSpec) (s : Sender) → IsTimedRun x h → HasDouble h (run_double base double) even odd
      → HasDouble h (suc (run_double base double)) next_even next_odd → Contains x.params.nodes node → IsSenderBy double node s
      → SenderGoesOn x l.drift (clock (run_double base double)) even odd next_even next_odd s
  sender_goes_on double even odd next_even next_odd node s run has next_has among by =
      subst (SenderGoesOn x l.drift (clock (run_double base double)) even odd next_even next_odd) by.sender_is
      (next_by (if_there (course_in Scaled x.params l (sightings_in Sightings (double + 1)) (double + 1) node.id by.slot)) refl)
    where
      next_by : (o : Option Course) → if_there (course_in Scaled x.params l (sightings_in Sightings (double + 1)) (double + 1) node.id by.slot) ≡ o
          → IfSome o
          (
          GoesOnBy x l.drift (clock (run_double base double)) even odd next_even next_odd
          (sender_on l (sightings_in Sightings double) (sightings_in Sightings (double + 1)) double node.id
          (if_there (course_in Scaled x.params l (sightings_in Sightings (double + 1)) (double + 1) node.id by.slot)) by.course)
          )
      next_by None next_is = tt
      next_by (Some next) next_is =
          let at = run_double base double in
          let own = own_is node by.slot among by.keyed in
          let picks = is_picked node.id by.slot double at by.course own refl by.course_is in
          let rows = sender_has_both node.id by.slot double at even odd by.course run has picks in
          let next_course = there_some (course_in Scaled x.params l (sightings_in Sightings (double + 1)) (double + 1) node.id by.slot) next next_is in
          let next_picks = is_picked node.id by.slot (double + 1) (suc at) next own (next_run double) next_course in
          let next_rows = sender_has_both node.id by.slot (double + 1) (suc at) next_even next_odd next run next_has next_picks in
          let onward =
          span_meets node.id by.slot (2 * double + 1) (suc (2 * at)) (2 * double + 2) (2 * suc at) double (double + 1) own (odd_at double at refl) (next_at double) in
          let Goes : Option Interval → Type 0 = GoesOn x.params l.drift (clock at)
          (record {
            first = record { course = by.course; even = row_for even.told.rows node.id; odd = row_for odd.told.rows node.id };
            second = record { course = next; even = row_for next_even.told.rows node.id; odd = row_for next_odd.told.rows node.id };
          }) in
          record {
            rows = next_rows;
            goes =
                subst Goes (sym onward.are)
                (
                seen_nodes_go_on x h base (observer_of l) delays clock is.sent node.id by.slot at (row_for even.told.rows node.id) (row_for odd.told.rows node.id)
                (row_for next_even.told.rows node.id) (row_for next_odd.told.rows node.id) picks.picked next_picks.picked by.course next onward.some run is.seen
                (sender_has_rows node by.slot at even odd among by.keyed has rows) (sender_has_rows node by.slot (suc at) next_even next_odd among by.keyed next_has next_rows)
                picks.are next_picks.are onward.each picks.course_is next_picks.course_is
                );
          }

pub senders_are_on_course : SendersAreOnCourse
unfolding senders_of seen_senders
senders_are_on_course x h base delays clock l double even odd run is_log is has =
    let scale = reading_scale l.drift x.params in
    let seen = sightings_of x.params l in
    all_given (seen_sender scale x.params l (sightings_in seen double) (sightings_in seen (double + 1)) double)
    (IsSenderOn x l.drift (clock (run_double base double)) even odd) x.params.nodes
    (λ node among s given.
    sender_holds x h base delays clock l run.sane is_log is double even odd node s run has among (sender_found x h base delays clock l run.sane is_log is double node s given))

pub senders_go_on : SendersGoOn
unfolding senders_of seen_senders
senders_go_on x h base delays clock l double even odd next_even next_odd run is_log is has next_has =
    let scale = reading_scale l.drift x.params in
    let seen = sightings_of x.params l in
    all_given (seen_sender scale x.params l (sightings_in seen double) (sightings_in seen (double + 1)) double)
    (SenderGoesOn x l.drift (clock (run_double base double)) even odd next_even next_odd) x.params.nodes
    (λ node among s given.
    sender_goes_on x h base delays clock l run.sane is_log is double even odd next_even next_odd node s run has next_has among
    (sender_found x h base delays clock l run.sane is_log is double node s given))
