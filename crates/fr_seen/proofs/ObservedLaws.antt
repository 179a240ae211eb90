-- What a log that is seen of a run says of its nodes.
use Rattle.std.proofs.Common.{◌≡◌, ◌⊎◌, ℕ, suc, ◌+◌, ◌*◌, ◌/◌, ◌%◌, ◌<◌, ◌≤◌, true, ℤ, pos, Some, List, [], ◌∷◌, All, map, refl, ap, sym, ◌∙◌, subst, inl, inr, arith}
use Rattle.std.specs.Prelude.{◌+ℤ◌, ◌-ℤ◌, ◌*ℤ◌, ◌≤ℤ◌, ◌<ℤ◌, neg_ℤ}
use Rattle.std.proofs.lemmas.Int.{ints, by_lt_z}
use Rattle.std.proofs.Math.Nat.{div-add-mod'}
use Rattle.fr_base.specs.Within.{lies_within, IsWithin}
use Rattle.fr_cluster.specs.Values.{Values, amount}
use Rattle.fr_cluster.specs.Sane.{IsSane}
use Rattle.fr_cluster.specs.declared.names.ParamName.TheVariants as name
use Rattle.fr_midpoint.proofs.Products.{lez_of_mulz-lez, mulz-lez, mulz_assoc, mulz_comm, negz-mulz}
use Rattle.fr_time.specs.Position.{floor_of}
use Rattle.fr_bound.specs.Bounds.{nominal}
use Rattle.fr_base.specs.declared.channel.Channel.{Channel}
use Rattle.fr_base.specs.declared.node_row.NodeRow.{NodeRow}
use Rattle.fr_cluster.specs.Setting.{Setting}
use Rattle.std.specs.Option.{ForSome}
use Rattle.std.proofs.lemmas.Option.{none-some}
use Rattle.std.proofs.lemmas.List.Elements.{All-contains, All-head, All-tail, All-weaker}
use Rattle.fr_time.specs.Instant.{action_instant}
use Rattle.fr_time.specs.Slots.{action_point_of, slot_end_of}
use Rattle.fr_time.proofs.Placing.{action_point_lt, before_correction as slot_ends_early, is_grid_lem}
use Rattle.fr_precision.proofs.InstantLaws.{before_correction}
use Rattle.fr_history.specs.Cycles.{Cycle, Cycles, cycle_at}
use Rattle.fr_history.specs.History.{row_of}
use Rattle.fr_course.specs.declared.intervals.Interval.{Interval}
use Rattle.fr_course.specs.Readings.{meet_all, meet_if}
use Rattle.fr_course.specs.declared.courses.Course.{Course}
use Rattle.fr_course.specs.declared.stamps.Delays.{Delays}
use Rattle.fr_course.specs.declared.stamps.Observer.{Observer}
use Rattle.fr_course.specs.Numbering.{nominal_cycle, scheduled}
use Rattle.fr_seen.specs.Clocks.{reading_at, reading_of, HasReading, IsStamped, LastsIn, ReadsIn, StraightClock}
use Rattle.fr_seen.specs.Courses.{even_action, odd_action, AreSeen, IsSeenNode}
use Rattle.fr_seen.specs.Skews.{IsOnCourse}
use Rattle.fr_seen.specs.RunRows.{IsTimedRun}
use Rattle.fr_seen.specs.Observed.{ArePaired, ArePicked, HasRows, IsCourseBy, IsInWindow, IsSeenOf, IsSentBy, IsSentIn, NumbersAreFound, Picked, SeenCoursesHold, SeenNodesGoOn, SeenNumbersAreFound, SentFrame, TimelyFramesAreNear, box_of, sent_macrotick, span_between, stamped_apart}
use Rattle.fr_seen.proofs.Intervals.{spans_place, stamps_place}
use Rattle.fr_seen.proofs.CourseLaws.{courses_hold_lem, meets_if}
use Rattle.fr_seen.proofs.RunLaws.{nodes_go_on, nodes_run_regularly}
use Rattle.fr_seen.proofs.Doubles.{numbers_of}
use Rattle.fr_course.proofs.Floors.{floor_above, floor_below}
use Rattle.fr_seen.proofs.TermLaws.{product_some}

-- ---- numbers

no_less : (a : ℤ) → pos 0 <ℤ a → pos 0 ≤ℤ a
no_less a h = omega (arith, ints)

sixty_four : pos 0 <ℤ pos 64
sixty_four = omega (arith, ints)

pub numbers_are_found : NumbersAreFound
numbers_are_found last number turns count is near =
    let n = (last +ℤ pos 31) -ℤ pos count in
    let f = floor_of n (pos 64) in
    found last number turns count f is near.low near.high (floor_below n (pos 64) sixty_four) (floor_above n (pos 64) turns sixty_four (fits last number turns count is near.high))
  where
    fits : (last number turns : ℤ) (count : ℕ) → number ≡ pos count +ℤ (pos 64 *ℤ turns) → (number -ℤ last) ≤ℤ pos 31 → (turns *ℤ pos 64) ≤ℤ ((last +ℤ pos 31) -ℤ pos count)
    fits last number turns count is high = omega (arith, ints)

    found :
        (last number turns : ℤ) (count : ℕ) (f : ℤ) → number ≡ pos count +ℤ (pos 64 *ℤ turns) → neg_ℤ (pos 32) ≤ℤ (number -ℤ last) → (number -ℤ last) ≤ℤ pos 31
        → (f *ℤ pos 64) ≤ℤ ((last +ℤ pos 31) -ℤ pos count) → turns ≤ℤ f → pos count +ℤ (pos 64 *ℤ f) ≡ number
    found last number turns count f is low high below above = let same : f ≡ turns = omega (arith, ints) in omega (arith, ints, same)

-- what a test of nearness says
near_by : (bound x : ℤ) → lies_within bound x ≡ true → IsWithin bound x
near_by bound x is = record { low = low bound x is; high = high bound x is }
  where
    low : (b x : ℤ) → lies_within b x ≡ true → neg_ℤ b ≤ℤ x
    low b x is = grind (arith, ints)

    high : (b x : ℤ) → lies_within b x ≡ true → x ≤ℤ b
    high b x is = grind (arith, ints)

cycle_some : (p : Values) → IsSane p → pos 0 <ℤ nominal_cycle p
cycle_some p sane =
    let range = sane.ranges name.pMicroPerCycle in
    let micros : pos 0 <ℤ pos (amount p name.pMicroPerCycle) = omega (arith, ints, range.0) in
    product_some (pos (amount p name.pMicroPerCycle)) (pos nominal) micros (omega (arith, ints))

-- beyond 31 cycles the schedule has a frame later than the longest silence and half a cycle
too_late : (cycles macroticks g c v half apart : ℤ) → pos 0 <ℤ g → pos 0 <ℤ c → v ≡ floor_of (((cycles *ℤ g) +ℤ macroticks) *ℤ c) g → neg_ℤ g <ℤ macroticks → pos 31 <ℤ cycles
    → (half *ℤ pos 2) ≤ℤ c → (apart -ℤ v) ≤ℤ half → neg_ℤ half ≤ℤ (apart -ℤ v) → apart ≤ℤ (pos 30 *ℤ c) → ⊥
too_late cycles macroticks g c v half apart g_some c_some is from late halves high low silent =
    let w = (cycles *ℤ g) +ℤ macroticks in
    let more : (pos 32 *ℤ g) ≤ℤ (cycles *ℤ g) = mulz-lez (pos 32) cycles g (next cycles late) (no_less g g_some) in
    let whole : ((pos 31 *ℤ g) *ℤ c) ≤ℤ (w *ℤ c) = mulz-lez (pos 31 *ℤ g) w c (over g (cycles *ℤ g) macroticks more from) (no_less c c_some) in
    let turned : (pos 31 *ℤ c) *ℤ g ≡ (pos 31 *ℤ g) *ℤ c = mulz_assoc (pos 31) c g ∙ ap (λ x. pos 31 *ℤ x) (mulz_comm c g) ∙ sym (mulz_assoc (pos 31) g c) in
    let reached : (pos 31 *ℤ c) ≤ℤ floor_of (w *ℤ c) g = floor_above (w *ℤ c) g (pos 31 *ℤ c) g_some (chain ((pos 31 *ℤ c) *ℤ g) ((pos 31 *ℤ g) *ℤ c) (w *ℤ c) turned whole) in
    contrary c v half apart (floor_of (w *ℤ c) g) c_some is reached halves low silent
  where
    next : (a : ℤ) → pos 31 <ℤ a → pos 32 ≤ℤ a
    next a h = omega (arith, ints)

    over : (g k m : ℤ) → (pos 32 *ℤ g) ≤ℤ k → neg_ℤ g <ℤ m → (pos 31 *ℤ g) ≤ℤ (k +ℤ m)
    over g k m a b = omega (arith, ints)

    chain : (a b c : ℤ) → a ≡ b → b ≤ℤ c → a ≤ℤ c
    chain a b c h k = omega (arith, ints)

    contrary : (c v half apart f : ℤ) → pos 0 <ℤ c → v ≡ f → (pos 31 *ℤ c) ≤ℤ f → (half *ℤ pos 2) ≤ℤ c → neg_ℤ half ≤ℤ (apart -ℤ v) → apart ≤ℤ (pos 30 *ℤ c) → ⊥
    contrary c v half apart f a b d e h i = omega (arith, ints)

-- and more than one cycle before, earlier than half a cycle
too_early : (cycles macroticks g c v half apart : ℤ) → pos 0 <ℤ g → pos 0 <ℤ c → v ≡ floor_of (((cycles *ℤ g) +ℤ macroticks) *ℤ c) g → macroticks <ℤ g → cycles <ℤ neg_ℤ (pos 1)
    → (half *ℤ pos 2) ≤ℤ c → (apart -ℤ v) ≤ℤ half → pos 0 ≤ℤ apart → ⊥
too_early cycles macroticks g c v half apart g_some c_some is to early halves high apart_from =
    let w = (cycles *ℤ g) +ℤ macroticks in
    let fewer : (cycles *ℤ g) ≤ℤ (neg_ℤ (pos 2) *ℤ g) = mulz-lez cycles (neg_ℤ (pos 2)) g (before cycles early) (no_less g g_some) in
    let whole : (w *ℤ c) ≤ℤ (neg_ℤ g *ℤ c) = mulz-lez w (neg_ℤ g) c (under g (cycles *ℤ g) macroticks fewer to) (no_less c c_some) in
    let turned : neg_ℤ c *ℤ g ≡ neg_ℤ g *ℤ c = negz-mulz c g ∙ ap neg_ℤ (mulz_comm c g) ∙ sym (negz-mulz g c) in
    let f = floor_of (w *ℤ c) g in
    let reached : f ≤ℤ neg_ℤ c =
    lez_of_mulz-lez f (neg_ℤ c) g g_some (chain (f *ℤ g) (w *ℤ c) (neg_ℤ g *ℤ c) (neg_ℤ c *ℤ g) (floor_below (w *ℤ c) g g_some) whole turned) in
    contrary c v half apart f c_some is reached halves high apart_from
  where
    before : (a : ℤ) → a <ℤ neg_ℤ (pos 1) → a ≤ℤ neg_ℤ (pos 2)
    before a h = omega (arith, ints)

    under : (g k m : ℤ) → k ≤ℤ (neg_ℤ (pos 2) *ℤ g) → m <ℤ g → (k +ℤ m) ≤ℤ neg_ℤ g
    under g k m a b = omega (arith, ints)

    chain : (a b c d : ℤ) → a ≤ℤ b → b ≤ℤ c → d ≡ c → a ≤ℤ d
    chain a b c d h k l = omega (arith, ints)

    contrary : (c v half apart f : ℤ) → pos 0 <ℤ c → v ≡ f → f ≤ℤ neg_ℤ c → (half *ℤ pos 2) ≤ℤ c → (apart -ℤ v) ≤ℤ half → pos 0 ≤ℤ apart → ⊥
    contrary c v half apart f a b d e h i = omega (arith, ints)

pub timely_frames_are_near : TimelyFramesAreNear
timely_frames_are_near p apart cycles macroticks sane timely within from to =
    let c = nominal_cycle p in
    let v = scheduled p cycles macroticks in
    let half = floor_of c (pos 2) in
    let near : IsWithin half (apart -ℤ v) = near_by half (apart -ℤ v) timely in
    let halves : (half *ℤ pos 2) ≤ℤ c = floor_below c (pos 2) two in
    let c_some = cycle_some p sane in
    let g_some = (numbers_of p sane).macros_some in
    record {
      low = by_lt_z cycles (neg_ℤ (pos 1)) (λ early. absurd (too_early cycles macroticks p.macros c v half apart g_some c_some refl to early halves near.high within.low)) (λ other. other);
      high = by_lt_z (pos 31) cycles (λ late. absurd (too_late cycles macroticks p.macros c v half apart g_some c_some refl from late halves near.high near.low within.high)) (λ other. other);
    }
  where
    two : pos 0 <ℤ pos 2
    two = omega (arith, ints)

-- ---- a log that is seen of a run

-- the action point of a static slot
pub record IsAction (p : Values) (slot : ℕ) : Type 0 where
  pub from : pos 0 ≤ℤ pos (action_point_of p slot)
  pub to : pos (action_point_of p slot) ≤ℤ p.correction
  pub less : pos (action_point_of p slot) <ℤ p.macros

pub is_action : (p : Values) (slot : ℕ) → IsSane p → 1 ≤ slot → slot ≤ amount p name.gNumberOfStaticSlots → IsAction p slot
is_action p slot sane from to =
    let acts = action_point_lt p slot sane from in
    let ends = slot_ends_early p slot sane to in
    record {
      from = natural (action_point_of p slot);
      to = early (action_point_of p slot) (slot_end_of p slot) p.correction acts ends;
      less = within (action_point_of p slot) (slot_end_of p slot) p.correction p.macros acts ends (is_grid_lem p sane).correction_to;
    }
  where
    natural : (n : ℕ) → pos 0 ≤ℤ pos n
    natural n = omega (arith, ints)

    early : (a e : ℕ) (o : ℤ) → a < e → pos e <ℤ o → pos a ≤ℤ o
    early a e o h k = omega (arith, ints)

    within : (a e : ℕ) (o g : ℤ) → a < e → pos e <ℤ o → o <ℤ g → pos a <ℤ g
    within a e o g h k l = omega (arith, ints)

-- the number of a frame is its count and so many times 64
turns_of : (x : Setting) (h : Cycles) (base : ℕ) (sent : SentFrame) → base % 64 ≡ 0 → IsSentIn x h base sent
    → sent.frame.number ≡ pos sent.frame.count +ℤ (pos 64 *ℤ (pos (sent.cycle / 64) -ℤ pos (base / 64)))
turns_of x h base sent whole is = turned sent.frame.number sent.cycle base (sent.cycle / 64) (base / 64) sent.frame.count is.numbered (sent_whole sent.cycle sent.frame.count is.counted) (base_whole base whole)
  where
    sent_whole : (cycle count : ℕ) → count ≡ cycle % 64 → cycle / 64 * 64 + count ≡ cycle
    sent_whole cycle count is = ap (λ n. cycle / 64 * 64 + n) is ∙ div-add-mod' cycle 64

    base_whole : (base : ℕ) → base % 64 ≡ 0 → base / 64 * 64 ≡ base
    base_whole base is = let whole = div-add-mod' base 64 in omega (arith, whole, is)

    turned : (number : ℤ) (cycle base q r count : ℕ) → pos cycle ≡ number +ℤ pos base → q * 64 + count ≡ cycle → r * 64 ≡ base → number ≡ pos count +ℤ (pos 64 *ℤ (pos q -ℤ pos r))
    turned number cycle base q r count a b c = omega (arith, ints)

pub seen_numbers_are_found : SeenNumbersAreFound
seen_numbers_are_found x h base observer delays clock log frame later sane seen here there silent =
    let one = All-contains (IsSentIn x h base) log frame seen.sent here in
    let other = All-contains (IsSentIn x h base) log later seen.sent there in
    let first = is_action x.params frame.frame.slot sane one.slot_from one.slot_to in
    let second = is_action x.params later.frame.slot sane other.slot_from other.slot_to in
    let cycles = later.frame.number -ℤ frame.frame.number in
    let near =
    timely_frames_are_near x.params (stamped_apart observer frame later) cycles (sent_macrotick x later -ℤ sent_macrotick x frame) sane (seen.timely frame later here there silent) silent
    (above (sent_macrotick x frame) (sent_macrotick x later) x.params.macros first.less second.from) (below (sent_macrotick x frame) (sent_macrotick x later) x.params.macros first.from second.less) in
    numbers_are_found frame.frame.number later.frame.number (pos (later.cycle / 64) -ℤ pos (base / 64)) later.frame.count (turns_of x h base later seen.whole_base other)
    (record { low = wide cycles near.low; high = near.high })
  where
    above : (a b g : ℤ) → a <ℤ g → pos 0 ≤ℤ b → neg_ℤ g <ℤ (b -ℤ a)
    above a b g h k = omega (arith, ints)

    below : (a b g : ℤ) → pos 0 ≤ℤ a → b <ℤ g → (b -ℤ a) <ℤ g
    below a b g h k = omega (arith, ints)

    wide : (c : ℤ) → neg_ℤ (pos 1) ≤ℤ c → neg_ℤ (pos 32) ≤ℤ c
    wide c h = omega (arith, ints)

-- ---- intervals by frames

-- what lies in each of some intervals lies in all of them
pub all_meet : {X : Type 0} (clock : StraightClock) (interval : X → Interval) (xs : List X) (reading : ℤ) → All (λ s. HasReading clock (interval s) reading) xs
    → ForSome (meet_all (map interval xs)) (λ b. HasReading clock b reading)
unfolding meet_all
all_meet clock interval [] reading all = λ b is. absurd (none-some b is)
all_meet {X = X} clock interval (s ∷ xs) reading all =
    let Lies : X → Type 0 = λ t. HasReading clock (interval t) reading in
    let rest = meets_if clock (meet_all (map interval xs)) (interval s) reading (all_meet clock interval xs reading (All-tail Lies s xs all)) (All-head Lies s xs all) in
    λ b is. subst (λ i. HasReading clock i reading) (same (meet_if (meet_all (map interval xs)) (interval s)) b is) rest
  where
    same : (a b : Interval) → Some a ≡ Some b → a ≡ b
    same a b is = cc

module _
    (x : Setting) (h : Cycles) (base : ℕ) (observer : Observer) (delays : ℕ → Channel → Delays) (clock : ℕ → StraightClock) (log : List SentFrame)
    (seen : IsSeenOf x h base observer delays clock log)
  where
    -- a frame of a cycle has the row that its node has there
    row_of_sent : (node slot cycle : ℕ) (c : Cycle) (row : NodeRow) (sent : SentFrame) → cycle_at h cycle ≡ Some c → row_of c.told.rows node ≡ Some row → IsSentBy log node slot cycle sent
        → sent.row ≡ row
    row_of_sent node slot cycle c row sent has is by =
        let at = All-contains (IsSentIn x h base) log sent seen.sent by.there in
        let same : at.told ≡ c = same_cycle at.told c (sym at.has_cycle ∙ ap (cycle_at h) by.in_cycle ∙ has) in
        same_row sent.row row (sym at.has_row ∙ ap (λ (d : Cycle). row_of d.told.rows sent.node) same ∙ ap (row_of c.told.rows) by.by_node ∙ is)
      where
        same_cycle : (a b : Cycle) → Some a ≡ Some b → a ≡ b
        same_cycle a b is = cc

        same_row : (a b : NodeRow) → Some a ≡ Some b → a ≡ b
        same_row a b is = cc

    -- it is sent at the action point of that row
    sent_instant : (slot : ℕ) (row : NodeRow) (sent : SentFrame) → sent.row ≡ row → sent.frame.slot ≡ slot
        → action_instant x.params sent.row sent.frame.slot ≡ even_action x.params row (pos (action_point_of x.params slot))
    sent_instant slot row sent is slot_is =
        ap (λ r. action_instant x.params r sent.frame.slot) is ∙ ap (action_instant x.params row) slot_is

    -- so it reads where its stamp puts it
    reads_of : (node slot cycle window : ℕ) (row : NodeRow) (sent : SentFrame) → IsInWindow cycle window → sent.row ≡ row → IsSentBy log node slot cycle sent
        → ReadsIn (clock window) (box_of observer delays sent) (even_action x.params row (pos (action_point_of x.params slot)))
    reads_of node slot cycle window row sent in_window is by =
        subst (λ t. ReadsIn (clock window) (box_of observer delays sent) t) (sent_instant slot row sent is by.in_slot)
        (stamps_place observer (delays sent.node sent.frame.channel) (clock window) (action_instant x.params sent.row sent.frame.slot) sent.delay sent.frame.stamp (seen.within_drift window)
        (seen.read sent window by.there (subst (λ n. IsInWindow n window) (sym by.in_cycle) in_window)))

    -- and two of them lie as far apart as they span
    spans_of : (node slot cycle later window : ℕ) (row next : NodeRow) (pair : SentFrame × SentFrame) → IsInWindow cycle window → IsInWindow later window → pair.0.row ≡ row → pair.1.row ≡ next
        → ArePaired log node slot cycle later pair
        → LastsIn (clock window) (span_between observer delays pair)
        (even_action x.params next (pos (action_point_of x.params slot)) -ℤ even_action x.params row (pos (action_point_of x.params slot)))
    spans_of node slot cycle later window row next pair in_window later_in is next_is paired =
        let one = pair.0 in
        let other = pair.1 in
        let same_node : other.node ≡ one.node = paired.second.by_node ∙ sym paired.first.by_node in
        let here = subst (λ n. IsInWindow n window) (sym paired.first.in_cycle) in_window in
        let there = subst (λ n. IsInWindow n window) (sym paired.second.in_cycle) later_in in
        let Stamped : Delays → Type 0 = λ d. IsStamped observer d (clock window) (action_instant x.params other.row other.frame.slot) other.delay other.frame.stamp in
        let on = seen.read one window paired.first.there here in
        let also : Stamped (delays one.node one.frame.channel) =
        subst (λ channel. Stamped (delays one.node channel)) paired.channel (subst (λ n. Stamped (delays n other.frame.channel)) same_node (seen.read other window paired.second.there there)) in
        let apart =
        spans_place observer (delays one.node one.frame.channel) (clock window) (action_instant x.params one.row one.frame.slot) one.delay one.frame.stamp
        (action_instant x.params other.row other.frame.slot) other.delay other.frame.stamp (seen.within_drift window) on also
        (seen.jitter one other window paired.first.there paired.second.there here there same_node paired.channel) in
        subst (λ t. LastsIn (clock window) (span_between observer delays pair) (t -ℤ even_action x.params row (pos (action_point_of x.params slot)))) (sent_instant slot next other next_is paired.second.in_slot)
        (subst (λ t. LastsIn (clock window) (span_between observer delays pair) (action_instant x.params other.row other.frame.slot -ℤ t)) (sent_instant slot row one is paired.first.in_slot) apart)

    -- ---- a double cycle

    module _ (run : IsTimedRun x h) (node slot double window : ℕ) (even odd : NodeRow) (picked : Picked) (rows : HasRows x h node slot double even odd) (are : ArePicked log node slot double picked)
        (in_window : (double ≡ window) ⊎ (double ≡ suc window)) where
      abbrev action : ℤ
      action = pos (action_point_of x.params slot)

      even_in : IsInWindow (2 * double) window
      even_in = subst (λ n. (n ≡ window) ⊎ (n ≡ suc window)) (half double) in_window
        where
          half : (k : ℕ) → k ≡ 2 * k / 2
          half k = grind arith

      odd_in : IsInWindow (suc (2 * double)) window
      odd_in = subst (λ n. (n ≡ window) ⊎ (n ≡ suc window)) (half double) in_window
        where
          half : (k : ℕ) → k ≡ suc (2 * k) / 2
          half k = grind arith

      is_early : IsAction x.params slot
      is_early = is_action x.params slot run.sane rows.slot_from rows.slot_to

      odd_is : even_action x.params odd action ≡ odd_action x.params odd action
      odd_is = sym (before_correction x.params odd action is_early.to)

      even_row : (s : SentFrame) → IsSentBy log node slot (2 * double) s → s.row ≡ even
      even_row s by = row_of_sent node slot (2 * double) rows.even_cycle even s rows.has.has_even rows.even_row by

      odd_row : (s : SentFrame) → IsSentBy log node slot (suc (2 * double)) s → s.row ≡ odd
      odd_row s by = row_of_sent node slot (suc (2 * double)) rows.odd_cycle odd s rows.has.has_odd rows.odd_row by

      seen_node : IsSeenNode x.params observer.drift (clock window) action even odd
      seen_node =
          record {
            sane = run.sane;
            within_drift = seen.within_drift window;
            regular = nodes_run_regularly x h double rows.even_cycle rows.odd_cycle node even odd run rows.has rows.even_row rows.odd_row;
            acts_from = is_early.from;
            acts_to = is_early.to;
          }

      are_seen : AreSeen x.params (clock window) action even odd
          (meet_all (map (box_of observer delays) picked.even)) (meet_all (map (box_of observer delays) picked.odd)) (meet_all (map (span_between observer delays) picked.pairs))
      are_seen =
          let c = clock window in
          record {
            in_even =
                all_meet c (box_of observer delays) picked.even (reading_at c (even_action x.params even action))
                (All-weaker (IsSentBy log node slot (2 * double)) (λ s. ReadsIn c (box_of observer delays s) (even_action x.params even action))
                (λ s by. reads_of node slot (2 * double) window even s even_in (even_row s by) by) picked.even are.in_even);
            in_odd =
                all_meet c (box_of observer delays) picked.odd (reading_at c (odd_action x.params odd action))
                (All-weaker (IsSentBy log node slot (suc (2 * double))) (λ s. ReadsIn c (box_of observer delays s) (odd_action x.params odd action))
                (λ s by. subst (λ t. ReadsIn c (box_of observer delays s) t) odd_is (reads_of node slot (suc (2 * double)) window odd s odd_in (odd_row s by) by)) picked.odd are.in_odd);
            spanned =
                all_meet c (span_between observer delays) picked.pairs (reading_of c (odd_action x.params odd action -ℤ even_action x.params even action))
                (All-weaker (ArePaired log node slot (2 * double) (suc (2 * double))) (λ pair. LastsIn c (span_between observer delays pair) (odd_action x.params odd action -ℤ even_action x.params even action))
                (λ pair paired.
                subst (λ t. LastsIn c (span_between observer delays pair) (t -ℤ even_action x.params even action)) odd_is
                (spans_of node slot (2 * double) (suc (2 * double)) window even odd pair even_in odd_in (even_row pair.0 paired.first) (odd_row pair.1 paired.second) paired))
                picked.pairs are.paired);
          }

      course_holds : (course : Course) → IsCourseBy x observer delays slot picked course → (course.action ≡ action) × IsOnCourse x.params observer.drift (clock window) (record { course = course; even = even; odd = odd })
      course_holds course is =
          let holds =
          courses_hold_lem x.params observer.drift (clock window) action even odd (meet_all (map (box_of observer delays) picked.even)) (meet_all (map (box_of observer delays) picked.odd))
          (meet_all (map (span_between observer delays) picked.pairs)) course seen_node are_seen is in (
            holds.0,
            record { seen = subst (λ a. IsSeenNode x.params observer.drift (clock window) a even odd) (sym holds.0) seen_node; holds = holds.1 },
          )

pub seen_courses_hold : SeenCoursesHold
seen_courses_hold x h base observer delays clock log node slot double window even odd picked course run seen rows are in_window is =
    (course_holds x h base observer delays clock log seen run node slot double window even odd picked rows are in_window course is).1

pub seen_nodes_go_on : SeenNodesGoOn
seen_nodes_go_on x h base observer delays clock log node slot double even odd next_even next_odd picked next_picked course next_course onward run seen rows next_rows are next_are paired is next_is =
    let action = pos (action_point_of x.params slot) in
    let c = clock double in
    let first = course_holds x h base observer delays clock log seen run node slot double double even odd picked rows are (inl refl) course is in
    let second = course_holds x h base observer delays clock log seen run node slot (suc double) double next_even next_odd next_picked next_rows next_are (inr refl) next_course next_is in
    let on =
    nodes_go_on x h double rows.even_cycle rows.odd_cycle next_rows.even_cycle next_rows.odd_cycle node odd next_even run rows.has next_rows.has rows.odd_row next_rows.even_row in
    let early = is_action x.params slot run.sane rows.slot_from rows.slot_to in
    let odd_is : even_action x.params odd action ≡ odd_action x.params odd action = sym (before_correction x.params odd action early.to) in
    let Spans : ℤ → Type 0 = λ a. ForSome (meet_all (map (span_between observer delays) onward)) (λ long. LastsIn c long (even_action x.params next_even a -ℤ odd_action x.params odd a)) in
    let spanned : Spans action =
    all_meet c (span_between observer delays) onward (reading_of c (even_action x.params next_even action -ℤ odd_action x.params odd action))
    (All-weaker (ArePaired log node slot (suc (2 * double)) (2 * suc double)) (λ pair. LastsIn c (span_between observer delays pair) (even_action x.params next_even action -ℤ odd_action x.params odd action))
    (λ pair by.
    subst (λ t. LastsIn c (span_between observer delays pair) (even_action x.params next_even action -ℤ t)) odd_is
    (spans_of x h base observer delays clock log seen node slot (suc (2 * double)) (2 * suc double) double odd next_even pair (inl (odd_half double)) (inr (even_half double))
    (row_of_sent x h base observer delays clock log seen node slot (suc (2 * double)) rows.odd_cycle odd pair.0 rows.has.has_odd rows.odd_row by.first)
    (row_of_sent x h base observer delays clock log seen node slot (2 * suc double) next_rows.even_cycle next_even pair.1 next_rows.has.has_even next_rows.even_row by.second) by))
    onward paired) in
    record {
      sane = run.sane;
      within_drift = seen.within_drift double;
      on = record { first = first.1; second = second.1; follows = on.0 };
      same_action = second.0 ∙ sym first.0;
      steady = on.1;
      spanned = subst Spans (sym first.0) spanned;
    }
  where
    odd_half : (k : ℕ) → suc (2 * k) / 2 ≡ k
    odd_half k = grind arith

    even_half : (k : ℕ) → 2 * suc k / 2 ≡ suc k
    even_half k = grind arith
