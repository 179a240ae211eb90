-- How far from the schedule the frames of a log arrive that is read of a run whose nodes start near each other.
use Rattle.std.proofs.Common.{◌≡◌, ◌⊎◌, ℕ, suc, ◌+◌, ◌-◌, ◌*◌, ◌/◌, ◌<◌, ◌≤◌, ℤ, pos, Some, ◌∷◌, ap, sym, ◌∙◌, subst, inl, inr, arith}
use Rattle.std.specs.Prelude.{◌+ℤ◌, ◌-ℤ◌, ◌*ℤ◌, ◌≤ℤ◌, ◌<ℤ◌, neg_ℤ, is_some, Contains, length}
use Rattle.std.proofs.lemmas.Int.{ints}
use Rattle.fr_base.specs.Within.{IsWithin}
use Rattle.fr_base.specs.declared.node_row.NodeRow.{NodeRow}
use Rattle.fr_cluster.specs.Setting.{Setting, correct_nodes}
use Rattle.fr_cluster.specs.Values.{Values, amount}
use Rattle.fr_cluster.specs.declared.names.ParamName.TheVariants as name
use Rattle.fr_cluster.specs.declared.nodes.NodeSpec.{NodeSpec}
use Rattle.fr_midpoint.proofs.Products.{mulz-negz, negz-mulz}
use Rattle.fr_bound.specs.Sync.{cycle_length_of}
use Rattle.fr_precision.specs.Rows.{HasProperMicro}
use Rattle.fr_precision.proofs.Figures.{natural}
use Rattle.fr_time.specs.Cycles.{double_cycle_of}
use Rattle.fr_time.specs.Instant.{action_instant}
use Rattle.fr_time.specs.Position.{even_position, grid_for}
use Rattle.fr_history.specs.Cycles.{Cycle, Cycles, cycle_at}
use Rattle.fr_history.specs.History.{row_for, row_of}
use Rattle.fr_history.specs.Standing.{row_nodes}
use Rattle.fr_runs.proofs.Courses.{is_correct_row}
use Rattle.fr_runs.proofs.Parts.{cycle_within}
use Rattle.fr_course.specs.Numbering.{nominal_cycle}
use Rattle.fr_seen.specs.Observed.{IsSentIn, SentFrame, sent_macrotick}
use Rattle.fr_seen.specs.RunRows.{IsTimedRun}
use Rattle.fr_seen.proofs.Doubles.{numbers_of}
use Rattle.fr_seen.proofs.ObservedLaws.{is_action}
use Rattle.fr_seen.proofs.RunLaws.{cut_at, nodes_have_both_rows, row_at, two_at}
use Rattle.fr_seen.proofs.SenderLaws.{some_row}
use Rattle.fr_seen_runs.specs.InTime.{IsNearFrom, arrives_at}
use Rattle.fr_seen.specs.LogDoubles.{IsDoubleThere}
use Rattle.fr_seen_runs.proofs.Places.{IsPlaced, macrotick_near, placed_even, placed_odd, two_near}
use Rattle.fr_seen_runs.proofs.Schedule.{ahead}
use Rattle.fr_seen.proofs.SeenDoubles.{double_of_cycle}
use Rattle.fr_seen_runs.proofs.Starts.{IsNodeAt, double_off, later, length_off, longest, rows_kept, same_cycle, starts_near, starts_off}

-- how far a frame is off its place behind the start of its double cycle at most
abbrev pub place_off : Values → ℤ
place_off p = (pos 2 *ℤ length_off p) +ℤ longest p

-- what adds to what double cycles are off: by the starts of both nodes, the places of both frames, and their delays
abbrev pub rest_off : Values → ℤ → ℤ
rest_off p delays = (starts_off p +ℤ (pos 2 *ℤ place_off p)) +ℤ delays

-- a span that lies near the schedule, so many double cycles on, of so many cycles and macroticks
pub record IsNear (p : Values) (delays : ℤ) (q : ℕ) (c m span : ℤ) : Type 0 where
  pub near :
      IsWithin (p.macros *ℤ ((pos q *ℤ double_off p) +ℤ rest_off p delays))
      ((p.macros *ℤ span) -ℤ ahead (nominal_cycle p) p.macros c m)
  pub some : (((pos 2 *ℤ pos q) -ℤ pos 1) ≤ℤ c) ⊎ (((pos 2 *ℤ pos q) -ℤ pos 1) ≤ℤ neg_ℤ c)

-- the same the other way
pub mirrored : (w g c m : ℤ) → ahead w g (neg_ℤ c) (neg_ℤ m) ≡ neg_ℤ (ahead w g c m)
mirrored w g c m = ap (λ x. x *ℤ w) (sums (neg_ℤ c *ℤ g) (c *ℤ g) m (negz-mulz c g)) ∙ negz-mulz ((c *ℤ g) +ℤ m) w
  where
    sums : (a b m : ℤ) → a ≡ neg_ℤ b → a +ℤ neg_ℤ m ≡ neg_ℤ (b +ℤ m)
    sums a b m h = omega (arith, ints)

module _ (x : Setting) (h : Cycles) (base : ℕ) (timed : IsTimedRun x h) (whole : length h ≡ 2 * x.doubles) where
  -- a frame of a node that has its rows in the double cycle, and that lies near its place there
  record IsFramePlaced (sent : SentFrame) : Type 0 where
    spec : NodeSpec
    correct : Contains (correct_nodes x) spec
    at : IsNodeAt h spec.id (double_cycle_of sent.cycle)
    turn : ℤ
    turn_from : pos 0 ≤ℤ turn
    turn_to : turn ≤ℤ pos 1
    in_cycle : pos sent.cycle ≡ (pos 2 *ℤ pos (double_cycle_of sent.cycle)) +ℤ turn
    placed :
        IsPlaced (nominal_cycle x.params) x.params.macros (place_off x.params) turn (sent_macrotick x sent)
        (action_instant x.params sent.row sent.frame.slot -ℤ at.early.start)

  length_from : pos 0 ≤ℤ length_off x.params
  length_from = omega (arith, ints)

  -- the position of an action point in a row, in ticks behind its start
  module _ (sent : SentFrame) (is : IsSentIn x h base sent) where
    point : (row : NodeRow) → HasProperMicro x.params row → IsWithin (length_off x.params) (cycle_length_of x.params row -ℤ nominal_cycle x.params)
        → IsWithin (x.params.macros *ℤ (length_off x.params +ℤ longest x.params))
        ((x.params.macros *ℤ (even_position (grid_for x.params) row.rate (sent_macrotick x sent) *ℤ row.length)) -ℤ (sent_macrotick x sent *ℤ nominal_cycle x.params))
    point row proper long =
        let numbers = numbers_of x.params timed.sane in
        let action = is_action x.params sent.frame.slot timed.sane is.slot_from is.slot_to in
        let range = timed.sane.ranges name.xRateBound in
        macrotick_near (nominal_cycle x.params) x.params.macros (length_off x.params) (longest x.params) (sent_macrotick x sent) (x.params.micros +ℤ row.rate) row.length
        numbers.macros_some action.from (no_more (sent_macrotick x sent) x.params.macros action.less)
        (lasts (amount x.params name.xRateBound) row.length (few x.params.rate_bound (amount x.params name.xRateBound) (natural x.params.rate_bound range.0) range.1) proper.least) proper.most long
      where
        no_more : (a b : ℤ) → a <ℤ b → a ≤ℤ b
        no_more a b h = omega (arith, ints)

        few : (z : ℤ) (d : ℕ) → z ≡ pos d → z ≤ℤ pos 1_500 → d ≤ 1_500
        few z d a b = omega (arith, ints, a, b)

        lasts : (d : ℕ) (z : ℤ) → d ≤ 1_500 → pos (1_000_000 - d) ≤ℤ z → pos 0 <ℤ z
        lasts d z a b = omega (arith, ints, a, b)

    there : IsDoubleThere h (double_cycle_of sent.cycle)
    there = double_of_cycle h sent.cycle (double_cycle_of sent.cycle) x.doubles is.told whole is.has_cycle (itself (double_cycle_of sent.cycle))
      where
        itself : (k : ℕ) → k ≤ k
        itself k = omega arith

    -- its node
    even_placed : sent.cycle ≡ 2 * double_cycle_of sent.cycle → IsFramePlaced sent
    even_placed even =
        let same : is.told ≡ there.even = same_cycle is.told there.even (sym is.has_cycle ∙ ap (cycle_at h) even ∙ there.has.has_even) in
        let row : row_of there.even.told.rows sent.node ≡ Some sent.row = ap (λ (c : Cycle). row_of c.told.rows sent.node) (sym same) ∙ is.has_row in
        let cut = cut_at h (double_cycle_of sent.cycle) there.even there.odd there.has in
        let two = two_at x h (double_cycle_of sent.cycle) there.even there.odd timed there.has cut in
        let spec = row_at (row_nodes x cut.earlier) there.even.told.rows sent.node sent.row two.two.even_rows.nodes row in
        let ways = nodes_have_both_rows x h (double_cycle_of sent.cycle) there.even there.odd spec.spec.id timed there.has in
        let in_even : row_of there.even.told.rows spec.spec.id ≡ Some sent.row = ap (row_of there.even.told.rows) spec.id_is ∙ row in
        let at : IsNodeAt h spec.spec.id (double_cycle_of sent.cycle) =
        record {
          even = there.even;
          odd = there.odd;
          has = there.has;
          early = sent.row;
          late = row_for there.odd.told.rows spec.spec.id;
          in_even = in_even;
          in_odd = some_row there.odd.told.rows spec.spec.id (ways.0 (ap is_some in_even));
        } in
        let kept = rows_kept x h timed whole spec.spec.id (double_cycle_of sent.cycle) at in
        let numbers = numbers_of x.params timed.sane in
        let behind = even_position (grid_for x.params) sent.row.rate (sent_macrotick x sent) *ℤ sent.row.length in
        record {
          spec = spec.spec;
          correct = is_correct_row x cut.earlier spec.spec spec.among;
          at = at;
          turn = pos 0;
          turn_from = omega (arith, ints);
          turn_to = omega (arith, ints);
          in_cycle = counted sent.cycle (double_cycle_of sent.cycle) even;
          placed =
              subst (IsPlaced (nominal_cycle x.params) x.params.macros (place_off x.params) (pos 0) (sent_macrotick x sent)) (span sent.row.start behind)
              (placed_even (nominal_cycle x.params) x.params.macros (length_off x.params) (longest x.params) (sent_macrotick x sent) behind numbers.macros_some length_from
              (point sent.row kept.regular.even_micro kept.early_long));
        }
      where
        counted : (c k : ℕ) → c ≡ 2 * k → pos c ≡ (pos 2 *ℤ pos k) +ℤ pos 0
        counted c k is = omega (arith, ints, is)

        span : (s b : ℤ) → b ≡ (s +ℤ b) -ℤ s
        span s b = omega (arith, ints)

    odd_placed : sent.cycle ≡ suc (2 * double_cycle_of sent.cycle) → IsFramePlaced sent
    odd_placed odd =
        let same : is.told ≡ there.odd = same_cycle is.told there.odd (sym is.has_cycle ∙ ap (cycle_at h) odd ∙ there.has.has_odd) in
        let row : row_of there.odd.told.rows sent.node ≡ Some sent.row = ap (λ (c : Cycle). row_of c.told.rows sent.node) (sym same) ∙ is.has_row in
        let cut = cut_at h (double_cycle_of sent.cycle) there.even there.odd there.has in
        let two = two_at x h (double_cycle_of sent.cycle) there.even there.odd timed there.has cut in
        let spec = row_at (row_nodes x (there.even ∷ cut.earlier)) there.odd.told.rows sent.node sent.row two.odd_runs.rows.nodes row in
        let ways = nodes_have_both_rows x h (double_cycle_of sent.cycle) there.even there.odd spec.spec.id timed there.has in
        let in_odd : row_of there.odd.told.rows spec.spec.id ≡ Some sent.row = ap (row_of there.odd.told.rows) spec.id_is ∙ row in
        let early = row_for there.even.told.rows spec.spec.id in
        let at : IsNodeAt h spec.spec.id (double_cycle_of sent.cycle) =
        record {
          even = there.even;
          odd = there.odd;
          has = there.has;
          early = early;
          late = sent.row;
          in_even = some_row there.even.told.rows spec.spec.id (ways.1 (ap is_some in_odd));
          in_odd = in_odd;
        } in
        let kept = rows_kept x h timed whole spec.spec.id (double_cycle_of sent.cycle) at in
        let numbers = numbers_of x.params timed.sane in
        let behind = even_position (grid_for x.params) sent.row.rate (sent_macrotick x sent) *ℤ sent.row.length in
        record {
          spec = spec.spec;
          correct = is_correct_row x (there.even ∷ cut.earlier) spec.spec spec.among;
          at = at;
          turn = pos 1;
          turn_from = omega (arith, ints);
          turn_to = omega (arith, ints);
          in_cycle = counted sent.cycle (double_cycle_of sent.cycle) odd;
          placed =
              subst (IsPlaced (nominal_cycle x.params) x.params.macros (place_off x.params) (pos 1) (sent_macrotick x sent))
              (span early.start sent.row.start (cycle_length_of x.params early) behind kept.follows)
              (placed_odd (nominal_cycle x.params) x.params.macros (length_off x.params) (longest x.params) (sent_macrotick x sent) (cycle_length_of x.params early) behind numbers.macros_some
              kept.early_long (point sent.row kept.regular.odd_micro kept.late_long));
        }
      where
        counted : (c k : ℕ) → c ≡ suc (2 * k) → pos c ≡ (pos 2 *ℤ pos k) +ℤ pos 1
        counted c k is = omega (arith, ints, is)

        span : (s t l b : ℤ) → t ≡ s +ℤ l → l +ℤ b ≡ (t +ℤ b) -ℤ s
        span s t l b is = omega (arith, ints, is)

    frame_placed : IsFramePlaced sent
    frame_placed =
        elim (halves sent.cycle) [
          | inl even ↦ even_placed even
          | inr odd ↦ odd_placed odd
        ]
      where
        halves : (c : ℕ) → (c ≡ 2 * (c / 2)) ⊎ (c ≡ suc (2 * (c / 2)))
        halves c = grind arith

  -- ---- two frames

  -- the second of no earlier double cycle than the first
  ordered : (from : ℕ) (sent later_sent : SentFrame) (delays : ℤ) → IsNearFrom x h from → IsSentIn x h base sent → IsSentIn x h base later_sent → from ≤ double_cycle_of later_sent.cycle
      → double_cycle_of sent.cycle ≤ double_cycle_of later_sent.cycle → IsWithin delays (later_sent.delay -ℤ sent.delay)
      → (q : ℕ) × IsNear x.params delays q (later_sent.frame.number -ℤ sent.frame.number) (sent_macrotick x later_sent -ℤ sent_macrotick x sent) (arrives_at x later_sent -ℤ arrives_at x sent)
  ordered from sent later_sent delays near_from is later_is after le delayed =
      let p = x.params in
      let k = double_cycle_of sent.cycle in
      let k2 = double_cycle_of later_sent.cycle in
      let q = k2 - k in
      let one = frame_placed sent is in
      let two = frame_placed later_sent later_is in
      let less = within later_sent.cycle x.doubles (length h) whole (cycle_within h later_sent.cycle later_is.told later_is.has_cycle) in
      let on = later x h timed whole one.spec k q k2 one.correct one.at (apart k k2 le) less in
      let long = on.at.early.start -ℤ one.at.early.start in
      let gap = two.at.early.start -ℤ on.at.early.start in
      let behind = action_instant p sent.row sent.frame.slot -ℤ one.at.early.start in
      let behind2 = action_instant p later_sent.row later_sent.frame.slot -ℤ two.at.early.start in
      let more = later_sent.delay -ℤ sent.delay in
      let near =
      two_near (nominal_cycle p) p.macros (double_off p) (starts_off p) (place_off p) delays (pos q) one.turn (sent_macrotick x sent) two.turn (sent_macrotick x later_sent) behind behind2 long gap
      more (numbers_of p timed.sane).macros_some
      (record { first = one.placed; second = two.placed; on = on.near; starts = starts_near x h timed whole from one.spec.id two.spec.id k2 near_from on.at two.at after; delayed = delayed }) in
      let cycles : ((pos 2 *ℤ pos q) +ℤ two.turn) -ℤ one.turn ≡ later_sent.frame.number -ℤ sent.frame.number =
      numbered q k k2 base (pos sent.cycle) (pos later_sent.cycle) one.turn two.turn sent.frame.number later_sent.frame.number (apart k k2 le) one.in_cycle two.in_cycle is.numbered later_is.numbered in
      let span : (((long +ℤ gap) +ℤ behind2) -ℤ behind) +ℤ more ≡ arrives_at x later_sent -ℤ arrives_at x sent =
      spans on.at.early.start one.at.early.start two.at.early.start (action_instant p sent.row sent.frame.slot) (action_instant p later_sent.row later_sent.frame.slot) sent.delay later_sent.delay in
      let Near : ℤ → ℤ → Type 0 = λ c s. IsWithin (p.macros *ℤ ((pos q *ℤ double_off p) +ℤ rest_off p delays))
      ((p.macros *ℤ s) -ℤ ahead (nominal_cycle p) p.macros c (sent_macrotick x later_sent -ℤ sent_macrotick x sent)) in (
        q,
        record {
          near =
              subst (λ c. Near c (arrives_at x later_sent -ℤ arrives_at x sent)) cycles
              (subst (Near (((pos 2 *ℤ pos q) +ℤ two.turn) -ℤ one.turn)) span near);
          some = inl (some q one.turn two.turn (later_sent.frame.number -ℤ sent.frame.number) one.turn_to two.turn_from cycles);
        },
      )
    where
      within : (c d long : ℕ) → long ≡ 2 * d → c < long → c / 2 < d
      within c d long a b = omega (arith, a, b)

      apart : (a b : ℕ) → a ≤ b → b ≡ b - a + a
      apart a b le = omega (arith, le)

      numbered :
          (q k k2 b : ℕ) (c c2 t t2 n n2 : ℤ) → k2 ≡ q + k → c ≡ (pos 2 *ℤ pos k) +ℤ t → c2 ≡ (pos 2 *ℤ pos k2) +ℤ t2 → c ≡ n +ℤ pos b → c2 ≡ n2 +ℤ pos b
          → ((pos 2 *ℤ pos q) +ℤ t2) -ℤ t ≡ n2 -ℤ n
      numbered q k k2 b c c2 t t2 n n2 a e f g i = omega (arith, ints, a, e, f, g, i)

      spans : (o s r a a2 d d2 : ℤ) → ((((o -ℤ s) +ℤ (r -ℤ o)) +ℤ (a2 -ℤ r)) -ℤ (a -ℤ s)) +ℤ (d2 -ℤ d) ≡ (a2 +ℤ d2) -ℤ (a +ℤ d)
      spans o s r a a2 d d2 = omega (arith, ints)

      some : (q : ℕ) (t t2 c : ℤ) → t ≤ℤ pos 1 → pos 0 ≤ℤ t2 → ((pos 2 *ℤ pos q) +ℤ t2) -ℤ t ≡ c → ((pos 2 *ℤ pos q) -ℤ pos 1) ≤ℤ c
      some q t t2 c a b is = omega (arith, ints, a, b, is)

  -- any two
  pub frames_near : (from : ℕ) (sent other : SentFrame) (delays : ℤ) → IsNearFrom x h from → IsSentIn x h base sent → IsSentIn x h base other → from ≤ double_cycle_of sent.cycle → from ≤ double_cycle_of other.cycle
      → IsWithin delays (other.delay -ℤ sent.delay)
      → (q : ℕ) × IsNear x.params delays q (other.frame.number -ℤ sent.frame.number) (sent_macrotick x other -ℤ sent_macrotick x sent) (arrives_at x other -ℤ arrives_at x sent)
  frames_near from sent other delays near_from is other_is after other_after delayed =
      elim (either (double_cycle_of sent.cycle) (double_cycle_of other.cycle)) [
        | inl le ↦ ordered from sent other delays near_from is other_is other_after le delayed
        | inr le ↦
            let back = ordered from other sent delays near_from other_is is after le (turned delays other.delay sent.delay delayed) in
            let c = sent.frame.number -ℤ other.frame.number in
            let m = sent_macrotick x sent -ℤ sent_macrotick x other in
            let span = arrives_at x sent -ℤ arrives_at x other in
            let there : IsNear x.params delays back.0 (neg_ℤ c) (neg_ℤ m) (neg_ℤ span) = mirror delays back.0 c m span back.1 in
            let Near : ℤ → ℤ → ℤ → Type 0 = IsNear x.params delays back.0 in (
              back.0,
              subst (λ n. Near n (sent_macrotick x other -ℤ sent_macrotick x sent) (arrives_at x other -ℤ arrives_at x sent)) (swap sent.frame.number other.frame.number)
                  (subst (λ n. Near (neg_ℤ c) n (arrives_at x other -ℤ arrives_at x sent)) (swap (sent_macrotick x sent) (sent_macrotick x other))
                  (subst (Near (neg_ℤ c) (neg_ℤ m)) (swap (arrives_at x sent) (arrives_at x other)) there)),
            )
      ]
    where
      either : (a b : ℕ) → (a ≤ b) ⊎ (b ≤ a)
      either a b = grind arith

      turned : (d a b : ℤ) → IsWithin d (a -ℤ b) → IsWithin d (b -ℤ a)
      turned d a b near = record { low = low d a b near.high; high = high d a b near.low }
        where
          low : (d a b : ℤ) → (a -ℤ b) ≤ℤ d → neg_ℤ d ≤ℤ (b -ℤ a)
          low d a b h = omega (arith, ints)

          high : (d a b : ℤ) → neg_ℤ d ≤ℤ (a -ℤ b) → (b -ℤ a) ≤ℤ d
          high d a b h = omega (arith, ints)

      swap : (a b : ℤ) → neg_ℤ (a -ℤ b) ≡ b -ℤ a
      swap a b = omega (arith, ints)

      mirror : (delays : ℤ) (q : ℕ) (c m span : ℤ) → IsNear x.params delays q c m span → IsNear x.params delays q (neg_ℤ c) (neg_ℤ m) (neg_ℤ span)
      mirror delays q c m span near =
          record {
            near =
                by (x.params.macros *ℤ ((pos q *ℤ double_off x.params) +ℤ rest_off x.params delays)) (x.params.macros *ℤ span) (x.params.macros *ℤ neg_ℤ span)
                (ahead (nominal_cycle x.params) x.params.macros c m) (ahead (nominal_cycle x.params) x.params.macros (neg_ℤ c) (neg_ℤ m)) (mulz-negz x.params.macros span)
                (mirrored (nominal_cycle x.params) x.params.macros c m) near.near;
            some =
                elim near.some [
                  | inl ahead_some ↦ inr (twice (pos 2 *ℤ pos q) c ahead_some)
                  | inr behind_some ↦ inl behind_some
                ];
          }
        where
          twice : (a c : ℤ) → (a -ℤ pos 1) ≤ℤ c → (a -ℤ pos 1) ≤ℤ neg_ℤ (neg_ℤ c)
          twice a c h = omega (arith, ints)

          by : (b gs ns t nt : ℤ) → ns ≡ neg_ℤ gs → nt ≡ neg_ℤ t → IsWithin b (gs -ℤ t) → IsWithin b (ns -ℤ nt)
          by b gs ns t nt a e near = record { low = low b gs ns t nt a e near.high; high = high b gs ns t nt a e near.low }
            where
              low : (b gs ns t nt : ℤ) → ns ≡ neg_ℤ gs → nt ≡ neg_ℤ t → (gs -ℤ t) ≤ℤ b → neg_ℤ b ≤ℤ (ns -ℤ nt)
              low b gs ns t nt a e h = omega (arith, ints)

              high : (b gs ns t nt : ℤ) → ns ≡ neg_ℤ gs → nt ≡ neg_ℤ t → neg_ℤ b ≤ℤ (gs -ℤ t) → (ns -ℤ nt) ≤ℤ b
              high b gs ns t nt a e h = omega (arith, ints)
