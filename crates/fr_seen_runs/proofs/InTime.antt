-- The frames of a log that is read of a run whose nodes start near each other come in time, where the numbers suffice.
use Rattle.std.proofs.Common.{◌≡◌, ◌⊎◌, ℕ, ◌+◌, ◌*◌, ◌/◌, ◌==◌, ◌≤◌, Bool, true, false, Option, Some, None, ℤ, pos, List, [], ◌∷◌, All, map, lit≤, refl, ap, sym, ◌∙◌, subst, inl, inr, arith}
use Rattle.std.specs.Prelude.{◌+ℤ◌, ◌-ℤ◌, ◌*ℤ◌, ◌≤ℤ◌, ◌<ℤ◌, neg_ℤ, ◌&&◌, ◌||◌, not, is_some, nat_le, Contains, IfSome}
use Rattle.std.specs.List.{AllZip}
use Rattle.std.specs.Option.{option_map}
use Rattle.std.proofs.lemmas.Int.{ints, by_lt_z}
use Rattle.std.proofs.lemmas.List.Elements.{All-cons, All-contains, All-contains_itself, All-head, All-tail}
use Rattle.std.proofs.lemmas.List.Sums.{AllPass-from_list_all}
use Rattle.fr_base.specs.Within.{IsBetween, IsWithin, LieWithin}
use Rattle.fr_base.specs.declared.channel.Channel.{Channel}
use Rattle.fr_base.specs.declared.channel.Channel.TheVariants.{A, B}
use Rattle.fr_base.specs.declared.node_row.NodeRow.{NodeRow}
use Rattle.fr_midpoint.proofs.Products.{mulz-negz, mulz_assoc, mulz_comm}
use Rattle.fr_bound.specs.Bounds.{arrival_error, longest_micro, nominal}
use Rattle.fr_bound.specs.Checks.{left_of}
use Rattle.fr_bound.specs.SharpBounds.{last_action, near_by, odd_spread}
use Rattle.fr_cluster.specs.Questions.{has_channel, key_in, node_of}
use Rattle.fr_cluster.specs.Sane.{IsSane}
use Rattle.fr_cluster.specs.Setting.{Setting}
use Rattle.fr_cluster.specs.Values.{Values, amount}
use Rattle.fr_cluster.specs.declared.names.ParamName.TheVariants as name
use Rattle.fr_cluster.specs.declared.nodes.NodeSpec.{NodeSpec}
use Rattle.fr_cluster.proofs.Elements.{found}
use Rattle.fr_time.specs.Cycles.{double_cycle_of}
use Rattle.fr_history.specs.Cycles.{Cycle, Cycles}
use Rattle.fr_log.specs.View.{IsEntry, LogView, delay_limits_of, is_arbitrary_in, jitter_of, jitter_within}
use Rattle.fr_log.specs.declared.rows.DelayLimits.{DelayLimits}
use Rattle.fr_course.specs.Course.{breadth_of}
use Rattle.fr_course.specs.Numbering.{is_timely, longest_silence, nominal_cycle}
use Rattle.fr_course.specs.declared.stamps.Delays.{Delays}
use Rattle.fr_sightings.specs.Senders.{delays_by, delays_in, observer_of}
use Rattle.fr_sightings.specs.Sightings.{IsSighting, fate_of, sighting_in}
use Rattle.fr_sightings.specs.declared.sighting.Fate.{Fate}
use Rattle.fr_sightings.specs.declared.sighting.Fate.TheVariants as fate
use Rattle.fr_sightings.specs.declared.sighting.Sighting.{Sighting}
use Rattle.fr_sightings.proofs.Proper.{both, seen_follows}
use Rattle.fr_sightings.specs.Sure.{are_numbers_sure, is_node_sure, is_sure_on, is_sure_within, off_schedule}
use Rattle.fr_seen.specs.Clocks.{StraightClock}
use Rattle.fr_seen.specs.LogSeen.{IsToldOf, judged_in, judged_of}
use Rattle.fr_seen.specs.Observed.{IsSentIn, SentFrame, sent_macrotick, stamped_apart}
use Rattle.fr_seen.proofs.Doubles.{numbers_of}
use Rattle.fr_seen.proofs.ObservedLaws.{is_action}
use Rattle.fr_seen.proofs.SenderLaws.{all_given}
use Rattle.fr_seen.proofs.TermLaws.{product_some}
use Rattle.fr_seen.specs.Contradictions.{IsObservedRun}
use Rattle.fr_seen_runs.specs.InTime.{IsReadNear, JudgedIsNear, NearIsTimely, arrives_at}
use Rattle.fr_seen_runs.proofs.Frames.{frames_near, rest_off}
use Rattle.fr_seen_runs.proofs.Schedule.{AreSure, IsFineReading, comes_in_time, read_near}
use Rattle.fr_seen.proofs.SendersApart.{all_within, two_within}
use Rattle.fr_seen_runs.proofs.Starts.{double_off, same_cycle}

-- ---- the limits of the delays of what is judged

-- what a frame is off with a delay of so many ticks is no more than half a cycle
abbrev IsSureWith : Values → LogView → ℕ → Type 0
IsSureWith p l delay = 2 * off_schedule p l delay ≤ amount p name.pMicroPerCycle * nominal

-- a sighting has such limits
record HasSureLimits (p : Values) (l : LogView) (s : Sighting) : Type 0 where
  limits : DelayLimits
  limited : delay_limits_of l s.node s.channel ≡ Some limits
  sure : IsSureWith p l limits.high

sure_within : (p : Values) (l : LogView) (s : Sighting) (o : Option DelayLimits) → delay_limits_of l s.node s.channel ≡ o → is_sure_within p l o ≡ true → HasSureLimits p l s
sure_within p l s None is passes = absurd (cc passes)
sure_within p l s (Some limits) is passes =
    record { limits = limits; limited = is; sure = no_more (2 * off_schedule p l limits.high) (amount p name.pMicroPerCycle * nominal) passes }
  where
    no_more : (a b : ℕ) → nat_le a b ≡ true → a ≤ b
    no_more a b is = grind arith

module _ (p : Values) (l : LogView) (sane : IsSane p) (is_sure : are_numbers_sure p l ≡ true) where
  each_sure : (node : NodeSpec) → Contains p.nodes node → is_node_sure p l node ≡ true
  unfolding are_numbers_sure
  each_sure node there = All-contains (λ n. is_node_sure p l n ≡ true) p.nodes node (AllPass-from_list_all (is_node_sure p l) p.nodes is_sure) there

  -- of a node that sends sync frames and is not named arbitrary, on a channel that it has
  sure_on : (node : NodeSpec) (channel : Channel) → is_sure_on p l node A ≡ true → is_sure_on p l node B ≡ true → is_sure_on p l node channel ≡ true
  sure_on node A on_a on_b = on_a
  sure_on node B on_a on_b = on_b

  node_sure : (node : NodeSpec) (channel : Channel) → Contains p.nodes node → is_some node.key ≡ true → is_arbitrary_in l node.id ≡ false → has_channel (Some node) channel ≡ true
      → is_sure_within p l (delay_limits_of l node.id channel) ≡ true
  node_sure node channel there keyed correct on =
      let rest = synced (is_some node.key) (is_arbitrary_in l node.id) (is_sure_on p l node A && is_sure_on p l node B) keyed correct (each_sure node there) in
      let parts = both (is_sure_on p l node A) (is_sure_on p l node B) rest in
      passed (has_channel (Some node) channel) (is_sure_within p l (delay_limits_of l node.id channel)) on (sure_on node channel parts.0 parts.1)
    where
      synced : (k a rest : Bool) → k ≡ true → a ≡ false → (not (k && not a) || rest) ≡ true → rest ≡ true
      synced false a rest k_is a_is is = absurd (cc k_is)
      synced true true rest k_is a_is is = absurd (cc a_is)
      synced true false rest k_is a_is is = is

      passed : (on rest : Bool) → on ≡ true → (not on || rest) ≡ true → rest ≡ true
      passed false rest on_is is = absurd (cc on_is)
      passed true rest on_is is = is

  sighting_sure : (s : Sighting) → IsSighting p l s → HasSureLimits p l s
  sighting_sure s is = by (node_of p s.node) refl is.own is.on_channel
    where
      same : (a b : ℕ) → (a == b) ≡ true → a ≡ b
      same a b is = grind arith

      by : (o : Option NodeSpec) → node_of p s.node ≡ o → key_in o ≡ Some s.slot → has_channel o s.channel ≡ true → HasSureLimits p l s
      by None at own on = absurd (cc on)
      by (Some node) at own on =
          let here = found (λ (n : NodeSpec). n.id == s.node) p.nodes node at in
          let id : node.id ≡ s.node = same node.id s.node here.0 in
          let passes = node_sure node s.channel here.1 (ap is_some own) (ap (is_arbitrary_in l) id ∙ is.correct) on in
          sure_within p l s (delay_limits_of l s.node s.channel) refl (subst (λ n. is_sure_within p l (delay_limits_of l n s.channel) ≡ true) id passes)

  -- so is all that is judged
  seen_from : (f : Fate) (s : Sighting) → sighting_in f ≡ Some s → f ≡ fate.Seen s
  seen_from fate.Damaged s is = absurd (cc is)
  seen_from fate.Arbitrary s is = absurd (cc is)
  seen_from fate.Other s is = absurd (cc is)
  seen_from (fate.Irregular frame) s is = absurd (cc is)
  seen_from (fate.Untimely frame) s is = absurd (cc is)
  seen_from fate.Stray s is = absurd (cc is)
  seen_from fate.Behind s is = absurd (cc is)
  seen_from (fate.Seen t) s is = let same : t ≡ s = cc is in ap fate.Seen same

-- ---- a log that is read of a run that is near

module _
    (x : Setting) (h : Cycles) (base : ℕ) (delays : ℕ → Channel → Delays) (clock : ℕ → StraightClock) (l : LogView) (from : ℕ)
    (r : IsReadNear x h base delays clock l from) (is_sure : are_numbers_sure x.params l ≡ true)
  where
    abbrev Log : List SentFrame
    Log = r.run.read.sent

    sane : IsSane x.params
    sane = r.run.timed.sane

    judged_sure : All (HasSureLimits x.params l) (judged_of x.params l)
    unfolding judged_of
    judged_sure =
        all_given (judged_in x.params l) (HasSureLimits x.params l) l.entries
        (λ e there s given.
        let follows =
        seen_follows x.params l None e s sane (All-contains (IsEntry l.unit) l.entries e r.run.log.entries there)
        (seen_from x.params l sane is_sure (fate_of x.params l None e) s given) in
        sighting_sure x.params l sane is_sure s follows.proper)

    -- a frame's delay
    record HasDelay (sent : SentFrame) : Type 0 where
      high : ℕ
      delay_from : pos 0 ≤ℤ sent.delay
      delay_to : sent.delay ≤ℤ pos high
      sure : IsSureWith x.params l high

    delay_by : (s : Sighting) (sent : SentFrame) → HasSureLimits x.params l s → IsToldOf s sent → Contains Log sent → HasDelay sent
    unfolding delays_in jitter_of
    delay_by s sent limits told there =
        let stamped = r.run.read.read.read sent (double_cycle_of sent.cycle) there (inl refl) in
        let at : delay_limits_of l sent.node sent.frame.channel ≡ Some limits.limits =
        ap (λ n. delay_limits_of l n sent.frame.channel) told.by_node ∙ ap (delay_limits_of l s.node) told.channel ∙ limits.limited in
        let given = r.run.read.limits sent.node sent.frame.channel in
        let known : Delays = record { least = limits.limits.low; most = limits.limits.high; jitter = jitter_within l.jitter limits.limits } in
        let limited : delays_in l sent.node sent.frame.channel ≡ Some known = ap (λ o. delays_by o (option_map (jitter_within l.jitter) o)) at in
        let is : delays sent.node sent.frame.channel ≡ known = subst (λ o. IfSome o (λ d. delays sent.node sent.frame.channel ≡ d)) limited given in
        record {
          high = limits.limits.high;
          delay_from = from_least (delays sent.node sent.frame.channel).least sent.delay stamped.within.low;
          delay_to = subst (λ d. sent.delay ≤ℤ pos d) (ap (λ (d : Delays). d.most) is) stamped.within.high;
          sure = limits.sure;
        }
      where
        from_least : (n : ℕ) (z : ℤ) → pos n ≤ℤ z → pos 0 ≤ℤ z
        from_least n z h = omega (arith, ints)

    all_delays : (judged : List Sighting) (sent : List SentFrame) → All (HasSureLimits x.params l) judged → AllZip IsToldOf judged sent → All (Contains Log) sent → All HasDelay sent
    all_delays [] [] sure told there = λ i d within. absurd (omega (arith, within))
    all_delays [] (f ∷ sent) sure told there = absurd told
    all_delays (s ∷ judged) [] sure told there = absurd told
    all_delays (s ∷ judged) (f ∷ sent) sure told there =
        All-cons HasDelay f sent (delay_by s f (All-head (HasSureLimits x.params l) s judged sure) told.0 (All-head (Contains Log) f sent there))
        (all_delays judged sent (All-tail (HasSureLimits x.params l) s judged sure) told.1 (All-tail (Contains Log) f sent there))

    delay_of : (sent : SentFrame) → Contains Log sent → HasDelay sent
    delay_of sent there = All-contains HasDelay Log sent (all_delays (judged_of x.params l) Log judged_sure r.run.read.told (All-contains_itself Log)) there

    -- two delays differ by no more than the greater limit of both
    record HasDelays (sent later : SentFrame) : Type 0 where
      most : ℕ
      within : IsWithin (pos most) (later.delay -ℤ sent.delay)
      sure : IsSureWith x.params l most

    delays_of : (sent later : SentFrame) → Contains Log sent → Contains Log later → HasDelays sent later
    delays_of sent later here there =
        let one = delay_of sent here in
        let two = delay_of later there in
        elim (either one.high two.high) [
          | inl le ↦
              record {
                most = two.high;
                within = near one.high two.high two.high sent.delay later.delay le (itself two.high) one.delay_from one.delay_to two.delay_from two.delay_to;
                sure = two.sure;
              }
          | inr le ↦
              record {
                most = one.high;
                within = near one.high two.high one.high sent.delay later.delay (itself one.high) le one.delay_from one.delay_to two.delay_from two.delay_to;
                sure = one.sure;
              }
        ]
      where
        either : (a b : ℕ) → (a ≤ b) ⊎ (b ≤ a)
        either a b = grind arith

        itself : (a : ℕ) → a ≤ a
        itself a = omega arith

        near : (a b m : ℕ) (d e : ℤ) → a ≤ m → b ≤ m → pos 0 ≤ℤ d → d ≤ℤ pos a → pos 0 ≤ℤ e → e ≤ℤ pos b → IsWithin (pos m) (e -ℤ d)
        near a b m d e h k i j u v = record { low = omega (arith, ints, h, k, i, j, u, v); high = omega (arith, ints, h, k, i, j, u, v) }

    -- ---- what the observer reads

    abbrev Drift : ℤ
    Drift = pos (amount x.params name.pMicroPerCycle * l.drift)

    abbrev Breadth : ℤ
    Breadth = breadth_of (observer_of l)

    cycle_some : pos 0 <ℤ nominal_cycle x.params
    cycle_some =
        let range = sane.ranges name.pMicroPerCycle in
        let micros : pos 0 <ℤ pos (amount x.params name.pMicroPerCycle) = omega (arith, ints, range.0) in
        product_some (pos (amount x.params name.pMicroPerCycle)) (pos nominal) micros (omega (arith, ints))

    -- the numbers in terms of whole numbers
    module _ (most : ℕ) (sure : IsSureWith x.params l most) where
      -- how far off the length of a cycle is at most
      abbrev Off : ℕ
      Off = amount x.params name.pRateCorrectionOut * longest_micro x.params + amount x.params name.pMicroPerCycle * amount x.params name.xRateBound

      fine : IsFineReading (nominal_cycle x.params) (pos l.drift) Drift Breadth
      fine =
          record {
            cycle_some = cycle_some;
            drift_from = not_below l.drift;
            drift_to = to l.drift r.run.log.drift.to;
            drifts = turned (amount x.params name.pMicroPerCycle) l.drift;
            breadth_to =
                less Off (amount x.params name.pOffsetCorrectionOut * longest_micro x.params) (longest_micro x.params) most
                (amount x.params name.pMicroPerCycle * l.drift) (l.unit + l.error) (left_of 3 x.params) (amount x.params name.pMicroPerCycle * nominal) (nominal_cycle x.params)
                (product (amount x.params name.pMicroPerCycle) nominal) sure;
          }
        where
          not_below : (n : ℕ) → pos 0 ≤ℤ pos n
          not_below n = omega (arith, ints)

          product_of : (a b : ℕ) → pos a *ℤ pos b ≡ pos (b * a)
          product_of a b = omega (arith, ints)

          to : (n : ℕ) → n ≤ 1000 → pos n ≤ℤ pos 1000
          to n h = omega (arith, ints, h)

          turned : (n d : ℕ) → pos d *ℤ (pos n *ℤ pos 1_000_000) ≡ pos 1_000_000 *ℤ pos (n * d)
          turned n d =
              sym (mulz_assoc (pos d) (pos n) (pos 1_000_000)) ∙ mulz_comm (pos d *ℤ pos n) (pos 1_000_000)
              ∙ ap (λ z. pos 1_000_000 *ℤ z) (product_of d n)

          product : (a b : ℕ) → pos a *ℤ pos b ≡ pos (a * b)
          product a b = omega (arith, ints)

          less : (d o q m v b s w : ℕ) (z : ℤ) → z ≡ pos w → 2 * (((36 * d + 16 * o) + 2 * q) + m + (31 * v + b) + s) ≤ w → (pos 2 *ℤ pos b) ≤ℤ z
          less d o q m v b s w z is h = omega (arith, ints, is, h)

      all_sure : AreSure (nominal_cycle x.params) x.params.macros (double_off x.params) (rest_off x.params (pos most) +ℤ ((pos 31 *ℤ Drift) +ℤ Breadth))
      all_sure =
          record {
            cycle_some = cycle_some;
            macros_some = (numbers_of x.params sane).macros_some;
            double_from = doubles Off (amount x.params name.pOffsetCorrectionOut * longest_micro x.params);
            rest_from =
                rests (left_of 3 x.params) Off (longest_micro x.params) most (amount x.params name.pMicroPerCycle * l.drift)
                (l.unit + l.error);
            sure =
                all Off (amount x.params name.pOffsetCorrectionOut * longest_micro x.params) (longest_micro x.params) most
                (amount x.params name.pMicroPerCycle * l.drift) (l.unit + l.error) (left_of 3 x.params) (amount x.params name.pMicroPerCycle * nominal) (nominal_cycle x.params)
                (product (amount x.params name.pMicroPerCycle) nominal) sure;
          }
        where
          product : (a b : ℕ) → pos a *ℤ pos b ≡ pos (a * b)
          product a b = omega (arith, ints)

          doubles : (d o : ℕ) → pos 0 ≤ℤ ((pos 2 *ℤ pos d) +ℤ pos o)
          doubles d o = omega (arith, ints)

          rests : (s d q m v b : ℕ) → pos 0 ≤ℤ (((pos s +ℤ (pos 2 *ℤ ((pos 2 *ℤ pos d) +ℤ pos q))) +ℤ pos m) +ℤ ((pos 31 *ℤ pos v) +ℤ pos b))
          rests s d q m v b = omega (arith, ints)

          all :
              (d o q m v b s w : ℕ) (z : ℤ) → z ≡ pos w → 2 * (((36 * d + 16 * o) + 2 * q) + m + (31 * v + b) + s) ≤ w
              → (pos 2 *ℤ ((pos 16 *ℤ ((pos 2 *ℤ pos d) +ℤ pos o)) +ℤ (((pos s +ℤ (pos 2 *ℤ ((pos 2 *ℤ pos d) +ℤ pos q))) +ℤ pos m) +ℤ ((pos 31 *ℤ pos v) +ℤ pos b)))) ≤ℤ z
          all d o q m v b s w z is h = omega (arith, ints, is, h)

      read_from : pos 0 ≤ℤ ((pos 31 *ℤ Drift) +ℤ Breadth)
      read_from = not_below (amount x.params name.pMicroPerCycle * l.drift) (l.unit + l.error)
        where
          not_below : (v b : ℕ) → pos 0 ≤ℤ ((pos 31 *ℤ pos v) +ℤ pos b)
          not_below v b = omega (arith, ints)

      -- what lies between two arrivals, in either order
      record IsReadSpan (sent later : SentFrame) : Type 0 where
        span_from : neg_ℤ (pos 31 *ℤ nominal_cycle x.params) ≤ℤ (arrives_at x later -ℤ arrives_at x sent)
        span_to : (arrives_at x later -ℤ arrives_at x sent) ≤ℤ (pos 31 *ℤ nominal_cycle x.params)
        read :
            IsWithin ((pos 31 *ℤ Drift) +ℤ Breadth)
            (stamped_apart (observer_of l) sent later -ℤ (arrives_at x later -ℤ arrives_at x sent))

      span_read : (sent later : SentFrame) → Contains Log sent → Contains Log later → IsBetween (pos 0) (longest_silence x.params) (stamped_apart (observer_of l) sent later)
          → IsReadSpan sent later
      span_read sent later here there silent =
          elim (either (arrives_at x sent) (arrives_at x later)) [
            | inl le ↦
                let near =
                read_near (nominal_cycle x.params) (pos l.drift) Drift Breadth (arrives_at x later -ℤ arrives_at x sent) (stamped_apart (observer_of l) sent later) fine
                (ahead_from (arrives_at x sent) (arrives_at x later) le) silent.high
                (record { low = (r.run.read.read.keeps_drift sent later here there le).low; high = (r.run.read.read.keeps_drift sent later here there le).high }) in
                record {
                  span_from = low (nominal_cycle x.params) (arrives_at x sent) (arrives_at x later) cycle_some le;
                  span_to = near.late;
                  read = near.near;
                }
            | inr le ↦
                let near =
                read_near (nominal_cycle x.params) (pos l.drift) Drift Breadth (arrives_at x sent -ℤ arrives_at x later) (stamped_apart (observer_of l) later sent) fine
                (ahead_from (arrives_at x later) (arrives_at x sent) le) (back (pos l.unit) sent.frame.stamp later.frame.stamp (nominal_cycle x.params) cycle_some silent.low)
                (record { low = (r.run.read.read.keeps_drift later sent there here le).low; high = (r.run.read.read.keeps_drift later sent there here le).high }) in
                record {
                  span_from = turned (pos 31 *ℤ nominal_cycle x.params) (arrives_at x sent) (arrives_at x later) near.late;
                  span_to = high (nominal_cycle x.params) (arrives_at x sent) (arrives_at x later) cycle_some le;
                  read =
                      other ((pos 31 *ℤ Drift) +ℤ Breadth) (stamped_apart (observer_of l) sent later) (stamped_apart (observer_of l) later sent) (arrives_at x sent) (arrives_at x later)
                      (opposite (pos l.unit) sent.frame.stamp later.frame.stamp) near.near;
                }
          ]
        where
          either : (a b : ℤ) → (a ≤ℤ b) ⊎ (b ≤ℤ a)
          either a b = by_lt_z b a (λ less. inr (weaker b a less)) (λ le. inl le)
            where
              weaker : (a b : ℤ) → a <ℤ b → a ≤ℤ b
              weaker a b h = omega (arith, ints)

          ahead_from : (a b : ℤ) → a ≤ℤ b → pos 0 ≤ℤ (b -ℤ a)
          ahead_from a b h = omega (arith, ints)

          low : (w a b : ℤ) → pos 0 <ℤ w → a ≤ℤ b → neg_ℤ (pos 31 *ℤ w) ≤ℤ (b -ℤ a)
          low w a b h k = omega (arith, ints)

          high : (w a b : ℤ) → pos 0 <ℤ w → b ≤ℤ a → (b -ℤ a) ≤ℤ (pos 31 *ℤ w)
          high w a b h k = omega (arith, ints)

          turned : (w a b : ℤ) → (a -ℤ b) ≤ℤ w → neg_ℤ w ≤ℤ (b -ℤ a)
          turned w a b h = omega (arith, ints)

          opposite : (k a b : ℤ) → k *ℤ (a -ℤ b) ≡ neg_ℤ (k *ℤ (b -ℤ a))
          opposite k a b = ap (λ n. k *ℤ n) (swap a b) ∙ mulz-negz k (b -ℤ a)
            where
              swap : (a b : ℤ) → a -ℤ b ≡ neg_ℤ (b -ℤ a)
              swap a b = omega (arith, ints)

          back : (k a b w : ℤ) → pos 0 <ℤ w → pos 0 ≤ℤ (k *ℤ (b -ℤ a)) → (k *ℤ (a -ℤ b)) ≤ℤ (pos 30 *ℤ w)
          back k a b w some from = below (k *ℤ (a -ℤ b)) (k *ℤ (b -ℤ a)) w (opposite k a b) some from
            where
              below : (n m w : ℤ) → n ≡ neg_ℤ m → pos 0 <ℤ w → pos 0 ≤ℤ m → n ≤ℤ (pos 30 *ℤ w)
              below n m w is h k = omega (arith, ints)

          other : (s y z a b : ℤ) → z ≡ neg_ℤ y → IsWithin s (z -ℤ (a -ℤ b)) → IsWithin s (y -ℤ (b -ℤ a))
          other s y z a b is near = record { low = other_low s y z a b is near.high; high = other_high s y z a b is near.low }
            where
              other_low : (s y z a b : ℤ) → z ≡ neg_ℤ y → (z -ℤ (a -ℤ b)) ≤ℤ s → neg_ℤ s ≤ℤ (y -ℤ (b -ℤ a))
              other_low s y z a b is h = omega (arith, ints)

              other_high : (s y z a b : ℤ) → z ≡ neg_ℤ y → neg_ℤ s ≤ℤ (z -ℤ (a -ℤ b)) → (y -ℤ (b -ℤ a)) ≤ℤ s
              other_high s y z a b is h = omega (arith, ints)

    timely : (frame later : SentFrame) → Contains Log frame → Contains Log later
        → IsBetween (pos 0) (longest_silence x.params) (stamped_apart (observer_of l) frame later)
        → is_timely x.params (stamped_apart (observer_of l) frame later) (later.frame.number -ℤ frame.frame.number) (sent_macrotick x later -ℤ sent_macrotick x frame) ≡ true
    timely frame later here there silent =
        let p = x.params in
        let Behind : SentFrame → Type 0 = λ sent. from ≤ double_cycle_of sent.cycle in
        let one = All-contains (IsSentIn x h base) Log frame r.run.read.read.sent here in
        let two = All-contains (IsSentIn x h base) Log later r.run.read.read.sent there in
        let limits = delays_of frame later here there in
        let near =
        frames_near x h base r.run.timed r.run.whole from frame later (pos limits.most) r.near one two (All-contains Behind Log frame r.behind here)
        (All-contains Behind Log later r.behind there) limits.within in
        let span = span_read limits.most limits.sure frame later here there silent in
        let first = is_action p frame.frame.slot sane one.slot_from one.slot_to in
        let second = is_action p later.frame.slot sane two.slot_from two.slot_to in
        comes_in_time (nominal_cycle p) p.macros (double_off p) (rest_off p (pos limits.most)) ((pos 31 *ℤ Drift) +ℤ Breadth) (pos near.0) (later.frame.number -ℤ frame.frame.number)
        (sent_macrotick x later -ℤ sent_macrotick x frame) (arrives_at x later -ℤ arrives_at x frame) (stamped_apart (observer_of l) frame later) (all_sure limits.most limits.sure)
        (read_from limits.most limits.sure)
        (
        record {
          from = above (sent_macrotick x frame) (sent_macrotick x later) p.macros first.less second.from;
          to = below (sent_macrotick x frame) (sent_macrotick x later) p.macros first.from second.less;
          near = near.1.near;
          some = near.1.some;
          span_from = span.span_from;
          span_to = span.span_to;
          read = span.read;
        }
        )
      where
        above : (a b g : ℤ) → a <ℤ g → pos 0 ≤ℤ b → neg_ℤ g <ℤ (b -ℤ a)
        above a b g h k = omega (arith, ints)

        below : (a b g : ℤ) → pos 0 ≤ℤ a → b <ℤ g → (b -ℤ a) <ℤ g
        below a b g h k = omega (arith, ints)

    pub observed : IsObservedRun x h base delays clock l
    observed =
        let read = r.run.read in
        record {
          timed = r.run.timed;
          whole = r.run.whole;
          log = r.run.log;
          seen =
              record {
                sent = read.sent;
                seen =
                    record {
                      whole_base = read.read.whole_base;
                      within_drift = read.read.within_drift;
                      sent = read.read.sent;
                      read = read.read.read;
                      jitter = read.read.jitter;
                      once = read.read.once;
                      timely = timely;
                    };
                told = read.told;
                limits = read.limits;
                first = read.first;
              };
        }

pub near_is_timely : NearIsTimely
near_is_timely x h base delays clock l from r is_sure = observed x h base delays clock l from r is_sure

-- ---- what is judged

-- starts lie no further apart than action points, for which the offset limit suffices
pub judged_is_near : JudgedIsNear
judged_is_near x flutter h double known even odd is judged has =
    let p = x.params in
    let starts = known.spread.starts in
    let same : is.even ≡ even = same_cycle is.even even (sym is.has_even ∙ has.has_even) in
    let near : LieWithin (pos starts) (map (λ (row : NodeRow). row.start) even.told.rows) =
    subst (λ (c : Cycle). LieWithin (pos starts) (map (λ (row : NodeRow). row.start) c.told.rows)) same is.rows.starts_lie in
    let third : (near_by p starts known.spread.lengths + arrival_error p) + longest_micro p ≤ left_of 3 p =
    no_more ((near_by p starts known.spread.lengths + arrival_error p) + longest_micro p) (left_of 3 p) (judged.checks 3 (lit≤ tt) (lit≤ tt)) in
    let less : starts ≤ left_of 3 p =
    first starts known.spread.lengths (last_action p * odd_spread p known.spread.lengths / amount p name.gMacroPerCycle) (longest_micro p) (arrival_error p) (left_of 3 p) third in
    all_within (pos (left_of 3 p)) (λ (row : NodeRow). row.start) even.told.rows
    (λ a b here there. wider starts (left_of 3 p) (a.start -ℤ b.start) less (two_within (pos starts) (λ (row : NodeRow). row.start) even.told.rows a b near here there))
  where
    no_more : (a b : ℕ) → nat_le a b ≡ true → a ≤ b
    no_more a b is = grind arith

    first : (s l a m e n : ℕ) → ((((s + l) + a) + m) + e) + m ≤ n → s ≤ n
    first s l a m e n le = omega (arith, le)

    wider : (s n : ℕ) (z : ℤ) → s ≤ n → z ≤ℤ pos s → z ≤ℤ pos n
    wider s n z le near = omega (arith, ints, le, near)
