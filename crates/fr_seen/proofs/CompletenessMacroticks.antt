-- The rows of cycles in which a macrotick of sharp senders comes far apart say over.
use Rattle.std.proofs.Common.{◌≡◌, ◌⊎◌, ℕ, Bool, true, false, ℤ, pos, List, refl, ap, sym, ◌∙◌, inl, inr, arith}
use Rattle.std.specs.Prelude.{◌+ℤ◌, ◌-ℤ◌, ◌*ℤ◌, ◌≤ℤ◌, ◌<ℤ◌, int_lt, if◌then◌else◌, Contains}
use Rattle.std.specs.Int.{int_max}
use Rattle.std.proofs.lemmas.Int.{ints}
use Rattle.std.proofs.lemmas.List.Elements.{All-contains}
use Rattle.fr_base.specs.declared.channel.Channel.{Channel}
use Rattle.fr_base.specs.declared.node_row.NodeRow.{NodeRow}
use Rattle.fr_bound.specs.Bounds.{longest_micro, nominal}
use Rattle.fr_bound.specs.Sync.{cycle_length_of}
use Rattle.fr_cluster.specs.Sane.{IsSane}
use Rattle.fr_cluster.specs.Setting.{Setting}
use Rattle.fr_cluster.specs.Values.{Values}
use Rattle.fr_midpoint.proofs.Products.{lez_of_mulz-lez, mulz-addz, mulz-lez, mulz-lez_left, mulz-subz, mulz_assoc, mulz_comm}
use Rattle.fr_time.specs.Instant.{instant_of}
use Rattle.fr_time.specs.Position.{grid_for}
use Rattle.fr_time.proofs.Lines.{OnLine}
use Rattle.fr_time.proofs.Placing.{is_grid_lem}
use Rattle.fr_history.specs.Cycles.{Cycle, Cycles}
use Rattle.fr_history.specs.History.{row_for}
use Rattle.fr_precision.specs.Placement.{IsRegular}
use Rattle.fr_precision.proofs.InstantLaws.{early_on_line, even_on_line, odd_start_is}
use Rattle.fr_runs.specs.Numbers.{HasDouble}
use Rattle.fr_log.specs.View.{LogView}
use Rattle.fr_course.specs.Course.{even_start, odd_start, odd_turn}
use Rattle.fr_course.specs.Readings.{fast_million, reading_scale, slow_million}
use Rattle.fr_course.specs.Spread.{least_at}
use Rattle.fr_course.specs.Scales.{Scale}
use Rattle.fr_course.specs.declared.stamps.Delays.{Delays}
use Rattle.fr_observe.specs.Observing.{courses_of, odd_high, odd_low}
use Rattle.fr_observe.specs.declared.says.Says.TheVariants.{Over}
use Rattle.fr_sightings.specs.declared.sender.Sender.{Sender}
use Rattle.fr_seen.specs.Clocks.{reading_at, reading_of, IsWithinDrift, StraightClock}
use Rattle.fr_seen.specs.LogSeen.{IsSenderOn, log_senders, run_double}
use Rattle.fr_seen.proofs.CornerLaws.{lasts_of, line_reads, HasLine}
use Rattle.fr_seen.proofs.Doubles.{numbers_of}
use Rattle.fr_seen.proofs.Pairs.{max_left, max_right}
use Rattle.fr_seen.proofs.SkewLaws.{at_end, lines_apart}
use Rattle.fr_seen.specs.Completeness.{CornersAreTold, MacroticksAreTold, FarMacroticksAreTold, HasNarrowCorners, HasTwoSharp, IsBeyond, IsNoWider, OddSays, behind_by, starting_in}
use Rattle.fr_seen.specs.Contradictions.{IsObservedRun}
use Rattle.fr_seen.proofs.CompletenessOver.{above_by, all_on, behind, corners_of, drifts, far_senders_are_told, micro_some, over_is, point_order, read_order, spread_reached, trans}
use Rattle.fr_seen.proofs.CompletenessSenders.{sharp_corners}
use Rattle.fr_seen.proofs.CompletenessTicks.{ends_apart, slow_some}

no_less : (a : ℤ) → pos 0 <ℤ a → pos 0 ≤ℤ a
no_less a h = omega (arith, ints)

itself : (a : ℤ) → a ≤ℤ a
itself a = omega (arith, ints)

natural : (n : ℕ) → pos 0 ≤ℤ pos n
natural n = omega (arith, ints)

-- what is no more than the greater of two numbers is no more than one of them
pub either : (a b c : ℤ) → c ≤ℤ int_max a b → (c ≤ℤ a) ⊎ (c ≤ℤ b)
either a b c le = by (int_lt b a) refl le
  where
    by : (first : Bool) → int_lt b a ≡ first → c ≤ℤ (if first then a else b) → (c ≤ℤ a) ⊎ (c ≤ℤ b)
    by true is le = inl le
    by false is le = inr le

-- ---- macroticks between corners, in ticks and in parts of a tick

-- a clock that counts so many in a tick
abbrev pub counting : ℤ → StraightClock
counting parts = record { ticks = pos 1; counts = parts; zero = pos 0 }

module _ (p : Values) (sane : IsSane p) where
  g_some : pos 0 <ℤ p.macros
  g_some = (numbers_of p sane).macros_some

  counted_line : (parts start length unit macrotick at : ℤ) → pos 0 ≤ℤ parts → OnLine start length unit macrotick p.macros (pos (longest_micro p)) at
      → HasLine (counting parts) p.macros (parts *ℤ pos (longest_micro p)) macrotick (reading_at (counting parts) start) (reading_of (counting parts) length) (reading_at (counting parts) at)
  counted_line parts start length unit macrotick at from line =
      line_reads (counting parts) p.macros (parts *ℤ pos (longest_micro p)) macrotick start length unit (pos (longest_micro p)) at (no_less p.macros g_some) from (natural (longest_micro p))
      (one (parts *ℤ pos (longest_micro p))) line
    where
      one : (a : ℤ) → a ≤ℤ (pos 1 *ℤ a)
      one a = omega (arith, ints)

  module _ (a_even a_odd b_even b_odd : NodeRow) (a_is : IsRegular p a_even a_odd) (b_is : IsRegular p b_even b_odd) (macrotick : ℤ) (from : pos 0 ≤ℤ macrotick) where
    abbrev at_even : NodeRow → ℤ
    at_even row = instant_of (grid_for p) row false macrotick

    abbrev at_odd : NodeRow → ℤ
    at_odd row = instant_of (grid_for p) row true macrotick

    -- of the even cycle: no further apart than at one of both starts, but for a microtick
    pub even_between : macrotick ≤ℤ p.macros
        → (((instant_of (grid_for p) a_even false macrotick -ℤ instant_of (grid_for p) b_even false macrotick) -ℤ pos (longest_micro p)) ≤ℤ (a_even.start -ℤ b_even.start))
        ⊎ (((instant_of (grid_for p) a_even false macrotick -ℤ instant_of (grid_for p) b_even false macrotick) -ℤ pos (longest_micro p)) ≤ℤ (a_odd.start -ℤ b_odd.start))
    even_between to =
        let one = counting (pos 1) in
        let most = pos 1 *ℤ pos (longest_micro p) in
        let early = a_even.start -ℤ b_even.start in
        let late = a_odd.start -ℤ b_odd.start in
        let bound = int_max early late in
        let s = λ (row : NodeRow). reading_at one row.start in
        let l = λ (row : NodeRow). reading_of one (cycle_length_of p row) in
        either early late ((at_even a_even -ℤ at_even b_even) -ℤ pos (longest_micro p))
        (less (at_even a_even) (at_even b_even) bound (pos (longest_micro p))
        (lines_apart one p.macros most p.macros macrotick bound (s a_even) (l a_even) (reading_at one (at_even a_even)) (s b_even) (l b_even) (reading_at one (at_even b_even)) g_some g_some from to
        (counted_line (pos 1) a_even.start (cycle_length_of p a_even) a_even.length macrotick (at_even a_even) (natural 1) (even_on_line p a_even macrotick sane (lasts_of p a_even (numbers_of p sane).shortest_from a_is.even_micro)))
        (counted_line (pos 1) b_even.start (cycle_length_of p b_even) b_even.length macrotick (at_even b_even) (natural 1) (even_on_line p b_even macrotick sane (lasts_of p b_even (numbers_of p sane).shortest_from b_is.even_micro)))
        (read a_even.start b_even.start bound (max_left early late))
        (at_end p.macros (s a_even) (l a_even) (s a_odd) (s b_even) (l b_even) (s b_odd) bound (pos 1) (no_less p.macros g_some)
        (follows a_even.start (cycle_length_of p a_even) a_odd.start (odd_start_is p a_even a_odd a_is.double)) (follows b_even.start (cycle_length_of p b_even) b_odd.start (odd_start_is p b_even b_odd b_is.double))
        (read a_odd.start b_odd.start bound (max_right early late)))))
      where
        read : (a b m : ℤ) → (a -ℤ b) ≤ℤ m → (((pos 1 *ℤ a) +ℤ pos 0) -ℤ ((pos 1 *ℤ b) +ℤ pos 0)) ≤ℤ (pos 1 *ℤ m)
        read a b m h = omega (arith, ints)

        follows : (s l t : ℤ) → t ≡ s +ℤ l → (pos 1 *ℤ t) +ℤ pos 0 ≡ ((pos 1 *ℤ s) +ℤ pos 0) +ℤ (pos 1 *ℤ l)
        follows s l t h = omega (arith, ints)

        less : (a b m u : ℤ) → (((pos 1 *ℤ a) +ℤ pos 0) -ℤ ((pos 1 *ℤ b) +ℤ pos 0)) ≤ℤ (pos 1 *ℤ (m +ℤ (pos 1 *ℤ u))) → ((a -ℤ b) -ℤ u) ≤ℤ m
        less a b m u h = omega (arith, ints)

    -- the point of the odd cycle at which an offset correction would start, in parts of a tick
    abbrev point : NodeRow → ℤ
    point row = (p.macros *ℤ row.start) +ℤ (p.correction *ℤ cycle_length_of p row)

    -- of the odd cycle up to there: no further apart than at its start, or than these points
    pub odd_between : macrotick ≤ℤ p.correction
        → (((instant_of (grid_for p) a_odd true macrotick -ℤ instant_of (grid_for p) b_odd true macrotick) -ℤ pos (longest_micro p)) ≤ℤ (a_odd.start -ℤ b_odd.start))
        ⊎ ((p.macros *ℤ ((instant_of (grid_for p) a_odd true macrotick -ℤ instant_of (grid_for p) b_odd true macrotick) -ℤ pos (longest_micro p)))
        ≤ℤ (((p.macros *ℤ a_odd.start) +ℤ (p.correction *ℤ cycle_length_of p a_odd)) -ℤ ((p.macros *ℤ b_odd.start) +ℤ (p.correction *ℤ cycle_length_of p b_odd))))
    odd_between to =
        let g = p.macros in
        let fine = counting p.macros in
        let u = pos (longest_micro p) in
        let most = g *ℤ u in
        let x = (at_odd a_odd -ℤ at_odd b_odd) -ℤ u in
        let early = g *ℤ (a_odd.start -ℤ b_odd.start) in
        let late = point a_odd -ℤ point b_odd in
        let bound = int_max early late in
        let s = λ (row : NodeRow). reading_at fine row.start in
        let l = λ (row : NodeRow). reading_of fine (cycle_length_of p row) in
        let whole : (g *ℤ x) ≤ℤ bound =
        less (g *ℤ at_odd a_odd) (g *ℤ at_odd b_odd) (g *ℤ u) bound (g *ℤ (at_odd a_odd -ℤ at_odd b_odd)) (g *ℤ x) (mulz-subz (at_odd a_odd) (at_odd b_odd) g) (mulz-subz (at_odd a_odd -ℤ at_odd b_odd) u g)
        (lines_apart fine g most p.correction macrotick bound (s a_odd) (l a_odd) (reading_at fine (at_odd a_odd)) (s b_odd) (l b_odd) (reading_at fine (at_odd b_odd)) g_some
        (some p.correction (is_grid_lem p sane).correction_from) from to
        (counted_line g a_odd.start (cycle_length_of p a_odd) a_odd.length macrotick (at_odd a_odd) (no_less g g_some) (early_on_line p a_odd macrotick sane (lasts_of p a_odd (numbers_of p sane).shortest_from a_is.odd_micro) to))
        (counted_line g b_odd.start (cycle_length_of p b_odd) b_odd.length macrotick (at_odd b_odd) (no_less g g_some) (early_on_line p b_odd macrotick sane (lasts_of p b_odd (numbers_of p sane).shortest_from b_is.odd_micro) to))
        (read (g *ℤ a_odd.start) (g *ℤ b_odd.start) early bound (mulz-subz a_odd.start b_odd.start g) (max_left early late))
        (points (s a_odd) (s b_odd) (l a_odd) (l b_odd) (g *ℤ point a_odd) (g *ℤ point b_odd) (g *ℤ late) (g *ℤ bound) (pointed a_odd.start (cycle_length_of p a_odd)) (pointed b_odd.start (cycle_length_of p b_odd))
        (mulz-subz (point a_odd) (point b_odd) g) (mulz-lez_left late bound g (max_right early late) (no_less g g_some)) (ones bound))) in
        elim (either early late (g *ℤ x) whole) [
          | inl le ↦ inl (lez_of_mulz-lez x (a_odd.start -ℤ b_odd.start) g g_some (turned (g *ℤ x) early (x *ℤ g) ((a_odd.start -ℤ b_odd.start) *ℤ g) le (mulz_comm x g) (mulz_comm (a_odd.start -ℤ b_odd.start) g)))
          | inr le ↦ inr le
        ]
      where
        some : (a : ℤ) → pos 1 ≤ℤ a → pos 0 <ℤ a
        some a h = omega (arith, ints)

        read : (a b d m : ℤ) → d ≡ a -ℤ b → d ≤ℤ m → ((a +ℤ pos 0) -ℤ (b +ℤ pos 0)) ≤ℤ (pos 1 *ℤ m)
        read a b d m e h = omega (arith, ints)

        less : (a b u m d x : ℤ) → d ≡ a -ℤ b → x ≡ d -ℤ u → ((a +ℤ pos 0) -ℤ (b +ℤ pos 0)) ≤ℤ (pos 1 *ℤ (m +ℤ u)) → x ≤ℤ m
        less a b u m d x e f h = omega (arith, ints)

        turned : (a b c d : ℤ) → a ≤ℤ b → c ≡ a → d ≡ b → c ≤ℤ d
        turned a b c d h k m = omega (arith, ints)

        ones : (m : ℤ) → (p.macros *ℤ pos 1) *ℤ m ≡ p.macros *ℤ m
        ones m = ap (λ y. y *ℤ m) (unit p.macros)
          where
            unit : (a : ℤ) → a *ℤ pos 1 ≡ a
            unit a = omega (arith, ints)

        pointed : (start length : ℤ)
            → p.macros *ℤ ((p.macros *ℤ start) +ℤ (p.correction *ℤ length)) ≡ (p.macros *ℤ ((p.macros *ℤ start) +ℤ pos 0)) +ℤ (p.correction *ℤ (p.macros *ℤ length))
        pointed start length =
            mulz-addz (p.macros *ℤ start) (p.correction *ℤ length) p.macros
            ∙ ap (λ y. (p.macros *ℤ (p.macros *ℤ start)) +ℤ y) (sym (mulz_assoc p.macros p.correction length) ∙ ap (λ y. y *ℤ length) (mulz_comm p.macros p.correction) ∙ mulz_assoc p.correction p.macros length)
            ∙ ap (λ y. (p.macros *ℤ y) +ℤ (p.correction *ℤ (p.macros *ℤ length))) (none (p.macros *ℤ start))
          where
            none : (a : ℤ) → a ≡ a +ℤ pos 0
            none a = omega (arith, ints)

        points : (sa sb la lb pa pb d m : ℤ) → pa ≡ (p.macros *ℤ sa) +ℤ (p.correction *ℤ la) → pb ≡ (p.macros *ℤ sb) +ℤ (p.correction *ℤ lb) → d ≡ pa -ℤ pb → d ≤ℤ m
            → {n : ℤ} → n ≡ m → (((p.macros *ℤ sa) +ℤ (p.correction *ℤ la)) -ℤ ((p.macros *ℤ sb) +ℤ (p.correction *ℤ lb))) ≤ℤ n
        points sa sb la lb pa pb d m e f k h {n} i = close ((p.macros *ℤ sa) +ℤ (p.correction *ℤ la)) ((p.macros *ℤ sb) +ℤ (p.correction *ℤ lb)) pa pb d m n e f k h i
          where
            close : (x y pa pb d m n : ℤ) → pa ≡ x → pb ≡ y → d ≡ pa -ℤ pb → d ≤ℤ m → n ≡ m → (x -ℤ y) ≤ℤ n
            close x y pa pb d m n e f k h i = omega (arith, ints)

-- ---- senders

-- a distance that is beyond, and a greater one
pub beyond_more : (scale : Scale) (width precision one other : ℤ) → pos 0 <ℤ slow_million scale.drift → IsBeyond scale width precision one → one ≤ℤ other → IsBeyond scale width precision other
beyond_more scale width precision one other some beyond le =
    more ((fast_million scale.drift *ℤ precision) +ℤ (pos nominal *ℤ (pos 2 *ℤ (width +ℤ scale.micro_to)))) (slow_million scale.drift *ℤ one) (slow_million scale.drift *ℤ other) beyond
    (mulz-lez_left one other (slow_million scale.drift) le (no_less (slow_million scale.drift) some))
  where
    more : (a b c : ℤ) → a <ℤ b → b ≤ℤ c → a <ℤ c
    more a b c h k = omega (arith, ints)

module _ (x : Setting) (h : Cycles) (base : ℕ) (delays : ℕ → Channel → Delays) (clock : ℕ → StraightClock) (l : LogView) (run : IsObservedRun x h base delays clock l) (double : ℕ) (even odd : Cycle) (has : HasDouble h (run_double base double) even odd) where
  abbrev Scaled : Scale
  Scaled = reading_scale l.drift x.params

  abbrev Clock : StraightClock
  Clock = clock (run_double base double)

  abbrev Senders : List Sender
  Senders = log_senders x l double

  abbrev On : Sender → Type 0
  On = IsSenderOn x l.drift (clock (run_double base double)) even odd

  abbrev Parted : StraightClock
  Parted = record { ticks = x.params.macros *ℤ Clock.ticks; counts = x.params.macros *ℤ Clock.counts; zero = Clock.zero }

  macros_some : pos 0 <ℤ x.params.macros
  macros_some = (numbers_of x.params run.timed.sane).macros_some

  pub parted_drifts : IsWithinDrift l.drift (record { ticks = x.params.macros *ℤ (clock (run_double base double)).ticks; counts = x.params.macros *ℤ (clock (run_double base double)).counts; zero = (clock (run_double base double)).zero })
  parted_drifts =
      let is = drifts x h base delays clock l run double even odd has in
      let g = x.params.macros in
      let from = no_less g macros_some in
      record {
        drift_to = is.drift_to;
        ticks_from = product g Clock.ticks macros_some is.ticks_from;
        counts_from = product g Clock.counts macros_some is.counts_from;
        slow =
            turned (g *ℤ (slow_million l.drift *ℤ Clock.ticks)) (g *ℤ (pos nominal *ℤ Clock.counts)) (slow_million l.drift *ℤ (g *ℤ Clock.ticks)) (pos nominal *ℤ (g *ℤ Clock.counts))
            (mulz-lez_left (slow_million l.drift *ℤ Clock.ticks) (pos nominal *ℤ Clock.counts) g is.slow from) (swapped (slow_million l.drift) g Clock.ticks) (swapped (pos nominal) g Clock.counts);
        fast =
            turned (g *ℤ (pos nominal *ℤ Clock.counts)) (g *ℤ (fast_million l.drift *ℤ Clock.ticks)) (pos nominal *ℤ (g *ℤ Clock.counts)) (fast_million l.drift *ℤ (g *ℤ Clock.ticks))
            (mulz-lez_left (pos nominal *ℤ Clock.counts) (fast_million l.drift *ℤ Clock.ticks) g is.fast from) (swapped (pos nominal) g Clock.counts) (swapped (fast_million l.drift) g Clock.ticks);
      }
    where
      turned : (a b c d : ℤ) → a ≤ℤ b → c ≡ a → d ≡ b → c ≤ℤ d
      turned a b c d h k m = omega (arith, ints)

      swapped : (a b c : ℤ) → a *ℤ (b *ℤ c) ≡ b *ℤ (a *ℤ c)
      swapped a b c = sym (mulz_assoc a b c) ∙ ap (λ y. y *ℤ c) (mulz_comm a b) ∙ mulz_assoc b a c

      one : (b : ℤ) → pos 1 *ℤ b ≡ b
      one b = omega (arith, ints)

      some : (b ob ab : ℤ) → pos 0 <ℤ b → ob ≡ b → ob ≤ℤ ab → pos 0 <ℤ ab
      some b ob ab h k m = omega (arith, ints)

      from_one : (a : ℤ) → pos 0 <ℤ a → pos 1 ≤ℤ a
      from_one a h = omega (arith, ints)

      product : (a b : ℤ) → pos 0 <ℤ a → pos 0 <ℤ b → pos 0 <ℤ (a *ℤ b)
      product a b h k = some b (pos 1 *ℤ b) (a *ℤ b) k (one b) (mulz-lez (pos 1) a b (from_one a h) (no_less b k))

  -- the reading of a point, in parts
  pub point_reads : (g o c z s n : ℤ) → (g *ℤ ((c *ℤ s) +ℤ z)) +ℤ (o *ℤ (c *ℤ n)) ≡ (c *ℤ ((g *ℤ s) +ℤ (o *ℤ n))) +ℤ (g *ℤ z)
  point_reads g o c z s n =
      sum (g *ℤ ((c *ℤ s) +ℤ z)) (g *ℤ (c *ℤ s)) (g *ℤ z) (o *ℤ (c *ℤ n)) (c *ℤ ((g *ℤ s) +ℤ (o *ℤ n))) (c *ℤ (g *ℤ s)) (c *ℤ (o *ℤ n)) (mulz-addz (c *ℤ s) z g) (mulz-addz (g *ℤ s) (o *ℤ n) c)
      (swapped g c s) (swapped o c n)
    where
      swapped : (a b c : ℤ) → a *ℤ (b *ℤ c) ≡ b *ℤ (a *ℤ c)
      swapped a b c = sym (mulz_assoc a b c) ∙ ap (λ y. y *ℤ c) (mulz_comm a b) ∙ mulz_assoc b a c

      sum : (w gc gz on w' cg co : ℤ) → w ≡ gc +ℤ gz → w' ≡ cg +ℤ co → gc ≡ cg → on ≡ co → w +ℤ on ≡ w' +ℤ gz
      sum w gc gz on w' cg co a b d e = omega (arith, ints)

  abbrev row_point : Sender → ℤ
  row_point s = (x.params.macros *ℤ (row_for odd.told.rows s.node).start) +ℤ (x.params.correction *ℤ cycle_length_of x.params (row_for odd.told.rows s.node))

  abbrev point_reading : Sender → ℤ
  point_reading s =
      (x.params.macros *ℤ reading_at Clock (row_for odd.told.rows s.node).start) +ℤ (x.params.correction *ℤ reading_of Clock (cycle_length_of x.params (row_for odd.told.rows s.node)))

  -- points that lie so far apart or further read so
  points_apart : (early late : Sender) (y : ℤ) → (x.params.macros *ℤ y) ≤ℤ (row_point late -ℤ row_point early)
      → ((x.params.macros *ℤ (clock (run_double base double)).counts) *ℤ y)
      ≤ℤ (((x.params.macros *ℤ reading_at (clock (run_double base double)) (row_for odd.told.rows late.node).start) +ℤ (x.params.correction *ℤ reading_of (clock (run_double base double)) (cycle_length_of x.params (row_for odd.told.rows late.node))))
      -ℤ ((x.params.macros *ℤ reading_at (clock (run_double base double)) (row_for odd.told.rows early.node).start) +ℤ (x.params.correction *ℤ reading_of (clock (run_double base double)) (cycle_length_of x.params (row_for odd.told.rows early.node)))))
  points_apart early late y le =
      let g = x.params.macros in
      let o = x.params.correction in
      let c = Clock.counts in
      let last = row_for odd.told.rows late.node in
      let first = row_for odd.told.rows early.node in
      chain ((g *ℤ c) *ℤ y) (c *ℤ (g *ℤ y)) (c *ℤ (row_point late -ℤ row_point early)) (c *ℤ row_point late) (c *ℤ row_point early) (g *ℤ Clock.zero) (point_reading late) (point_reading early)
      (ap (λ z. z *ℤ y) (mulz_comm g c) ∙ mulz_assoc c g y)
      (mulz-lez_left (g *ℤ y) (row_point late -ℤ row_point early) c le (no_less c (drifts x h base delays clock l run double even odd has).counts_from))
      (mulz-subz (row_point late) (row_point early) c) (point_reads g o c Clock.zero last.start (cycle_length_of x.params last)) (point_reads g o c Clock.zero first.start (cycle_length_of x.params first))
    where
      chain : (a b d cl ce gz rl re : ℤ) → a ≡ b → b ≤ℤ d → d ≡ cl -ℤ ce → rl ≡ cl +ℤ gz → re ≡ ce +ℤ gz → a ≤ℤ (rl -ℤ re)
      chain a b d cl ce gz rl re h i j k m = omega (arith, ints)

  odd_points_are_over : (width precision : ℤ) (early late : Sender) (y : ℤ) → pos 0 ≤ℤ width → pos 0 ≤ℤ precision → Contains (log_senders x l double) early → Contains (log_senders x l double) late
      → IsNoWider width (odd_turn (reading_scale l.drift x.params) early.course) → IsNoWider width (odd_turn (reading_scale l.drift x.params) late.course)
      → (x.params.macros *ℤ y) ≤ℤ (row_point late -ℤ row_point early) → IsBeyond (reading_scale l.drift x.params) width precision y → OddSays x l double precision Over
  unfolding odd_low
  odd_points_are_over width precision early late y width_from from early_there late_there early_narrow late_narrow apart beyond =
      let i = odd_turn Scaled late.course in
      let j = odd_turn Scaled early.course in
      let t = Scaled.micro_to in
      let d = (i.low -ℤ j.high) -ℤ t in
      let starts = least_at Scaled odd_start (courses_of Senders) in
      let turns = least_at Scaled odd_turn (courses_of Senders) in
      let t_from = micro_some x h base delays clock l run double even odd has in
      let drift = drifts x h base delays clock l run double even odd has in
      let all = all_on x h base delays clock l run double even odd has in
      let last = (corners_of x h base delays clock l run double even odd has late (All-contains On Senders late all late_there)).odd_point in
      let first = (corners_of x h base delays clock l run double even odd has early (All-contains On Senders early all early_there)).odd_point in
      let reaches =
      ends_apart l.drift Parted parted_drifts i j (point_reading late) (point_reading early) y width (record { low = last.low; high = last.high }) (record { low = first.low; high = first.high })
      (points_apart early late y apart) late_narrow early_narrow (behind l.drift t width precision y drift.drift_to from t_from width_from beyond) in
      let spread =
      spread_reached x h base delays clock l run double even odd has odd_turn
      (λ s on.
      point_order x h base delays clock l run double even odd has (odd_turn Scaled s.course) (starting_in odd s) x.params.correction (cycle_length_of x.params (row_for odd.told.rows s.node))
      (corners_of x h base delays clock l run double even odd has s on).odd_point) late early late_there early_there in
      over_is precision (odd_low Scaled Senders) (odd_high Scaled Senders)
      (above_by l.drift t width precision y d (int_max starts (turns -ℤ t)) from beyond
      (trans (slow_million l.drift *ℤ y) (((i.low -ℤ j.high) +ℤ (pos 2 *ℤ width)) *ℤ pos nominal) ((d +ℤ (pos 2 *ℤ (width +ℤ t))) *ℤ pos nominal) reaches (more (i.low -ℤ j.high) width t t_from))
      (trans d (turns -ℤ t) (int_max starts (turns -ℤ t)) (less (i.low -ℤ j.high) turns t spread) (max_right starts (turns -ℤ t))))
    where
      more : (a w t : ℤ) → pos 0 ≤ℤ t → ((a +ℤ (pos 2 *ℤ w)) *ℤ pos nominal) ≤ℤ (((a -ℤ t) +ℤ (pos 2 *ℤ (w +ℤ t))) *ℤ pos nominal)
      more a w t h = omega (arith, ints)

      less : (a b t : ℤ) → a ≤ℤ b → (a -ℤ t) ≤ℤ (b -ℤ t)
      less a b t h = omega (arith, ints)

  module _ (width precision : ℤ) (early late : Sender) (two : HasTwoSharp x l double width early late) (from : pos 0 ≤ℤ precision) where
    told : CornersAreTold x l double even odd width precision early late
    told = far_senders_are_told x h base delays clock l double even odd width precision early late run has two from

    early_on : IsSenderOn x l.drift (clock (run_double base double)) even odd early
    early_on = All-contains On Senders early (all_on x h base delays clock l run double even odd has) two.early_there

    late_on : IsSenderOn x l.drift (clock (run_double base double)) even odd late
    late_on = All-contains On Senders late (all_on x h base delays clock l run double even odd has) two.late_there

    early_narrow : HasNarrowCorners (reading_scale l.drift x.params) width early.course
    early_narrow = sharp_corners x h base delays clock l run double width even odd early has two.early_there two.early_sharp

    late_narrow : HasNarrowCorners (reading_scale l.drift x.params) width late.course
    late_narrow = sharp_corners x h base delays clock l run double width even odd late has two.late_there two.late_sharp

    width_from : pos 0 ≤ℤ width
    width_from =
        let corner = even_start Scaled early.course in
        some corner.low corner.high width
        (read_order x h base delays clock l run double even odd has corner (starting_in even early) (corners_of x h base delays clock l run double even odd has early early_on).even_starts) early_narrow.even_starts
      where
        some : (a b w : ℤ) → a ≤ℤ b → (b -ℤ a) ≤ℤ w → pos 0 ≤ℤ w
        some a b w h k = omega (arith, ints)

    slowest : pos 0 <ℤ slow_million l.drift
    slowest = slow_some l.drift (drifts x h base delays clock l run double even odd has).drift_to

    pub are_told_of : MacroticksAreTold x l double even odd width precision early late
    are_told_of =
        let one = row_for even.told.rows late.node in
        let next_one = row_for odd.told.rows late.node in
        let other = row_for even.told.rows early.node in
        let next_other = row_for odd.told.rows early.node in
        record {
          in_even = λ macrotick first last beyond.
              let y = behind_by x false even macrotick early late in
              elim (even_between x.params run.timed.sane one next_one other next_other late_on.on.seen.regular early_on.on.seen.regular macrotick first last) [
                | inl le ↦ inl (told.even_starts (beyond_more Scaled width precision y (starting_in even late -ℤ starting_in even early) slowest beyond le))
                | inr le ↦ inr (told.odd_starts (beyond_more Scaled width precision y (starting_in odd late -ℤ starting_in odd early) slowest beyond le))
              ];
          in_odd = λ macrotick first last beyond.
              let y = behind_by x true odd macrotick early late in
              elim (odd_between x.params run.timed.sane one next_one other next_other late_on.on.seen.regular early_on.on.seen.regular macrotick first last) [
                | inl le ↦ told.odd_starts (beyond_more Scaled width precision y (starting_in odd late -ℤ starting_in odd early) slowest beyond le)
                | inr le ↦ odd_points_are_over width precision early late y width_from from two.early_there two.late_there early_narrow.odd_turns late_narrow.odd_turns le beyond
              ];
        }

pub far_macroticks_are_told : FarMacroticksAreTold
far_macroticks_are_told x h base delays clock l double even odd width precision early late run has two from = are_told_of x h base delays clock l run double even odd has width precision early late two from
