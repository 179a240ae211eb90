-- How far macroticks of the odd cycle lie apart at most, by the courses of two double cycles.
use Rattle.std.proofs.Common.{◌≡◌, ℕ, ℤ, pos, true, List, All, map, ap, sym, subst, ◌∙◌, arith}
use Rattle.std.specs.Prelude.{◌+ℤ◌, ◌-ℤ◌, ◌*ℤ◌, ◌≤ℤ◌, ◌<ℤ◌, Contains}
use Rattle.std.specs.Int.{int_max}
use Rattle.std.proofs.lemmas.Int.{ints, by_lt_z}
use Rattle.std.proofs.lemmas.List.Elements.{All-contains, All-weaker}
use Rattle.std.proofs.lemmas.Simd.{map-map}
use Rattle.fr_base.specs.declared.node_row.NodeRow.{NodeRow}
use Rattle.fr_cluster.specs.Values.{Values}
use Rattle.fr_cluster.specs.Sane.{IsSane}
use Rattle.fr_midpoint.proofs.Products.{mulz-addz, mulz_from, subz-mulz}
use Rattle.fr_time.specs.Position.{corrected_micros, even_position, grid_for}
use Rattle.fr_time.specs.Instant.{instant_of}
use Rattle.fr_time.proofs.Placing.{is_grid_lem}
use Rattle.fr_bound.specs.Bounds.{longest_micro}
use Rattle.fr_bound.specs.Sync.{cycle_length_of}
use Rattle.fr_skew.specs.Spreads.{spread_of}
use Rattle.fr_precision.specs.Rows.{corrected_end_of}
use Rattle.fr_precision.proofs.InstantLaws.{before_correction, late_on_line as late_line}
use Rattle.fr_course.specs.Scales.{Scale}
use Rattle.fr_course.specs.Readings.{most_ticks, reading_scale}
use Rattle.fr_course.specs.Course.{even_start, odd_start, odd_turn}
use Rattle.fr_course.specs.Spread.{most_at, most_spread}
use Rattle.fr_seen.specs.Clocks.{reading_at, reading_of, IsWithinDrift, ReadsIn, StraightClock}
use Rattle.fr_seen.specs.Courses.{PointReadsIn}
use Rattle.fr_seen.specs.Skews.{spread_among, IsOnCourses, OddSkewIsKept, SeenTwice}
use Rattle.fr_seen.proofs.Readings.{most_reading_lem}
use Rattle.fr_seen.proofs.Shares.{shared}
use Rattle.fr_seen.proofs.Doubles.{numbers_of}
use Rattle.fr_seen.proofs.CornerLaws.{lasts_of, line_reads, odd_line, HasLine}
use Rattle.fr_seen.proofs.Pairs.{max_left, max_right, most_spread_above, pair_within, spread_of_all, wider}
use Rattle.fr_seen.proofs.SkewLaws.{at_end, bound_above, corner_pair, corners_of, lines_apart, most_from, no_less, points_apart, sum, ticks_apart, ticks_from}

-- ---- the way from the start of the offset correction to the end of the cycle

itself : (a : ℤ) → a ≤ℤ a
itself a = omega (arith, ints)

-- it ends at the next start
pub late_end : (p : Values) (row : NodeRow)
    → corrected_end_of p row ≡ instant_of (grid_for p) row true p.correction +ℤ (corrected_micros (grid_for p) row.rate row.offset *ℤ row.length)
late_end p row =
    let begin = even_position (grid_for p) row.rate p.correction in
    let whole = p.micros +ℤ row.rate +ℤ row.offset in
    sym
    (
    ap (λ x. x +ℤ ((whole -ℤ begin) *ℤ row.length)) (before_correction p row p.correction (itself p.correction))
    ∙ both row.start (begin *ℤ row.length) (whole *ℤ row.length) ((whole -ℤ begin) *ℤ row.length) (subz-mulz whole begin row.length)
    )
  where
    both : (s b w r : ℤ) → r ≡ w -ℤ b → (s +ℤ b) +ℤ r ≡ s +ℤ w
    both s b w r e = omega (arith, ints)

-- as readings
end_reads : (clock : StraightClock) (start long end : ℤ) → end ≡ start +ℤ long → reading_at clock end ≡ reading_at clock start +ℤ reading_of clock long
end_reads clock start long end is =
    both (clock.counts *ℤ start) (clock.counts *ℤ long) (clock.counts *ℤ end) clock.zero (ap (λ x. clock.counts *ℤ x) is ∙ mulz-addz start long clock.counts)
  where
    both : (a b c z : ℤ) → c ≡ a +ℤ b → c +ℤ z ≡ (a +ℤ z) +ℤ b
    both a b c z h = omega (arith, ints)

-- ---- nodes that were seen twice

module _ (p : Values) (drift : ℕ) (clock : StraightClock) (sane : IsSane p) (is : IsWithinDrift drift clock) (nodes : List SeenTwice) (all : All (IsOnCourses p drift clock) nodes) where
  abbrev scale : Scale
  scale = reading_scale drift p

  abbrev most : ℤ
  most = (reading_scale drift p).micro_to

  abbrev On : SeenTwice → Type 0
  On = IsOnCourses p drift clock

  abbrev by_starts : ℤ
  by_starts = most_at scale odd_start (map (λ n. n.first.course) nodes)

  abbrev by_turns : ℤ
  by_turns = most_at scale odd_turn (map (λ n. n.first.course) nodes)

  abbrev by_next : ℤ
  by_next = most_at scale even_start (map (λ n. n.second.course) nodes)

  abbrev bound : ℤ
  bound = int_max by_starts (int_max (by_turns +ℤ most) by_next)

  turns_in : (by_turns +ℤ most) ≤ℤ bound
  turns_in =
      trans (by_turns +ℤ most) (int_max (by_turns +ℤ most) by_next) bound (max_left (by_turns +ℤ most) by_next) (max_right by_starts (int_max (by_turns +ℤ most) by_next))
    where
      trans : (a b c : ℤ) → a ≤ℤ b → b ≤ℤ c → a ≤ℤ c
      trans a b c h k = omega (arith, ints)

  next_in : by_next ≤ℤ bound
  next_in =
      trans by_next (int_max (by_turns +ℤ most) by_next) bound (max_right (by_turns +ℤ most) by_next) (max_right by_starts (int_max (by_turns +ℤ most) by_next))
    where
      trans : (a b c : ℤ) → a ≤ℤ b → b ≤ℤ c → a ≤ℤ c
      trans a b c h k = omega (arith, ints)

  -- the reading of the point at which a node's offset correction starts, so many parts of it
  abbrev point_of : SeenTwice → ℤ
  point_of n = (p.macros *ℤ reading_at clock n.first.odd.start) +ℤ (p.correction *ℤ reading_of clock (cycle_length_of p n.first.odd))

  points_lie : (a b : SeenTwice) → Contains nodes a → Contains nodes b → (point_of a -ℤ point_of b) ≤ℤ ((p.macros *ℤ clock.ticks) *ℤ by_turns)
  points_lie a b here there =
      subst (λ m. (point_of a -ℤ point_of b) ≤ℤ ((p.macros *ℤ clock.ticks) *ℤ m)) (ap most_spread (sym (map-map (odd_turn scale) (λ (n : SeenTwice). n.first.course) nodes)))
      (pair_within (shared p.macros clock) (mulz_from p.macros clock.ticks (no_less p.macros (numbers_of p sane).macros_some) (ticks_from p drift clock sane is)) (λ n. odd_turn scale n.first.course) point_of nodes a b
      (All-weaker On (λ n. PointReadsIn clock p.macros (odd_turn scale n.first.course) n.first.odd.start p.correction (cycle_length_of p n.first.odd))
      (λ n on. (corners_of p drift clock sane is n.first on.first).odd_point) nodes all) here there)

  first_line : (n : SeenTwice) → Contains nodes n → (macrotick : ℤ) → macrotick ≤ℤ p.correction
      → HasLine clock p.macros most macrotick (reading_at clock n.first.odd.start) (reading_of clock (cycle_length_of p n.first.odd)) (reading_at clock (instant_of (grid_for p) n.first.odd true macrotick))
  first_line n here macrotick to =
      let on = All-contains On nodes n all here in
      odd_line p drift clock n.first.course n.first.even n.first.odd on.first.seen on.first.holds macrotick to

  -- up to the start of the offset correction
  early_pair : (macrotick : ℤ) (a b : SeenTwice) → pos 0 ≤ℤ macrotick → macrotick ≤ℤ p.correction → Contains nodes a → Contains nodes b
      → (instant_of (grid_for p) a.first.odd true macrotick -ℤ instant_of (grid_for p) b.first.odd true macrotick) ≤ℤ most_ticks drift (bound +ℤ most)
  early_pair macrotick a b from to here there =
      let s = λ (n : SeenTwice). reading_at clock n.first.odd.start in
      let l = λ (n : SeenTwice). reading_of clock (cycle_length_of p n.first.odd) in
      let at = λ (n : SeenTwice). instant_of (grid_for p) n.first.odd true macrotick in
      let fine_from = mulz_from p.macros clock.ticks (no_less p.macros (numbers_of p sane).macros_some) (ticks_from p drift clock sane is) in
      ticks_apart p drift clock sane is (bound +ℤ most) (at b) (at a)
      (lines_apart clock p.macros most p.correction macrotick bound (s a) (l a) (reading_at clock (at a)) (s b) (l b) (reading_at clock (at b))
      (numbers_of p sane).macros_some (one p.correction (is_grid_lem p sane).correction_from) from to (first_line a here macrotick to) (first_line b there macrotick to)
      (wider clock.ticks by_starts bound (s a -ℤ s b) (ticks_from p drift clock sane is) (max_left by_starts (int_max (by_turns +ℤ most) by_next))
      (corner_pair p drift clock sane is (λ n. n.first) odd_start (λ n. n.first.odd.start) nodes a b
      (All-weaker On (λ n. ReadsIn clock (odd_start scale n.first.course) n.first.odd.start) (λ n on. (corners_of p drift clock sane is n.first on.first).odd_starts) nodes all) here there))
      (wider (p.macros *ℤ clock.ticks) by_turns bound (point_of a -ℤ point_of b) fine_from (below by_turns most bound (most_from p drift clock sane is) turns_in) (points_lie a b here there)))
    where
      one : (a : ℤ) → pos 1 ≤ℤ a → pos 0 <ℤ a
      one a h = omega (arith, ints)

      below : (a m b : ℤ) → pos 0 ≤ℤ m → (a +ℤ m) ≤ℤ b → a ≤ℤ b
      below a m b h k = omega (arith, ints)

  second_line : (n : SeenTwice) → Contains nodes n → (macrotick : ℤ) → p.correction <ℤ macrotick
      → HasLine clock (p.macros -ℤ p.correction) most (macrotick -ℤ p.correction) (reading_at clock (instant_of (grid_for p) n.first.odd true p.correction))
      (reading_of clock (corrected_micros (grid_for p) n.first.odd.rate n.first.odd.offset *ℤ n.first.odd.length)) (reading_at clock (instant_of (grid_for p) n.first.odd true macrotick))
  second_line n here macrotick from =
      let on = All-contains On nodes n all here in
      let row = n.first.odd in
      line_reads clock (p.macros -ℤ p.correction) most (macrotick -ℤ p.correction) (instant_of (grid_for p) row true p.correction) (corrected_micros (grid_for p) row.rate row.offset *ℤ row.length) row.length
      (pos (longest_micro p)) (instant_of (grid_for p) row true macrotick)
      (left p.macros p.correction (numbers_of p sane).correction_to) (no_less clock.counts is.counts_from) (natural (longest_micro p)) (most_reading_lem drift clock (pos (longest_micro p)) is)
      (late_line p row macrotick sane (lasts_of p row (numbers_of p sane).shortest_from on.first.seen.regular.odd_micro) from)
    where
      left : (g o : ℤ) → o ≤ℤ g → pos 0 ≤ℤ (g -ℤ o)
      left g o h = omega (arith, ints)

      natural : (n : ℕ) → pos 0 ≤ℤ pos n
      natural n = omega (arith, ints)

  -- from there on
  late_pair : (macrotick : ℤ) (a b : SeenTwice) → p.correction <ℤ macrotick → macrotick ≤ℤ p.macros → Contains nodes a → Contains nodes b
      → (instant_of (grid_for p) a.first.odd true macrotick -ℤ instant_of (grid_for p) b.first.odd true macrotick) ≤ℤ most_ticks drift (bound +ℤ most)
  late_pair macrotick a b from to here there =
      let on = All-contains On nodes a all here in
      let also = All-contains On nodes b all there in
      let turn = λ (n : SeenTwice). instant_of (grid_for p) n.first.odd true p.correction in
      let rest = λ (n : SeenTwice). corrected_micros (grid_for p) n.first.odd.rate n.first.odd.offset *ℤ n.first.odd.length in
      let at = λ (n : SeenTwice). instant_of (grid_for p) n.first.odd true macrotick in
      let next = λ (n : SeenTwice). n.second.even.start in
      let g = p.macros -ℤ p.correction in
      let some : pos 0 <ℤ g = apart p.correction p.macros (is_grid_lem p sane).correction_to in
      let q_from = ticks_from p drift clock sane is in
      let begin : (reading_at clock (turn a) -ℤ reading_at clock (turn b)) ≤ℤ (clock.ticks *ℤ (by_turns +ℤ most)) =
      points_apart clock p.macros most p.correction by_turns (reading_at clock a.first.odd.start) (reading_of clock (cycle_length_of p a.first.odd)) (reading_at clock (turn a))
      (reading_at clock b.first.odd.start) (reading_of clock (cycle_length_of p b.first.odd)) (reading_at clock (turn b))
      (numbers_of p sane).macros_some (first_line a here p.correction (itself p.correction)) (first_line b there p.correction (itself p.correction)) (points_lie a b here there) in
      let close : (reading_at clock (next a) -ℤ reading_at clock (next b)) ≤ℤ (clock.ticks *ℤ by_next) =
      corner_pair p drift clock sane is (λ n. n.second) even_start (λ n. n.second.even.start) nodes a b
      (All-weaker On (λ n. ReadsIn clock (even_start scale n.second.course) n.second.even.start) (λ n on. (corners_of p drift clock sane is n.second on.second).even_starts) nodes all) here there in
      ticks_apart p drift clock sane is (bound +ℤ most) (at b) (at a)
      (lines_apart clock g most g (macrotick -ℤ p.correction) bound (reading_at clock (turn a)) (reading_of clock (rest a)) (reading_at clock (at a)) (reading_at clock (turn b)) (reading_of clock (rest b)) (reading_at clock (at b))
      some some (behind p.correction macrotick from) (no_more macrotick p.correction p.macros to) (second_line a here macrotick from) (second_line b there macrotick from)
      (wider clock.ticks (by_turns +ℤ most) bound (reading_at clock (turn a) -ℤ reading_at clock (turn b)) q_from turns_in begin)
      (at_end g (reading_at clock (turn a)) (reading_of clock (rest a)) (reading_at clock (next a)) (reading_at clock (turn b)) (reading_of clock (rest b)) (reading_at clock (next b)) bound clock.ticks
      (no_less g some) (end_reads clock (turn a) (rest a) (next a) (on.follows ∙ late_end p a.first.odd)) (end_reads clock (turn b) (rest b) (next b) (also.follows ∙ late_end p b.first.odd))
      (wider clock.ticks by_next bound (reading_at clock (next a) -ℤ reading_at clock (next b)) q_from next_in close)))
    where
      apart : (o g : ℤ) → o <ℤ g → pos 0 <ℤ (g -ℤ o)
      apart o g less = omega (arith, ints)

      behind : (o m : ℤ) → o <ℤ m → pos 0 ≤ℤ (m -ℤ o)
      behind o m less = omega (arith, ints)

      no_more : (m o g : ℤ) → m ≤ℤ g → (m -ℤ o) ≤ℤ (g -ℤ o)
      no_more m o g le = omega (arith, ints)

  odd_pair : (macrotick : ℤ) (a b : SeenTwice) → pos 0 ≤ℤ macrotick → macrotick ≤ℤ p.macros → Contains nodes a → Contains nodes b
      → (instant_of (grid_for p) a.first.odd true macrotick -ℤ instant_of (grid_for p) b.first.odd true macrotick) ≤ℤ most_ticks drift (bound +ℤ most)
  odd_pair macrotick a b from to here there =
      by_lt_z p.correction macrotick (λ late. late_pair macrotick a b late to here there) (λ early. early_pair macrotick a b from early here there)

  odd_kept : (macrotick : ℤ) → pos 0 ≤ℤ macrotick → macrotick ≤ℤ p.macros
      → spread_among p true macrotick (map (λ n. n.first.odd) nodes) ≤ℤ most_ticks drift (bound +ℤ most)
  odd_kept macrotick from to =
      subst (λ x. x ≤ℤ most_ticks drift (bound +ℤ most)) (ap spread_of (sym (map-map (λ r. instant_of (grid_for p) r true macrotick) (λ (n : SeenTwice). n.first.odd) nodes)))
      (spread_of_all (λ n. instant_of (grid_for p) n.first.odd true macrotick) (most_ticks drift (bound +ℤ most)) nodes
      (bound_above p drift clock sane is (bound +ℤ most)
      (sum by_starts bound most (most_spread_above (map (odd_start scale) (map (λ n. n.first.course) nodes))) (most_from p drift clock sane is) (max_left by_starts (int_max (by_turns +ℤ most) by_next))))
      (λ a b here there. odd_pair macrotick a b from to here there))

pub odd_skew_is_kept : OddSkewIsKept
odd_skew_is_kept p drift clock nodes sane is all macrotick from to = odd_kept p drift clock sane is nodes all macrotick from to
