-- Where a course holds, its corners do.
use Rattle.std.proofs.Common.{◌≡◌, ℕ, ℤ, pos, Bool, true, false, refl, ap, sym, subst, ◌∙◌, arith}
use Rattle.std.specs.Int.{int_max, int_min}
use Rattle.std.specs.Prelude.{◌+ℤ◌, ◌-ℤ◌, ◌*ℤ◌, ◌≤ℤ◌, ◌<ℤ◌, int_le, if◌then◌else◌}
use Rattle.std.proofs.lemmas.Int.{ints}
use Rattle.fr_base.specs.Within.{IsBetween, IsWithin}
use Rattle.fr_base.specs.declared.node_row.NodeRow.{NodeRow}
use Rattle.fr_cluster.specs.Values.{Values}
use Rattle.fr_midpoint.proofs.Products.{mulz-addz, mulz-lez_left, mulz-subz, mulz_assoc, mulz_comm, mulz_from, mulz_within, subz-mulz}
use Rattle.fr_time.specs.Position.{floor_of, grid_for}
use Rattle.fr_time.specs.Instant.{instant_of}
use Rattle.fr_time.proofs.Lines.{OnLine}
use Rattle.fr_bound.specs.Bounds.{cycle_change, longest_micro, shortest_micro}
use Rattle.fr_bound.specs.Sync.{cycle_length_of}
use Rattle.fr_precision.specs.Rows.{HasProperMicro, Lasts}
use Rattle.fr_precision.proofs.InstantLaws.{early_on_line, even_on_line, odd_start_is}
use Rattle.fr_course.specs.declared.intervals.Interval.{Interval}
use Rattle.fr_course.specs.Scales.{Scale}
use Rattle.fr_course.specs.Readings.{ceiling_of, reading_scale}
use Rattle.fr_course.specs.declared.courses.Course.{Course}
use Rattle.fr_course.specs.Course.{even_start, even_turn, mean_from, mean_to, odd_macrotick, odd_start, odd_turn, share_from, share_to}
use Rattle.fr_seen.specs.Clocks.{reading_at, reading_of, HasReading, ReadsIn, StraightClock}
use Rattle.fr_seen.specs.Courses.{even_action, odd_action, rounded_down, CornersLie, HasCorners, HoldsCourse, IsSeenNode, PointReadsIn}
use Rattle.fr_seen.proofs.Readings.{most_reading_lem}
use Rattle.fr_seen.proofs.Shares.{all_parts, mean_parts, meet_by, of_all_parts, parts_back, reads_back, reads_down, reads_near, reads_on, reads_up, shared, some_parts}
use Rattle.fr_seen.proofs.Doubles.{numbers_of, rows_apart, LiesApart, Numbers}
use Rattle.fr_seen.proofs.CourseLaws.{apart_reads, change_reads}

-- the readings of an instant on the way from a start over a length, times the parts
pub record HasLine (clock : StraightClock) (parts bound macrotick start length at : ℤ) : Type 0 where
  pub less : ℤ
  pub is : parts *ℤ at ≡ ((parts *ℤ start) +ℤ (macrotick *ℤ length)) -ℤ less
  pub bounds : IsBetween (pos 0) ((shared parts clock).ticks *ℤ bound) less

pub line_reads : (clock : StraightClock) (parts bound macrotick start length unit most at : ℤ) → pos 0 ≤ℤ parts → pos 0 ≤ℤ clock.counts → pos 0 ≤ℤ most
    → (clock.counts *ℤ most) ≤ℤ (clock.ticks *ℤ bound) → OnLine start length unit macrotick parts most at
    → HasLine clock parts bound macrotick (reading_at clock start) (reading_of clock length) (reading_at clock at)
line_reads clock parts bound macrotick start length unit most at parts_from p_from most_from wide line =
    let p = clock.counts in
    let whole : p *ℤ (at *ℤ parts) ≡ ((p *ℤ (start *ℤ parts)) +ℤ (p *ℤ (macrotick *ℤ length))) -ℤ (p *ℤ line.less) =
    ap (λ x. p *ℤ x) line.is ∙ mulz-subz ((start *ℤ parts) +ℤ (macrotick *ℤ length)) line.less p
    ∙ ap (λ x. x -ℤ (p *ℤ line.less)) (mulz-addz (start *ℤ parts) (macrotick *ℤ length) p) in
    let most_parts : (p *ℤ line.less) ≤ℤ (p *ℤ ((most *ℤ parts) -ℤ most)) = mulz-lez_left line.less ((most *ℤ parts) -ℤ most) p line.to p_from in
    let fewer : (p *ℤ ((most *ℤ parts) -ℤ most)) ≤ℤ (p *ℤ (most *ℤ parts)) = mulz-lez_left ((most *ℤ parts) -ℤ most) (most *ℤ parts) p (cut (most *ℤ parts) most most_from) p_from in
    let wider : (parts *ℤ (p *ℤ most)) ≤ℤ (parts *ℤ (clock.ticks *ℤ bound)) = mulz-lez_left (p *ℤ most) (clock.ticks *ℤ bound) parts wide parts_from in
    record {
      less = p *ℤ line.less;
      is =
          sum (p *ℤ (at *ℤ parts)) (p *ℤ (start *ℤ parts)) (p *ℤ (macrotick *ℤ length)) (p *ℤ line.less) (parts *ℤ (p *ℤ at)) (parts *ℤ (p *ℤ start)) (macrotick *ℤ (p *ℤ length))
          (parts *ℤ clock.zero) (parts *ℤ reading_at clock at) (parts *ℤ reading_at clock start) whole (shifted p at parts) (shifted p start parts) (swapped p macrotick length)
          (mulz-addz (p *ℤ at) clock.zero parts) (mulz-addz (p *ℤ start) clock.zero parts);
      bounds = record {
        low = mulz_from p line.less p_from line.from;
        high =
            bounded (p *ℤ line.less) (p *ℤ ((most *ℤ parts) -ℤ most)) (p *ℤ (most *ℤ parts)) (parts *ℤ (p *ℤ most)) (parts *ℤ (clock.ticks *ℤ bound)) ((parts *ℤ clock.ticks) *ℤ bound)
            most_parts fewer (shifted p most parts) wider (mulz_assoc parts clock.ticks bound);
      };
    }
  where
    shifted : (p x g : ℤ) → p *ℤ (x *ℤ g) ≡ g *ℤ (p *ℤ x)
    shifted p x g = sym (mulz_assoc p x g) ∙ mulz_comm (p *ℤ x) g

    swapped : (a b c : ℤ) → a *ℤ (b *ℤ c) ≡ b *ℤ (a *ℤ c)
    swapped a b c = sym (mulz_assoc a b c) ∙ ap (λ x. x *ℤ c) (mulz_comm a b) ∙ mulz_assoc b a c

    cut : (a m : ℤ) → pos 0 ≤ℤ m → (a -ℤ m) ≤ℤ a
    cut a m h = omega (arith, ints)

    sum : (pa ps pl x ga gs gl gz ra rs : ℤ) → pa ≡ (ps +ℤ pl) -ℤ x → pa ≡ ga → ps ≡ gs → pl ≡ gl → ra ≡ ga +ℤ gz → rs ≡ gs +ℤ gz → ra ≡ (rs +ℤ gl) -ℤ x
    sum pa ps pl x ga gs gl gz ra rs a b c d e f = omega (arith, ints)

    bounded : (a b c d e f : ℤ) → a ≤ℤ b → b ≤ℤ c → c ≡ d → d ≤ℤ e → f ≡ e → a ≤ℤ f
    bounded a b c d e f h i j k l = omega (arith, ints)

pub lasts_of : (p : Values) (row : NodeRow) → pos 1 ≤ℤ pos (shortest_micro p) → HasProperMicro p row → Lasts p row
lasts_of p row some micro = record { some = above (pos (shortest_micro p)) row.length some micro.least; most = micro.most }
  where
    above : (q t : ℤ) → pos 1 ≤ℤ q → q ≤ℤ t → pos 0 <ℤ t
    above q t h k = omega (arith, ints)

-- two points on one line, by what is rounded down at each
along : (ge gs al ml nl gm x y : ℤ) → ge ≡ (gs +ℤ al) -ℤ x → gm ≡ (gs +ℤ ml) -ℤ y → nl ≡ ml -ℤ al → ((ge +ℤ nl) +ℤ x) -ℤ y ≡ gm
along ge gs al ml nl gm x y h i j = omega (arith, ints)

from_le : (x : ℤ) → int_le (pos 0) x ≡ true → pos 0 ≤ℤ x
from_le x is = grind (arith, ints)

from_more : (x : ℤ) → int_le (pos 0) x ≡ false → x ≤ℤ pos 0
from_more x is = grind (arith, ints)

-- a point of the line on which an action point lies
point : (ge gs al ml nl x : ℤ) → ge ≡ (gs +ℤ al) -ℤ x → nl ≡ ml -ℤ al → (ge +ℤ nl) +ℤ x ≡ gs +ℤ ml
point ge gs al ml nl x h i = omega (arith, ints)

twice : (g n : ℤ) → g -ℤ (g -ℤ n) ≡ n
twice g n = omega (arith, ints)

-- ---- the corners

module _
    (p : Values) (drift : ℕ) (clock : StraightClock) (course : Course) (even odd : NodeRow)
    (seen : IsSeenNode p drift clock course.action even odd) (holds : HoldsCourse p clock course even odd)
  where
    abbrev g : ℤ
    g = p.macros

    abbrev a : ℤ
    a = course.action

    abbrev scale : Scale
    scale = reading_scale drift p

    abbrev most : ℤ
    most = (reading_scale drift p).micro_to

    abbrev fine : StraightClock
    fine = shared p.macros clock

    -- the readings of the starts, of the action points, and of the lengths
    abbrev s : ℤ
    s = reading_at clock even.start

    abbrev s' : ℤ
    s' = reading_at clock odd.start

    abbrev e : ℤ
    e = reading_at clock (even_action p even course.action)

    abbrev o : ℤ
    o = reading_at clock (odd_action p odd course.action)

    abbrev l : ℤ
    l = reading_of clock (cycle_length_of p even)

    abbrev l' : ℤ
    l' = reading_of clock (cycle_length_of p odd)

    abbrev rest : ℤ
    rest = p.macros -ℤ course.action

    abbrev ahead : ℤ
    ahead = p.correction -ℤ course.action

    numbers : Numbers p
    numbers = numbers_of p seen.sane

    g_some : pos 0 <ℤ g
    g_some = numbers.macros_some

    ticks_from : pos 0 ≤ℤ clock.ticks
    ticks_from = omega (arith, ints, seen.within_drift.ticks_from)

    a_to : pos 0 ≤ℤ rest
    a_to = omega (arith, ints, seen.acts_to, numbers.correction_to)

    ahead_from : pos 0 ≤ℤ ahead
    ahead_from = omega (arith, ints, seen.acts_to)

    before_from : pos 0 ≤ℤ (g -ℤ ahead)
    before_from = omega (arith, ints, seen.acts_from, numbers.correction_to)

    lines : (start length unit macrotick at : ℤ) → OnLine start length unit macrotick g (pos (longest_micro p)) at
        → HasLine clock g most macrotick (reading_at clock start) (reading_of clock length) (reading_at clock at)
    lines start length unit macrotick at line =
        line_reads clock g most macrotick start length unit (pos (longest_micro p)) at (no_less g g_some) (no_less clock.counts seen.within_drift.counts_from) (natural (longest_micro p))
        (most_reading_lem drift clock (pos (longest_micro p)) seen.within_drift) line
      where
        no_less : (a : ℤ) → pos 0 <ℤ a → pos 0 ≤ℤ a
        no_less a h = omega (arith, ints)

        natural : (n : ℕ) → pos 0 ≤ℤ pos n
        natural n = omega (arith, ints)

    even_lasts : Lasts p even
    even_lasts = lasts_of p even numbers.shortest_from seen.regular.even_micro

    odd_lasts : Lasts p odd
    odd_lasts = lasts_of p odd numbers.shortest_from seen.regular.odd_micro

    pub even_line : (macrotick : ℤ) → HasLine clock g most macrotick s l (reading_at clock (instant_of (grid_for p) even false macrotick))
    even_line macrotick = lines even.start (cycle_length_of p even) even.length macrotick (instant_of (grid_for p) even false macrotick) (even_on_line p even macrotick seen.sane even_lasts)

    pub odd_line : (macrotick : ℤ) → macrotick ≤ℤ p.correction → HasLine clock g most macrotick s' l' (reading_at clock (instant_of (grid_for p) odd true macrotick))
    odd_line macrotick to = lines odd.start (cycle_length_of p odd) odd.length macrotick (instant_of (grid_for p) odd true macrotick) (early_on_line p odd macrotick seen.sane odd_lasts to)

    -- the odd cycle starts an even length later
    pub starts_on : s' ≡ s +ℤ l
    starts_on =
        sum (clock.counts *ℤ even.start) (clock.counts *ℤ cycle_length_of p even) (clock.counts *ℤ odd.start) clock.zero
        (ap (λ x. clock.counts *ℤ x) (odd_start_is p even odd seen.regular.double) ∙ mulz-addz even.start (cycle_length_of p even) clock.counts)
      where
        sum : (a b c z : ℤ) → c ≡ a +ℤ b → c +ℤ z ≡ (a +ℤ z) +ℤ b
        sum a b c z h = omega (arith, ints)

    -- all parts of an action point, and some of a length
    whole_even : HasReading fine course.even (g *ℤ e)
    whole_even = all_parts g clock course.even e (omega (arith, ints, g_some)) holds.in_even

    whole_odd : HasReading fine course.odd (g *ℤ o)
    whole_odd = all_parts g clock course.odd o (omega (arith, ints, g_some)) holds.in_odd

    share_of : ℤ → Interval
    share_of n = record { low = floor_of (n *ℤ course.length.low) g; high = ceiling_of (n *ℤ course.length.high) g }

    -- the point so many macroticks ahead of the even action point, but for what is rounded down: by it, and by both action points
    abbrev ahead_by : ℤ → Interval
    ahead_by n = record { low = course.even.low +ℤ share_from scale n course.length.low; high = course.even.high +ℤ share_to scale n course.length.high }

    ahead_one : (n : ℤ) → pos 0 ≤ℤ n → HasReading fine (ahead_by n) ((g *ℤ e) +ℤ (n *ℤ l))
    unfolding share_of
    ahead_one n from = reads_on fine course.even (share_of n) (g *ℤ e) (n *ℤ l) whole_even (some_parts g n clock course.length l g_some ticks_from from holds.even_lasts)

    abbrev mean_by : ℤ → Interval
    mean_by before =
        record { low = mean_from scale before course.even.low course.odd.low -ℤ scale.change; high = mean_to scale before course.even.high course.odd.high +ℤ scale.change }

    ahead_two : (before : ℤ) → pos 0 ≤ℤ before → pos 0 ≤ℤ (g -ℤ before) → HasReading fine (mean_by before) ((g *ℤ e) +ℤ ((g -ℤ before) *ℤ l))
    ahead_two before from to =
        let w = g -ℤ before in
        let d = reading_of clock (odd_action p odd course.action -ℤ even_action p even course.action) in
        let mean : Interval = record { low = mean_from scale before course.even.low course.odd.low; high = mean_to scale before course.even.high course.odd.high } in
        let rows : LiesApart _ _ (pos (cycle_change p)) (cycle_length_of p even) (cycle_length_of p odd) (odd_action p odd course.action -ℤ even_action p even course.action) =
        rows_apart p even odd course.action seen.sane seen.regular seen.acts_from seen.acts_to in
        let near : IsWithin (clock.ticks *ℤ scale.change) (l -ℤ d) =
        change_reads drift clock (pos (cycle_change p)) (cycle_length_of p even) (odd_action p odd course.action -ℤ even_action p even course.action) seen.within_drift rows.even_near in
        let some : IsWithin (g *ℤ (clock.ticks *ℤ scale.change)) (w *ℤ (l -ℤ d)) = mulz_within w (l -ℤ d) g (clock.ticks *ℤ scale.change) to (fewer g before from) near in
        let same : ((g *ℤ e) +ℤ (w *ℤ l)) -ℤ ((before *ℤ e) +ℤ (w *ℤ o)) ≡ w *ℤ (l -ℤ d) =
        sum (g *ℤ e) (before *ℤ e) (w *ℤ e) (w *ℤ l) (w *ℤ o) (w *ℤ d) (w *ℤ (o -ℤ e)) (w *ℤ (l -ℤ d)) (subz-mulz g before e) (mulz-subz o e w)
        (ap (λ x. w *ℤ x) (apart_reads clock (even_action p even course.action) (odd_action p odd course.action))) (mulz-subz l d w) in
        reads_near fine mean scale.change ((before *ℤ e) +ℤ (w *ℤ o)) ((g *ℤ e) +ℤ (w *ℤ l))
        (mean_parts g before w clock course.even course.odd e o g_some ticks_from from to holds.in_even holds.in_odd)
        (subst (λ x. IsWithin ((g *ℤ clock.ticks) *ℤ scale.change) x) (sym same) (subst (λ x. IsWithin x (w *ℤ (l -ℤ d))) (sym (mulz_assoc g clock.ticks scale.change)) some))
      where
        fewer : (g b : ℤ) → pos 0 ≤ℤ b → (g -ℤ b) ≤ℤ g
        fewer g b h = omega (arith, ints)

        sum : (ge be we wl wo wd woe wld : ℤ) → we ≡ ge -ℤ be → woe ≡ wo -ℤ we → woe ≡ wd → wld ≡ wl -ℤ wd → (ge +ℤ wl) -ℤ (be +ℤ wo) ≡ wld
        sum ge be we wl wo wd woe wld h i j k = omega (arith, ints)

    even_starts : ReadsIn clock (even_start scale course) even.start
    unfolding share_of
    even_starts =
        let line = even_line a in
        of_all_parts g clock (even_start scale course) s g_some
        (subst (λ r. HasReading fine (even_start scale course) r) (sum (g *ℤ e) (g *ℤ s) (a *ℤ l) line.less line.is)
        (reads_up fine (record { low = course.even.low -ℤ share_to scale a course.length.high; high = course.even.high -ℤ share_from scale a course.length.low }) most ((g *ℤ e) -ℤ (a *ℤ l)) line.less
        (reads_back fine course.even (share_of a) (g *ℤ e) (a *ℤ l) whole_even (some_parts g a clock course.length l g_some ticks_from seen.acts_from holds.even_lasts)) line.bounds))
      where
        sum : (ge gs al x : ℤ) → ge ≡ (gs +ℤ al) -ℤ x → (ge -ℤ al) +ℤ x ≡ gs
        sum ge gs al x h = omega (arith, ints)

    -- from the even action point on to the start of the odd cycle
    on_to_start : ((g *ℤ e) +ℤ (rest *ℤ l)) +ℤ (even_line a).less ≡ g *ℤ s'
    on_to_start =
        let line = even_line a in
        sum (g *ℤ e) (g *ℤ s) (g *ℤ s') (g *ℤ l) (a *ℤ l) (rest *ℤ l) line.less line.is (ap (λ x. g *ℤ x) starts_on ∙ mulz-addz s l g) (subz-mulz g a l)
      where
        sum : (ge gs gt gl al rl x : ℤ) → ge ≡ (gs +ℤ al) -ℤ x → gt ≡ gs +ℤ gl → rl ≡ gl -ℤ al → (ge +ℤ rl) +ℤ x ≡ gt
        sum ge gs gt gl al rl x h i j = omega (arith, ints)

    odd_starts : ReadsIn clock (odd_start scale course) odd.start
    unfolding share_of
    odd_starts =
        let line = even_line a in
        let late = odd_line a seen.acts_to in
        let back : Interval = record { low = course.odd.low -ℤ share_to scale a course.length.high; high = course.odd.high -ℤ share_from scale a course.length.low } in
        let up : Interval → Interval = λ one. record { low = one.low; high = one.high +ℤ most } in
        let by_even : HasReading fine (up (ahead_by rest)) (g *ℤ s') =
        subst (λ r. HasReading fine (up (ahead_by rest)) r) on_to_start (reads_up fine (ahead_by rest) most ((g *ℤ e) +ℤ (rest *ℤ l)) line.less (ahead_one rest a_to) line.bounds) in
        let by_odd : HasReading fine (up back) (g *ℤ s') =
        subst (λ r. HasReading fine (up back) r) (sum (g *ℤ o) (g *ℤ s') (a *ℤ l') late.less late.is)
        (reads_up fine back most ((g *ℤ o) -ℤ (a *ℤ l')) late.less
        (reads_back fine course.odd (share_of a) (g *ℤ o) (a *ℤ l') whole_odd (some_parts g a clock course.length l' g_some ticks_from seen.acts_from holds.odd_lasts)) late.bounds) in
        let by_both : HasReading fine (up (mean_by a)) (g *ℤ s') =
        subst (λ r. HasReading fine (up (mean_by a)) r) on_to_start (reads_up fine (mean_by a) most ((g *ℤ e) +ℤ (rest *ℤ l)) line.less (ahead_two a seen.acts_from a_to) line.bounds) in
        of_all_parts g clock (odd_start scale course) s' g_some
        (meet_by fine (λ x. x) (λ x. x +ℤ most) (ahead_by rest)
        (record { low = int_max back.low (mean_by a).low; high = int_min back.high (mean_by a).high }) (g *ℤ s') by_even
        (meet_by fine (λ x. x) (λ x. x +ℤ most) back (mean_by a) (g *ℤ s') by_odd by_both))
      where
        sum : (go gs al x : ℤ) → go ≡ (gs +ℤ al) -ℤ x → (go -ℤ al) +ℤ x ≡ gs
        sum go gs al x h = omega (arith, ints)

    -- a macrotick on the same line as the action point, so many macroticks ahead
    on_along : (n start long action_reads at : ℤ) (line : HasLine clock g most a start long action_reads) (macrotick : ℤ) (other : HasLine clock g most macrotick start long at)
        → n ≡ macrotick -ℤ a → ((((g *ℤ action_reads) +ℤ (n *ℤ long)) +ℤ line.less) -ℤ other.less) ≡ g *ℤ at
    on_along n start long action_reads at line macrotick other is =
        along (g *ℤ action_reads) (g *ℤ start) (a *ℤ long) (macrotick *ℤ long) (n *ℤ long) (g *ℤ at) line.less other.less line.is other.is (ap (λ x. x *ℤ long) is ∙ subz-mulz macrotick a long)

    -- up and down by what is rounded down at both
    up_and_down : (one : Interval) (n start long action_reads at : ℤ) (line : HasLine clock g most a start long action_reads) (macrotick : ℤ) (other : HasLine clock g most macrotick start long at)
        → n ≡ macrotick -ℤ a → HasReading fine one ((g *ℤ action_reads) +ℤ (n *ℤ long)) → HasReading fine (record { low = one.low -ℤ most; high = one.high +ℤ most }) (g *ℤ at)
    up_and_down one n start long action_reads at line macrotick other is first =
        subst (λ r. HasReading fine (record { low = one.low -ℤ most; high = one.high +ℤ most }) r) (on_along n start long action_reads at line macrotick other is)
        (reads_down fine (record { low = one.low; high = one.high +ℤ most }) most (((g *ℤ action_reads) +ℤ (n *ℤ long)) +ℤ line.less) other.less
        (reads_up fine one most ((g *ℤ action_reads) +ℤ (n *ℤ long)) line.less first line.bounds) other.bounds)

    -- the point at which the offset correction would start, before it is rounded down
    on_to_point : (n start long action_reads : ℤ) (line : HasLine clock g most a start long action_reads) → n ≡ p.correction -ℤ a
        → ((g *ℤ action_reads) +ℤ (n *ℤ long)) +ℤ line.less ≡ (g *ℤ start) +ℤ (p.correction *ℤ long)
    on_to_point n start long action_reads line is =
        point (g *ℤ action_reads) (g *ℤ start) (a *ℤ long) (p.correction *ℤ long) (n *ℤ long) line.less line.is (ap (λ x. x *ℤ long) is ∙ subz-mulz p.correction a long)

    up_to_point : (one : Interval) (n start long action_reads : ℤ) (line : HasLine clock g most a start long action_reads) → n ≡ p.correction -ℤ a
        → HasReading fine one ((g *ℤ action_reads) +ℤ (n *ℤ long))
        → HasReading fine (record { low = one.low; high = one.high +ℤ most }) ((g *ℤ start) +ℤ (p.correction *ℤ long))
    up_to_point one n start long action_reads line is first =
        subst (λ r. HasReading fine (record { low = one.low; high = one.high +ℤ most }) r) (on_to_point n start long action_reads line is)
        (reads_up fine one most ((g *ℤ action_reads) +ℤ (n *ℤ long)) line.less first line.bounds)

    again : g -ℤ (g -ℤ ahead) ≡ ahead
    again = twice g ahead

    even_point : PointReadsIn clock g (even_turn scale course) even.start p.correction (cycle_length_of p even)
    even_point =
        let line = even_line a in
        let before = g -ℤ ahead in
        meet_by fine (λ x. x) (λ x. x +ℤ most) (ahead_by ahead) (mean_by before) ((g *ℤ s) +ℤ (p.correction *ℤ l))
        (up_to_point (ahead_by ahead) ahead s l e line refl (ahead_one ahead ahead_from))
        (up_to_point (mean_by before) (g -ℤ before) s l e line again (ahead_two before before_from (subst (λ x. pos 0 ≤ℤ x) (sym again) ahead_from)))

    odd_point : PointReadsIn clock g (odd_turn scale course) odd.start p.correction (cycle_length_of p odd)
    unfolding share_of
    odd_point =
        up_to_point (record { low = course.odd.low +ℤ share_from scale ahead course.length.low; high = course.odd.high +ℤ share_to scale ahead course.length.high }) ahead s' l' o
        (odd_line a seen.acts_to) refl
        (reads_on fine course.odd (share_of ahead) (g *ℤ o) (ahead *ℤ l') whole_odd (some_parts g ahead clock course.length l' g_some ticks_from ahead_from holds.odd_lasts))

    even_turns : ReadsIn clock (rounded_down scale (even_turn scale course)) (instant_of (grid_for p) even false p.correction)
    even_turns =
        let at = reading_at clock (instant_of (grid_for p) even false p.correction) in
        let line = even_line a in
        let other = even_line p.correction in
        let before = g -ℤ ahead in
        let one = up_and_down (ahead_by ahead) ahead s l e at line p.correction other refl (ahead_one ahead ahead_from) in
        let two =
        up_and_down (mean_by before) (g -ℤ before) s l e at line p.correction other again (ahead_two before before_from (subst (λ x. pos 0 ≤ℤ x) (sym again) ahead_from)) in
        of_all_parts g clock (rounded_down scale (even_turn scale course)) at g_some (meet_by fine (λ x. x -ℤ most) (λ x. x +ℤ most) (ahead_by ahead) (mean_by before) (g *ℤ at) one two)

    -- a macrotick of the odd cycle, ahead of the action point or behind it
    odd_ahead : (macrotick : ℤ) → macrotick ≤ℤ p.correction → pos 0 ≤ℤ (macrotick -ℤ a)
        → HasReading clock
        (record {
          low = (course.odd.low +ℤ share_from scale (macrotick -ℤ a) course.length.low) -ℤ most;
          high = (course.odd.high +ℤ share_to scale (macrotick -ℤ a) course.length.high) +ℤ most;
        })
        (reading_at clock (instant_of (grid_for p) odd true macrotick))
    unfolding share_of
    odd_ahead macrotick to from =
        let n = macrotick -ℤ a in
        let at = reading_at clock (instant_of (grid_for p) odd true macrotick) in
        let one : Interval = record { low = course.odd.low +ℤ share_from scale n course.length.low; high = course.odd.high +ℤ share_to scale n course.length.high } in
        of_all_parts g clock (record { low = one.low -ℤ most; high = one.high +ℤ most }) at g_some
        (up_and_down one n s' l' o at (odd_line a seen.acts_to) macrotick (odd_line macrotick to) refl
        (reads_on fine course.odd (share_of n) (g *ℤ o) (n *ℤ l') whole_odd (some_parts g n clock course.length l' g_some ticks_from from holds.odd_lasts)))

    odd_behind : (macrotick : ℤ) → macrotick ≤ℤ p.correction → (macrotick -ℤ a) ≤ℤ pos 0
        → HasReading clock
        (record {
          low = (course.odd.low +ℤ share_from scale (macrotick -ℤ a) course.length.high) -ℤ most;
          high = (course.odd.high +ℤ share_to scale (macrotick -ℤ a) course.length.low) +ℤ most;
        })
        (reading_at clock (instant_of (grid_for p) odd true macrotick))
    odd_behind macrotick to behind =
        let n = macrotick -ℤ a in
        let at = reading_at clock (instant_of (grid_for p) odd true macrotick) in
        let back : Interval = record { low = floor_of (n *ℤ course.length.high) g; high = ceiling_of (n *ℤ course.length.low) g } in
        let one : Interval = record { low = course.odd.low +ℤ share_from scale n course.length.high; high = course.odd.high +ℤ share_to scale n course.length.low } in
        of_all_parts g clock (record { low = one.low -ℤ most; high = one.high +ℤ most }) at g_some
        (up_and_down one n s' l' o at (odd_line a seen.acts_to) macrotick (odd_line macrotick to) refl
        (reads_on fine course.odd back (g *ℤ o) (n *ℤ l') whole_odd (parts_back g n clock course.length l' g_some ticks_from behind holds.odd_lasts)))

    odd_macroticks : (macrotick : ℤ) → macrotick ≤ℤ p.correction → ReadsIn clock (odd_macrotick scale course macrotick) (instant_of (grid_for p) odd true macrotick)
    odd_macroticks macrotick to = by (int_le (pos 0) (macrotick -ℤ a)) refl
      where
        by : (forward : Bool) → int_le (pos 0) (macrotick -ℤ a) ≡ forward
            → HasReading clock
            (
            if forward
            then record {
              low = (course.odd.low +ℤ share_from scale (macrotick -ℤ a) course.length.low) -ℤ most;
              high = (course.odd.high +ℤ share_to scale (macrotick -ℤ a) course.length.high) +ℤ most;
            }
            else record {
              low = (course.odd.low +ℤ share_from scale (macrotick -ℤ a) course.length.high) -ℤ most;
              high = (course.odd.high +ℤ share_to scale (macrotick -ℤ a) course.length.low) +ℤ most;
            }
            )
            (reading_at clock (instant_of (grid_for p) odd true macrotick))
        by true is = odd_ahead macrotick to (from_le (macrotick -ℤ a) is)
        by false is = odd_behind macrotick to (from_more (macrotick -ℤ a) is)

    corners : HasCorners p scale clock course even odd
    corners =
        record {
          even_starts = even_starts;
          odd_starts = odd_starts;
          even_point = even_point;
          odd_point = odd_point;
          even_turns = even_turns;
          odd_turns = odd_ahead p.correction (itself p.correction) ahead_from;
          macroticks = odd_macroticks;
        }
      where
        itself : (x : ℤ) → x ≤ℤ x
        itself x = omega (arith, ints)

pub corners_lie_lem : CornersLie
corners_lie_lem p drift clock course even odd seen holds = corners p drift clock course even odd seen holds
