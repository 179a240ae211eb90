-- How far macroticks of the nodes that were seen lie apart.
use Rattle.std.proofs.Common.{◌≡◌, ℕ, ℤ, pos, Bool, true, false, List, [], ◌∷◌, All, map, refl, ap, sym, subst, ◌∙◌, arith}
use Rattle.std.specs.Prelude.{◌+ℤ◌, ◌-ℤ◌, ◌*ℤ◌, ◌≤ℤ◌, ◌<ℤ◌, int_lt, if◌then◌else◌, Contains}
use Rattle.std.specs.Int.{int_max}
use Rattle.std.proofs.lemmas.Int.{ints}
use Rattle.std.proofs.lemmas.List.Elements.{All-cons, All-contains, All-head, All-nil, All-tail, All-weaker}
use Rattle.std.proofs.lemmas.Simd.{map-map}
use Rattle.fr_base.specs.Within.{IsWithin}
use Rattle.fr_base.specs.declared.node_row.NodeRow.{NodeRow}
use Rattle.fr_cluster.specs.Values.{Values}
use Rattle.fr_cluster.specs.Sane.{IsSane}
use Rattle.fr_midpoint.proofs.Products.{lez_of_mulz-lez, mulz-addz, mulz-lez_left, mulz-subz, mulz_assoc, mulz_comm, mulz_from, subz-mulz}
use Rattle.fr_time.specs.Position.{even_position, grid_for}
use Rattle.fr_time.specs.Instant.{instant_of}
use Rattle.fr_time.proofs.Floors.{share_of_none}
use Rattle.fr_time.proofs.Placing.{is_grid_lem}
use Rattle.fr_bound.specs.Bounds.{longest_micro}
use Rattle.fr_bound.specs.Sync.{cycle_length_of}
use Rattle.fr_skew.specs.Spreads.{spread_of}
use Rattle.fr_skew.proofs.Differences.{within_spread}
use Rattle.fr_precision.proofs.InstantLaws.{before_correction}
use Rattle.fr_course.specs.declared.intervals.Interval.{Interval}
use Rattle.fr_course.specs.Scales.{Scale}
use Rattle.fr_course.specs.Readings.{least_ticks, most_ticks, reading_scale}
use Rattle.fr_course.specs.declared.courses.Course.{Course}
use Rattle.fr_course.specs.Course.{even_start, even_turn, odd_start, odd_turn}
use Rattle.fr_course.specs.Spread.{least_at, least_spread, most_at, most_spread}
use Rattle.fr_seen.specs.Clocks.{reading_at, reading_of, HasReading, IsWithinDrift, ReadsIn, StraightClock}
use Rattle.fr_seen.specs.Courses.{rounded_down, HasCorners}
use Rattle.fr_seen.specs.Skews.{spread_among, EvenSkewIsSeen, HasSkew, IsOnCourse, OddSkewIsReached, SeenNode}
use Rattle.fr_seen.proofs.Readings.{least_ticks_lem, most_reading_lem, most_ticks_lem}
use Rattle.fr_seen.proofs.Doubles.{micros_of, numbers_of}
use Rattle.fr_seen.proofs.CourseLaws.{apart_reads}
use Rattle.fr_seen.proofs.CornerLaws.{corners_lie_lem, even_line, starts_on, HasLine}
use Rattle.fr_seen.proofs.Pairs.{max_left, max_right, most_spread_above, pair_within, pairs_least, spread_of_all, wider}

trans : (a b c : ℤ) → a ≤ℤ b → b ≤ℤ c → a ≤ℤ c
trans a b c h k = omega (arith, ints)

pub no_less : (a : ℤ) → pos 0 <ℤ a → pos 0 ≤ℤ a
no_less a h = omega (arith, ints)

natural : (n : ℕ) → pos 0 ≤ℤ pos n
natural n = omega (arith, ints)

-- ---- two lines

swapped : (a b c : ℤ) → a *ℤ (b *ℤ c) ≡ b *ℤ (a *ℤ c)
swapped a b c = sym (mulz_assoc a b c) ∙ ap (λ x. x *ℤ c) (mulz_comm a b) ∙ mulz_assoc b a c

-- two instants on their ways lie no further apart than the points that are rounded down to them, and a microtick
pub points_apart :
    (clock : StraightClock) (parts most macrotick bound start long at other_start other_long other_at : ℤ)
    → pos 0 <ℤ parts
    → HasLine clock parts most macrotick start long at → HasLine clock parts most macrotick other_start other_long other_at
    → (((parts *ℤ start) +ℤ (macrotick *ℤ long)) -ℤ ((parts *ℤ other_start) +ℤ (macrotick *ℤ other_long))) ≤ℤ ((parts *ℤ clock.ticks) *ℤ bound)
    → (at -ℤ other_at) ≤ℤ (clock.ticks *ℤ (bound +ℤ most))
points_apart clock parts most macrotick bound start long at other_start other_long other_at some line other near =
    let g = parts in
    let m = macrotick in
    let wide : g *ℤ (clock.ticks *ℤ (bound +ℤ most)) ≡ ((g *ℤ clock.ticks) *ℤ bound) +ℤ ((g *ℤ clock.ticks) *ℤ most) =
    sym (mulz_assoc g clock.ticks (bound +ℤ most)) ∙ mulz-addz bound most (g *ℤ clock.ticks) in
    lez_of_mulz-lez (at -ℤ other_at) (clock.ticks *ℤ (bound +ℤ most)) g some
    (ends ((at -ℤ other_at) *ℤ g) (g *ℤ (at -ℤ other_at)) (g *ℤ at) (g *ℤ other_at) (g *ℤ start) (g *ℤ other_start) (m *ℤ long) (m *ℤ other_long) line.less other.less ((g *ℤ clock.ticks) *ℤ bound) ((g *ℤ clock.ticks) *ℤ most)
    (g *ℤ (clock.ticks *ℤ (bound +ℤ most))) ((clock.ticks *ℤ (bound +ℤ most)) *ℤ g)
    (mulz_comm (at -ℤ other_at) g) (mulz-subz at other_at g) line.is other.is near line.bounds.low other.bounds.high wide (mulz_comm (clock.ticks *ℤ (bound +ℤ most)) g))
  where
    ends :
        (dg gd ga go gs gt ml mo x y b t w wg : ℤ)
        → dg ≡ gd → gd ≡ ga -ℤ go → ga ≡ (gs +ℤ ml) -ℤ x → go ≡ (gt +ℤ mo) -ℤ y
        → ((gs +ℤ ml) -ℤ (gt +ℤ mo)) ≤ℤ b → pos 0 ≤ℤ x → y ≤ℤ t → w ≡ b +ℤ t → wg ≡ w → dg ≤ℤ wg
    ends dg gd ga go gs gt ml mo x y b t w wg a c d e f h i j k = omega (arith, ints)

-- so they do where their starts and two later points lie near
pub lines_apart :
    (clock : StraightClock) (parts most end macrotick bound start long at other_start other_long other_at : ℤ)
    → pos 0 <ℤ parts → pos 0 <ℤ end → pos 0 ≤ℤ macrotick → macrotick ≤ℤ end
    → HasLine clock parts most macrotick start long at → HasLine clock parts most macrotick other_start other_long other_at
    → (start -ℤ other_start) ≤ℤ (clock.ticks *ℤ bound)
    → (((parts *ℤ start) +ℤ (end *ℤ long)) -ℤ ((parts *ℤ other_start) +ℤ (end *ℤ other_long))) ≤ℤ ((parts *ℤ clock.ticks) *ℤ bound)
    → (at -ℤ other_at) ≤ℤ (clock.ticks *ℤ (bound +ℤ most))
lines_apart clock parts most end macrotick bound start long at other_start other_long other_at some end_some from to line other by_start by_end =
    let g = parts in
    let m = macrotick in
    let rest = end -ℤ m in
    let ds = start -ℤ other_start in
    let dl = long -ℤ other_long in
    let b = g *ℤ (clock.ticks *ℤ bound) in
    let begin : (g *ℤ ds) ≤ℤ b = mulz-lez_left ds (clock.ticks *ℤ bound) g by_start (no_less g some) in
    let close : ((g *ℤ ds) +ℤ (end *ℤ dl)) ≤ℤ b =
    closes (g *ℤ start) (g *ℤ other_start) (end *ℤ long) (end *ℤ other_long) (g *ℤ ds) (end *ℤ dl) ((g *ℤ clock.ticks) *ℤ bound) b
    (mulz-subz start other_start g) (mulz-subz long other_long end) (mulz_assoc g clock.ticks bound) by_end in
    let early : (rest *ℤ (g *ℤ ds)) ≤ℤ (rest *ℤ b) = mulz-lez_left (g *ℤ ds) b rest begin (left m end to) in
    let late : (m *ℤ ((g *ℤ ds) +ℤ (end *ℤ dl))) ≤ℤ (m *ℤ b) = mulz-lez_left ((g *ℤ ds) +ℤ (end *ℤ dl)) b m close from in
    let between : (((g *ℤ ds) +ℤ (m *ℤ dl)) *ℤ end) ≤ℤ (b *ℤ end) =
    weighs (rest *ℤ (g *ℤ ds)) (rest *ℤ b) (end *ℤ (g *ℤ ds)) (m *ℤ (g *ℤ ds)) (end *ℤ b) (m *ℤ b) (m *ℤ ((g *ℤ ds) +ℤ (end *ℤ dl))) (m *ℤ (end *ℤ dl)) (end *ℤ (m *ℤ dl)) (end *ℤ ((g *ℤ ds) +ℤ (m *ℤ dl)))
    (((g *ℤ ds) +ℤ (m *ℤ dl)) *ℤ end) (b *ℤ end)
    (subz-mulz end m (g *ℤ ds)) (subz-mulz end m b) (mulz-addz (g *ℤ ds) (end *ℤ dl) m) (swapped m end dl) (mulz-addz (g *ℤ ds) (m *ℤ dl) end)
    (mulz_comm ((g *ℤ ds) +ℤ (m *ℤ dl)) end) (mulz_comm b end) early late in
    points_apart clock parts most macrotick bound start long at other_start other_long other_at some line other
    (opens (g *ℤ start) (g *ℤ other_start) (m *ℤ long) (m *ℤ other_long) (g *ℤ ds) (m *ℤ dl) ((g *ℤ clock.ticks) *ℤ bound) b
    (mulz-subz start other_start g) (mulz-subz long other_long m) (mulz_assoc g clock.ticks bound) (lez_of_mulz-lez ((g *ℤ ds) +ℤ (m *ℤ dl)) b end end_some between))
  where
    left : (m e : ℤ) → m ≤ℤ e → pos 0 ≤ℤ (e -ℤ m)
    left m e h = omega (arith, ints)

    closes : (gs gt el em gd ed q b : ℤ) → gd ≡ gs -ℤ gt → ed ≡ el -ℤ em → q ≡ b → ((gs +ℤ el) -ℤ (gt +ℤ em)) ≤ℤ q → (gd +ℤ ed) ≤ℤ b
    closes gs gt el em gd ed q b h i j k = omega (arith, ints)

    opens : (gs gt el em gd ed q b : ℤ) → gd ≡ gs -ℤ gt → ed ≡ el -ℤ em → q ≡ b → (gd +ℤ ed) ≤ℤ b → ((gs +ℤ el) -ℤ (gt +ℤ em)) ≤ℤ q
    opens gs gt el em gd ed q b h i j k = omega (arith, ints)

    weighs :
        (rd rb ed md eb mb mc me em ef fe be : ℤ)
        → rd ≡ ed -ℤ md → rb ≡ eb -ℤ mb → mc ≡ md +ℤ me → me ≡ em → ef ≡ ed +ℤ em → fe ≡ ef → be ≡ eb → rd ≤ℤ rb → mc ≤ℤ mb → fe ≤ℤ be
    weighs rd rb ed md eb mb mc me em ef fe be a b c d e f g h i = omega (arith, ints)

-- ---- lists

unmapped : {X : Type 0} (P : ℤ → Type 0) (f : X → ℤ) (xs : List X) → All P (map f xs) → All (λ x. P (f x)) xs
unmapped P f [] all = All-nil (λ x. P (f x))
unmapped P f (x ∷ xs) all = All-cons (λ y. P (f y)) x xs (All-head P (f x) (map f xs) all) (unmapped P f xs (All-tail P (f x) (map f xs) all))

pair_in_spread : {X : Type 0} (f : X → ℤ) (xs : List X) (a b : X) → Contains xs a → Contains xs b → (f a -ℤ f b) ≤ℤ spread_of (map f xs)
pair_in_spread f xs a b here there =
    let most = spread_of (map f xs) in
    let Near : ℤ → Type 0 = λ x. All (λ y. (x -ℤ y) ≤ℤ most) (map f xs) in
    All-contains (λ x. (f a -ℤ f x) ≤ℤ most) xs b
    (unmapped (λ y. (f a -ℤ y) ≤ℤ most) f xs (All-contains (λ x. Near (f x)) xs a (unmapped Near f xs (within_spread (map f xs))) here)) there

spread_above : (xs : List ℤ) → pos 0 ≤ℤ spread_of xs
spread_above [] = none
  where
    none : pos 0 ≤ℤ pos 0
    none = omega (arith, ints)
spread_above (x ∷ xs) =
    let most = spread_of (x ∷ xs) in
    let first : (x -ℤ x) ≤ℤ most =
    All-head (λ y. (x -ℤ y) ≤ℤ most) x xs (All-head (λ a. All (λ b. (a -ℤ b) ≤ℤ most) (x ∷ xs)) x xs (within_spread (x ∷ xs))) in
    itself x most first
  where
    itself : (x m : ℤ) → (x -ℤ x) ≤ℤ m → pos 0 ≤ℤ m
    itself x m h = omega (arith, ints)

-- ---- macrotick 0

pub begins_at : (p : Values) (row : NodeRow) → IsSane p → IsWithin p.rate_limit row.rate → instant_of (grid_for p) row false (pos 0) ≡ row.start
begins_at p row sane within =
    let numbers = numbers_of p sane in
    let micros = micros_of p row.rate (pos 0) sane within (itself (pos 0)) (no_less p.macros numbers.macros_some) in
    ap (λ at. row.start +ℤ (at *ℤ row.length))
    (share_of_none (pos 0) (p.micros +ℤ row.rate) p.macros refl (one p.macros numbers.macros_some) (trans (pos 0) (even_position (grid_for p) row.rate (pos 0)) (p.micros +ℤ row.rate) micros.share_from micros.share_to))
    ∙ none row.start row.length
  where
    itself : (a : ℤ) → a ≤ℤ a
    itself a = omega (arith, ints)

    one : (a : ℤ) → pos 0 <ℤ a → pos 1 ≤ℤ a
    one a h = omega (arith, ints)

    none : (s l : ℤ) → s +ℤ (pos 0 *ℤ l) ≡ s
    none s l = omega (arith, ints)

pub odd_begins_at : (p : Values) (row : NodeRow) → IsSane p → IsWithin p.rate_limit row.rate → instant_of (grid_for p) row true (pos 0) ≡ row.start
odd_begins_at p row sane within = before_correction p row (pos 0) (numbers_of p sane).correction_from ∙ begins_at p row sane within

-- the points at which two cycles end, so many parts of them
pub at_end : (g s l t s' l' t' bound ticks : ℤ) → pos 0 ≤ℤ g → t ≡ s +ℤ l → t' ≡ s' +ℤ l' → (t -ℤ t') ≤ℤ (ticks *ℤ bound)
    → (((g *ℤ s) +ℤ (g *ℤ l)) -ℤ ((g *ℤ s') +ℤ (g *ℤ l'))) ≤ℤ ((g *ℤ ticks) *ℤ bound)
at_end g s l t s' l' t' bound ticks from is other_is near =
    close (g *ℤ s) (g *ℤ l) (g *ℤ t) (g *ℤ s') (g *ℤ l') (g *ℤ t') (g *ℤ (t -ℤ t')) (g *ℤ (ticks *ℤ bound)) ((g *ℤ ticks) *ℤ bound)
    (ap (λ x. g *ℤ x) is ∙ mulz-addz s l g) (ap (λ x. g *ℤ x) other_is ∙ mulz-addz s' l' g) (mulz-subz t t' g) (mulz-lez_left (t -ℤ t') (ticks *ℤ bound) g near from) (mulz_assoc g ticks bound)
  where
    close : (gs gl gt gs' gl' gt' d b c : ℤ) → gt ≡ gs +ℤ gl → gt' ≡ gs' +ℤ gl' → d ≡ gt -ℤ gt' → d ≤ℤ b → c ≡ b → ((gs +ℤ gl) -ℤ (gs' +ℤ gl')) ≤ℤ c
    close gs gl gt gs' gl' gt' d b c h i j k l = omega (arith, ints)

pub sum : (a x m : ℤ) → pos 0 ≤ℤ a → pos 0 ≤ℤ m → a ≤ℤ x → pos 0 ≤ℤ (x +ℤ m)
sum a x m h k l = omega (arith, ints)

-- ---- skews

module _ (p : Values) (drift : ℕ) (clock : StraightClock) (sane : IsSane p) (is : IsWithinDrift drift clock) where
  abbrev scale : Scale
  scale = reading_scale drift p

  abbrev most : ℤ
  most = (reading_scale drift p).micro_to

  pub ticks_from : pos 0 ≤ℤ clock.ticks
  ticks_from = no_less clock.ticks is.ticks_from

  counts_from : pos 0 ≤ℤ clock.counts
  counts_from = no_less clock.counts is.counts_from

  pub most_from : pos 0 ≤ℤ most
  most_from =
      lez_of_mulz-lez (pos 0) most clock.ticks is.ticks_from
      (above (clock.counts *ℤ pos (longest_micro p)) (clock.ticks *ℤ most) (most *ℤ clock.ticks) (pos 0 *ℤ clock.ticks)
      (mulz_from clock.counts (pos (longest_micro p)) counts_from (natural (longest_micro p))) (most_reading_lem drift clock (pos (longest_micro p)) is) (mulz_comm most clock.ticks) (none clock.ticks))
    where
      none : (t : ℤ) → pos 0 *ℤ t ≡ pos 0
      none t = omega (arith, ints)

      above : (a b c z : ℤ) → pos 0 ≤ℤ a → a ≤ℤ b → c ≡ b → z ≡ pos 0 → z ≤ℤ c
      above a b c z h i j k = omega (arith, ints)

  -- instants whose readings lie no further apart
  pub ticks_apart : (bound from to : ℤ) → (reading_at clock to -ℤ reading_at clock from) ≤ℤ (clock.ticks *ℤ bound) → (to -ℤ from) ≤ℤ most_ticks drift bound
  ticks_apart bound from to near = most_ticks_lem drift clock bound (to -ℤ from) is (subst (λ x. x ≤ℤ (clock.ticks *ℤ bound)) (apart_reads clock from to) near)

  -- a bound in readings from 0 on is one in ticks from 0 on
  pub bound_above : (bound : ℤ) → pos 0 ≤ℤ bound → pos 0 ≤ℤ most_ticks drift bound
  bound_above bound from = most_ticks_lem drift clock bound (pos 0) is (none clock.counts (clock.ticks *ℤ bound) (mulz_from clock.ticks bound ticks_from from))
    where
      none : (c b : ℤ) → pos 0 ≤ℤ b → (c *ℤ pos 0) ≤ℤ b
      none c b h = omega (arith, ints)

  -- what lies at least so far apart by its intervals, of which each may reach so far back
  least_with : (slack : ℤ) (c : SeenNode → Interval) (t : SeenNode → ℤ) (nodes : List SeenNode) → pos 0 ≤ℤ slack
      → All (λ n. HasReading clock (record { low = (c n).low -ℤ slack; high = (c n).high }) (reading_at clock (t n))) nodes
      → (clock.ticks *ℤ least_spread (map c nodes)) ≤ℤ ((clock.counts *ℤ spread_of (map t nodes)) +ℤ (clock.ticks *ℤ slack))
  least_with slack c t nodes slack_from all =
      let Lies : SeenNode → Type 0 = λ n. HasReading clock (record { low = (c n).low -ℤ slack; high = (c n).high }) (reading_at clock (t n)) in
      let most = spread_of (map t nodes) in
      pairs_least clock.ticks ((clock.counts *ℤ most) +ℤ (clock.ticks *ℤ slack))
      (sum (clock.counts *ℤ most) (clock.ticks *ℤ slack) (mulz_from clock.counts most counts_from (spread_above (map t nodes))) (mulz_from clock.ticks slack ticks_from slack_from)) c nodes
      (λ a b here there.
      let first = All-contains Lies nodes a all here in
      let second = All-contains Lies nodes b all there in
      apart (clock.ticks *ℤ ((c a).low -ℤ slack)) (clock.ticks *ℤ (c a).low) (clock.ticks *ℤ slack) (clock.ticks *ℤ (c b).high) (clock.ticks *ℤ ((c a).low -ℤ (c b).high)) (reading_at clock (t a)) (reading_at clock (t b))
      (clock.counts *ℤ (t a -ℤ t b)) (clock.counts *ℤ most) (mulz-subz (c a).low slack clock.ticks) (mulz-subz (c a).low (c b).high clock.ticks) first.low second.high
      (apart_reads clock (t b) (t a)) (mulz-lez_left (t a -ℤ t b) most clock.counts (pair_in_spread t nodes a b here there) counts_from))
    where
      sum : (a b : ℤ) → pos 0 ≤ℤ a → pos 0 ≤ℤ b → pos 0 ≤ℤ (a +ℤ b)
      sum a b h k = omega (arith, ints)

      apart : (ls l s h d x y e m : ℤ) → ls ≡ l -ℤ s → d ≡ l -ℤ h → ls ≤ℤ x → y ≤ℤ h → x -ℤ y ≡ e → e ≤ℤ m → d ≤ℤ (m +ℤ s)
      apart ls l s h d x y e m a b c f g i = omega (arith, ints)

  least_at_start : (c : SeenNode → Interval) (t : SeenNode → ℤ) (nodes : List SeenNode) → All (λ n. ReadsIn clock (c n) (t n)) nodes
      → least_ticks drift (least_spread (map c nodes)) ≤ℤ spread_of (map t nodes)
  least_at_start c t nodes all =
      let least = least_spread (map c nodes) in
      let most = spread_of (map t nodes) in
      least_ticks_lem drift clock least most is
      (without (clock.ticks *ℤ least) (clock.counts *ℤ most) clock.ticks
      (least_with (pos 0) c t nodes (itself (pos 0))
      (All-weaker (λ n. ReadsIn clock (c n) (t n)) (λ n. HasReading clock (record { low = (c n).low -ℤ pos 0; high = (c n).high }) (reading_at clock (t n)))
      (λ n lies. record { low = subst (λ x. (clock.ticks *ℤ x) ≤ℤ reading_at clock (t n)) (less_none (c n).low) lies.low; high = lies.high }) nodes all)))
    where
      itself : (a : ℤ) → a ≤ℤ a
      itself a = omega (arith, ints)

      less_none : (a : ℤ) → a ≡ a -ℤ pos 0
      less_none a = omega (arith, ints)

      without : (a b t : ℤ) → a ≤ℤ (b +ℤ (t *ℤ pos 0)) → a ≤ℤ b
      without a b t h = omega (arith, ints)

  least_at_turn : (c : SeenNode → Interval) (t : SeenNode → ℤ) (nodes : List SeenNode) → All (λ n. ReadsIn clock (rounded_down scale (c n)) (t n)) nodes
      → least_ticks drift (least_spread (map c nodes) -ℤ most) ≤ℤ spread_of (map t nodes)
  least_at_turn c t nodes all =
      let least = least_spread (map c nodes) in
      let wide = spread_of (map t nodes) in
      least_ticks_lem drift clock (least -ℤ most) wide is
      (without (clock.ticks *ℤ least) (clock.counts *ℤ wide) (clock.ticks *ℤ most) (clock.ticks *ℤ (least -ℤ most)) (mulz-subz least most clock.ticks) (least_with most c t nodes most_from all))
    where
      without : (a b m d : ℤ) → d ≡ a -ℤ m → a ≤ℤ (b +ℤ m) → d ≤ℤ b
      without a b m d h k = omega (arith, ints)

  -- the corners of nodes on their courses
  pub corners_of : (n : SeenNode) → IsOnCourse p drift clock n → HasCorners p scale clock n.course n.even n.odd
  corners_of n on = corners_lie_lem p drift clock n.course n.even n.odd on.seen on.holds

  -- the greater of both least distances is reached where it comes from
  reached : (odd : Bool) (rows : List NodeRow) (one other : ℤ) → least_ticks drift one ≤ℤ spread_among p odd (pos 0) rows → least_ticks drift other ≤ℤ spread_among p odd p.correction rows
      → HasSkew p odd rows (least_ticks drift (int_max one other))
  reached odd rows one other begins turns = by (int_lt other one)
    where
      by : (first : Bool) → HasSkew p odd rows (least_ticks drift (if first then one else other))
      by true = record { macrotick = pos 0; from = natural 0; to = (numbers_of p sane).macros_some; reached = begins }
      by false = record { macrotick = p.correction; from = (numbers_of p sane).correction_from; to = (is_grid_lem p sane).correction_to; reached = turns }

  -- over rows as over nodes
  pub among : (odd : Bool) (macrotick : ℤ) (row : SeenNode → NodeRow) (nodes : List SeenNode)
      → spread_of (map (λ n. instant_of (grid_for p) (row n) odd macrotick) nodes) ≡ spread_among p odd macrotick (map row nodes)
  among odd macrotick row nodes = ap spread_of (sym (map-map (λ r. instant_of (grid_for p) r odd macrotick) row nodes))

  -- the intervals of a corner, over nodes as over courses
  least_corner : (corner : Scale → Course → Interval) (nodes : List SeenNode)
      → least_spread (map (λ n. corner scale n.course) nodes) ≡ least_at scale corner (map (λ n. n.course) nodes)
  least_corner corner nodes = ap least_spread (sym (map-map (corner scale) (λ (n : SeenNode). n.course) nodes))

  most_corner : (corner : Scale → Course → Interval) (nodes : List SeenNode)
      → most_spread (map (λ n. corner scale n.course) nodes) ≡ most_at scale corner (map (λ n. n.course) nodes)
  most_corner corner nodes = ap most_spread (sym (map-map (corner scale) (λ (n : SeenNode). n.course) nodes))

  starts_apart : (corner : Scale → Course → Interval) (odd : Bool) (row : SeenNode → NodeRow) (nodes : List SeenNode)
      → All (λ n. ReadsIn clock (corner scale n.course) (instant_of (grid_for p) (row n) odd (pos 0))) nodes
      → least_ticks drift (least_at scale corner (map (λ n. n.course) nodes)) ≤ℤ spread_among p odd (pos 0) (map row nodes)
  starts_apart corner odd row nodes all =
      subst (λ x. least_ticks drift x ≤ℤ spread_among p odd (pos 0) (map row nodes)) (least_corner corner nodes)
      (subst (λ x. least_ticks drift (least_spread (map (λ n. corner scale n.course) nodes)) ≤ℤ x) (among odd (pos 0) row nodes)
      (least_at_start (λ n. corner scale n.course) (λ n. instant_of (grid_for p) (row n) odd (pos 0)) nodes all))

  turns_apart : (corner : Scale → Course → Interval) (odd : Bool) (row : SeenNode → NodeRow) (nodes : List SeenNode)
      → All (λ n. ReadsIn clock (rounded_down scale (corner scale n.course)) (instant_of (grid_for p) (row n) odd p.correction)) nodes
      → least_ticks drift (least_at scale corner (map (λ n. n.course) nodes) -ℤ most) ≤ℤ spread_among p odd p.correction (map row nodes)
  turns_apart corner odd row nodes all =
      subst (λ x. least_ticks drift (x -ℤ most) ≤ℤ spread_among p odd p.correction (map row nodes)) (least_corner corner nodes)
      (subst (λ x. least_ticks drift (least_spread (map (λ n. corner scale n.course) nodes) -ℤ most) ≤ℤ x) (among odd p.correction row nodes)
      (least_at_turn (λ n. corner scale n.course) (λ n. instant_of (grid_for p) (row n) odd p.correction) nodes all))

  abbrev On : SeenNode → Type 0
  On = IsOnCourse p drift clock

  pub even_reached : (nodes : List SeenNode) → All On nodes
      → HasSkew p false (map (λ n. n.even) nodes)
      (least_ticks drift (int_max (least_at scale even_start (map (λ n. n.course) nodes)) (least_at scale even_turn (map (λ n. n.course) nodes) -ℤ most)))
  even_reached nodes all =
      reached false (map (λ n. n.even) nodes) (least_at scale even_start (map (λ n. n.course) nodes)) (least_at scale even_turn (map (λ n. n.course) nodes) -ℤ most)
      (starts_apart even_start false (λ n. n.even) nodes
      (All-weaker On (λ n. ReadsIn clock (even_start scale n.course) (instant_of (grid_for p) n.even false (pos 0)))
      (λ n on. subst (λ t. ReadsIn clock (even_start scale n.course) t) (sym (begins_at p n.even sane on.seen.regular.rate_within)) (corners_of n on).even_starts) nodes all))
      (turns_apart even_turn false (λ n. n.even) nodes
      (All-weaker On (λ n. ReadsIn clock (rounded_down scale (even_turn scale n.course)) (instant_of (grid_for p) n.even false p.correction))
      (λ n on. (corners_of n on).even_turns) nodes all))

  odd_rate : (n : SeenNode) → On n → IsWithin p.rate_limit n.odd.rate
  odd_rate n on = subst (λ r. IsWithin p.rate_limit r) (sym on.seen.regular.double.same_rate) on.seen.regular.rate_within

  pub odd_reached : (nodes : List SeenNode) → All On nodes
      → HasSkew p true (map (λ n. n.odd) nodes)
      (least_ticks drift (int_max (least_at scale odd_start (map (λ n. n.course) nodes)) (least_at scale odd_turn (map (λ n. n.course) nodes) -ℤ most)))
  odd_reached nodes all =
      reached true (map (λ n. n.odd) nodes) (least_at scale odd_start (map (λ n. n.course) nodes)) (least_at scale odd_turn (map (λ n. n.course) nodes) -ℤ most)
      (starts_apart odd_start true (λ n. n.odd) nodes
      (All-weaker On (λ n. ReadsIn clock (odd_start scale n.course) (instant_of (grid_for p) n.odd true (pos 0)))
      (λ n on. subst (λ t. ReadsIn clock (odd_start scale n.course) t) (sym (odd_begins_at p n.odd sane (odd_rate n on))) (corners_of n on).odd_starts) nodes all))
      (turns_apart odd_turn true (λ n. n.odd) nodes
      (All-weaker On (λ n. ReadsIn clock (rounded_down scale (odd_turn scale n.course)) (instant_of (grid_for p) n.odd true p.correction))
      (λ n on. (corners_of n on).odd_turns) nodes all))

  -- a pair of nodes at a corner
  pub corner_pair : {X : Type 0} (node : X → SeenNode) (corner : Scale → Course → Interval) (t : X → ℤ) (xs : List X) (a b : X)
      → All (λ x. ReadsIn clock (corner scale (node x).course) (t x)) xs → Contains xs a → Contains xs b
      → (reading_at clock (t a) -ℤ reading_at clock (t b)) ≤ℤ (clock.ticks *ℤ most_at scale corner (map (λ x. (node x).course) xs))
  corner_pair node corner t xs a b all here there =
      subst (λ m. (reading_at clock (t a) -ℤ reading_at clock (t b)) ≤ℤ (clock.ticks *ℤ m)) (ap most_spread (sym (map-map (corner scale) (λ x. (node x).course) xs)))
      (pair_within clock ticks_from (λ x. corner scale (node x).course) (λ x. reading_at clock (t x)) xs a b all here there)

  even_pair : (nodes : List SeenNode) (macrotick : ℤ) (a b : SeenNode) → All On nodes → pos 0 ≤ℤ macrotick → macrotick ≤ℤ p.macros → Contains nodes a → Contains nodes b
      → (instant_of (grid_for p) a.even false macrotick -ℤ instant_of (grid_for p) b.even false macrotick)
      ≤ℤ most_ticks drift (int_max (most_at scale even_start (map (λ n. n.course) nodes)) (most_at scale odd_start (map (λ n. n.course) nodes)) +ℤ most)
  even_pair nodes macrotick a b all from to here there =
      let one = most_at scale even_start (map (λ n. n.course) nodes) in
      let other = most_at scale odd_start (map (λ n. n.course) nodes) in
      let bound = int_max one other in
      let on = All-contains On nodes a all here in
      let also = All-contains On nodes b all there in
      let begin : (reading_at clock a.even.start -ℤ reading_at clock b.even.start) ≤ℤ (clock.ticks *ℤ one) =
      corner_pair (λ n. n) even_start (λ n. n.even.start) nodes a b (All-weaker On (λ n. ReadsIn clock (even_start scale n.course) n.even.start) (λ n on. (corners_of n on).even_starts) nodes all) here there in
      let close : (reading_at clock a.odd.start -ℤ reading_at clock b.odd.start) ≤ℤ (clock.ticks *ℤ other) =
      corner_pair (λ n. n) odd_start (λ n. n.odd.start) nodes a b (All-weaker On (λ n. ReadsIn clock (odd_start scale n.course) n.odd.start) (λ n on. (corners_of n on).odd_starts) nodes all) here there in
      ticks_apart (bound +ℤ most) (instant_of (grid_for p) b.even false macrotick) (instant_of (grid_for p) a.even false macrotick)
      (lines_apart clock p.macros most p.macros macrotick bound (reading_at clock a.even.start) (reading_of clock (cycle_length_of p a.even)) (reading_at clock (instant_of (grid_for p) a.even false macrotick))
      (reading_at clock b.even.start) (reading_of clock (cycle_length_of p b.even)) (reading_at clock (instant_of (grid_for p) b.even false macrotick))
      (numbers_of p sane).macros_some (numbers_of p sane).macros_some from to
      (even_line p drift clock a.course a.even a.odd on.seen on.holds macrotick) (even_line p drift clock b.course b.even b.odd also.seen also.holds macrotick)
      (wider clock.ticks one bound (reading_at clock a.even.start -ℤ reading_at clock b.even.start) ticks_from (max_left one other) begin)
      (at_end p.macros (reading_at clock a.even.start) (reading_of clock (cycle_length_of p a.even)) (reading_at clock a.odd.start) (reading_at clock b.even.start) (reading_of clock (cycle_length_of p b.even)) (reading_at clock b.odd.start)
      bound clock.ticks (no_less p.macros (numbers_of p sane).macros_some)
      (starts_on p drift clock a.course a.even a.odd on.seen on.holds) (starts_on p drift clock b.course b.even b.odd also.seen also.holds)
      (wider clock.ticks other bound (reading_at clock a.odd.start -ℤ reading_at clock b.odd.start) ticks_from (max_right one other) close)))

  pub even_kept : (nodes : List SeenNode) (macrotick : ℤ) → All On nodes → pos 0 ≤ℤ macrotick → macrotick ≤ℤ p.macros
      → spread_among p false macrotick (map (λ n. n.even) nodes)
      ≤ℤ most_ticks drift (int_max (most_at scale even_start (map (λ n. n.course) nodes)) (most_at scale odd_start (map (λ n. n.course) nodes)) +ℤ most)
  even_kept nodes macrotick all from to =
      let one = most_at scale even_start (map (λ n. n.course) nodes) in
      let other = most_at scale odd_start (map (λ n. n.course) nodes) in
      let bound = int_max one other +ℤ most in
      subst (λ x. x ≤ℤ most_ticks drift bound) (among false macrotick (λ n. n.even) nodes)
      (spread_of_all (λ n. instant_of (grid_for p) n.even false macrotick) (most_ticks drift bound) nodes
      (bound_above bound (above one other most (most_spread_above (map (even_start scale) (map (λ n. n.course) nodes))) most_from (max_left one other)))
      (λ a b here there. even_pair nodes macrotick a b all from to here there))
    where
      above : (a b m : ℤ) → pos 0 ≤ℤ a → pos 0 ≤ℤ m → a ≤ℤ int_max a b → pos 0 ≤ℤ (int_max a b +ℤ m)
      above a b m h k l = sum a (int_max a b) m h k l

pub even_skew_is_seen : EvenSkewIsSeen
even_skew_is_seen p drift clock nodes sane is all =
    (even_reached p drift clock sane is nodes all, λ macrotick from to. even_kept p drift clock sane is nodes macrotick all from to)

pub odd_skew_is_reached : OddSkewIsReached
odd_skew_is_reached p drift clock nodes sane is all = odd_reached p drift clock sane is nodes all
