-- How far from its place in the schedule a node sends, in whole numbers: within a cycle, and over many double cycles.
use Rattle.std.proofs.Common.{◌≡◌, ℤ, pos, ap, sym, ◌∙◌, subst, arith}
use Rattle.std.specs.Prelude.{◌+ℤ◌, ◌-ℤ◌, ◌*ℤ◌, ◌≤ℤ◌, ◌<ℤ◌, neg_ℤ}
use Rattle.std.proofs.lemmas.Int.{ints}
use Rattle.fr_base.specs.Within.{IsWithin}
use Rattle.fr_midpoint.proofs.Products.{addz-mulz, mulz-addz, mulz-lez, mulz-lez_left, mulz-subz, mulz_assoc, mulz_comm, mulz_within, subz-mulz}
use Rattle.fr_time.specs.Position.{floor_of}
use Rattle.fr_time.proofs.Lines.{rest_of}
use Rattle.fr_seen_runs.proofs.Schedule.{ahead, no_less, turn}

-- ---- within a cycle

-- a macrotick comes so far from its place that the length of the cycle is off, and a microtick before it
pub macrotick_near : (w g off long a n u : ℤ) → pos 0 <ℤ g → pos 0 ≤ℤ a → a ≤ℤ g → pos 0 <ℤ u → u ≤ℤ long → IsWithin off ((n *ℤ u) -ℤ w)
    → IsWithin (g *ℤ (off +ℤ long)) ((g *ℤ (floor_of (a *ℤ n) g *ℤ u)) -ℤ (a *ℤ w))
macrotick_near w g off long a n u some from to u_some u_to near =
    let f = floor_of (a *ℤ n) g in
    let rest = rest_of (a *ℤ n) g some in
    let line : IsWithin (g *ℤ off) (a *ℤ ((n *ℤ u) -ℤ w)) = mulz_within a ((n *ℤ u) -ℤ w) g off from to near in
    let part : ((f *ℤ g) *ℤ u) ≤ℤ ((a *ℤ n) *ℤ u) = mulz-lez (f *ℤ g) (a *ℤ n) u (under (a *ℤ n) (f *ℤ g) rest.from) (no_less u u_some) in
    let next : ((a *ℤ n) *ℤ u) ≤ℤ (((f *ℤ g) +ℤ g) *ℤ u) = mulz-lez (a *ℤ n) ((f *ℤ g) +ℤ g) u (over (a *ℤ n) (f *ℤ g) g rest.to) (no_less u u_some) in
    let most : (g *ℤ u) ≤ℤ (g *ℤ long) = mulz-lez_left u long g u_to (no_less g some) in
    both (g *ℤ (off +ℤ long)) (g *ℤ off) (g *ℤ long) (g *ℤ u) (g *ℤ (f *ℤ u)) (a *ℤ w) (a *ℤ (n *ℤ u)) (a *ℤ ((n *ℤ u) -ℤ w)) ((f *ℤ g) *ℤ u) ((a *ℤ n) *ℤ u) (((f *ℤ g) +ℤ g) *ℤ u)
    (mulz-addz off long g) (mulz-subz (n *ℤ u) w a) (mulz_assoc a n u) (turn f g u ∙ mulz_comm (f *ℤ u) g) (addz-mulz (f *ℤ g) g u) line part next most
  where
    under : (n f : ℤ) → pos 0 ≤ℤ (n -ℤ f) → f ≤ℤ n
    under n f h = omega (arith, ints)

    over : (n f g : ℤ) → ((n -ℤ f) +ℤ pos 1) ≤ℤ g → n ≤ℤ (f +ℤ g)
    over n f g h = omega (arith, ints)

    both :
        (sum go gl gu at aw anu line fgu anu2 next : ℤ) → sum ≡ go +ℤ gl → line ≡ anu -ℤ aw → anu2 ≡ anu → fgu ≡ at → next ≡ fgu +ℤ gu → IsWithin go line → fgu ≤ℤ anu2
        → anu2 ≤ℤ next → gu ≤ℤ gl → IsWithin sum (at -ℤ aw)
    both sum go gl gu at aw anu line fgu anu2 next a b c d e h i j k = record {
      low = low sum go gl gu at aw anu line fgu anu2 next a b c d e h.low j k;
      high = high sum go gl gu at aw anu line fgu anu2 next a b c d e h.low h.high i j k;
    }
      where
        low :
            (sum go gl gu at aw anu line fgu anu2 next : ℤ) → sum ≡ go +ℤ gl → line ≡ anu -ℤ aw → anu2 ≡ anu → fgu ≡ at → next ≡ fgu +ℤ gu → neg_ℤ go ≤ℤ line
            → anu2 ≤ℤ next → gu ≤ℤ gl → neg_ℤ sum ≤ℤ (at -ℤ aw)
        low sum go gl gu at aw anu line fgu anu2 next a b c d e h j k = omega (arith, ints)

        high :
            (sum go gl gu at aw anu line fgu anu2 next : ℤ) → sum ≡ go +ℤ gl → line ≡ anu -ℤ aw → anu2 ≡ anu → fgu ≡ at → next ≡ fgu +ℤ gu → neg_ℤ go ≤ℤ line → line ≤ℤ go
            → fgu ≤ℤ anu2 → anu2 ≤ℤ next → gu ≤ℤ gl → (at -ℤ aw) ≤ℤ sum
        high sum go gl gu at aw anu line fgu anu2 next a b c d e h h2 i j k = omega (arith, ints)

-- a point of the even cycle (turn 0) or of the odd one (turn 1) lies near its place behind the start of the double cycle, as
-- often as a cycle has macroticks
abbrev pub IsPlaced : ℤ → ℤ → ℤ → ℤ → ℤ → ℤ → Type 0
IsPlaced w g bound t a behind = IsWithin (g *ℤ bound) ((g *ℤ behind) -ℤ (((t *ℤ g) +ℤ a) *ℤ w))

pub placed_even : (w g off long a behind : ℤ) → pos 0 <ℤ g → pos 0 ≤ℤ off → IsWithin (g *ℤ (off +ℤ long)) ((g *ℤ behind) -ℤ (a *ℤ w)) → IsPlaced w g ((pos 2 *ℤ off) +ℤ long) (pos 0) a behind
placed_even w g off long a behind some from near =
    let wider : (g *ℤ (off +ℤ long)) ≤ℤ (g *ℤ ((pos 2 *ℤ off) +ℤ long)) = mulz-lez_left (off +ℤ long) ((pos 2 *ℤ off) +ℤ long) g (more off long from) (no_less g some) in
    let same : ((pos 0 *ℤ g) +ℤ a) *ℤ w ≡ a *ℤ w = ap (λ x. x *ℤ w) (none g a) in
    by (g *ℤ (off +ℤ long)) (g *ℤ ((pos 2 *ℤ off) +ℤ long)) (g *ℤ behind) (a *ℤ w) (((pos 0 *ℤ g) +ℤ a) *ℤ w) wider same near
  where
    more : (off long : ℤ) → pos 0 ≤ℤ off → (off +ℤ long) ≤ℤ ((pos 2 *ℤ off) +ℤ long)
    more off long h = omega (arith, ints)

    none : (g a : ℤ) → (pos 0 *ℤ g) +ℤ a ≡ a
    none g a = omega (arith, ints)

    by : (b c gb aw other : ℤ) → b ≤ℤ c → other ≡ aw → IsWithin b (gb -ℤ aw) → IsWithin c (gb -ℤ other)
    by b c gb aw other le is near = record { low = low b c gb aw other le is near.low; high = high b c gb aw other le is near.high }
      where
        low : (b c gb aw other : ℤ) → b ≤ℤ c → other ≡ aw → neg_ℤ b ≤ℤ (gb -ℤ aw) → neg_ℤ c ≤ℤ (gb -ℤ other)
        low b c gb aw other le is h = omega (arith, ints)

        high : (b c gb aw other : ℤ) → b ≤ℤ c → other ≡ aw → (gb -ℤ aw) ≤ℤ b → (gb -ℤ other) ≤ℤ c
        high b c gb aw other le is h = omega (arith, ints)

pub placed_odd : (w g off long a first behind : ℤ) → pos 0 <ℤ g → IsWithin off (first -ℤ w) → IsWithin (g *ℤ (off +ℤ long)) ((g *ℤ behind) -ℤ (a *ℤ w))
    → IsPlaced w g ((pos 2 *ℤ off) +ℤ long) (pos 1) a (first +ℤ behind)
placed_odd w g off long a first behind some even near =
    let early : IsWithin (g *ℤ off) (g *ℤ (first -ℤ w)) = mulz_within g (first -ℤ w) g off (no_less g some) (same g) even in
    let sum : g *ℤ ((pos 2 *ℤ off) +ℤ long) ≡ (g *ℤ off) +ℤ (g *ℤ (off +ℤ long)) = ap (λ x. g *ℤ x) (parts off long) ∙ mulz-addz off (off +ℤ long) g in
    let place : ((pos 1 *ℤ g) +ℤ a) *ℤ w ≡ (g *ℤ w) +ℤ (a *ℤ w) = ap (λ x. x *ℤ w) (once g a) ∙ addz-mulz g a w in
    by (g *ℤ ((pos 2 *ℤ off) +ℤ long)) (g *ℤ off) (g *ℤ (off +ℤ long)) (g *ℤ (first -ℤ w)) (g *ℤ first) (g *ℤ w) (g *ℤ behind) (a *ℤ w) (g *ℤ (first +ℤ behind)) (((pos 1 *ℤ g) +ℤ a) *ℤ w) sum
    (mulz-subz first w g) (mulz-addz first behind g) place early near
  where
    same : (g : ℤ) → g ≤ℤ g
    same g = omega (arith, ints)

    parts : (off long : ℤ) → (pos 2 *ℤ off) +ℤ long ≡ off +ℤ (off +ℤ long)
    parts off long = omega (arith, ints)

    once : (g a : ℤ) → (pos 1 *ℤ g) +ℤ a ≡ g +ℤ a
    once g a = omega (arith, ints)

    by :
        (sum go gol line gf gw gb aw gfb place : ℤ) → sum ≡ go +ℤ gol → line ≡ gf -ℤ gw → gfb ≡ gf +ℤ gb → place ≡ gw +ℤ aw → IsWithin go line → IsWithin gol (gb -ℤ aw)
        → IsWithin sum (gfb -ℤ place)
    by sum go gol line gf gw gb aw gfb place a b c d h k = record {
      low = low sum go gol line gf gw gb aw gfb place a b c d h.low k.low;
      high = high sum go gol line gf gw gb aw gfb place a b c d h.high k.high;
    }
      where
        low :
            (sum go gol line gf gw gb aw gfb place : ℤ) → sum ≡ go +ℤ gol → line ≡ gf -ℤ gw → gfb ≡ gf +ℤ gb → place ≡ gw +ℤ aw → neg_ℤ go ≤ℤ line → neg_ℤ gol ≤ℤ (gb -ℤ aw)
            → neg_ℤ sum ≤ℤ (gfb -ℤ place)
        low sum go gol line gf gw gb aw gfb place a b c d h k = omega (arith, ints)

        high :
            (sum go gol line gf gw gb aw gfb place : ℤ) → sum ≡ go +ℤ gol → line ≡ gf -ℤ gw → gfb ≡ gf +ℤ gb → place ≡ gw +ℤ aw → line ≤ℤ go → (gb -ℤ aw) ≤ℤ gol
            → (gfb -ℤ place) ≤ℤ sum
        high sum go gol line gf gw gb aw gfb place a b c d h k = omega (arith, ints)

-- ---- over many double cycles

-- one is two cycles, an offset term among them
pub double_near : (w off term first second offset step : ℤ) → IsWithin off (first -ℤ w) → IsWithin off (second -ℤ w) → IsWithin term offset → step ≡ first +ℤ (second +ℤ offset)
    → IsWithin ((pos 2 *ℤ off) +ℤ term) (step -ℤ (w +ℤ w))
double_near w off term first second offset step a b c is =
    record { low = low w off term first second offset step a.low b.low c.low is; high = high w off term first second offset step a.high b.high c.high is }
  where
    low : (w off term first second offset step : ℤ) → neg_ℤ off ≤ℤ (first -ℤ w) → neg_ℤ off ≤ℤ (second -ℤ w) → neg_ℤ term ≤ℤ offset → step ≡ first +ℤ (second +ℤ offset)
        → neg_ℤ ((pos 2 *ℤ off) +ℤ term) ≤ℤ (step -ℤ (w +ℤ w))
    low w off term first second offset step a b c is = omega (arith, ints)

    high : (w off term first second offset step : ℤ) → (first -ℤ w) ≤ℤ off → (second -ℤ w) ≤ℤ off → offset ≤ℤ term → step ≡ first +ℤ (second +ℤ offset)
        → (step -ℤ (w +ℤ w)) ≤ℤ ((pos 2 *ℤ off) +ℤ term)
    high w off term first second offset step a b c is = omega (arith, ints)

-- so many double cycles, and one more
abbrev pub AreNear : ℤ → ℤ → ℤ → ℤ → Type 0
AreNear w e q long = IsWithin (q *ℤ e) (long -ℤ (q *ℤ (w +ℤ w)))

pub none_near : (w e : ℤ) → AreNear w e (pos 0) (pos 0)
none_near w e = record { low = low w e; high = high w e }
  where
    low : (w e : ℤ) → neg_ℤ (pos 0 *ℤ e) ≤ℤ (pos 0 -ℤ (pos 0 *ℤ (w +ℤ w)))
    low w e = omega (arith, ints)

    high : (w e : ℤ) → (pos 0 -ℤ (pos 0 *ℤ (w +ℤ w))) ≤ℤ (pos 0 *ℤ e)
    high w e = omega (arith, ints)

pub one_more_near : (w e q long step : ℤ) → AreNear w e q long → IsWithin e (step -ℤ (w +ℤ w)) → AreNear w e (q +ℤ pos 1) (long +ℤ step)
one_more_near w e q long step near next =
    by e (q *ℤ e) (q *ℤ (w +ℤ w)) (w +ℤ w) ((q +ℤ pos 1) *ℤ e) ((q +ℤ pos 1) *ℤ (w +ℤ w)) (pos 1 *ℤ e) (pos 1 *ℤ (w +ℤ w)) long step
    (addz-mulz q (pos 1) e) (addz-mulz q (pos 1) (w +ℤ w)) (once e) (once (w +ℤ w)) near next
  where
    once : (a : ℤ) → pos 1 *ℤ a ≡ a
    once a = omega (arith, ints)

    by :
        (e qe qw ww qe1 qw1 e1 w1 long step : ℤ) → qe1 ≡ qe +ℤ e1 → qw1 ≡ qw +ℤ w1 → e1 ≡ e → w1 ≡ ww → IsWithin qe (long -ℤ qw) → IsWithin e (step -ℤ ww)
        → IsWithin qe1 ((long +ℤ step) -ℤ qw1)
    by e qe qw ww qe1 qw1 e1 w1 long step a b c d h k = record {
      low = low e qe qw ww qe1 qw1 e1 w1 long step a b c d h.low k.low;
      high = high e qe qw ww qe1 qw1 e1 w1 long step a b c d h.high k.high;
    }
      where
        low :
            (e qe qw ww qe1 qw1 e1 w1 long step : ℤ) → qe1 ≡ qe +ℤ e1 → qw1 ≡ qw +ℤ w1 → e1 ≡ e → w1 ≡ ww → neg_ℤ qe ≤ℤ (long -ℤ qw) → neg_ℤ e ≤ℤ (step -ℤ ww)
            → neg_ℤ qe1 ≤ℤ ((long +ℤ step) -ℤ qw1)
        low e qe qw ww qe1 qw1 e1 w1 long step a b c d h k = omega (arith, ints)

        high :
            (e qe qw ww qe1 qw1 e1 w1 long step : ℤ) → qe1 ≡ qe +ℤ e1 → qw1 ≡ qw +ℤ w1 → e1 ≡ e → w1 ≡ ww → (long -ℤ qw) ≤ℤ qe → (step -ℤ ww) ≤ℤ e
            → ((long +ℤ step) -ℤ qw1) ≤ℤ qe1
        high e qe qw ww qe1 qw1 e1 w1 long step a b c d h k = omega (arith, ints)

-- ---- two nodes

-- one sends in a double cycle and the other so many double cycles later, near its own place; the start of the later one lies
-- near that of the first there, and delays differ by so much
pub record AreTwoNear (w g e apart bound delays q t a t2 a2 behind behind2 long gap more : ℤ) : Type 0 where
  pub first : IsPlaced w g bound t a behind
  pub second : IsPlaced w g bound t2 a2 behind2
  pub on : AreNear w e q long
  pub starts : IsWithin apart gap
  pub delayed : IsWithin delays more

-- how its parts add up
record Sums (total gqe ga gb gd gl gg gb2 gb1 gm span place_at qgw tgw t2gw aw a2w dw line p1 p2 : ℤ) : Type 0 where
  sum : total ≡ gqe +ℤ ((ga +ℤ (gb +ℤ gb)) +ℤ gd)
  spans : span ≡ (((gl +ℤ gg) +ℤ gb2) -ℤ gb1) +ℤ gm
  doubles : dw ≡ qgw +ℤ qgw
  place : place_at ≡ (((qgw +ℤ qgw) +ℤ t2gw) -ℤ tgw) +ℤ (a2w -ℤ aw)
  placed : p1 ≡ tgw +ℤ aw
  placed2 : p2 ≡ t2gw +ℤ a2w
  chained : line ≡ gl -ℤ dw

both_placed :
    (place qgw tgw t2gw aw a2w dw p1 p2 : ℤ) → place ≡ (((qgw +ℤ qgw) +ℤ t2gw) -ℤ tgw) +ℤ (a2w -ℤ aw) → dw ≡ qgw +ℤ qgw → p1 ≡ tgw +ℤ aw → p2 ≡ t2gw +ℤ a2w
    → place ≡ (dw +ℤ p2) -ℤ p1
both_placed place qgw tgw t2gw aw a2w dw p1 p2 a b c d = omega (arith, ints)

regrouped : (a gb2 gb1 gm dw p1 p2 : ℤ) → (((a +ℤ gb2) -ℤ gb1) +ℤ gm) -ℤ ((dw +ℤ p2) -ℤ p1) ≡ (((a -ℤ dw) +ℤ (gb2 -ℤ p2)) -ℤ (gb1 -ℤ p1)) +ℤ gm
regrouped a gb2 gb1 gm dw p1 p2 = omega (arith, ints)

taken_first : (gl gg dw : ℤ) → (gl +ℤ gg) -ℤ dw ≡ (gl -ℤ dw) +ℤ gg
taken_first gl gg dw = omega (arith, ints)

sum_low :
    (total gqe ga gb gd line gg x2 x1 gm : ℤ) → total ≡ gqe +ℤ ((ga +ℤ (gb +ℤ gb)) +ℤ gd) → neg_ℤ gqe ≤ℤ line → neg_ℤ ga ≤ℤ gg → neg_ℤ gd ≤ℤ gm → x1 ≤ℤ gb → neg_ℤ gb ≤ℤ x2
    → neg_ℤ total ≤ℤ ((((line +ℤ gg) +ℤ x2) -ℤ x1) +ℤ gm)
sum_low total gqe ga gb gd line gg x2 x1 gm a h i j k m = omega (arith, ints)

sum_high :
    (total gqe ga gb gd line gg x2 x1 gm : ℤ) → total ≡ gqe +ℤ ((ga +ℤ (gb +ℤ gb)) +ℤ gd) → line ≤ℤ gqe → gg ≤ℤ ga → gm ≤ℤ gd → neg_ℤ gb ≤ℤ x1 → x2 ≤ℤ gb
    → ((((line +ℤ gg) +ℤ x2) -ℤ x1) +ℤ gm) ≤ℤ total
sum_high total gqe ga gb gd line gg x2 x1 gm a h i j k m = omega (arith, ints)

sums_near :
    (total gqe ga gb gd gl gg gb2 gb1 gm span place qgw tgw t2gw aw a2w dw line p1 p2 : ℤ) → Sums total gqe ga gb gd gl gg gb2 gb1 gm span place qgw tgw t2gw aw a2w dw line p1 p2
    → IsWithin gqe line → IsWithin ga gg → IsWithin gd gm → IsWithin gb (gb1 -ℤ p1) → IsWithin gb (gb2 -ℤ p2) → IsWithin total (span -ℤ place)
sums_near total gqe ga gb gd gl gg gb2 gb1 gm span place qgw tgw t2gw aw a2w dw line p1 p2 s h i j k m =
    let placed : place ≡ (dw +ℤ p2) -ℤ p1 = both_placed place qgw tgw t2gw aw a2w dw p1 p2 s.place s.doubles s.placed s.placed2 in
    let parts : span -ℤ place ≡ (((line +ℤ gg) +ℤ (gb2 -ℤ p2)) -ℤ (gb1 -ℤ p1)) +ℤ gm =
    (λ n. s.spans n -ℤ placed n) ∙ regrouped (gl +ℤ gg) gb2 gb1 gm dw p1 p2
    ∙ ap (λ a. ((a +ℤ (gb2 -ℤ p2)) -ℤ (gb1 -ℤ p1)) +ℤ gm) (taken_first gl gg dw ∙ ap (λ b. b +ℤ gg) (sym s.chained)) in
    subst (IsWithin total) (sym parts)
    (record {
      low = sum_low total gqe ga gb gd line gg (gb2 -ℤ p2) (gb1 -ℤ p1) gm s.sum h.low i.low j.low k.high m.low;
      high = sum_high total gqe ga gb gd line gg (gb2 -ℤ p2) (gb1 -ℤ p1) gm s.sum h.high i.high j.high k.low m.high;
    })

pub two_near : (w g e apart bound delays q t a t2 a2 behind behind2 long gap more : ℤ) → pos 0 <ℤ g → AreTwoNear w g e apart bound delays q t a t2 a2 behind behind2 long gap more
    → IsWithin (g *ℤ ((q *ℤ e) +ℤ ((apart +ℤ (pos 2 *ℤ bound)) +ℤ delays)))
    ((g *ℤ ((((long +ℤ gap) +ℤ behind2) -ℤ behind) +ℤ more)) -ℤ ahead w g (((pos 2 *ℤ q) +ℤ t2) -ℤ t) (a2 -ℤ a))
two_near w g e apart bound delays q t a t2 a2 behind behind2 long gap more some two =
    let own = λ (bound x : ℤ) (near : IsWithin bound x). mulz_within g x g bound (no_less g some) (same g) near in
    let on : IsWithin (g *ℤ (q *ℤ e)) (g *ℤ (long -ℤ (q *ℤ (w +ℤ w)))) = own (q *ℤ e) (long -ℤ (q *ℤ (w +ℤ w))) two.on in
    let starts : IsWithin (g *ℤ apart) (g *ℤ gap) = own apart gap two.starts in
    let delayed : IsWithin (g *ℤ delays) (g *ℤ more) = own delays more two.delayed in
    let rest = (apart +ℤ (pos 2 *ℤ bound)) +ℤ delays in
    let sum : g *ℤ ((q *ℤ e) +ℤ rest) ≡ ((g *ℤ (q *ℤ e)) +ℤ (((g *ℤ apart) +ℤ ((g *ℤ bound) +ℤ (g *ℤ bound))) +ℤ (g *ℤ delays))) =
    ap (λ x. g *ℤ x) (parts (q *ℤ e) apart bound delays) ∙ mulz-addz (q *ℤ e) ((apart +ℤ (bound +ℤ bound)) +ℤ delays) g
    ∙ ap (λ x. (g *ℤ (q *ℤ e)) +ℤ x)
    (
    mulz-addz (apart +ℤ (bound +ℤ bound)) delays g
    ∙ ap (λ x. x +ℤ (g *ℤ delays)) (mulz-addz apart (bound +ℤ bound) g ∙ ap (λ x. (g *ℤ apart) +ℤ x) (mulz-addz bound bound g))
    ) in
    let spans : g *ℤ ((((long +ℤ gap) +ℤ behind2) -ℤ behind) +ℤ more) ≡ ((((g *ℤ long) +ℤ (g *ℤ gap)) +ℤ (g *ℤ behind2)) -ℤ (g *ℤ behind)) +ℤ (g *ℤ more) =
    mulz-addz (((long +ℤ gap) +ℤ behind2) -ℤ behind) more g
    ∙ ap (λ x. x +ℤ (g *ℤ more))
    (
    mulz-subz ((long +ℤ gap) +ℤ behind2) behind g
    ∙ ap (λ x. x -ℤ (g *ℤ behind)) (mulz-addz (long +ℤ gap) behind2 g ∙ ap (λ x. x +ℤ (g *ℤ behind2)) (mulz-addz long gap g))
    ) in
    let doubles : g *ℤ (q *ℤ (w +ℤ w)) ≡ (q *ℤ (g *ℤ w)) +ℤ (q *ℤ (g *ℤ w)) =
    sym (mulz_assoc g q (w +ℤ w)) ∙ ap (λ x. x *ℤ (w +ℤ w)) (mulz_comm g q) ∙ mulz_assoc q g (w +ℤ w) ∙ ap (λ x. q *ℤ x) (mulz-addz w w g) ∙ mulz-addz (g *ℤ w) (g *ℤ w) q in
    let place : ahead w g (((pos 2 *ℤ q) +ℤ t2) -ℤ t) (a2 -ℤ a)
    ≡ ((((q *ℤ (g *ℤ w)) +ℤ (q *ℤ (g *ℤ w))) +ℤ (t2 *ℤ (g *ℤ w))) -ℤ (t *ℤ (g *ℤ w))) +ℤ ((a2 *ℤ w) -ℤ (a *ℤ w)) =
    addz-mulz ((((pos 2 *ℤ q) +ℤ t2) -ℤ t) *ℤ g) (a2 -ℤ a) w
    ∙ (λ i. (mulz_assoc (((pos 2 *ℤ q) +ℤ t2) -ℤ t) g w ∙ turns (g *ℤ w)) i +ℤ subz-mulz a2 a w i) in
    let placed : ((t *ℤ g) +ℤ a) *ℤ w ≡ (t *ℤ (g *ℤ w)) +ℤ (a *ℤ w) = addz-mulz (t *ℤ g) a w ∙ ap (λ x. x +ℤ (a *ℤ w)) (mulz_assoc t g w) in
    let placed2 : ((t2 *ℤ g) +ℤ a2) *ℤ w ≡ (t2 *ℤ (g *ℤ w)) +ℤ (a2 *ℤ w) = addz-mulz (t2 *ℤ g) a2 w ∙ ap (λ x. x +ℤ (a2 *ℤ w)) (mulz_assoc t2 g w) in
    sums_near (g *ℤ ((q *ℤ e) +ℤ rest)) (g *ℤ (q *ℤ e)) (g *ℤ apart) (g *ℤ bound) (g *ℤ delays) (g *ℤ long) (g *ℤ gap) (g *ℤ behind2) (g *ℤ behind) (g *ℤ more)
    (g *ℤ ((((long +ℤ gap) +ℤ behind2) -ℤ behind) +ℤ more)) (ahead w g (((pos 2 *ℤ q) +ℤ t2) -ℤ t) (a2 -ℤ a)) (q *ℤ (g *ℤ w)) (t *ℤ (g *ℤ w)) (t2 *ℤ (g *ℤ w)) (a *ℤ w) (a2 *ℤ w)
    (g *ℤ (q *ℤ (w +ℤ w))) (g *ℤ (long -ℤ (q *ℤ (w +ℤ w)))) (((t *ℤ g) +ℤ a) *ℤ w) (((t2 *ℤ g) +ℤ a2) *ℤ w)
    (record { sum = sum; spans = spans; doubles = doubles; place = place; placed = placed; placed2 = placed2; chained = mulz-subz long (q *ℤ (w +ℤ w)) g }) on starts delayed two.first two.second
  where
    same : (g : ℤ) → g ≤ℤ g
    same g = omega (arith, ints)

    parts : (qe apart bound delays : ℤ) → qe +ℤ ((apart +ℤ (pos 2 *ℤ bound)) +ℤ delays) ≡ qe +ℤ ((apart +ℤ (bound +ℤ bound)) +ℤ delays)
    parts qe apart bound delays = omega (arith, ints)

    turns : (gw : ℤ) → (((pos 2 *ℤ q) +ℤ t2) -ℤ t) *ℤ gw ≡ (((q *ℤ gw) +ℤ (q *ℤ gw)) +ℤ (t2 *ℤ gw)) -ℤ (t *ℤ gw)
    turns gw =
        ap (λ x. x *ℤ gw) (twice q t t2) ∙ subz-mulz ((q +ℤ q) +ℤ t2) t gw
        ∙ ap (λ x. x -ℤ (t *ℤ gw)) (addz-mulz (q +ℤ q) t2 gw ∙ ap (λ x. x +ℤ (t2 *ℤ gw)) (addz-mulz q q gw))
      where
        twice : (q t t2 : ℤ) → ((pos 2 *ℤ q) +ℤ t2) -ℤ t ≡ ((q +ℤ q) +ℤ t2) -ℤ t
        twice q t t2 = omega (arith, ints)
