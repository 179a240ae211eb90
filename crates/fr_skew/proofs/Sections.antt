-- How far apart the instants of a macrotick of a stretch lie, by those at its ends.
use Rattle.std.proofs.Common.{◌≡◌, ◌∙◌, ◌⊎◌, ℕ, ◌<◌, ◌≤◌, Bool, true, false, ℤ, pos, List, All, inl, inr, ap, sym, subst, arith}
use Rattle.std.specs.Prelude.{◌+ℤ◌, ◌-ℤ◌, ◌*ℤ◌, ◌≤ℤ◌, ◌<ℤ◌, not}
use Rattle.std.proofs.lemmas.Int.{ints, by_lt_z}
use Rattle.std.proofs.lemmas.List.Elements.{All-contains, All-filter}
use Rattle.fr_base.specs.States.{is_halted}
use Rattle.fr_base.specs.declared.node_row.NodeRow.{NodeRow}
use Rattle.fr_midpoint.proofs.Products.{addz-mulz, subz-mulz, lez_of_mulz-lez, mulz-lez, mulz-subz}
use Rattle.fr_time.specs.Cycles.{is_odd}
use Rattle.fr_time.specs.Instant.{instant_of}
use Rattle.fr_time.specs.Placed.{IsPlacedRow}
use Rattle.fr_time.specs.Position.{corrected_micros, floor_of}
use Rattle.fr_time.specs.declared.grid.Grid.{Grid}
use Rattle.fr_time.proofs.Ends.{corrected_micros_from}
use Rattle.fr_time.proofs.Floors.{share_of_none}
use Rattle.fr_time.proofs.Lines.{on_line, OnLine}
use Rattle.fr_skew.specs.Spreads.{running, spread_at}
use Rattle.fr_skew.specs.Stretches.{IsStretch}
use Rattle.fr_skew.proofs.Bounds.{apart_at, before_correction, even_line, late_line, most, pair_apart, spread_of_pairs}

-- over plain numbers: between two ends a difference of two lines is no greater than at one of them
pub between : (c e a m b k : ℤ) → a ≤ℤ m → m ≤ℤ b → (c +ℤ (a *ℤ e)) ≤ℤ k → (c +ℤ (b *ℤ e)) ≤ℤ k → (c +ℤ (m *ℤ e)) ≤ℤ k
between c e a m b k from to at_a at_b =
    by_lt_z e (pos 0)
    (λ falls.
    let less : (a *ℤ (pos 0 -ℤ e)) ≤ℤ (m *ℤ (pos 0 -ℤ e)) = mulz-lez a m (pos 0 -ℤ e) from (some e falls) in
    down (a *ℤ e) (m *ℤ e) c k (a *ℤ (pos 0 -ℤ e)) (m *ℤ (pos 0 -ℤ e)) (turned a e) (turned m e) less at_a)
    (λ rises.
    let more : (m *ℤ e) ≤ℤ (b *ℤ e) = mulz-lez m b e to rises in
    up (b *ℤ e) (m *ℤ e) c k more at_b)
  where
    some : (e : ℤ) → e <ℤ pos 0 → pos 0 ≤ℤ (pos 0 -ℤ e)
    some e less = omega (arith, ints)

    turned : (x e : ℤ) → x *ℤ (pos 0 -ℤ e) ≡ pos 0 -ℤ (x *ℤ e)
    turned x e = mulz-subz (pos 0) e x ∙ none (x *ℤ pos 0) (x *ℤ e) (zero_of x)
      where
        zero_of : (x : ℤ) → x *ℤ pos 0 ≡ pos 0
        zero_of x = omega (arith, ints)

        none : (z y : ℤ) → z ≡ pos 0 → z -ℤ y ≡ pos 0 -ℤ y
        none z y is = omega (arith, ints)

    down : (ae me c k an mn : ℤ) → an ≡ pos 0 -ℤ ae → mn ≡ pos 0 -ℤ me → an ≤ℤ mn → (c +ℤ ae) ≤ℤ k → (c +ℤ me) ≤ℤ k
    down ae me c k an mn one two less at_a = omega (arith, ints)

    up : (be me c k : ℤ) → me ≤ℤ be → (c +ℤ be) ≤ℤ k → (c +ℤ me) ≤ℤ k
    up be me c k more at_b = omega (arith, ints)

-- an instant of one line after that of another, by those at two ends
lines_section :
    (start other_start length other_length unit other_unit a m b parts most at_a other_a at_m other_m at_b other_b bound : ℤ)
    → OnLine start length unit a parts most at_a → OnLine other_start other_length other_unit a parts most other_a
    → OnLine start length unit m parts most at_m → OnLine other_start other_length other_unit m parts most other_m
    → OnLine start length unit b parts most at_b → OnLine other_start other_length other_unit b parts most other_b
    → pos 0 <ℤ parts → pos 0 ≤ℤ most → a ≤ℤ m → m ≤ℤ b
    → (at_a -ℤ other_a) ≤ℤ bound → (at_b -ℤ other_b) ≤ℤ bound → (at_m -ℤ other_m) ≤ℤ (bound +ℤ most +ℤ most)
lines_section start other_start length other_length unit other_unit a m b parts most at_a other_a at_m other_m at_b other_b bound line_a line'_a line_m line'_m line_b line'_b some m_from from to near_a near_b =
    let p_from : pos 0 ≤ℤ parts = omega (arith, ints, some) in
    let c : ℤ = (start *ℤ parts) -ℤ (other_start *ℤ parts) in
    let e : ℤ = length -ℤ other_length in
    let k : ℤ = (bound *ℤ parts) +ℤ (most *ℤ parts) in
    let low_a : (c +ℤ (a *ℤ e)) ≤ℤ k =
    end (at_a *ℤ parts) (other_a *ℤ parts) ((at_a -ℤ other_a) *ℤ parts) (bound *ℤ parts) (start *ℤ parts) (other_start *ℤ parts) (a *ℤ length) (a *ℤ other_length) (a *ℤ e) line_a.less line'_a.less (most *ℤ parts) most
    line_a.is line'_a.is (subz-mulz at_a other_a parts) (mulz-subz length other_length a) line_a.from line_a.to line'_a.from m_from (mulz-lez (at_a -ℤ other_a) bound parts near_a p_from) in
    let low_b : (c +ℤ (b *ℤ e)) ≤ℤ k =
    end (at_b *ℤ parts) (other_b *ℤ parts) ((at_b -ℤ other_b) *ℤ parts) (bound *ℤ parts) (start *ℤ parts) (other_start *ℤ parts) (b *ℤ length) (b *ℤ other_length) (b *ℤ e) line_b.less line'_b.less (most *ℤ parts) most
    line_b.is line'_b.is (subz-mulz at_b other_b parts) (mulz-subz length other_length b) line_b.from line_b.to line'_b.from m_from (mulz-lez (at_b -ℤ other_b) bound parts near_b p_from) in
    let low_m : (c +ℤ (m *ℤ e)) ≤ℤ k = between c e a m b k from to low_a low_b in
    lez_of_mulz-lez (at_m -ℤ other_m) (bound +ℤ most +ℤ most) parts some
    (middle (at_m *ℤ parts) (other_m *ℤ parts) ((at_m -ℤ other_m) *ℤ parts) (bound *ℤ parts) (start *ℤ parts) (other_start *ℤ parts) (m *ℤ length) (m *ℤ other_length) (m *ℤ e) line_m.less line'_m.less (most *ℤ parts) most ((bound +ℤ most) *ℤ parts) ((bound +ℤ most +ℤ most) *ℤ parts)
    line_m.is line'_m.is (subz-mulz at_m other_m parts) (mulz-subz length other_length m) line_m.from line'_m.to m_from (addz-mulz bound most parts) (addz-mulz (bound +ℤ most) most parts) low_m)
  where
    end : (x y d w s s' l l' ml k k' qg q : ℤ) → x ≡ (s +ℤ l) -ℤ k → y ≡ (s' +ℤ l') -ℤ k' → d ≡ x -ℤ y → ml ≡ l -ℤ l'
        → pos 0 ≤ℤ k → k ≤ℤ (qg -ℤ q) → pos 0 ≤ℤ k' → pos 0 ≤ℤ q → d ≤ℤ w → ((s -ℤ s') +ℤ ml) ≤ℤ (w +ℤ qg)
    end x y d w s s' l l' ml k k' qg q e1 e2 e3 e4 k0 k1 k2 q0 near = omega (arith, ints)

    middle : (x y d w s s' l l' ml k k' qg q w1 w2 : ℤ) → x ≡ (s +ℤ l) -ℤ k → y ≡ (s' +ℤ l') -ℤ k' → d ≡ x -ℤ y → ml ≡ l -ℤ l'
        → pos 0 ≤ℤ k → k' ≤ℤ (qg -ℤ q) → pos 0 ≤ℤ q → w1 ≡ w +ℤ qg → w2 ≡ w1 +ℤ qg → ((s -ℤ s') +ℤ ml) ≤ℤ (w +ℤ qg) → d ≤ℤ w2
    middle x y d w s s' l l' ml k k' qg q w1 w2 e1 e2 e3 e4 k0 k1 q0 e5 e6 low = omega (arith, ints)

-- where the offset correction starts, its way has not begun
turn_line : (grid : Grid) (row : NodeRow) (macrotick : ℤ) → IsPlacedRow grid row → grid.correction ≤ℤ macrotick
    → OnLine (instant_of grid row true grid.correction) (corrected_micros grid row.rate row.offset *ℤ row.length) row.length
    (macrotick -ℤ grid.correction) (grid.macros -ℤ grid.correction) most (instant_of grid row true macrotick)
turn_line grid row macrotick here from =
    by_lt_z grid.correction macrotick (λ late. late_line grid row macrotick here late)
    (λ early.
    let same : grid.correction ≡ macrotick = both grid.correction macrotick from early in
    let left = corrected_micros grid row.rate row.offset in
    let turn = instant_of grid row true grid.correction in
    let length = here.timed.length in
    let none : floor_of ((grid.correction -ℤ grid.correction) *ℤ left) (grid.macros -ℤ grid.correction) ≡ pos 0 =
    share_of_none (grid.correction -ℤ grid.correction) left (grid.macros -ℤ grid.correction) (nothing grid.correction) (some grid.macros grid.correction here.placeable.is_grid.correction_to) (corrected_micros_from grid row.rate row.offset here.placeable) in
    let At : ℤ → Type 0 = OnLine turn (left *ℤ row.length) row.length (grid.correction -ℤ grid.correction) (grid.macros -ℤ grid.correction) most in
    let On : ℤ → Type 0 = λ m. OnLine turn (left *ℤ row.length) row.length (m -ℤ grid.correction) (grid.macros -ℤ grid.correction) most (instant_of grid row true m) in
    subst On same (subst At (ap (λ x. turn +ℤ (x *ℤ row.length)) none ∙ still turn row.length)
    (on_line turn row.length (grid.correction -ℤ grid.correction) left (grid.macros -ℤ grid.correction) most
    (parts grid.macros grid.correction here.placeable.is_grid.correction_to) (omega (arith, ints, length.low)) length.high)))
  where
    both : (a b : ℤ) → a ≤ℤ b → b ≤ℤ a → a ≡ b
    both a b one two = omega (arith, ints)

    nothing : (a : ℤ) → a -ℤ a ≡ pos 0
    nothing a = omega (arith, ints)

    some : (g o : ℤ) → o <ℤ g → pos 1 ≤ℤ (g -ℤ o)
    some g o less = omega (arith, ints)

    parts : (g o : ℤ) → o <ℤ g → pos 0 <ℤ (g -ℤ o)
    parts g o less = omega (arith, ints)

    still : (s l : ℤ) → s +ℤ (pos 0 *ℤ l) ≡ s
    still s l = omega (arith, ints)

-- ---- rows

-- by the rule of even cycles
even_section : (grid : Grid) (a m b bound : ℤ) (one other : NodeRow) → IsPlacedRow grid one → IsPlacedRow grid other → a ≤ℤ m → m ≤ℤ b
    → (instant_of grid one false a -ℤ instant_of grid other false a) ≤ℤ bound → (instant_of grid one false b -ℤ instant_of grid other false b) ≤ℤ bound
    → (instant_of grid one false m -ℤ instant_of grid other false m) ≤ℤ (bound +ℤ most +ℤ most)
even_section grid a m b bound one other here there from to near_a near_b =
    let is_grid = here.placeable.is_grid in
    lines_section one.start other.start ((grid.micros +ℤ one.rate) *ℤ one.length) ((grid.micros +ℤ other.rate) *ℤ other.length) one.length other.length a m b grid.macros most
    (instant_of grid one false a) (instant_of grid other false a) (instant_of grid one false m) (instant_of grid other false m) (instant_of grid one false b) (instant_of grid other false b) bound
    (even_line grid one a here) (even_line grid other a there) (even_line grid one m here) (even_line grid other m there) (even_line grid one b here) (even_line grid other b there)
    (omega (arith, ints, is_grid.correction_from, is_grid.correction_to)) (omega (arith, ints)) from to near_a near_b

-- from the start of the offset correction on
late_section : (grid : Grid) (a m b bound : ℤ) (one other : NodeRow) → IsPlacedRow grid one → IsPlacedRow grid other → grid.correction ≤ℤ a → a ≤ℤ m → m ≤ℤ b
    → (instant_of grid one true a -ℤ instant_of grid other true a) ≤ℤ bound → (instant_of grid one true b -ℤ instant_of grid other true b) ≤ℤ bound
    → (instant_of grid one true m -ℤ instant_of grid other true m) ≤ℤ (bound +ℤ most +ℤ most)
late_section grid a m b bound one other here there late from to near_a near_b =
    let o = grid.correction in
    let m_late : o ≤ℤ m = trans o a m late from in
    let b_late : o ≤ℤ b = trans o m b m_late to in
    lines_section (instant_of grid one true o) (instant_of grid other true o) (corrected_micros grid one.rate one.offset *ℤ one.length) (corrected_micros grid other.rate other.offset *ℤ other.length)
    one.length other.length (a -ℤ o) (m -ℤ o) (b -ℤ o) (grid.macros -ℤ o) most
    (instant_of grid one true a) (instant_of grid other true a) (instant_of grid one true m) (instant_of grid other true m) (instant_of grid one true b) (instant_of grid other true b) bound
    (turn_line grid one a here late) (turn_line grid other a there late) (turn_line grid one m here m_late) (turn_line grid other m there m_late) (turn_line grid one b here b_late) (turn_line grid other b there b_late)
    (parts grid.macros o here.placeable.is_grid.correction_to) (omega (arith, ints)) (less a m o from) (less m b o to) near_a near_b
  where
    trans : (a b c : ℤ) → a ≤ℤ b → b ≤ℤ c → a ≤ℤ c
    trans a b c one two = omega (arith, ints)

    parts : (g o : ℤ) → o <ℤ g → pos 0 <ℤ (g -ℤ o)
    parts g o less = omega (arith, ints)

    less : (a m o : ℤ) → a ≤ℤ m → (a -ℤ o) ≤ℤ (m -ℤ o)
    less a m o le = omega (arith, ints)

-- a stretch follows one rule
abbrev OneRule : Grid → Bool → ℤ → ℤ → Type 0
OneRule grid odd a b = (odd ≡ false) ⊎ ((b ≤ℤ grid.correction) ⊎ (grid.correction ≤ℤ a))

pair_section : (grid : Grid) (odd : Bool) (a m b bound : ℤ) (one other : NodeRow) → IsPlacedRow grid one → IsPlacedRow grid other → a ≤ℤ m → m ≤ℤ b → OneRule grid odd a b
    → (instant_of grid one odd a -ℤ instant_of grid other odd a) ≤ℤ bound → (instant_of grid one odd b -ℤ instant_of grid other odd b) ≤ℤ bound
    → (instant_of grid one odd m -ℤ instant_of grid other odd m) ≤ℤ (bound +ℤ most +ℤ most)
pair_section grid false a m b bound one other here there from to rule near_a near_b = even_section grid a m b bound one other here there from to near_a near_b
pair_section grid true a m b bound one other here there from to (inl even) near_a near_b = absurd (cc)
pair_section grid true a m b bound one other here there from to (inr (inr late)) near_a near_b = late_section grid a m b bound one other here there late from to near_a near_b
pair_section grid true a m b bound one other here there from to (inr (inl early)) near_a near_b =
    let o = grid.correction in
    let m_early : m ≤ℤ o = trans m b o to early in
    let a_early : a ≤ℤ o = trans a m o from m_early in
    moved (bound +ℤ most +ℤ most) (instant_of grid one false m) (instant_of grid one true m) (instant_of grid other false m) (instant_of grid other true m)
    (sym (before_correction grid one m m_early)) (sym (before_correction grid other m m_early))
    (even_section grid a m b bound one other here there from to
    (moved bound (instant_of grid one true a) (instant_of grid one false a) (instant_of grid other true a) (instant_of grid other false a) (before_correction grid one a a_early) (before_correction grid other a a_early) near_a)
    (moved bound (instant_of grid one true b) (instant_of grid one false b) (instant_of grid other true b) (instant_of grid other false b) (before_correction grid one b early) (before_correction grid other b early) near_b))
  where
    trans : (a b c : ℤ) → a ≤ℤ b → b ≤ℤ c → a ≤ℤ c
    trans a b c one two = omega (arith, ints)

    moved : (bound x x' y y' : ℤ) → x ≡ x' → y ≡ y' → (x -ℤ y) ≤ℤ bound → (x' -ℤ y') ≤ℤ bound
    moved bound x x' y y' e g within = omega (arith, ints)

rows_section : (grid : Grid) (odd : Bool) (rows : List NodeRow) (a m b bound : ℤ) → All (IsPlacedRow grid) rows → a ≤ℤ m → m ≤ℤ b → OneRule grid odd a b → pos 0 ≤ℤ bound
    → apart_at grid odd rows a ≤ℤ bound → apart_at grid odd rows b ≤ℤ bound → apart_at grid odd rows m ≤ℤ (bound +ℤ most +ℤ most)
rows_section grid odd rows a m b bound placed from to rule bound_from near_a near_b =
    let at : ℤ → NodeRow → ℤ = λ x row. instant_of grid row odd x in
    spread_of_pairs (at m) (bound +ℤ most +ℤ most) rows (omega (arith, ints))
    (λ one other here there.
    pair_section grid odd a m b bound one other (All-contains (IsPlacedRow grid) rows one placed here) (All-contains (IsPlacedRow grid) rows other placed there) from to rule
    (pair_apart (at a) bound rows one other near_a here there) (pair_apart (at b) bound rows one other near_b here there))

-- where the instants at both ends of a stretch lie within a bound, those in it lie within it and two of the longest microticks
pub stretch_bounded : (grid : Grid) (cycle : ℕ) (rows : List NodeRow) (from to macrotick : ℕ) (bound : ℤ) → All (IsPlacedRow grid) rows → IsStretch grid cycle from to
    → from ≤ macrotick → macrotick < to → pos 0 ≤ℤ bound → spread_at grid cycle rows from ≤ℤ bound → spread_at grid cycle rows to ≤ℤ bound
    → spread_at grid cycle rows macrotick ≤ℤ (bound +ℤ most +ℤ most)
unfolding spread_at
stretch_bounded grid cycle rows from to macrotick bound placed stretch above below bound_from begins ends =
    rows_section grid (is_odd cycle) (running rows) (pos from) (pos macrotick) (pos to) bound
    (All-filter (λ (row : NodeRow). not (is_halted row.state)) (IsPlacedRow grid) rows placed)
    (omega (arith, ints, above)) (omega (arith, ints, below)) stretch.one_rule bound_from begins ends
