-- How far apart the instants of any macrotick of a cycle lie, by those of four: its beginning and its end by the rule of
-- even cycles, the start of the offset correction, and the end.
use Rattle.std.proofs.Common.{◌≡◌, ℕ, Bool, true, false, ℤ, pos, List, [], ◌∷◌, map, All, refl, ap, sym, ◌∙◌, subst, arith}
use Rattle.std.specs.Prelude.{◌+ℤ◌, ◌-ℤ◌, ◌*ℤ◌, ◌≤ℤ◌, ◌<ℤ◌, int_lt, not, Contains}
use Rattle.std.proofs.lemmas.Int.{ints, by_lt_z}
use Rattle.std.proofs.lemmas.List.Elements.{All-cons, All-contains, All-contains_itself, All-filter, All-head, All-map, All-nil, All-tail, All-weaker}
use Rattle.fr_base.specs.States.{is_halted}
use Rattle.fr_base.specs.Within.{IsWithin}
use Rattle.fr_base.specs.declared.node_row.NodeRow.{NodeRow}
use Rattle.fr_midpoint.proofs.Products.{addz-mulz}
use Rattle.fr_time.specs.Cycles.{is_odd}
use Rattle.fr_time.specs.Instant.{instant_of}
use Rattle.fr_time.specs.Placed.{IsPlacedRow}
use Rattle.fr_time.specs.Position.{corrected_micros, even_position, floor_of}
use Rattle.fr_time.specs.declared.grid.Grid.{Grid}
use Rattle.fr_time.proofs.Ends.{corrected_micros_from, even_end, start}
use Rattle.fr_time.proofs.Floors.{share_of_all}
use Rattle.fr_time.proofs.Lines.{lines_between, on_line, OnLine}
use Rattle.fr_skew.specs.Spreads.{running, spread_at, spread_of}
use Rattle.fr_skew.proofs.Differences.{spread_from, within_by_spread}

-- ---- spreads and pairs

-- what holds of the numbers of rows
unmapped : (P : ℤ → Type 0) (f : NodeRow → ℤ) (rows : List NodeRow) → All P (map f rows) → All (λ row. P (f row)) rows
unmapped P f [] all = All-nil (λ row. P (f row))
unmapped P f (row ∷ rows) all = All-cons (λ r. P (f r)) row rows (All-head P (f row) (map f rows) all) (unmapped P f rows (All-tail P (f row) (map f rows) all))

-- two of some rows lie no further apart than their spread
pub pair_apart : (f : NodeRow → ℤ) (bound : ℤ) (rows : List NodeRow) (a b : NodeRow) → spread_of (map f rows) ≤ℤ bound → Contains rows a → Contains rows b → (f a -ℤ f b) ≤ℤ bound
pair_apart f bound rows a b near here there =
    let Near : ℤ → Type 0 = λ x. All (λ y. (x -ℤ y) ≤ℤ bound) (map f rows) in
    let all : All (λ row. Near (f row)) rows = unmapped Near f rows (within_by_spread bound (map f rows) near) in
    All-contains (λ row. (f a -ℤ f row) ≤ℤ bound) rows b
    (unmapped (λ y. (f a -ℤ y) ≤ℤ bound) f rows (All-contains (λ row. Near (f row)) rows a all here)) there

pair_within : (f : NodeRow → ℤ) (bound : ℤ) (rows : List NodeRow) (a b : NodeRow) → spread_of (map f rows) ≤ℤ bound → Contains rows a → Contains rows b → IsWithin bound (f a -ℤ f b)
pair_within f bound rows a b near here there =
    both bound (f a) (f b) (pair_apart f bound rows a b near here there) (pair_apart f bound rows b a near there here)
  where
    both : (bound x y : ℤ) → (x -ℤ y) ≤ℤ bound → (y -ℤ x) ≤ℤ bound → IsWithin bound (x -ℤ y)
    both bound x y one other = record { low = omega (arith, ints); high = one }

-- rows of which any two lie near
pub spread_of_pairs : (f : NodeRow → ℤ) (bound : ℤ) (rows : List NodeRow) → pos 0 ≤ℤ bound
    → ((a b : NodeRow) → Contains rows a → Contains rows b → (f a -ℤ f b) ≤ℤ bound) → spread_of (map f rows) ≤ℤ bound
spread_of_pairs f bound rows from near =
    spread_from bound (map f rows) from
    (All-map (λ x. All (λ y. (x -ℤ y) ≤ℤ bound) (map f rows)) f rows
    (All-weaker (Contains rows) (λ a. All (λ y. (f a -ℤ y) ≤ℤ bound) (map f rows))
    (λ a here.
    All-map (λ y. (f a -ℤ y) ≤ℤ bound) f rows (All-weaker (Contains rows) (λ b. (f a -ℤ f b) ≤ℤ bound) (λ b there. near a b here there) rows (All-contains_itself rows)))
    rows (All-contains_itself rows)))

-- ---- lines

-- the longest microtick, in ticks
abbrev pub most : ℤ
most = pos 1_500_000

pub int_lt_false : (a b : ℤ) → b ≤ℤ a → int_lt a b ≡ false
int_lt_false a b le = grind (arith, ints)

pub int_lt_true : (a b : ℤ) → a <ℤ b → int_lt a b ≡ true
int_lt_true a b less = grind (arith, ints)

-- two differences of the same numbers
moved : (bound x x' y y' : ℤ) → x ≡ x' → y ≡ y' → IsWithin bound (x -ℤ y) → IsWithin bound (x' -ℤ y')
moved bound x x' y y' e g within = record { low = omega (arith, ints, within.low); high = omega (arith, ints, within.high) }

-- by the rule of even cycles an instant lies on the way over the whole cycle
pub even_line : (grid : Grid) (row : NodeRow) (macrotick : ℤ) → IsPlacedRow grid row
    → OnLine row.start ((grid.micros +ℤ row.rate) *ℤ row.length) row.length macrotick grid.macros most (instant_of grid row false macrotick)
even_line grid row macrotick here =
    let is_grid = here.placeable.is_grid in
    let length = here.timed.length in
    on_line row.start row.length macrotick (grid.micros +ℤ row.rate) grid.macros most
    (omega (arith, ints, is_grid.correction_from, is_grid.correction_to)) (omega (arith, ints, length.low)) length.high

begins_at : (grid : Grid) (row : NodeRow) → IsPlacedRow grid row → instant_of grid row false (pos 0) ≡ row.start
begins_at grid row here =
    ap (λ at. row.start +ℤ (at *ℤ row.length)) (start grid row.rate row.offset false here.placeable) ∙ none row.start row.length
  where
    none : (s l : ℤ) → s +ℤ (pos 0 *ℤ l) ≡ s
    none s l = omega (arith, ints)

ends_evenly : (grid : Grid) (row : NodeRow) → IsPlacedRow grid row → instant_of grid row false grid.macros ≡ row.start +ℤ ((grid.micros +ℤ row.rate) *ℤ row.length)
ends_evenly grid row here = ap (λ at. row.start +ℤ (at *ℤ row.length)) (even_end grid row.rate row.offset here.placeable)

even_near : (grid : Grid) (macrotick bound : ℤ) (a b : NodeRow) → IsPlacedRow grid a → IsPlacedRow grid b → pos 0 ≤ℤ macrotick → macrotick ≤ℤ grid.macros
    → IsWithin bound (instant_of grid a false (pos 0) -ℤ instant_of grid b false (pos 0))
    → IsWithin bound (instant_of grid a false grid.macros -ℤ instant_of grid b false grid.macros)
    → IsWithin (bound +ℤ most) (instant_of grid a false macrotick -ℤ instant_of grid b false macrotick)
even_near grid macrotick bound a b here there from to begins ends =
    let is_grid = here.placeable.is_grid in
    let a_way : ℤ = (grid.micros +ℤ a.rate) *ℤ a.length in
    let b_way : ℤ = (grid.micros +ℤ b.rate) *ℤ b.length in
    lines_between a.start b.start a_way b_way a.length b.length macrotick grid.macros most
    (instant_of grid a false macrotick) (instant_of grid b false macrotick) bound
    (even_line grid a macrotick here) (even_line grid b macrotick there)
    (omega (arith, ints, is_grid.correction_from, is_grid.correction_to)) (omega (arith, ints)) from to
    (moved bound (instant_of grid a false (pos 0)) a.start (instant_of grid b false (pos 0)) b.start (begins_at grid a here) (begins_at grid b there) begins)
    (moved bound (instant_of grid a false grid.macros) (a.start +ℤ a_way) (instant_of grid b false grid.macros) (b.start +ℤ b_way) (ends_evenly grid a here) (ends_evenly grid b there) ends)

-- up to the offset correction an odd cycle follows the rule of even ones
pub before_correction : (grid : Grid) (row : NodeRow) (macrotick : ℤ) → macrotick ≤ℤ grid.correction
    → instant_of grid row true macrotick ≡ instant_of grid row false macrotick
before_correction grid row macrotick to = rw (int_lt_false grid.correction macrotick to) refl

-- from there on an instant lies on the way to the corrected end
late_instant : (grid : Grid) (row : NodeRow) (macrotick : ℤ) → grid.correction <ℤ macrotick
    → instant_of grid row true macrotick
    ≡ instant_of grid row true grid.correction +ℤ (floor_of ((macrotick -ℤ grid.correction) *ℤ corrected_micros grid row.rate row.offset) (grid.macros -ℤ grid.correction) *ℤ row.length)
late_instant grid row macrotick from =
    let begin = even_position grid row.rate grid.correction in
    let more = floor_of ((macrotick -ℤ grid.correction) *ℤ corrected_micros grid row.rate row.offset) (grid.macros -ℤ grid.correction) in
    let late : instant_of grid row true macrotick ≡ row.start +ℤ ((begin +ℤ more) *ℤ row.length) = rw (int_lt_true grid.correction macrotick from) refl in
    let early : instant_of grid row true grid.correction ≡ row.start +ℤ (begin *ℤ row.length) = before_correction grid row grid.correction (itself grid.correction) in
    late ∙ sum row.start (begin *ℤ row.length) (more *ℤ row.length) ((begin +ℤ more) *ℤ row.length) (addz-mulz begin more row.length) ∙ ap (λ x. x +ℤ (more *ℤ row.length)) (sym early)
  where
    itself : (a : ℤ) → a ≤ℤ a
    itself a = omega (arith, ints)

    sum : (s b m w : ℤ) → w ≡ b +ℤ m → s +ℤ w ≡ (s +ℤ b) +ℤ m
    sum s b m w e = omega (arith, ints)

pub late_line : (grid : Grid) (row : NodeRow) (macrotick : ℤ) → IsPlacedRow grid row → grid.correction <ℤ macrotick
    → OnLine (instant_of grid row true grid.correction) (corrected_micros grid row.rate row.offset *ℤ row.length) row.length
    (macrotick -ℤ grid.correction) (grid.macros -ℤ grid.correction) most (instant_of grid row true macrotick)
late_line grid row macrotick here from =
    let rest = corrected_micros grid row.rate row.offset in
    let turn = instant_of grid row true grid.correction in
    let length = here.timed.length in
    let On : ℤ → Type 0 = OnLine turn (rest *ℤ row.length) row.length (macrotick -ℤ grid.correction) (grid.macros -ℤ grid.correction) most in
    subst On (sym (late_instant grid row macrotick from))
    (on_line turn row.length (macrotick -ℤ grid.correction) rest (grid.macros -ℤ grid.correction) most
    (some_parts grid.macros grid.correction here.placeable.is_grid.correction_to) (omega (arith, ints, length.low)) length.high)
  where
    some_parts : (g o : ℤ) → o <ℤ g → pos 0 <ℤ (g -ℤ o)
    some_parts g o less = omega (arith, ints)

-- that way ends at the end of the cycle
late_end : (grid : Grid) (row : NodeRow) → IsPlacedRow grid row
    → instant_of grid row true grid.macros ≡ instant_of grid row true grid.correction +ℤ (corrected_micros grid row.rate row.offset *ℤ row.length)
late_end grid row here =
    late_instant grid row grid.macros here.placeable.is_grid.correction_to
    ∙ ap (λ x. instant_of grid row true grid.correction +ℤ (x *ℤ row.length))
    (share_of_all (corrected_micros grid row.rate row.offset) (grid.macros -ℤ grid.correction)
    (some grid.macros grid.correction here.placeable.is_grid.correction_to) (corrected_micros_from grid row.rate row.offset here.placeable))
  where
    some : (g o : ℤ) → o <ℤ g → pos 1 ≤ℤ (g -ℤ o)
    some g o less = omega (arith, ints)

late_near : (grid : Grid) (macrotick bound : ℤ) (a b : NodeRow) → IsPlacedRow grid a → IsPlacedRow grid b → grid.correction <ℤ macrotick → macrotick ≤ℤ grid.macros
    → IsWithin bound (instant_of grid a true grid.correction -ℤ instant_of grid b true grid.correction)
    → IsWithin bound (instant_of grid a true grid.macros -ℤ instant_of grid b true grid.macros)
    → IsWithin (bound +ℤ most) (instant_of grid a true macrotick -ℤ instant_of grid b true macrotick)
late_near grid macrotick bound a b here there late to turns ends =
    let a_turn = instant_of grid a true grid.correction in
    let b_turn = instant_of grid b true grid.correction in
    let a_way : ℤ = corrected_micros grid a.rate a.offset *ℤ a.length in
    let b_way : ℤ = corrected_micros grid b.rate b.offset *ℤ b.length in
    lines_between a_turn b_turn a_way b_way a.length b.length (macrotick -ℤ grid.correction) (grid.macros -ℤ grid.correction) most
    (instant_of grid a true macrotick) (instant_of grid b true macrotick) bound
    (late_line grid a macrotick here late) (late_line grid b macrotick there late)
    (apart grid.correction grid.macros here.placeable.is_grid.correction_to) (omega (arith, ints)) (apart_from grid.correction macrotick late) (no_more macrotick grid.correction grid.macros to)
    turns (moved bound (instant_of grid a true grid.macros) (a_turn +ℤ a_way) (instant_of grid b true grid.macros) (b_turn +ℤ b_way) (late_end grid a here) (late_end grid b there) ends)
  where
    apart : (o g : ℤ) → o <ℤ g → pos 0 <ℤ (g -ℤ o)
    apart o g less = omega (arith, ints)

    apart_from : (o m : ℤ) → o <ℤ m → pos 0 ≤ℤ (m -ℤ o)
    apart_from o m less = omega (arith, ints)

    no_more : (m o g : ℤ) → m ≤ℤ g → (m -ℤ o) ≤ℤ (g -ℤ o)
    no_more m o g le = omega (arith, ints)

-- ---- rows of one cycle

-- two rows lie near where their cycle begins, ends by the rule of even cycles, turns and ends
record Near (grid : Grid) (odd : Bool) (bound : ℤ) (a b : NodeRow) : Type 0 where
  begins : IsWithin bound (instant_of grid a false (pos 0) -ℤ instant_of grid b false (pos 0))
  evenly : IsWithin bound (instant_of grid a false grid.macros -ℤ instant_of grid b false grid.macros)
  turns : IsWithin bound (instant_of grid a odd grid.correction -ℤ instant_of grid b odd grid.correction)
  ends : IsWithin bound (instant_of grid a odd grid.macros -ℤ instant_of grid b odd grid.macros)

pair_near : (grid : Grid) (odd : Bool) (macrotick bound : ℤ) (a b : NodeRow) → IsPlacedRow grid a → IsPlacedRow grid b → pos 0 ≤ℤ macrotick → macrotick ≤ℤ grid.macros
    → Near grid odd bound a b → IsWithin (bound +ℤ most) (instant_of grid a odd macrotick -ℤ instant_of grid b odd macrotick)
pair_near grid false macrotick bound a b here there from to near = even_near grid macrotick bound a b here there from to near.begins near.evenly
pair_near grid true macrotick bound a b here there from to near =
    by_lt_z grid.correction macrotick
    (λ late. late_near grid macrotick bound a b here there late to near.turns near.ends)
    (λ early.
    moved (bound +ℤ most) (instant_of grid a false macrotick) (instant_of grid a true macrotick) (instant_of grid b false macrotick) (instant_of grid b true macrotick)
    (sym (before_correction grid a macrotick early)) (sym (before_correction grid b macrotick early))
    (even_near grid macrotick bound a b here there from to near.begins near.evenly))

-- how far some rows' instants of a macrotick lie apart
abbrev pub apart_at : Grid → Bool → List NodeRow → ℤ → ℤ
apart_at grid odd rows macrotick = spread_of (map (λ row. instant_of grid row odd macrotick) rows)

rows_bounded : (grid : Grid) (odd : Bool) (rows : List NodeRow) (macrotick bound : ℤ) → All (IsPlacedRow grid) rows → pos 0 ≤ℤ macrotick → macrotick ≤ℤ grid.macros → pos 0 ≤ℤ bound
    → apart_at grid false rows (pos 0) ≤ℤ bound → apart_at grid false rows grid.macros ≤ℤ bound → apart_at grid odd rows grid.correction ≤ℤ bound → apart_at grid odd rows grid.macros ≤ℤ bound
    → apart_at grid odd rows macrotick ≤ℤ (bound +ℤ most)
rows_bounded grid odd rows macrotick bound placed from to bound_from begins evenly turns ends =
    let at : Bool → ℤ → NodeRow → ℤ = λ by m row. instant_of grid row by m in
    spread_of_pairs (at odd macrotick) (bound +ℤ most) rows (omega (arith, ints))
    (λ a b here there.
    (pair_near grid odd macrotick bound a b (All-contains (IsPlacedRow grid) rows a placed here) (All-contains (IsPlacedRow grid) rows b placed there) from to
    (record {
      begins = pair_within (at false (pos 0)) bound rows a b begins here there;
      evenly = pair_within (at false grid.macros) bound rows a b evenly here there;
      turns = pair_within (at odd grid.correction) bound rows a b turns here there;
      ends = pair_within (at odd grid.macros) bound rows a b ends here there;
    })).high)

-- where the instants of four macroticks lie within a bound, those of any macrotick lie within it and the longest microtick
pub spread_bounded : (grid : Grid) (cycle : ℕ) (rows : List NodeRow) (correction macros macrotick : ℕ) (bound : ℤ) → All (IsPlacedRow grid) rows
    → pos correction ≡ grid.correction → pos macros ≡ grid.macros → pos macrotick ≤ℤ grid.macros → pos 0 ≤ℤ bound
    → spread_at grid 0 rows 0 ≤ℤ bound → spread_at grid 0 rows macros ≤ℤ bound → spread_at grid cycle rows correction ≤ℤ bound → spread_at grid cycle rows macros ≤ℤ bound
    → spread_at grid cycle rows macrotick ≤ℤ (bound +ℤ most)
unfolding spread_at
spread_bounded grid cycle rows correction macros macrotick bound placed turn_is end_is to bound_from begins evenly turns ends =
    let kept = running rows in
    let At : Bool → ℤ → Type 0 = λ odd m. apart_at grid odd kept m ≤ℤ bound in
    rows_bounded grid (is_odd cycle) kept (pos macrotick) bound (All-filter (λ (row : NodeRow). not (is_halted row.state)) (IsPlacedRow grid) rows placed)
    (natural_from macrotick) to bound_from begins (subst (At false) end_is evenly) (subst (At (is_odd cycle)) turn_is turns) (subst (At (is_odd cycle)) end_is ends)
  where
    natural_from : (n : ℕ) → pos 0 ≤ℤ pos n
    natural_from n = omega (arith, ints)
