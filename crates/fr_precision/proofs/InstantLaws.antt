-- The laws of instants, over rows.
use Rattle.std.proofs.Common.{◌≡◌, ℕ, Bool, true, false, ℤ, pos, refl, ap, sym, ◌∙◌, subst, arith}
use Rattle.std.specs.Prelude.{◌+ℤ◌, ◌-ℤ◌, ◌*ℤ◌, ◌≤ℤ◌, ◌<ℤ◌, int_lt}
use Rattle.std.proofs.lemmas.Int.{ints, by_lt_z}
use Rattle.fr_base.specs.declared.node_row.NodeRow.{NodeRow}
use Rattle.fr_cluster.specs.Values.{Values}
use Rattle.fr_cluster.specs.Sane.{IsSane}
use Rattle.fr_base.specs.Within.{IsWithin}
use Rattle.fr_midpoint.proofs.Products.{addz-mulz, subz-mulz}
use Rattle.fr_time.specs.Position.{corrected_micros, even_position, floor_of, grid_for}
use Rattle.fr_time.specs.Instant.{instant_of}
use Rattle.fr_time.proofs.Placing.{is_grid_lem}
use Rattle.fr_bound.specs.Bounds.{lambda_of, longest_micro, pi_of}
use Rattle.fr_bound.specs.Sync.{cycle_length_of}
use Rattle.fr_precision.specs.Rows.{corrected_end_of, end_of, Lasts, IsDoubleCycle}
use Rattle.fr_precision.specs.Instants.{ActionsStayNear, gap_of, LieNear, MacroticksLieBetween, MacroticksLieWithin, MacroticksStayNear, PrecisionHolds, row_in, Runs}
use Rattle.fr_precision.specs.Nearness.{MacroticksLieInReach}
use Rattle.fr_time.proofs.Lines.{lines_between, lines_near, on_line, OnLine}

-- up to the offset correction the rule of even cycles places a macrotick
int_lt_false : (a b : ℤ) → b ≤ℤ a → int_lt a b ≡ false
int_lt_false a b le = grind (arith, ints)

int_lt_true : (a b : ℤ) → a <ℤ b → int_lt a b ≡ true
int_lt_true a b less = grind (arith, ints)

even_instant : Values → NodeRow → ℤ → ℤ
even_instant p row macrotick = row.start +ℤ (even_position (grid_for p) row.rate macrotick *ℤ row.length)

pub before_correction : (p : Values) (row : NodeRow) (macrotick : ℤ) → macrotick ≤ℤ p.correction
    → instant_of (grid_for p) row true macrotick ≡ instant_of (grid_for p) row false macrotick
before_correction p row macrotick to = rw (int_lt_false p.correction macrotick to) refl

-- an instant by the rule of even cycles lies on the way over the whole cycle
pub even_on_line : (p : Values) (row : NodeRow) (macrotick : ℤ) → IsSane p → Lasts p row
    → OnLine row.start (cycle_length_of p row) row.length macrotick p.macros (pos (longest_micro p)) (instant_of (grid_for p) row false macrotick)
even_on_line p row macrotick sane lasts =
    let grid = is_grid_lem p sane in
    on_line row.start row.length macrotick (p.micros +ℤ row.rate) p.macros (pos (longest_micro p)) (omega (arith, ints, grid.correction_from, grid.correction_to)) lasts.some lasts.most

pub early_on_line : (p : Values) (row : NodeRow) (macrotick : ℤ) → IsSane p → Lasts p row → macrotick ≤ℤ p.correction
    → OnLine row.start (cycle_length_of p row) row.length macrotick p.macros (pos (longest_micro p)) (instant_of (grid_for p) row true macrotick)
early_on_line p row macrotick sane lasts to =
    let On : ℤ → Type 0 = OnLine row.start (cycle_length_of p row) row.length macrotick p.macros (pos (longest_micro p)) in
    subst On (sym (before_correction p row macrotick to)) (even_on_line p row macrotick sane lasts)

-- from the offset correction on it lies on the way to the corrected end
pub late_instant : (p : Values) (row : NodeRow) (macrotick : ℤ) → p.correction <ℤ macrotick
    → instant_of (grid_for p) row true macrotick
    ≡ instant_of (grid_for p) row true p.correction +ℤ (floor_of ((macrotick -ℤ p.correction) *ℤ corrected_micros (grid_for p) row.rate row.offset) (p.macros -ℤ p.correction) *ℤ row.length)
late_instant p row macrotick from =
    let begin = even_position (grid_for p) row.rate p.correction in
    let more = floor_of ((macrotick -ℤ p.correction) *ℤ corrected_micros (grid_for p) row.rate row.offset) (p.macros -ℤ p.correction) in
    let late : instant_of (grid_for p) row true macrotick ≡ row.start +ℤ ((begin +ℤ more) *ℤ row.length) = rw (int_lt_true p.correction macrotick from) refl in
    let early : instant_of (grid_for p) row true p.correction ≡ row.start +ℤ (begin *ℤ row.length) = rw (int_lt_false p.correction p.correction (itself p.correction)) refl in
    late ∙ sum row.start (begin *ℤ row.length) (more *ℤ row.length) ((begin +ℤ more) *ℤ row.length) (addz-mulz begin more row.length) ∙ ap (λ x. x +ℤ (more *ℤ row.length)) (sym early)
  where
    itself : (a : ℤ) → a ≤ℤ a
    itself a = omega (arith, ints)

    sum : (s b m w : ℤ) → w ≡ b +ℤ m → s +ℤ w ≡ (s +ℤ b) +ℤ m
    sum s b m w e = omega (arith, ints)

pub late_on_line : (p : Values) (row : NodeRow) (macrotick : ℤ) → IsSane p → Lasts p row → p.correction <ℤ macrotick
    → OnLine (instant_of (grid_for p) row true p.correction) (corrected_micros (grid_for p) row.rate row.offset *ℤ row.length) row.length
    (macrotick -ℤ p.correction) (p.macros -ℤ p.correction) (pos (longest_micro p)) (instant_of (grid_for p) row true macrotick)
late_on_line p row macrotick sane lasts from =
    let grid = is_grid_lem p sane in
    let rest = corrected_micros (grid_for p) row.rate row.offset in
    let start = instant_of (grid_for p) row true p.correction in
    let On : ℤ → Type 0 = OnLine start (rest *ℤ row.length) row.length (macrotick -ℤ p.correction) (p.macros -ℤ p.correction) (pos (longest_micro p)) in
    let line =
    on_line start row.length (macrotick -ℤ p.correction) rest (p.macros -ℤ p.correction) (pos (longest_micro p))
    (some_parts p.macros p.correction grid.correction_to) lasts.some lasts.most in
    subst On (sym (late_instant p row macrotick from)) line
  where
    some_parts : (g o : ℤ) → o <ℤ g → pos 0 <ℤ (g -ℤ o)
    some_parts g o less = omega (arith, ints)

-- the way ends at the corrected end
corrected_end_is : (p : Values) (row : NodeRow)
    → instant_of (grid_for p) row true p.correction +ℤ (corrected_micros (grid_for p) row.rate row.offset *ℤ row.length) ≡ corrected_end_of p row
corrected_end_is p row =
    let begin = even_position (grid_for p) row.rate p.correction in
    let whole = p.micros +ℤ row.rate +ℤ row.offset in
    let early : instant_of (grid_for p) row true p.correction ≡ row.start +ℤ (begin *ℤ row.length) = rw (int_lt_false p.correction p.correction (itself p.correction)) refl in
    ap (λ x. x +ℤ ((whole -ℤ begin) *ℤ row.length)) early
    ∙ sum row.start (begin *ℤ row.length) (whole *ℤ row.length) ((whole -ℤ begin) *ℤ row.length) (subz-mulz whole begin row.length)
  where
    itself : (a : ℤ) → a ≤ℤ a
    itself a = omega (arith, ints)

    sum : (s b w r : ℤ) → r ≡ w -ℤ b → (s +ℤ b) +ℤ r ≡ s +ℤ w
    sum s b w r e = omega (arith, ints)

-- the odd cycle starts where the even one ends
pub odd_start_is : (p : Values) (even odd : NodeRow) → IsDoubleCycle p even odd → odd.start ≡ end_of p even
odd_start_is p even odd double =
    double.follows ∙ ap (λ micros. even.start +ℤ (micros *ℤ even.length)) (none p.micros even.rate even.offset double.no_offset)
  where
    none : (n r o : ℤ) → o ≡ pos 0 → n +ℤ r +ℤ o ≡ n +ℤ r
    none n r o e = omega (arith, ints)

pub wider : (a b x : ℤ) → a ≤ℤ b → IsWithin a x → IsWithin b x
wider a b x le within = record { low = omega (arith, ints, within.low); high = omega (arith, ints, within.high) }

-- the odd cycles' starts lie no further apart than the even ones' and their lengths
pub odd_starts : (p : Values) (starts even_lengths odd_lengths : ℤ) (even odd other_even other_odd : NodeRow)
    → Runs p even odd → Runs p other_even other_odd → LieNear p starts even_lengths odd_lengths even odd other_even other_odd
    → IsWithin (starts +ℤ even_lengths) (odd.start -ℤ other_odd.start)
odd_starts p starts even_lengths odd_lengths even odd other_even other_odd runs other_runs near =
    sum starts even_lengths even.start other_even.start (cycle_length_of p even) (cycle_length_of p other_even) odd.start other_odd.start
    (odd_start_is p even odd runs.double) (odd_start_is p other_even other_odd other_runs.double) near.by_start near.by_even
  where
    sum : (a b s s' l l' x y : ℤ) → x ≡ s +ℤ l → y ≡ s' +ℤ l' → IsWithin a (s -ℤ s') → IsWithin b (l -ℤ l') → IsWithin (a +ℤ b) (x -ℤ y)
    sum a b s s' l l' x y e g h k = record { low = omega (arith, ints, h.low, k.low); high = omega (arith, ints, h.high, k.high) }

no_less : (n : ℕ) → pos 0 ≤ℤ pos n
no_less n = omega (arith, ints)

within_cycle : (m o g : ℤ) → m ≤ℤ o → o <ℤ g → m ≤ℤ g
within_cycle m o g a b = omega (arith, ints)

pub macroticks_stay_near_lem : MacroticksStayNear
macroticks_stay_near_lem p starts even_lengths odd_lengths macrotick even odd other_even other_odd sane runs other_runs near from =
    let grid = is_grid_lem p sane in
    let some : pos 0 <ℤ p.macros = omega (arith, ints, grid.correction_from, grid.correction_to) in
    let most = pos (longest_micro p) in (
      λ to.
          lines_near even.start other_even.start (cycle_length_of p even) (cycle_length_of p other_even) even.length other_even.length macrotick p.macros most
          (instant_of (grid_for p) even false macrotick) (instant_of (grid_for p) other_even false macrotick) starts even_lengths
          (even_on_line p even macrotick sane runs.even_lasts) (even_on_line p other_even macrotick sane other_runs.even_lasts)
          some (no_less (longest_micro p)) from to near.by_start near.by_even,
      λ to.
          lines_near odd.start other_odd.start (cycle_length_of p odd) (cycle_length_of p other_odd) odd.length other_odd.length macrotick p.macros most
          (instant_of (grid_for p) odd true macrotick) (instant_of (grid_for p) other_odd true macrotick) (starts +ℤ even_lengths) odd_lengths
          (early_on_line p odd macrotick sane runs.odd_lasts to) (early_on_line p other_odd macrotick sane other_runs.odd_lasts to)
          some (no_less (longest_micro p)) from (within_cycle macrotick p.correction p.macros to grid.correction_to)
          (odd_starts p starts even_lengths odd_lengths even odd other_even other_odd runs other_runs near) near.by_odd,
    )

-- within the reach that takes in starts, both lengths and a microtick
actions_in_reach : (p : Values) (starts lengths reach action : ℤ) (is_odd : Bool) (even odd other_even other_odd : NodeRow)
    → LieNear p starts lengths lengths even odd other_even other_odd
    → (starts +ℤ (pos 2 *ℤ lengths) +ℤ pos (longest_micro p)) ≤ℤ reach
    → IsWithin (starts +ℤ lengths +ℤ pos (longest_micro p)) (gap_of p false action even other_even)
    → IsWithin (starts +ℤ lengths +ℤ lengths +ℤ pos (longest_micro p)) (gap_of p true action odd other_odd)
    → IsWithin reach (gap_of p is_odd action (row_in is_odd even odd) (row_in is_odd other_even other_odd))
actions_in_reach p starts lengths reach action false even odd other_even other_odd near fits early late =
    wider (starts +ℤ lengths +ℤ pos (longest_micro p)) reach (gap_of p false action even other_even)
    (less starts lengths reach (pos (longest_micro p)) (cycle_length_of p even -ℤ cycle_length_of p other_even) near.by_even fits) early
  where
    less : (s l r q x : ℤ) → IsWithin l x → (s +ℤ (pos 2 *ℤ l) +ℤ q) ≤ℤ r → (s +ℤ l +ℤ q) ≤ℤ r
    less s l r q x within le = omega (arith, ints, within.low, within.high)
actions_in_reach p starts lengths reach action true even odd other_even other_odd near fits early late =
    wider (starts +ℤ lengths +ℤ lengths +ℤ pos (longest_micro p)) reach (gap_of p true action odd other_odd)
    (twice starts lengths reach (pos (longest_micro p)) fits) late
  where
    twice : (s l r q : ℤ) → (s +ℤ (pos 2 *ℤ l) +ℤ q) ≤ℤ r → (s +ℤ l +ℤ l +ℤ q) ≤ℤ r
    twice s l r q le = omega (arith, ints)

pub actions_stay_near : ActionsStayNear
actions_stay_near p starts lengths reach action is_odd even odd other_even other_odd sane runs other_runs near fits from to =
    let grid = is_grid_lem p sane in
    let both = macroticks_stay_near_lem p starts lengths lengths action even odd other_even other_odd sane runs other_runs near from in
    actions_in_reach p starts lengths reach action is_odd even odd other_even other_odd near fits
    (both.0 (within_cycle action p.correction p.macros to grid.correction_to)) (both.1 to)

-- ---- macroticks, where starts, even and odd lengths lie so far apart

pub bound_from : (bound x : ℤ) → IsWithin bound x → pos 0 ≤ℤ bound
bound_from bound x near = omega (arith, ints, near.low, near.high)

-- from the offset correction on they lie on the way to the corrected end
late_in_reach : (p : Values) (starts evens odds ends reach macrotick : ℤ) (even odd other_even other_odd : NodeRow)
    → IsSane p → Runs p even odd → Runs p other_even other_odd → LieNear p starts evens odds even odd other_even other_odd
    → IsWithin ends (corrected_end_of p odd -ℤ corrected_end_of p other_odd)
    → (starts +ℤ evens +ℤ odds +ℤ (pos 2 *ℤ pos (longest_micro p))) ≤ℤ reach → (ends +ℤ pos (longest_micro p)) ≤ℤ reach
    → p.correction <ℤ macrotick → macrotick ≤ℤ p.macros
    → IsWithin reach (gap_of p true macrotick odd other_odd)
late_in_reach p starts evens odds ends reach macrotick even odd other_even other_odd sane runs other_runs near by_end fits ends_fit from to =
    let grid = is_grid_lem p sane in
    let most = pos (longest_micro p) in
    let bound = reach -ℤ most in
    let o_from : pos 0 ≤ℤ p.correction = omega (arith, ints, grid.correction_from) in
    let early = (macroticks_stay_near_lem p starts evens odds p.correction even odd other_even other_odd sane runs other_runs near o_from).1 (itself p.correction) in
    let start = instant_of (grid_for p) odd true p.correction in
    let other_start = instant_of (grid_for p) other_odd true p.correction in
    let rest = corrected_micros (grid_for p) odd.rate odd.offset *ℤ odd.length in
    let other_rest = corrected_micros (grid_for p) other_odd.rate other_odd.offset *ℤ other_odd.length in
    let begin : IsWithin bound (start -ℤ other_start) =
    wider (starts +ℤ evens +ℤ odds +ℤ most) bound (gap_of p true p.correction odd other_odd) (takes_in starts evens odds most reach fits) early in
    let close : IsWithin bound ((start +ℤ rest) -ℤ (other_start +ℤ other_rest)) =
    at_ends ends bound (start +ℤ rest) (corrected_end_of p odd) (other_start +ℤ other_rest) (corrected_end_of p other_odd) (corrected_end_is p odd) (corrected_end_is p other_odd)
    (less_one ends most reach ends_fit) by_end in
    wider (bound +ℤ most) reach (gap_of p true macrotick odd other_odd) (again reach most)
    (
    lines_between start other_start rest other_rest odd.length other_odd.length (macrotick -ℤ p.correction) (p.macros -ℤ p.correction) most
    (instant_of (grid_for p) odd true macrotick) (instant_of (grid_for p) other_odd true macrotick) bound
    (late_on_line p odd macrotick sane runs.odd_lasts from) (late_on_line p other_odd macrotick sane other_runs.odd_lasts from)
    (apart p.correction p.macros grid.correction_to) (no_less (longest_micro p)) (apart_from p.correction macrotick from) (no_more macrotick p.correction p.macros to)
    begin close
    )
  where
    itself : (a : ℤ) → a ≤ℤ a
    itself a = omega (arith, ints)

    apart : (o g : ℤ) → o <ℤ g → pos 0 <ℤ (g -ℤ o)
    apart o g less = omega (arith, ints)

    apart_from : (o m : ℤ) → o <ℤ m → pos 0 ≤ℤ (m -ℤ o)
    apart_from o m less = omega (arith, ints)

    no_more : (m o g : ℤ) → m ≤ℤ g → (m -ℤ o) ≤ℤ (g -ℤ o)
    no_more m o g le = omega (arith, ints)

    takes_in : (s l k q r : ℤ) → (s +ℤ l +ℤ k +ℤ (pos 2 *ℤ q)) ≤ℤ r → (s +ℤ l +ℤ k +ℤ q) ≤ℤ (r -ℤ q)
    takes_in s l k q r le = omega (arith, ints)

    less_one : (e q r : ℤ) → (e +ℤ q) ≤ℤ r → e ≤ℤ (r -ℤ q)
    less_one e q r le = omega (arith, ints)

    again : (r q : ℤ) → ((r -ℤ q) +ℤ q) ≤ℤ r
    again r q = omega (arith, ints)

    at_ends : (s b x x' y y' : ℤ) → x ≡ x' → y ≡ y' → s ≤ℤ b → IsWithin s (x' -ℤ y') → IsWithin b (x -ℤ y)
    at_ends s b x x' y y' e g le within = record { low = omega (arith, ints, within.low); high = omega (arith, ints, within.high) }

-- no macrotick of both cycles lies further apart than the reach
pub macroticks_lie_in_reach : MacroticksLieInReach
macroticks_lie_in_reach p starts evens odds ends reach macrotick false even odd other_even other_odd sane runs other_runs near by_end fits ends_fit from to =
    wider (starts +ℤ evens +ℤ pos (longest_micro p)) reach (gap_of p false macrotick even other_even)
    (more starts evens odds reach (longest_micro p) (bound_from odds (cycle_length_of p odd -ℤ cycle_length_of p other_odd) near.by_odd) fits)
    ((macroticks_stay_near_lem p starts evens odds macrotick even odd other_even other_odd sane runs other_runs near from).0 to)
  where
    more : (s l k r : ℤ) (q : ℕ) → pos 0 ≤ℤ k → (s +ℤ l +ℤ k +ℤ (pos 2 *ℤ pos q)) ≤ℤ r → (s +ℤ l +ℤ pos q) ≤ℤ r
    more s l k r q from le = omega (arith, ints)
macroticks_lie_in_reach p starts evens odds ends reach macrotick true even odd other_even other_odd sane runs other_runs near by_end fits ends_fit from to =
    by_lt_z p.correction macrotick
    (λ late. late_in_reach p starts evens odds ends reach macrotick even odd other_even other_odd sane runs other_runs near by_end fits ends_fit late to)
    (λ early.
    wider (starts +ℤ evens +ℤ odds +ℤ pos (longest_micro p)) reach (gap_of p true macrotick odd other_odd)
    (more starts evens odds reach (longest_micro p) fits)
    ((macroticks_stay_near_lem p starts evens odds macrotick even odd other_even other_odd sane runs other_runs near from).1 early))
  where
    more : (s l k r : ℤ) (q : ℕ) → (s +ℤ l +ℤ k +ℤ (pos 2 *ℤ pos q)) ≤ℤ r → (s +ℤ l +ℤ k +ℤ pos q) ≤ℤ r
    more s l k r q le = omega (arith, ints)

-- with one bound for lengths
pub macroticks_lie_within : MacroticksLieWithin
macroticks_lie_within p starts lengths ends reach macrotick is_odd even odd other_even other_odd sane runs other_runs near by_end fits =
    macroticks_lie_in_reach p starts lengths lengths ends reach macrotick is_odd even odd other_even other_odd sane runs other_runs near by_end (each starts lengths reach (longest_micro p) fits)
  where
    each : (s l r : ℤ) (q : ℕ) → (s +ℤ (pos 2 *ℤ l) +ℤ (pos 2 *ℤ pos q)) ≤ℤ r → (s +ℤ l +ℤ l +ℤ (pos 2 *ℤ pos q)) ≤ℤ r
    each s l r q le = omega (arith, ints)

-- with one bound at both ends
pub macroticks_lie_between : MacroticksLieBetween
macroticks_lie_between p starts lengths macrotick is_odd even odd other_even other_odd sane runs other_runs near ends from to =
    macroticks_lie_within p starts lengths starts (starts +ℤ (pos 2 *ℤ lengths) +ℤ (pos 2 *ℤ pos (longest_micro p))) macrotick is_odd even odd other_even other_odd sane runs other_runs near
    ends (itself (starts +ℤ (pos 2 *ℤ lengths) +ℤ (pos 2 *ℤ pos (longest_micro p))))
    (less starts lengths (longest_micro p) (cycle_length_of p even -ℤ cycle_length_of p other_even) near.by_even) from to
  where
    itself : (a : ℤ) → a ≤ℤ a
    itself a = omega (arith, ints)

    less : (s l : ℤ) (q : ℕ) (x : ℤ) → IsWithin l x → (s +ℤ pos q) ≤ℤ (s +ℤ (pos 2 *ℤ l) +ℤ (pos 2 *ℤ pos q))
    less s l q x within = omega (arith, ints, within.low, within.high)

pub precision_holds_lem : PrecisionHolds
precision_holds_lem p macrotick is_odd even odd other_even other_odd sane runs other_runs near ends from to =
    macroticks_lie_between p (pos (pi_of p)) (pos (lambda_of p)) macrotick is_odd even odd other_even other_odd sane runs other_runs near ends from to
