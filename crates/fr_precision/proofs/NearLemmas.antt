-- The sharper laws of instants, over rows.
use Rattle.std.proofs.Common.{◌≡◌, ℕ, ◌+◌, ◌*◌, true, false, ℤ, pos, arith}
use Rattle.std.specs.Prelude.{◌+ℤ◌, ◌-ℤ◌, ◌*ℤ◌, ◌≤ℤ◌, ◌<ℤ◌}
use Rattle.std.proofs.lemmas.Int.{ints}
use Rattle.fr_base.specs.Within.{IsWithin}
use Rattle.fr_midpoint.proofs.Products.{mulz_within}
use Rattle.fr_time.specs.Position.{floor_of, grid_for}
use Rattle.fr_time.specs.Instant.{instant_of}
use Rattle.fr_time.proofs.Placing.{is_grid_lem}
use Rattle.fr_bound.specs.Bounds.{cycle_change, longest_micro}
use Rattle.fr_bound.specs.Sync.{cycle_length_of}
use Rattle.fr_precision.specs.Instants.{gap_of}
use Rattle.fr_precision.proofs.InstantLaws.{bound_from, early_on_line, macroticks_stay_near_lem, wider, odd_starts as odd_starts_near}
use Rattle.fr_precision.proofs.PlacementLaws.{share_from}
use Rattle.fr_precision.specs.Nearness.{ActionsLieNear, OddLengthsFollow}
use Rattle.fr_precision.proofs.Signed.{signed_of}
use Rattle.fr_precision.proofs.SteadyLemmas.{regularly}
use Rattle.fr_precision.proofs.Tails.{lines_share}

-- ---- odd lengths

pub odd_lengths_follow : OddLengthsFollow
odd_lengths_follow p lengths even odd other_even other_odd sane regular other_regular near =
    let s = signed_of p sane in
    let grid = is_grid_lem p sane in
    let to : pos 0 ≤ℤ p.correction = before p.correction grid.correction_from in
    let r = regularly p even odd (pos 0) sane regular nothing to in
    let q = regularly p other_even other_odd (pos 0) sane other_regular nothing to in
    let one = mulz_within (p.micros +ℤ even.rate) (odd.length -ℤ even.length) (p.micros +ℤ p.rate_limit) p.change_bound r.whole_from r.whole_to r.change in
    let other = mulz_within (p.micros +ℤ other_even.rate) (other_odd.length -ℤ other_even.length) (p.micros +ℤ p.rate_limit) p.change_bound q.whole_from q.whole_to q.change in
    sum lengths (cycle_change p) ((p.micros +ℤ p.rate_limit) *ℤ p.change_bound) (cycle_length_of p even) (cycle_length_of p odd) (cycle_length_of p other_even) (cycle_length_of p other_odd)
    ((p.micros +ℤ even.rate) *ℤ (odd.length -ℤ even.length)) ((p.micros +ℤ other_even.rate) *ℤ (other_odd.length -ℤ other_even.length)) s.j_is r.lengths q.lengths near one other
  where
    nothing : pos 0 ≤ℤ pos 0
    nothing = omega (arith, ints)

    before : (c : ℤ) → pos 1 ≤ℤ c → pos 0 ≤ℤ c
    before c le = omega (arith, ints)

    sum : (l j : ℕ) (jj e o e' o' x y : ℤ) → pos j ≡ jj → o ≡ e +ℤ x → o' ≡ e' +ℤ y → IsWithin (pos l) (e -ℤ e') → IsWithin jj x → IsWithin jj y → IsWithin (pos (l + 2 * j)) (o -ℤ o')
    sum l j jj e o e' o' x y a b c near one other = record {
      low = omega (arith, ints, near.low, one.low, other.high);
      high = omega (arith, ints, near.high, one.high, other.low);
    }

-- ---- action points

some_macros : (o g : ℤ) → pos 1 ≤ℤ o → o <ℤ g → pos 0 <ℤ g
some_macros o g a b = omega (arith, ints)

no_less : (n : ℕ) → pos 0 ≤ℤ pos n
no_less n = omega (arith, ints)

within_cycle : (m o g : ℤ) → m ≤ℤ o → o <ℤ g → m ≤ℤ g
within_cycle m o g a b = omega (arith, ints)

along : (a b c : ℤ) → a ≤ℤ b → b ≤ℤ c → a ≤ℤ c
along a b c h k = omega (arith, ints)

pub actions_lie_near : ActionsLieNear
actions_lie_near p starts evens odds action last false even odd other_even other_odd sane runs other_runs near from to early =
    let grid = is_grid_lem p sane in
    let share = share_from last odds p.macros (along (pos 0) action last from to) (bound_from odds (cycle_length_of p odd -ℤ cycle_length_of p other_odd) near.by_odd) (some_macros p.correction p.macros grid.correction_from grid.correction_to) in
    let both = macroticks_stay_near_lem p starts evens odds action even odd other_even other_odd sane runs other_runs near from in
    wider (starts +ℤ evens +ℤ pos (longest_micro p)) (starts +ℤ evens +ℤ floor_of (last *ℤ odds) p.macros +ℤ pos (longest_micro p)) (gap_of p false action even other_even)
    (more starts evens (floor_of (last *ℤ odds) p.macros) (pos (longest_micro p)) share)
    (both.0 (within_cycle action p.correction p.macros (along action last p.correction to early) grid.correction_to))
  where
    more : (s l f q : ℤ) → pos 0 ≤ℤ f → (s +ℤ l +ℤ q) ≤ℤ (s +ℤ l +ℤ f +ℤ q)
    more s l f q from = omega (arith, ints)
actions_lie_near p starts evens odds action last true even odd other_even other_odd sane runs other_runs near from to early =
    let grid = is_grid_lem p sane in
    let before = along action last p.correction to early in
    lines_share odd.start other_odd.start (cycle_length_of p odd) (cycle_length_of p other_odd) odd.length other_odd.length action last p.macros (pos (longest_micro p))
    (instant_of (grid_for p) odd true action) (instant_of (grid_for p) other_odd true action) (starts +ℤ evens) odds
    (early_on_line p odd action sane runs.odd_lasts before) (early_on_line p other_odd action sane other_runs.odd_lasts before)
    (some_macros p.correction p.macros grid.correction_from grid.correction_to) (few p.macros _ grid.macros_to) from to
    (odd_starts_near p starts evens odds even odd other_even other_odd runs other_runs near) near.by_odd
  where
    few : (g : ℤ) (d : ℕ) → g ≤ℤ pos 16_000 → g ≤ℤ pos (1_000_000 + d)
    few g d le = omega (arith, ints)
