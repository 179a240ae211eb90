-- The greatest skew of a cycle is found, with its first macrotick.
use Rattle.std.proofs.Common.{◌≡◌, ◌≢◌, ℕ, ℤ, zero, suc, ◌<◌, ◌⊎◌, inl, inr, ◌≤ℤ◌, int_lt, Bool, true, false, List, Option, Some, None, refl, ap, sym, ◌∙◌, subst, arith}
use Rattle.std.proofs.lemmas.Int.{ints}
use Rattle.fr_base.specs.declared.node_row.NodeRow.{NodeRow}
use Rattle.fr_cluster.specs.Values.{Values, amount}
use Rattle.fr_cluster.specs.declared.names.ParamName.TheVariants as name
use Rattle.fr_time.specs.Position.{grid_for}
use Rattle.fr_time.specs.declared.grid.Grid.{Grid}
use Rattle.fr_skew.specs.Spreads.{spread_at}
use Rattle.fr_skew.specs.Sweep.{greater_by, greater_of, greatest_within}
use Rattle.fr_skew.specs.declared.peak.Peak.{Peak}
use Rattle.fr_series.specs.Scale.{peak_by}
use Rattle.fr_series.specs.SeriesMeaning.{IsPeakFound}

module _ (grid : Grid) (cycle : ℕ) (rows : List NodeRow) where
  -- the greatest of the first macroticks, and the first of them at which it occurs
  record IsBestTo (count : ℕ) (place : Peak) : Type 0 where
    here : place.cycle ≡ cycle
    inside : place.macrotick < count
    reached : spread_at grid cycle rows place.macrotick ≡ place.skew
    greatest : (m : ℕ) → m < count → spread_at grid cycle rows m ≤ℤ place.skew
    first : (m : ℕ) → m < place.macrotick → spread_at grid cycle rows m ≢ place.skew

  sample : ℕ → Peak
  sample m = record { skew = spread_at grid cycle rows m; cycle = cycle; macrotick = m }

  last_or_before : (k m : ℕ) → k < suc m → (k < m) ⊎ (m ≡ k)
  last_or_before k m less = grind arith

  first_one : IsBestTo 1 (sample 0)
  unfolding sample
  first_one = record {
    here = refl;
    inside = omega arith;
    reached = refl;
    greatest = λ m less. only m less;
    first = λ m less. absurd (omega (arith, less));
  }
    where
      self : (z : ℤ) → z ≤ℤ z
      self z = omega (arith, ints)

      only : (m : ℕ) → m < 1 → spread_at grid cycle rows m ≤ℤ spread_at grid cycle rows 0
      only m less = let none : 0 ≡ m = omega (arith, less) in subst (λ (k : ℕ). spread_at grid cycle rows k ≤ℤ spread_at grid cycle rows 0) none (self (spread_at grid cycle rows 0))

  one_more : (m : ℕ) (old : Peak) (less : Bool) → int_lt old.skew (spread_at grid cycle rows m) ≡ less → IsBestTo m old → IsBestTo (suc m) (greater_by less old (sample m))
  unfolding sample
  one_more m old true is best = record {
    here = refl;
    inside = omega arith;
    reached = refl;
    greatest = λ k below. upper k (last_or_before k m below);
    first = λ k below same. let most = best.greatest k below in no_higher old.skew (spread_at grid cycle rows m) (spread_at grid cycle rows k) is most same;
  }
    where
      no_higher : (a b c : ℤ) → int_lt a b ≡ true → c ≤ℤ a → c ≡ b → ⊥
      no_higher a b c is most same = grind (arith, ints)

      higher : (a b c : ℤ) → int_lt a b ≡ true → c ≤ℤ a → c ≤ℤ b
      higher a b c is most = grind (arith, ints)

      self : (z : ℤ) → z ≤ℤ z
      self z = omega (arith, ints)

      upper : (k : ℕ) → (k < m) ⊎ (m ≡ k) → spread_at grid cycle rows k ≤ℤ spread_at grid cycle rows m
      upper k (inl before) = higher old.skew (spread_at grid cycle rows m) (spread_at grid cycle rows k) is (best.greatest k before)
      upper k (inr same) = subst (λ (n : ℕ). spread_at grid cycle rows n ≤ℤ spread_at grid cycle rows m) same (self (spread_at grid cycle rows m))
  one_more m old false is best = record {
    here = best.here;
    inside = let below = best.inside in omega (arith, below);
    reached = best.reached;
    greatest = λ k below. upper k (last_or_before k m below);
    first = best.first;
  }
    where
      no_less : (a b : ℤ) → int_lt a b ≡ false → b ≤ℤ a
      no_less a b is = grind (arith, ints)

      upper : (k : ℕ) → (k < m) ⊎ (m ≡ k) → spread_at grid cycle rows k ≤ℤ old.skew
      upper k (inl before) = best.greatest k before
      upper k (inr same) = subst (λ (n : ℕ). spread_at grid cycle rows n ≤ℤ old.skew) same (no_less old.skew (spread_at grid cycle rows m) is)

  abbrev IsFound : ℕ → Type 0
  IsFound m = (place : Peak) × (greatest_within grid cycle rows None (suc m) ≡ Some place) × IsBestTo (suc m) place

  next_one : (m : ℕ) → IsFound m → IsFound (suc m)
  unfolding greatest_within sample
  next_one m found =
      let less : Bool = int_lt found.0.skew (spread_at grid cycle rows (suc m)) in (
        greater_by less found.0 (sample (suc m)),
        ap (λ (o : Option Peak). Some (greater_of o (sample (suc m)))) found.1,
        one_more (suc m) found.0 less refl found.2,
      )

  best_to : (m : ℕ) → IsFound m
  unfolding greatest_within sample
  best_to zero = (sample 0, refl, first_one)
  best_to (suc m) = next_one m (best_to m)

-- a cycle has a macrotick
less_one : (n : ℕ) → 0 < n → (m : ℕ) × (n ≡ suc m)
less_one zero some = absurd (omega (arith, some))
less_one (suc m) some = (m, refl)

pub peak_found : (p : Values) (cycle : ℕ) (rows : List NodeRow) → 0 < amount p name.gMacroPerCycle → IsPeakFound p cycle rows (peak_by (grid_for p) cycle rows)
peak_found p cycle rows some =
    let macros : ℕ = amount p name.gMacroPerCycle in
    let before = less_one macros some in
    let found = best_to (grid_for p) cycle rows before.0 in
    let place : Peak = found.0 in
    let is : greatest_within (grid_for p) cycle rows None macros ≡ Some place = ap (greatest_within (grid_for p) cycle rows None) before.1 ∙ found.1 in
    let best : IsBestTo (grid_for p) cycle rows macros place = subst (λ (n : ℕ). IsBestTo (grid_for p) cycle rows n place) (sym before.1) found.2 in
    subst (IsPeakFound p cycle rows) (sym is)
    (record { here = best.here; macrotick_in = best.inside; reached = best.reached; greatest = best.greatest; first = best.first })
