-- The greatest skew of a history from a cycle on, and the first one above a limit, with their first places: what the functions find.
use Rattle.std.proofs.Common.{◌≡◌, ◌∙◌, ◌⊎◌, inl, inr, ℕ, zero, suc, ◌*◌, ◌<◌, ◌≤◌, ℤ, ◌≤ℤ◌, ◌<ℤ◌, int_lt, Bool, true, false, Option, Some, None, List, [], ◌∷◌, length, refl, ap, sym, subst, arith}
use Rattle.std.specs.Prelude.{nat_abs, nat_lt, if◌then◌else◌}
use Rattle.std.specs.Option.{option_or}
use Rattle.std.proofs.lemmas.Int.{ints}
use Rattle.fr_base.specs.declared.node_row.NodeRow.{NodeRow}
use Rattle.fr_cluster.specs.Values.{Values, amount}
use Rattle.fr_cluster.specs.declared.names.ParamName.TheVariants as name
use Rattle.fr_time.specs.Position.{grid_for}
use Rattle.fr_time.specs.declared.grid.Grid.{Grid}
use Rattle.fr_skew.specs.Spreads.{spread_at}
use Rattle.fr_skew.specs.Sweep.{greater_by, greater_of, greatest_within}
use Rattle.fr_skew.specs.declared.peak.Peak.{Peak}
use Rattle.fr_history.specs.History.{History, Record}
use Rattle.fr_history.specs.Skew.{IsEarlierPlace, skew_at}
use Rattle.fr_history.proofs.Greatest.{record_after, record_here}
use Rattle.fr_series.specs.Figures.{above_from, above_since, greatest_from, greatest_since}
use Rattle.fr_series.specs.Scale.{above_at, first_above}
use Rattle.fr_series.specs.SharpMeaning.{IsAboveSince, IsFirstSkewAbove, IsGreatestSince, IsGreatestSkewFrom}
use Rattle.fr_series.specs.declared.scale.Scale.{Scale}

-- ---- places in their order

-- a number for each cycle and macrotick
abbrev Samples : Type 0
Samples = ℕ → ℕ → ℤ

-- the last of the places before the next macrotick is the one here
last_or_before : (i j n m : ℕ) → IsEarlierPlace i j n (suc m) → IsEarlierPlace i j n m ⊎ ((i ≡ n) × (j ≡ m))
last_or_before i j n m (inl earlier) = inl (inl earlier)
last_or_before i j n m (inr same) = by_case (grind arith)
  where
    by_case : (j < m) ⊎ (j ≡ m) → IsEarlierPlace i j n m ⊎ ((i ≡ n) × (j ≡ m))
    by_case (inl below) = inl (inr (same.0, below))
    by_case (inr here) = inr (same.0, here)

before_more : (i j n m : ℕ) → IsEarlierPlace i j n m → IsEarlierPlace i j n (suc m)
before_more i j n m (inl earlier) = inl earlier
before_more i j n m (inr same) = inr (same.0, omega (arith, same.1))

-- a whole cycle's places are all of it
turn : (i j n macros : ℕ) → j < macros → IsEarlierPlace i j (suc n) 0 → IsEarlierPlace i j n macros
turn i j n macros below (inl earlier) = by_case (grind arith)
  where
    by_case : (i < n) ⊎ (i ≡ n) → IsEarlierPlace i j n macros
    by_case (inl less) = inl less
    by_case (inr same) = inr (same, below)
turn i j n macros below (inr same) = absurd (omega arith)

turn_back : (i j n macros : ℕ) → IsEarlierPlace i j n macros → IsEarlierPlace i j (suc n) 0
turn_back i j n macros (inl earlier) = inl (omega arith)
turn_back i j n macros (inr same) = inl (omega arith)

cycle_below : (i j n : ℕ) → IsEarlierPlace i j n 0 → i < n
cycle_below i j n (inl less) = less
cycle_below i j n (inr same) = absurd (omega arith)

not_greater : (a b : ℤ) → int_lt a b ≡ false → b ≤ℤ a
not_greater a b no_less = grind (arith, ints)

is_greater : (a b : ℤ) → int_lt a b ≡ true → a <ℤ b
is_greater a b less = grind (arith, ints)

not_less : (a b : ℕ) → nat_lt a b ≡ false → b ≤ a
not_less a b is = grind arith

is_less : (a b : ℕ) → nat_lt a b ≡ true → a < b
is_less a b is = grind arith

-- samples are the skews of a history
abbrev Agrees : Samples → Values → History → Type 0
Agrees v p h = (i j : ℕ) → i < length h → v i j ≡ skew_at p h i j

agrees_before : (v : Samples) (p : Values) (r : Record) (h : History) → Agrees v p (r ∷ h) → Agrees v p h
agrees_before v p r h agrees = λ i j less.
    let same : skew_at p (r ∷ h) i j ≡ skew_at p h i j = rw (record_after r h i less) refl in
    agrees i j (omega (arith, less)) ∙ same

agrees_here : (v : Samples) (p : Values) (r : Record) (h : History) → Agrees v p (r ∷ h) → (j : ℕ) → v (length h) j ≡ spread_at (grid_for p) (length h) r.rows j
agrees_here v p r h agrees = λ j.
    let same : skew_at p (r ∷ h) (length h) j ≡ spread_at (grid_for p) (length h) r.rows j = rw (record_here r h) refl in
    agrees (length h) j (omega arith) ∙ same

module _ (v : Samples) (macros from : ℕ) where
  -- ---- the greatest

  -- the greatest of the samples from a cycle on and before a cycle and a macrotick, and its first place
  record IsGreatestBefore (n m : ℕ) (place : Peak) : Type 0 where
    cycle_from : from ≤ place.cycle
    macrotick_in : place.macrotick < macros
    before : IsEarlierPlace place.cycle place.macrotick n m
    reached : v place.cycle place.macrotick ≡ place.skew
    greatest : (i j : ℕ) → from ≤ i → j < macros → IsEarlierPlace i j n m → v i j ≤ℤ place.skew
    first : (i j : ℕ) → from ≤ i → j < macros → IsEarlierPlace i j place.cycle place.macrotick → v i j ≡ place.skew → ⊥

  abbrev IsBest : ℕ → ℕ → Option Peak → Type 0
  IsBest n m None = (i j : ℕ) → from ≤ i → j < macros → IsEarlierPlace i j n m → ⊥
  IsBest n m (Some place) = IsGreatestBefore n m place

  begin_best : (n m : ℕ) → from ≤ n → m < macros → ((i j : ℕ) → from ≤ i → j < macros → IsEarlierPlace i j n m → ⊥) → IsGreatestBefore n (suc m) (record { skew = v n m; cycle = n; macrotick = m })
  begin_best n m low within none = record {
    cycle_from = low;
    macrotick_in = within;
    before = inr (refl, omega arith);
    reached = refl;
    greatest = λ i j far below earlier. only i j far below (last_or_before i j n m earlier);
    first = λ i j far below earlier same. none i j far below earlier;
  }
    where
      only : (i j : ℕ) → from ≤ i → j < macros → IsEarlierPlace i j n m ⊎ ((i ≡ n) × (j ≡ m)) → v i j ≤ℤ v n m
      only i j far below (inl earlier) = absurd (none i j far below earlier)
      only i j far below (inr here) = let e : v i j ≡ v n m = ap (λ k. v k j) here.0 ∙ ap (v n) here.1 in rw e (omega (arith, ints))

  replaced_best : (n m : ℕ) (old : Peak) → from ≤ n → m < macros → old.skew <ℤ v n m → IsGreatestBefore n m old → IsGreatestBefore n (suc m) (record { skew = v n m; cycle = n; macrotick = m })
  replaced_best n m old low within greater best = record {
    cycle_from = low;
    macrotick_in = within;
    before = inr (refl, omega arith);
    reached = refl;
    greatest = λ i j far below earlier. upper i j far below (last_or_before i j n m earlier);
    first = λ i j far below earlier same. let most : v i j ≤ℤ old.skew = best.greatest i j far below earlier in omega (arith, ints);
  }
    where
      upper : (i j : ℕ) → from ≤ i → j < macros → IsEarlierPlace i j n m ⊎ ((i ≡ n) × (j ≡ m)) → v i j ≤ℤ v n m
      upper i j far below (inl earlier) = let most : v i j ≤ℤ old.skew = best.greatest i j far below earlier in omega (arith, ints)
      upper i j far below (inr here) = let e : v i j ≡ v n m = ap (λ k. v k j) here.0 ∙ ap (v n) here.1 in rw e (omega (arith, ints))

  kept_best : (n m : ℕ) (old : Peak) → v n m ≤ℤ old.skew → IsGreatestBefore n m old → IsGreatestBefore n (suc m) old
  kept_best n m old less best = record {
    cycle_from = best.cycle_from;
    macrotick_in = best.macrotick_in;
    before = before_more old.cycle old.macrotick n m best.before;
    reached = best.reached;
    greatest = λ i j far below earlier. upper i j far below (last_or_before i j n m earlier);
    first = best.first;
  }
    where
      upper : (i j : ℕ) → from ≤ i → j < macros → IsEarlierPlace i j n m ⊎ ((i ≡ n) × (j ≡ m)) → v i j ≤ℤ old.skew
      upper i j far below (inl earlier) = best.greatest i j far below earlier
      upper i j far below (inr here) = let e : v i j ≡ v n m = ap (λ k. v k j) here.0 ∙ ap (v n) here.1 in rw e less

  greater_best : (n m : ℕ) (old : Peak) (b : Bool) → int_lt old.skew (v n m) ≡ b → from ≤ n → m < macros → IsGreatestBefore n m old
      → IsGreatestBefore n (suc m) (greater_by b old (record { skew = v n m; cycle = n; macrotick = m }))
  greater_best n m old true is low within best = replaced_best n m old low within (is_greater old.skew (v n m) is) best
  greater_best n m old false is low within best = kept_best n m old (not_greater old.skew (v n m) is) best

  next_best : (n m : ℕ) (old : Option Peak) → from ≤ n → m < macros → IsBest n m old → IsGreatestBefore n (suc m) (greater_of old (record { skew = v n m; cycle = n; macrotick = m }))
  next_best n m None low within best = begin_best n m low within best
  next_best n m (Some old) low within best = greater_best n m old (int_lt old.skew (v n m)) refl low within best

  -- the samples of a cycle, one macrotick after the other
  swept_best : (grid : Grid) (cycle : ℕ) (rows : List NodeRow) (before : Option Peak) (m : ℕ) → from ≤ cycle → m ≤ macros → ((j : ℕ) → v cycle j ≡ spread_at grid cycle rows j)
      → IsBest cycle 0 before → IsBest cycle m (greatest_within grid cycle rows before m)
  unfolding greatest_within
  swept_best grid cycle rows before zero low within are best = best
  swept_best grid cycle rows before (suc m) low within are best =
      let old : Option Peak = greatest_within grid cycle rows before m in
      let so_far : IsBest cycle m old = swept_best grid cycle rows before m low (omega (arith, within)) are best in
      let next : IsGreatestBefore cycle (suc m) (greater_of old (record { skew = v cycle m; cycle = cycle; macrotick = m })) = next_best cycle m old low (omega (arith, within)) so_far in
      let P : ℤ → Type 0 = λ skew. IsGreatestBefore cycle (suc m) (greater_of old (record { skew = skew; cycle = cycle; macrotick = m })) in
      subst P (are m) next

  turned_best : (n : ℕ) (best : Option Peak) → IsBest n macros best → IsBest (suc n) 0 best
  turned_best n None none = λ i j far below earlier. none i j far below (turn i j n macros below earlier)
  turned_best n (Some place) best = record {
    cycle_from = best.cycle_from;
    macrotick_in = best.macrotick_in;
    before = turn_back place.cycle place.macrotick n macros best.before;
    reached = best.reached;
    greatest = λ i j far below earlier. best.greatest i j far below (turn i j n macros below earlier);
    first = best.first;
  }

  -- ---- the first above a limit

  -- the first of the samples from a cycle on and before a cycle and a macrotick that is above
  record IsAboveBefore (limit : ℤ) (n m : ℕ) (place : Peak) : Type 0 where
    cycle_from : from ≤ place.cycle
    macrotick_in : place.macrotick < macros
    before : IsEarlierPlace place.cycle place.macrotick n m
    reached : v place.cycle place.macrotick ≡ place.skew
    above : limit <ℤ place.skew
    first : (i j : ℕ) → from ≤ i → j < macros → IsEarlierPlace i j place.cycle place.macrotick → v i j ≤ℤ limit

  abbrev IsOver : ℤ → ℕ → ℕ → Option Peak → Type 0
  IsOver limit n m None = (i j : ℕ) → from ≤ i → j < macros → IsEarlierPlace i j n m → v i j ≤ℤ limit
  IsOver limit n m (Some place) = IsAboveBefore limit n m place

  later_over : (limit : ℤ) (n m : ℕ) (place : Peak) → IsAboveBefore limit n m place → IsAboveBefore limit n (suc m) place
  later_over limit n m place over = record {
    cycle_from = over.cycle_from;
    macrotick_in = over.macrotick_in;
    before = before_more place.cycle place.macrotick n m over.before;
    reached = over.reached;
    above = over.above;
    first = over.first;
  }

  here_over : (limit : ℤ) (n m : ℕ) (above : Bool) → int_lt limit (v n m) ≡ above → from ≤ n → m < macros → IsOver limit n m None
      → IsOver limit n (suc m) (if above then Some (record { skew = v n m; cycle = n; macrotick = m }) else None)
  here_over limit n m true is low within none = record {
    cycle_from = low;
    macrotick_in = within;
    before = inr (refl, omega arith);
    reached = refl;
    above = is_greater limit (v n m) is;
    first = none;
  }
  here_over limit n m false is low within none = λ i j far below earlier. upper i j far below (last_or_before i j n m earlier)
    where
      upper : (i j : ℕ) → from ≤ i → j < macros → IsEarlierPlace i j n m ⊎ ((i ≡ n) × (j ≡ m)) → v i j ≤ℤ limit
      upper i j far below (inl earlier) = none i j far below earlier
      upper i j far below (inr here) = let e : v i j ≡ v n m = ap (λ k. v k j) here.0 ∙ ap (v n) here.1 in rw e (not_greater limit (v n m) is)

  next_over : (limit : ℤ) (n m : ℕ) (old : Option Peak) → from ≤ n → m < macros → IsOver limit n m old
      → IsOver limit n (suc m) (option_or old (above_at limit (record { skew = v n m; cycle = n; macrotick = m })))
  next_over limit n m None low within none = here_over limit n m (int_lt limit (v n m)) refl low within none
  next_over limit n m (Some place) low within over = later_over limit n m place over

  swept_over : (grid : Grid) (limit : ℤ) (cycle : ℕ) (rows : List NodeRow) (before : Option Peak) (m : ℕ) → from ≤ cycle → m ≤ macros → ((j : ℕ) → v cycle j ≡ spread_at grid cycle rows j)
      → IsOver limit cycle 0 before → IsOver limit cycle m (option_or before (first_above grid cycle rows limit m))
  unfolding first_above
  swept_over grid limit cycle rows None zero low within are over = over
  swept_over grid limit cycle rows (Some place) zero low within are over = over
  swept_over grid limit cycle rows before (suc m) low within are over =
      let old : Option Peak = first_above grid cycle rows limit m in
      let so_far : IsOver limit cycle m (option_or before old) = swept_over grid limit cycle rows before m low (omega (arith, within)) are over in
      let here : ℤ → Option Peak = λ skew. above_at limit (record { skew = skew; cycle = cycle; macrotick = m }) in
      let next : IsOver limit cycle (suc m) (option_or (option_or before old) (here (v cycle m))) = next_over limit cycle m (option_or before old) low (omega (arith, within)) so_far in
      let P : Option Peak → Type 0 = λ o. IsOver limit cycle (suc m) o in
      subst P (ap (λ (skew : ℤ). option_or (option_or before old) (here skew)) (are m) ∙ or_again before old (here (spread_at grid cycle rows m))) next
    where
      or_again : (a b c : Option Peak) → option_or (option_or a b) c ≡ option_or a (option_or b c)
      or_again None b c = refl
      or_again (Some place) b c = refl

  turned_over : (limit : ℤ) (n : ℕ) (over : Option Peak) → IsOver limit n macros over → IsOver limit (suc n) 0 over
  turned_over limit n None none = λ i j far below earlier. none i j far below (turn i j n macros below earlier)
  turned_over limit n (Some place) over = record {
    cycle_from = over.cycle_from;
    macrotick_in = over.macrotick_in;
    before = turn_back place.cycle place.macrotick n macros over.before;
    reached = over.reached;
    above = over.above;
    first = over.first;
  }

-- ---- of a history

module _ (v : Samples) (p : Values) (from : ℕ) where
  abbrev macros_of : ℕ
  macros_of = amount p name.gMacroPerCycle

  best_by : (r : Record) (h : History) (early : Bool) → nat_lt (length h) from ≡ early → Agrees v p (r ∷ h) → IsBest v macros_of from (length h) 0 (greatest_from (grid_for p) from h)
      → IsBest v macros_of from (suc (length h)) 0 (greatest_from (grid_for p) from (r ∷ h))
  unfolding greatest_from
  best_by r h true is agrees best =
      let none : greatest_from (grid_for p) from (r ∷ h) ≡ None = rw is refl in
      let P : Option Peak → Type 0 = λ o. IsBest v macros_of from (suc (length h)) 0 o in
      let far : length h < from = is_less (length h) from is in
      subst P (sym none) (λ i j low below earlier. let near : i < suc (length h) = cycle_below i j (suc (length h)) earlier in omega (arith, far, low, near))
  best_by r h false is agrees best =
      let next : Option Peak = greatest_within (grid_for p) (length h) r.rows (greatest_from (grid_for p) from h) macros_of in
      let same : greatest_from (grid_for p) from (r ∷ h) ≡ next = rw is refl in
      let P : Option Peak → Type 0 = λ o. IsBest v macros_of from (suc (length h)) 0 o in
      let swept : IsBest v macros_of from (length h) macros_of next =
      swept_best v macros_of from (grid_for p) (length h) r.rows (greatest_from (grid_for p) from h) macros_of (not_less (length h) from is) (omega arith) (agrees_here v p r h agrees) best in
      subst P (sym same) (turned_best v macros_of from (length h) next swept)

  best_of : (h : History) → Agrees v p h → IsBest v macros_of from (length h) 0 (greatest_from (grid_for p) from h)
  unfolding greatest_from
  best_of [] agrees = λ i j low below earlier. let near : i < 0 = cycle_below i j 0 earlier in omega (arith, near)
  best_of (r ∷ h) agrees = best_by r h (nat_lt (length h) from) refl agrees (best_of h (agrees_before v p r h agrees))

  over_by : (scale : Scale) → scale.grid ≡ grid_for p → (r : Record) (h : History) (early : Bool) → nat_lt (length h) from ≡ early → Agrees v p (r ∷ h)
      → IsOver v macros_of from scale.precision (length h) 0 (above_from scale from h) → IsOver v macros_of from scale.precision (suc (length h)) 0 (above_from scale from (r ∷ h))
  unfolding above_from
  over_by scale grid r h true is agrees over =
      let none : above_from scale from (r ∷ h) ≡ None = rw is refl in
      let P : Option Peak → Type 0 = λ o. IsOver v macros_of from scale.precision (suc (length h)) 0 o in
      let far : length h < from = is_less (length h) from is in
      subst P (sym none) (λ i j low below earlier. let near : i < suc (length h) = cycle_below i j (suc (length h)) earlier in absurd (omega (arith, far, low, near)))
  over_by scale grid r h false is agrees over =
      let found : Grid → Option Peak = λ g. first_above g (length h) r.rows scale.precision macros_of in
      let next : Option Peak = option_or (above_from scale from h) (found (grid_for p)) in
      let whole : nat_abs scale.grid.macros ≡ macros_of = ap (λ (g : Grid). nat_abs g.macros) grid in
      let same : above_from scale from (r ∷ h) ≡ next =
      rw is
      (ap (λ (n : ℕ). option_or (above_from scale from h) (first_above scale.grid (length h) r.rows scale.precision n)) whole
      ∙ ap (λ (g : Grid). option_or (above_from scale from h) (found g)) grid) in
      let P : Option Peak → Type 0 = λ o. IsOver v macros_of from scale.precision (suc (length h)) 0 o in
      let swept : IsOver v macros_of from scale.precision (length h) macros_of next =
      swept_over v macros_of from (grid_for p) scale.precision (length h) r.rows (above_from scale from h) macros_of (not_less (length h) from is) (omega arith) (agrees_here v p r h agrees) over in
      subst P (sym same) (turned_over v macros_of from scale.precision (length h) next swept)

  over_of : (scale : Scale) → scale.grid ≡ grid_for p → (h : History) → Agrees v p h → IsOver v macros_of from scale.precision (length h) 0 (above_from scale from h)
  unfolding above_from
  over_of scale grid [] agrees = λ i j low below earlier. let near : i < 0 = cycle_below i j 0 earlier in absurd (omega (arith, near))
  over_of scale grid (r ∷ h) agrees = over_by scale grid r h (nat_lt (length h) from) refl agrees (over_of scale grid h (agrees_before v p r h agrees))

-- ---- what is told

greatest_is : (p : Values) (from : ℕ) (h : History) (place : Peak) → IsGreatestBefore (skew_at p h) (amount p name.gMacroPerCycle) from (length h) 0 place → IsGreatestSkewFrom p h from place
greatest_is p from h place best = record {
  cycle_from = best.cycle_from;
  cycle_in = cycle_below place.cycle place.macrotick (length h) best.before;
  macrotick_in = best.macrotick_in;
  reached = best.reached;
  greatest = λ n m low less below. best.greatest n m low below (inl less);
  first = best.first;
}

above_is : (p : Values) (from : ℕ) (limit : ℤ) (h : History) (place : Peak) → IsAboveBefore (skew_at p h) (amount p name.gMacroPerCycle) from limit (length h) 0 place → IsFirstSkewAbove p h from limit place
above_is p from limit h place over = record {
  cycle_from = over.cycle_from;
  cycle_in = cycle_below place.cycle place.macrotick (length h) over.before;
  macrotick_in = over.macrotick_in;
  reached = over.reached;
  above = over.above;
  first = over.first;
}

greatest_by : (p : Values) (h : History) (double : ℕ) (found : Option Peak) → 0 < amount p name.gMacroPerCycle → 2 * double < length h
    → IsBest (skew_at p h) (amount p name.gMacroPerCycle) (2 * double) (length h) 0 found → IsGreatestSince p h (Some double) found
greatest_by p h double None some less best = best (2 * double) 0 (omega arith) some (inl less)
greatest_by p h double (Some place) some less best = greatest_is p (2 * double) h place best

above_by : (p : Values) (h : History) (limit : ℤ) (double : ℕ) (found : Option Peak) → IsOver (skew_at p h) (amount p name.gMacroPerCycle) (2 * double) limit (length h) 0 found
    → IsAboveSince p h limit (Some double) found
above_by p h limit double None over = λ n m low less below. over n m low below (inl less)
above_by p h limit double (Some place) over = above_is p (2 * double) limit h place over

pub greatest_since_is : (p : Values) (h : History) (first : Option ℕ) → 0 < amount p name.gMacroPerCycle → ((double : ℕ) → first ≡ Some double → 2 * double < length h)
    → IsGreatestSince p h first (greatest_since (grid_for p) h first)
greatest_since_is p h None some less = refl
greatest_since_is p h (Some double) some less =
    greatest_by p h double (greatest_from (grid_for p) (2 * double) h) some (less double refl) (best_of (skew_at p h) p (2 * double) h (λ i j in_h. refl))

pub above_since_is : (p : Values) (h : History) (scale : Scale) (first : Option ℕ) → scale.grid ≡ grid_for p → IsAboveSince p h scale.precision first (above_since scale h first)
above_since_is p h scale None grid = refl
above_since_is p h scale (Some double) grid =
    above_by p h scale.precision double (above_from scale (2 * double) h) (over_of (skew_at p h) p (2 * double) scale grid h (λ i j in_h. refl))
