-- The greatest skew with its first place: the function finds it, and there is no other.
use Rattle.std.proofs.Common.{◌≡◌, ◌⊎◌, ℕ, zero, suc, ◌<◌, ◌≤◌, ℤ, pos, ◌≤ℤ◌, ◌<ℤ◌, int_lt, Bool, true, false, Option, Some, None, List, [], ◌∷◌, length, refl, ap, sym, ◌∙◌, subst, inl, inr, arith, ◌==◌}
use Rattle.std.proofs.lemmas.Int.{ints}
use Rattle.std.proofs.lemmas.Bool.{ne_eqb}
use Rattle.std.specs.Option.{option_map_or}
use Rattle.fr_base.specs.declared.node_row.NodeRow.{NodeRow}
use Rattle.fr_cluster.specs.Values.{Values, amount}
use Rattle.fr_cluster.specs.declared.names.ParamName.TheVariants as name
use Rattle.fr_history.specs.History.{History, Record, record_at}
use Rattle.fr_time.specs.Position.{grid_for}
use Rattle.fr_time.specs.declared.grid.Grid.{Grid}
use Rattle.fr_skew.specs.Spreads.{spread_at}
use Rattle.fr_skew.specs.Sweep.{greater_by, greater_of, greatest_within}
use Rattle.fr_skew.specs.declared.peak.Peak.{Peak}
use Rattle.fr_history.specs.Skew.{IsEarlierPlace, IsGreatestSkew, greatest_skew_of, skew_at}

-- a number for each cycle and macrotick
abbrev Samples : Type 0
Samples = ℕ → ℕ → ℤ

-- the greatest of the samples before a cycle and a macrotick, of so many macroticks a cycle, and its first place
record IsGreatestBefore (v : Samples) (macros n m : ℕ) (place : Peak) : Type 0 where
  macrotick_in : place.macrotick < macros
  before : IsEarlierPlace place.cycle place.macrotick n m
  reached : v place.cycle place.macrotick ≡ place.skew
  greatest : (i j : ℕ) → j < macros → IsEarlierPlace i j n m → v i j ≤ℤ place.skew
  first : (i j : ℕ) → j < macros → IsEarlierPlace i j place.cycle place.macrotick → v i j ≡ place.skew → ⊥

IsBest : Samples → ℕ → ℕ → ℕ → Option Peak → Type 0
IsBest v macros n m None = (i j : ℕ) → j < macros → IsEarlierPlace i j n m → ⊥
IsBest v macros n m (Some place) = IsGreatestBefore v macros n m place

-- the last of the samples before the next macrotick is the one here
last_or_before : (i j n m : ℕ) → IsEarlierPlace i j n (suc m) → IsEarlierPlace i j n m ⊎ ((i ≡ n) × (j ≡ m))
last_or_before i j n m (inl earlier) = inl (inl earlier)
last_or_before i j n m (inr same) = by_case (grind arith)
  where
    by_case : (j < m) ⊎ (j ≡ m) → IsEarlierPlace i j n m ⊎ ((i ≡ n) × (j ≡ m))
    by_case (inl below) = inl (inr (same.0, below))
    by_case (inr here) = inr (same.0, here)

before_more : (i j n m : ℕ) → IsEarlierPlace i j n m → IsEarlierPlace i j n (suc m)
before_more i j n m (inl earlier) = inl earlier
before_more i j n m (inr same) = inr (same.0, omega (arith, same.1))

place_at : Samples → ℕ → ℕ → Peak
place_at v n m = record { skew = v n m; cycle = n; macrotick = m }

not_greater : (a b : ℤ) → int_lt a b ≡ false → b ≤ℤ a
not_greater a b no_less = grind (arith, ints)

is_greater : (a b : ℤ) → int_lt a b ≡ true → a <ℤ b
is_greater a b less = grind (arith, ints)

begin_best : (v : Samples) (macros n m : ℕ) → m < macros → ((i j : ℕ) → j < macros → IsEarlierPlace i j n m → ⊥) → IsGreatestBefore v macros n (suc m) (record { skew = v n m; cycle = n; macrotick = m })
begin_best v macros n m within none = record {
  macrotick_in = within;
  before = inr (refl, omega arith);
  reached = refl;
  greatest = λ i j below earlier. only i j below (last_or_before i j n m earlier);
  first = λ i j below earlier same. none i j below earlier;
}
  where
    only : (i j : ℕ) → j < macros → IsEarlierPlace i j n m ⊎ ((i ≡ n) × (j ≡ m)) → v i j ≤ℤ v n m
    only i j below (inl earlier) = absurd (none i j below earlier)
    only i j below (inr here) = let e : v i j ≡ v n m = ap (λ k. v k j) here.0 ∙ ap (v n) here.1 in rw e (omega (arith, ints))

replaced_best : (v : Samples) (macros n m : ℕ) (old : Peak) → m < macros → old.skew <ℤ v n m → IsGreatestBefore v macros n m old → IsGreatestBefore v macros n (suc m) (record { skew = v n m; cycle = n; macrotick = m })
replaced_best v macros n m old within greater best = record {
  macrotick_in = within;
  before = inr (refl, omega arith);
  reached = refl;
  greatest = λ i j below earlier. upper i j below (last_or_before i j n m earlier);
  first = λ i j below earlier same. let most : v i j ≤ℤ old.skew = best.greatest i j below earlier in omega (arith, ints);
}
  where
    upper : (i j : ℕ) → j < macros → IsEarlierPlace i j n m ⊎ ((i ≡ n) × (j ≡ m)) → v i j ≤ℤ v n m
    upper i j below (inl earlier) = let most : v i j ≤ℤ old.skew = best.greatest i j below earlier in omega (arith, ints)
    upper i j below (inr here) = let e : v i j ≡ v n m = ap (λ k. v k j) here.0 ∙ ap (v n) here.1 in rw e (omega (arith, ints))

kept_best : (v : Samples) (macros n m : ℕ) (old : Peak) → v n m ≤ℤ old.skew → IsGreatestBefore v macros n m old → IsGreatestBefore v macros n (suc m) old
kept_best v macros n m old less best = record {
  macrotick_in = best.macrotick_in;
  before = before_more old.cycle old.macrotick n m best.before;
  reached = best.reached;
  greatest = λ i j below earlier. upper i j below (last_or_before i j n m earlier);
  first = best.first;
}
  where
    upper : (i j : ℕ) → j < macros → IsEarlierPlace i j n m ⊎ ((i ≡ n) × (j ≡ m)) → v i j ≤ℤ old.skew
    upper i j below (inl earlier) = best.greatest i j below earlier
    upper i j below (inr here) = let e : v i j ≡ v n m = ap (λ k. v k j) here.0 ∙ ap (v n) here.1 in rw e less

greater_best : (v : Samples) (macros n m : ℕ) (old : Peak) (b : Bool) → int_lt old.skew (v n m) ≡ b → m < macros → IsGreatestBefore v macros n m old → IsGreatestBefore v macros n (suc m) (greater_by b old (record { skew = v n m; cycle = n; macrotick = m }))
greater_best v macros n m old true is within best = replaced_best v macros n m old within (is_greater old.skew (v n m) is) best
greater_best v macros n m old false is within best = kept_best v macros n m old (not_greater old.skew (v n m) is) best

next_best : (v : Samples) (macros n m : ℕ) (old : Option Peak) → m < macros → IsBest v macros n m old → IsGreatestBefore v macros n (suc m) (greater_of old (record { skew = v n m; cycle = n; macrotick = m }))
unfolding IsBest
next_best v macros n m None within best = begin_best v macros n m within best
next_best v macros n m (Some old) within best = greater_best v macros n m old (int_lt old.skew (v n m)) refl within best

-- the samples of a cycle, one macrotick after the other
swept_best : (v : Samples) (grid : Grid) (macros cycle : ℕ) (rows : List NodeRow) (before : Option Peak) (m : ℕ) → m ≤ macros →
    ((j : ℕ) → v cycle j ≡ spread_at grid cycle rows j) → IsBest v macros cycle 0 before → IsBest v macros cycle m (greatest_within grid cycle rows before m)
unfolding IsBest greatest_within
swept_best v grid macros cycle rows before zero within are best = best
swept_best v grid macros cycle rows before (suc m) within are best =
    let old : Option Peak = greatest_within grid cycle rows before m in
    let so_far : IsBest v macros cycle m old = swept_best v grid macros cycle rows before m (omega arith) are best in
    let next : IsGreatestBefore v macros cycle (suc m) (greater_of old (record { skew = v cycle m; cycle = cycle; macrotick = m })) = next_best v macros cycle m old (omega arith) so_far in
    let P : ℤ → Type 0 = λ skew. IsGreatestBefore v macros cycle (suc m) (greater_of old (record { skew = skew; cycle = cycle; macrotick = m })) in
    subst P (are m) next

-- a whole cycle's samples are all of it
turn : (i j n macros : ℕ) → j < macros → IsEarlierPlace i j (suc n) 0 → IsEarlierPlace i j n macros
turn i j n macros below (inl earlier) = by_case (grind arith)
  where
    by_case : (i < n) ⊎ (i ≡ n) → IsEarlierPlace i j n macros
    by_case (inl less) = inl less
    by_case (inr same) = inr (same, below)
turn i j n macros below (inr same) = absurd (omega arith)

turn_back : (i j n macros : ℕ) → IsEarlierPlace i j n macros → IsEarlierPlace i j (suc n) 0
turn_back i j n macros (inl earlier) = inl (omega arith)
turn_back i j n macros (inr same) = inl (omega arith)

turned_best : (v : Samples) (macros n : ℕ) (best : Option Peak) → IsBest v macros n macros best → IsBest v macros (suc n) 0 best
unfolding IsBest
turned_best v macros n None none = λ i j below earlier. none i j below (turn i j n macros below earlier)
turned_best v macros n (Some place) best = record {
  macrotick_in = best.macrotick_in;
  before = turn_back place.cycle place.macrotick n macros best.before;
  reached = best.reached;
  greatest = λ i j below earlier. best.greatest i j below (turn i j n macros below earlier);
  first = best.first;
}

-- other samples that are the same before a cycle
same_before : (v w : Samples) (macros n : ℕ) → ((i j : ℕ) → i < n → v i j ≡ w i j) → (best : Option Peak) → IsBest v macros n 0 best → IsBest w macros n 0 best
unfolding IsBest
same_before v w macros n same None none = none
same_before v w macros n same (Some place) best =
    let cycle_in : (i j : ℕ) → IsEarlierPlace i j n 0 → i < n = below in
    let here : place.cycle < n = cycle_in place.cycle place.macrotick best.before in
    record {
      macrotick_in = best.macrotick_in;
      before = best.before;
      reached = sym (same place.cycle place.macrotick here) ∙ best.reached;
      greatest = λ i j small earlier. let most : v i j ≤ℤ place.skew = best.greatest i j small earlier in rw (← same i j (cycle_in i j earlier)) most;
      first = λ i j small earlier is. best.first i j small earlier (same i j (earlier_cycle i j place.cycle place.macrotick n earlier here) ∙ is);
    }
  where
    below : (i j : ℕ) → IsEarlierPlace i j n 0 → i < n
    below i j (inl less) = less
    below i j (inr same) = absurd (omega arith)

    earlier_cycle : (i j k l limit : ℕ) → IsEarlierPlace i j k l → k < limit → i < limit
    earlier_cycle i j k l limit (inl less) small = omega arith
    earlier_cycle i j k l limit (inr equal) small = omega arith

-- the record of the latest cycle, and of those before it
pub record_here : (r : Record) (h : History) → record_at (r ∷ h) (length h) ≡ Some r
unfolding record_at
record_here r h = let e : (length h == length h) ≡ true = grind arith in rw e

pub record_after : (r : Record) (h : History) (n : ℕ) → n < length h → record_at (r ∷ h) n ≡ record_at h n
unfolding record_at
record_after r h n below = let e : (length h == n) ≡ false = ne_eqb (length h) n (λ (same : length h ≡ n). omega arith) in rw e

best_of : (p : Values) (h : History) → IsBest (skew_at p h) (amount p name.gMacroPerCycle) (length h) 0 (greatest_skew_of p h)
unfolding IsBest greatest_skew_of
best_of p [] = λ i j below earlier. nothing i j earlier
  where
    nothing : (i j : ℕ) → IsEarlierPlace i j 0 0 → ⊥
    nothing i j (inl less) = omega arith
    nothing i j (inr same) = omega arith
best_of p (r ∷ h) =
    let macros : ℕ = amount p name.gMacroPerCycle in
    let later : IsBest (skew_at p h) macros (length h) 0 (greatest_skew_of p h) = best_of p h in
    let moved : IsBest (skew_at p (r ∷ h)) macros (length h) 0 (greatest_skew_of p h) =
    same_before (skew_at p h) (skew_at p (r ∷ h)) macros (length h) (λ i j below. ap (λ (o : Option Record). option_map_or (λ s. spread_at (grid_for p) i s.rows j) o (pos 0)) (sym (record_after r h i below))) (greatest_skew_of p h) later in
    let swept : IsBest (skew_at p (r ∷ h)) macros (length h) macros (greatest_within (grid_for p) (length h) r.rows (greatest_skew_of p h) macros) =
    swept_best (skew_at p (r ∷ h)) (grid_for p) macros (length h) r.rows (greatest_skew_of p h) macros (omega arith) (λ j. ap (λ (o : Option Record). option_map_or (λ s. spread_at (grid_for p) (length h) s.rows j) o (pos 0)) (record_here r h)) moved in
    turned_best (skew_at p (r ∷ h)) macros (length h) (greatest_within (grid_for p) (length h) r.rows (greatest_skew_of p h) macros) swept

pub greatest_is_found : (p : Values) (h : History) (place : Peak) → greatest_skew_of p h ≡ Some place → IsGreatestSkew p h place.skew place.cycle place.macrotick
unfolding IsBest
greatest_is_found p h place found =
    let macros : ℕ = amount p name.gMacroPerCycle in
    let P : Option Peak → Type 0 = λ o. IsBest (skew_at p h) macros (length h) 0 o in
    let best : IsGreatestBefore (skew_at p h) macros (length h) 0 place = subst P found (best_of p h) in
    record {
      cycle_in = in_history place.cycle place.macrotick best.before;
      macrotick_in = best.macrotick_in;
      reached = best.reached;
      greatest = λ n m cycle macrotick. best.greatest n m macrotick (inl cycle);
      first = best.first;
    }
  where
    in_history : (i j : ℕ) → IsEarlierPlace i j (length h) 0 → i < length h
    in_history i j (inl less) = less
    in_history i j (inr same) = absurd (omega arith)

-- one of two places is before the other, or they are one
order : (n m k l : ℕ) → (IsEarlierPlace n m k l ⊎ IsEarlierPlace k l n m) ⊎ ((n ≡ k) × (m ≡ l))
order n m k l = by_cycle (grind arith)
  where
    by_macrotick : n ≡ k → ((m < l) ⊎ (l < m)) ⊎ (m ≡ l) → (IsEarlierPlace n m k l ⊎ IsEarlierPlace k l n m) ⊎ ((n ≡ k) × (m ≡ l))
    by_macrotick same (inl (inl less)) = inl (inl (inr (same, less)))
    by_macrotick same (inl (inr more)) = inl (inr (inr (sym same, more)))
    by_macrotick same (inr equal) = inr (same, equal)

    by_cycle : ((n < k) ⊎ (k < n)) ⊎ (n ≡ k) → (IsEarlierPlace n m k l ⊎ IsEarlierPlace k l n m) ⊎ ((n ≡ k) × (m ≡ l))
    by_cycle (inl (inl less)) = inl (inl (inl less))
    by_cycle (inl (inr more)) = inl (inr (inl more))
    by_cycle (inr same) = by_macrotick same (grind arith)

pub greatest_is_one : (p : Values) (h : History) (g f : ℤ) (n m k l : ℕ) → IsGreatestSkew p h g n m → IsGreatestSkew p h f k l → (g ≡ f) × (n ≡ k) × (m ≡ l)
greatest_is_one p h g f n m k l one other = by_order (order n m k l)
  where
    up : skew_at p h n m ≤ℤ f
    up = other.greatest n m one.cycle_in one.macrotick_in

    down : skew_at p h k l ≤ℤ g
    down = one.greatest k l other.cycle_in other.macrotick_in

    same : g ≡ f
    same = let a : skew_at p h n m ≤ℤ f = up in let b : skew_at p h k l ≤ℤ g = down in let c : skew_at p h n m ≡ g = one.reached in let d : skew_at p h k l ≡ f = other.reached in
        let a' : g ≤ℤ f = rw (← c) a in let b' : f ≤ℤ g = rw (← d) b in omega (arith, ints)

    by_order : (IsEarlierPlace n m k l ⊎ IsEarlierPlace k l n m) ⊎ ((n ≡ k) × (m ≡ l)) → (g ≡ f) × (n ≡ k) × (m ≡ l)
    by_order (inl (inl before)) = absurd (other.first n m one.macrotick_in before (one.reached ∙ same))
    by_order (inl (inr after)) = absurd (one.first k l other.macrotick_in after (other.reached ∙ sym same))
    by_order (inr here) = (same, here.0, here.1)

-- a history with a cycle has a greatest skew
some_within : (grid : Grid) (cycle : ℕ) (rows : List NodeRow) (before : Option Peak) (m : ℕ) → 0 < m → greatest_within grid cycle rows before m ≡ None → ⊥
unfolding greatest_within
some_within grid cycle rows before zero some is = omega arith
some_within grid cycle rows before (suc m) some is = cc

pub greatest_is_there : (p : Values) (h : History) → 0 < amount p name.gMacroPerCycle → greatest_skew_of p h ≡ None → length h ≡ 0
unfolding greatest_skew_of
greatest_is_there p [] some is = refl
greatest_is_there p (r ∷ h) some is = absurd (some_within (grid_for p) (length h) r.rows (greatest_skew_of p h) (amount p name.gMacroPerCycle) some is)
