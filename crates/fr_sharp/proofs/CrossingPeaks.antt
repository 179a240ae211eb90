-- What a burst costs that does not begin with a double cycle: its peak and its reach are those of the last double cycle in which no offset
-- value need come, or of the one behind it, in which no rate value need.
use Rattle.std.proofs.Common.{◌≡◌, ◌⊎◌, ◌∙◌, ℕ, zero, suc, ◌+◌, ◌*◌, ◌-◌, ◌<◌, ◌≤◌, Bool, true, false, inl, inr, refl, ap, ap₂, sym, subst, arith}
use Rattle.std.specs.Prelude.{if◌then◌else◌, max, nat_lt}
use Rattle.std.proofs.Math.Nat.{le-max_left, le-max_right}
use Rattle.std.proofs.lemmas.Bool.{cases_eq}
use Rattle.std.proofs.lemmas.Bool.Decides.{nat_tests}
use Rattle.fr_cluster.specs.Sane.{IsSane}
use Rattle.fr_cluster.specs.Values.{Values}
use Rattle.fr_bound.specs.Bounds.{arrival_error, cycle_change, longest_micro}
use Rattle.fr_bound.specs.SharpBounds.{odd_spread, sharp_lambda}
use Rattle.fr_bound.specs.SharpSpreads.{sharply_near_in, IsSharplySettled}
use Rattle.fr_bound.specs.declared.judging.Heard.TheVariants.{Clean, Poor}
use Rattle.fr_bound.specs.declared.settling.Spread.{Spread}
use Rattle.fr_precision.specs.Among.{both, crossing, kinds_spread, lost_spread, spread_through_losses}
use Rattle.fr_precision.specs.declared.kinds.Kinds.{Kinds}
use Rattle.fr_promise.proofs.AmongNumbers.{next_is}
use Rattle.fr_promise.proofs.HeardNumbers.{clean_again}
use Rattle.fr_promise.proofs.JoinBounds.{near_grows}
use Rattle.fr_promise.proofs.LossOrder.{added, always_wide, calm, lambda_by, never_less, IsBelow}
use Rattle.fr_sharp.specs.LossCosts.{apart_crossing, near_crossing, IsCrossingCost, IsGreatest, OneCrossingCost, SomeCrossingCost}
use Rattle.fr_sharp.specs.LossSteps.{heard_apart}
use Rattle.fr_sharp.specs.declared.loss_costs.CrossingCost.{CrossingCost}
use Rattle.fr_sharp.proofs.LossLemmas.{far_grows, starts_fit, Far}
use Rattle.fr_sharp.proofs.LossNumbers.{never, never_rises, one_greatest}

-- ---- what is heard

-- in the double cycle behind those in which no offset value need come no rate value need
abbrev pub crossed : Kinds
crossed = record { offsets = Clean; rates = Poor }

by_tests : Bool → Bool → Kinds
by_tests offsets rates = record { offsets = if offsets then Poor else Clean; rates = if rates then Poor else Clean }

before_it : (n count : ℕ) → n < count → nat_lt n count ≡ true
before_it n count less = grind (arith, nat_tests)

behind_it : (n count : ℕ) → count ≤ n → nat_lt n count ≡ false
behind_it n count le = grind (arith, nat_tests)

poor_before : (count n : ℕ) → n < count → crossing count n ≡ both Poor
unfolding by_tests
poor_before count n less = ap₂ (λ (a b : Bool). by_tests a b) (before_it n count less) (before_it n (count + 1) (omega (arith, less)))

crossed_at : (count : ℕ) → crossing count count ≡ crossed
unfolding by_tests
crossed_at count = ap₂ (λ (a b : Bool). by_tests a b) (behind_it count count (omega arith)) (before_it count (count + 1) (omega arith))

clean_behind : (count n : ℕ) → count < n → crossing count n ≡ both Clean
unfolding by_tests
clean_behind count n less = ap₂ (λ (a b : Bool). by_tests a b) (behind_it n count (omega (arith, less))) (behind_it n (count + 1) (omega (arith, less)))

-- ---- the spreads

module _ (p : Values) (flutter count : ℕ) where
  abbrev pub at : ℕ → Spread
  at n = spread_through_losses false p flutter (crossing count) n

  -- that of so many double cycles in a row
  abbrev pub row : Spread
  row = lost_spread p flutter never count

  abbrev pub behind : Spread
  behind = kinds_spread crossed p flutter row

  next_by : (n : ℕ) (what : Kinds) → crossing count n ≡ what → at (suc n) ≡ kinds_spread what p flutter (at n)
  unfolding spread_through_losses
  next_by n what is = ap (λ (w : Kinds). kinds_spread w p flutter (at n)) is

  first_is : at 0 ≡ lost_spread p flutter never 0
  unfolding spread_through_losses lost_spread
  first_is = refl

  same_yet : (n : ℕ) → n ≤ count → at n ≡ lost_spread p flutter never n
  same_yet zero le = first_is
  same_yet (suc n) le =
      next_by n (both Poor) (poor_before count n (omega (arith, le))) ∙ ap (kinds_spread (both Poor) p flutter) (same_yet n (omega (arith, le))) ∙ sym (next_is p flutter never n false refl)

  pub row_is : at count ≡ row
  row_is = same_yet count (omega arith)

  pub behind_is : at (suc count) ≡ behind
  behind_is = next_by count crossed (crossed_at count) ∙ ap (kinds_spread crossed p flutter) row_is

  pub clean_is : (n : ℕ) → count < n → at (suc n) ≡ kinds_spread (both Clean) p flutter (at n)
  clean_is n less = next_by n (both Clean) (clean_behind count n less)

  settled : (n : ℕ) → suc count < n → IsSharplySettled false p flutter (at (suc n))
  settled zero less = absurd (omega (arith, less))
  settled (suc n) less =
      clean_again p flutter (crossing count) n (ap (λ (w : Kinds). w.rates) (clean_behind count n (omega (arith, less)))) (clean_behind count (suc n) (omega (arith, less)))

  -- ---- but for the one behind them none is wider

  some_row : (n : ℕ) → n ≤ count → IsBelow (at n) row
  some_row n le =
      let there : n + (count - n) ≡ count = omega (arith, le) in
      let Up : ℕ → Type 0 = λ m. IsBelow (lost_spread p flutter never n) (lost_spread p flutter never m) in
      let Under : Spread → Type 0 = λ s. IsBelow s row in
      subst Under (sym (same_yet n le)) (subst Up there (never_rises p flutter n (count - n)))

  calm_row : (s : Spread) → IsSharplySettled false p flutter s → IsBelow s row
  calm_row s is =
      let less = never_less p flutter never count in
      record { start = at_most s.starts (calm p flutter).starts row.starts is.1 less.start; long = at_most s.lengths (calm p flutter).lengths row.lengths is.0 less.long }
    where
      at_most : (a b c : ℕ) → a ≡ b → b ≤ c → a ≤ c
      at_most a b c same le = omega (arith, same, le)

-- the one after that, where some frames were lost
pub third_row : (p : Values) (flutter count : ℕ) → 1 ≤ count → IsBelow (at p flutter count (suc (suc count))) (row p flutter count)
third_row p flutter zero some = absurd (omega (arith, some))
third_row p flutter (suc n) some =
    let s : Spread = lost_spread p flutter never n in
    let r : Spread = row p flutter (suc n) in
    let t : Spread = at p flutter (suc n) (suc (suc n)) in
    let u : Spread = at p flutter (suc n) (suc (suc (suc n))) in
    let wide = always_wide p flutter never n in
    let now = next_is p flutter never n false refl in
    let next = behind_is p flutter (suc n) in
    let last = clean_is p flutter (suc n) (suc (suc n)) (omega arith) in
    let starts : r.starts ≡ s.starts + s.lengths + odd_spread p s.lengths + 2 * arrival_error p + 3 * longest_micro p = ap (λ (x : Spread). x.starts) now in
    let lengths : r.lengths ≡ s.lengths + added p flutter = ap (λ (x : Spread). x.lengths) now in
    let longer : t.lengths ≡ r.lengths + added p flutter = ap (λ (x : Spread). x.lengths) next in
    let begun : u.starts ≡ odd_spread p t.lengths + 2 * arrival_error p + 3 * longest_micro p = ap (λ (x : Spread). x.starts) last in
    let short : u.lengths ≡ sharp_lambda false p flutter = ap (λ (x : Spread). x.lengths) last in
    record {
      start =
          begin s.starts s.lengths r.starts r.lengths t.lengths u.starts (sharp_lambda false p flutter) (added p flutter) (cycle_change p) (arrival_error p) (longest_micro p) starts lengths longer begun (lambda_by p flutter)
          wide.long wide.start;
      long = last_long s.lengths r.lengths u.lengths (sharp_lambda false p flutter) (added p flutter) lengths short wide.long;
    }
  where
    begin : (s l r m k u lam x j e q : ℕ) → r ≡ s + l + (l + 2 * j) + 2 * e + 3 * q → m ≡ l + x → k ≡ m + x → u ≡ (k + 2 * j) + 2 * e + 3 * q → lam ≡ x + q → lam ≤ l → (l + 2 * j) + 2 * e + 3 * q ≤ s → u ≤ r
    begin s l r m k u lam x j e q a b c d is long start = omega (arith, a, b, c, d, is, long, start)

    last_long : (l m u lam x : ℕ) → m ≡ l + x → u ≡ lam → lam ≤ l → u ≤ m
    last_long l m u lam x a b long = omega (arith, a, b, long)

-- ---- the peak and the reach

greater_of : (a b c : ℕ) → a ≤ c → b ≤ c → max a b ≤ c
greater_of a b c one two = grind arith

one_of : (a b : ℕ) → (max a b ≡ a) ⊎ (max a b ≡ b)
one_of a b = grind arith

no_more : (a b c : ℕ) → a ≤ b → b ≤ c → a ≤ c
no_more a b c one two = omega (arith, one, two)

-- the greatest of numbers of which all but two are no greater than one of these
greatest_of : (f : ℕ → ℕ) (count : ℕ) → ((n : ℕ) → (n ≡ count → ⊥) → (n ≡ suc count → ⊥) → f n ≤ f count) → IsGreatest f (max (f count) (f (suc count)))
greatest_of f count others = elim (one_of (f count) (f (suc count))) [
  | inl is ↦ record { greatest = each; place = count; reached = sym is }
  | inr is ↦ record { greatest = each; place = suc count; reached = sym is }
]
  where
    each : (n : ℕ) → f n ≤ max (f count) (f (suc count))
    each n = by (cases_eq n count) (cases_eq n (suc count))
      where
        by : (n ≡ count) ⊎ (n ≡ count → ⊥) → (n ≡ suc count) ⊎ (n ≡ suc count → ⊥) → f n ≤ max (f count) (f (suc count))
        by (inl same) next = subst (λ (m : ℕ). f m ≤ max (f count) (f (suc count))) (sym same) (le-max_left (f count) (f (suc count)))
        by (inr other) (inl same) = subst (λ (m : ℕ). f m ≤ max (f count) (f (suc count))) (sym same) (le-max_right (f count) (f (suc count)))
        by (inr other) (inr another) = no_more (f n) (f count) (max (f count) (f (suc count))) (others n other another) (le-max_left (f count) (f (suc count)))

module _ (p : Values) (flutter count : ℕ) (some : 1 ≤ count) where
  below_row : (n : ℕ) → (n ≡ suc count → ⊥) → IsBelow (at p flutter count n) (row p flutter count)
  below_row n other = by (order n) other
    where
      order : (n : ℕ) → (n ≤ count) ⊎ ((n ≡ suc count) ⊎ ((suc (suc count) ≡ n) ⊎ (suc (suc count) < n)))
      order n = grind arith

      late : (n : ℕ) → suc (suc count) < n → IsBelow (at p flutter count n) (row p flutter count)
      late zero less = absurd (omega (arith, less))
      late (suc m) less = calm_row p flutter count (at p flutter count (suc m)) (settled p flutter count m (omega (arith, less)))

      by : (n ≤ count) ⊎ ((n ≡ suc count) ⊎ ((suc (suc count) ≡ n) ⊎ (suc (suc count) < n))) → (n ≡ suc count → ⊥) → IsBelow (at p flutter count n) (row p flutter count)
      by (inl le) other = some_row p flutter count n le
      by (inr (inl same)) other = absurd (other same)
      by (inr (inr (inl same))) other = subst (λ (m : ℕ). IsBelow (at p flutter count m) (row p flutter count)) same (third_row p flutter count some)
      by (inr (inr (inr less))) other = late n less

  pub apart_at : apart_crossing p flutter count count ≡ heard_apart crossed p flutter (row p flutter count)
  apart_at =
      let q = longest_micro p in
      ap (λ (s : Spread). max (Far p s) ((at p flutter count (suc count)).starts + q)) (row_is p flutter count)
      ∙ ap (λ (s : Spread). max (Far p (row p flutter count)) (s.starts + q)) (behind_is p flutter count)

  pub apart_next : apart_crossing p flutter count (suc count) ≡ heard_apart (both Clean) p flutter (behind p flutter count)
  apart_next =
      let q = longest_micro p in
      ap (λ (s : Spread). max (Far p (at p flutter count (suc count))) (s.starts + q)) (clean_is p flutter count (suc count) (omega arith))
      ∙ ap (heard_apart (both Clean) p flutter) (behind_is p flutter count)

  far_at : Far p (row p flutter count) ≤ apart_crossing p flutter count count
  far_at =
      let over = le-max_left (Far p (at p flutter count count)) ((at p flutter count (suc count)).starts + longest_micro p) in
      subst (λ (s : Spread). Far p s ≤ apart_crossing p flutter count count) (row_is p flutter count) over

  peak_is : IsGreatest (apart_crossing p flutter count) (max (heard_apart crossed p flutter (row p flutter count)) (heard_apart (both Clean) p flutter (behind p flutter count)))
  peak_is =
      let two = ap₂ (λ (a b : ℕ). max a b) apart_at apart_next in
      subst (IsGreatest (apart_crossing p flutter count)) two
      (
      greatest_of (apart_crossing p flutter count) count
      (λ n other another.
      let here = far_grows p (at p flutter count n) (row p flutter count) (below_row n another) in
      let next = starts_fit p (at p flutter count (suc n)) (row p flutter count) (below_row (suc n) (λ same. other (omega (arith, same)))) in
      no_more (apart_crossing p flutter count n) (Far p (row p flutter count)) (apart_crossing p flutter count count)
      (greater_of (Far p (at p flutter count n)) ((at p flutter count (suc n)).starts + longest_micro p) (Far p (row p flutter count)) here next) far_at)
      )

  reach_is : IsSane p → IsGreatest (near_crossing p flutter count) (max (sharply_near_in p (row p flutter count)) (sharply_near_in p (behind p flutter count)))
  reach_is sane =
      let two = ap₂ (λ (a b : ℕ). max a b) (ap (sharply_near_in p) (row_is p flutter count)) (ap (sharply_near_in p) (behind_is p flutter count)) in
      subst (IsGreatest (near_crossing p flutter count)) two
      (
      greatest_of (near_crossing p flutter count) count
      (λ n other another.
      let s : Spread = at p flutter count n in
      let r : Spread = row p flutter count in
      let below = below_row n another in
      let near : sharply_near_in p s ≤ sharply_near_in p r = near_grows p s.starts s.lengths r.starts r.lengths sane below.start below.long in
      subst (λ (t : Spread). sharply_near_in p s ≤ sharply_near_in p t) (sym (row_is p flutter count)) near)
      )

pub cost_of_crossing : (p : Values) (flutter count : ℕ) (cost : CrossingCost) → IsSane p → 1 ≤ count
    → cost.peak ≡ max (heard_apart crossed p flutter (row p flutter count)) (heard_apart (both Clean) p flutter (behind p flutter count))
    → cost.reach ≡ max (sharply_near_in p (row p flutter count)) (sharply_near_in p (behind p flutter count)) → IsCrossingCost p flutter count cost
cost_of_crossing p flutter count cost sane some peak reach = record {
  peak = subst (IsGreatest (apart_crossing p flutter count)) (sym peak) (peak_is p flutter count some);
  reach = subst (IsGreatest (near_crossing p flutter count)) (sym reach) (reach_is p flutter count some sane);
}

-- ---- it is one, and is there

pub one_crossing_cost : OneCrossingCost
one_crossing_cost p flutter count one other here there =
    let made : ℕ → ℕ → CrossingCost = λ a b. record { peak = a; reach = b } in
    let peak = one_greatest (apart_crossing p flutter count) one.peak other.peak here.peak there.peak in
    let reach = one_greatest (near_crossing p flutter count) one.reach other.reach here.reach there.reach in
    ap (λ (a : ℕ). made a one.reach) peak ∙ ap (made other.peak) reach

pub some_crossing_cost : SomeCrossingCost
some_crossing_cost p flutter count sane some =
    let r : Spread = row p flutter count in
    let b : Spread = behind p flutter count in
    let cost : CrossingCost = record { peak = max (heard_apart crossed p flutter r) (heard_apart (both Clean) p flutter b); reach = max (sharply_near_in p r) (sharply_near_in p b) } in
    (cost, cost_of_crossing p flutter count cost sane some refl refl)
