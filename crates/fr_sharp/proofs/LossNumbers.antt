-- How many double cycles in a row the limits bear; and what losses cost is one answer, and is there.
use Rattle.std.proofs.Common.{◌≡◌, ◌⊎◌, ◌∙◌, ℕ, zero, suc, ◌+◌, ◌*◌, ◌-◌, ◌<◌, ◌≤◌, Bool, true, false, Option, Some, None, inl, inr, refl, ap, sym, subst, arith}
use Rattle.std.specs.Prelude.{◌&&◌, nat_le, nat_lt}
use Rattle.std.proofs.Math.Nat.{mul-le-mul_left, mul-le-mul_right}
use Rattle.std.proofs.lemmas.Bool.{and_parts}
use Rattle.std.proofs.lemmas.Bool.Decides.{nat_tests}
use Rattle.std.proofs.lemmas.Int.{ints}
use Rattle.fr_cluster.specs.Sane.{IsSane}
use Rattle.fr_cluster.specs.Values.{Values, amount}
use Rattle.fr_cluster.specs.declared.names.ParamName.TheVariants as name
use Rattle.fr_bound.specs.Bounds.{arrival_error, longest_micro, nominal, shortest_micro, widest}
use Rattle.fr_bound.specs.Checks.{back_need_of, front_need_of, left_of}
use Rattle.fr_bound.specs.declared.judging.Heard.TheVariants as heard
use Rattle.fr_bound.specs.declared.settling.Spread.{Spread}
use Rattle.fr_precision.proofs.Figures.{nat_le-true}
use Rattle.fr_sharp.specs.declared.loss_costs.LossCost.{LossCost}
use Rattle.fr_sharp.specs.declared.loss_costs.SecondCost.{SecondCost}
use Rattle.fr_bound.specs.SharpSpreads.{next_lost_spread}
use Rattle.fr_precision.specs.Among.{both, lost_spread, spread_through_losses}
use Rattle.fr_precision.specs.declared.kinds.Kinds.{Kinds}
use Rattle.fr_sharp.specs.LossCosts.{apart_in_a_row, heard_behind, limits_hold, near_in_a_row, EverySecondIsReached, HoldInARow, IsBack, IsGreatest, IsGreatestEverySecond, IsLongest, IsLongestRow, IsLossCost, IsSecondCost, OneLongest, OneLossCost, OneSecondCost, SomeLongest, SomeLossCost, SomeSecondCost}
use Rattle.fr_sharp.specs.LossSteps.{heard_apart}
use Rattle.fr_bound.specs.SharpBounds.{sharp_lambda, sharp_pi, sharp_precision}
use Rattle.fr_bound.specs.SharpChecks.{sharp_holds_of, sharp_right_of}
use Rattle.fr_bound.specs.SharpSpreads.{sharply_near_in}
use Rattle.fr_promise.proofs.JoinBounds.{near_grows}
use Rattle.fr_sharp.proofs.LossLemmas.{back_behind, every_peak, every_peak_is, every_reach, lost_yet, peak_behind, reach_behind, widest as widest_spread}
use Rattle.fr_promise.proofs.LossOrder.{added, lost_rises, through, IsBelow, below_itself}

-- ---- the checks of the limits hold with any lesser reach

holds_before : (a b left : ℕ) → a ≤ b → nat_le b left ≡ true → nat_le a left ≡ true
holds_before a b left le holds = grind (arith, nat_tests)

exceeds_before : (a b left : ℕ) → a ≤ b → nat_lt b left ≡ true → nat_lt a left ≡ true
exceeds_before a b left le holds = grind (arith, nat_tests)

both_hold : (a b : Bool) → a ≡ true → b ≡ true → a && b ≡ true
both_hold a b one other = rw (one, other) refl

third_before : (p : Values) (flutter less more : ℕ) → less ≤ more → sharp_holds_of 3 flutter more p ≡ true → sharp_holds_of 3 flutter less p ≡ true
third_before p flutter less more le = holds_before (less + arrival_error p + longest_micro p) (more + arrival_error p + longest_micro p) (left_of 3 p) (omega (arith, le))

fourth_before : (p : Values) (flutter less more : ℕ) → less ≤ more → sharp_holds_of 4 flutter more p ≡ true → sharp_holds_of 4 flutter less p ≡ true
fourth_before p flutter less more le =
    holds_before (front_need_of p less) (front_need_of p more) (left_of 4 p)
    (mul-le-mul_left (amount p name.gMacroPerCycle) (wider less more (amount p name.xDelayError) le))
  where
    wider : (a b c : ℕ) → a ≤ b → a + c ≤ b + c
    wider a b c le = omega (arith, le)

fifth_before : (p : Values) (flutter less more : ℕ) → less ≤ more → sharp_holds_of 5 flutter more p ≡ true → sharp_holds_of 5 flutter less p ≡ true
fifth_before p flutter less more le =
    exceeds_before (back_need_of p less) (back_need_of p more) (left_of 5 p)
    (mul-le-mul_left (amount p name.gMacroPerCycle) (wider less more (widest p * nominal) (amount p name.xDelayError) le))
  where
    wider : (a b c d : ℕ) → a ≤ b → a + c + d ≤ b + c + d
    wider a b c d le = omega (arith, le)

pub limits_before : (p : Values) (flutter less more : ℕ) → less ≤ more → limits_hold flutter more p ≡ true → limits_hold flutter less p ≡ true
limits_before p flutter less more le holds =
    let parts = and_parts (sharp_holds_of 3 flutter more p) (sharp_holds_of 4 flutter more p && sharp_holds_of 5 flutter more p) holds in
    let others = and_parts (sharp_holds_of 4 flutter more p) (sharp_holds_of 5 flutter more p) parts.1 in
    both_hold (sharp_holds_of 3 flutter less p) (sharp_holds_of 4 flutter less p && sharp_holds_of 5 flutter less p) (third_before p flutter less more le parts.0)
    (
    both_hold (sharp_holds_of 4 flutter less p) (sharp_holds_of 5 flutter less p) (fourth_before p flutter less more le others.0) (fifth_before p flutter less more le others.1)
    )

-- ---- what a check needs with a reach

pub needs_more : (p : Values) (flutter reach number : ℕ) → (number ≡ 1 → ⊥) → (number ≡ 2 → ⊥) → (number ≡ 3 → ⊥) → 1 ≤ number → number ≤ 5
    → sharp_right_of number flutter reach p ≡ sharp_right_of number flutter 0 p + amount p name.gMacroPerCycle * reach
needs_more p flutter reach zero one two three from to = absurd (omega (arith, from))
needs_more p flutter reach (suc zero) one two three from to = absurd (one refl)
needs_more p flutter reach (suc (suc zero)) one two three from to = absurd (two refl)
needs_more p flutter reach (suc (suc (suc zero))) one two three from to = absurd (three refl)
needs_more p flutter reach (suc (suc (suc (suc zero)))) one two three from to = front (amount p name.gMacroPerCycle) reach (amount p name.xDelayError)
  where
    front : (g r d : ℕ) → g * (r + d) ≡ g * (0 + d) + g * r
    front g r d = grind arith
needs_more p flutter reach (suc (suc (suc (suc (suc zero))))) one two three from to = back (amount p name.gMacroPerCycle) reach (widest p * nominal) (amount p name.xDelayError)
  where
    back : (g r w d : ℕ) → g * (r + w + d) ≡ g * (0 + w + d) + g * r
    back g r w d = grind arith
needs_more p flutter reach (suc (suc (suc (suc (suc (suc n)))))) one two three from to = absurd (omega (arith, to))

-- ---- where something is lost in each

-- nothing is heard whole
abbrev pub never : ℕ → Bool
never double = false

abbrev pub never_heard : ℕ → Kinds
never_heard double = both heard.Poor

module _ (p : Values) (flutter : ℕ) where
  -- it is the same as long as it lasts
  pub same_yet : (count n : ℕ) → n ≤ count → lost_spread p flutter (heard_behind count) n ≡ lost_spread p flutter never n
  unfolding lost_spread
  same_yet count zero le = refl
  same_yet count (suc n) le =
      ap (λ b. next_lost_spread b p flutter (lost_spread p flutter (heard_behind count) n)) (lost_yet count n (omega (arith, le)))
      ∙ ap (next_lost_spread false p flutter) (same_yet count n (omega (arith, le)))

  pub never_more : (n : ℕ) → next_lost_spread false p flutter (lost_spread p flutter never n) ≡ lost_spread p flutter never (n + 1)
  unfolding lost_spread
  never_more n =
      let next : suc n ≡ n + 1 = omega arith in
      let after : next_lost_spread false p flutter (lost_spread p flutter never n) ≡ lost_spread p flutter never (suc n) = refl in
      after ∙ ap (λ (m : ℕ). lost_spread p flutter never m) next

  -- so it is at first
  pub first_by : (s : Spread) → s ≡ spread_through_losses false p flutter never_heard 0 → s ≡ record { starts = sharp_pi false p flutter; lengths = sharp_lambda false p flutter }
  unfolding spread_through_losses
  first_by s is = is

  pub first_of : (whole : ℕ → Bool) (s : Spread) → s ≡ spread_through_losses false p flutter never_heard 0 → s ≡ lost_spread p flutter whole 0
  unfolding lost_spread
  first_of whole s is = first_by s is

  never_next : (n : ℕ) → IsBelow (lost_spread p flutter never n) (lost_spread p flutter never (suc n))
  unfolding lost_spread
  never_next n = lost_rises p flutter (lost_spread p flutter never n)

  pub never_rises : (n more : ℕ) → IsBelow (lost_spread p flutter never n) (lost_spread p flutter never (n + more))
  never_rises n zero =
      let same : n ≡ n + 0 = omega arith in
      let At : ℕ → Type 0 = λ m. IsBelow (lost_spread p flutter never n) (lost_spread p flutter never m) in
      subst At same (below_itself (lost_spread p flutter never n))
  never_rises n (suc more) =
      let same : suc (n + more) ≡ n + suc more = omega arith in
      let At : ℕ → Type 0 = λ m. IsBelow (lost_spread p flutter never n) (lost_spread p flutter never m) in
      subst At same
      (
      through (lost_spread p flutter never n) (lost_spread p flutter never (n + more)) (lost_spread p flutter never (suc (n + more))) (never_rises n more) (never_next (n + more))
      )

  -- the reach of so many
  abbrev pub reach_of_row : ℕ → ℕ
  reach_of_row n = sharply_near_in p (lost_spread p flutter never n)

  reach_rises : (n m : ℕ) → IsSane p → n ≤ m → reach_of_row n ≤ reach_of_row m
  reach_rises n m sane le =
      let whole : n + (m - n) ≡ m = omega (arith, le) in
      let At : ℕ → Type 0 = λ k. reach_of_row n ≤ reach_of_row k in
      let s : Spread = lost_spread p flutter never n in
      let t : Spread = lost_spread p flutter never (n + (m - n)) in
      let below = never_rises n (m - n) in
      subst At whole (near_grows p s.starts s.lengths t.starts t.lengths sane below.start below.long)

  row_reach : (count : ℕ) → IsSane p → IsGreatest (near_in_a_row p flutter count) (reach_of_row count)
  row_reach count sane = subst (IsGreatest (near_in_a_row p flutter count)) (ap (sharply_near_in p) (same_yet count count (omega arith))) (reach_behind p flutter count sane)

  -- the checks hold with it
  abbrev pub Bears : ℕ → Type 0
  Bears count = limits_hold flutter (reach_of_row count) p ≡ true

  pub bears_fewer : (n m : ℕ) → IsSane p → n ≤ m → Bears m → Bears n
  bears_fewer n m sane le = limits_before p flutter (reach_of_row n) (reach_of_row m) (reach_rises n m sane le)

  pub holds_of_bears : (count : ℕ) → IsSane p → Bears count → HoldInARow p flutter count
  holds_of_bears count sane bears = record { reach = reach_of_row count; reach_is = row_reach count sane; holds = bears }

  pub bears_of_holds : (count : ℕ) → IsSane p → HoldInARow p flutter count → Bears count
  bears_of_holds count sane holds =
      let reach = row_reach count sane in
      let le = holds.reach_is.greatest reach.place in
      limits_before p flutter (reach_of_row count) holds.reach (up_to (reach_of_row count) (near_in_a_row p flutter count reach.place) holds.reach reach.reached le) holds.holds
    where
      up_to : (a b c : ℕ) → b ≡ a → b ≤ c → a ≤ c
      up_to a b c is le = omega (arith, is, le)

  -- ---- the longest

  -- where they fail with the reach of one more than so many
  pub longest_before : (n : ℕ) → IsSane p → ((k : ℕ) → k < suc n → Bears k) → (Bears (suc n) → ⊥) → IsLongestRow p flutter n
  longest_before n sane all fails = record {
    all = λ count le. holds_of_bears count sane (all count (omega (arith, le)));
    no_more = λ count less holds. fails (bears_fewer (suc n) count sane (omega (arith, less)) (bears_of_holds count sane holds));
  }

  pub none_at_all : IsSane p → (Bears 0 → ⊥) → IsLongest p flutter None
  none_at_all sane fails count holds = fails (bears_fewer 0 count sane (omega arith) (bears_of_holds count sane holds))

  not_both : (b : Bool) → b ≡ false → b ≡ true → ⊥
  not_both b one other = cc (sym one ∙ other)

  pub longest_by : (n : ℕ) (found : Option ℕ) → IsSane p → ((k : ℕ) → k < n → Bears k) → limits_hold flutter (reach_of_row n) p ≡ false
      → (n ≡ 0 → found ≡ None) → (0 < n → found ≡ Some (n - 1)) → IsLongest p flutter found
  longest_by zero found sane all fails none some = subst (IsLongest p flutter) (sym (none refl)) (none_at_all sane (not_both (limits_hold flutter (reach_of_row 0) p) fails))
  longest_by (suc n) found sane all fails none some =
      let one : suc n - 1 ≡ n = omega arith in
      let is : found ≡ Some n = some (omega arith) ∙ ap Some one in
      subst (IsLongest p flutter) (sym is) (longest_before n sane all (not_both (limits_hold flutter (reach_of_row (suc n)) p) fails))

  pub bears_further : (n : ℕ) → ((k : ℕ) → k < n → Bears k) → Bears n → (k : ℕ) → k < n + 1 → Bears k
  bears_further n all here k less = elim (splits k n less) [
    | inl before ↦ all k before
    | inr same ↦ subst (λ (m : ℕ). Bears m) same here
  ]
    where
      splits : (k n : ℕ) → k < n + 1 → (k < n) ⊎ (n ≡ k)
      splits k n less = grind arith

  -- starts come apart with the square
  apart_at_least : ℕ → ℕ
  apart_at_least zero = 0
  apart_at_least (suc n) = apart_at_least n + 2 * (n * 1_999_998)

  some_added : 1_999_998 ≤ added p flutter
  some_added = step (two p)
    where
      two : (p : Values) → 1_000_000 ≤ longest_micro p
      two p = omega arith

      step : 1_000_000 ≤ longest_micro p → 1_999_998 ≤ added p flutter
      step le = omega (arith, le)

  comes_apart : (n : ℕ) → (n * 1_999_998 ≤ (lost_spread p flutter never n).lengths) × (apart_at_least n ≤ (lost_spread p flutter never n).starts)
  unfolding lost_spread apart_at_least
  comes_apart zero = (omega arith, omega arith)
  comes_apart (suc n) =
      let so_far = comes_apart n in
      let s : Spread = lost_spread p flutter never n in
      (longer n s.lengths (added p flutter) so_far.0 some_added, further n (apart_at_least n) s.starts s.lengths _ _ _ so_far.0 so_far.1)
    where
      longer : (n l x : ℕ) → n * 1_999_998 ≤ l → 1_999_998 ≤ x → suc n * 1_999_998 ≤ l + x
      longer n l x a b = omega (arith, a, b)

      further : (n f s l j e q : ℕ) → n * 1_999_998 ≤ l → f ≤ s → f + 2 * (n * 1_999_998) ≤ s + l + (l + 2 * j) + 2 * e + 3 * q
      further n f s l j e q a b = omega (arith, a, b)

  far_at_last : 17_000_000_000 ≤ (lost_spread p flutter never 99).starts
  unfolding apart_at_least
  far_at_last = let far = (comes_apart 99).1 in far_enough (lost_spread p flutter never 99).starts far
    where
      far_enough : (s : ℕ) → apart_at_least 99 ≤ s → 17_000_000_000 ≤ s
      far_enough s le = omega (arith, le)

  -- the third check fails with the reach of 99
  pub bears_no_hundred : IsSane p → Bears 99 → ⊥
  bears_no_hundred sane bears =
      let parts = and_parts (sharp_holds_of 3 flutter (reach_of_row 99) p) (sharp_holds_of 4 flutter (reach_of_row 99) p && sharp_holds_of 5 flutter (reach_of_row 99) p) bears in
      let fits = nat_le-true (reach_of_row 99 + arrival_error p + longest_micro p) (left_of 3 p) parts.0 in
      let s : Spread = lost_spread p flutter never 99 in
      let range = sane.ranges name.pOffsetCorrectionOut in
      let few : amount p name.pOffsetCorrectionOut ≤ 16_000 = omega (arith, ints, range.0, range.1) in
      let short : shortest_micro p ≤ 1_000_000 = omega arith in
      let most : left_of 3 p ≤ 16_000 * shortest_micro p = mul-le-mul_right (shortest_micro p) few in
      step s.starts s.lengths _ (longest_micro p) (arrival_error p) (left_of 3 p) (shortest_micro p) far_at_last fits most short
    where
      step : (s l x q e left m : ℕ) → 17_000_000_000 ≤ s → s + l + x + q + e + q ≤ left → left ≤ 16_000 * m → m ≤ 1_000_000 → ⊥
      step s l x q e left m far fits most short = omega (arith, far, fits, most, short)

-- ---- each is one

pub one_greatest : (f : ℕ → ℕ) (a b : ℕ) → IsGreatest f a → IsGreatest f b → a ≡ b
one_greatest f a b one other =
    let le : a ≤ b = let w = other.greatest one.place in let is = one.reached in omega (arith, w, is) in
    let ge : b ≤ a = let w = one.greatest other.place in let is = other.reached in omega (arith, w, is) in
    omega (arith, le, ge)

one_every : (f : (ℕ → Bool) → ℕ → ℕ) (a b : ℕ) → IsGreatestEverySecond f a → IsGreatestEverySecond f b → a ≡ b
one_every f a b one other =
    let le : a ≤ b = let w = other.greatest one.heard one.every one.place in let is = one.reached in omega (arith, w, is) in
    let ge : b ≤ a = let w = one.greatest other.heard other.every other.place in let is = other.reached in omega (arith, w, is) in
    omega (arith, le, ge)

one_back : (p : Values) (flutter count a b : ℕ) → IsBack p flutter count a → IsBack p flutter count b → a ≡ b
one_back p flutter count a b one other = elim (order a b) [
  | inl same ↦ same
  | inr (inl less) ↦ absurd (differ (apart_in_a_row p flutter count a) (sharp_precision false p flutter) (one.since a (omega arith)) (other.before a less))
  | inr (inr more) ↦ absurd (differ (apart_in_a_row p flutter count b) (sharp_precision false p flutter) (other.since b (omega arith)) (one.before b more))
]
  where
    order : (a b : ℕ) → (a ≡ b) ⊎ ((a < b) ⊎ (b < a))
    order a b = grind arith

    differ : (x k : ℕ) → x ≡ k → k < x → ⊥
    differ x k same less = omega (arith, same, less)

pub one_loss_cost : OneLossCost
one_loss_cost p flutter count one other here there =
    let made : ℕ → ℕ → ℕ → LossCost = λ a b c. record { peak = a; reach = b; back = c } in
    let peak = one_greatest (apart_in_a_row p flutter count) one.peak other.peak here.peak there.peak in
    let reach = one_greatest (near_in_a_row p flutter count) one.reach other.reach here.reach there.reach in
    let back = one_back p flutter count one.back other.back here.back there.back in
    ap (λ (a : ℕ). made a one.reach one.back) peak ∙ ap (λ (b : ℕ). made other.peak b one.back) reach ∙ ap (made other.peak other.reach) back

pub one_second_cost : OneSecondCost
one_second_cost p flutter one other here there =
    let made : ℕ → ℕ → SecondCost = λ a b. record { peak = a; reach = b } in
    let peak = one_every _ one.peak other.peak here.peak there.peak in
    let reach = one_every _ one.reach other.reach here.reach there.reach in
    ap (λ (a : ℕ). made a one.reach) peak ∙ ap (made other.peak) reach

pub one_longest : OneLongest
one_longest p flutter None None here there = refl
one_longest p flutter None (Some b) here there = absurd (here b (there.all b (omega arith)))
one_longest p flutter (Some a) None here there = absurd (there a (here.all a (omega arith)))
one_longest p flutter (Some a) (Some b) here there = elim (order a b) [
  | inl same ↦ ap Some same
  | inr (inl less) ↦ absurd (here.no_more b less (there.all b (omega arith)))
  | inr (inr more) ↦ absurd (there.no_more a more (here.all a (omega arith)))
]
  where
    order : (a b : ℕ) → (a ≡ b) ⊎ ((a < b) ⊎ (b < a))
    order a b = grind arith

-- ---- and is there

pub cost_of_row : (p : Values) (flutter count peak reach : ℕ) → IsSane p → 1 ≤ count → peak ≡ heard_apart (both heard.Clean) p flutter (lost_spread p flutter (heard_behind count) count)
    → reach ≡ sharply_near_in p (lost_spread p flutter (heard_behind count) count) → IsLossCost p flutter count (record { peak = peak; reach = reach; back = count + 2 })
cost_of_row p flutter count peak reach sane some peak_is reach_is = record {
  peak = subst (IsGreatest (apart_in_a_row p flutter count)) (sym peak_is) (peak_behind p flutter count);
  reach = subst (IsGreatest (near_in_a_row p flutter count)) (sym reach_is) (reach_behind p flutter count sane);
  back = back_behind p flutter count some;
}

pub some_loss_cost : SomeLossCost
some_loss_cost p flutter count sane some =
    let s : Spread = lost_spread p flutter (heard_behind count) count in (
      record { peak = heard_apart (both heard.Clean) p flutter s; reach = sharply_near_in p s; back = count + 2 },
      record { peak = peak_behind p flutter count; reach = reach_behind p flutter count sane; back = back_behind p flutter count some },
    )

pub cost_of_widest : (p : Values) (flutter : ℕ) (cost : SecondCost) → IsSane p → cost.peak ≡ heard_apart (both heard.Clean) p flutter (widest_spread p flutter) → cost.reach ≡ sharply_near_in p (widest_spread p flutter) → IsSecondCost p flutter cost
cost_of_widest p flutter cost sane peak reach = record {
  peak = subst (IsGreatestEverySecond _) (sym peak) (every_peak p flutter);
  reach = subst (IsGreatestEverySecond _) (sym reach) (every_reach p flutter sane);
}

pub some_second_cost : SomeSecondCost
some_second_cost p flutter sane =
    let s : Spread = widest_spread p flutter in
    (record { peak = heard_apart (both heard.Clean) p flutter s; reach = sharply_near_in p s }, record { peak = every_peak p flutter; reach = every_reach p flutter sane })

pub every_second_is_reached : EverySecondIsReached
every_second_is_reached p flutter cost sane is =
    one_every _ cost.peak (heard_apart (both heard.Clean) p flutter (widest_spread p flutter)) is.peak (every_peak p flutter) ∙ every_peak_is p flutter

-- the first number of which a test fails
first_failing : (test : ℕ → Bool) (n : ℕ) → ((k : ℕ) → k < n → test k ≡ true) ⊎ ((m : ℕ) × (test m ≡ false) × ((k : ℕ) → k < m → test k ≡ true))
first_failing test zero = inl (λ k less. absurd (omega (arith, less)))
first_failing test (suc n) = elim (first_failing test n) [
  | inl all ↦ by (test n) refl all
  | inr found ↦ inr found
]
  where
    splits : (k : ℕ) → k < suc n → (k < n) ⊎ (n ≡ k)
    splits k less = grind arith

    by : (b : Bool) → test n ≡ b → ((k : ℕ) → k < n → test k ≡ true) → ((k : ℕ) → k < suc n → test k ≡ true) ⊎ ((m : ℕ) × (test m ≡ false) × ((k : ℕ) → k < m → test k ≡ true))
    by true is all = inl (λ k less. elim (splits k less) [
      | inl before ↦ all k before
      | inr same ↦ subst (λ (m : ℕ). test m ≡ true) same is
    ])
    by false is all = inr (n, is, all)

pub some_longest : SomeLongest
some_longest p flutter sane = elim (first_failing (λ k. limits_hold flutter (reach_of_row p flutter k) p) 100) [
  | inl all ↦ absurd (bears_no_hundred p flutter sane (all 99 (omega arith)))
  | inr found ↦ by found.0 found.1 found.2
]
  where
    by : (m : ℕ) → limits_hold flutter (reach_of_row p flutter m) p ≡ false → ((k : ℕ) → k < m → limits_hold flutter (reach_of_row p flutter k) p ≡ true) → (longest : Option ℕ) × IsLongest p flutter longest
    by zero fails all = (None, longest_by p flutter 0 None sane all fails (λ is. refl) (λ less. absurd (omega (arith, less))))
    by (suc n) fails all =
        let one : n ≡ suc n - 1 = omega arith in
        (Some n, longest_by p flutter (suc n) (Some n) sane all fails (λ is. absurd (omega (arith, is))) (λ less. ap Some one))
