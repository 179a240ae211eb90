-- Clocks come to rest as is told of their way.
use Rattle.std.proofs.Common.{◌≡◌, ◌∙◌, ℕ, zero, suc, ◌+◌, ◌<◌, ◌≤◌, ◌⊎◌, inl, inr, Bool, true, false, Option, Some, None, refl, ap, sym, subst, lit≤, arith}
use Rattle.std.specs.Prelude.{max, IfSome}
use Rattle.std.proofs.Math.Nat.{le-max_left, le-max_right}
use Rattle.std.proofs.lemmas.Bool.{cases_order}
use Rattle.fr_cluster.specs.Values.{Values}
use Rattle.fr_bound.specs.declared.settling.Spread.{Spread}
use Rattle.fr_precision.proofs.Figures.{nat_le-true}
use Rattle.fr_bound.specs.SharpBounds.{walk_lasts}
use Rattle.fr_bound.specs.SharpChecks.{sharp_holds_of, SharpChecksHold}
use Rattle.fr_precision.specs.SharpRun.{WalkLastsAfter, WalkLastsUpTo}
use Rattle.fr_bound.specs.SharpSpreads.{next_sharp_spread}
use Rattle.fr_bound.specs.SharpSpreads.{first_sharp_spread, IsSharplySettled}
use Rattle.fr_precision.specs.SharpSettling.{sharp_spread_after}
use Rattle.fr_promise.specs.SharpWay.{lasts_for, settled_by, way_holds_of, AllWayChecksHold, IsGreatestTo, SettlesSharplyAt}
use Rattle.fr_precision.proofs.SettlingLemmas.{alone_settles_soon, beside_settles_soon, settled_stays}

-- ---- the spreads, one by one

pub spread_none : (beside : Bool) (p : Values) (flutter start rate : ℕ) → first_sharp_spread beside p flutter start rate ≡ sharp_spread_after beside p flutter start rate 0
unfolding sharp_spread_after
spread_none beside p flutter start rate = refl

pub spread_next : (beside : Bool) (p : Values) (flutter start rate n : ℕ) (s next : Spread) → s ≡ sharp_spread_after beside p flutter start rate n → next ≡ next_sharp_spread beside p flutter s
    → next ≡ sharp_spread_after beside p flutter start rate (suc n)
unfolding sharp_spread_after
spread_next beside p flutter start rate n s next is next_is = next_is ∙ ap (next_sharp_spread beside p flutter) is

settled_next : (beside : Bool) (p : Values) (flutter start rate n : ℕ) → IsSharplySettled beside p flutter (sharp_spread_after beside p flutter start rate n)
    → IsSharplySettled beside p flutter (sharp_spread_after beside p flutter start rate (suc n))
unfolding sharp_spread_after
settled_next beside p flutter start rate n settled = settled_stays beside p flutter (sharp_spread_after beside p flutter start rate n) settled

-- once at rest they stay so
pub settled_on : (beside : Bool) (p : Values) (flutter start rate rest more : ℕ) → IsSharplySettled beside p flutter (sharp_spread_after beside p flutter start rate rest)
    → IsSharplySettled beside p flutter (sharp_spread_after beside p flutter start rate (rest + more))
settled_on beside p flutter start rate rest zero settled =
    let same : rest ≡ rest + 0 = omega arith in
    subst (λ (n : ℕ). IsSharplySettled beside p flutter (sharp_spread_after beside p flutter start rate n)) same settled
settled_on beside p flutter start rate rest (suc more) settled =
    let same : suc (rest + more) ≡ rest + suc more = omega arith in
    subst (λ (n : ℕ). IsSharplySettled beside p flutter (sharp_spread_after beside p flutter start rate n)) same
    (settled_next beside p flutter start rate (rest + more) (settled_on beside p flutter start rate rest more settled))

settled_by_then : (beside : Bool) (p : Values) (flutter start rate : ℕ) → start ≤ 1_000_000_000_000 → rate ≤ 1_000_000_000_000
    → IsSharplySettled beside p flutter (sharp_spread_after beside p flutter start rate (settled_by beside))
settled_by_then false p flutter start rate from to = alone_settles_soon p flutter start rate
settled_by_then true p flutter start rate from to = beside_settles_soon p flutter start rate from to

pub settled_at_last : (beside : Bool) (p : Values) (flutter start rate : ℕ) → start ≤ 1_000_000_000_000 → rate ≤ 1_000_000_000_000
    → IsSharplySettled beside p flutter (sharp_spread_after beside p flutter start rate 82)
settled_at_last false p flutter start rate from to = settled_on false p flutter start rate 2 80 (alone_settles_soon p flutter start rate)
settled_at_last true p flutter start rate from to = beside_settles_soon p flutter start rate from to

pub settles_soon : (beside : Bool) (p : Values) (flutter start rate double : ℕ) → start ≤ 1_000_000_000_000 → rate ≤ 1_000_000_000_000 → SettlesSharplyAt beside p flutter start rate double → double ≤ settled_by beside
settles_soon beside p flutter start rate double from to settles = elim (cases_order double (settled_by beside)) [
  | inl same ↦ omega (arith, same)
  | inr (inl less) ↦ omega (arith, less)
  | inr (inr more) ↦ absurd (settles.first (settled_by beside) more (settled_by_then beside p flutter start rate from to))
]

pub none_earlier : (beside : Bool) (p : Values) (flutter start rate n : ℕ) (s : Spread) → ((k : ℕ) → k < n → IsSharplySettled beside p flutter (sharp_spread_after beside p flutter start rate k) → ⊥)
    → s ≡ sharp_spread_after beside p flutter start rate n → (IsSharplySettled beside p flutter s → ⊥) → (k : ℕ) → k < suc n → IsSharplySettled beside p flutter (sharp_spread_after beside p flutter start rate k) → ⊥
none_earlier beside p flutter start rate n s earlier is not_yet k less settled = elim (splits k n less) [
  | inl before ↦ earlier k before settled
  | inr same ↦
      let At : ℕ → Type 0 = λ m. IsSharplySettled beside p flutter (sharp_spread_after beside p flutter start rate m) in
      not_yet (subst (IsSharplySettled beside p flutter) (sym is) (subst At same settled))
] where
  splits : (k n : ℕ) → k < suc n → (k < n) ⊎ (k ≡ n)
  splits k n le = grind arith

-- ---- the greatest of numbers

pub greatest_first : (f : ℕ → ℕ) (most : ℕ) → most ≡ f 0 → IsGreatestTo f 0 most
greatest_first f most is = record {
  greatest = λ n to. only n to;
  place = 0;
  up_to = lit≤ tt;
  reached = sym is;
} where
  only : (n : ℕ) → n ≤ 0 → f n ≤ most
  only n to = let same : 0 ≡ n = omega (arith, to) in subst (λ (m : ℕ). f m ≤ most) same (omega (arith, is))

greatest_step : (f : ℕ → ℕ) (n most next : ℕ) → IsGreatestTo f n most → f (suc n) ≡ next → IsGreatestTo f (suc n) (max most next)
greatest_step f n most next so_far is = elim (greater most next) [
  | inl old ↦ record {
    greatest = greatest;
    place = so_far.place;
    up_to = let le = so_far.up_to in omega (arith, le);
    reached = so_far.reached ∙ sym old;
  }
  | inr new ↦ record { greatest = greatest; place = suc n; up_to = omega arith; reached = is ∙ sym new }
] where
  greater : (a b : ℕ) → (max a b ≡ a) ⊎ (max a b ≡ b)
  greater a b = grind arith

  splits : (k n : ℕ) → k ≤ suc n → (k ≤ n) ⊎ (suc n ≡ k)
  splits k n le = grind arith

  greatest : (k : ℕ) → k ≤ suc n → f k ≤ max most next
  greatest k le = elim (splits k n le) [
    | inl less ↦ let below = so_far.greatest k less in let wide = le-max_left most next in omega (arith, below, wide)
    | inr same ↦ let wide = le-max_right most next in subst (λ (m : ℕ). f m ≤ max most next) same (omega (arith, is, wide))
  ]

-- one double cycle further
pub greatest_next : (f : ℕ → ℕ) (n m most next more : ℕ) → m ≡ suc n → IsGreatestTo f n most → next ≡ f (suc n) → more ≡ max most next → IsGreatestTo f m more
greatest_next f n m most next more one so_far is greater =
    subst (λ (k : ℕ). IsGreatestTo f k more) (sym one) (subst (IsGreatestTo f (suc n)) (sym greater) (greatest_step f n most next so_far (sym is)))

-- ---- the checks for the way

-- where all hold, so do the checks but the first, and the walk lasts so long
later_holds : (p : Values) (flutter doubles reach k : ℕ) → 2 ≤ k → way_holds_of k flutter doubles reach p ≡ true → sharp_holds_of k flutter reach p ≡ true
later_holds p flutter doubles reach zero from holds = absurd (omega (arith, from))
later_holds p flutter doubles reach (suc zero) from holds = absurd (omega (arith, from))
later_holds p flutter doubles reach (suc (suc k)) from holds = holds

pub checks_of_way : (p : Values) (flutter doubles reach : ℕ) → AllWayChecksHold p flutter doubles reach → SharpChecksHold flutter reach p
checks_of_way p flutter doubles reach all k from to = later_holds p flutter doubles reach k from (all k (omega (arith, from)) to)

lasts_while : (doubles passed : ℕ) (lasts : Option ℕ) → lasts_for doubles lasts ≡ true → passed < doubles → IfSome lasts (λ n. passed < n)
lasts_while doubles passed None is less = tt
lasts_while doubles passed (Some n) is less = let le : doubles ≤ n = nat_le-true doubles n is in omega (arith, le, less)

lasts_up_to : (doubles : ℕ) (lasts : Option ℕ) → lasts_for doubles lasts ≡ true → IfSome lasts (λ n. doubles ≤ n)
lasts_up_to doubles None is = tt
lasts_up_to doubles (Some n) is = nat_le-true doubles n is

pub walk_lasts_while : (p : Values) (flutter doubles reach passed : ℕ) → AllWayChecksHold p flutter doubles reach → passed < doubles → WalkLastsAfter p flutter passed
walk_lasts_while p flutter doubles reach passed all less = lasts_while doubles passed (walk_lasts p flutter) (all 1 (lit≤ tt) (lit≤ tt)) less

pub walk_lasts_up_to : (p : Values) (flutter doubles reach : ℕ) → AllWayChecksHold p flutter doubles reach → WalkLastsUpTo p flutter doubles
walk_lasts_up_to p flutter doubles reach all = lasts_up_to doubles (walk_lasts p flutter) (all 1 (lit≤ tt) (lit≤ tt))
