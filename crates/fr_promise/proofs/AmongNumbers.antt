-- The numbers of double cycles in some of which anything may be lost.
use Rattle.std.proofs.Common.{◌≡◌, ◌⊎◌, ℕ, zero, suc, ◌+◌, ◌*◌, ◌≤◌, Bool, true, false, inl, inr, refl, ap, sym, subst, arith}
use Rattle.std.proofs.lemmas.Bool.{cases_Bool}
use Rattle.fr_cluster.specs.Values.{Values, amount}
use Rattle.fr_cluster.specs.declared.names.ParamName.TheVariants as name
use Rattle.fr_bound.specs.declared.settling.Spread.{Spread}
use Rattle.fr_bound.specs.Bounds.{arrival_error, cycle_change, longest_micro}
use Rattle.fr_bound.specs.SharpBounds.{odd_spread, precision_by, sharp_lambda, sharp_pi, steady_error}
use Rattle.fr_bound.specs.SharpSpreads.{lost_lengths, lost_starts, next_lost_spread}
use Rattle.fr_precision.specs.Among.{all_or_any, both, every_second, lost_spread, EverySecondCosts, GoesTo, HeardAgain, LostSpreadGoes}
use Rattle.fr_promise.proofs.HeardNumbers.{lambda_alone as lambda_is}

goes_by : (whole : Bool) (p : Values) (flutter : ℕ) (s : Spread) → GoesTo (both (all_or_any whole)) p flutter s.starts s.lengths (next_lost_spread whole p flutter s).starts (next_lost_spread whole p flutter s).lengths
goes_by true p flutter s = (itself (odd_spread p s.lengths + 2 * arrival_error p + 3 * longest_micro p), itself (sharp_lambda false p flutter))
  where
    itself : (n : ℕ) → n ≤ n
    itself n = omega arith
goes_by false p flutter s = (itself (lost_starts p s.starts s.lengths), itself (lost_lengths p flutter s.lengths))
  where
    itself : (n : ℕ) → n ≤ n
    itself n = omega arith

pub lost_spread_goes : LostSpreadGoes
unfolding lost_spread
lost_spread_goes p flutter whole k = goes_by (whole k) p flutter (lost_spread p flutter whole k)

-- the next numbers, where it is known what is heard
pub next_is : (p : Values) (flutter : ℕ) (whole : ℕ → Bool) (k : ℕ) (heard : Bool) → whole k ≡ heard → lost_spread p flutter whole (suc k) ≡ next_lost_spread heard p flutter (lost_spread p flutter whole k)
unfolding lost_spread
next_is p flutter whole k heard is = ap (λ b. next_lost_spread b p flutter (lost_spread p flutter whole k)) is

pub heard_again : HeardAgain
heard_again p flutter whole k first second =
    let one = next_is p flutter whole k true first in
    let two = next_is p flutter whole (suc k) true second in
    let long : (lost_spread p flutter whole (suc k)).lengths ≡ sharp_lambda false p flutter = ap (λ (s : Spread). s.lengths) one in
    let start : (lost_spread p flutter whole (suc (suc k))).starts ≡ odd_spread p (lost_spread p flutter whole (suc k)).lengths + 2 * arrival_error p + 3 * longest_micro p = ap (λ (s : Spread). s.starts) two in
    (ap (λ (s : Spread). s.lengths) two, omega (arith, start, long))

-- ---- at least one of any two

-- after one in which all is heard, or at first: starts within pi and lambda, but for a microtick, and lengths within lambda
pub record IsCalm (p : Values) (flutter : ℕ) (s : Spread) : Type 0 where
  pub start : s.starts + longest_micro p ≤ sharp_pi false p flutter + sharp_lambda false p flutter
  pub long : s.lengths ≡ sharp_lambda false p flutter

-- after one in which something was lost
pub record IsStirred (p : Values) (flutter : ℕ) (s : Spread) : Type 0 where
  pub start : s.starts + longest_micro p ≤ sharp_pi false p flutter + 3 * sharp_lambda false p flutter + 2 * cycle_change p + 2 * arrival_error p + 3 * longest_micro p
  pub long : s.lengths + longest_micro p ≡ 2 * sharp_lambda false p flutter

stirred_next : (p : Values) (flutter : ℕ) (s : Spread) → IsCalm p flutter s → IsStirred p flutter (next_lost_spread false p flutter s)
stirred_next p flutter s calm = record {
  start = begin s.starts s.lengths (sharp_pi false p flutter) (sharp_lambda false p flutter) (longest_micro p) (cycle_change p) (arrival_error p) calm.start calm.long;
  long = longer s.lengths (sharp_lambda false p flutter) (steady_error p flutter) (longest_micro p) (amount p name.pClusterDriftDamping * longest_micro p) (cycle_change p) calm.long (lambda_is p flutter);
}
  where
    begin : (s l pi lam q j e : ℕ) → s + q ≤ pi + lam → l ≡ lam → (s + l + (l + 2 * j) + 2 * e + 3 * q) + q ≤ pi + 3 * lam + 2 * j + 2 * e + 3 * q
    begin s l pi lam q j e a b = omega (arith, a, b)

    longer : (l lam e q c j : ℕ) → l ≡ lam → lam ≡ 2 * e + q + 2 * c + 2 * j → (l + (2 * e + 2 * c + 2 * j)) + q ≡ 2 * lam
    longer l lam e q c j a b = omega (arith, a, b)

calm_next : (p : Values) (flutter : ℕ) (s : Spread) → (s.lengths + longest_micro p) ≤ 2 * sharp_lambda false p flutter → IsCalm p flutter (next_lost_spread true p flutter s)
calm_next p flutter s le = record {
  start = begin s.lengths (sharp_lambda false p flutter) (longest_micro p) (cycle_change p) (arrival_error p) le;
  long = refl;
}
  where
    begin : (l lam q j e : ℕ) → l + q ≤ 2 * lam → ((l + 2 * j) + 2 * e + 3 * q) + q ≤ ((lam + 2 * j) + 2 * e + 3 * q) + lam
    begin l lam q j e a = omega (arith, a)

calm_long : (p : Values) (flutter : ℕ) (s : Spread) → IsCalm p flutter s → (s.lengths + longest_micro p) ≤ 2 * sharp_lambda false p flutter
calm_long p flutter s calm = step s.lengths (sharp_lambda false p flutter) (steady_error p flutter) (longest_micro p) (amount p name.pClusterDriftDamping * longest_micro p) (cycle_change p) calm.long (lambda_is p flutter)
  where
    step : (l lam e q c j : ℕ) → l ≡ lam → lam ≡ 2 * e + q + 2 * c + 2 * j → l + q ≤ 2 * lam
    step l lam e q c j a b = omega (arith, a, b)

stirred_long : (p : Values) (flutter : ℕ) (s : Spread) → IsStirred p flutter s → (s.lengths + longest_micro p) ≤ 2 * sharp_lambda false p flutter
stirred_long p flutter s stirred = omega (arith, stirred.long)

-- each is calm, or stirred and then all is heard in it
unfoldable pub Holds : (p : Values) (flutter : ℕ) (whole : ℕ → Bool) (k : ℕ) → Type 0
Holds p flutter whole k = IsCalm p flutter (lost_spread p flutter whole k) ⊎ (IsStirred p flutter (lost_spread p flutter whole k) × (whole k ≡ true))

first_calm : (p : Values) (flutter : ℕ) (whole : ℕ → Bool) → IsCalm p flutter (lost_spread p flutter whole zero)
unfolding lost_spread
first_calm p flutter whole = record {
  start = step (sharp_pi false p flutter) (sharp_lambda false p flutter) (steady_error p flutter) (longest_micro p) (amount p name.pClusterDriftDamping * longest_micro p) (cycle_change p) (lambda_is p flutter);
  long = refl;
}
  where
    step : (pi lam e q c j : ℕ) → lam ≡ 2 * e + q + 2 * c + 2 * j → pi + q ≤ pi + lam
    step pi lam e q c j is = omega (arith, is)

pub holds : (p : Values) (flutter : ℕ) (whole : ℕ → Bool) → ((k : ℕ) → (whole k ≡ true) ⊎ (whole (suc k) ≡ true)) → (k : ℕ) → Holds p flutter whole k
unfolding Holds
holds p flutter whole one zero = inl (first_calm p flutter whole)
holds p flutter whole one (suc k) = by (holds p flutter whole one k)
  where
    Calm : Spread → Type 0
    Calm s = IsCalm p flutter s

    Stirred : Spread → Type 0
    Stirred s = IsStirred p flutter s

    here : (b : Bool) → whole k ≡ b → lost_spread p flutter whole (suc k) ≡ next_lost_spread b p flutter (lost_spread p flutter whole k)
    here b is = next_is p flutter whole k b is

    calm_by : whole k ≡ true → (lost_spread p flutter whole k).lengths + longest_micro p ≤ 2 * sharp_lambda false p flutter → IsCalm p flutter (lost_spread p flutter whole (suc k))
    calm_by is le = subst (λ s. IsCalm p flutter s) (sym (here true is)) (calm_next p flutter (lost_spread p flutter whole k) le)

    stirred_by : whole k ≡ false → IsCalm p flutter (lost_spread p flutter whole k) → IsStirred p flutter (lost_spread p flutter whole (suc k))
    stirred_by is calm = subst (λ s. IsStirred p flutter s) (sym (here false is)) (stirred_next p flutter (lost_spread p flutter whole k) calm)

    then_heard : whole k ≡ false → (whole k ≡ true) ⊎ (whole (suc k) ≡ true) → whole (suc k) ≡ true
    then_heard is (inl was) = absurd (cc)
    then_heard is (inr next) = next

    by : IsCalm p flutter (lost_spread p flutter whole k) ⊎ (IsStirred p flutter (lost_spread p flutter whole k) × (whole k ≡ true))
        → IsCalm p flutter (lost_spread p flutter whole (suc k)) ⊎ (IsStirred p flutter (lost_spread p flutter whole (suc k)) × (whole (suc k) ≡ true))
    by (inl calm) = elim (cases_Bool (whole k)) [
      | inl is ↦ inl (calm_by is (calm_long p flutter (lost_spread p flutter whole k) calm))
      | inr is ↦ inr (stirred_by is calm, then_heard is (one k))
    ]
    by (inr (stirred, is)) = inl (calm_by is (stirred_long p flutter (lost_spread p flutter whole k) stirred))

calm_apart : (p : Values) (flutter : ℕ) (s : Spread) → IsCalm p flutter s → (precision_by p s.starts s.lengths ≤ every_second p flutter) × (s.starts + longest_micro p ≤ every_second p flutter)
calm_apart p flutter s calm = (
  step s.starts s.lengths (sharp_pi false p flutter) (sharp_lambda false p flutter) (longest_micro p) (cycle_change p) (arrival_error p) calm.start calm.long,
  also s.starts (sharp_pi false p flutter) (sharp_lambda false p flutter) (longest_micro p) (cycle_change p) (arrival_error p) calm.start,
)
  where
    step : (s l pi lam q j e : ℕ) → s + q ≤ pi + lam → l ≡ lam → s + l + (l + 2 * j) + 2 * q ≤ (pi + lam + (lam + 2 * j) + 2 * q) + 5 * lam + 2 * e + 2 * j
    step s l pi lam q j e a b = omega (arith, a, b)

    also : (s pi lam q j e : ℕ) → s + q ≤ pi + lam → s + q ≤ (pi + lam + (lam + 2 * j) + 2 * q) + 5 * lam + 2 * e + 2 * j
    also s pi lam q j e a = omega (arith, a)

stirred_apart : (p : Values) (flutter : ℕ) (s : Spread) → IsStirred p flutter s → (precision_by p s.starts s.lengths ≤ every_second p flutter) × (s.starts + longest_micro p ≤ every_second p flutter)
stirred_apart p flutter s stirred = (
  step s.starts s.lengths (sharp_pi false p flutter) (sharp_lambda false p flutter) (longest_micro p) (cycle_change p) (arrival_error p) stirred.start stirred.long,
  also s.starts (sharp_pi false p flutter) (sharp_lambda false p flutter) (steady_error p flutter) (longest_micro p) (amount p name.pClusterDriftDamping * longest_micro p) (cycle_change p) (arrival_error p) stirred.start (lambda_is p flutter),
)
  where
    step : (s l pi lam q j e : ℕ) → s + q ≤ pi + 3 * lam + 2 * j + 2 * e + 3 * q → l + q ≡ 2 * lam → s + l + (l + 2 * j) + 2 * q ≤ (pi + lam + (lam + 2 * j) + 2 * q) + 5 * lam + 2 * e + 2 * j
    step s l pi lam q j e a b = omega (arith, a, b)

    also : (s pi lam st q c j e : ℕ) → s + q ≤ pi + 3 * lam + 2 * j + 2 * e + 3 * q → lam ≡ 2 * st + q + 2 * c + 2 * j → s + q ≤ (pi + lam + (lam + 2 * j) + 2 * q) + 5 * lam + 2 * e + 2 * j
    also s pi lam st q c j e a b = omega (arith, a, b)

apart_at : (p : Values) (flutter : ℕ) (whole : ℕ → Bool) (k : ℕ) → Holds p flutter whole k
    → (precision_by p (lost_spread p flutter whole k).starts (lost_spread p flutter whole k).lengths ≤ every_second p flutter) × ((lost_spread p flutter whole k).starts + longest_micro p ≤ every_second p flutter)
unfolding Holds
apart_at p flutter whole k (inl calm) = calm_apart p flutter (lost_spread p flutter whole k) calm
apart_at p flutter whole k (inr (stirred, is)) = stirred_apart p flutter (lost_spread p flutter whole k) stirred

pub every_second_costs : EverySecondCosts
every_second_costs p flutter whole one k =
    ((apart_at p flutter whole k (holds p flutter whole one k)).0, (apart_at p flutter whole (suc k) (holds p flutter whole one (suc k))).1)
