-- What a burst over an odd cycle and the next even one costs.
use Rattle.std.proofs.Common.{◌≡◌, ℕ, suc, ◌+◌, ◌*◌, ◌≤◌, Bool, false, refl, ap, ◌∙◌, subst, arith}
use Rattle.std.proofs.lemmas.Bool.Decides.{nat_tests}
use Rattle.std.specs.Prelude.{max, nat_lt, if◌then◌else◌}
use Rattle.std.proofs.Math.Nat.{le-max_left, max-le}
use Rattle.fr_cluster.specs.Values.{Values, amount}
use Rattle.fr_cluster.specs.declared.names.ParamName.TheVariants as name
use Rattle.fr_bound.specs.Bounds.{arrival_error, cycle_change, longest_micro}
use Rattle.fr_bound.specs.SharpBounds.{odd_spread, precision_by, sharp_lambda, sharp_pi, sharp_precision, steady_error}
use Rattle.fr_bound.specs.SharpSpreads.{lost_lengths, lost_starts, IsSharplySettled}
use Rattle.fr_bound.specs.declared.settling.Spread.{Spread}
use Rattle.fr_precision.specs.Among.{both, crossing, poor_up_to, spread_through_losses, CrossingCosts}
use Rattle.fr_precision.specs.declared.kinds.Kinds.{Kinds}
use Rattle.fr_bound.specs.declared.judging.Heard.{Heard}
use Rattle.fr_bound.specs.declared.judging.Heard.TheVariants.{Clean, Poor}
use Rattle.fr_promise.proofs.HeardNumbers.{clean_again, lambda_alone}

max_is : (a b n : ℕ) → b ≤ a → a ≡ n → max a b ≡ n
max_is a b n le is =
    let up : max a b ≤ a = max-le (itself a) le in
    let down : a ≤ max a b = le-max_left a b in
    omega (arith, up, down, is)
  where
    itself : (m : ℕ) → m ≤ m
    itself m = omega arith

-- the same where so much is less than so much
less_is : (a b less n : ℕ) → b ≤ a → a + less ≡ n → max a b + less ≡ n
less_is a b less n le is = omega (arith, max_is a b a le refl, is)

-- the numbers of the first four double cycles
module _ (p : Values) (flutter : ℕ) where
  abbrev at : ℕ → Spread
  at k = spread_through_losses false p flutter (crossing 1) k

  long_one : (at 1).lengths ≡ lost_lengths p flutter (sharp_lambda false p flutter)
  unfolding spread_through_losses
  long_one = refl

  start_one : (at 1).starts ≡ lost_starts p (sharp_pi false p flutter) (sharp_lambda false p flutter)
  unfolding spread_through_losses
  start_one = refl

  long_two : (at 2).lengths ≡ lost_lengths p flutter (at 1).lengths
  unfolding spread_through_losses
  long_two = refl

  start_two : (at 2).starts ≡ odd_spread p (at 1).lengths + 2 * arrival_error p + 3 * longest_micro p
  unfolding spread_through_losses
  start_two = refl

  long_three : (at 3).lengths ≡ sharp_lambda false p flutter
  unfolding spread_through_losses
  long_three = refl

  start_three : (at 3).starts ≡ odd_spread p (at 2).lengths + 2 * arrival_error p + 3 * longest_micro p
  unfolding spread_through_losses
  start_three = refl

  start_four : (at 4).starts ≡ odd_spread p (at 3).lengths + 2 * arrival_error p + 3 * longest_micro p
  unfolding spread_through_losses
  start_four = refl

  -- from the third double cycle on nothing is lost
  not_under : (a b : ℕ) → b ≤ a → nat_lt a b ≡ false
  not_under a b le = grind (arith, nat_tests)

  clean_from : (count double : ℕ) → count ≤ double → poor_up_to count double ≡ Clean
  clean_from count double le = ap (λ (b : Bool). if b then Poor else Clean) (not_under double count le)

  same_of : (what : Kinds) (kind : Heard) → what.offsets ≡ kind → what.rates ≡ kind → what ≡ both kind
  same_of what kind offsets rates =
      ap (λ (h : Heard). both_of h what.rates) offsets ∙ ap (λ (h : Heard). both_of kind h) rates
    where
      both_of : Heard → Heard → Kinds
      both_of offsets rates = record { offsets = offsets; rates = rates }

  settled : (k : ℕ) → IsSharplySettled false p flutter (at (4 + k))
  settled k =
      let is : suc (suc (suc (suc k))) ≡ 4 + k = omega arith in
      let At : ℕ → Type 0 = λ n. IsSharplySettled false p flutter (at n) in
      subst At is
      (
      clean_again p flutter (crossing 1) (suc (suc k)) (clean_from 2 (suc (suc k)) (omega arith))
      (same_of (crossing 1 (suc (suc (suc k)))) Clean (clean_from 1 (suc (suc (suc k))) (omega arith)) (clean_from 2 (suc (suc (suc k))) (omega arith)))
      )

-- each as the first four double cycles have it: starts and lengths say more than the next starts do
pub crossing_costs : CrossingCosts
crossing_costs p flutter = (
  max_is (precision_by p (at p flutter 1).starts (at p flutter 1).lengths) ((at p flutter 2).starts + longest_micro p)
      (sharp_precision false p flutter + 4 * sharp_lambda false p flutter + 2 * arrival_error p + 2 * cycle_change p + longest_micro p)
      (
      first_less (at p flutter 1).starts (at p flutter 1).lengths (at p flutter 2).starts (sharp_lambda false p flutter) (steady_error p flutter) (longest_micro p) (amount p name.pClusterDriftDamping * longest_micro p) (cycle_change p)
      (arrival_error p) (lambda_alone p flutter) (start_one p flutter) (long_one p flutter) (start_two p flutter)
      )
      (
      first (at p flutter 1).starts (at p flutter 1).lengths (sharp_lambda false p flutter) (steady_error p flutter) (longest_micro p) (amount p name.pClusterDriftDamping * longest_micro p) (cycle_change p) (arrival_error p)
      (lambda_alone p flutter) (start_one p flutter) (long_one p flutter)
      ),
  less_is (precision_by p (at p flutter 2).starts (at p flutter 2).lengths) ((at p flutter 3).starts + longest_micro p) (5 * longest_micro p)
      (sharp_precision false p flutter + 5 * sharp_lambda false p flutter)
      (
      second_less (at p flutter 1).lengths (at p flutter 2).starts (at p flutter 2).lengths (at p flutter 3).starts (sharp_lambda false p flutter) (steady_error p flutter) (longest_micro p)
      (amount p name.pClusterDriftDamping * longest_micro p) (cycle_change p) (arrival_error p) (lambda_alone p flutter) (long_one p flutter) (start_two p flutter) (long_two p flutter) (start_three p flutter)
      )
      (
      second (at p flutter 1).lengths (at p flutter 2).starts (at p flutter 2).lengths (sharp_lambda false p flutter) (steady_error p flutter) (longest_micro p)
      (amount p name.pClusterDriftDamping * longest_micro p) (cycle_change p) (arrival_error p) (lambda_alone p flutter) (long_one p flutter) (start_two p flutter) (long_two p flutter)
      ),
  less_is (precision_by p (at p flutter 3).starts (at p flutter 3).lengths) ((at p flutter 4).starts + longest_micro p) (2 * longest_micro p)
      (sharp_precision false p flutter + 2 * sharp_lambda false p flutter)
      (
      third_less (at p flutter 1).lengths (at p flutter 2).lengths (at p flutter 3).starts (at p flutter 3).lengths (at p flutter 4).starts (sharp_lambda false p flutter) (steady_error p flutter) (longest_micro p)
      (amount p name.pClusterDriftDamping * longest_micro p) (cycle_change p) (arrival_error p) (lambda_alone p flutter) (long_one p flutter) (long_two p flutter) (start_three p flutter) (long_three p flutter)
      (start_four p flutter)
      )
      (
      third (at p flutter 1).lengths (at p flutter 2).lengths (at p flutter 3).starts (at p flutter 3).lengths (sharp_lambda false p flutter) (steady_error p flutter) (longest_micro p)
      (amount p name.pClusterDriftDamping * longest_micro p) (cycle_change p) (arrival_error p) (lambda_alone p flutter) (long_one p flutter) (long_two p flutter) (start_three p flutter) (long_three p flutter)
      ),
  settled p flutter,
)
  where
    first : (s l lam e q c j a : ℕ) → lam ≡ 2 * e + q + 2 * c + 2 * j → s ≡ ((lam + 2 * j) + 2 * a + 3 * q) + lam + (lam + 2 * j) + 2 * a + 3 * q → l ≡ lam + (2 * e + 2 * c + 2 * j)
        → s + l + (l + 2 * j) + 2 * q ≡ (((lam + 2 * j) + 2 * a + 3 * q) + lam + (lam + 2 * j) + 2 * q) + 4 * lam + 2 * a + 2 * j + q
    first s l lam e q c j a is start long = omega (arith, is, start, long)

    first_less : (s l t lam e q c j a : ℕ) → lam ≡ 2 * e + q + 2 * c + 2 * j → s ≡ ((lam + 2 * j) + 2 * a + 3 * q) + lam + (lam + 2 * j) + 2 * a + 3 * q → l ≡ lam + (2 * e + 2 * c + 2 * j)
        → t ≡ (l + 2 * j) + 2 * a + 3 * q → t + q ≤ s + l + (l + 2 * j) + 2 * q
    first_less s l t lam e q c j a is start long next = omega (arith, is, start, long, next)

    second : (k s l lam e q c j a : ℕ) → lam ≡ 2 * e + q + 2 * c + 2 * j → k ≡ lam + (2 * e + 2 * c + 2 * j) → s ≡ (k + 2 * j) + 2 * a + 3 * q → l ≡ k + (2 * e + 2 * c + 2 * j)
        → (s + l + (l + 2 * j) + 2 * q) + 5 * q ≡ (((lam + 2 * j) + 2 * a + 3 * q) + lam + (lam + 2 * j) + 2 * q) + 5 * lam
    second k s l lam e q c j a is before start long = omega (arith, is, before, start, long)

    second_less : (k s l t lam e q c j a : ℕ) → lam ≡ 2 * e + q + 2 * c + 2 * j → k ≡ lam + (2 * e + 2 * c + 2 * j) → s ≡ (k + 2 * j) + 2 * a + 3 * q → l ≡ k + (2 * e + 2 * c + 2 * j)
        → t ≡ (l + 2 * j) + 2 * a + 3 * q → t + q ≤ s + l + (l + 2 * j) + 2 * q
    second_less k s l t lam e q c j a is before start long next = omega (arith, is, before, start, long, next)

    third : (h k s l lam e q c j a : ℕ) → lam ≡ 2 * e + q + 2 * c + 2 * j → h ≡ lam + (2 * e + 2 * c + 2 * j) → k ≡ h + (2 * e + 2 * c + 2 * j) → s ≡ (k + 2 * j) + 2 * a + 3 * q → l ≡ lam
        → (s + l + (l + 2 * j) + 2 * q) + 2 * q ≡ (((lam + 2 * j) + 2 * a + 3 * q) + lam + (lam + 2 * j) + 2 * q) + 2 * lam
    third h k s l lam e q c j a is first before start long = omega (arith, is, first, before, start, long)

    third_less : (h k s l t lam e q c j a : ℕ) → lam ≡ 2 * e + q + 2 * c + 2 * j → h ≡ lam + (2 * e + 2 * c + 2 * j) → k ≡ h + (2 * e + 2 * c + 2 * j) → s ≡ (k + 2 * j) + 2 * a + 3 * q → l ≡ lam
        → t ≡ (l + 2 * j) + 2 * a + 3 * q → t + q ≤ s + l + (l + 2 * j) + 2 * q
    third_less h k s l t lam e q c j a is first before start long next = omega (arith, is, first, before, start, long, next)
