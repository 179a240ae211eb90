-- How long clocks take until they are in sync is answered, in the older sense and in the sharper one.
use Rattle.std.proofs.Common.{◌≡◌, ℕ, ℤ, zero, suc, pos, ◌<◌, ◌≤◌, ◌≤ℤ◌, ◌⊎◌, inl, inr, Bool, true, false, Option, Some, None, refl, subst, arith}
use Rattle.std.specs.Prelude.{max, ◌==◌}
use Rattle.std.proofs.lemmas.Bool.Decides.{nat_tests}
use Rattle.std.proofs.lemmas.Int.{ints}
use Rattle.fr_cluster.specs.Values.{Values}
use Rattle.fr_bound.specs.Bounds.{lambda_of, pi_of}
use Rattle.fr_bound.specs.Checks.{left_of}
use Rattle.fr_bound.specs.Settling.{IsPeakTo, IsSettleVerdict, IsSettled, apart_in, most_stated, next_spread, settle_holds_of, settle_right_of, spread_after}
use Rattle.fr_bound.specs.declared.settling.Settling.{Settling}
use Rattle.fr_bound.specs.declared.settling.Spread.{Spread}
use Rattle.fr_bound.proofs.Settled.{peak_first, peak_next, settled_soon}
use Rattle.fr_bound.specs.SharpBounds.{sharp_lambda, sharp_pi}
use Rattle.fr_bound.specs.SharpChecks.{sharp_left_of, sharp_right_of}
use Rattle.fr_bound.specs.SharpSpreads.{IsSharplySettled}
use Rattle.fr_precision.specs.SharpSettling.{sharp_spread_after}
use Rattle.fr_promise.specs.SharpWay.{IsGreatestTo, IsSharpWay, IsWayVerdict, SettlesSharplyAt, apart_after, near_after, way_holds_of}
use Rattle.fr_promise.specs.declared.way.SharpWay.{SharpWay}
use Rattle.fr_promise.proofs.WayLemmas.{greatest_first, greatest_next, settled_at_last, settles_soon}
use Rattle.fr_answer.specs.SettleAnswer.{AreSharpWays, IsSettlingFor}

-- ---- the least number of which something holds that can be tested

abbrev IsLeast : (ℕ → Type 0) → ℕ → Type 0
IsLeast P n = P n × ((m : ℕ) → m < n → P m → ⊥)

least_or_none : (P : ℕ → Type 0) → ((n : ℕ) → P n ⊎ (P n → ⊥)) → (n : ℕ) → ((m : ℕ) × IsLeast P m) ⊎ ((m : ℕ) → m < n → P m → ⊥)
least_or_none P test zero = inr (λ m less is. absurd (omega (arith, less)))
least_or_none P test (suc n) = elim (least_or_none P test n) [
  | inl found ↦ inl found
  | inr none ↦ elim (test n) [
    | inl is ↦ inl (n, (is, none))
    | inr never ↦ inr (λ m less is. elim (splits m n less) [
      | inl before ↦ none m before is
      | inr same ↦ never (subst P same is)
    ])
  ]
] where
  splits : (k n : ℕ) → k < suc n → (k < n) ⊎ (k ≡ n)
  splits k n le = grind arith

least : (P : ℕ → Type 0) → ((n : ℕ) → P n ⊎ (P n → ⊥)) → (n : ℕ) → P n → (m : ℕ) × IsLeast P m
least P test n is = elim (least_or_none P test n) [
  | inl found ↦ found
  | inr none ↦ (n, (is, none))
]

-- two equations of numbers can be tested
both_or_not : (a b c d : ℕ) → ((a ≡ b) × (c ≡ d)) ⊎ ((a ≡ b) × (c ≡ d) → ⊥)
both_or_not a b c d = by (a == b) refl (c == d) refl
  where
    by : (x : Bool) → (a == b) ≡ x → (y : Bool) → (c == d) ≡ y → ((a ≡ b) × (c ≡ d)) ⊎ ((a ≡ b) × (c ≡ d) → ⊥)
    by true one true two = inl (grind (arith, nat_tests), grind (arith, nat_tests))
    by true one false two = inr (λ both. let same = both.1 in grind (arith, nat_tests))
    by false one y two = inr (λ both. let same = both.0 in grind (arith, nat_tests))

-- ---- the first of some checks that fails

abbrev IsFirstFailure : (ℕ → Bool) → ℕ → ℕ → Type 0
IsFirstFailure holds most number = (1 ≤ number) × (number ≤ most) × (holds number ≡ false) × ((k : ℕ) → 1 ≤ k → k < number → holds k ≡ true)

failure_or_none : (holds : ℕ → Bool) (most : ℕ) → ((k : ℕ) → 1 ≤ k → k ≤ most → holds k ≡ true) ⊎ ((number : ℕ) × IsFirstFailure holds most number)
failure_or_none holds zero = inl (λ k from to. absurd (omega (arith, from, to)))
failure_or_none holds (suc n) = elim (failure_or_none holds n) [
  | inl all ↦ by (holds (suc n)) refl all
  | inr found ↦ inr (found.0, (found.1.0, let to = found.1.1 in omega (arith, to), found.1.2, found.1.3))
] where
  splits : (k : ℕ) → k ≤ suc n → (k ≤ n) ⊎ (suc n ≡ k)
  splits k le = grind arith

  by : (b : Bool) → holds (suc n) ≡ b → ((k : ℕ) → 1 ≤ k → k ≤ n → holds k ≡ true) → ((k : ℕ) → 1 ≤ k → k ≤ suc n → holds k ≡ true) ⊎ ((number : ℕ) × IsFirstFailure holds (suc n) number)
  by true is all = inl (λ k from to. elim (splits k to) [
    | inl before ↦ all k from before
    | inr same ↦ subst (λ (m : ℕ). holds m ≡ true) same is
  ])
  by false is all = inr (suc n, (omega arith, omega arith, is, λ k from less. all k from (omega (arith, less))))

-- ---- in the older sense

some_verdict : (p : Values) (peak : ℕ) → (failed : Option (ℕ × ℤ × ℤ)) × IsSettleVerdict p peak failed
some_verdict p peak = elim (failure_or_none (λ k. settle_holds_of k peak p) 5) [
  | inl all ↦ (None, all)
  | inr found ↦ (
    Some (found.0, pos (left_of found.0 p), pos (settle_right_of found.0 peak p)),
    record { from = found.1.0; to = found.1.1; fails = found.1.2; earlier = found.1.3; left_is = refl; right_is = refl },
  )
]

some_peak : (p : Values) (start rate double : ℕ) → (peak : ℕ) × IsPeakTo p start rate double peak
unfolding spread_after
some_peak p start rate zero = (apart_in p (spread_after p start rate 0), peak_first p start rate)
some_peak p start rate (suc double) =
    let so_far = some_peak p start rate double in
    let s : Spread = spread_after p start rate double in
    (max so_far.0 (apart_in p (next_spread p s)), peak_next p start rate double so_far.0 s (next_spread p s) so_far.1 refl refl)

natural : (n : ℕ) → pos 0 ≤ℤ pos n
natural n = omega (arith, ints)

pub some_settling : (p : Values) (start rate : ℕ) → start ≤ most_stated → rate ≤ most_stated → (s : Settling) × IsSettlingFor p start rate s
some_settling p start rate from to =
    let P : ℕ → Type 0 = λ n. IsSettled p (spread_after p start rate n) in
    let double = least P (λ n. both_or_not (spread_after p start rate n).lengths (lambda_of p) (spread_after p start rate n).starts (pi_of p)) 83 (settled_soon p start rate from to) in
    let peak = some_peak p start rate double.0 in
    let verdict = some_verdict p peak.0 in (
      record { doubles = double.0; peak = pos peak.0; failed = verdict.0 },
      record { settles = record { settled = double.1.0; first = double.1.1 }; peak = peak.1; from = natural peak.0; failed = verdict.1 },
    )

-- ---- and in the sharper one

some_greatest : (f : ℕ → ℕ) (n : ℕ) → (most : ℕ) × IsGreatestTo f n most
some_greatest f zero = (f 0, greatest_first f (f 0) refl)
some_greatest f (suc n) =
    let so_far = some_greatest f n in
    (max so_far.0 (f (suc n)), greatest_next f n (suc n) so_far.0 (f (suc n)) (max so_far.0 (f (suc n))) refl so_far.1 refl refl)

some_way_verdict : (p : Values) (flutter doubles reach : ℕ) → (failed : Option (ℕ × ℤ × ℤ)) × IsWayVerdict p flutter doubles reach failed
some_way_verdict p flutter doubles reach = elim (failure_or_none (λ k. way_holds_of k flutter doubles reach p) 5) [
  | inl all ↦ (None, all)
  | inr found ↦ (
    Some (found.0, pos (sharp_left_of found.0 p), pos (sharp_right_of found.0 flutter reach p)),
    record { from = found.1.0; to = found.1.1; fails = found.1.2; earlier = found.1.3; left_is = refl; right_is = refl },
  )
]

some_way : (beside : Bool) (p : Values) (flutter start rate : ℕ) → start ≤ most_stated → rate ≤ most_stated → (way : SharpWay) × IsSharpWay beside p flutter start rate way
some_way beside p flutter start rate from to =
    let P : ℕ → Type 0 = λ n. IsSharplySettled beside p flutter (sharp_spread_after beside p flutter start rate n) in
    let tested : (n : ℕ) → P n ⊎ (P n → ⊥) = λ n. both_or_not (sharp_spread_after beside p flutter start rate n).lengths (sharp_lambda beside p flutter) (sharp_spread_after beside p flutter start rate n).starts (sharp_pi beside p flutter) in
    let double = least P tested 82 (settled_at_last beside p flutter start rate from to) in
    let settles : SettlesSharplyAt beside p flutter start rate double.0 = record { settled = double.1.0; first = double.1.1 } in
    let peak = some_greatest (apart_after beside p flutter start rate) double.0 in
    let reach = some_greatest (near_after beside p flutter start rate) double.0 in
    let verdict = some_way_verdict p flutter double.0 reach.0 in (
      record { doubles = double.0; peak = peak.0; reach = reach.0; failed = verdict.0 },
      record {
        leads = record { settles = settles; soon = settles_soon beside p flutter start rate double.0 from to settles; peak_is = peak.1; reach_is = reach.1 };
        verdict = verdict.1;
      },
    )

pub some_ways : (p : Values) (start rate flutter : ℕ) → start ≤ most_stated → rate ≤ most_stated → (ways : SharpWay × SharpWay) × AreSharpWays p start rate flutter ways
some_ways p start rate flutter from to =
    let alone = some_way false p flutter start rate from to in
    let beside = some_way true p flutter start rate from to in
    ((alone.0, beside.0), record { alone = alone.1; beside = beside.1 })
