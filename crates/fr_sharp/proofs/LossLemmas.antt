-- What losses cost: the peak and the reach of so many double cycles in a row, and of every second one.
use Rattle.std.proofs.Common.{◌≡◌, ◌⊎◌, ◌∙◌, ℕ, zero, suc, ◌+◌, ◌*◌, ◌-◌, ◌<◌, ◌≤◌, Bool, true, false, inl, inr, refl, ap, sym, subst, arith}
use Rattle.std.specs.Prelude.{max}
use Rattle.std.proofs.Math.Nat.{le-max_left, le-max_right}
use Rattle.std.proofs.lemmas.Bool.Decides.{nat_tests}
use Rattle.fr_cluster.specs.Sane.{IsSane}
use Rattle.fr_cluster.specs.Values.{Values, amount}
use Rattle.fr_cluster.specs.declared.names.ParamName.TheVariants as name
use Rattle.fr_bound.specs.Bounds.{arrival_error, cycle_change, longest_micro}
use Rattle.fr_bound.specs.declared.judging.Heard.TheVariants as heard
use Rattle.fr_bound.specs.declared.settling.Spread.{Spread}
use Rattle.fr_bound.specs.SharpSpreads.{next_lost_spread}
use Rattle.fr_precision.specs.Among.{all_or_any, both, every_second, kinds_spread, lost_spread}
use Rattle.fr_sharp.specs.LossCosts.{apart_in_a_row, heard_behind, near_in_a_row, HearsEverySecond, IsBack, IsGreatest, IsGreatestEverySecond}
use Rattle.fr_sharp.specs.LossSteps.{heard_apart}
use Rattle.fr_sharp.specs.Losses.{lost_apart, SharpAfterTwoWhole}
use Rattle.fr_bound.specs.SharpBounds.{odd_spread, precision_by, sharp_lambda, sharp_pi, sharp_precision, wide_change}
use Rattle.fr_bound.specs.SharpSpreads.{sharply_near_in}
use Rattle.fr_promise.proofs.AmongNumbers.{heard_again, holds, next_is, Holds, IsCalm, IsStirred}
use Rattle.fr_promise.proofs.JoinBounds.{near_grows}
use Rattle.fr_promise.proofs.LossOrder.{added, always_wide, below_itself, lambda_by, lost_rises, through, whole_falls, IsBelow, IsWide}

-- ---- what is heard behind so many

pub lost_yet : (count n : ℕ) → n < count → heard_behind count n ≡ false
lost_yet count n less = grind (arith, nat_tests)

pub heard_then : (count n : ℕ) → count ≤ n → heard_behind count n ≡ true
heard_then count n le = grind (arith, nat_tests)

-- ---- numbers by spreads

abbrev Near : Values → Spread → ℕ
Near p s = sharply_near_in p s

abbrev pub Far : Values → Spread → ℕ
Far p s = precision_by p s.starts s.lengths

pub far_grows : (p : Values) (s t : Spread) → IsBelow s t → Far p s ≤ Far p t
far_grows p s t below = step s.starts s.lengths t.starts t.lengths (cycle_change p) (longest_micro p) below.start below.long
  where
    step : (s l t m j q : ℕ) → s ≤ t → l ≤ m → s + l + (l + 2 * j) + 2 * q ≤ t + m + (m + 2 * j) + 2 * q
    step s l t m j q a b = omega (arith, a, b)

pub starts_fit : (p : Values) (s t : Spread) → IsBelow s t → s.starts + longest_micro p ≤ Far p t
starts_fit p s t below = step s.starts t.starts t.lengths (cycle_change p) (longest_micro p) below.start
  where
    step : (s t m j q : ℕ) → s ≤ t → s + q ≤ t + m + (m + 2 * j) + 2 * q
    step s t m j q a = omega (arith, a)

greater_of : (a b c : ℕ) → a ≤ c → b ≤ c → max a b ≤ c
greater_of a b c one two = grind arith

pub apart_is : (p : Values) (flutter : ℕ) (whole : ℕ → Bool) (k : ℕ) → whole k ≡ true → lost_apart p flutter whole k ≡ heard_apart (both heard.Clean) p flutter (lost_spread p flutter whole k)
apart_is p flutter whole k is = ap (λ (s : Spread). max (Far p (lost_spread p flutter whole k)) (s.starts + longest_micro p)) (next_is p flutter whole k true is)

-- the same steps by what is heard
pub next_by : (all : Bool) (p : Values) (flutter : ℕ) (s : Spread) → kinds_spread (both (all_or_any all)) p flutter s ≡ next_lost_spread all p flutter s
next_by true p flutter s = refl
next_by false p flutter s = refl

pub apart_by_all : (p : Values) (flutter : ℕ) (whole : ℕ → Bool) (k : ℕ) → lost_apart p flutter whole k ≡ heard_apart (both (all_or_any (whole k))) p flutter (lost_spread p flutter whole k)
apart_by_all p flutter whole k =
    ap (λ (s : Spread). max (Far p (lost_spread p flutter whole k)) (s.starts + longest_micro p))
    (next_is p flutter whole k (whole k) refl ∙ sym (next_by (whole k) p flutter (lost_spread p flutter whole k)))

-- macroticks lie no further apart than a spread says that this one and the next one lie below
pub apart_under : (p : Values) (flutter : ℕ) (whole : ℕ → Bool) (k : ℕ) (t : Spread) → IsBelow (lost_spread p flutter whole k) t → IsBelow (lost_spread p flutter whole (suc k)) t
    → lost_apart p flutter whole k ≤ Far p t
apart_under p flutter whole k t here next =
    greater_of (Far p (lost_spread p flutter whole k)) ((lost_spread p flutter whole (suc k)).starts + longest_micro p) (Far p t) (far_grows p (lost_spread p flutter whole k) t here)
    (starts_fit p (lost_spread p flutter whole (suc k)) t next)

pub far_within : (p : Values) (flutter : ℕ) (whole : ℕ → Bool) (k : ℕ) → Far p (lost_spread p flutter whole k) ≤ lost_apart p flutter whole k
far_within p flutter whole k = le-max_left (Far p (lost_spread p flutter whole k)) ((lost_spread p flutter whole (suc k)).starts + longest_micro p)

next_within : (p : Values) (flutter : ℕ) (whole : ℕ → Bool) (k : ℕ) → (lost_spread p flutter whole (suc k)).starts + longest_micro p ≤ lost_apart p flutter whole k
next_within p flutter whole k = le-max_right (Far p (lost_spread p flutter whole k)) ((lost_spread p flutter whole (suc k)).starts + longest_micro p)

-- ---- back in sharp sync

pub sharp_after_two_whole : SharpAfterTwoWhole
sharp_after_two_whole p flutter whole passed first second third =
    let now = heard_again p flutter whole passed first second in
    let later = heard_again p flutter whole (suc passed) second third in
    let pi = sharp_pi false p flutter in
    let Apart : ℕ → ℕ → ℕ → Type 0 = λ s l n. max (precision_by p s l) (n + longest_micro p) ≡ sharp_precision false p flutter in
    let By_next : ℕ → Type 0 = λ n. Apart pi (sharp_lambda false p flutter) n in
    let By_lengths : ℕ → Type 0 = λ l. Apart pi l (lost_spread p flutter whole (suc (suc (suc passed)))).starts in
    let By_starts : ℕ → Type 0 = λ s. Apart s (lost_spread p flutter whole (suc (suc passed))).lengths (lost_spread p flutter whole (suc (suc (suc passed)))).starts in
    subst By_starts (sym now.1) (subst By_lengths (sym now.0) (subst By_next (sym later.1) (settled pi (sharp_lambda false p flutter) (odd_spread p (sharp_lambda false p flutter)) (longest_micro p))))
  where
    settled : (s l o q : ℕ) → max (s + l + o + 2 * q) (s + q) ≡ s + l + o + 2 * q
    settled s l o q = grind arith

-- ---- in a row: the spread is widest behind the last that loses frames

module _ (p : Values) (flutter : ℕ) where
  abbrev at : ℕ → ℕ → Spread
  at count n = lost_spread p flutter (heard_behind count) n

  rises : (count n more : ℕ) → n + more ≤ count → IsBelow (at count n) (at count (n + more))
  rises count n zero le =
      let same : n ≡ n + 0 = omega arith in
      let At : ℕ → Type 0 = λ m. IsBelow (at count n) (at count m) in
      subst At same (below_itself (at count n))
  rises count n (suc more) le =
      let same : suc (n + more) ≡ n + suc more = omega arith in
      let At : ℕ → Type 0 = λ m. IsBelow (at count n) (at count m) in
      let next : at count (suc (n + more)) ≡ next_lost_spread false p flutter (at count (n + more)) =
      next_is p flutter (heard_behind count) (n + more) false (lost_yet count (n + more) (omega (arith, le))) in
      let Over : Spread → Type 0 = λ s. IsBelow (at count n) s in
      subst At same
      (
      subst Over (sym next)
      (through (at count n) (at count (n + more)) (next_lost_spread false p flutter (at count (n + more))) (rises count n more (omega (arith, le))) (lost_rises p flutter (at count (n + more))))
      )

  falls : (count more : ℕ) → IsBelow (at count (count + more)) (at count count)
  falls count zero =
      let same : count ≡ count + 0 = omega arith in
      let At : ℕ → Type 0 = λ m. IsBelow (at count m) (at count count) in
      subst At same (below_itself (at count count))
  falls count (suc more) =
      let same : suc (count + more) ≡ count + suc more = omega arith in
      let At : ℕ → Type 0 = λ m. IsBelow (at count m) (at count count) in
      let next : at count (suc (count + more)) ≡ next_lost_spread true p flutter (at count (count + more)) =
      next_is p flutter (heard_behind count) (count + more) true (heard_then count (count + more) (omega arith)) in
      let Under : Spread → Type 0 = λ s. IsBelow s (at count count) in
      subst At same
      (
      subst Under (sym next)
      (
      through (next_lost_spread true p flutter (at count (count + more))) (at count (count + more)) (at count count)
      (whole_falls p flutter (at count (count + more)) (always_wide p flutter (heard_behind count) (count + more))) (falls count more)
      )
      )

  order : (n count : ℕ) → (n ≤ count) ⊎ (count ≤ n)
  order n count = grind arith

  pub under : (count n : ℕ) → IsBelow (at count n) (at count count)
  under count n = elim (order n count) [
    | inl before ↦
        let whole : n + (count - n) ≡ count = omega (arith, before) in
        let At : ℕ → Type 0 = λ m. IsBelow (at count n) (at count m) in
        subst At whole (rises count n (count - n) (omega (arith, whole)))
    | inr behind ↦
        let whole : count + (n - count) ≡ n = omega (arith, behind) in
        let At : ℕ → Type 0 = λ m. IsBelow (at count m) (at count count) in
        subst At whole (falls count (n - count))
  ]

  pub peak_behind : (count : ℕ) → IsGreatest (apart_in_a_row p flutter count) (heard_apart (both heard.Clean) p flutter (at count count))
  peak_behind count =
      let is = apart_is p flutter (heard_behind count) count (heard_then count count (itself count)) in
      record {
        greatest = λ n.
            let one = apart_under p flutter (heard_behind count) n (at count count) (under count n) (under count (suc n)) in
            let other = far_within p flutter (heard_behind count) count in
            up_to (lost_apart p flutter (heard_behind count) n) (Far p (at count count)) (lost_apart p flutter (heard_behind count) count) (heard_apart (both heard.Clean) p flutter (at count count)) one other is;
        place = count;
        reached = is;
      }
    where
      itself : (n : ℕ) → n ≤ n
      itself n = omega arith

      up_to : (a b c d : ℕ) → a ≤ b → b ≤ c → c ≡ d → a ≤ d
      up_to a b c d h k is = omega (arith, h, k, is)

  pub reach_behind : (count : ℕ) → IsSane p → IsGreatest (near_in_a_row p flutter count) (Near p (at count count))
  reach_behind count sane = record {
    greatest = λ n. let below = under count n in near_grows p (at count n).starts (at count n).lengths (at count count).starts (at count count).lengths sane below.start below.long;
    place = count;
    reached = refl;
  }

  -- ---- the way back

  some_more : 1 ≤ added p flutter
  some_more = step flutter (longest_micro p) (wide_change p) (amount p name.pClusterDriftDamping * longest_micro p) (cycle_change p) (two p)
    where
      two : (p : Values) → 2 ≤ longest_micro p
      two p = omega arith

      step : (f q w c j : ℕ) → 2 ≤ q → 1 ≤ 2 * (f + (q - 1) + w) + 2 * c + 2 * j
      step f q w c j two = omega (arith, two)

  some_micro : 1 ≤ longest_micro p
  some_micro = omega arith

  above : (a b c : ℕ) → a < b → b ≤ c → a < c
  above a b c h k = omega (arith, h, k)

  -- where the next starts come behind frames that were lost
  lost_before : (count n : ℕ) → n < count → sharp_precision false p flutter < apart_in_a_row p flutter count n
  lost_before count n less =
      let s : Spread = at count n in
      let wide = always_wide p flutter (heard_behind count) n in
      let next : (at count (suc n)).starts ≡ (next_lost_spread false p flutter s).starts = ap (λ (t : Spread). t.starts) (next_is p flutter (heard_behind count) n false (lost_yet count n less)) in
      above (sharp_precision false p flutter) ((at count (suc n)).starts + longest_micro p) (apart_in_a_row p flutter count n)
      (step s.starts s.lengths (sharp_lambda false p flutter) (cycle_change p) (arrival_error p) (longest_micro p) (at count (suc n)).starts next wide.long wide.start some_micro) (next_within p flutter (heard_behind count) n)
    where
      step : (s l lam j e q t : ℕ) → t ≡ s + l + (l + 2 * j) + 2 * e + 3 * q → lam ≤ l → (l + 2 * j) + 2 * e + 3 * q ≤ s → 1 ≤ q
          → ((lam + 2 * j) + 2 * e + 3 * q) + lam + (lam + 2 * j) + 2 * q < t + q
      step s l lam j e q t is long start some = omega (arith, is, long, start, some)

  -- in the first double cycle in which all is heard again
  first_heard : (count : ℕ) → sharp_precision false p flutter < apart_in_a_row p flutter (suc count) (suc count)
  first_heard count =
      let s : Spread = at (suc count) count in
      let t : Spread = at (suc count) (suc count) in
      let wide = always_wide p flutter (heard_behind (suc count)) count in
      let wide_too = always_wide p flutter (heard_behind (suc count)) (suc count) in
      let next : t ≡ next_lost_spread false p flutter s = next_is p flutter (heard_behind (suc count)) count false (lost_yet (suc count) count (omega arith)) in
      above (sharp_precision false p flutter) (Far p t) (apart_in_a_row p flutter (suc count) (suc count))
      (
      step s.starts s.lengths (sharp_lambda false p flutter) (cycle_change p) (arrival_error p) (longest_micro p) t.starts t.lengths (ap (λ (u : Spread). u.starts) next) wide.long wide.start wide_too.long
      some_micro
      )
      (far_within p flutter (heard_behind (suc count)) (suc count))
    where
      step : (s l lam j e q t m : ℕ) → t ≡ s + l + (l + 2 * j) + 2 * e + 3 * q → lam ≤ l → (l + 2 * j) + 2 * e + 3 * q ≤ s → lam ≤ m → 1 ≤ q
          → ((lam + 2 * j) + 2 * e + 3 * q) + lam + (lam + 2 * j) + 2 * q < t + m + (m + 2 * j) + 2 * q
      step s l lam j e q t m is long start longer some = omega (arith, is, long, start, longer, some)

  -- and in the one behind it
  next_heard : (count : ℕ) → sharp_precision false p flutter < apart_in_a_row p flutter (suc count) (suc (suc count))
  next_heard count =
      let s : Spread = at (suc count) count in
      let t : Spread = at (suc count) (suc count) in
      let u : Spread = at (suc count) (suc (suc count)) in
      let wide = always_wide p flutter (heard_behind (suc count)) count in
      let wide_too = always_wide p flutter (heard_behind (suc count)) (suc (suc count)) in
      let next : t.lengths ≡ s.lengths + added p flutter =
      ap (λ (x : Spread). x.lengths) (next_is p flutter (heard_behind (suc count)) count false (lost_yet (suc count) count (omega arith))) in
      let last : u.starts ≡ odd_spread p t.lengths + 2 * arrival_error p + 3 * longest_micro p =
      ap (λ (x : Spread). x.starts) (next_is p flutter (heard_behind (suc count)) (suc count) true (heard_then (suc count) (suc count) (omega arith))) in
      above (sharp_precision false p flutter) (Far p u) (apart_in_a_row p flutter (suc count) (suc (suc count)))
      (
      step s.lengths (sharp_lambda false p flutter) (added p flutter) (cycle_change p) (arrival_error p) (longest_micro p) t.lengths u.starts u.lengths next last wide.long wide_too.long some_more
      )
      (far_within p flutter (heard_behind (suc count)) (suc (suc count)))
    where
      step : (l lam x j e q t u m : ℕ) → t ≡ l + x → u ≡ (t + 2 * j) + 2 * e + 3 * q → lam ≤ l → lam ≤ m → 1 ≤ x
          → ((lam + 2 * j) + 2 * e + 3 * q) + lam + (lam + 2 * j) + 2 * q < u + m + (m + 2 * j) + 2 * q
      step l lam x j e q t u m is last long longer some = omega (arith, is, last, long, longer, some)

  back_later : (count n : ℕ) → count + 2 ≤ n → apart_in_a_row p flutter count n ≡ sharp_precision false p flutter
  back_later count n le =
      let m : ℕ = n - 2 in
      let first : count ≤ m = omega (arith, le) in
      let same : suc (suc m) ≡ n = omega (arith, le) in
      let At : ℕ → Type 0 = λ k. apart_in_a_row p flutter count k ≡ sharp_precision false p flutter in
      subst At same
      (
      sharp_after_two_whole p flutter (heard_behind count) m (heard_then count m first) (heard_then count (suc m) (omega (arith, first)))
      (heard_then count (suc (suc m)) (omega (arith, first)))
      )

  back_before : (count n : ℕ) → n < suc count + 2 → sharp_precision false p flutter < apart_in_a_row p flutter (suc count) n
  back_before count n less = elim (splits n count less) [
    | inl before ↦ lost_before (suc count) n before
    | inr (inl here) ↦ subst (λ (m : ℕ). sharp_precision false p flutter < apart_in_a_row p flutter (suc count) m) here (first_heard count)
    | inr (inr next) ↦ subst (λ (m : ℕ). sharp_precision false p flutter < apart_in_a_row p flutter (suc count) m) next (next_heard count)
  ]
    where
      splits : (n count : ℕ) → n < suc count + 2 → (n < suc count) ⊎ ((suc count ≡ n) ⊎ (suc (suc count) ≡ n))
      splits n count less = grind arith

  pub back_behind : (count : ℕ) → 1 ≤ count → IsBack p flutter count (count + 2)
  back_behind zero some = absurd (omega (arith, some))
  back_behind (suc count) some = record { since = back_later (suc count); before = back_before count }

-- ---- every second double cycle

-- the widest: lost, heard, lost
pub every_other : ℕ → Bool
every_other zero = false
every_other (suc zero) = true
every_other (suc (suc n)) = every_other n

hears_every_other : HearsEverySecond every_other
unfolding every_other
hears_every_other zero = inr refl
hears_every_other (suc zero) = inl refl
hears_every_other (suc (suc n)) = hears_every_other n

module _ (p : Values) (flutter : ℕ) where
  abbrev pub widest : Spread
  widest = next_lost_spread false p flutter (next_lost_spread true p flutter (next_lost_spread false p flutter (record { starts = sharp_pi false p flutter; lengths = sharp_lambda false p flutter })))

  pub widest_is : lost_spread p flutter every_other 3 ≡ widest
  unfolding lost_spread every_other
  widest_is = refl

  heard_fourth : every_other 3 ≡ true
  unfolding every_other
  heard_fourth = refl

  widest_starts : widest.starts + longest_micro p ≡ sharp_pi false p flutter + 3 * sharp_lambda false p flutter + 2 * cycle_change p + 2 * arrival_error p + 3 * longest_micro p
  widest_starts = step (sharp_lambda false p flutter) (added p flutter) (cycle_change p) (arrival_error p) (longest_micro p) (lambda_by p flutter)
    where
      step : (lam x j e q : ℕ) → lam ≡ x + q
          → ((((lam + x) + 2 * j) + 2 * e + 3 * q) + lam + (lam + 2 * j) + 2 * e + 3 * q) + q ≡ ((lam + 2 * j) + 2 * e + 3 * q) + 3 * lam + 2 * j + 2 * e + 3 * q
      step lam x j e q is = omega (arith, is)

  widest_lengths : widest.lengths + longest_micro p ≡ 2 * sharp_lambda false p flutter
  widest_lengths = step (sharp_lambda false p flutter) (added p flutter) (longest_micro p) (lambda_by p flutter)
    where
      step : (lam x q : ℕ) → lam ≡ x + q → (lam + x) + q ≡ 2 * lam
      step lam x q is = omega (arith, is)

  calm_under : (s : Spread) → IsCalm p flutter s → IsBelow s widest
  calm_under s calm = record {
    start = begin s.starts widest.starts (sharp_pi false p flutter) (sharp_lambda false p flutter) (longest_micro p) (cycle_change p) (arrival_error p) calm.start widest_starts;
    long = longer s.lengths widest.lengths (sharp_lambda false p flutter) (added p flutter) (longest_micro p) calm.long widest_lengths (lambda_by p flutter);
  }
    where
      begin : (s t pi lam q j e : ℕ) → s + q ≤ pi + lam → t + q ≡ pi + 3 * lam + 2 * j + 2 * e + 3 * q → s ≤ t
      begin s t pi lam q j e a b = omega (arith, a, b)

      longer : (l m lam x q : ℕ) → l ≡ lam → m + q ≡ 2 * lam → lam ≡ x + q → l ≤ m
      longer l m lam x q a b c = omega (arith, a, b, c)

  stirred_under : (s : Spread) → IsStirred p flutter s → IsBelow s widest
  stirred_under s stirred = record {
    start = begin s.starts widest.starts (sharp_pi false p flutter) (sharp_lambda false p flutter) (longest_micro p) (cycle_change p) (arrival_error p) stirred.start widest_starts;
    long = longer s.lengths widest.lengths (sharp_lambda false p flutter) (longest_micro p) stirred.long widest_lengths;
  }
    where
      begin : (s t pi lam q j e : ℕ) → s + q ≤ pi + 3 * lam + 2 * j + 2 * e + 3 * q → t + q ≡ pi + 3 * lam + 2 * j + 2 * e + 3 * q → s ≤ t
      begin s t pi lam q j e a b = omega (arith, a, b)

      longer : (l m lam q : ℕ) → l + q ≡ 2 * lam → m + q ≡ 2 * lam → l ≤ m
      longer l m lam q a b = omega (arith, a, b)

  held_under : (whole : ℕ → Bool) (k : ℕ) → Holds p flutter whole k → IsBelow (lost_spread p flutter whole k) widest
  unfolding Holds
  held_under whole k (inl calm) = calm_under (lost_spread p flutter whole k) calm
  held_under whole k (inr (stirred, is)) = stirred_under (lost_spread p flutter whole k) stirred

  every_under : (whole : ℕ → Bool) → HearsEverySecond whole → (k : ℕ) → IsBelow (lost_spread p flutter whole k) widest
  every_under whole every k = held_under whole k (holds p flutter whole every k)

  pub every_peak : IsGreatestEverySecond (lost_apart p flutter) (heard_apart (both heard.Clean) p flutter widest)
  every_peak = record {
    greatest = λ whole every k.
        let one = apart_under p flutter whole k widest (every_under whole every k) (every_under whole every (suc k)) in
        let other = le-max_left (Far p widest) ((next_lost_spread true p flutter widest).starts + longest_micro p) in
        up_to (lost_apart p flutter whole k) (Far p widest) (heard_apart (both heard.Clean) p flutter widest) one other;
    heard = every_other;
    every = hears_every_other;
    place = 3;
    reached = apart_is p flutter every_other 3 heard_fourth ∙ ap (heard_apart (both heard.Clean) p flutter) widest_is;
  }
    where
      up_to : (a b c : ℕ) → a ≤ b → b ≤ c → a ≤ c
      up_to a b c h k = omega (arith, h, k)

  pub every_reach : IsSane p → IsGreatestEverySecond (λ whole double. sharply_near_in p (lost_spread p flutter whole double)) (sharply_near_in p widest)
  every_reach sane = record {
    greatest = λ whole every k.
        let s : Spread = lost_spread p flutter whole k in
        let below = every_under whole every k in
        near_grows p s.starts s.lengths widest.starts widest.lengths sane below.start below.long;
    heard = every_other;
    every = hears_every_other;
    place = 3;
    reached = ap (Near p) widest_is;
  }

  -- it is what a loss adds to the sharper precision, and lambda
  pub every_peak_is : heard_apart (both heard.Clean) p flutter widest ≡ every_second p flutter
  every_peak_is =
      step widest.starts widest.lengths (sharp_pi false p flutter) (sharp_lambda false p flutter) (added p flutter) (cycle_change p) (arrival_error p) (longest_micro p) widest_starts widest_lengths (lambda_by p flutter)
      (ends (Far p widest) ((next_lost_spread true p flutter widest).starts + longest_micro p) (starts_fit p (next_lost_spread true p flutter widest) widest (whole_falls p flutter widest (subst (IsWide p flutter) widest_is (always_wide p flutter every_other 3)))))
    where
      ends : (a b : ℕ) → b ≤ a → max a b ≡ a
      ends a b le = grind arith

      step : (s l pi lam x j e q : ℕ) {m : ℕ} → s + q ≡ pi + 3 * lam + 2 * j + 2 * e + 3 * q → l + q ≡ 2 * lam → lam ≡ x + q → m ≡ s + l + (l + 2 * j) + 2 * q
          → m ≡ (pi + lam + (lam + 2 * j) + 2 * q) + 5 * lam + 2 * e + 2 * j
      step s l pi lam x j e q a b c d = omega (arith, a, b, c, d)
