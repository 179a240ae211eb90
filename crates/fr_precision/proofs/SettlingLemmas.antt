-- Clocks that begin apart come to rest in sharp sync.
use Rattle.std.proofs.Common.{◌≡◌, ℕ, zero, suc, ◌+◌, ◌*◌, ◌-◌, ◌<◌, ◌≤◌, Bool, true, false, refl, ap, ◌∙◌, subst, arith, inl, inr}
use Rattle.std.specs.Prelude.{max, ◌/◌, ◌^◌}
use Rattle.std.proofs.Math.Nat.{le-max_right, max-le}
use Rattle.std.proofs.lemmas.Bool.{cases_order}
use Rattle.fr_cluster.specs.Values.{Values, amount}
use Rattle.fr_cluster.specs.Sane.{IsSane}
use Rattle.fr_cluster.specs.declared.names.ParamName.TheVariants as name
use Rattle.fr_bound.specs.declared.settling.Spread.{Spread}
use Rattle.fr_bound.specs.Bounds.{arrival_error, cycle_change, lambda_of, longest_micro, pi_of, precision_of}
use Rattle.fr_bound.proofs.Halving.{halved, halved_no_more, halved_to_none}
use Rattle.fr_bound.specs.SharpBounds.{odd_spread, sharp_lambda, sharp_pi, steady_error, wide_change}
use Rattle.fr_bound.specs.SharpSpreads.{next_sharp_spread, sharply_apart_in, sharply_near_in}
use Rattle.fr_bound.specs.SharpSpreads.{first_sharp_spread}
use Rattle.fr_precision.specs.SharpSettling.{sharp_spread_after, AloneSettlesSoon, BesideSettlesSoon, FitsOlder, NextSpreadDraws, NextStartsFit, OlderWayFits, SettledStays}
use Rattle.fr_precision.proofs.BoundLemmas.{near_is_below, sharp_is_below, wide_le}

-- ---- what the step draws to

le_itself : (n : ℕ) → n ≤ n
le_itself n = omega arith

halves : (n : ℕ) → n ≤ 2 * (n / 2) + 1
halves n = omega arith

pub next_spread_draws : NextSpreadDraws
next_spread_draws false p flutter s = (le_itself (odd_spread p s.lengths + 2 * arrival_error p + 3 * longest_micro p), le_itself (sharp_lambda false p flutter))
next_spread_draws true p flutter s =
    (halves (s.starts + s.lengths + 2 * odd_spread p s.lengths + 4 * arrival_error p + 7 * longest_micro p), halves (s.lengths + sharp_lambda true p flutter))

-- ---- no less than in sharp sync

pub record IsFrom (beside : Bool) (p : Values) (flutter : ℕ) (s : Spread) : Type 0 where
  pub starts_from : sharp_pi beside p flutter ≤ s.starts
  pub lengths_from : sharp_lambda beside p flutter ≤ s.lengths

from_first : (beside : Bool) (p : Values) (flutter start rate : ℕ) → IsFrom beside p flutter (first_sharp_spread beside p flutter start rate)
from_first beside p flutter start rate = record {
  starts_from = le-max_right start (sharp_pi beside p flutter);
  lengths_from = le-max_right rate (sharp_lambda beside p flutter);
}

from_next : (beside : Bool) (p : Values) (flutter : ℕ) (s : Spread) → IsFrom beside p flutter s → IsFrom beside p flutter (next_sharp_spread beside p flutter s)
from_next false p flutter s from = record {
  starts_from = step (sharp_lambda false p flutter) s.lengths (cycle_change p) (arrival_error p) (longest_micro p) from.lengths_from;
  lengths_from = le_itself (sharp_lambda false p flutter);
}
  where
    step : (l k j e q : ℕ) → l ≤ k → (l + 2 * j) + 2 * e + 3 * q ≤ (k + 2 * j) + 2 * e + 3 * q
    step l k j e q le = omega (arith, le)
from_next true p flutter s from = record {
  starts_from = starts (sharp_pi true p flutter) (sharp_lambda true p flutter) s.starts s.lengths (cycle_change p) (arrival_error p) (longest_micro p) refl from.starts_from from.lengths_from;
  lengths_from = lengths (sharp_lambda true p flutter) s.lengths from.lengths_from;
}
  where
    starts : (pi l s k j e q : ℕ) → pi ≡ 3 * l + 4 * j + 4 * e + 7 * q → pi ≤ s → l ≤ k → pi ≤ (s + k + 2 * (k + 2 * j) + 4 * e + 7 * q) / 2
    starts pi l s k j e q is a b = omega (arith, is, a, b)

    lengths : (l k : ℕ) → l ≤ k → l ≤ (k + l) / 2
    lengths l k le = omega (arith, le)

pub from_after : (beside : Bool) (p : Values) (flutter start rate double : ℕ) → IsFrom beside p flutter (sharp_spread_after beside p flutter start rate double)
unfolding sharp_spread_after
from_after beside p flutter start rate zero = from_first beside p flutter start rate
from_after beside p flutter start rate (suc double) = from_next beside p flutter (sharp_spread_after beside p flutter start rate double) (from_after beside p flutter start rate double)

fit_by : (beside : Bool) (p : Values) (flutter : ℕ) (s : Spread) → IsFrom beside p flutter s → (next_sharp_spread beside p flutter s).starts + longest_micro p ≤ sharply_apart_in p s
fit_by false p flutter s from = step s.starts s.lengths (sharp_pi false p flutter) (sharp_lambda false p flutter) (cycle_change p) (arrival_error p) (longest_micro p) refl from.starts_from
  where
    step : (s k pi l j e q : ℕ) → pi ≡ (l + 2 * j) + 2 * e + 3 * q → pi ≤ s → ((k + 2 * j) + 2 * e + 3 * q) + q ≤ s + k + (k + 2 * j) + 2 * q
    step s k pi l j e q is le = omega (arith, is, le)
fit_by true p flutter s from = step s.starts s.lengths (sharp_pi true p flutter) (sharp_lambda true p flutter) (cycle_change p) (arrival_error p) (longest_micro p) refl from.starts_from from.lengths_from
  where
    step : (s k pi l j e q : ℕ) → pi ≡ 3 * l + 4 * j + 4 * e + 7 * q → pi ≤ s → l ≤ k → (s + k + 2 * (k + 2 * j) + 4 * e + 7 * q) / 2 + q ≤ s + k + (k + 2 * j) + 2 * q
    step s k pi l j e q is le more = omega (arith, is, le, more)

pub next_starts_fit : NextStartsFit
unfolding sharp_spread_after
next_starts_fit beside p flutter start rate double = fit_by beside p flutter (sharp_spread_after beside p flutter start rate double) (from_after beside p flutter start rate double)

-- ---- at rest

pub settled_stays : SettledStays
settled_stays false p flutter s is = (refl, step s.lengths (sharp_lambda false p flutter) (cycle_change p) (arrival_error p) (longest_micro p) is.0)
  where
    step : (k l j e q : ℕ) → k ≡ l → (k + 2 * j) + 2 * e + 3 * q ≡ (l + 2 * j) + 2 * e + 3 * q
    step k l j e q is = omega (arith, is)
settled_stays true p flutter s is = (
  lengths s.lengths (sharp_lambda true p flutter) is.0,
  starts s.starts s.lengths (sharp_pi true p flutter) (sharp_lambda true p flutter) (cycle_change p) (arrival_error p) (longest_micro p) refl is.1 is.0,
)
  where
    lengths : (k l : ℕ) → k ≡ l → (k + l) / 2 ≡ l
    lengths k l is = omega (arith, is)

    starts : (s k pi l j e q : ℕ) → pi ≡ 3 * l + 4 * j + 4 * e + 7 * q → s ≡ pi → k ≡ l → (s + k + 2 * (k + 2 * j) + 4 * e + 7 * q) / 2 ≡ pi
    starts s k pi l j e q is a b = omega (arith, is, a, b)

pub alone_settles_soon : AloneSettlesSoon
unfolding sharp_spread_after
alone_settles_soon p flutter start rate = (refl, refl)

-- ---- beside arbitrary nodes: what lies beyond is halved, and the starts gain three times what the lengths have

unfoldable drawn : ℕ → ℕ → ℕ → ℕ
drawn number other zero = number
drawn number other (suc times) = (drawn number other times + 3 * halved other times) / 2

drawn_no_more : (number other most times : ℕ) → number ≤ 3 * most → other ≤ most → drawn number other times ≤ 3 * most
unfolding drawn
drawn_no_more number other most zero from to = from
drawn_no_more number other most (suc times) from to =
    let before = drawn_no_more number other most times from to in
    let gain = halved_no_more other times in
    omega (arith, before, gain, to)

none_next : (other times : ℕ) → halved other times ≡ 0 → halved other (suc times) ≡ 0
unfolding halved
none_next other times none = omega (arith, none)

none_stays : (other times more : ℕ) → halved other times ≡ 0 → halved other (times + more) ≡ 0
none_stays other times zero none = let same : times ≡ times + 0 = omega arith in subst (λ (n : ℕ). halved other n ≡ 0) same none
none_stays other times (suc more) none =
    let same : suc (times + more) ≡ times + suc more = omega arith in
    subst (λ (n : ℕ). halved other n ≡ 0) same (none_next other (times + more) (none_stays other times more none))

halved_not : (number : ℕ) → number ≡ halved number 0
unfolding halved
halved_not number = refl

drawn_step : (number other times begin more : ℕ) → halved other times ≡ 0 → drawn number other times ≡ halved begin more → drawn number other (suc times) ≡ halved begin (suc more)
unfolding drawn halved
drawn_step number other times begin more none same =
    let sum : drawn number other times + 3 * halved other times ≡ halved begin more = omega (arith, none, same) in
    ap (λ (n : ℕ). n / 2) sum

drawn_alone : (number other times more : ℕ) → halved other times ≡ 0 → drawn number other (times + more) ≡ halved (drawn number other times) more
drawn_alone number other times zero none =
    let same : times + 0 ≡ times = omega arith in
    ap (drawn number other) same ∙ halved_not (drawn number other times)
drawn_alone number other times (suc more) none =
    let same : times + suc more ≡ suc (times + more) = omega arith in
    ap (drawn number other) same
    ∙ drawn_step number other (times + more) (drawn number other times) more (none_stays other times more none) (drawn_alone number other times more none)

none_after : (number other : ℕ) → number ≤ 1_000_000_000_000 → other ≤ 1_000_000_000_000 → (halved other 82 ≡ 0) × (drawn number other 82 ≡ 0)
none_after number other from to =
    let first : halved other 40 ≡ 0 = halved_to_none other 40 (below other to) in
    let bound : drawn number other 40 ≤ 3 * 1_000_000_000_000 = drawn_no_more number other 1_000_000_000_000 40 (omega (arith, from)) to in
    let second : halved (drawn number other 40) 42 ≡ 0 = halved_to_none (drawn number other 40) 42 (below_later (drawn number other 40) bound) in
    (none_stays other 40 42 first, drawn_alone number other 40 42 first ∙ second)
  where
    below : (n : ℕ) → n ≤ 1_000_000_000_000 → n < 2 ^ 40
    below n le = let power : 2 ^ 40 ≡ 1_099_511_627_776 = refl in omega (arith, le, power)

    below_later : (n : ℕ) → n ≤ 3 * 1_000_000_000_000 → n < 2 ^ 42
    below_later n le = let power : 2 ^ 42 ≡ 4_398_046_511_104 = refl in omega (arith, le, power)

-- how far a spread lies beyond that of clocks in sharp sync
record LiesBeyond (p : Values) (flutter : ℕ) (s : Spread) (starts lengths : ℕ) : Type 0 where
  by_starts : s.starts ≡ sharp_pi true p flutter + starts
  by_lengths : s.lengths ≡ sharp_lambda true p flutter + lengths

beyond_first : (p : Values) (flutter start rate : ℕ)
    → LiesBeyond p flutter (first_sharp_spread true p flutter start rate) (max start (sharp_pi true p flutter) - sharp_pi true p flutter) (max rate (sharp_lambda true p flutter) - sharp_lambda true p flutter)
beyond_first p flutter start rate =
    let more = le-max_right start (sharp_pi true p flutter) in
    let longer = le-max_right rate (sharp_lambda true p flutter) in
    record { by_starts = omega (arith, more); by_lengths = omega (arith, longer) }

beyond_next : (p : Values) (flutter : ℕ) (s : Spread) (a b : ℕ) → LiesBeyond p flutter s a b → LiesBeyond p flutter (next_sharp_spread true p flutter s) ((a + 3 * b) / 2) (b / 2)
beyond_next p flutter s a b beyond = record {
  by_starts = starts s.starts s.lengths (sharp_pi true p flutter) (sharp_lambda true p flutter) a b (cycle_change p) (arrival_error p) (longest_micro p) refl beyond.by_starts beyond.by_lengths;
  by_lengths = lengths s.lengths (sharp_lambda true p flutter) b beyond.by_lengths;
}
  where
    starts : (s k pi l a b j e q : ℕ) → pi ≡ 3 * l + 4 * j + 4 * e + 7 * q → s ≡ pi + a → k ≡ l + b → (s + k + 2 * (k + 2 * j) + 4 * e + 7 * q) / 2 ≡ pi + (a + 3 * b) / 2
    starts s k pi l a b j e q is c d = omega (arith, is, c, d)

    lengths : (k l b : ℕ) → k ≡ l + b → (k + l) / 2 ≡ l + b / 2
    lengths k l b is = omega (arith, is)

beyond_after : (p : Values) (flutter start rate a b : ℕ) → LiesBeyond p flutter (first_sharp_spread true p flutter start rate) a b → (n : ℕ) → LiesBeyond p flutter (sharp_spread_after true p flutter start rate n) (drawn a b n) (halved b n)
unfolding drawn halved sharp_spread_after
beyond_after p flutter start rate a b first zero = first
beyond_after p flutter start rate a b first (suc n) = beyond_next p flutter (sharp_spread_after true p flutter start rate n) (drawn a b n) (halved b n) (beyond_after p flutter start rate a b first n)

excess : (n least most : ℕ) → n ≤ most → max n least - least ≤ most
excess n least most le = elim (cases_order n least) [
  | inl same ↦ subst (λ (m : ℕ). max n m - m ≤ most) same (self n most)
  | inr (inl less) ↦ grind arith
  | inr (inr more) ↦ grind arith
] where
  self : (n most : ℕ) → max n n - n ≤ most
  self n most = grind arith

pub beside_settles_soon : BesideSettlesSoon
beside_settles_soon p flutter start rate from to =
    let a = max start (sharp_pi true p flutter) - sharp_pi true p flutter in
    let b = max rate (sharp_lambda true p flutter) - sharp_lambda true p flutter in
    let none = none_after a b (excess start (sharp_pi true p flutter) 1_000_000_000_000 from) (excess rate (sharp_lambda true p flutter) 1_000_000_000_000 to) in
    let s = sharp_spread_after true p flutter start rate 82 in
    let beyond = beyond_after p flutter start rate a b (beyond_first p flutter start rate) 82 in
    (by_none s.lengths (sharp_lambda true p flutter) (halved b 82) beyond.by_lengths none.0, by_none s.starts (sharp_pi true p flutter) (drawn a b 82) beyond.by_starts none.1)
  where
    by_none : (n m more : ℕ) → n ≡ m + more → more ≡ 0 → n ≡ m
    by_none n m more e none = omega (arith, e, none)

-- ---- from the older sync

-- starts no further apart than pi, and lengths than lambda, both of the older kind
record IsUpTo (p : Values) (s : Spread) : Type 0 where
  starts_to : s.starts ≤ pi_of p
  lengths_to : s.lengths ≤ lambda_of p

up_to_first : (beside : Bool) (p : Values) (flutter : ℕ) → IsSane p → flutter ≤ 2 * arrival_error p → IsUpTo p (first_sharp_spread beside p flutter (pi_of p) (lambda_of p))
up_to_first beside p flutter sane le =
    let below = sharp_is_below beside p flutter sane le in
    record { starts_to = max-le (le_itself (pi_of p)) below.1; lengths_to = max-le (le_itself (lambda_of p)) below.0 }

older_alone : (t q w c j e k l old_l old_pi long : ℕ) → t ≤ 2 * e → w ≤ 2 * j → k ≡ t + (q - 1) + w → l ≡ 2 * k + q + 2 * c + 2 * j
    → old_l ≡ 4 * (2 * e + 2 * q + 3 * j) + 2 * q + 4 * c + 8 * j → old_pi ≡ 6 * old_l + 4 * e + 8 * q → long ≤ old_l
    → ((long + 2 * j) + 2 * e + 3 * q ≤ old_pi) × (l + 2 * j ≤ old_l)
older_alone t q w c j e k l old_l old_pi long a b c0 c1 c2 c3 d = (omega arith, omega arith)

older_beside : (t q w c j e k l old_l old_pi s long : ℕ) → t ≤ 2 * e → w ≤ 2 * j → k ≡ t + (q - 1) + w → l ≡ 4 * k + 2 * q + 4 * c + 4 * j
    → old_l ≡ 4 * (2 * e + 2 * q + 3 * j) + 2 * q + 4 * c + 8 * j → old_pi ≡ 6 * old_l + 4 * e + 8 * q → s ≤ old_pi → long ≤ old_l
    → ((s + long + 2 * (long + 2 * j) + 4 * e + 7 * q) / 2 ≤ old_pi) × ((long + l) / 2 + 2 * j ≤ old_l)
older_beside t q w c j e k l old_l old_pi s long a b c0 c1 c2 c3 d f = (omega arith, omega arith)

-- the next double cycle's starts, and its odd lengths
next_up_to : (beside : Bool) (p : Values) (flutter : ℕ) (s : Spread) → IsSane p → flutter ≤ 2 * arrival_error p → IsUpTo p s
    → ((next_sharp_spread beside p flutter s).starts ≤ pi_of p) × (odd_spread p (next_sharp_spread beside p flutter s).lengths ≤ lambda_of p)
next_up_to false p flutter s sane le up =
    older_alone flutter (longest_micro p) (wide_change p) (amount p name.pClusterDriftDamping * longest_micro p) (cycle_change p) (arrival_error p) (steady_error p flutter) (sharp_lambda false p flutter)
    (lambda_of p) (pi_of p) s.lengths le (wide_le p sane) refl refl refl refl up.lengths_to
next_up_to true p flutter s sane le up =
    older_beside flutter (longest_micro p) (wide_change p) (amount p name.pClusterDriftDamping * longest_micro p) (cycle_change p) (arrival_error p) (steady_error p flutter) (sharp_lambda true p flutter)
    (lambda_of p) (pi_of p) s.starts s.lengths le (wide_le p sane) refl refl refl refl up.starts_to up.lengths_to

up_to_by : (p : Values) (s : Spread) → s.starts ≤ pi_of p → odd_spread p s.lengths ≤ lambda_of p → IsUpTo p s
up_to_by p s starts odds = record { starts_to = starts; lengths_to = less s.lengths (cycle_change p) (lambda_of p) odds }
  where
    less : (l j o : ℕ) → l + 2 * j ≤ o → l ≤ o
    less l j o le = omega (arith, le)

up_to_after : (beside : Bool) (p : Values) (flutter double : ℕ) → IsSane p → flutter ≤ 2 * arrival_error p → IsUpTo p (sharp_spread_after beside p flutter (pi_of p) (lambda_of p) double)
unfolding sharp_spread_after
up_to_after beside p flutter zero sane le = up_to_first beside p flutter sane le
up_to_after beside p flutter (suc double) sane le =
    let s = sharp_spread_after beside p flutter (pi_of p) (lambda_of p) double in
    let next = next_up_to beside p flutter s sane le (up_to_after beside p flutter double sane le) in
    up_to_by p (next_sharp_spread beside p flutter s) next.0 next.1

fits_by : (p : Values) (s : Spread) → IsSane p → s.starts ≤ pi_of p → odd_spread p s.lengths ≤ lambda_of p → FitsOlder p s
fits_by p s sane starts odds =
    let apart = step s.starts s.lengths (odd_spread p s.lengths) (pi_of p) (lambda_of p) (cycle_change p) (longest_micro p) refl starts odds in
    record {
      starts_fit = starts;
      odds_fit = odds;
      near_fits = chain (sharply_near_in p s) (sharply_apart_in p s) (precision_of p) (near_is_below p s.starts s.lengths sane) apart;
      apart_fits = apart;
    }
  where
    step : (s k o pi l j q : ℕ) → o ≡ k + 2 * j → s ≤ pi → o ≤ l → s + k + o + 2 * q ≤ pi + 2 * l + 2 * q
    step s k o pi l j q is a b = omega (arith, is, a, b)

    chain : (a b c : ℕ) → a ≤ b → b ≤ c → a ≤ c
    chain a b c h k = omega (arith, h, k)

pub older_way_fits : OlderWayFits
unfolding sharp_spread_after
older_way_fits beside p flutter double sane le =
    let s = sharp_spread_after beside p flutter (pi_of p) (lambda_of p) double in
    let next = next_up_to beside p flutter s sane le (up_to_after beside p flutter double sane le) in
    fits_by p (next_sharp_spread beside p flutter s) sane next.0 next.1
