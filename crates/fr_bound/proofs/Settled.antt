-- Clocks that begin apart come to rest, and what is said of their way is one answer.
use Rattle.std.proofs.Common.{◌≡◌, ℕ, zero, suc, ◌+◌, ◌*◌, ◌-◌, ◌<◌, ◌≤◌, ◌⊎◌, inl, inr, ℤ, pos, Option, Some, None, true, false, refl, ap, sym, ◌∙◌, subst, arith}
use Rattle.std.specs.Prelude.{max, ◌/◌}
use Rattle.std.proofs.Math.Nat.{le-max_left, le-max_right}
use Rattle.std.proofs.lemmas.Bool.{cases_order}
use Rattle.fr_cluster.specs.Values.{Values}
use Rattle.fr_bound.specs.Bounds.{arrival_error, lambda_of, longest_micro, pi_of}
use Rattle.fr_bound.specs.declared.settling.Spread.{Spread}
use Rattle.fr_bound.specs.Checks.{left_of}
use Rattle.fr_bound.specs.Settling.{FailsToSettle, IsPeakTo, IsSettleVerdict, IsSettled, SettlesAt, apart_in, first_spread, next_spread, settle_holds_of, settle_right_of, spread_after}
use Rattle.fr_bound.proofs.Halving.{gaining, halved, none_after}

-- ---- it comes to rest

-- how far a spread lies beyond that of clocks in sync
record LiesBeyond (p : Values) (s : Spread) (starts lengths : ℕ) : Type 0 where
  by_starts : s.starts ≡ pi_of p + starts
  by_lengths : s.lengths ≡ lambda_of p + lengths

beyond_first : (p : Values) (start rate : ℕ) → LiesBeyond p (first_spread p start rate) (max start (pi_of p) - pi_of p) (max rate (lambda_of p) - lambda_of p)
beyond_first p start rate =
    let more = le-max_right start (pi_of p) in
    let longer = le-max_right rate (lambda_of p) in
    record { by_starts = omega (arith, more); by_lengths = omega (arith, longer) }

-- over plain numbers: pi is six times lambda and some
half_starts : (pi lambda some starts lengths a b : ℕ) → pi ≡ 6 * lambda + some → starts ≡ pi + a → lengths ≡ lambda + b → (starts + 6 * lengths + some) / 2 ≡ pi + (a + 6 * b) / 2
half_starts pi lambda some starts lengths a b is e g = omega (arith, is, e, g)

half_lengths : (lambda lengths b : ℕ) → lengths ≡ lambda + b → (lengths + lambda) / 2 ≡ lambda + b / 2
half_lengths lambda lengths b e = omega (arith, e)

beyond_next : (p : Values) (s : Spread) (a b : ℕ) → LiesBeyond p s a b → LiesBeyond p (next_spread p s) ((a + 6 * b) / 2) (b / 2)
beyond_next p s a b beyond =
    let some = 4 * arrival_error p + 8 * longest_micro p in
    let same : s.starts + 6 * s.lengths + 4 * arrival_error p + 8 * longest_micro p ≡ s.starts + 6 * s.lengths + some = omega arith in
    let whole : pi_of p ≡ 6 * lambda_of p + some = omega arith in
    record {
      by_starts = ap (λ (n : ℕ). n / 2) same ∙ half_starts (pi_of p) (lambda_of p) some s.starts s.lengths a b whole beyond.by_starts beyond.by_lengths;
      by_lengths = half_lengths (lambda_of p) s.lengths b beyond.by_lengths;
    }

beyond_after : (p : Values) (start rate a b : ℕ) → LiesBeyond p (first_spread p start rate) a b → (n : ℕ) → LiesBeyond p (spread_after p start rate n) (gaining a b n) (halved b n)
unfolding gaining halved spread_after
beyond_after p start rate a b first zero = first
beyond_after p start rate a b first (suc n) = beyond_next p (spread_after p start rate n) (gaining a b n) (halved b n) (beyond_after p start rate a b first n)

excess : (n least most : ℕ) → n ≤ most → max n least - least ≤ most
excess n least most le = elim (cases_order n least) [
  | inl same ↦ subst (λ (m : ℕ). max n m - m ≤ most) same (self n most)
  | inr (inl less) ↦ grind arith
  | inr (inr more) ↦ grind arith
] where
  self : (n most : ℕ) → max n n - n ≤ most
  self n most = grind arith

pub settled_soon : (p : Values) (start rate : ℕ) → start ≤ 1_000_000_000_000 → rate ≤ 1_000_000_000_000 → IsSettled p (spread_after p start rate 83)
settled_soon p start rate from to =
    let a = max start (pi_of p) - pi_of p in
    let b = max rate (lambda_of p) - lambda_of p in
    let none = none_after a b (excess start (pi_of p) 1_000_000_000_000 from) (excess rate (lambda_of p) 1_000_000_000_000 to) in
    let beyond = beyond_after p start rate a b (beyond_first p start rate) 83 in
    (by_none (spread_after p start rate 83).lengths (lambda_of p) (halved b 83) beyond.by_lengths none.0, by_none (spread_after p start rate 83).starts (pi_of p) (gaining a b 83) beyond.by_starts none.1)
  where
    by_none : (n m more : ℕ) → n ≡ m + more → more ≡ 0 → n ≡ m
    by_none n m more e none = omega (arith, e, none)

-- ---- the peak

pub spread_none : (p : Values) (start rate : ℕ) → first_spread p start rate ≡ spread_after p start rate 0
unfolding spread_after
spread_none p start rate = refl

pub peak_first : (p : Values) (start rate : ℕ) → IsPeakTo p start rate 0 (apart_in p (spread_after p start rate 0))
peak_first p start rate = record {
  greatest = λ n to. only n to;
  place = 0;
  up_to = omega arith;
  reached = refl;
} where
  only : (n : ℕ) → n ≤ 0 → apart_in p (spread_after p start rate n) ≤ apart_in p (spread_after p start rate 0)
  only n to = let same : n ≡ 0 = omega (arith, to) in subst (λ (m : ℕ). apart_in p (spread_after p start rate m) ≤ apart_in p (spread_after p start rate 0)) (sym same) (omega arith)

peak_step : (p : Values) (start rate n peak next : ℕ) → IsPeakTo p start rate n peak → apart_in p (spread_after p start rate (suc n)) ≡ next → IsPeakTo p start rate (suc n) (max peak next)
peak_step p start rate n peak next so_far is = elim (greater peak next) [
  | inl old ↦ record {
    greatest = greatest;
    place = so_far.place;
    up_to = let le = so_far.up_to in omega (arith, le);
    reached = so_far.reached ∙ sym old;
  }
  | inr new ↦ record { greatest = greatest; place = suc n; up_to = omega arith; reached = is ∙ sym new }
] where
  greater : (a b : ℕ) → (max a b ≡ a) ⊎ (max a b ≡ b)
  greater a b = grind arith

  splits : (k n : ℕ) → k ≤ suc n → (k ≤ n) ⊎ (suc n ≡ k)
  splits k n le = grind arith

  greatest : (k : ℕ) → k ≤ suc n → apart_in p (spread_after p start rate k) ≤ max peak next
  greatest k le = elim (splits k n le) [
    | inl less ↦ let below = so_far.greatest k less in let wide = le-max_left peak next in omega (arith, below, wide)
    | inr same ↦ let wide = le-max_right peak next in subst (λ (m : ℕ). apart_in p (spread_after p start rate m) ≤ max peak next) same (omega (arith, is, wide))
  ]

pub spread_next : (p : Values) (start rate n : ℕ) (s next : Spread) → s ≡ spread_after p start rate n → next ≡ next_spread p s → next ≡ spread_after p start rate (suc n)
unfolding spread_after
spread_next p start rate n s next is next_is = next_is ∙ ap (next_spread p) is

pub peak_next : (p : Values) (start rate n peak : ℕ) (s next : Spread) → IsPeakTo p start rate n peak → s ≡ spread_after p start rate n → next ≡ next_spread p s
    → IsPeakTo p start rate (suc n) (max peak (apart_in p next))
peak_next p start rate n peak s next so_far is next_is =
    peak_step p start rate n peak (apart_in p next) so_far (ap (apart_in p) (sym (spread_next p start rate n s next is next_is)))

pub none_earlier : (p : Values) (start rate n : ℕ) (s : Spread) → ((k : ℕ) → k < n → IsSettled p (spread_after p start rate k) → ⊥) → s ≡ spread_after p start rate n → (IsSettled p s → ⊥)
    → (k : ℕ) → k < suc n → IsSettled p (spread_after p start rate k) → ⊥
none_earlier p start rate n s earlier is not_yet k less settled = elim (splits k n less) [
  | inl before ↦ earlier k before settled
  | inr same ↦ not_yet (subst (IsSettled p) (sym is) (subst (λ (m : ℕ). IsSettled p (spread_after p start rate m)) same settled))
] where
  splits : (k n : ℕ) → k < suc n → (k < n) ⊎ (k ≡ n)
  splits k n le = grind arith

-- ---- one answer

pub one_double : (p : Values) (start rate double other : ℕ) → SettlesAt p start rate double → SettlesAt p start rate other → double ≡ other
one_double p start rate double other one two = elim (cases_order double other) [
  | inl same ↦ same
  | inr (inl less) ↦ absurd (two.first double less one.settled)
  | inr (inr more) ↦ absurd (one.first other more two.settled)
]

pub one_peak : (p : Values) (start rate double peak other : ℕ) → IsPeakTo p start rate double peak → IsPeakTo p start rate double other → peak ≡ other
one_peak p start rate double peak other one two =
    let below : peak ≤ other = subst (λ (n : ℕ). n ≤ other) one.reached (two.greatest one.place one.up_to) in
    let above : other ≤ peak = subst (λ (n : ℕ). n ≤ peak) two.reached (one.greatest two.place two.up_to) in
    omega (arith, below, above)

against : (p : Values) (peak k : ℕ) → settle_holds_of k peak p ≡ false → settle_holds_of k peak p ≡ true → ⊥
against p peak k fails holds = cc

one_number : (p : Values) (peak number other : ℕ) (left right left_too right_too : ℤ) → FailsToSettle p peak number left right → FailsToSettle p peak other left_too right_too → number ≡ other
one_number p peak number other left right left_too right_too one two = elim (cases_order number other) [
  | inl same ↦ same
  | inr (inl less) ↦ absurd (against p peak number one.fails (two.earlier number one.from less))
  | inr (inr more) ↦ absurd (against p peak other two.fails (one.earlier other two.from more))
]

same_failed : (p : Values) (peak number other : ℕ) (left right left_too right_too : ℤ) → FailsToSettle p peak number left right → FailsToSettle p peak other left_too right_too → (left ≡ left_too) × (right ≡ right_too)
same_failed p peak number other left right left_too right_too one two =
    let same = one_number p peak number other left right left_too right_too one two in (
      one.left_is ∙ ap (λ (n : ℕ). pos (left_of n p)) same ∙ sym two.left_is,
      one.right_is ∙ ap (λ (n : ℕ). pos (settle_right_of n peak p)) same ∙ sym two.right_is,
    )

same_triple : (one other : ℕ × ℤ × ℤ) → one.0 ≡ other.0 → one.1 ≡ other.1 → one.2 ≡ other.2 → one ≡ other
same_triple one other first second third =
    let made : ℕ → ℤ → ℤ → ℕ × ℤ × ℤ = λ a b c. (a, b, c) in
    ap (λ (a : ℕ). made a one.1 one.2) first ∙ ap (λ (b : ℤ). made other.0 b one.2) second ∙ ap (λ (c : ℤ). made other.0 other.1 c) third

pub one_verdict : (p : Values) (peak : ℕ) (one other : Option (ℕ × ℤ × ℤ)) → IsSettleVerdict p peak one → IsSettleVerdict p peak other → one ≡ other
one_verdict p peak None None one two = refl
one_verdict p peak None (Some failed) one two = absurd (against p peak failed.0 two.fails (one failed.0 two.from two.to))
one_verdict p peak (Some failed) None one two = absurd (against p peak failed.0 one.fails (two failed.0 one.from one.to))
one_verdict p peak (Some failed) (Some other) one two =
    let sides = same_failed p peak failed.0 other.0 failed.1 failed.2 other.1 other.2 one two in
    ap (λ (found : ℕ × ℤ × ℤ). Some found) (same_triple failed other (one_number p peak failed.0 other.0 failed.1 failed.2 other.1 other.2 one two) sides.0 sides.1)
