-- Losses in bursts that do not begin with a double cycle cost no more than one such burst alone.
use Rattle.std.proofs.Common.{◌≡◌, ◌⊎◌, ◌∙◌, ℕ, zero, suc, ◌+◌, ◌*◌, ◌-◌, ◌<◌, ◌≤◌, Bool, true, false, ◌&&◌, inl, inr, refl, ap, ap₂, sym, subst, arith}
use Rattle.std.specs.Prelude.{max}
use Rattle.std.proofs.Math.Nat.{le-max_left}
use Rattle.std.proofs.lemmas.Bool.{and_parts}
use Rattle.fr_cluster.specs.Sane.{IsSane}
use Rattle.fr_cluster.specs.Values.{Values}
use Rattle.fr_bound.specs.Bounds.{arrival_error, cycle_change, longest_micro}
use Rattle.fr_bound.specs.Judged.{heard_spread}
use Rattle.fr_bound.specs.SharpBounds.{odd_spread}
use Rattle.fr_bound.specs.SharpSpreads.{next_lost_spread, sharply_near_in}
use Rattle.fr_bound.specs.declared.judging.Heard.{Heard}
use Rattle.fr_bound.specs.declared.judging.Heard.TheVariants.{Clean, Meeting, Poor}
use Rattle.fr_bound.specs.declared.settling.Spread.{Spread}
use Rattle.fr_precision.specs.Among.{apart_through_losses, both, kinds_spread, lost_spread, spread_through_losses, LaterSpreadsAreLess}
use Rattle.fr_precision.specs.declared.kinds.Kinds.{Kinds}
use Rattle.fr_sharp.specs.LossBursts.{CrossingBurstsCostNoMore, CrossingBurstsKeepThePeak, IsInCrossingBurstFrom, LosesInCrossingBurstsFrom}
use Rattle.fr_sharp.specs.LossCosts.{apart_crossing, near_crossing, IsCrossingCost}
use Rattle.fr_sharp.specs.LossSteps.{heard_apart}
use Rattle.fr_sharp.specs.Losses.{HistoriesKeepThroughLosses}
use Rattle.fr_sharp.specs.declared.loss_costs.CrossingCost.{CrossingCost}
use Rattle.fr_traffic.specs.Traffic.{heard_in, traffic_in}
use Rattle.fr_promise.proofs.AmongNumbers.{next_is}
use Rattle.fr_promise.proofs.HeardNumbers.{by_below_lost}
use Rattle.fr_promise.proofs.JoinBounds.{near_grows}
use Rattle.fr_promise.proofs.LossOrder.{always_wide, below_itself, calm, next_below, through, whole_falls, IsBelow}
use Rattle.fr_sharp.proofs.CrossingPeaks.{apart_at, apart_next, at, behind, behind_is, clean_is, crossed, row, row_is, third_row}
use Rattle.fr_sharp.proofs.LossBurstLaws.{apart_below, by_never, calm_below, from_calm, within_heard}
use Rattle.fr_sharp.proofs.LossLemmas.{far_grows, starts_fit, Far}
use Rattle.fr_sharp.proofs.LossNumbers.{never, never_rises}

-- ---- all is heard of both kinds

is_clean : Heard → Bool
is_clean Clean = true
is_clean Meeting = false
is_clean Poor = false

clean_so : (h : Heard) → is_clean h ≡ true → h ≡ Clean
unfolding is_clean
clean_so Clean is = refl
clean_so Meeting is = absurd (cc)
clean_so Poor is = absurd (cc)

abbrev all_clean : Kinds → Bool
all_clean what = is_clean what.offsets && is_clean what.rates

all_so : (what : Kinds) → all_clean what ≡ true → what ≡ both Clean
all_so what is = let parts = and_parts (is_clean what.offsets) (is_clean what.rates) is in ap₂ (λ (a b : Heard). made a b) (clean_so what.offsets parts.0) (clean_so what.rates parts.1)
  where
    made : Heard → Heard → Kinds
    made a b = record { offsets = a; rates = b }

so_all : (what : Kinds) → what ≡ both Clean → all_clean what ≡ true
unfolding is_clean
so_all what is = ap all_clean is

-- ---- how the numbers go on where that is known of offsets, or of both

module _ (p : Values) (flutter : ℕ) (what : ℕ → Kinds) where
  abbrev heard_to : ℕ → Spread
  heard_to k = spread_through_losses false p flutter what k

  next_start : (k : ℕ) → (what k).offsets ≡ Clean → (heard_to (suc k)).starts ≡ odd_spread p (heard_to k).lengths + 2 * arrival_error p + 3 * longest_micro p
  unfolding spread_through_losses
  next_start k is = ap (λ (h : Heard). (heard_spread h p flutter (heard_to k)).starts) is

  next_clean : (k : ℕ) → what k ≡ both Clean → heard_to (suc k) ≡ next_lost_spread true p flutter (heard_to k)
  unfolding spread_through_losses
  next_clean k is = ap (λ (w : Kinds). kinds_spread w p flutter (heard_to k)) is

-- ---- each spread lies below that of a burst alone: below that of as many double cycles in a row, or of the one behind them

module _ (p : Values) (flutter count : ℕ) (some : 1 ≤ count) (what : ℕ → Kinds) (bursts : LosesInCrossingBurstsFrom what 0 count) where
  abbrev by : ℕ → Spread
  by k = spread_through_losses false p flutter what k

  abbrev wide : Spread
  wide = row p flutter count

  abbrev last : Spread
  last = behind p flutter count

  abbrev In : ℕ → Type 0
  In k = IsInCrossingBurstFrom what 0 count k

  below : (k : ℕ) → IsBelow (by k) (lost_spread p flutter (λ m. all_clean (what m)) k)
  below k = by_below_lost p flutter what (λ m. all_clean (what m)) (λ m. all_so (what m)) k

  -- so many double cycles behind the start of a burst
  since : (k n : ℕ) → (burst : In k) → IsBelow (by (burst.start + n)) (by_never p flutter n)
  since k n burst =
      let whole : ℕ → Bool = λ m. all_clean (what m) in
      let first = calm_below p flutter whole burst.start (λ earlier less le. so_all (what earlier) (burst.calm earlier (omega arith) less le)) in
      through (by (burst.start + n)) (lost_spread p flutter whole (burst.start + n)) (by_never p flutter n) (below (burst.start + n)) (from_calm p flutter whole burst.start n first)

  few : (k n : ℕ) → (burst : In k) → n ≤ count → IsBelow (by (burst.start + n)) wide
  few k n burst le =
      let there : n + (count - n) ≡ count = omega (arith, le) in
      let Up : ℕ → Type 0 = λ m. IsBelow (by_never p flutter n) (by_never p flutter m) in
      through (by (burst.start + n)) (by_never p flutter n) wide (since k n burst) (subst Up there (never_rises p flutter n (count - n)))

  in_it : (k : ℕ) → In k → IsBelow (by k) wide
  in_it k burst =
      let begun = burst.begun in
      let within = burst.within in
      let here : burst.start + (k - burst.start) ≡ k = omega (arith, begun) in
      let At : ℕ → Type 0 = λ m. IsBelow (by m) wide in
      subst At here (few k (k - burst.start) burst (omega (arith, within)))

  -- behind the last one of a burst, in which offsets are heard again
  last_long : last.lengths ≡ (by_never p flutter (suc count)).lengths
  last_long = ap (λ (s : Spread). s.lengths) (sym (next_is p flutter never count false refl))

  behind_last : (k : ℕ) → (burst : In k) → k ≡ burst.start + count → IsBelow (by (suc k)) last
  behind_last k burst same =
      let here : burst.start + suc count ≡ suc k = omega (arith, same) in
      let At : ℕ → Type 0 = λ m. IsBelow (by m) (by_never p flutter (suc count)) in
      let one = subst At here (since k (suc count) burst) in
      let now = in_it k burst in
      let starts = next_start p flutter what k (burst.heard_again same) in
      record {
        start = begin (by k).lengths wide.lengths (cycle_change p) (arrival_error p) (longest_micro p) (by (suc k)).starts starts now.long;
        long = longer (by (suc k)).lengths (by_never p flutter (suc count)).lengths last.lengths one.long last_long;
      }
    where
      begin : (l m j e q s : ℕ) → s ≡ (l + 2 * j) + 2 * e + 3 * q → l ≤ m → s ≤ (m + 2 * j) + 2 * e + 3 * q
      begin l m j e q s is le = omega (arith, is, le)

      longer : (a b c : ℕ) → a ≤ b → c ≡ b → a ≤ c
      longer a b c le is = omega (arith, le, is)

  behind_it : (k : ℕ) → In k → (IsBelow (by (suc k)) wide) ⊎ (IsBelow (by (suc k)) last)
  behind_it k burst = elim (splits k burst.start count burst.within) [
    | inl less ↦
        let begun = burst.begun in
        let here : burst.start + (suc k - burst.start) ≡ suc k = omega (arith, begun) in
        let At : ℕ → Type 0 = λ m. IsBelow (by m) wide in
        inl (subst At here (few k (suc k - burst.start) burst (omega (arith, less))))
    | inr same ↦ inr (behind_last k burst same)
  ]
    where
      splits : (k start count : ℕ) → k ≤ start + count → (k < start + count) ⊎ (k ≡ start + count)
      splits k start count le = grind arith

  -- where all is heard they fall
  falls : IsBelow (next_lost_spread true p flutter wide) wide
  falls = whole_falls p flutter wide (always_wide p flutter never count)

  third : IsBelow (next_lost_spread true p flutter last) wide
  third =
      let is : at p flutter count (suc (suc count)) ≡ next_lost_spread true p flutter last =
      clean_is p flutter count (suc count) (omega arith) ∙ ap (kinds_spread (both Clean) p flutter) (behind_is p flutter count) in
      subst (λ (s : Spread). IsBelow s wide) is (third_row p flutter count some)

  after : (k : ℕ) (s : Spread) → what k ≡ both Clean → IsBelow (by k) s → IsBelow (by (suc k)) (next_lost_spread true p flutter s)
  after k s clean le = subst (λ (t : Spread). IsBelow t (next_lost_spread true p flutter s)) (sym (next_clean p flutter what k clean)) (next_below p flutter true (by k) s le)

  first : IsBelow (by 0) (by_never p flutter 0)
  unfolding spread_through_losses lost_spread
  first = below_itself (calm p flutter)

  each : (k : ℕ) → (IsBelow (by k) wide) ⊎ (IsBelow (by k) last)
  each zero =
      let none : 0 + count ≡ count = omega arith in
      let Up : ℕ → Type 0 = λ m. IsBelow (by_never p flutter 0) (by_never p flutter m) in
      inl (through (by 0) (by_never p flutter 0) wide first (subst Up none (never_rises p flutter 0 count)))
  each (suc k) = elim (bursts k (omega arith)) [
    | inl clean ↦
        elim (each k) [
          | inl le ↦ inl (through (by (suc k)) (next_lost_spread true p flutter wide) wide (after k wide clean le) falls)
          | inr le ↦ inl (through (by (suc k)) (next_lost_spread true p flutter last) wide (after k last clean le) third)
        ]
    | inr burst ↦ behind_it k burst
  ]

  -- ---- so do the numbers of each double cycle

  abbrev apart : ℕ → ℕ
  apart k = apart_through_losses false p flutter what k

  either : (k : ℕ) → (apart k ≤ heard_apart crossed p flutter wide) ⊎ (apart k ≤ heard_apart (both Clean) p flutter last)
  either k = elim (bursts k (omega arith)) [
    | inl clean ↦
        elim (each k) [
          | inl le ↦ inl (in_row k le (through (by (suc k)) (next_lost_spread true p flutter wide) wide (after k wide clean le) falls))
          | inr le ↦
              inr (apart_below p (by k) last (by (suc k)) (next_lost_spread true p flutter last) le (after k last clean le).start)
        ]
    | inr burst ↦
        elim (behind_it k burst) [
          | inl le ↦ inl (in_row k (in_it k burst) le)
          | inr le ↦ inl (apart_below p (by k) wide (by (suc k)) last (in_it k burst) le.start)
        ]
  ]
    where
      greater_of : (a b c : ℕ) → a ≤ c → b ≤ c → max a b ≤ c
      greater_of a b c one two = grind arith

      up : (a b c : ℕ) → a ≤ b → b ≤ c → a ≤ c
      up a b c one two = omega (arith, one, two)

      in_row : (k : ℕ) → IsBelow (by k) wide → IsBelow (by (suc k)) wide → apart k ≤ heard_apart crossed p flutter wide
      in_row k here next =
          up (apart k) (Far p wide) (heard_apart crossed p flutter wide)
          (greater_of (Far p (by k)) ((by (suc k)).starts + longest_micro p) (Far p wide) (far_grows p (by k) wide here) (starts_fit p (by (suc k)) wide next))
          (le-max_left (Far p wide) (last.starts + longest_micro p))

  costs : (cost : CrossingCost) (k : ℕ) → IsSane p → IsCrossingCost p flutter count cost → (apart k ≤ cost.peak) × (sharply_near_in p (by k) ≤ cost.reach)
  costs cost k sane is = (
    elim (either k) [
      | inl le ↦ over (apart k) (heard_apart crossed p flutter wide) (apart_crossing p flutter count count) cost.peak le (apart_at p flutter count some) (is.peak.greatest count)
      | inr le ↦
          over (apart k) (heard_apart (both Clean) p flutter last) (apart_crossing p flutter count (suc count)) cost.peak le (apart_next p flutter count some) (is.peak.greatest (suc count))
    ],
    elim (each k) [
      | inl le ↦
          over (sharply_near_in p (by k)) (sharply_near_in p wide) (near_crossing p flutter count count) cost.reach (nearer wide le) (ap (sharply_near_in p) (row_is p flutter count)) (is.reach.greatest count)
      | inr le ↦
          over (sharply_near_in p (by k)) (sharply_near_in p last) (near_crossing p flutter count (suc count)) cost.reach (nearer last le) (ap (sharply_near_in p) (behind_is p flutter count)) (is.reach.greatest (suc count))
    ],
  )
    where
      over : (a b c d : ℕ) → a ≤ b → c ≡ b → c ≤ d → a ≤ d
      over a b c d h is k = omega (arith, h, is, k)

      nearer : (s : Spread) → IsBelow (by k) s → sharply_near_in p (by k) ≤ sharply_near_in p s
      nearer s le = near_grows p (by k).starts (by k).lengths s.starts s.lengths sane le.start le.long

pub crossing_bursts_cost_no_more : CrossingBurstsCostNoMore
crossing_bursts_cost_no_more p flutter count what cost k sane some bursts is = costs p flutter count some what bursts cost k sane is

-- ---- of files

-- what is heard from a double cycle on, counted from it
from_there : (what : ℕ → Kinds) (from count : ℕ) → LosesInCrossingBurstsFrom what from count → LosesInCrossingBurstsFrom (λ m. what (from + m)) 0 count
from_there what from count bursts k late = elim (bursts (from + k) (omega arith)) [
  | inl clean ↦ inl clean
  | inr burst ↦
      let begun = burst.begun in
      let within = burst.within in
      inr
      (
      record {
        start = burst.start - from;
        begun = omega (arith, begun);
        within = omega (arith, within);
        heard_again = λ same. burst.heard_again (omega (arith, begun, within, same));
        calm = λ earlier since less le. burst.calm (from + earlier) (omega arith) (omega (arith, less)) (omega (arith, less, le));
      }
      )
]

pub crossing_bursts_keep_the_peak : HistoriesKeepThroughLosses → LaterSpreadsAreLess → CrossingBurstsKeepThePeak
crossing_bursts_keep_the_peak keep later p d s from flutter count cost h double passed sane some bursts is covered alone run late sync awake within lasts =
    let what : ℕ → Kinds = λ m. heard_in (traffic_in p s) m in
    let cost_is = crossing_bursts_cost_no_more p flutter count (λ m. what (from + m)) cost ((double + passed) - from) sane some (from_there what from count bursts) is in
    within_heard keep later p d s from flutter cost.reach cost.peak h double passed sane covered alone run late sync awake within lasts cost_is.0
