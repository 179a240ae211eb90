-- Losses in bursts cost no more than one burst alone, and those in every second double cycle what that costs.
use Rattle.std.proofs.Common.{◌≡◌, ℕ, ℤ, zero, suc, ◌+◌, ◌-◌, ◌<◌, ◌≤◌, Bool, true, false, pos, inl, inr, refl, ap, sym, subst, arith}
use Rattle.std.specs.Prelude.{◌≤ℤ◌, max}
use Rattle.std.proofs.lemmas.Bool.{cases_Bool}
use Rattle.std.proofs.lemmas.Int.{ints}
use Rattle.fr_cluster.specs.Setting.{Setting}
use Rattle.fr_cluster.specs.Values.{Values}
use Rattle.fr_bound.specs.Bounds.{longest_micro}
use Rattle.fr_bound.specs.declared.settling.Spread.{Spread}
use Rattle.fr_cluster.specs.Sane.{IsSane}
use Rattle.fr_coverage.specs.Decided.{setting_of}
use Rattle.fr_drift.specs.Questions.{doubles_of}
use Rattle.fr_drift.specs.View.{DriftView}
use Rattle.fr_history.specs.Cycles.{Cycles}
use Rattle.fr_bound.specs.SharpSpreads.{next_lost_spread}
use Rattle.fr_bound.specs.declared.judging.Heard.TheVariants as heard
use Rattle.fr_precision.specs.Among.{apart_through_losses, both, lost_spread, spread_through_losses, IsNot, LaterSpreadsAreLess, SpreadsAreBelowLost}
use Rattle.fr_precision.specs.declared.kinds.Kinds.{Kinds}
use Rattle.fr_precision.specs.SharpRun.{WalkLastsAfter}
use Rattle.fr_promise.specs.Statement.{IsRunOf}
use Rattle.fr_script.specs.View.{ScriptView}
use Rattle.fr_sharp.specs.Bearing.{KeepsThrough}
use Rattle.fr_sharp.specs.LossBursts.{BurstsCostNoMore, BurstsKeepThePeak, EverySecondCostsNoMore, EverySecondKeepsThePeak, IsInBurstFrom, LosesInBursts, LosesInBurstsFrom}
use Rattle.fr_sharp.specs.LossCosts.{heard_behind, HearsEverySecond}
use Rattle.fr_sharp.specs.Losses.{lost_apart, HistoriesKeepThroughLosses}
use Rattle.fr_traffic.specs.Reaching.{whole_in}
use Rattle.fr_runs.specs.SharpHistories.{IsInSharpSyncAt}
use Rattle.fr_sharp.specs.SharpStatement.{has_arbitrary}
use Rattle.fr_traffic.specs.Traffic.{heard_in, none_lacks, traffic_in}
use Rattle.fr_bound.specs.SharpSpreads.{sharply_near_in}
use Rattle.fr_promise.proofs.AmongNumbers.{heard_again, next_is}
use Rattle.fr_sharp.specs.LossStatement.{apart_since, IsCoveredThroughLosses}
use Rattle.fr_sharp.proofs.FromLossyFiles.{covered_files_keep_through_losses, later_since, none_is_clean, whole_is_clean}
use Rattle.fr_promise.proofs.JoinBounds.{near_grows}
use Rattle.fr_sharp.proofs.LossLemmas.{apart_under, far_grows, far_within, Far}
use Rattle.fr_sharp.proofs.LossNumbers.{never, never_rises, same_yet}
use Rattle.fr_promise.proofs.LossOrder.{always_wide, below_itself, calm, next_below, through, whole_below_lost, whole_falls, IsBelow, IsWide}

module _ (p : Values) (flutter : ℕ) where
  abbrev pub by_never : ℕ → Spread
  by_never n = lost_spread p flutter never n

  same_below : (s t : Spread) → s.starts ≡ t.starts → s.lengths ≡ t.lengths → IsBelow s t
  same_below s t one other = record { start = omega (arith, one); long = omega (arith, other) }

  -- behind two double cycles in which all is heard, or at first
  pub calm_below : (whole : ℕ → Bool) (start : ℕ) → ((k : ℕ) → k < start → start ≤ k + 2 → whole k ≡ true) → IsBelow (lost_spread p flutter whole start) (calm p flutter)
  unfolding lost_spread
  calm_below whole zero heard = below_itself (calm p flutter)
  calm_below whole (suc zero) heard =
      let Under : Bool → Type 0 = λ b. IsBelow (next_lost_spread b p flutter (calm p flutter)) (calm p flutter) in
      subst Under (sym (heard 0 (omega arith) (omega arith))) (below_itself (calm p flutter))
  calm_below whole (suc (suc k)) heard =
      let settled = heard_again p flutter whole k (heard k (omega arith) (omega arith)) (heard (suc k) (omega arith) (omega arith)) in
      same_below (lost_spread p flutter whole (suc (suc k))) (calm p flutter) settled.1 settled.0

  -- whatever is heard, a step leads no further than a loss does
  no_further : (heard : Bool) (s t : Spread) (whole : ℕ → Bool) (k : ℕ) → s ≡ lost_spread p flutter whole k → IsBelow s t → IsBelow (next_lost_spread heard p flutter s) (next_lost_spread false p flutter t)
  no_further true s t whole k is below =
      let wide = subst (IsWide p flutter) (sym is) (always_wide p flutter whole k) in
      through (next_lost_spread true p flutter s) (next_lost_spread false p flutter s) (next_lost_spread false p flutter t) (whole_below_lost p flutter s wide) (next_below p flutter false s t below)
  no_further false s t whole k is below = next_below p flutter false s t below

  -- from a calm double cycle on
  pub from_calm : (whole : ℕ → Bool) (start n : ℕ) → IsBelow (lost_spread p flutter whole start) (calm p flutter) → IsBelow (lost_spread p flutter whole (start + n)) (by_never n)
  unfolding lost_spread
  from_calm whole start zero below =
      let same : start ≡ start + 0 = omega arith in
      let At : ℕ → Type 0 = λ m. IsBelow (lost_spread p flutter whole m) (calm p flutter) in
      subst At same below
  from_calm whole start (suc n) below =
      let same : suc (start + n) ≡ start + suc n = omega arith in
      let At : ℕ → Type 0 = λ m. IsBelow (lost_spread p flutter whole m) (by_never (suc n)) in
      subst At same (no_further (whole (start + n)) (lost_spread p flutter whole (start + n)) (by_never n) whole (start + n) refl (from_calm whole start n below))

  -- every spread lies below that of so many in a row
  module _ (count : ℕ) (whole : ℕ → Bool) (bursts : LosesInBursts whole count) where
    behind_loss : (k : ℕ) → IsInBurstFrom whole 0 count k → IsBelow (lost_spread p flutter whole (suc k)) (by_never count)
    behind_loss k burst =
        let n : ℕ = suc k - burst.start in
        let begun = burst.begun in
        let within = burst.within in
        let here : burst.start + n ≡ suc k = omega (arith, begun) in
        let there : n + (count - n) ≡ count = omega (arith, begun, within) in
        let one : IsBelow (lost_spread p flutter whole (burst.start + n)) (by_never n) = from_calm whole burst.start n (calm_below whole burst.start (λ earlier less le. burst.calm earlier (omega arith) less le)) in
        let At : ℕ → Type 0 = λ m. IsBelow (lost_spread p flutter whole m) (by_never n) in
        let Up : ℕ → Type 0 = λ m. IsBelow (by_never n) (by_never m) in
        through (lost_spread p flutter whole (suc k)) (by_never n) (by_never count) (subst At here one) (subst Up there (never_rises p flutter n (count - n)))

    in_bursts : (k : ℕ) → IsBelow (lost_spread p flutter whole k) (by_never count)
    in_bursts zero =
        let first = from_calm whole 0 0 (calm_below whole 0 (λ k less le. absurd (omega (arith, less)))) in
        let none : 0 + count ≡ count = omega arith in
        let Up : ℕ → Type 0 = λ m. IsBelow (by_never 0) (by_never m) in
        through (lost_spread p flutter whole 0) (by_never 0) (by_never count) first (subst Up none (never_rises p flutter 0 count))
    in_bursts (suc k) = elim (cases_Bool (whole k)) [
      | inl heard ↦
          let s : Spread = lost_spread p flutter whole k in
          let next : lost_spread p flutter whole (suc k) ≡ next_lost_spread true p flutter s = next_is p flutter whole k true heard in
          let Under : Spread → Type 0 = λ t. IsBelow t (by_never count) in
          subst Under (sym next) (through (next_lost_spread true p flutter s) s (by_never count) (whole_falls p flutter s (always_wide p flutter whole k)) (in_bursts k))
      | inr lost ↦ behind_loss k (bursts k (omega arith) lost)
    ]

pub bursts_cost_no_more : BurstsCostNoMore
bursts_cost_no_more p flutter count whole cost k sane bursts is =
    let top : Spread = lost_spread p flutter never count in
    let same : lost_spread p flutter (heard_behind count) count ≡ top = same_yet p flutter count count (omega arith) in
    let here = in_bursts p flutter count whole bursts k in
    let next = in_bursts p flutter count whole bursts (suc k) in
    let far : lost_apart p flutter whole k ≤ Far p top = apart_under p flutter whole k top here next in
    let reached : Far p (lost_spread p flutter (heard_behind count) count) ≤ lost_apart p flutter (heard_behind count) count = far_within p flutter (heard_behind count) count in
    let most = is.peak.greatest count in
    let s : Spread = lost_spread p flutter whole k in
    let near : sharply_near_in p s ≤ sharply_near_in p top = near_grows p s.starts s.lengths top.starts top.lengths sane here.start here.long in
    let widest = is.reach.greatest count in (
      up (lost_apart p flutter whole k) (Far p top) (Far p (lost_spread p flutter (heard_behind count) count)) (lost_apart p flutter (heard_behind count) count) cost.peak far (ap (Far p) same) reached most,
      over (sharply_near_in p s) (sharply_near_in p top) (sharply_near_in p (lost_spread p flutter (heard_behind count) count)) cost.reach near (ap (sharply_near_in p) same) widest,
    )
  where
    up : (a b c d e : ℕ) → a ≤ b → c ≡ b → c ≤ d → d ≤ e → a ≤ e
    up a b c d e h is k m = omega (arith, h, is, k, m)

    over : (a b c d : ℕ) → a ≤ b → c ≡ b → c ≤ d → a ≤ d
    over a b c d h is k = omega (arith, h, is, k)

-- ---- of files

pub keeps_wider : (x : Setting) (h : Cycles) (double apart wide : ℕ) → apart ≤ wide → KeepsThrough x h double apart → KeepsThrough x h double wide
keeps_wider x h double apart wide le keeps = record { skew = λ macrotick is_odd less. further _ (keeps.skew macrotick is_odd less); ends = keeps.ends }
  where
    further : (z : ℤ) → z ≤ℤ pos apart → z ≤ℤ pos wide
    further z below = omega (arith, ints, below, le)

-- macroticks lie no further apart by lesser spreads
pub apart_below : (p : Values) (s t next other : Spread) → IsBelow s t → next.starts ≤ other.starts → max (Far p s) (next.starts + longest_micro p) ≤ max (Far p t) (other.starts + longest_micro p)
apart_below p s t next other below le = further (Far p s) (Far p t) next.starts other.starts (longest_micro p) (far_grows p s t below) le
  where
    further : (a b s t q : ℕ) → a ≤ b → s ≤ t → max a (s + q) ≤ max b (t + q)
    further a b s t q h k = grind arith

-- the number of a double cycle by what was heard since a later one is no greater than by what was heard since an earlier one
pub apart_later : LaterSpreadsAreLess → (beside : Bool) (p : Values) (from flutter : ℕ) (what : ℕ → Kinds) (double k : ℕ) → from ≤ double → (beside ≡ true → (m : ℕ) → IsNot heard.Clean (what m))
    → apart_through_losses beside p flutter (λ m. what (double + m)) k ≤ apart_since beside p from flutter what (double + k)
apart_later later beside p from flutter what double k late none =
    let now = later_since later beside p from flutter what double k late none in
    let next = later_since later beside p from flutter what double (suc k) late none in
    let one : (double + suc k) - from ≡ suc ((double + k) - from) = omega (arith, late) in
    let all : ℕ → Spread = λ n. spread_through_losses beside p flutter (λ m. what (from + m)) n in
    let At : ℕ → Type 0 = λ n. (spread_through_losses beside p flutter (λ m. what (double + m)) (suc k)).starts ≤ (all n).starts in
    apart_below p (spread_through_losses beside p flutter (λ m. what (double + m)) k) (all ((double + k) - from)) (spread_through_losses beside p flutter (λ m. what (double + m)) (suc k))
    (all (suc ((double + k) - from))) (record { start = now.0; long = now.1 }) (subst At one next.0)

-- nor than where nothing is asked of double cycles in which not all is heard
below_lost : SpreadsAreBelowLost → (p : Values) (flutter : ℕ) (what : ℕ → Kinds) (whole : ℕ → Bool) (k : ℕ) → ((m : ℕ) → whole m ≡ true → what m ≡ both heard.Clean)
    → apart_through_losses false p flutter what k ≤ lost_apart p flutter whole k
below_lost below p flutter what whole k clean =
    let one = below p flutter what whole k clean in
    let two = below p flutter what whole (suc k) clean in
    apart_below p (spread_through_losses false p flutter what k) (lost_spread p flutter whole k) (spread_through_losses false p flutter what (suc k)) (lost_spread p flutter whole (suc k)) (record { start = one.0; long = one.1 }) two.0

-- what is lost from a double cycle on, counted from it
from_there : (whole : ℕ → Bool) (from count : ℕ) → LosesInBurstsFrom whole from count → LosesInBursts (λ m. whole (from + m)) count
from_there whole from count bursts k late lost =
    let burst = bursts (from + k) (omega arith) lost in
    let begun = burst.begun in
    let within = burst.within in
    record {
      start = burst.start - from;
      begun = omega (arith, begun);
      within = omega (arith, within);
      calm = λ earlier since less le. burst.calm (from + earlier) (omega arith) (omega (arith, less)) (omega (arith, less, le));
    }

-- a run keeps within each number that what is heard from there on costs no more than
pub within_heard : HistoriesKeepThroughLosses → LaterSpreadsAreLess → (p : Values) (d : DriftView) (s : ScriptView) (from flutter reach peak : ℕ) (h : Cycles) (double passed : ℕ)
    → IsSane p → IsCoveredThroughLosses p d s from flutter reach → has_arbitrary p s ≡ false → IsRunOf (setting_of p d s) h
    → from ≤ double → IsInSharpSyncAt false p flutter (pos 0) h double → none_lacks (traffic_in p s) double ≡ true → double + passed < doubles_of d → WalkLastsAfter p flutter passed
    → apart_through_losses false p flutter (λ m. heard_in (traffic_in p s) (from + m)) ((double + passed) - from) ≤ peak → KeepsThrough (setting_of p d s) h (double + passed) peak
within_heard keep later p d s from flutter reach peak h double passed sane covered alone run late sync awake within lasts cost_is =
    let beside = has_arbitrary p s in
    let n : ℕ = (double + passed) - from in
    let what : ℕ → Kinds = λ m. heard_in (traffic_in p s) (from + m) in
    let now = apart_through_losses beside p flutter (λ m. heard_in (traffic_in p s) (double + m)) passed in
    let synced : IsInSharpSyncAt beside p flutter (pos 0) h double = subst (λ (b : Bool). IsInSharpSyncAt b p flutter (pos 0) h double) (sym alone) sync in
    let keeps = covered_files_keep_through_losses keep later p d s from flutter reach h double sane covered run late synced awake passed within lasts in
    let one = apart_later later beside p from flutter (λ m. heard_in (traffic_in p s) m) double passed late (none_is_clean p s) in
    let same : apart_through_losses beside p flutter what n ≡ apart_through_losses false p flutter what n = ap (λ (b : Bool). apart_through_losses b p flutter what n) alone in
    keeps_wider (setting_of p d s) h (double + passed) now peak
    (up now (apart_through_losses beside p flutter what n) (apart_through_losses false p flutter what n) peak one same cost_is)
    keeps
  where
    up : (a b c d : ℕ) → a ≤ b → b ≡ c → c ≤ d → a ≤ d
    up a b c d h is k = omega (arith, h, is, k)

-- so it does within each that what is lost from there on costs no more than
within_costs : HistoriesKeepThroughLosses → LaterSpreadsAreLess → SpreadsAreBelowLost → (p : Values) (d : DriftView) (s : ScriptView) (from flutter reach peak : ℕ) (h : Cycles) (double passed : ℕ)
    → IsSane p → IsCoveredThroughLosses p d s from flutter reach → has_arbitrary p s ≡ false → IsRunOf (setting_of p d s) h
    → from ≤ double → IsInSharpSyncAt false p flutter (pos 0) h double → none_lacks (traffic_in p s) double ≡ true → double + passed < doubles_of d → WalkLastsAfter p flutter passed
    → lost_apart p flutter (λ m. whole_in p s (from + m)) ((double + passed) - from) ≤ peak → KeepsThrough (setting_of p d s) h (double + passed) peak
within_costs keep later below p d s from flutter reach peak h double passed sane covered alone run late sync awake within lasts cost_is =
    let n : ℕ = (double + passed) - from in
    let what : ℕ → Kinds = λ m. heard_in (traffic_in p s) (from + m) in
    let whole : ℕ → Bool = λ m. whole_in p s (from + m) in
    let heard_costs = below_lost below p flutter what whole n (λ m. whole_is_clean p s alone (from + m)) in
    within_heard keep later p d s from flutter reach peak h double passed sane covered alone run late sync awake within lasts
    (up (apart_through_losses false p flutter what n) (lost_apart p flutter whole n) peak heard_costs cost_is)
  where
    up : (a b c : ℕ) → a ≤ b → b ≤ c → a ≤ c
    up a b c h k = omega (arith, h, k)

pub bursts_keep_the_peak : HistoriesKeepThroughLosses → LaterSpreadsAreLess → SpreadsAreBelowLost → BurstsKeepThePeak
bursts_keep_the_peak keep later below p d s from flutter count cost h double passed sane bursts is covered alone run late sync awake within lasts =
    let cost_is = bursts_cost_no_more p flutter count (λ m. whole_in p s (from + m)) cost ((double + passed) - from) sane (from_there (whole_in p s) from count bursts) is in
    within_costs keep later below p d s from flutter cost.reach cost.peak h double passed sane covered alone run late sync awake within lasts cost_is.0

-- ---- in every second double cycle

pub every_second_costs_no_more : EverySecondCostsNoMore
every_second_costs_no_more p from flutter whole cost passed every is = (is.peak.greatest (λ m. whole (from + m)) hears passed, is.reach.greatest (λ m. whole (from + m)) hears passed)
  where
    hears : HearsEverySecond (λ m. whole (from + m))
    hears k = elim (cases_Bool (whole (from + k))) [
      | inl heard ↦ inl heard
      | inr lost ↦
          let next : suc (from + k) ≡ from + suc k = omega arith in
          inr (subst (λ (m : ℕ). whole m ≡ true) next (every (from + k) (omega arith) lost))
    ]

pub every_second_keeps_the_peak : HistoriesKeepThroughLosses → LaterSpreadsAreLess → SpreadsAreBelowLost → EverySecondKeepsThePeak
every_second_keeps_the_peak keep later below p d s from flutter cost h double passed sane every is covered alone run late sync awake within lasts =
    let cost_is = every_second_costs_no_more p from flutter (whole_in p s) cost ((double + passed) - from) every is in
    within_costs keep later below p d s from flutter cost.reach cost.peak h double passed sane covered alone run late sync awake within lasts cost_is.0
