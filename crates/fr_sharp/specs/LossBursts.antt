-- What a run keeps that loses frames in bursts: in no more than so many double cycles in a row, or so many odd cycles and the even ones
-- behind them, and before each burst two in which all is heard; or in no two in a row, for ever.
use Rattle.std.specs.Prelude.{◌≡◌, ◌⊎◌, ◌+◌, ◌<◌, ◌≤◌, ℕ, suc, pos, Bool, true, false}
use Rattle.fr_cluster.specs.Sane.{IsSane}
use Rattle.fr_cluster.specs.Values.{Values}
use Rattle.fr_drift.specs.Questions.{doubles_of}
use Rattle.fr_drift.specs.View.{DriftView}
use Rattle.fr_script.specs.View.{ScriptView}
use Rattle.fr_coverage.specs.Decided.{setting_of}
use Rattle.fr_history.specs.Cycles.{Cycles}
use Rattle.fr_promise.specs.Statement.{IsRunOf}
use Rattle.fr_sharp.specs.declared.loss_costs.LossCost.{LossCost}
use Rattle.fr_sharp.specs.declared.loss_costs.SecondCost.{SecondCost}
use Rattle.fr_bound.specs.declared.judging.Heard.TheVariants as heard
use Rattle.fr_precision.specs.Among.{apart_through_losses, both, lost_spread, spread_through_losses}
use Rattle.fr_precision.specs.declared.kinds.Kinds.{Kinds}
use Rattle.fr_sharp.specs.declared.loss_costs.CrossingCost.{CrossingCost}
use Rattle.fr_sharp.specs.LossCosts.{IsCrossingCost, IsLossCost, IsSecondCost}
use Rattle.fr_sharp.specs.Losses.{lost_apart}
use Rattle.fr_traffic.specs.Reaching.{whole_in}
use Rattle.fr_sharp.specs.LossStatement.{IsCoveredThroughLosses}
use Rattle.fr_runs.specs.SharpHistories.{IsInSharpSyncAt}
use Rattle.fr_sharp.specs.Bearing.{KeepsThrough}
use Rattle.fr_sharp.specs.SharpStatement.{has_arbitrary}
use Rattle.fr_traffic.specs.Traffic.{heard_in, none_lacks, traffic_in}
use Rattle.fr_precision.specs.SharpRun.{WalkLastsAfter}
use Rattle.fr_bound.specs.SharpSpreads.{sharply_near_in}

-- ---- in bursts

-- of those from a double cycle on one is among so many in a row, and in the two before them all is heard, as far as these are there
pub record IsInBurstFrom (whole : ℕ → Bool) (from count double : ℕ) : Type 0 where
  pub start : ℕ
  pub begun : start ≤ double
  pub within : double < start + count
  pub calm : (earlier : ℕ) → from ≤ earlier → earlier < start → start ≤ earlier + 2 → whole earlier ≡ true

-- each of them that loses frames is; and so of all double cycles
abbrev pub LosesInBurstsFrom : (ℕ → Bool) → ℕ → ℕ → Type 0
LosesInBurstsFrom whole from count = (double : ℕ) → from ≤ double → whole double ≡ false → IsInBurstFrom whole from count double

abbrev pub LosesInBursts : (ℕ → Bool) → ℕ → Type 0
LosesInBursts whole count = LosesInBurstsFrom whole 0 count

-- then no macroticks and no action points may lie further apart than where frames are lost in so many in a row alone
abbrev pub BurstsCostNoMore : Type 0
BurstsCostNoMore =
    (p : Values) (flutter count : ℕ) (whole : ℕ → Bool) (cost : LossCost) (double : ℕ)
    → IsSane p → LosesInBursts whole count → IsLossCost p flutter count cost
    → (lost_apart p flutter whole double ≤ cost.peak) × (sharply_near_in p (lost_spread p flutter whole double) ≤ cost.reach)

-- so a run of files that are covered through losses from a double cycle on, without arbitrary nodes, and loses frames in bursts from
-- there on, keeps within the peak, from each double cycle in sharp sync from there on in which no node lacks values and as long as the walk
-- lasts: no term is cut, none is missing but where a node has no value of its kind, and every correct node is active
abbrev pub BurstsKeepThePeak : Type 0
BurstsKeepThePeak =
    (p : Values) (d : DriftView) (s : ScriptView) (from flutter count : ℕ) (cost : LossCost) (h : Cycles) (double passed : ℕ)
    → IsSane p → LosesInBurstsFrom (whole_in p s) from count → IsLossCost p flutter count cost
    → IsCoveredThroughLosses p d s from flutter cost.reach → has_arbitrary p s ≡ false → IsRunOf (setting_of p d s) h
    → from ≤ double → IsInSharpSyncAt false p flutter (pos 0) h double → none_lacks (traffic_in p s) double ≡ true
    → double + passed < doubles_of d → WalkLastsAfter p flutter passed → KeepsThrough (setting_of p d s) h (double + passed) cost.peak

-- ---- in bursts that do not begin with a double cycle

-- of those from a double cycle on it is among so many in a row and one more, in which offsets are heard again, and in the two before them all
-- is heard of both kinds, as far as these are there
pub record IsInCrossingBurstFrom (what : ℕ → Kinds) (from count double : ℕ) : Type 0 where
  pub start : ℕ
  pub begun : start ≤ double
  pub within : double ≤ start + count
  pub heard_again : double ≡ start + count → (what double).offsets ≡ heard.Clean
  pub calm : (earlier : ℕ) → from ≤ earlier → earlier < start → start ≤ earlier + 2 → what earlier ≡ both heard.Clean

-- each of them is, or all is heard in it of both kinds
abbrev pub LosesInCrossingBurstsFrom : (ℕ → Kinds) → ℕ → ℕ → Type 0
LosesInCrossingBurstsFrom what from count =
    (double : ℕ) → from ≤ double → (what double ≡ both heard.Clean) ⊎ IsInCrossingBurstFrom what from count double

-- then no macroticks and no action points may lie further apart than where so many odd cycles and the even ones behind them lose frames
abbrev pub CrossingBurstsCostNoMore : Type 0
CrossingBurstsCostNoMore =
    (p : Values) (flutter count : ℕ) (what : ℕ → Kinds) (cost : CrossingCost) (double : ℕ)
    → IsSane p → 1 ≤ count → LosesInCrossingBurstsFrom what 0 count → IsCrossingCost p flutter count cost
    → (apart_through_losses false p flutter what double ≤ cost.peak)
    × (sharply_near_in p (spread_through_losses false p flutter what double) ≤ cost.reach)

-- so a run of files that are covered through losses from a double cycle on, without arbitrary nodes, and loses frames so from there on keeps
-- within that peak, as one that loses them in bursts of whole double cycles does
abbrev pub CrossingBurstsKeepThePeak : Type 0
CrossingBurstsKeepThePeak =
    (p : Values) (d : DriftView) (s : ScriptView) (from flutter count : ℕ) (cost : CrossingCost) (h : Cycles) (double passed : ℕ)
    → IsSane p → 1 ≤ count → LosesInCrossingBurstsFrom (heard_in (traffic_in p s)) from count → IsCrossingCost p flutter count cost
    → IsCoveredThroughLosses p d s from flutter cost.reach → has_arbitrary p s ≡ false → IsRunOf (setting_of p d s) h
    → from ≤ double → IsInSharpSyncAt false p flutter (pos 0) h double → none_lacks (traffic_in p s) double ≡ true
    → double + passed < doubles_of d → WalkLastsAfter p flutter passed → KeepsThrough (setting_of p d s) h (double + passed) cost.peak

-- ---- in every second double cycle

-- of any two of those from a double cycle on that follow each other all is heard in one, whatever the pattern. Of the first of them nothing
-- else is asked: it may lose frames whatever the one before it lost. So may the last one of a run, if the script loses none in the one behind
abbrev pub LosesEverySecondFrom : (ℕ → Bool) → ℕ → Type 0
LosesEverySecondFrom whole from = (double : ℕ) → from ≤ double → whole double ≡ false → whole (suc double) ≡ true

-- then from the first of them, in sharp sync, on no macroticks and no action points may lie further apart than what that costs
abbrev pub EverySecondCostsNoMore : Type 0
EverySecondCostsNoMore =
    (p : Values) (from flutter : ℕ) (whole : ℕ → Bool) (cost : SecondCost) (passed : ℕ)
    → LosesEverySecondFrom whole from → IsSecondCost p flutter cost
    → (lost_apart p flutter (λ m. whole (from + m)) passed ≤ cost.peak)
    × (sharply_near_in p (lost_spread p flutter (λ m. whole (from + m)) passed) ≤ cost.reach)

-- so a run of files that are covered through losses from a double cycle on, without arbitrary nodes, and loses frames in every second double
-- cycle from there on keeps within that peak, as one that loses them in bursts does: what is lost before counts no more
abbrev pub EverySecondKeepsThePeak : Type 0
EverySecondKeepsThePeak =
    (p : Values) (d : DriftView) (s : ScriptView) (from flutter : ℕ) (cost : SecondCost) (h : Cycles) (double passed : ℕ)
    → IsSane p → LosesEverySecondFrom (whole_in p s) from → IsSecondCost p flutter cost
    → IsCoveredThroughLosses p d s from flutter cost.reach → has_arbitrary p s ≡ false → IsRunOf (setting_of p d s) h
    → from ≤ double → IsInSharpSyncAt false p flutter (pos 0) h double → none_lacks (traffic_in p s) double ≡ true
    → double + passed < doubles_of d → WalkLastsAfter p flutter passed → KeepsThrough (setting_of p d s) h (double + passed) cost.peak
