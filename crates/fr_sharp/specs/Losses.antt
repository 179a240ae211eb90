-- A run in which frames are lost: what a node still makes of those that come, and how far its clocks then lie apart. Of links nothing
-- is asked but that each correct node has a value, and discards at each end as many as there may be of arbitrary nodes.
use Rattle.std.specs.Prelude.{◌≡◌, ◌+◌, ◌<◌, ◌≤◌, ℕ, suc, ℤ, pos, max, Bool, true, false, map}
use Rattle.fr_cluster.specs.Setting.{Setting}
use Rattle.fr_cluster.specs.Values.{Values}
use Rattle.fr_bound.specs.Bounds.{longest_micro}
use Rattle.fr_history.specs.Cycles.{Cycle, Cycles, some_joins}
use Rattle.fr_runs.specs.Rounds.{IsDoubleOf}
use Rattle.fr_precision.specs.Among.{apart_through_losses, lost_spread, spread_through_losses, HeardSo}
use Rattle.fr_precision.specs.Round.{senders_of}
use Rattle.fr_runs.specs.Gathered.{round_at}
use Rattle.fr_sharp.specs.Bearing.{borne, KeepsThrough}
use Rattle.fr_traffic.specs.Traffic.{all_bear, heard_in, none_lacks, some_keep, traffic_of}
use Rattle.fr_precision.specs.Lengths.{walked_through}
use Rattle.fr_bound.specs.SharpBounds.{last_action, precision_by, sharp_precision}
use Rattle.fr_bound.specs.SharpChecks.{RateSuffices, SharpChecksHold}
use Rattle.fr_runs.specs.SharpHistories.{IsInSharpSyncAt, IsStatedRunFrom}
use Rattle.fr_precision.specs.SharpRun.{WalkLastsAfter}
use Rattle.fr_bound.specs.SharpSpreads.{sharply_near_in}
use Rattle.fr_runs.specs.SteadyRuns.{row_members, AreRowsInReach, IsTimedPartFrom, MayHaveArbitrary}

-- in one of its double cycles that each correct node bears the nodes with rows hear what is said of it, of offsets and of rates
abbrev pub RowsHear : Type 0
RowsHear =
    (beside : Bool) (x : Setting) (from flutter : ℕ) (h earlier : Cycles) (even odd : Cycle) (double : ℕ) (reach : ℤ)
    → some_joins x ≡ false → IsTimedPartFrom x from flutter h → MayHaveArbitrary beside x → from ≤ double → IsDoubleOf h double earlier even odd
    → all_bear x.params (traffic_of x) double ≡ true → AreRowsInReach x earlier even odd reach
    → HeardSo (heard_in (traffic_of x) double) (some_keep (traffic_of x) double) x.params flutter (senders_of (round_at x earlier even odd))
    (map borne (row_members x earlier even odd)) (pos (last_action x.params))

-- a whole lawful history of such a run, with arbitrary sync nodes or without; each correct node bears each of its double cycles from one
-- on
pub record IsLossyRunFrom (beside : Bool) (x : Setting) (from flutter : ℕ) (h : Cycles) : Type 0 where
  pub run : IsStatedRunFrom x from flutter h
  pub arbitrary : MayHaveArbitrary beside x
  pub borne : (double : ℕ) → from ≤ double → double < x.doubles → all_bear x.params (traffic_of x) double ≡ true

abbrev pub IsLossyRun : Bool → Setting → ℕ → Cycles → Type 0
IsLossyRun beside x flutter h = IsLossyRunFrom beside x 0 flutter h

-- how far macroticks may lie apart so many double cycles after one in sharp sync without arbitrary nodes, where all is heard in some and
-- nothing is asked of others: as far as starts and lengths say, or as the next starts do
abbrev pub lost_apart : Values → ℕ → (ℕ → Bool) → ℕ → ℕ
lost_apart p flutter whole passed =
    max (precision_by p (lost_spread p flutter whole passed).starts (lost_spread p flutter whole passed).lengths)
    ((lost_spread p flutter whole (suc passed)).starts + longest_micro p)

-- from a double cycle in sharp sync on in which no node lacks values, with lengths in their range, under the checks but the first with a
-- reach for all that follows, and with a rate limit that suffices for how far lengths walk and stray: whatever is lost, no macroticks lie
-- further apart than that, no term is cut, none is missing but where a node has no value of its kind, and each node is active
abbrev pub HistoriesKeepThroughLosses : Type 0
HistoriesKeepThroughLosses =
    (beside : Bool) (x : Setting) (from flutter : ℕ) (h : Cycles) (double reach : ℕ)
    → IsLossyRunFrom beside x from flutter h → from ≤ double → SharpChecksHold flutter reach x.params
    → ((k : ℕ) → double + k < x.doubles
    → sharply_near_in x.params (spread_through_losses beside x.params flutter (λ m. heard_in (traffic_of x) (double + m)) k) ≤ reach)
    → ((k : ℕ) → double + k < x.doubles → WalkLastsAfter x.params flutter k
    → RateSuffices x.params (walked_through x.params flutter (λ m. some_keep (traffic_of x) (double + m)) (suc k)))
    → IsInSharpSyncAt beside x.params flutter (pos 0) h double → none_lacks (traffic_of x) double ≡ true
    → (passed : ℕ) → double + passed < x.doubles → WalkLastsAfter x.params flutter passed
    → KeepsThrough x h (double + passed) (apart_through_losses beside x.params flutter (λ m. heard_in (traffic_of x) (double + m)) passed)

-- where all was heard in the two double cycles before one and is heard in it, that is the sharper precision again
abbrev pub SharpAfterTwoWhole : Type 0
SharpAfterTwoWhole =
    (p : Values) (flutter : ℕ) (whole : ℕ → Bool) (passed : ℕ)
    → whole passed ≡ true → whole (suc passed) ≡ true → whole (suc (suc passed)) ≡ true
    → lost_apart p flutter whole (suc (suc passed)) ≡ sharp_precision false p flutter
