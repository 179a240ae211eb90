-- What is promised of a run that nodes join and in which frames are lost, by its files. The words of it, from the top: `IsLawful` (what
-- a run is), `IsCoveredToJoinThroughLosses` (what is asked of the files), `heard_in`, `group_spread_through` (the numbers by what is
-- heard), `IsUnfollowedSharpSyncAt`, `FirstRatesLast`, `KeepsJoinedThroughLosses`, `StaysThrough`,
-- `comes_in_both`, `IsJoinedUpTo`.
use Rattle.std.specs.Prelude.{◌≡◌, ◌+◌, ◌-◌, ◌*◌, ◌<◌, ◌≤◌, ◌||◌, ℕ, suc, Bool, true, List, Contains, Some}
use Rattle.fr_base.specs.declared.channel.Channel.TheVariants as channel
use Rattle.fr_cluster.specs.Sane.{IsSane}
use Rattle.fr_cluster.specs.Setting.{correct_nodes}
use Rattle.fr_cluster.specs.Values.{Values}
use Rattle.fr_cluster.specs.declared.join.Join.{Join}
use Rattle.fr_cluster.specs.declared.nodes.NodeSpec.{NodeSpec}
use Rattle.fr_drift.specs.Files.{DriftFits, IsDriftFile}
use Rattle.fr_drift.specs.Questions.{doubles_of}
use Rattle.fr_drift.specs.View.{DriftView}
use Rattle.fr_script.specs.Files.{IsScriptFile, ScriptFits}
use Rattle.fr_script.specs.View.{join_of, ScriptView}
use Rattle.fr_bound.specs.SharpChecks.{SharpChecksHold}
use Rattle.fr_precision.specs.declared.kinds.Kinds.{Kinds}
use Rattle.fr_coverage.specs.Decided.{setting_of}
use Rattle.fr_coverage.specs.Flutter.{flutter_from}
use Rattle.fr_coverage.specs.Order.{HasNoGapFrom}
use Rattle.fr_history.specs.Cycles.{Cycles}
use Rattle.fr_promise.specs.JoinedHistories.{FirstRatesLast, IsJoinedUpTo}
use Rattle.fr_promise.specs.SharpJoining.{group_spread_through, GroupSpread}
use Rattle.fr_promise.specs.SharpTested.{IsUnfollowedSharpSyncAt}
use Rattle.fr_promise.specs.Statement.{IsRunOf}
use Rattle.fr_sharp.specs.JoinedLosses.{IsLossyJoinedFrom, StaysThrough, TakesInJoining}
use Rattle.fr_sharp.specs.LossStatement.{without_losses}
use Rattle.fr_sharp.specs.SharpStatement.{has_arbitrary}
use Rattle.fr_traffic.specs.Traffic.{heard_in, is_borne_to_join, rate_on, traffic_in, Traffic}

-- the bounds of a double cycle by what was heard since an earlier one or since it; and so by what is heard in a run
abbrev pub group_since : Bool → Values → ℕ → ℕ → (ℕ → Kinds) → ℕ → GroupSpread
group_since beside p from flutter what double = group_spread_through beside p flutter (λ m. what (from + m)) (double - from)

abbrev pub run_group : Values → DriftView → ScriptView → ℕ → ℕ → ℕ → GroupSpread
run_group p d s from flutter double = group_since (has_arbitrary p s) p from flutter (heard_in (traffic_in p s)) double

-- of the sharper checks those from 2 to 5 hold with a reach, in ticks, that takes in the nodes with rows of each double cycle from one on
-- and those that may follow in it, by what was heard since; from that double cycle on the run would have no gap if nothing were lost,
-- and its delays flutter by no more than so many ticks; and in each of these double cycles of each kind of values all is heard, or each
-- correct node that has begun trusts what it has of the senders that do not join. Correct nodes may join
pub record IsCoveredToJoinThroughLosses (p : Values) (d : DriftView) (s : ScriptView) (from flutter reach : ℕ) : Type 0 where
  pub checks : SharpChecksHold flutter reach p
  pub takes :
      (double : ℕ) → from ≤ double → double < doubles_of d
      → TakesInJoining (setting_of p d s) (run_group p d s from flutter double) double reach
  pub none : HasNoGapFrom p d (without_losses s) from
  pub flutters : flutter_from p d s from ≤ flutter
  pub hears :
      (double : ℕ) → from ≤ double → double < doubles_of d
      → is_borne_to_join (traffic_in p s) double ≡ true

-- such a drift and a script that fits give a run as the law of losses asks for
abbrev pub LossyFilesGiveJoinedRuns : Type 0
LossyFilesGiveJoinedRuns =
    (p : Values) (d : DriftView) (s : ScriptView) (from flutter reach : ℕ) (h : Cycles)
    → IsSane p → ScriptFits p s → IsCoveredToJoinThroughLosses p d s from flutter reach → IsRunOf (setting_of p d s) h
    → IsLossyJoinedFrom (has_arbitrary p s) (setting_of p d s) from flutter h

-- of one node at another the frames of both cycles of a double cycle come over one channel
abbrev pub comes_in_both : Traffic → NodeSpec → NodeSpec → ℕ → Bool
comes_in_both t a b double = rate_on true t a b double channel.A || rate_on true t a b double channel.B

-- what is kept from a double cycle on, whatever frames are lost and whoever joins
pub record KeepsJoinedThroughLosses (p : Values) (d : DriftView) (s : ScriptView) (flutter : ℕ) (h : Cycles) (double : ℕ) : Type 0 where
  -- as long as first rates have lasted the bounds by what was heard since hold, and no follower is left behind
  pub stays :
      (passed : ℕ) → double + passed < doubles_of d → ((m : ℕ) → m < passed → FirstRatesLast p flutter m)
      → StaysThrough (has_arbitrary p s) (setting_of p d s) flutter h double passed
  -- whoever listens in a double cycle e from this one on, in which its reference's frames of both cycles come to it over one channel,
  -- follows in cycles 2 e + 2 to 2 e + 5, and takes part from 2 e + 6 on, as far as to the last double cycle before which first rates have
  -- lasted
  pub joins_up_to :
      (passed : ℕ) → double + passed < doubles_of d → ((m : ℕ) → m < passed → FirstRatesLast p flutter m)
      → (node reference : NodeSpec) (join : Join)
      → Contains (correct_nodes (setting_of p d s)) node → join_of s node.id ≡ Some join → double ≤ join.double
      → Contains p.nodes reference → reference.id ≡ join.reference → comes_in_both (traffic_in p s) reference node join.double ≡ true
      → IsJoinedUpTo h node.id join (2 * suc (double + passed))

-- so it is of sane parameters, and of a drift and a script that fit them, that are covered to join through losses from a double cycle on,
-- from each one in sharp sync on from there in which no node follows
abbrev pub CoveredFilesKeepJoinedThroughLosses : Type 0
CoveredFilesKeepJoinedThroughLosses =
    (p : Values) (d : DriftView) (s : ScriptView) (from flutter reach : ℕ) (h : Cycles) (double : ℕ)
    → IsSane p → DriftFits p d → ScriptFits p s → IsCoveredToJoinThroughLosses p d s from flutter reach
    → IsRunOf (setting_of p d s) h → from ≤ double → IsUnfollowedSharpSyncAt (has_arbitrary p s) p flutter h double
    → KeepsJoinedThroughLosses p d s flutter h double

-- the promise: and of three accepted files
abbrev pub JoinedFilesKeepThroughLosses : Type 0
JoinedFilesKeepThroughLosses =
    (p : Values) (d : DriftView) (s : ScriptView) (drift script : List ℕ) (from flutter reach : ℕ) (h : Cycles) (double : ℕ)
    → IsSane p → IsDriftFile p d drift → IsScriptFile p s script → IsCoveredToJoinThroughLosses p d s from flutter reach
    → IsRunOf (setting_of p d s) h → from ≤ double → IsUnfollowedSharpSyncAt (has_arbitrary p s) p flutter h double
    → KeepsJoinedThroughLosses p d s flutter h double
