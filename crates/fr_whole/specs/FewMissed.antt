-- Where each node misses the frames of few other sync nodes in each double cycle the lists of any two meet, so that clocks keep as near as
-- beside arbitrary nodes, for ever; and why no more may be missed.
use Rattle.std.specs.Prelude.{◌≡◌, ◌⊎◌, ◌+◌, ◌<◌, ◌≤◌, ℕ, pos, Bool, true, false, not, if◌then◌else◌, List, Contains, None}
use Rattle.fr_base.specs.Event as event
use Rattle.fr_base.specs.declared.channel.Channel.TheVariants as channel
use Rattle.fr_cluster.specs.Sane.{IsSane}
use Rattle.fr_cluster.specs.Values.{Values}
use Rattle.fr_cluster.specs.declared.nodes.NodeSpec.{NodeSpec}
use Rattle.fr_bound.specs.SharpSpreads.{sharply_near_in}
use Rattle.fr_bound.specs.declared.judging.Heard.TheVariants as heard
use Rattle.fr_coverage.specs.Decided.{setting_of}
use Rattle.fr_coverage.specs.Links.{shares}
use Rattle.fr_drift.specs.Questions.{doubles_of}
use Rattle.fr_drift.specs.View.{DriftView}
use Rattle.fr_history.specs.Cycles.{Cycles}
use Rattle.fr_precision.specs.Among.{apart_through_losses, spread_through_losses, IsNot}
use Rattle.fr_precision.specs.declared.kinds.Kinds.{Kinds}
use Rattle.fr_precision.specs.SharpRun.{WalkLastsAfter}
use Rattle.fr_promise.specs.Statement.{IsRunOf}
use Rattle.fr_runs.specs.SharpHistories.{IsInSharpSyncAt, KeepsApart}
use Rattle.fr_script.specs.View.{ScriptView}
use Rattle.fr_sharp.specs.declared.meeting_costs.MeetingCost.{MeetingCost}
use Rattle.fr_sharp.specs.LossStatement.{IsCoveredThroughLosses}
use Rattle.fr_sharp.specs.MeetingCosts.{may_miss, sync_nodes, IsMeetingCost, IsMostMissed}
use Rattle.fr_sharp.specs.SharpStatement.{has_arbitrary}
use Rattle.fr_traffic.specs.Traffic.{arbitrary_count, has_value, is_correct_sender, lists_meet, sender_count, traffic_in, Traffic}

-- in a double cycle each correct node has no value of so many correct senders at most, of each kind of values, and surely has one of
-- each other: frames are lost and none is damaged
pub record LosesFew (t : Traffic) (missed double : ℕ) : Type 0 where
  pub few :
      (rate : Bool) (b : NodeSpec) → Contains t.nodes b → t.is_arbitrary b.id ≡ false
      → sender_count t (λ a. not (has_value rate true t double b a)) ≤ missed
  pub clear :
      (rate : Bool) (a b : NodeSpec) → Contains t.nodes a → Contains t.nodes b → t.is_arbitrary b.id ≡ false
      → is_correct_sender t a ≡ true → has_value rate false t double b a ≡ has_value rate true t double b a

-- then lists meet, whichever these are
abbrev pub FewMissedMeet : Type 0
FewMissedMeet =
    (t : Traffic) (missed double : ℕ)
    → arbitrary_count t ≡ 0 → ((a : NodeSpec) → Contains t.nodes a → is_correct_sender t a ≡ true → t.join a.id ≡ None)
    → LosesFew t missed double → may_miss (sender_count t (λ a. true)) missed ≡ true
    → (lists_meet false t double ≡ true) × (lists_meet true t double ≡ true)

-- and no macroticks and no action points lie further apart than so, by what is heard, for ever
abbrev pub MeetingCostsNoMore : Type 0
MeetingCostsNoMore =
    (p : Values) (flutter : ℕ) (what : ℕ → Kinds) (cost : MeetingCost) (double : ℕ)
    → IsSane p → IsMeetingCost p flutter cost → ((k : ℕ) → IsNot heard.Poor (what k))
    → (apart_through_losses false p flutter what double ≤ cost.peak)
    × (sharply_near_in p (spread_through_losses false p flutter what double) ≤ cost.reach)

-- so a run of files that are covered through losses, without arbitrary nodes, keeps within that where each node misses so few in each
-- double cycle from one on: from each double cycle in sharp sync on and as long as the walk lasts. As these are fewer than all senders, no
-- node lacks values in any of them: no term is cut, none is missing, and every correct node is active
abbrev pub FewMissedKeepThePeak : Type 0
FewMissedKeepThePeak =
    (p : Values) (d : DriftView) (s : ScriptView) (from flutter : ℕ) (cost : MeetingCost) (h : Cycles) (double passed : ℕ)
    → IsSane p → IsMeetingCost p flutter cost → ((k : ℕ) → from ≤ k → LosesFew (traffic_in p s) cost.missed k)
    → IsCoveredThroughLosses p d s from flutter cost.reach → has_arbitrary p s ≡ false → IsRunOf (setting_of p d s) h
    → from ≤ double → IsInSharpSyncAt false p flutter (pos 0) h double
    → double + passed < doubles_of d → WalkLastsAfter p flutter passed → KeepsApart (setting_of p d s) h (double + passed) cost.peak

-- ---- why no more may be missed

-- any two nodes have a channel in common
abbrev pub AllShare : List NodeSpec → Type 0
AllShare nodes =
    (a b : NodeSpec) → Contains nodes a → Contains nodes b → (shares a b channel.A ≡ true) ⊎ (shares a b channel.B ≡ true)

-- correct nodes of which some lose the frames of others, by identifiers, and hear all else
abbrev pub traffic_losing : List NodeSpec → (ℕ → ℕ → Bool) → Traffic
traffic_losing nodes lost = record {
  nodes = nodes;
  is_arbitrary = λ id. false;
  join = λ id. None;
  event = λ cycle sender receiver ch. if lost sender receiver then event.Silent else event.Regular;
}

-- of any cluster of two sync nodes or more in which any two nodes have a channel in common: each may miss one more so that lists do not
-- meet
abbrev pub OneMoreMayPart : Type 0
OneMoreMayPart =
    (p : Values) (missed double : ℕ) → IsSane p → AllShare p.nodes → 2 ≤ sync_nodes p → IsMostMissed (sync_nodes p) missed
    → (lost : ℕ → ℕ → Bool)
    × LosesFew (traffic_losing p.nodes lost) (missed + 1) double
    × (lists_meet false (traffic_losing p.nodes lost) double ≡ false)
    × (lists_meet true (traffic_losing p.nodes lost) double ≡ false)
