-- What a run loses, by its files: in how many double cycles, how far macroticks may then lie apart in each, whether each correct node
-- bears each, and whether the run is covered through losses.
use Rattle.std.specs.Prelude.{◌≡◌, ◌↔◌, ◌+◌, ◌-◌, ◌*◌, ◌<◌, ◌≤◌, ◌+ℤ◌, ℕ, zero, suc, pos, max, min, nat_le, nat_lt, Bool, true, false, not, ◌&&◌, if◌then◌else◌, List, Option, Some, None}
use Rattle.std.specs.List.{list_any}
use Rattle.std.specs.Option.{option_map_or}
use Rattle.fr_cluster.specs.Sane.{IsSane}
use Rattle.fr_cluster.specs.Values.{Values}
use Rattle.fr_cluster.specs.declared.nodes.NodeSpec.{NodeSpec}
use Rattle.fr_drift.specs.Files.{DriftFits}
use Rattle.fr_script.specs.Files.{ScriptFits}
use Rattle.fr_runs.specs.Gathered.{listened_by}
use Rattle.fr_bound.specs.SharpBounds.{near_by}
use Rattle.fr_promise.specs.JoinedHistories.{FirstRatesLast, KeepsJoined}
use Rattle.fr_promise.specs.SharpJoining.{group_spread_through, GroupSpread}
use Rattle.fr_promise.specs.SharpTested.{IsUnfollowedSharpSyncAt}
use Rattle.fr_sharp.specs.JoinedLosses.{TakesInJoining}
use Rattle.fr_sharp.specs.JoinedLossStatement.{group_since, IsCoveredToJoinThroughLosses, KeepsJoinedThroughLosses}
use Rattle.fr_traffic.specs.Reaching.{all_reach}
use Rattle.fr_drift.specs.Questions.{doubles_of}
use Rattle.fr_drift.specs.View.{DriftView}
use Rattle.fr_script.specs.View.{is_arbitrary, join_of, ScriptView}
use Rattle.fr_coverage.specs.Coverage.{gap_from, some_join}
use Rattle.fr_coverage.specs.Decided.{setting_of}
use Rattle.fr_coverage.specs.Flutter.{flutter_from}
use Rattle.fr_coverage.specs.declared.gap.Gap.{Gap}
use Rattle.fr_coverage.specs.declared.gap.Gap.TheVariants as gap
use Rattle.fr_history.specs.Cycles.{Cycles}
use Rattle.fr_promise.specs.Statement.{IsRunOf}
use Rattle.fr_precision.specs.declared.kinds.Kinds.{Kinds}
use Rattle.fr_precision.specs.Among.{apart_through_losses}
use Rattle.fr_sharp.specs.Bearing.{KeepsThrough}
use Rattle.fr_sharp.specs.LossCosts.{limits_hold}
use Rattle.fr_sharp.specs.LossStatement.{apart_since, run_strayed, IsCoveredThroughLosses}
use Rattle.fr_traffic.specs.Reaching.{whole_in}
use Rattle.fr_traffic.specs.Traffic.{all_bear_from, heard_in, is_borne_to_join, none_lacks, traffic_in}
use Rattle.fr_bound.specs.Checks.{holds_of}
use Rattle.fr_bound.specs.SharpBounds.{rate_room, walk_lasts}
use Rattle.fr_bound.specs.SharpChecks.{sharp_holds_of, RateSuffices}
use Rattle.fr_runs.specs.SharpHistories.{IsInSharpSyncAt}
use Rattle.fr_precision.specs.Lengths.{walk_on, walked_after}
use Rattle.fr_precision.specs.SharpRun.{WalkLastsAfter, WalkLastsUpTo}
use Rattle.fr_sharp.specs.SharpStatement.{has_arbitrary}
use Rattle.fr_sharp.specs.declared.losses_of_runs.RunLosses.{RunLosses}

-- ---- whether the rate limit suffices where nodes keep their rates

-- how far lengths walk in so many double cycles, or in as many as the walk lasts, in ticks
abbrev pub walked_at_most : Values → ℕ → ℕ → ℕ
walked_at_most p flutter passed = option_map_or (λ lasts. min lasts passed * walk_on p flutter) (walk_lasts p flutter) 0

-- under the second check it suffices for that and for how far they stray
abbrev pub stray_fits : Values → ℕ → ℕ → ℕ → Bool
stray_fits p flutter passed strayed = nat_le (walked_at_most p flutter passed + strayed) (rate_room p)

abbrev pub StrayFitsIsTold : Type 0
StrayFitsIsTold =
    (p : Values) (flutter most strayed : ℕ)
    → holds_of 2 p ≡ true
    → (stray_fits p flutter most strayed ≡ true)
    ↔ ((passed : ℕ) → passed ≤ most → WalkLastsUpTo p flutter passed → RateSuffices p (walked_after p flutter passed +ℤ pos strayed))

-- each correct node bears a double cycle, and behind it the rate limit suffices
abbrev pub is_borne : Values → ScriptView → ℕ → ℕ → ℕ → Bool
is_borne p s from flutter double =
    all_bear_from p (traffic_in p s) from double && stray_fits p flutter (suc double - from) (run_strayed p s from flutter (suc double))

-- ---- whether or not a correct node joins

-- each correct node bears a double cycle, and behind it the rate limit suffices; where a correct node joins, all is heard in it, or each
-- correct node that has begun trusts what it has of the senders that do not join
abbrev pub is_borne_of : Values → ScriptView → ℕ → ℕ → ℕ → Bool
is_borne_of p s from flutter double = if some_join p s then is_borne_to_join (traffic_in p s) double else is_borne p s from flutter double

-- how far macroticks may lie apart in a double cycle by what was heard since an earlier one or since it, in ticks
abbrev pub told_apart : Values → ScriptView → ℕ → ℕ → ℕ → ℕ
told_apart p s from flutter double = apart_since (has_arbitrary p s) p from flutter (heard_in (traffic_in p s)) double

-- some correct node listened so many double cycles before one
abbrev pub some_listened : List NodeSpec → ScriptView → ℕ → ℕ → Bool
some_listened nodes s ago double = list_any (λ node. not (is_arbitrary s node.id) && listened_by (join_of s node.id) ago double) nodes

-- how far action points may lie apart in a double cycle with such bounds, in ticks: of the nodes with rows, and of those that may follow
-- in it, by when they listened
abbrev pub near_in_group : Values → ScriptView → ℕ → GroupSpread → ℕ
near_in_group p s double spread =
    max (near_by p spread.rows.starts spread.rows.lengths)
    (max (if some_listened p.nodes s 2 double then near_by p spread.seconds spread.rows.lengths else 0)
    (if some_listened p.nodes s 1 double then near_by p spread.firsts.starts spread.firsts.lengths else 0))

-- by what was heard since an earlier one or since it; and so many double cycles after one
abbrev pub told_near : Values → ScriptView → ℕ → ℕ → ℕ → ℕ
told_near p s from flutter double =
    near_in_group p s double (group_since (has_arbitrary p s) p from flutter (heard_in (traffic_in p s)) double)

abbrev pub near_passed : Values → ScriptView → ℕ → ℕ → ℕ → ℕ
near_passed p s from flutter passed =
    near_in_group p s (from + passed) (group_spread_through (has_arbitrary p s) p flutter (λ m. heard_in (traffic_in p s) (from + m)) passed)

-- ---- what a run loses

-- how many of the first so many double cycles lose frames
unfoldable pub lost_before : (ℕ → Bool) → ℕ → ℕ
lost_before whole zero = 0
lost_before whole (suc k) = if whole k then lost_before whole k else lost_before whole k + 1

-- the last that does, from one on and below another, if one does
abbrev pub IsLastLost : (ℕ → Bool) → ℕ → ℕ → Option ℕ → Type 0
IsLastLost whole from doubles None = (k : ℕ) → from ≤ k → k < doubles → whole k ≡ true
IsLastLost whole from doubles (Some last) =
    (from ≤ last) × (last < doubles) × (whole last ≡ false) × ((k : ℕ) → last < k → k < doubles → whole k ≡ true)

-- of the double cycles from one on, so many in all: in how many, one or more, and the last of these; the greatest of the numbers by what
-- was heard since that one, and the first double cycle with it; a reach that takes in how far action points may lie apart; and whether
-- each double cycle is borne
pub record AreLosses (beside : Bool) (p : Values) (from flutter : ℕ) (whole : ℕ → Bool) (what : ℕ → Kinds) (trusted : ℕ → Bool) (near_in : ℕ → ℕ) (doubles : ℕ) (losses : RunLosses) : Type 0 where
  pub count : losses.doubles ≡ lost_before (λ m. whole (from + m)) (doubles - from)
  pub last : IsLastLost whole from doubles losses.last
  pub greatest : (k : ℕ) → from ≤ k → k < doubles → apart_since beside p from flutter what k ≤ losses.peak
  pub behind : from ≤ losses.place
  pub place : losses.place < doubles
  pub reached : apart_since beside p from flutter what losses.place ≡ losses.peak
  pub first : (k : ℕ) → from ≤ k → k < losses.place → apart_since beside p from flutter what k < losses.peak
  pub near : (k : ℕ) → from ≤ k → k < doubles → near_in k ≤ losses.reach
  pub least :
      (reach : ℕ) → ((k : ℕ) → from ≤ k → k < doubles → near_in k ≤ reach)
      → losses.reach ≤ reach
  pub always_trusted : losses.trusted ≡ true → (k : ℕ) → from ≤ k → k < doubles → trusted k ≡ true
  pub all_are_trusted : ((k : ℕ) → from ≤ k → k < doubles → trusted k ≡ true) → losses.trusted ≡ true

-- ---- the same, one double cycle after another

abbrev pub no_losses : ℕ → RunLosses
no_losses from = record { doubles = 0; last = None; peak = 0; place = from; reach = 0; trusted = true }

abbrev pub next_losses : Bool → Bool → ℕ → ℕ → ℕ → RunLosses → RunLosses
next_losses heard trusted double apart near was = record {
  doubles = if heard then was.doubles else was.doubles + 1;
  last = if heard then was.last else Some double;
  peak = if nat_lt was.peak apart then apart else was.peak;
  place = if nat_lt was.peak apart then double else was.place;
  reach = max was.reach near;
  trusted = was.trusted && trusted;
}

-- of so many double cycles from one on
unfoldable pub losses_by : Bool → Values → ℕ → ℕ → (ℕ → Bool) → (ℕ → Kinds) → (ℕ → Bool) → (ℕ → ℕ) → ℕ → RunLosses
losses_by beside p from flutter whole what trusted near zero = no_losses from
losses_by beside p from flutter whole what trusted near (suc k) =
    next_losses (whole (from + k)) (trusted (from + k)) (from + k) (apart_through_losses beside p flutter (λ m. what (from + m)) k)
    (near k) (losses_by beside p from flutter whole what trusted near k)

-- what the run of some parameters, a drift and a script loses from a double cycle on, where its delays flutter by so many ticks
abbrev pub losses_of : Values → DriftView → ScriptView → ℕ → ℕ → RunLosses
losses_of p d s from flutter =
    losses_by (has_arbitrary p s) p from flutter (whole_in p s) (heard_in (traffic_in p s)) (is_borne_of p s from flutter) (near_passed p s from flutter)
    (doubles_of d - from)

-- ---- whether it is covered through losses

-- it has no gap, or the first one is a link
abbrev pub is_link_at_most : Option Gap → Bool
is_link_at_most None = true
is_link_at_most (Some (gap.Link sender receiver double)) = true
is_link_at_most (Some (gap.Check number left right)) = false
is_link_at_most (Some (gap.Count correct arbitrary)) = false
is_link_at_most (Some (gap.Length node cycle ticks)) = false
is_link_at_most (Some (gap.Change node cycle ticks)) = false
is_link_at_most (Some (gap.Delay sender receiver ch cycle ticks)) = false

-- the sharper checks from 2 to 5 hold with the reach of what it loses
abbrev pub through_checks : Values → ℕ → ℕ → Bool
through_checks p flutter reach = sharp_holds_of 2 flutter reach p && limits_hold flutter reach p

-- what else is asked of the nodes and the links
abbrev pub through_nodes : Values → ScriptView → Option Gap → Bool
through_nodes p s found = is_link_at_most found && all_reach p.nodes s None

abbrev pub is_through_losses : Values → ScriptView → ℕ → Option Gap → RunLosses → Bool
is_through_losses p s flutter found losses = losses.trusted && (through_checks p flutter losses.reach && through_nodes p s found)

-- a run is covered through losses from a double cycle on, or covered to join through losses where a correct node joins
pub record IsThroughLosses (p : Values) (d : DriftView) (s : ScriptView) (from flutter reach : ℕ) : Type 0 where
  pub alone : some_join p s ≡ false → IsCoveredThroughLosses p d s from flutter reach
  pub joined : some_join p s ≡ true → IsCoveredToJoinThroughLosses p d s from flutter reach

-- ---- laws

-- a reach takes in the nodes with rows and those that may follow in a double cycle exactly where it is no less than this
abbrev pub NearIsTakenIn : Type 0
NearIsTakenIn =
    (p : Values) (d : DriftView) (s : ScriptView) (double reach : ℕ) (spread : GroupSpread)
    → TakesInJoining (setting_of p d s) spread double reach ↔ (near_in_group p s double spread ≤ reach)

-- what a run loses from a double cycle on means what it is called
abbrev pub LossesAreTold : Type 0
LossesAreTold =
    (p : Values) (d : DriftView) (s : ScriptView) (from flutter : ℕ)
    → from < doubles_of d
    → AreLosses (has_arbitrary p s) p from flutter (whole_in p s) (heard_in (traffic_in p s)) (is_borne_of p s from flutter) (told_near p s from flutter)
    (doubles_of d) (losses_of p d s from flutter)

-- what is said to be covered through losses is, with the reach of what it loses
abbrev pub ThroughLossesIsTold : Type 0
ThroughLossesIsTold =
    (p : Values) (d : DriftView) (s : ScriptView) (from flutter : ℕ)
    → IsSane p → from < doubles_of d → flutter_from p d s from ≤ flutter
    → is_through_losses p s flutter (gap_from p d s from) (losses_of p d s from flutter) ≡ true
    ↔ IsThroughLosses p d s from flutter (losses_of p d s from flutter).reach

-- then, from a double cycle in sharp sync on and as long as the walk lasts, no macroticks lie further apart in any than by the number of
-- that double cycle, which is no greater than the greatest
abbrev pub RunsKeepTheirBounds : Type 0
RunsKeepTheirBounds =
    (p : Values) (d : DriftView) (s : ScriptView) (from flutter : ℕ) (h : Cycles) (double passed : ℕ)
    → IsSane p → IsCoveredThroughLosses p d s from flutter (losses_of p d s from flutter).reach → IsRunOf (setting_of p d s) h
    → from ≤ double → IsInSharpSyncAt (has_arbitrary p s) p flutter (pos 0) h double → none_lacks (traffic_in p s) double ≡ true
    → double + passed < doubles_of d → WalkLastsAfter p flutter passed
    → KeepsThrough (setting_of p d s) h (double + passed) (told_apart p s from flutter (double + passed))
    × KeepsThrough (setting_of p d s) h (double + passed) (losses_of p d s from flutter).peak

-- what a run that a correct node joins keeps from a double cycle on: its promise; and as long as first rates last no macroticks of nodes
-- with rows lie further apart than by the number of their double cycle, which is no greater than the greatest, and no term of them or of
-- a node that follows is cut or missing
pub record KeepsJoinedAsTold (p : Values) (d : DriftView) (s : ScriptView) (from flutter : ℕ) (h : Cycles) (double : ℕ) : Type 0 where
  pub promise : KeepsJoinedThroughLosses p d s flutter h double
  pub bound :
      (passed : ℕ) → double + passed < doubles_of d → ((m : ℕ) → m ≤ passed → FirstRatesLast p flutter m)
      → KeepsJoined (setting_of p d s) h (double + passed) (told_apart p s from flutter (double + passed))
  pub peak :
      (passed : ℕ) → double + passed < doubles_of d → ((m : ℕ) → m ≤ passed → FirstRatesLast p flutter m)
      → KeepsJoined (setting_of p d s) h (double + passed) (losses_of p d s from flutter).peak

-- so it does from a double cycle in sharp sync on in which no node follows
abbrev pub JoinedRunsKeepTheirBounds : Type 0
JoinedRunsKeepTheirBounds =
    (p : Values) (d : DriftView) (s : ScriptView) (from flutter : ℕ) (h : Cycles) (double : ℕ)
    → IsSane p → DriftFits p d → ScriptFits p s → some_join p s ≡ true
    → IsCoveredToJoinThroughLosses p d s from flutter (losses_of p d s from flutter).reach → IsRunOf (setting_of p d s) h
    → from ≤ double → IsUnfollowedSharpSyncAt (has_arbitrary p s) p flutter h double → KeepsJoinedAsTold p d s from flutter h double
