-- A lawful run that nodes join and whose delays flutter little: in which double cycles its nodes with rows are so near, or as near as
-- in sharp sync, and those that follow near them, and that this goes on.
use Rattle.std.specs.Prelude.{◌≡◌, ◌≤◌, ◌≤ℤ◌, ◌+ℤ◌, ◌+◌, ◌*◌, ℕ, suc, ℤ, pos, Bool, false, [], ◌∷◌, length, All, Contains, IsSome, Some}
use Rattle.fr_base.specs.Within.{IsWithin}
use Rattle.fr_base.specs.declared.state.State.TheVariants.{Active}
use Rattle.fr_cluster.specs.Setting.{Setting, correct_nodes}
use Rattle.fr_cluster.specs.declared.join.Join.{Join}
use Rattle.fr_cluster.specs.declared.nodes.NodeSpec.{NodeSpec}
use Rattle.fr_precision.specs.Among.{both}
use Rattle.fr_precision.specs.declared.kinds.Kinds.{Kinds}
use Rattle.fr_bound.specs.Bounds.{longest_micro}
use Rattle.fr_bound.specs.SharpBounds.{precision_by}
use Rattle.fr_precision.specs.Reception.{LeavesRoom}
use Rattle.fr_precision.specs.Round.{senders_of}
use Rattle.fr_history.specs.Catching.{begins_with}
use Rattle.fr_history.specs.Cycles.{Cycle, Cycles, told_of}
use Rattle.fr_history.specs.History.{row_for}
use Rattle.fr_history.specs.Lawful.{IsLawful}
use Rattle.fr_history.specs.Standing.{following_nodes, has_row, row_nodes}
use Rattle.fr_history.specs.Terms.{outcomes_in}
use Rattle.fr_runs.specs.Gathered.{followers_since, hearers_of, round_at}
use Rattle.fr_runs.specs.Hearers.{group_of}
use Rattle.fr_runs.specs.Links.{IsCarried}
use Rattle.fr_runs.specs.References.{HaveReferences, IsReference}
use Rattle.fr_runs.specs.Rounds.{IsDoubleOf}
use Rattle.fr_precision.specs.Lengths.{CanWalk}
use Rattle.fr_bound.specs.SharpChecks.{RateSuffices}
use Rattle.fr_promise.specs.SharpFollowing.{AreRowsAbout}
use Rattle.fr_promise.specs.SharpGroup.{GroupHears, IsSharpGroupKept, IsSteadyGroupKept, IsSteadyPlacing, TakesInGroup}
use Rattle.fr_promise.specs.SharpJoining.{all_heard, sharp_group_spread, sharp_reach, GroupGoesTo, GroupSpread, SharpJoinChecksHold}
use Rattle.fr_promise.specs.SharpListening.{RateTakesIn}
use Rattle.fr_precision.specs.SharpStep.{AreSharp, IsInSharpSync}
use Rattle.fr_runs.specs.SteadyRuns.{IsSteadyFrom, IsTimedPartFrom, IsWhole, MayHaveArbitrary}

-- lawful cycles of a run that nodes join, with or without arbitrary sync nodes, what is stated of the run from a double cycle on, and
-- the checks of nodes that join
pub record IsSteadyJoinedFrom (beside : Bool) (x : Setting) (from flutter : ℕ) (h : Cycles) : Type 0 where
  pub covered : IsSteadyFrom x from flutter
  pub arbitrary : MayHaveArbitrary beside x
  pub referenced : HaveReferences x
  pub checks : SharpJoinChecksHold beside flutter x.params
  pub lawful : IsLawful x h
  pub whole : length h ≡ 2 * x.doubles

abbrev pub IsSteadyJoined : Bool → Setting → ℕ → Cycles → Type 0
IsSteadyJoined beside x flutter h = IsSteadyJoinedFrom beside x 0 flutter h

-- in a double cycle the nodes with rows are active and lie so near, with rates within their limit, in microticks, and even lengths at
-- most so far beyond their range, in ticks; those that follow lie near them, with rates within the limit too
pub record IsFollowedDouble (x : Setting) (s : GroupSpread) (beyond : ℤ) (h : Cycles) (even odd : Cycle) (double : ℕ) : Type 0 where
  pub active_even : All (λ row. row.state ≡ Active) even.told.rows
  pub active_odd : All (λ row. row.state ≡ Active) odd.told.rows
  pub rows : AreRowsAbout x beyond even
  pub placed : IsSteadyPlacing x.params s beyond (group_of x.params (hearers_of x h even odd double))
  pub follower_rates :
      (node : NodeSpec) → Contains (following_nodes x h) node → IsWithin x.params.rate_limit (row_for even.followers node.id).rate
  -- no term is told of a node that had no row yet
  pub fresh :
      (node : NodeSpec) → Contains (correct_nodes x) node → has_row x h node.id ≡ false
      → outcomes_in x.params (told_of h) node.id ≡ []

-- one in which no node follows is such a one where the nodes with rows lie so near, whatever is said of followers
abbrev pub UnfollowedIsFollowed : Type 0
UnfollowedIsFollowed =
    (x : Setting) (from flutter : ℕ) (h : Cycles) (double : ℕ) (earlier : Cycles) (even odd : Cycle) (s : GroupSpread) (beyond : ℤ)
    → IsTimedPartFrom x from flutter h → from ≤ double → IsDoubleOf h double earlier even odd → RateSuffices x.params beyond
    → All (λ row. row.state ≡ Active) even.told.rows → All (λ row. row.state ≡ Active) odd.told.rows
    → AreSharp x.params s.rows.starts s.rows.lengths beyond even.told.rows → even.followers ≡ []
    → IsFollowedDouble x s beyond earlier even odd double

-- what its group comes to
abbrev pub IsFollowedKept : Setting → ℕ → GroupSpread → ℕ → ℤ → ℤ → ℤ → Cycles → Cycle → Cycle → ℕ → Type 0
IsFollowedKept x flutter to apart reach beyond next h even odd double =
    IsSteadyGroupKept x.params flutter to apart beyond next (senders_of (round_at x h even odd)) (group_of x.params (hearers_of x h even odd double)) reach

-- so much is heard in it
abbrev pub IsFollowedHearing : Kinds → Setting → ℕ → Cycles → Cycle → Cycle → ℕ → Type 0
IsFollowedHearing what x flutter h even odd double =
    GroupHears what x.params flutter (senders_of (round_at x h even odd)) (group_of x.params (hearers_of x h even odd double))

-- with a reach that takes all in and for which slots leave room all is heard where of any two nodes one channel carries the frames
-- of both cycles
abbrev pub FollowedDoublesHear : Type 0
FollowedDoublesHear =
    (beside : Bool) (x : Setting) (from flutter : ℕ) (h : Cycles) (double : ℕ) (earlier : Cycles) (even odd : Cycle) (s : GroupSpread) (reach beyond walk : ℤ)
    → IsTimedPartFrom x from flutter h → from ≤ double → IsDoubleOf h double earlier even odd → MayHaveArbitrary beside x → IsWhole x double
    → CanWalk x.params flutter beyond walk
    → LeavesRoom x.params reach → TakesInGroup x.params s (group_of x.params (hearers_of x earlier even odd double)) reach
    → IsFollowedDouble x s beyond earlier even odd double → IsFollowedHearing (both (all_heard beside)) x flutter earlier even odd double

-- its group comes to what the step says by what is heard
abbrev pub FollowedDoublesAreKept : Type 0
FollowedDoublesAreKept =
    (what : Kinds) (x : Setting) (from flutter : ℕ) (h : Cycles) (double : ℕ) (earlier : Cycles) (even odd : Cycle)
    (s to : GroupSpread) (apart : ℕ) (reach beyond walk next : ℤ)
    → IsTimedPartFrom x from flutter h → from ≤ double → IsDoubleOf h double earlier even odd
    → CanWalk x.params flutter beyond walk → pos 0 ≤ℤ next → (beyond +ℤ walk) ≤ℤ next
    → TakesInGroup x.params s (group_of x.params (hearers_of x earlier even odd double)) reach
    → IsFollowedHearing what x flutter earlier even odd double → GroupGoesTo what x.params flutter s to
    → precision_by x.params s.rows.starts s.rows.lengths ≤ apart → to.rows.starts + longest_micro x.params ≤ apart
    → IsFollowedDouble x s beyond earlier even odd double → IsFollowedKept x flutter to apart reach beyond next earlier even odd double

-- and where it comes to so much the next double cycle is such a one, whoever joined
abbrev pub FollowedDoublesGoOn : Type 0
FollowedDoublesGoOn =
    (x : Setting) (from flutter : ℕ) (h : Cycles) (double : ℕ) (earlier : Cycles) (even odd even2 odd2 : Cycle)
    (s to : GroupSpread) (apart : ℕ) (reach beyond next : ℤ)
    → IsTimedPartFrom x from flutter h → HaveReferences x → from ≤ double → IsDoubleOf h (suc double) (odd ∷ even ∷ earlier) even2 odd2
    → RateTakesIn x.params flutter beyond → RateSuffices x.params next
    → IsFollowedDouble x s beyond earlier even odd double → IsFollowedKept x flutter to apart reach beyond next earlier even odd double
    → IsFollowedDouble x to next (odd ∷ even ∷ earlier) even2 odd2 (suc double)

-- and no follower is left behind: whoever follows for the second time has a row behind the double cycle, and whoever follows for the
-- first time follows there for the second time
abbrev pub NoneIsLeftBehind : Setting → ℕ → Cycles → Cycle → Cycle → Type 0
NoneIsLeftBehind x double earlier even odd =
    ((node : NodeSpec) → Contains (followers_since x earlier 2 double) node → Contains (row_nodes x (odd ∷ even ∷ earlier)) node)
    × ((node : NodeSpec) → Contains (followers_since x earlier 1 double) node
    → Contains (followers_since x (odd ∷ even ∷ earlier) 2 (suc double)) node)

abbrev pub SteadyFollowersJoin : Type 0
SteadyFollowersJoin =
    (x : Setting) (from flutter : ℕ) (h : Cycles) (double : ℕ) (earlier : Cycles) (even odd : Cycle) (to : GroupSpread) (apart : ℕ) (reach beyond next : ℤ)
    → IsTimedPartFrom x from flutter h → from ≤ double → IsDoubleOf h double earlier even odd
    → IsFollowedKept x flutter to apart reach beyond next earlier even odd double → NoneIsLeftBehind x double earlier even odd

-- of the reference of a node that joins the frames of a double cycle come to it over one channel
abbrev pub IsReferenceCarried : Setting → NodeSpec → Join → ℕ → Type 0
IsReferenceCarried x node join double = (r : IsReference x node join) → IsCarried x r.reference node double

-- where they do a node that listens in such a double cycle begins to follow behind it, whatever else is lost, where its reference's
-- start is not below 0
abbrev pub FollowedListenersBegin : Type 0
FollowedListenersBegin =
    (x : Setting) (from flutter : ℕ) (h : Cycles) (double : ℕ) (earlier : Cycles) (even odd : Cycle) (s : GroupSpread) (beyond : ℤ) (node : NodeSpec) (join : Join)
    → IsTimedPartFrom x from flutter h → HaveReferences x → from ≤ double → IsDoubleOf h double earlier even odd → RateTakesIn x.params flutter beyond
    → IsFollowedDouble x s beyond earlier even odd double → Contains (correct_nodes x) node → x.join node.id ≡ Some join
    → join.double ≡ double → IsReferenceCarried x node join double → pos 0 ≤ℤ (row_for even.told.rows join.reference).start
    → IsSome (begins_with x (odd ∷ even ∷ earlier) node.id join)

-- ---- as near as in sharp sync

abbrev pub IsJoinedDouble : Bool → Setting → ℕ → ℤ → Cycles → Cycle → Cycle → ℕ → Type 0
IsJoinedDouble beside x flutter beyond h even odd double = IsFollowedDouble x (sharp_group_spread beside x.params flutter) beyond h even odd double

-- the numbers of such a double cycle: how far lengths may lie beyond their range in it, by how much they walk, and how far they may
-- lie in the next one; with them the rate limit suffices for first rates
pub record WalksJoined (beside : Bool) (x : Setting) (flutter : ℕ) (beyond walk next : ℤ) : Type 0 where
  pub walks : CanWalk x.params flutter beyond walk
  pub joins : RateTakesIn x.params flutter beyond
  pub from : pos 0 ≤ℤ next
  pub to : (beyond +ℤ walk) ≤ℤ next

-- then no term of any node is cut, with a row or following, and they come to where the sharper step says
abbrev pub JoinedDoublesAreKept : Type 0
JoinedDoublesAreKept =
    (beside : Bool) (x : Setting) (from flutter : ℕ) (h : Cycles) (double : ℕ) (earlier : Cycles) (even odd : Cycle) (beyond walk next : ℤ)
    → IsSteadyJoinedFrom beside x from flutter h → from ≤ double → IsDoubleOf h double earlier even odd → WalksJoined beside x flutter beyond walk next
    → IsJoinedDouble beside x flutter beyond earlier even odd double
    → IsSharpGroupKept beside x.params flutter beyond next (senders_of (round_at x earlier even odd))
    (group_of x.params (hearers_of x earlier even odd double)) (pos (sharp_reach beside x.params flutter))

-- and the next double cycle is such a one, whoever joined
abbrev pub JoinedDoublesGoOn : Type 0
JoinedDoublesGoOn =
    (beside : Bool) (x : Setting) (from flutter : ℕ) (h : Cycles) (double : ℕ) (earlier : Cycles) (even odd even2 odd2 : Cycle)
    (beyond walk next : ℤ)
    → IsSteadyJoinedFrom beside x from flutter h → from ≤ double → IsDoubleOf h (suc double) (odd ∷ even ∷ earlier) even2 odd2
    → WalksJoined beside x flutter beyond walk next → RateSuffices x.params next
    → IsJoinedDouble beside x flutter beyond earlier even odd double
    → IsJoinedDouble beside x flutter next (odd ∷ even ∷ earlier) even2 odd2 (suc double)

-- a double cycle in sharp sync in which no node follows is such a one
abbrev pub UnfollowedIsJoined : Type 0
UnfollowedIsJoined =
    (beside : Bool) (x : Setting) (from flutter : ℕ) (h : Cycles) (double : ℕ) (earlier : Cycles) (even odd : Cycle) (beyond : ℤ)
    → IsSteadyJoinedFrom beside x from flutter h → from ≤ double → IsDoubleOf h double earlier even odd → RateSuffices x.params beyond
    → IsInSharpSync beside x.params flutter beyond even.told.rows odd.told.rows → even.followers ≡ []
    → IsJoinedDouble beside x flutter beyond earlier even odd double

-- and in each such double cycle the nodes with rows are in sharp sync
abbrev pub JoinedIsInSharpSync : Type 0
JoinedIsInSharpSync =
    (beside : Bool) (x : Setting) (from flutter : ℕ) (h : Cycles) (double : ℕ) (earlier : Cycles) (even odd : Cycle) (beyond : ℤ)
    → IsSteadyJoinedFrom beside x from flutter h → from ≤ double → IsDoubleOf h double earlier even odd
    → IsJoinedDouble beside x flutter beyond earlier even odd double
    → IsInSharpSync beside x.params flutter beyond even.told.rows odd.told.rows

-- no follower is left behind
abbrev pub JoinedFollowersJoin : Type 0
JoinedFollowersJoin =
    (beside : Bool) (x : Setting) (from flutter : ℕ) (h : Cycles) (double : ℕ) (earlier : Cycles) (even odd : Cycle) (beyond walk next : ℤ)
    → IsSteadyJoinedFrom beside x from flutter h → from ≤ double → IsDoubleOf h double earlier even odd → WalksJoined beside x flutter beyond walk next
    → IsJoinedDouble beside x flutter beyond earlier even odd double → NoneIsLeftBehind x double earlier even odd

-- and a node that listens in such a double cycle begins to follow behind it, where its reference's start is not below 0
abbrev pub JoinedListenersBegin : Type 0
JoinedListenersBegin =
    (beside : Bool) (x : Setting) (from flutter : ℕ) (h : Cycles) (double : ℕ) (earlier : Cycles) (even odd : Cycle) (beyond : ℤ) (node : NodeSpec) (join : Join)
    → IsSteadyJoinedFrom beside x from flutter h → from ≤ double → IsDoubleOf h double earlier even odd → RateTakesIn x.params flutter beyond
    → IsJoinedDouble beside x flutter beyond earlier even odd double → Contains (correct_nodes x) node → x.join node.id ≡ Some join
    → join.double ≡ double → pos 0 ≤ℤ (row_for even.told.rows join.reference).start
    → IsSome (begins_with x (odd ∷ even ∷ earlier) node.id join)
