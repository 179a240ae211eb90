-- A run that nodes join and in which frames are lost: what a node with a row still makes of those that come, and one that follows, and
-- how far clocks then lie apart.
use Rattle.std.specs.Prelude.{◌≡◌, ◌≤◌, ◌<◌, ℕ, ℤ, ◌+◌, ◌*◌, Bool, true, length, Contains}
use Rattle.fr_cluster.specs.Setting.{Setting, correct_nodes}
use Rattle.fr_cluster.specs.declared.nodes.NodeSpec.{NodeSpec}
use Rattle.fr_bound.specs.SharpBounds.{near_by}
use Rattle.fr_bound.specs.SharpChecks.{SharpChecksHold}
use Rattle.fr_precision.specs.Among.{apart_through_losses}
use Rattle.fr_precision.specs.Lengths.{walked_after}
use Rattle.fr_precision.specs.Reception.{LeavesRoom}
use Rattle.fr_history.specs.Cycles.{Cycle, Cycles}
use Rattle.fr_history.specs.Lawful.{IsLawful}
use Rattle.fr_runs.specs.Gathered.{hearers_of, listened_by}
use Rattle.fr_runs.specs.Hearers.{group_of}
use Rattle.fr_runs.specs.References.{HaveReferences}
use Rattle.fr_runs.specs.Rounds.{IsDoubleOf}
use Rattle.fr_runs.specs.SteadyRuns.{IsTimedFrom, IsTimedPartFrom, MayHaveArbitrary}
use Rattle.fr_promise.specs.JoinedHistories.{FirstRatesLast, KeepsJoined}
use Rattle.fr_promise.specs.SharpGroup.{TakesInGroup}
use Rattle.fr_promise.specs.SharpJoined.{IsFollowedDouble, IsFollowedHearing, NoneIsLeftBehind}
use Rattle.fr_promise.specs.SharpJoining.{group_spread_through, GroupSpread}
use Rattle.fr_promise.specs.SharpTested.{IsUnfollowedSharpSyncAt}
use Rattle.fr_traffic.specs.Traffic.{heard_in, is_borne_to_join, traffic_of}

-- ---- one double cycle

-- in a double cycle whose nodes with rows lie so near, and those that follow near them, both hear what is said of it, of offsets and of
-- rates, where each that has begun bears it; with a reach that takes all in and for which slots leave room
abbrev pub FollowedDoublesHearInPart : Type 0
FollowedDoublesHearInPart =
    (beside : Bool) (x : Setting) (from flutter : ℕ) (h : Cycles) (double : ℕ) (earlier : Cycles) (even odd : Cycle) (s : GroupSpread) (reach beyond : ℤ)
    → IsTimedPartFrom x from flutter h → MayHaveArbitrary beside x → from ≤ double → IsDoubleOf h double earlier even odd
    → is_borne_to_join (traffic_of x) double ≡ true
    → LeavesRoom x.params reach → TakesInGroup x.params s (group_of x.params (hearers_of x earlier even odd double)) reach
    → IsFollowedDouble x s beyond earlier even odd double
    → IsFollowedHearing (heard_in (traffic_of x) double) x flutter earlier even odd double

-- ---- many double cycles

-- lawful cycles of a run that nodes join, with arbitrary sync nodes or without; in each double cycle from one on of each kind all is heard,
-- or each correct node that has begun trusts its list
pub record IsLossyJoinedFrom (beside : Bool) (x : Setting) (from flutter : ℕ) (h : Cycles) : Type 0 where
  pub covered : IsTimedFrom x from flutter
  pub arbitrary : MayHaveArbitrary beside x
  pub referenced : HaveReferences x
  pub lawful : IsLawful x h
  pub whole : length h ≡ 2 * x.doubles
  pub hears : (double : ℕ) → from ≤ double → double < x.doubles → is_borne_to_join (traffic_of x) double ≡ true

-- a reach takes in the nodes with rows of a double cycle, and those that may follow in it, by when they listened
pub record TakesInJoining (x : Setting) (s : GroupSpread) (double reach : ℕ) : Type 0 where
  pub rows : near_by x.params s.rows.starts s.rows.lengths ≤ reach
  pub seconds :
      (node : NodeSpec) → Contains (correct_nodes x) node → listened_by (x.join node.id) 2 double ≡ true
      → near_by x.params s.seconds s.rows.lengths ≤ reach
  pub firsts :
      (node : NodeSpec) → Contains (correct_nodes x) node → listened_by (x.join node.id) 1 double ≡ true
      → near_by x.params s.firsts.starts s.firsts.lengths ≤ reach

-- so many double cycles after one in sharp sync all lie within the bounds by what was heard; and where first rates still last, no
-- macroticks of nodes with rows lie further apart than these say, no term of them or of those that follow is cut or missing, and no
-- follower is left behind
pub record StaysThrough (beside : Bool) (x : Setting) (flutter : ℕ) (h : Cycles) (double passed : ℕ) : Type 0 where
  pub followed :
      (earlier : Cycles) (even odd : Cycle) → IsDoubleOf h (double + passed) earlier even odd
      → IsFollowedDouble x (group_spread_through beside x.params flutter (λ m. heard_in (traffic_of x) (double + m)) passed)
      (walked_after x.params flutter passed) earlier even odd (double + passed)
  pub keeps :
      FirstRatesLast x.params flutter passed
      → KeepsJoined x h (double + passed) (apart_through_losses beside x.params flutter (λ m. heard_in (traffic_of x) (double + m)) passed)
  pub joins :
      FirstRatesLast x.params flutter passed → (earlier : Cycles) (even odd : Cycle) → IsDoubleOf h (double + passed) earlier even odd
      → NoneIsLeftBehind x (double + passed) earlier even odd

-- it is so as long as first rates have lasted, under the checks but the first with a reach for all that follows
abbrev pub JoinedHistoriesKeepThroughLosses : Type 0
JoinedHistoriesKeepThroughLosses =
    (beside : Bool) (x : Setting) (from flutter : ℕ) (h : Cycles) (double reach : ℕ)
    → IsLossyJoinedFrom beside x from flutter h → from ≤ double → SharpChecksHold flutter reach x.params
    → ((k : ℕ) → double + k < x.doubles
    → TakesInJoining x (group_spread_through beside x.params flutter (λ m. heard_in (traffic_of x) (double + m)) k) (double + k) reach)
    → IsUnfollowedSharpSyncAt beside x.params flutter h double
    → (passed : ℕ) → double + passed < x.doubles → ((m : ℕ) → m < passed → FirstRatesLast x.params flutter m)
    → StaysThrough beside x flutter h double passed
