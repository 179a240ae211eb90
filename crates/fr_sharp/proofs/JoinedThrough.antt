-- A lawful history that nodes join and in which frames are lost keeps to the bounds by what was heard.
use Rattle.std.proofs.Common.{◌≡◌, ℕ, suc, ◌+◌, ◌<◌, ◌≤◌, Bool, true, ℤ, pos, map, sym, subst, lit≤, arith}
use Rattle.std.specs.Prelude.{◌≤ℤ◌, Contains, max}
use Rattle.std.proofs.lemmas.Int.{ints}
use Rattle.fr_cluster.proofs.Elements.{filtered}
use Rattle.fr_cluster.specs.Sane.{IsSane}
use Rattle.fr_cluster.specs.Setting.{Setting}
use Rattle.fr_cluster.specs.Values.{Values}
use Rattle.fr_cluster.specs.declared.nodes.NodeSpec.{NodeSpec}
use Rattle.fr_bound.specs.Bounds.{longest_micro}
use Rattle.fr_bound.specs.Checks.{holds_of}
use Rattle.fr_bound.specs.SharpBounds.{near_by, precision_by, rate_walk}
use Rattle.fr_bound.specs.SharpChecks.{SharpChecksHold}
use Rattle.fr_bound.specs.declared.settling.Spread.{Spread}
use Rattle.fr_precision.specs.Among.{apart_through_losses, spread_through_losses}
use Rattle.fr_precision.specs.declared.kinds.Kinds.{Kinds}
use Rattle.fr_precision.specs.Lengths.{walked_after, CanWalk}
use Rattle.fr_precision.specs.Offsets.{LimitSuffices}
use Rattle.fr_precision.specs.Reception.{LeavesRoom}
use Rattle.fr_precision.specs.Round.{Hearer}
use Rattle.fr_precision.specs.Step.{Member}
use Rattle.fr_precision.proofs.BoundLemmas.{sharp_checks_suffice_lem, walk_is_held, walked_none}
use Rattle.fr_precision.proofs.RoundLemmas.{map_contains}
use Rattle.fr_history.specs.Cycles.{Cycle, Cycles}
use Rattle.fr_history.specs.Standing.{following_nodes}
use Rattle.fr_runs.specs.Gathered.{follower_hearer, followers_since, hearers_of, listened_by}
use Rattle.fr_runs.specs.Hearers.{group_of, member_from}
use Rattle.fr_runs.specs.Rounds.{IsDoubleOf}
use Rattle.fr_runs.specs.SteadyRuns.{IsTimedPartFrom}
use Rattle.fr_runs.proofs.Courses.{is_correct_follower}
use Rattle.fr_promise.specs.JoinedHistories.{FirstRatesLast}
use Rattle.fr_promise.specs.SharpGroup.{TakesInGroup}
use Rattle.fr_promise.specs.SharpJoined.{IsFollowedDouble, IsFollowedHearing, IsFollowedKept}
use Rattle.fr_promise.specs.SharpJoining.{group_spread_through, sharp_group_spread, GroupSpread}
use Rattle.fr_promise.specs.SharpTested.{IsUnfollowedSharpSyncAt}
use Rattle.fr_promise.proofs.JoinBounds.{group_spreads_go}
use Rattle.fr_promise.proofs.JoinedDoubles.{followed_doubles_are_kept, unfollowed_is_followed}
use Rattle.fr_promise.proofs.FollowedRuns.{followed, followed_joins, followed_keeps, IsFollowedRun}
use Rattle.fr_promise.proofs.JoinedRuns.{unfollowed_in, within_range}
use Rattle.fr_sharp.specs.JoinedLosses.{FollowedDoublesHearInPart, IsLossyJoinedFrom, JoinedHistoriesKeepThroughLosses, TakesInJoining}
use Rattle.fr_traffic.specs.Traffic.{heard_in, traffic_of}

-- ---- numbers

-- how far macroticks may lie apart is as far as both ends say
apart_fits : (beside : Bool) (p : Values) (flutter : ℕ) (what : ℕ → Kinds) (k : ℕ)
    → (precision_by p (group_spread_through beside p flutter what k).rows.starts (group_spread_through beside p flutter what k).rows.lengths ≤ apart_through_losses beside p flutter what k)
    × ((group_spread_through beside p flutter what (suc k)).rows.starts + longest_micro p ≤ apart_through_losses beside p flutter what k)
apart_fits beside p flutter what k =
    let both = most (precision_by p (spread_through_losses beside p flutter what k).starts (spread_through_losses beside p flutter what k).lengths) ((spread_through_losses beside p flutter what (suc k)).starts + longest_micro p) in
    let apart = apart_through_losses beside p flutter what k in
    let Now : Spread → Type 0 = λ s. precision_by p s.starts s.lengths ≤ apart in
    let Next : Spread → Type 0 = λ s. s.starts + longest_micro p ≤ apart in
    (subst Now (sym (group_spreads_go beside p flutter what k).1) both.0, subst Next (sym (group_spreads_go beside p flutter what (suc k)).1) both.1)
  where
    most : (a b : ℕ) → (a ≤ max a b) × (b ≤ max a b)
    most a b = (grind arith, grind arith)

-- ---- a history

module _
    (hear : FollowedDoublesHearInPart) (beside : Bool) (x : Setting) (from flutter : ℕ) (h : Cycles) (double reach : ℕ) (w : IsLossyJoinedFrom beside x from flutter h) (late : from ≤ double) (checks : SharpChecksHold flutter reach x.params)
    (fits : (k : ℕ) → double + k < x.doubles → TakesInJoining x (group_spread_through beside x.params flutter (λ m. heard_in (traffic_of x) (double + m)) k) (double + k) reach)
    (begin : IsUnfollowedSharpSyncAt beside x.params flutter h double) where
  abbrev on : ℕ → Kinds
  on k = heard_in (traffic_of x) (double + k)

  abbrev spread : ℕ → GroupSpread
  spread k = group_spread_through beside x.params flutter (λ m. heard_in (traffic_of x) (double + m)) k

  abbrev apart : ℕ → ℕ
  apart k = apart_through_losses beside x.params flutter (λ m. heard_in (traffic_of x) (double + m)) k

  abbrev beyond : ℕ → ℤ
  beyond k = walked_after x.params flutter k

  part : IsTimedPartFrom x from flutter h
  part = record { covered = w.covered; lawful = w.lawful; within = (let whole = w.whole in omega (arith, whole)) }

  sane : IsSane x.params
  sane = w.covered.sane

  second : holds_of 2 x.params ≡ true
  second = checks 2 (lit≤ tt) (lit≤ tt)

  limit : LimitSuffices x.params (pos reach)
  limit = (sharp_checks_suffice_lem x.params flutter reach sane checks).0

  room : LeavesRoom x.params (pos reach)
  room = (sharp_checks_suffice_lem x.params flutter reach sane checks).1

  no_more : (a b : ℕ) → a ≤ b → pos a ≤ℤ pos b
  no_more a b le = omega (arith, ints, le)

  -- ---- one double cycle

  module _ (k : ℕ) (within : double + k < x.doubles) (last : FirstRatesLast x.params flutter k) (earlier : Cycles) (even odd : Cycle) (d : IsDoubleOf h (double + k) earlier even odd)
      (g : IsFollowedDouble x (group_spread_through beside x.params flutter (λ m. heard_in (traffic_of x) (double + m)) k) (walked_after x.params flutter k) earlier even odd (double + k)) where
    -- a node that follows listened before
    listened : (ago : ℕ) (node : Member) → Contains (map (member_from x.params) (map (λ (n : NodeSpec). follower_hearer x even odd n.id) (followers_since x earlier ago (double + k)))) node
        → (n : NodeSpec) × Contains (following_nodes x earlier) n × (listened_by (x.join n.id) ago (double + k) ≡ true)
    listened ago node here =
        let at : NodeSpec → Hearer = λ n. follower_hearer x even odd n.id in
        let n = map_contains (member_from x.params) (map at (followers_since x earlier ago (double + k))) node here in
        let of = map_contains at (followers_since x earlier ago (double + k)) n.0 n.1 in
        let both = filtered (λ (n : NodeSpec). listened_by (x.join n.id) ago (double + k)) (following_nodes x earlier) of.0 of.1 in
        (of.0, both.0, both.1)

    takes : TakesInGroup x.params (spread k) (group_of x.params (hearers_of x earlier even odd (double + k))) (pos reach)
    takes =
        let in_reach = fits k within in
        let s = spread k in
        record {
          limit = limit;
          fits = no_more (near_by x.params s.rows.starts s.rows.lengths) reach in_reach.rows;
          fits_seconds = λ node here.
              let of = listened 2 node here in
              no_more (near_by x.params s.seconds s.rows.lengths) reach (in_reach.seconds of.0 (is_correct_follower x earlier of.0 of.1) of.2);
          fits_firsts = λ node here.
              let of = listened 1 node here in
              no_more (near_by x.params s.firsts.starts s.firsts.lengths) reach (in_reach.firsts of.0 (is_correct_follower x earlier of.0 of.1) of.2);
        }

    walks : CanWalk x.params flutter (beyond k) (rate_walk x.params flutter)
    walks = (walk_is_held x.params flutter k sane second last.0).0

    hears : IsFollowedHearing (on k) x flutter earlier even odd (double + k)
    hears =
        hear beside x from flutter h (double + k) earlier even odd (spread k) (pos reach) (beyond k) part w.arbitrary (omega (arith, late)) d (w.hears (double + k) (omega (arith, late)) within) room takes
        g

    kept : IsFollowedKept x flutter (spread (suc k)) (apart k) (pos reach) (beyond k) (beyond (suc k)) earlier even odd (double + k)
    kept =
        let held = walk_is_held x.params flutter k sane second last.0 in
        let both = apart_fits beside x.params flutter on k in
        followed_doubles_are_kept (on k) x from flutter h (double + k) earlier even odd (spread k) (spread (suc k)) (apart k) (pos reach) (beyond k) (rate_walk x.params flutter) (beyond (suc k)) part (omega (arith, late))
        d held.0 held.1 held.2 takes hears (group_spreads_go beside x.params flutter on k).0 both.0 both.1 g

  -- ---- from the first on

  first : (earlier : Cycles) (even odd : Cycle) → IsDoubleOf h double earlier even odd → IsFollowedDouble x (spread 0) (beyond 0) earlier even odd double
  unfolding group_spread_through
  first earlier even odd d =
      let at = unfollowed_in beside x flutter h double begin earlier even odd d in
      let At : ℤ → Type 0 = λ z. IsFollowedDouble x (sharp_group_spread beside x.params flutter) z earlier even odd double in
      subst At (sym (walked_none x.params flutter))
      (
      unfollowed_is_followed x from flutter h double earlier even odd (sharp_group_spread beside x.params flutter) (pos 0) part late d (within_range x.params second) at.0.active_even
      at.0.active_odd at.0.rows at.1
      )

  run : IsFollowedRun x from flutter h double spread apart (pos reach)
  run = record { part = part; whole = w.whole; referenced = w.referenced; late = late; second = second; first = first; kept = kept }

pub joined_histories_keep_through_losses : FollowedDoublesHearInPart → JoinedHistoriesKeepThroughLosses
joined_histories_keep_through_losses hear beside x from flutter h double reach w late checks fits begin passed within lasting =
    let r = run hear beside x from flutter h double reach w late checks fits begin in
    let on : ℕ → Kinds = λ m. heard_in (traffic_of x) (double + m) in
    let spread : ℕ → GroupSpread = λ k. group_spread_through beside x.params flutter on k in
    let apart : ℕ → ℕ = λ k. apart_through_losses beside x.params flutter on k in
    record {
      followed = followed x from flutter h double spread apart (pos reach) r passed within lasting;
      keeps = λ last. followed_keeps x from flutter h double spread apart (pos reach) r passed within lasting last;
      joins = λ last. followed_joins x from flutter h double spread apart (pos reach) r passed within lasting last;
    }
