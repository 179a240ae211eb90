-- The round of a double cycle is kept, and what follows it at each node that has a row behind it.
use Rattle.std.proofs.Common.{◌≡◌, ℕ, suc, ◌*◌, ◌<◌, true, ◌&&◌, List, length, map, pos, refl, sym, ◌∙◌, subst, inl, inr, arith}
use Rattle.std.specs.Prelude.{Contains}
use Rattle.std.proofs.lemmas.Bool.{and_parts}
use Rattle.std.proofs.lemmas.List.Kept.{AllPairs-filter}
use Rattle.fr_base.specs.declared.node_row.NodeRow.{NodeRow}
use Rattle.fr_base.specs.declared.state.State.TheVariants.{Active}
use Rattle.fr_cluster.specs.Sane.{IsSane}
use Rattle.fr_cluster.specs.Setting.{Setting, correct_nodes, is_correct}
use Rattle.fr_cluster.specs.Values.{Values}
use Rattle.fr_cluster.specs.declared.nodes.NodeSpec.{NodeSpec}
use Rattle.fr_bound.specs.Sync.{IsInSync}
use Rattle.fr_precision.specs.Placement.{IsRegular}
use Rattle.fr_history.proofs.Lists.{map-map}
use Rattle.fr_runs.specs.Group.{IsGroupKept}
use Rattle.fr_history.specs.Cycles.{Cycle, Cycles, some_joins}
use Rattle.fr_history.specs.Standing.{following_nodes, follows, has_row, row_nodes}
use Rattle.fr_precision.specs.Round.{Hearer, senders_of}
use Rattle.fr_cluster.proofs.Elements.{filtered, kept_filtered}
use Rattle.fr_history.specs.History.{row_for}
use Rattle.fr_runs.proofs.Doubles.{even_length, odd_length}
use Rattle.fr_runs.proofs.Receivers.{is_correct_node}
use Rattle.fr_precision.proofs.RoundLemmas.{contains_map, map_contains}
use Rattle.fr_runs.proofs.Rows.{Ascend, correct_ascend, each_row, rows_are}
use Rattle.fr_runs.specs.Gathered.{IsDoubleInSync, IsHeardByAll, follower_hearer, followers_since, hearers_of, listened_by, reach_in, round_at, row_hearer}
use Rattle.fr_runs.specs.Hearers.{FollowsIn, IsOneOf, IsRoundSynced, group_of, member_from}
use Rattle.fr_runs.proofs.Courses.{RunTwo, follower_applied, follower_two, is_correct_follower, is_correct_row, proper_micro, row_applied, row_two, steady}
use Rattle.fr_runs.proofs.Reach.{some_follows, takes_precision, takes_reach}
use Rattle.fr_runs.proofs.Rounds.{rounds_are_kept_lem}

-- ---- the nodes of a double cycle

pub is_row_node : (x : Setting) (h : Cycles) (node : NodeSpec) → Contains x.params.nodes node → (is_correct x node.id && has_row x h node.id) ≡ true → Contains (row_nodes x h) node
is_row_node x h node there is =
    let both = and_parts (is_correct x node.id) (has_row x h node.id) is in
    kept_filtered (λ (n : NodeSpec). has_row x h n.id) (correct_nodes x) node (is_correct_node x node there both.0) both.1

pub is_since : (x : Setting) (h : Cycles) (ago double : ℕ) (node : NodeSpec) → Contains (followers_since x h ago double) node → Contains (following_nodes x h) node
is_since x h ago double node among = (filtered (λ (n : NodeSpec). listened_by (x.join n.id) ago double) (following_nodes x h) node among).0

pub rows_ascend : (x : Setting) (h : Cycles) → IsSane x.params → Ascend (row_nodes x h)
rows_ascend x h sane = AllPairs-filter (λ (a : NodeSpec) (b : NodeSpec). a.id < b.id) (λ (n : NodeSpec). has_row x h n.id) (correct_nodes x) (correct_ascend x sane)

pub followers_ascend : (x : Setting) (h : Cycles) → IsSane x.params → Ascend (following_nodes x h)
followers_ascend x h sane =
    AllPairs-filter (λ (a : NodeSpec) (b : NodeSpec). a.id < b.id) (λ (n : NodeSpec). follows x h n.id) (correct_nodes x) (correct_ascend x sane)

-- ---- each is supplied

row_regular : (x : Setting) (h : Cycles) (even odd : Cycle) (double : ℕ) (node : NodeSpec) → IsDoubleInSync x h even odd double → RunTwo x h even odd → Contains (row_nodes x h) node
    → IsRegular x.params (row_for even.told.rows node.id) (row_for odd.told.rows node.id)
row_regular x h even odd double node g two among =
    let counted : length h ≡ 2 * double = g.counted in
    let within = g.within in
    let correct = is_correct_row x h node among in
    let at = row_two x h even odd node two (even_length (length h) double counted) among in
    record {
      double = at.double;
      rate_within = g.rates node among;
      even_micro = proper_micro x node (length h) (row_for even.told.rows node.id) g.covered correct (omega (arith, counted, within)) at.even_length;
      odd_micro = proper_micro x node (suc (length h)) (row_for odd.told.rows node.id) g.covered correct (omega (arith, counted, within)) at.odd_length;
      steady = steady x node (length h) (row_for even.told.rows node.id).length (row_for odd.told.rows node.id).length g.covered correct (omega (arith, counted, within)) at.even_length at.odd_length;
    }

follower_regular : (x : Setting) (h : Cycles) (even odd : Cycle) (double : ℕ) (node : NodeSpec) → IsDoubleInSync x h even odd double → RunTwo x h even odd
    → Contains (following_nodes x h) node → IsRegular x.params (row_for even.followers node.id) (row_for odd.followers node.id)
follower_regular x h even odd double node g two among =
    let counted : length h ≡ 2 * double = g.counted in
    let within = g.within in
    let correct = is_correct_follower x h node among in
    let at = follower_two x h even odd node two (even_length (length h) double counted) among in
    record {
      double = at.double;
      rate_within = g.follower_rates node among;
      even_micro = proper_micro x node (length h) (row_for even.followers node.id) g.covered correct (omega (arith, counted, within)) at.even_length;
      odd_micro = proper_micro x node (suc (length h)) (row_for odd.followers node.id) g.covered correct (omega (arith, counted, within)) at.odd_length;
      steady = steady x node (length h) (row_for even.followers node.id).length (row_for odd.followers node.id).length g.covered correct (omega (arith, counted, within)) at.even_length at.odd_length;
    }

-- its rows are regular, and its clock applies its offset term
record IsTimedHearer (p : Values) (n : Hearer) : Type 0 where
  regular : IsRegular p n.even n.odd
  applied : n.odd.offset ≡ (member_from p n).offset_term.value

pub odd_active : (x : Setting) (h : Cycles) (even odd : Cycle) (double : ℕ) (node : NodeSpec) → IsDoubleInSync x h even odd double → RunTwo x h even odd → Contains (row_nodes x h) node
    → (row_for odd.told.rows node.id).state ≡ Active
odd_active x h even odd double node g two among = each_row (row_nodes x h) odd.told.rows (λ row. row.state ≡ Active) node two.odd_rows.nodes among g.in_sync.active_odd

timed : (x : Setting) (h : Cycles) (even odd : Cycle) (double : ℕ) (n : Hearer) → IsDoubleInSync x h even odd double → RunTwo x h even odd
    → IsOneOf (hearers_of x h even odd double) n → IsTimedHearer x.params n
timed x h even odd double n g two is =
    let p = x.params in
    let odd_is = odd_length (length h) double g.counted in
    let follower = λ (node : NodeSpec) (among : Contains (following_nodes x h) node) (same : follower_hearer x even odd node.id ≡ n).
    (
    let own : IsTimedHearer p (follower_hearer x even odd node.id) = record {
      regular = follower_regular x h even odd double node g two among;
      applied = follower_applied x h even odd node two odd_is among;
    } in
    subst (IsTimedHearer p) same own
    ) in
    elim is [
      | inl older ↦ elim older [
        | inl here ↦
            let found = map_contains (λ (node : NodeSpec). row_hearer x even odd node.id) (row_nodes x h) n here in
            let own : IsTimedHearer p (row_hearer x even odd found.0.id) = record {
              regular = row_regular x h even odd double found.0 g two found.1;
              applied = row_applied x h even odd found.0 two odd_is found.1 (odd_active x h even odd double found.0 g two found.1);
            } in
            subst (IsTimedHearer p) found.2 own
        | inr here ↦
            let found = map_contains (λ (node : NodeSpec). follower_hearer x even odd node.id) (followers_since x h 2 double) n here in
            follower found.0 (is_since x h 2 double found.0 found.1) found.2
      ]
      | inr here ↦
          let found = map_contains (λ (node : NodeSpec). follower_hearer x even odd node.id) (followers_since x h 1 double) n here in
          follower found.0 (is_since x h 1 double found.0 found.1) found.2
    ]

-- ---- so the round is kept

rows_in_sync : (x : Setting) (h : Cycles) (even odd : Cycle) (double : ℕ) → IsDoubleInSync x h even odd double → RunTwo x h even odd
    → IsInSync x.params (map (λ (n : Hearer). n.even) (hearers_of x h even odd double).rows) (map (λ (n : Hearer). n.odd) (hearers_of x h even odd double).rows)
rows_in_sync x h even odd double g two =
    let nodes = row_nodes x h in
    let at : NodeSpec → Hearer = λ node. row_hearer x even odd node.id in
    let ascend = rows_ascend x h g.covered.sane in
    let evens = map-map (λ (n : Hearer). n.even) at nodes ∙ rows_are nodes even.told.rows ascend two.even_rows.nodes in
    let odds = map-map (λ (n : Hearer). n.odd) at nodes ∙ rows_are nodes odd.told.rows ascend two.odd_rows.nodes in
    let Even : List NodeRow → Type 0 = λ rows. IsInSync x.params rows odd.told.rows in
    let Odd : List NodeRow → Type 0 = λ rows. IsInSync x.params (map (λ (n : Hearer). n.even) (map at nodes)) rows in
    subst Odd (sym odds) (subst Even (sym evens) g.in_sync)

-- where a receiver follows, some node joins
some_follows_in : (x : Setting) (h : Cycles) (even odd : Cycle) (double : ℕ) (n : Hearer) → FollowsIn (hearers_of x h even odd double) n → some_joins x ≡ true
some_follows_in x h even odd double n (inl here) =
    let found = map_contains (λ (node : NodeSpec). follower_hearer x even odd node.id) (followers_since x h 2 double) n here in some_follows x h 2 double found.0 found.1
some_follows_in x h even odd double n (inr here) =
    let found = map_contains (λ (node : NodeSpec). follower_hearer x even odd node.id) (followers_since x h 1 double) n here in some_follows x h 1 double found.0 found.1

pub round_synced : (x : Setting) (h : Cycles) (even odd : Cycle) (double : ℕ) → IsDoubleInSync x h even odd double → IsHeardByAll x h even odd double → RunTwo x h even odd
    → IsRoundSynced (round_at x h even odd) (hearers_of x h even odd double) (pos (reach_in x))
round_synced x h even odd double g fed two = record {
  round = record {
    sane = g.covered.sane;
    few = g.covered.few h;
    regular = λ node there has. row_regular x h even odd double node g two (is_row_node x h node there has);
  };
  first = g.covered.first;
  second = g.covered.second;
  limit = g.covered.limit;
  fits = takes_precision x;
  fits_followers = λ n follows. takes_reach x (some_follows_in x h even odd double n follows);
  supplied =
      λ n is.
      let own = timed x h even odd double n g two is in
      record { regular = own.regular; applied = own.applied; hears = fed.supplied n is };
  among =
      λ node slot sender.
      let at : NodeSpec → Hearer = λ node. row_hearer x even odd node.id in
      (at node, contains_map at (row_nodes x h) node (is_row_node x h node sender.there sender.rows), refl, refl);
  in_sync = rows_in_sync x h even odd double g two;
  seconds_near = g.seconds_near;
  firsts_near = g.firsts_near;
}

pub kept : (x : Setting) (h : Cycles) (even odd : Cycle) (double : ℕ) → IsDoubleInSync x h even odd double → IsHeardByAll x h even odd double → RunTwo x h even odd
    → IsGroupKept x.params (senders_of (round_at x h even odd)) (group_of x.params (hearers_of x h even odd double)) (pos (reach_in x))
kept x h even odd double g fed two = rounds_are_kept_lem (round_at x h even odd) (hearers_of x h even odd double) (pos (reach_in x)) (round_synced x h even odd double g fed two)
