-- A double cycle of a run that nodes join: its round is such a group as the sharper step asks for.
use Rattle.std.proofs.Common.{◌≡◌, ◌⊎◌, ◌≤◌, ℕ, ◌*◌, Bool, true, false, ℤ, pos, Option, Some, None, List, length, map, refl, ap, sym, ◌∙◌, subst, inl, inr, arith}
use Rattle.std.specs.Prelude.{◌≤ℤ◌, Contains}
use Rattle.std.proofs.lemmas.Int.{ints}
use Rattle.fr_base.specs.declared.node_row.NodeRow.{NodeRow}
use Rattle.fr_base.specs.Within.{IsBetween, IsWithin}
use Rattle.fr_cluster.specs.Setting.{Setting, correct_nodes}
use Rattle.fr_cluster.specs.declared.join.Join.{Join}
use Rattle.fr_cluster.specs.declared.nodes.NodeSpec.{NodeSpec}
use Rattle.fr_cluster.proofs.Elements.{filtered}
use Rattle.fr_precision.specs.Instants.{gap_of, row_in}
use Rattle.fr_precision.specs.Reception.{LeavesRoom}
use Rattle.fr_precision.specs.Round.{senders_of, Hearer}
use Rattle.fr_precision.specs.Rows.{Sender}
use Rattle.fr_precision.specs.Step.{IsAmong, Member}
use Rattle.fr_precision.specs.Among.{both}
use Rattle.fr_history.specs.Cycles.{Cycle, Cycles}
use Rattle.fr_history.specs.History.{row_for}
use Rattle.fr_history.specs.Standing.{following_nodes, follows, follows_by, row_nodes}
use Rattle.fr_runs.specs.Gathered.{follower_hearer, followers_since, hearers_of, round_at, row_hearer}
use Rattle.fr_runs.specs.Group.{Group}
use Rattle.fr_runs.specs.Hearers.{group_of, member_from, IsOneOf}
use Rattle.fr_runs.specs.Rounds.{IsDoubleOf}
use Rattle.fr_runs.proofs.Going.{is_row_node, is_since}
use Rattle.fr_precision.proofs.RoundLemmas.{acts_early, all_senders, contains_map, map_contains, sender_among}
use Rattle.fr_runs.proofs.Standing.{how_follows, is_follower}
use Rattle.fr_runs.proofs.Lawful.{lawful_cycles_run}
use Rattle.fr_runs.proofs.Whole.{double_runs, fresh_at, none_follows}
use Rattle.fr_precision.specs.Lengths.{CanWalk}
use Rattle.fr_bound.specs.SharpBounds.{last_action, near_by, sharp_lambda, sharp_near, sharp_pi, sharp_precision}
use Rattle.fr_promise.specs.SharpFollowing.{AreFollowersInReach}
use Rattle.fr_promise.specs.SharpGroup.{IsSteadyRoundFollowed, TakesInGroup}
use Rattle.fr_promise.specs.SharpJoining.{all_heard, sharp_group_spread, sharp_reach, sharp_second_apart, GroupSpread}
use Rattle.fr_promise.specs.SharpJoined.{FollowedDoublesAreKept, FollowedDoublesHear, IsFollowedDouble, IsFollowedHearing, IsJoinedDouble, IsSteadyJoinedFrom, JoinedDoublesAreKept, JoinedIsInSharpSync, UnfollowedIsFollowed, UnfollowedIsJoined}
use Rattle.fr_precision.specs.SharpRound.{as_member, IsSteadilySupplied}
use Rattle.fr_precision.specs.SharpStep.{AreSharp}
use Rattle.fr_runs.specs.SteadyRuns.{row_hearers, row_members, AreRowsInReach, IsTimedPartFrom, IsWhole, MayHaveArbitrary}
use Rattle.fr_promise.proofs.FollowersSupplied.{follower_regular, supplied_at as follower_supplied}
use Rattle.fr_promise.proofs.JoinBounds.{followers_come_nearer_lem, sharp_group_spread_goes, sharp_join_checks_suffice_lem}
use Rattle.fr_runs.proofs.RowsSupplied.{double_within, members_regular, rates_in_limit, round_in_reach, row_regular, supplied_at as row_supplied, timed_rows_from, LawfulRows}
use Rattle.fr_promise.proofs.RunDoubles.{evens_are}
use Rattle.fr_promise.proofs.SharpFollowed.{steady_rounds_are_followed}
use Rattle.fr_promise.proofs.SharpGrouped.{all_is_heard_of_both_lem, apart_reached, steady_groups_are_kept}
use Rattle.fr_precision.proofs.StepLemmas.{ends_fit, le_itself, nodes_near, Double}

pub joined_part : (beside : Bool) (x : Setting) (from flutter : ℕ) (h : Cycles) → IsSteadyJoinedFrom beside x from flutter h → IsTimedPartFrom x from flutter h
joined_part beside x from flutter h w = record { covered = w.covered.timed; lawful = w.lawful; within = (let whole = w.whole in omega (arith, whole)) }

-- whoever follows does so for the second or for the first double cycle
pub since_when : (x : Setting) (h : Cycles) (double : ℕ) (node : NodeSpec) → length h ≡ 2 * double → Contains (following_nodes x h) node
    → Contains (followers_since x h 2 double) node ⊎ Contains (followers_since x h 1 double) node
since_when x h double node counted among =
    let parts = filtered (λ (n : NodeSpec). follows x h n.id) (correct_nodes x) node among in
    by_join parts.0 parts.1 (x.join node.id) refl
  where
    by_join : Contains (correct_nodes x) node → follows x h node.id ≡ true → (join : Option Join) → x.join node.id ≡ join
        → Contains (followers_since x h 2 double) node ⊎ Contains (followers_since x h 1 double) node
    by_join there does None at =
        let e : false ≡ true = sym (ap (follows_by x h node.id) at) ∙ does in
        absurd (cc)
    by_join there does (Some join) at =
        elim (how_follows x h node.id join double counted (sym (ap (follows_by x h node.id) at) ∙ does)) [
          | inl begins ↦ inr (is_follower x h 1 double node join at there does (sym begins.1))
          | inr goes ↦ inl (is_follower x h 2 double node join at there does (sym goes.1))
        ]

no_more : (a b : ℕ) → a ≤ b → pos a ≤ℤ pos b
no_more a b le = omega (arith, ints, le)

module _
    (x : Setting) (flutter : ℕ) (now : GroupSpread) (h : Cycles) (even odd : Cycle) (double : ℕ) (beyond : ℤ)
    (s : LawfulRows x flutter h even odd double) (g : IsFollowedDouble x now beyond h even odd double) where
  -- ---- members by their nodes

  pub row_member : (node : NodeSpec) → Contains (row_nodes x h) node → Contains (row_members x h even odd) (as_member x.params (row_hearer x even odd node.id))
  row_member node among =
      let at : NodeSpec → Hearer = λ n. row_hearer x even odd n.id in
      contains_map (as_member x.params) (map at (row_nodes x h)) (at node) (contains_map at (row_nodes x h) node among)

  pub follower_member : (ago : ℕ) (node : NodeSpec) → Contains (followers_since x h ago double) node
      → Contains (map (member_from x.params) (map (λ (n : NodeSpec). follower_hearer x even odd n.id) (followers_since x h ago double))) (member_from x.params (follower_hearer x even odd node.id))
  follower_member ago node among =
      let at : NodeSpec → Hearer = λ n. follower_hearer x even odd n.id in
      contains_map (member_from x.params) (map at (followers_since x h ago double)) (at node) (contains_map at (followers_since x h ago double) node among)

  module _ (reach : ℤ) (room : LeavesRoom x.params reach) (takes : TakesInGroup x.params now (group_of x.params (hearers_of x h even odd double)) reach) where
    -- ---- each is within reach of those with rows

    doubled : Double x.params now.rows.starts now.rows.lengths beyond (row_members x h even odd)
    doubled = record { sane = s.covered.sane; sharp = g.placed.sharp; regular = members_regular x flutter h even odd double s g.rows.rates }

    pub rows_in : AreRowsInReach x h even odd reach
    rows_in = record {
      active_even = g.active_even;
      active_odd = g.active_odd;
      rates = g.rows.rates;
      limit = takes.limit;
      room = room;
      acts =
          λ is_odd one other action here there from to.
          let near = nodes_near x.params now.rows.starts now.rows.lengths beyond (row_members x h even odd) doubled one other here there in
          apart_reached x.params now.rows.starts now.rows.lengths reach is_odd one other action s.covered.sane takes.fits (members_regular x flutter h even odd double s g.rows.rates one here)
          (members_regular x flutter h even odd double s g.rows.rates other there) near.by_start near.by_even from to;
    }

    follower_reached : (is_odd : Bool) (sender follower : NodeSpec) (action : ℤ) → Contains (row_nodes x h) sender → Contains (following_nodes x h) follower → pos 0 ≤ℤ action → action ≤ℤ pos (last_action x.params)
        → IsWithin reach
        (
        gap_of x.params is_odd action (row_in is_odd (row_for even.told.rows sender.id) (row_for odd.told.rows sender.id))
        (row_in is_odd (row_for even.followers follower.id) (row_for odd.followers follower.id))
        )
    follower_reached is_odd sender follower action here there from to =
        let p = x.params in
        let row = as_member p (row_hearer x even odd sender.id) in
        let node = member_from p (follower_hearer x even odd follower.id) in
        let one = row_regular x flutter h even odd double s g.rows.rates sender here in
        let other = follower_regular x flutter h even odd double s g.follower_rates follower there in
        elim (since_when x h double follower s.counted there) [
          | inl second ↦
              let member = follower_member 2 follower second in
              apart_reached p now.seconds now.rows.lengths reach is_odd row node action s.covered.sane (takes.fits_seconds node member) one other
              (g.placed.seconds_start row node (row_member sender here) member) (g.placed.seconds_last row node (inl (row_member sender here)) member) from to
          | inr first ↦
              let member = follower_member 1 follower first in
              apart_reached p now.firsts.starts now.firsts.lengths reach is_odd row node action s.covered.sane (takes.fits_firsts node member) one other
              (g.placed.firsts_start row node (row_member sender here) member) (g.placed.firsts_last row node (inl (row_member sender here)) member) from to
        ]

    pub followers_in : AreFollowersInReach x h even odd reach
    followers_in = record {
      active_even = g.active_even;
      active_odd = g.active_odd;
      rates = g.follower_rates;
      limit = takes.limit;
      room = room;
      acts = follower_reached;
    }

    -- ---- so all are supplied, where all is heard

    module _ (beside : Bool) (may : MayHaveArbitrary beside x) (links : IsWhole x double) where
      supplied : (n : Hearer) → IsOneOf (hearers_of x h even odd double) n → IsSteadilySupplied (round_at x h even odd) flutter n
      supplied n (inl (inl here)) =
          let from = map_contains (λ (m : NodeSpec). row_hearer x even odd m.id) (row_nodes x h) n here in
          subst (IsSteadilySupplied (round_at x h even odd) flutter) from.2 (row_supplied x flutter h even odd double reach s rows_in links from.0 from.1)
      supplied n (inl (inr here)) =
          let from = map_contains (λ (m : NodeSpec). follower_hearer x even odd m.id) (followers_since x h 2 double) n here in
          subst (IsSteadilySupplied (round_at x h even odd) flutter) from.2 (follower_supplied x flutter h even odd double reach s followers_in links from.0 (is_since x h 2 double from.0 from.1))
      supplied n (inr here) =
          let from = map_contains (λ (m : NodeSpec). follower_hearer x even odd m.id) (followers_since x h 1 double) n here in
          subst (IsSteadilySupplied (round_at x h even odd) flutter) from.2 (follower_supplied x flutter h even odd double reach s followers_in links from.0 (is_since x h 1 double from.0 from.1))

      pub round_followed : (walk : ℤ) → CanWalk x.params flutter beyond walk → IsSteadyRoundFollowed beside (round_at x h even odd) flutter now beyond walk (hearers_of x h even odd double) reach
      round_followed walk walks =
          let r = round_in_reach x flutter h even odd double reach s rows_in links beside may in
          record {
            round = r.round;
            arbitrary = r.arbitrary;
            walks = walks;
            takes = takes;
            placed = g.placed;
            supplied = supplied;
            among = r.among;
          }

pub followed_doubles_hear : FollowedDoublesHear
followed_doubles_hear beside x from flutter h double earlier even odd now reach beyond walk part late d may links walks room takes g =
    let s = timed_rows_from x from flutter h part double late earlier even odd d in
    let followed =
    steady_rounds_are_followed beside (round_at x earlier even odd) flutter now beyond walk (hearers_of x earlier even odd double) reach
    (round_followed x flutter now earlier even odd double beyond s g reach room takes beside may links walk walks) in
    all_is_heard_of_both_lem beside x.params flutter (senders_of (round_at x earlier even odd)) (group_of x.params (hearers_of x earlier even odd double)) followed.0.among followed.0.acts followed.1

pub followed_doubles_are_kept : FollowedDoublesAreKept
followed_doubles_are_kept what x from flutter h double earlier even odd now to apart reach beyond walk next part late d walks next_from next_to takes hears goes fits ends g =
    let p = x.params in
    let r = round_at x earlier even odd in
    let s = timed_rows_from x from flutter h part double late earlier even odd d in
    let sane = s.covered.sane in
    let at : NodeSpec → Hearer = λ n. row_hearer x even odd n.id in
    let rows = row_hearers x earlier even odd in
    steady_groups_are_kept what p flutter now to apart beyond walk next (senders_of r) (group_of p (hearers_of x earlier even odd double)) reach
    (
    record {
      sane = sane;
      walks = walks;
      takes = takes;
      among =
          all_senders r (IsAmong (row_members x earlier even odd))
          (
          sender_among r rows
          (λ node slot sender. (at node, contains_map at (row_nodes x earlier) node (is_row_node x earlier node sender.there sender.rows), refl, refl))
          );
      acts = all_senders r (λ (sender : Sender). IsBetween (pos 0) (pos (last_action p)) sender.action) (acts_early r sane);
      placed = g.placed;
    }
    ) hears goes fits ends next_from next_to

-- with the bounds of sharp sync
pub sharp_takes : (beside : Bool) (x : Setting) (from flutter : ℕ) (h : Cycles) (g : Group) → IsSteadyJoinedFrom beside x from flutter h
    → TakesInGroup x.params (sharp_group_spread beside x.params flutter) g (pos (sharp_reach beside x.params flutter))
sharp_takes beside x from flutter h g w =
    let p = x.params in
    let nearer = followers_come_nearer_lem beside p flutter w.covered.timed.sane in
    record {
      limit = (sharp_join_checks_suffice_lem beside p flutter w.covered.timed.sane w.checks).0;
      fits = no_more (sharp_near beside p flutter) (sharp_reach beside p flutter) nearer.3;
      fits_seconds = λ node here. no_more (near_by p (sharp_second_apart beside p flutter) (sharp_lambda beside p flutter)) (sharp_reach beside p flutter) nearer.2;
      fits_firsts = λ node here. no_more (sharp_reach beside p flutter) (sharp_reach beside p flutter) (le_itself (sharp_reach beside p flutter));
    }

pub sharp_hears : (beside : Bool) (x : Setting) (from flutter : ℕ) (h : Cycles) (double : ℕ) (earlier : Cycles) (even odd : Cycle) (beyond walk : ℤ) → IsSteadyJoinedFrom beside x from flutter h
    → from ≤ double → IsDoubleOf h double earlier even odd → CanWalk x.params flutter beyond walk → IsJoinedDouble beside x flutter beyond earlier even odd double
    → IsFollowedHearing (both (all_heard beside)) x flutter earlier even odd double
sharp_hears beside x from flutter h double earlier even odd beyond walk w late d walks g =
    let p = x.params in
    let part = joined_part beside x from flutter h w in
    followed_doubles_hear beside x from flutter h double earlier even odd (sharp_group_spread beside p flutter) (pos (sharp_reach beside p flutter)) beyond walk part late d w.arbitrary
    (w.covered.links double late (double_within h double x.doubles earlier even odd d part.within)) walks (sharp_join_checks_suffice_lem beside p flutter w.covered.timed.sane w.checks).1
    (sharp_takes beside x from flutter h (group_of p (hearers_of x earlier even odd double)) w) g

pub joined_doubles_are_kept : JoinedDoublesAreKept
joined_doubles_are_kept beside x from flutter h double earlier even odd beyond walk next w late d n g =
    let p = x.params in
    let sharp = sharp_group_spread beside p flutter in
    followed_doubles_are_kept (both (all_heard beside)) x from flutter h double earlier even odd sharp sharp (sharp_precision beside p flutter) (pos (sharp_reach beside p flutter)) beyond walk next (joined_part beside x from flutter h w)
    late d n.walks n.from n.to (sharp_takes beside x from flutter h (group_of p (hearers_of x earlier even odd double)) w)
    (sharp_hears beside x from flutter h double earlier even odd beyond walk w late d n.walks g)
    (sharp_group_spread_goes beside p flutter) (le_itself (sharp_precision beside p flutter)) (ends_fit beside p flutter) g

-- ---- where it begins

none_member : (x : Setting) (h : Cycles) (even odd : Cycle) (ago double : ℕ) (node : Member) → ((n : NodeSpec) → Contains (following_nodes x h) n → ⊥)
    → Contains (map (member_from x.params) (map (λ (n : NodeSpec). follower_hearer x even odd n.id) (followers_since x h ago double))) node → ⊥
none_member x h even odd ago double node none here =
    let at : NodeSpec → Hearer = λ n. follower_hearer x even odd n.id in
    let n = map_contains (member_from x.params) (map at (followers_since x h ago double)) node here in
    let from = map_contains at (followers_since x h ago double) n.0 n.1 in
    none from.0 (is_since x h ago double from.0 from.1)

pub unfollowed_is_followed : UnfollowedIsFollowed
unfollowed_is_followed x from flutter h double earlier even odd now beyond part late d suffices active_even active_odd sharp unfollowed =
    let s = timed_rows_from x from flutter h part double late earlier even odd d in
    let runs = double_runs x h double earlier even odd d (lawful_cycles_run x h part.lawful) in
    let none = λ (node : NodeSpec) (among : Contains (following_nodes x earlier) node). none_follows x earlier even node runs.1.0 unfollowed among in
    let Sharp : List NodeRow → Type 0 = λ rows. AreSharp x.params now.rows.starts now.rows.lengths beyond rows in
    record {
      active_even = active_even;
      active_odd = active_odd;
      rows = record { rates = rates_in_limit x flutter earlier even odd double s beyond suffices sharp.about; about = sharp.about };
      placed = record {
        sharp = subst Sharp (sym (evens_are x flutter earlier even odd double s)) sharp;
        seconds_start = λ row node here there. absurd (none_member x earlier even odd 2 double node none there);
        seconds_last = λ other node here there. absurd (none_member x earlier even odd 2 double node none there);
        firsts_start = λ row node here there. absurd (none_member x earlier even odd 1 double node none there);
        firsts_last = λ other node here there. absurd (none_member x earlier even odd 1 double node none there);
      };
      follower_rates = λ node among. absurd (none node among);
      fresh = λ node there has. fresh_at x earlier node runs.1.1 there has;
    }

pub unfollowed_is_joined : UnfollowedIsJoined
unfollowed_is_joined beside x from flutter h double earlier even odd beyond w late d suffices sync unfollowed =
    unfollowed_is_followed x from flutter h double earlier even odd (sharp_group_spread beside x.params flutter) beyond (joined_part beside x from flutter h w) late d suffices sync.active_even sync.active_odd sync.rows unfollowed

pub joined_is_in_sharp_sync : JoinedIsInSharpSync
joined_is_in_sharp_sync beside x from flutter h double earlier even odd beyond w late d g =
    let p = x.params in
    let s = timed_rows_from x from flutter h (joined_part beside x from flutter h w) double late earlier even odd d in
    let Sharp : List NodeRow → Type 0 = λ rows. AreSharp p (sharp_pi beside x.params flutter) (sharp_lambda beside x.params flutter) beyond rows in
    record { active_even = g.active_even; active_odd = g.active_odd; rows = subst Sharp (evens_are x flutter earlier even odd double s) g.placed.sharp }
