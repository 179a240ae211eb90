-- A double cycle of a run that nodes join in which frames may be lost: the nodes with rows hear what is said of it, and so do those that
-- follow.
use Rattle.std.proofs.Common.{◌≡◌, ℕ, Bool, true, false, ◌||◌, not, pos, ℤ, Option, None, Some, ◌∷◌, length, map, refl, ap, sym, ◌∙◌, subst, inl, inr, arith}
use Rattle.std.specs.Prelude.{Contains, ◌<◌, nat_eq, nat_lt}
use Rattle.std.proofs.lemmas.Bool.{and_parts}
use Rattle.std.proofs.lemmas.Bool.Decides.{nat_tests}
use Rattle.fr_cluster.proofs.Elements.{filtered}
use Rattle.fr_cluster.specs.Setting.{Setting, correct_nodes}
use Rattle.fr_cluster.specs.declared.join.Join.{Join}
use Rattle.fr_cluster.specs.declared.nodes.NodeSpec.{NodeSpec}
use Rattle.fr_bound.specs.SharpBounds.{last_action}
use Rattle.fr_precision.specs.Among.{OffsetsSo, RatesSo}
use Rattle.fr_precision.specs.Placement.{IsRegular}
use Rattle.fr_precision.specs.Reception.{LeavesRoom}
use Rattle.fr_precision.specs.Round.{senders_of, Hearer}
use Rattle.fr_precision.specs.Step.{Member}
use Rattle.fr_precision.proofs.RoundLemmas.{map_contains}
use Rattle.fr_history.specs.Cycles.{Cycle, Cycles}
use Rattle.fr_history.specs.Lawful.{IsLawful}
use Rattle.fr_history.specs.Standing.{following_nodes, follows, has_row, row_nodes}
use Rattle.fr_history.proofs.Standing.{followers_have_no_row, stand_in_time}
use Rattle.fr_runs.specs.Gathered.{follower_hearer, followers_since, hearers_of, round_at, row_hearer}
use Rattle.fr_runs.specs.Group.{IsOf}
use Rattle.fr_runs.specs.Hearers.{group_of, member_from}
use Rattle.fr_runs.specs.SteadyRuns.{row_hearers, row_members, AreRowsInReach}
use Rattle.fr_runs.proofs.Courses.{follower_applied}
use Rattle.fr_runs.proofs.Doubles.{odd_length}
use Rattle.fr_runs.proofs.Fed.{follower_receivers, lawful_part, row_receivers}
use Rattle.fr_runs.proofs.Going.{is_since}
use Rattle.fr_runs.proofs.Hearing.{hearer_from, heard_in_part, Receivers, RowsSend}
use Rattle.fr_runs.proofs.KeyedCounts.{all_pass}
use Rattle.fr_runs.proofs.Nodes.{correct_node}
use Rattle.fr_runs.proofs.RowsSupplied.{sending, timed_rows_from, LawfulRows}
use Rattle.fr_promise.specs.SharpFollowing.{AreFollowersInReach}
use Rattle.fr_promise.specs.SharpGroup.{TakesInGroup}
use Rattle.fr_promise.specs.SharpJoined.{IsFollowedDouble, IsFollowedHearing}
use Rattle.fr_promise.specs.SharpJoining.{GroupSpread}
use Rattle.fr_promise.proofs.FollowersSupplied.{follower_regular, pairs_steady as follower_pairs, receiving as follower_receiving}
use Rattle.fr_promise.proofs.JoinedDoubles.{followers_in, rows_in}
use Rattle.fr_sharp.specs.JoinedLosses.{FollowedDoublesHearInPart}
use Rattle.fr_sharp.proofs.HeardKinds.{none_arbitrary}
use Rattle.fr_traffic.proofs.HeardSurely.{follower_owns}
use Rattle.fr_sharp.proofs.ReceiversHear.{all_offsets, all_rates, meeting_offsets, meeting_rates, offsets_by, rates_by, row_hears, trusting_offsets, trusting_rates, IsHearing, IsMember}
use Rattle.fr_traffic.specs.Traffic.{all_have, all_trust, arbitrary_count, bears_kind, has_begun, heard_in, is_borne_to_join, is_trusted, kind_in, lists_meet, may_receive, traffic_of, Traffic}

module _
    (x : Setting) (flutter : ℕ) (now : GroupSpread) (h : Cycles) (even odd : Cycle) (double : ℕ) (beyond : ℤ)
    (s : LawfulRows x flutter h even odd double) (g : IsFollowedDouble x now beyond h even odd double) (reach : ℤ) (room : LeavesRoom x.params reach)
    (takes : TakesInGroup x.params now (group_of x.params (hearers_of x h even odd double)) reach) (lawful : IsLawful x h) where
  abbrev t : Traffic
  t = traffic_of x

  rows : AreRowsInReach x h even odd reach
  rows = rows_in x flutter now h even odd double beyond s g reach room takes

  followers : AreFollowersInReach x h even odd reach
  followers = followers_in x flutter now h even odd double beyond s g reach room takes

  -- no node both has a row and follows
  not_both : (b c : NodeSpec) → Contains (row_nodes x h) b → Contains (following_nodes x h) c → b.id ≡ c.id → ⊥
  not_both b c one two same =
      let has = (filtered (λ (n : NodeSpec). has_row x h n.id) (correct_nodes x) b one).1 in
      let does = (filtered (λ (n : NodeSpec). follows x h n.id) (correct_nodes x) c two).1 in
      let Has : ℕ → Type 0 = λ id. has_row x h id ≡ true in
      followers_have_no_row x h c.id lawful (subst Has same has) does

  follower_begun : (node : NodeSpec) → Contains (following_nodes x h) node → has_begun (x.join node.id) double ≡ true
  follower_begun node among = by (x.join node.id) refl
    where
      less : (a b : ℕ) → a < b → nat_lt a b ≡ true
      less a b is = grind (arith, nat_tests)

      by : (join : Option Join) → x.join node.id ≡ join → has_begun (x.join node.id) double ≡ true
      by None at = ap (λ (o : Option Join). has_begun o double) at
      by (Some join) at =
          let counted = s.counted in
          let from = (stand_in_time x h node.id join lawful at).follows_from (filtered (λ (n : NodeSpec). follows x h n.id) (correct_nodes x) node among).1 in
          ap (λ (o : Option Join). has_begun o double) at ∙ less join.double double (omega (arith, counted, from))

  -- ---- receivers of both kinds

  -- the nodes with rows, or those that follow
  abbrev receivers : Bool → Receivers
  receivers false = row_receivers x h even odd
  receivers true = follower_receivers x h even odd

  abbrev Among : Bool → NodeSpec → Type 0
  Among false node = Contains (row_nodes x h) node
  Among true node = Contains (following_nodes x h) node

  sends : RowsSend x h even odd double reach
  sends = sending x flutter h even odd double reach s rows

  hears : (kind : Bool) (node : NodeSpec) → Among kind node → IsHearing x flutter h even odd double reach (receivers kind) node
  hears false node among = row_hears x flutter h even odd double reach s rows lawful node among
  hears true node among =
      let is = follower_receiving x flutter h even odd double reach s followers node among in
      record {
        receives = record { is = is; owns = follower_owns x h even odd node s.even_runs among; owned = λ index own. absurd (cc) };
        begun = follower_begun node among;
        supplied = record {
          regular = follower_regular x flutter h even odd double s g.follower_rates node among;
          applied = follower_applied x h even odd node s.two (odd_length (length h) double s.counted) among;
          hears = heard_in_part x h even odd double reach (follower_receivers x h even odd) node sends is;
          steady = follower_pairs x flutter h even odd double reach s followers node among;
        };
      }

  -- ---- members by their nodes

  abbrev member : Bool → NodeSpec → Member
  member kind node = member_from x.params (hearer_from x (receivers kind) node.id)

  record IsKnown (one : Member) : Type 0 where
    kind : Bool
    node : NodeSpec
    among : Among kind node
    same : member_from x.params (hearer_from x (receivers kind) node.id) ≡ one

  by_follower : (ago : ℕ) (one : Member) → Contains (map (member_from x.params) (map (λ (n : NodeSpec). follower_hearer x even odd n.id) (followers_since x h ago double))) one → IsKnown one
  by_follower ago one here =
      let at : NodeSpec → Hearer = λ n. follower_hearer x even odd n.id in
      let n = map_contains (member_from x.params) (map at (followers_since x h ago double)) one here in
      let from = map_contains at (followers_since x h ago double) n.0 n.1 in
      record { kind = true; node = from.0; among = is_since x h ago double from.0 from.1; same = ap (member_from x.params) from.2 ∙ n.2 }

  known : (one : Member) → IsOf (group_of x.params (hearers_of x h even odd double)) one → IsKnown one
  known one (inl (inl here)) =
      let at : NodeSpec → Hearer = λ n. row_hearer x even odd n.id in
      let n = map_contains (member_from x.params) (row_hearers x h even odd) one here in
      let from = map_contains at (row_nodes x h) n.0 n.1 in
      record { kind = false; node = from.0; among = from.1; same = ap (member_from x.params) from.2 ∙ n.2 }
  known one (inl (inr here)) = by_follower 2 one here
  known one (inr here) = by_follower 1 one here

  abbrev Is : Member → Type 0
  Is one = IsOf (group_of x.params (hearers_of x h even odd double)) one

  abbrev of : (one : Member) → IsOf (group_of x.params (hearers_of x h even odd double)) one → IsMember x flutter h even odd double reach one
  of one here = record {
    rs = receivers (known one here).kind;
    node = (known one here).node;
    hears = hears (known one here).kind (known one here).node (known one here).among;
    same = (known one here).same;
  }

  same_kind : (first second : Bool) (b c : NodeSpec) → Among first b → Among second c → b.id ≡ c.id → member first b ≡ member second c
  same_kind false false b c one two same = ap (λ (id : ℕ). member_from x.params (hearer_from x (row_receivers x h even odd) id)) same
  same_kind true true b c one two same = ap (λ (id : ℕ). member_from x.params (hearer_from x (follower_receivers x h even odd) id)) same
  same_kind false true b c one two same = absurd (not_both b c one two same)
  same_kind true false b c one two same = absurd (not_both c b two one (sym same))

  sole : (one other : Member) (i : IsOf (group_of x.params (hearers_of x h even odd double)) one) (j : IsOf (group_of x.params (hearers_of x h even odd double)) other)
      → (known one i).node.id ≡ (known other j).node.id → one ≡ other
  sole one other i j same =
      let m = known one i in
      let k = known other j in
      sym m.same ∙ same_kind m.kind k.kind m.node k.node m.among k.among same ∙ k.same

  -- ---- where each bears it

  module _ (borne : is_borne_to_join (traffic_of x) double ≡ true) where
    bears : (rate : Bool) → bears_kind rate (traffic_of x) double ≡ true
    bears false = (and_parts (bears_kind false t double) (bears_kind true t double) borne).0
    bears true = (and_parts (bears_kind false t double) (bears_kind true t double) borne).1

    -- not all is heard: each trusts its list
    trusts : (rate : Bool) → all_have rate (traffic_of x) double ≡ false → (one : Member) (i : IsOf (group_of x.params (hearers_of x h even odd double)) one)
        → is_trusted rate (traffic_of x) double (known one i).node ≡ true
    trusts rate some one i =
        let m = known one i in
        let hearing = hears m.kind m.node m.among in
        let correct = correct_node x m.node hearing.receives.is.correct in
        let receives : may_receive t double m.node ≡ true = rw (correct.correct, hearing.begun) refl in
        let trusted = second (all_have rate t double) (all_trust rate t double) some (bears rate) in
        right (may_receive t double m.node) (is_trusted rate t double m.node) receives (all_pass (λ (b : NodeSpec). not (may_receive t double b) || is_trusted rate t double b) x.params.nodes m.node trusted correct.there)
      where
        second : (a b : Bool) → a ≡ false → (a || b) ≡ true → b ≡ true
        second false b fails is = is
        second true b fails is = absurd (cc)

        right : (a b : Bool) → a ≡ true → (not a || b) ≡ true → b ≡ true
        right true b is either = either
        right false b is either = absurd (cc)

    offsets_heard : OffsetsSo (kind_in false (traffic_of x) double) x.params (senders_of (round_at x h even odd)) (row_members x h even odd) (pos (last_action x.params))
        (λ one. IsOf (group_of x.params (hearers_of x h even odd double)) one)
    offsets_heard =
        offsets_by (all_have false t double) (nat_eq (arbitrary_count t) 0) (lists_meet false t double) x.params (senders_of (round_at x h even odd)) (row_members x h even odd) (pos (last_action x.params)) Is
        (λ have none. all_offsets x flutter h even odd double reach s rows lawful Is of sole false (none_arbitrary x double none) have)
        (λ have. all_offsets x flutter h even odd double reach s rows lawful Is of sole true tt have)
        (λ some meet. meeting_offsets x flutter h even odd double reach s rows lawful Is of sole meet (λ one i sure. trusts false some one i))
        (λ some one i. trusting_offsets x flutter h even odd double reach s rows lawful Is of sole one i (trusts false some one i))

    rates_heard : RatesSo (kind_in true (traffic_of x) double) false x.params flutter (senders_of (round_at x h even odd)) (row_members x h even odd)
        (λ one. IsOf (group_of x.params (hearers_of x h even odd double)) one)
    rates_heard =
        rates_by (all_have true t double) (nat_eq (arbitrary_count t) 0) (lists_meet true t double) false x.params flutter (senders_of (round_at x h even odd)) (row_members x h even odd) Is
        (λ have none. all_rates x flutter h even odd double reach s rows lawful Is of sole false (none_arbitrary x double none) have)
        (λ have. all_rates x flutter h even odd double reach s rows lawful Is of sole true tt have)
        (λ some meet. meeting_rates x flutter h even odd double reach s rows lawful Is of sole meet (λ one i sure. trusts true some one i))
        (λ some one i. inl (trusting_rates x flutter h even odd double reach s rows lawful Is of sole one i (trusts true some one i)))

    regular : (one : Member) → IsOf (group_of x.params (hearers_of x h even odd double)) one → IsRegular x.params one.even one.odd
    regular one i =
        let m = known one i in
        let Of : Member → Type 0 = λ node. IsRegular x.params node.even node.odd in
        subst Of m.same (hears m.kind m.node m.among).supplied.regular

    pub group_hears : IsFollowedHearing (heard_in (traffic_of x) double) x flutter h even odd double
    group_hears = record { regular = regular; offsets = offsets_heard; rates = rates_heard }

pub followed_doubles_hear_in_part : FollowedDoublesHearInPart
followed_doubles_hear_in_part beside x from flutter h double earlier even odd now reach beyond part may late d borne room takes g =
    let lawful = (lawful_part x d.later (odd ∷ even ∷ earlier) (subst (IsLawful x) d.parted part.lawful)).1.1 in
    group_hears x flutter now earlier even odd double beyond (timed_rows_from x from flutter h part double late earlier even odd d) g reach room takes lawful borne
