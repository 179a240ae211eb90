-- A run that nodes join: the double cycle behind one in sharp sync is such a one, whoever joined.
use Rattle.std.proofs.Common.{◌≡◌, ℕ, suc, ◌*◌, ◌<◌, ℤ, pos, List, ◌∷◌, length, map, All, ap, sym, ◌∙◌, subst, inl, inr, arith}
use Rattle.std.specs.Prelude.{◌-ℤ◌, Contains}
use Rattle.fr_base.specs.Within.{IsWithin}
use Rattle.fr_base.specs.declared.node_row.NodeRow.{NodeRow}
use Rattle.fr_base.specs.declared.state.State.TheVariants.{Active}
use Rattle.fr_cluster.specs.Setting.{Setting}
use Rattle.fr_cluster.specs.Values.{Values}
use Rattle.fr_cluster.specs.declared.nodes.NodeSpec.{NodeSpec}
use Rattle.fr_reception.specs.Listening.{Caught}
use Rattle.fr_bound.specs.Sync.{cycle_length_of}
use Rattle.fr_precision.specs.Rows.{Sender}
use Rattle.fr_precision.specs.Round.{sender_with, senders_of, Hearer}
use Rattle.fr_precision.specs.Step.{Member}
use Rattle.fr_precision.proofs.StepLaws.{same_apart}
use Rattle.fr_history.specs.Cycles.{Cycle, Cycles}
use Rattle.fr_history.specs.History.{row_for}
use Rattle.fr_history.specs.Laws.{follower_laws, follower_offset}
use Rattle.fr_history.specs.Standing.{following_nodes, has_row, row_nodes}
use Rattle.fr_runs.specs.Gathered.{follower_hearer, followers_since, hearers_of, round_at, row_hearer}
use Rattle.fr_runs.specs.Hearers.{group_of, member_from}
use Rattle.fr_runs.specs.Listening.{BeginsAt}
use Rattle.fr_runs.proofs.Begun.{row_sends, sender_there}
use Rattle.fr_runs.proofs.Courses.{follower_two, is_correct_follower, rate_begun, start_begun}
use Rattle.fr_runs.proofs.Doubles.{even_length}
use Rattle.fr_runs.proofs.Going.{is_since, rows_ascend}
use Rattle.fr_runs.proofs.Moved.{follower_moves, followed, hearer_by, member_at, moved, next_rows_hold, two_on, IsUncutStep, Moved, Moves}
use Rattle.fr_runs.proofs.Outcomes.{outcomes_none}
use Rattle.fr_precision.proofs.RoundLemmas.{contains_map, map_contains}
use Rattle.fr_runs.proofs.Rows.{row_runs_by}
use Rattle.fr_runs.proofs.Whole.{prior_of}
use Rattle.fr_bound.specs.SharpBounds.{sharp_precision}
use Rattle.fr_promise.specs.SharpGroup.{IsSteadyPlacing, LastApart, StartApart}
use Rattle.fr_promise.specs.SharpJoining.{sharp_group_spread, sharp_reach, GroupSpread}
use Rattle.fr_promise.specs.SharpJoined.{FollowedDoublesGoOn, JoinedDoublesGoOn}
use Rattle.fr_promise.specs.SharpListening.{IsCaughtSharply}
use Rattle.fr_precision.specs.SharpStep.{AreSharp}
use Rattle.fr_promise.proofs.JoinedDoubles.{joined_doubles_are_kept, joined_part}
use Rattle.fr_promise.proofs.JoinedMoves.{next_even_of, uncut_by, IsFollowedStep}
use Rattle.fr_runs.proofs.Succeeding.{nodes_succeed}
use Rattle.fr_runs.proofs.RowsSupplied.{timed_rows_from, proper_in, rates_in_limit, steady_in}
use Rattle.fr_promise.proofs.RunDoubles.{evens_are}
use Rattle.fr_promise.proofs.SharpCatches.{caught_at}
use Rattle.fr_promise.proofs.SharpListened.{sharp_first_rate_is_within}

-- the node of a member
spec_of : (p : Values) (at : NodeSpec → Hearer) (nodes : List NodeSpec) (m : Member) → Contains (map (member_from p) (map at nodes)) m → (n : NodeSpec) × Contains nodes n × (member_from p (at n) ≡ m)
spec_of p at nodes m here =
    let found = map_contains (member_from p) (map at nodes) m here in
    let from = map_contains at nodes found.0 found.1 in
    (from.0, from.1, ap (member_from p) from.2 ∙ found.2)

-- the first rows of a node that listened
record FirstAt (x : Setting) (flutter : ℕ) (beyond : ℤ) (h : Cycles) (even odd even2 odd2 : Cycle) (node : NodeSpec) : Type 0 where
  caught : Caught
  reference : Sender
  there : Contains (senders_of (round_at x h even odd)) reference
  is_caught : IsCaughtSharply x.params flutter beyond caught reference.even reference.odd
  begins : BeginsAt x.params caught (row_for even2.followers node.id) (row_for odd2.followers node.id)

module _
    (x : Setting) (flutter : ℕ) (now to : GroupSpread) (apart : ℕ) (reach beyond next : ℤ) (h : Cycles) (even odd even2 odd2 : Cycle) (double : ℕ)
    (s : IsFollowedStep x flutter now to apart reach beyond next h even odd even2 odd2 double) where
  uncut : IsUncutStep x h even odd even2 odd2 double
  uncut = uncut_by x flutter now to apart reach beyond next h even odd even2 odd2 double s

  move : (node : NodeSpec) → Contains (row_nodes x (odd ∷ even ∷ h)) node → Moved x h even odd even2 odd2 double node (hearer_by x even odd (has_row x h node.id) node.id)
  move node among = moved x h even odd even2 odd2 double node uncut among

  -- ---- the rows of the next double cycle are as near

  next_sync :
      All (λ row. row.state ≡ Active) even2.told.rows × All (λ row. row.state ≡ Active) odd2.told.rows
      × AreSharp x.params to.rows.starts to.rows.lengths next even2.told.rows
  next_sync =
      let after = odd ∷ even ∷ h in
      let Near : List NodeRow → List NodeRow → Type 0 = λ evens odds.
      All (λ row. row.state ≡ Active) evens × All (λ row. row.state ≡ Active) odds × AreSharp x.params to.rows.starts to.rows.lengths next evens in
      next_rows_hold x.params (group_of x.params (hearers_of x h even odd double)) (row_nodes x after) (member_at x h even odd) even2.told.rows odd2.told.rows
      (rows_ascend x after s.rows.covered.sane) s.later.two.even_rows.nodes s.later.two.odd_rows.nodes
      (λ node among. followed x h even odd even2 odd2 double node uncut among) Near s.kept.next_rows

  -- ---- those that follow

  first_member : (node : NodeSpec) → Contains (followers_since x h 1 double) node
      → Contains (group_of x.params (hearers_of x h even odd double)).firsts (member_from x.params (follower_hearer x even odd node.id))
  first_member node among =
      let nodes = followers_since x h 1 double in
      let at : NodeSpec → Hearer = λ n. follower_hearer x even odd n.id in
      contains_map (member_from x.params) (map at nodes) (at node) (contains_map at nodes node among)

  -- for the second time
  second_moves : (node : NodeSpec) → Contains (followers_since x (odd ∷ even ∷ h) 2 (suc double)) node
      → Moves x.params (follower_hearer x even odd node.id) (row_for even2.followers node.id) (row_for odd2.followers node.id)
  second_moves node second =
      follower_moves x h even odd even2 odd2 double node uncut (is_since x h 1 double node (s.succeeded.seconds_from node second)) (is_since x (odd ∷ even ∷ h) 2 (suc double) node second)

  second_start : (row node : NodeSpec) → Contains (row_nodes x (odd ∷ even ∷ h)) row → Contains (followers_since x (odd ∷ even ∷ h) 2 (suc double)) node
      → IsWithin (pos to.seconds) ((row_for even2.told.rows row.id).start -ℤ (row_for even2.followers node.id).start)
  unfolding member_at
  second_start row node among second =
      let goes = move row among in
      let moves = second_moves node second in
      same_apart (pos to.seconds) (row_for even2.told.rows row.id).start (row_for even2.followers node.id).start _ _ goes.moves.start moves.start
      (s.kept.second_starts (member_at x h even odd row) (member_from x.params (follower_hearer x even odd node.id)) goes.will (first_member node (s.succeeded.seconds_from node second)))

  second_last : (row node : NodeSpec) → Contains (row_nodes x (odd ∷ even ∷ h)) row → Contains (followers_since x (odd ∷ even ∷ h) 2 (suc double)) node
      → IsWithin (pos to.rows.lengths) (cycle_length_of x.params (row_for even2.told.rows row.id) -ℤ cycle_length_of x.params (row_for even2.followers node.id))
  unfolding member_at
  second_last row node among second =
      let p = x.params in
      let goes = move row among in
      s.kept.second_lasts (member_at x h even odd row) (member_from p (follower_hearer x even odd node.id)) (row_for even2.told.rows row.id) (row_for even2.followers node.id) (inl goes.will)
      (first_member node (s.succeeded.seconds_from node second))
      (next_even_of p (hearer_by x even odd (has_row x h row.id) row.id) (row_for even2.told.rows row.id) (row_for odd2.told.rows row.id) goes.moves)
      (next_even_of p (follower_hearer x even odd node.id) (row_for even2.followers node.id) (row_for odd2.followers node.id) (second_moves node second))

  second_lasts_too : (other node : NodeSpec) → Contains (followers_since x (odd ∷ even ∷ h) 2 (suc double)) other → Contains (followers_since x (odd ∷ even ∷ h) 2 (suc double)) node
      → IsWithin (pos to.rows.lengths) (cycle_length_of x.params (row_for even2.followers other.id) -ℤ cycle_length_of x.params (row_for even2.followers node.id))
  second_lasts_too other node also second =
      let p = x.params in
      s.kept.second_lasts (member_from p (follower_hearer x even odd other.id)) (member_from p (follower_hearer x even odd node.id)) (row_for even2.followers other.id) (row_for even2.followers node.id)
      (inr (first_member other (s.succeeded.seconds_from other also))) (first_member node (s.succeeded.seconds_from node second))
      (next_even_of p (follower_hearer x even odd other.id) (row_for even2.followers other.id) (row_for odd2.followers other.id) (second_moves other also))
      (next_even_of p (follower_hearer x even odd node.id) (row_for even2.followers node.id) (row_for odd2.followers node.id) (second_moves node second))

  -- for the first time
  first_at : (node : NodeSpec) → Contains (followers_since x (odd ∷ even ∷ h) 1 (suc double)) node → FirstAt x flutter beyond h even odd even2 odd2 node
  first_at node since =
      let p = x.params in
      let counted = s.rows.counted in
      let more = s.later.within in
      let less : suc (suc (suc (length h))) < 2 * x.doubles = omega (arith, counted, more) in
      let covered = s.rows.covered in
      let after = odd ∷ even ∷ h in
      let among = is_since x after 1 (suc double) node since in
      let correct = is_correct_follower x after node among in
      let begins = s.succeeded.firsts_from node since in
      let found = caught_at x flutter beyond h even odd double node begins.join begins.caught s.rows s.joined.rows s.referenced correct begins.joins begins.begins in
      let first = row_runs_by (follower_laws x after) (follower_offset p after even2.follower_devs) (following_nodes x after) even2.followers node s.later.two.even_followers among in
      let at = follower_two x after even2 odd2 node s.later.two (even_length (length after) (suc double) (two_on h even odd double counted)) among in
      let rate = first.rate ∙ rate_begun x (even ∷ h) odd node.id begins.join begins.caught begins.no_row begins.no_follower begins.joins begins.begins in
      let early = proper_in x double flutter node (suc (suc (length h))) (row_for even2.followers node.id).length covered correct (omega (arith, counted)) (omega (arith, less)) at.even_length in
      let late = proper_in x double flutter node (suc (suc (suc (length h)))) (row_for odd2.followers node.id).length covered correct (omega (arith, counted)) less at.odd_length in
      record {
        caught = begins.caught;
        reference = sender_with (round_at x h even odd) begins.caught.slot found.reference.id;
        there = sender_there (round_at x h even odd) found.reference begins.caught.slot covered.sane (row_sends x h even odd found.reference begins.caught.slot found.among found.key);
        is_caught = found.caught;
        begins = record {
          start = first.start ∙ start_begun x (even ∷ h) odd node.id begins.join begins.caught begins.no_row begins.no_follower begins.joins begins.begins;
          even_rate = rate;
          odd_rate = at.double.same_rate ∙ rate;
          even_micro = record { least = early.0; most = early.1 };
          odd_micro = record { least = late.0; most = late.1 };
          even_steady = steady_in x double flutter node (suc (length h)) begins.caught.odd_length (row_for even2.followers node.id).length covered correct (omega (arith, counted)) (omega (arith, less)) found.odd_length at.even_length;
          odd_steady = steady_in x double flutter node (suc (suc (length h))) (row_for even2.followers node.id).length (row_for odd2.followers node.id).length covered correct (omega (arith, counted)) less at.even_length at.odd_length;
        };
      }

  first_start : (row node : NodeSpec) → Contains (row_nodes x (odd ∷ even ∷ h)) row → Contains (followers_since x (odd ∷ even ∷ h) 1 (suc double)) node
      → IsWithin (pos to.firsts.starts) ((row_for even2.told.rows row.id).start -ℤ (row_for even2.followers node.id).start)
  unfolding member_at
  first_start row node among since =
      let goes = move row among in
      let first = first_at node since in
      same_apart (pos to.firsts.starts) (row_for even2.told.rows row.id).start (row_for even2.followers node.id).start _ _ goes.moves.start first.begins.start
      (s.kept.first_starts (member_at x h even odd row) first.caught first.reference s.joins goes.will first.there first.is_caught)

  first_last : (row node : NodeSpec) → Contains (row_nodes x (odd ∷ even ∷ h)) row → Contains (followers_since x (odd ∷ even ∷ h) 1 (suc double)) node
      → IsWithin (pos to.firsts.lengths) (cycle_length_of x.params (row_for even2.told.rows row.id) -ℤ cycle_length_of x.params (row_for even2.followers node.id))
  unfolding member_at
  first_last row node among since =
      let goes = move row among in
      let first = first_at node since in
      s.kept.first_lasts (member_at x h even odd row) first.caught first.reference (row_for even2.told.rows row.id) (row_for even2.followers node.id) (row_for odd2.followers node.id) s.joins (inl goes.will)
      (next_even_of x.params (hearer_by x even odd (has_row x h row.id) row.id) (row_for even2.told.rows row.id) (row_for odd2.told.rows row.id) goes.moves) first.there first.is_caught first.begins

  first_lasts_too : (other node : NodeSpec) → Contains (followers_since x (odd ∷ even ∷ h) 2 (suc double)) other → Contains (followers_since x (odd ∷ even ∷ h) 1 (suc double)) node
      → IsWithin (pos to.firsts.lengths) (cycle_length_of x.params (row_for even2.followers other.id) -ℤ cycle_length_of x.params (row_for even2.followers node.id))
  first_lasts_too other node second since =
      let first = first_at node since in
      s.kept.first_lasts (member_from x.params (follower_hearer x even odd other.id)) first.caught first.reference (row_for even2.followers other.id) (row_for even2.followers node.id) (row_for odd2.followers node.id) s.joins
      (inr (first_member other (s.succeeded.seconds_from other second)))
      (next_even_of x.params (follower_hearer x even odd other.id) (row_for even2.followers other.id) (row_for odd2.followers other.id) (second_moves other second)) first.there first.is_caught first.begins

  -- ---- rates

  next_follower_rate : (node : NodeSpec) → Contains (following_nodes x (odd ∷ even ∷ h)) node → IsWithin x.params.rate_limit (row_for even2.followers node.id).rate
  next_follower_rate node among =
      let Limit : ℤ → Type 0 = IsWithin x.params.rate_limit in
      elim (s.succeeded.followers_from node among) [
        | inl second ↦
            let first = s.succeeded.seconds_from node second in
            subst Limit (sym (second_moves node second).next.even_rate) (s.kept.range (member_from x.params (follower_hearer x even odd node.id)) (inr (first_member node first))).limit
        | inr since ↦
            let first = first_at node since in
            subst Limit (sym first.begins.even_rate) (sharp_first_rate_is_within x.params flutter beyond first.caught first.reference.even first.reference.odd s.rows.covered.sane s.joins first.is_caught)
      ]

  -- ---- where they all lie

  next_placed : IsSteadyPlacing x.params to next (group_of x.params (hearers_of x (odd ∷ even ∷ h) even2 odd2 (suc double)))
  next_placed =
      let p = x.params in
      let after = odd ∷ even ∷ h in
      let rows = row_nodes x after in
      let seconds = followers_since x after 2 (suc double) in
      let firsts = followers_since x after 1 (suc double) in
      let row : NodeSpec → Hearer = λ n. row_hearer x even2 odd2 n.id in
      let follower : NodeSpec → Hearer = λ n. follower_hearer x even2 odd2 n.id in
      let Sharp : List NodeRow → Type 0 = λ evens. AreSharp p to.rows.starts to.rows.lengths next evens in
      record {
        sharp = subst Sharp (sym (evens_are x flutter after even2 odd2 (suc double) s.later)) next_sync.2;
        seconds_start =
            λ one node here there.
            let a = spec_of p row rows one here in
            let b = spec_of p follower seconds node there in
            both_moved (StartApart to.seconds) (member_from p (row a.0)) one (member_from p (follower b.0)) node a.2 b.2 (second_start a.0 b.0 a.1 b.1);
        seconds_last =
            λ one node here there.
            let b = spec_of p follower seconds node there in
            elim here [
              | inl at ↦
                  let a = spec_of p row rows one at in
                  both_moved (LastApart p to.rows.lengths) (member_from p (row a.0)) one (member_from p (follower b.0)) node a.2 b.2 (second_last a.0 b.0 a.1 b.1)
              | inr at ↦
                  let a = spec_of p follower seconds one at in
                  both_moved (LastApart p to.rows.lengths) (member_from p (follower a.0)) one (member_from p (follower b.0)) node a.2 b.2 (second_lasts_too a.0 b.0 a.1 b.1)
            ];
        firsts_start =
            λ one node here there.
            let a = spec_of p row rows one here in
            let b = spec_of p follower firsts node there in
            both_moved (StartApart to.firsts.starts) (member_from p (row a.0)) one (member_from p (follower b.0)) node a.2 b.2 (first_start a.0 b.0 a.1 b.1);
        firsts_last =
            λ one node here there.
            let b = spec_of p follower firsts node there in
            elim here [
              | inl at ↦
                  let a = spec_of p row rows one at in
                  both_moved (LastApart p to.firsts.lengths) (member_from p (row a.0)) one (member_from p (follower b.0)) node a.2 b.2 (first_last a.0 b.0 a.1 b.1)
              | inr at ↦
                  let a = spec_of p follower seconds one at in
                  both_moved (LastApart p to.firsts.lengths) (member_from p (follower a.0)) one (member_from p (follower b.0)) node a.2 b.2 (first_lasts_too a.0 b.0 a.1 b.1)
            ];
      }
    where
      both_moved : (R : Member → Member → Type 0) (a one b node : Member) → a ≡ one → b ≡ node → R a b → R one node
      both_moved R a one b node same also holds =
          let First : Member → Type 0 = λ m. R m node in
          subst First same (subst (R a) also holds)

pub followed_doubles_go_on : FollowedDoublesGoOn
followed_doubles_go_on x from flutter h double earlier even odd even2 odd2 now to apart reach beyond next part referenced late d joins suffices g kept =
    let before = prior_of h double earlier even odd even2 odd2 d in
    let rows = timed_rows_from x from flutter h part double late earlier even odd before in
    let later = timed_rows_from x from flutter h part (suc double) (omega (arith, late)) (odd ∷ even ∷ earlier) even2 odd2 d in
    let succeeded = nodes_succeed x earlier even odd even2 double rows.counted rows.even_runs rows.odd_runs later.even_runs in
    let s : IsFollowedStep x flutter now to apart reach beyond next earlier even odd even2 odd2 double =
    record { joined = g; referenced = referenced; rows = rows; later = later; succeeded = succeeded; joins = joins; kept = kept } in
    let sync = next_sync x flutter now to apart reach beyond next earlier even odd even2 odd2 double s in
    record {
      active_even = sync.0;
      active_odd = sync.1;
      rows = record {
        rates = rates_in_limit x flutter (odd ∷ even ∷ earlier) even2 odd2 (suc double) later next suffices sync.2.about;
        about = sync.2.about;
      };
      placed = next_placed x flutter now to apart reach beyond next earlier even odd even2 odd2 double s;
      follower_rates = next_follower_rate x flutter now to apart reach beyond next earlier even odd even2 odd2 double s;
      fresh =
          λ node correct has.
          let fresh = succeeded.fresh_from node correct has in
          outcomes_none x earlier even odd double node.id rows.counted fresh.1 ∙ g.fresh node correct fresh.0;
    }

pub joined_doubles_go_on : JoinedDoublesGoOn
joined_doubles_go_on beside x from flutter h double earlier even odd even2 odd2 beyond walk next w late d n suffices g =
    let sharp = sharp_group_spread beside x.params flutter in
    followed_doubles_go_on x from flutter h double earlier even odd even2 odd2 sharp sharp (sharp_precision beside x.params flutter) (pos (sharp_reach beside x.params flutter)) beyond next
    (joined_part beside x from flutter h w) w.referenced late d n.joins suffices g
    (joined_doubles_are_kept beside x from flutter h double earlier even odd beyond walk next w late (prior_of h double earlier even odd even2 odd2 d) n g)
