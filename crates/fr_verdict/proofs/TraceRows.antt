-- The nodes with rows in a double cycle of a recorded trace, as receivers of its round: they have all senders, and two deviations of
-- one sender on one channel are a steady pair.
use Rattle.std.proofs.Common.{◌≡◌, ℕ, ◌≤◌, Bool, true, false, All, List, map, ℤ, pos, refl, subst, ◌∙◌, arith}
use Rattle.std.specs.Prelude.{◌≤ℤ◌, Contains}
use Rattle.std.proofs.lemmas.Int.{ints}
use Rattle.fr_base.specs.Within.{IsWithin}
use Rattle.fr_base.specs.declared.state.State.TheVariants.{Active}
use Rattle.fr_cluster.specs.Values.{Values}
use Rattle.fr_cluster.specs.declared.nodes.NodeSpec.{NodeSpec}
use Rattle.fr_cluster.proofs.KeyNodes.{key_among}
use Rattle.fr_midpoint.specs.Receivers.{AreFew}
use Rattle.fr_time.specs.Slots.{action_point_of}
use Rattle.fr_precision.specs.Instants.{gap_of, row_in}
use Rattle.fr_precision.specs.Offsets.{LimitSuffices}
use Rattle.fr_precision.specs.Placement.{IsRegular}
use Rattle.fr_precision.specs.Round.{sender_with, sync_count, Hearer}
use Rattle.fr_precision.specs.Step.{Member}
use Rattle.fr_precision.proofs.OffsetLaws.{deviation_within}
use Rattle.fr_precision.proofs.Senders.{All-along}
use Rattle.std.proofs.lemmas.List.Elements.{All-contains_itself}
use Rattle.fr_history.specs.History.{History, Record, row_for}
use Rattle.fr_history.proofs.Lists.{map-map}
use Rattle.fr_runs.proofs.Receivers.{no_less}
use Rattle.fr_runs.proofs.Rows.{all_rows, rows_are}
use Rattle.fr_runs.proofs.Spread.{RowsLie}
use Rattle.fr_trace.specs.Trace.{TraceView, is_named}
use Rattle.fr_verdict.specs.Gaps.{is_lasting}
use Rattle.fr_verdict.proofs.Checked.{ascend_in, few_rows}
use Rattle.fr_verdict.proofs.Heard.{AllPairsHeard, heard_in, hearer_in, round_in, sends_in}
use Rattle.fr_verdict.proofs.Recorded.{IsDouble, Passes, node_two, regular_in, rows_in}
use Rattle.fr_verdict.proofs.Standing.{nodes_in}
use Rattle.fr_verdict.proofs.Turning.{late_active, offset_applied}
use Rattle.fr_precision.specs.Hearing.{AllowsArbitrary, AreSteadyPairs}
use Rattle.fr_bound.specs.SharpBounds.{last_action}
use Rattle.fr_precision.specs.SharpRound.{as_member, IsRoundInReach, IsSteadilySupplied}
use Rattle.fr_precision.specs.SharpStep.{ActInReach}
use Rattle.fr_verdict.specs.SharpTraces.{recorded_flutter, MayNameArbitrary}
use Rattle.fr_precision.proofs.BoundLemmas.{key_slots_act_early}
use Rattle.fr_precision.proofs.RoundLemmas.{contains_map, map_contains}
use Rattle.fr_precision.proofs.SteadyLemmas.{deviations_are_steady}

-- the receivers, and the nodes of the step
abbrev pub traced_hearers : Values → TraceView → Record → Record → List Hearer
traced_hearers p t even odd = map (hearer_in p t even odd) (nodes_in p even)

abbrev pub traced_members : Values → TraceView → Record → Record → List Member
traced_members p t even odd = map (as_member p) (traced_hearers p t even odd)

module _ (p : Values) (t : TraceView) (h : History) (even odd : Record) (k : ℕ) (w : Passes p t) (d : IsDouble t h even odd k) where
  -- their rows are those of the records
  pub evens_are : map (λ (node : Member). node.even) (traced_members p t even odd) ≡ even.rows
  evens_are =
      map-map (λ (node : Member). node.even) (as_member p) (traced_hearers p t even odd)
      ∙ map-map (λ (n : Hearer). n.even) (hearer_in p t even odd) (nodes_in p even)
      ∙ rows_are (nodes_in p even) even.rows (ascend_in p even w.sane) (rows_in p t h even odd k w d).even_rows

  pub odds_are : map (λ (node : Member). node.odd) (traced_members p t even odd) ≡ odd.rows
  odds_are =
      map-map (λ (node : Member). node.odd) (as_member p) (traced_hearers p t even odd)
      ∙ map-map (λ (n : Hearer). n.odd) (hearer_in p t even odd) (nodes_in p even)
      ∙ rows_are (nodes_in p even) odd.rows (ascend_in p even w.sane) (rows_in p t h even odd k w d).odd_rows

  pub member_there : (node : NodeSpec) → Contains (nodes_in p even) node → Contains (traced_members p t even odd) (as_member p (hearer_in p t even odd node))
  member_there node among =
      contains_map (as_member p) (traced_hearers p t even odd) (hearer_in p t even odd node) (contains_map (hearer_in p t even odd) (nodes_in p even) node among)

  row_regular : (node : NodeSpec) → Contains (nodes_in p even) node → IsRegular p (row_for even.rows node.id) (row_for odd.rows node.id)
  row_regular node among = regular_in p t h even odd node (node_two p t h even odd k node w d among)

  -- what holds of each node holds of each member
  pub of_members : (P : Member → Type 0) → ((node : NodeSpec) → Contains (nodes_in p even) node → P (as_member p (hearer_in p t even odd node))) → (node : Member)
      → Contains (traced_members p t even odd) node → P node
  of_members P each node here =
      let n = map_contains (as_member p) (traced_hearers p t even odd) node here in
      let own = map_contains (hearer_in p t even odd) (nodes_in p even) n.0 n.1 in
      let By : Hearer → Type 0 = λ m. P (as_member p m) in
      subst P n.2 (subst By own.2 (each own.0 own.1))

  pub members_regular : All (λ (node : Member). IsRegular p node.even node.odd) (traced_members p t even odd)
  members_regular =
      All-along (Contains (traced_members p t even odd)) (λ (node : Member). IsRegular p node.even node.odd) (traced_members p t even odd)
      (of_members (λ (node : Member). IsRegular p node.even node.odd) row_regular) (All-contains_itself (traced_members p t even odd))

  -- ---- what they hear

  module _ (reach : ℤ) (limit : LimitSuffices p reach) (acts : ActInReach p reach (pos (last_action p)) (traced_members p t even odd)) (pairs : AllPairsHeard p t k) where
    pairs_steady : (node : NodeSpec) → Contains (nodes_in p even) node → AreSteadyPairs (round_in p t even odd) (recorded_flutter p) (hearer_in p t even odd node)
    pairs_steady node among index slot sender channel early late other is late_is =
        let heard = heard_in p t h even odd k node w pairs d among in
        let regular = row_regular node among in
        let there = sends_in p t even sender other.sender.there other.sender.rows in
        let acts_early = key_slots_act_early p w.sane in
        let last = acts_early.0 slot (key_among p.nodes sender slot other.sender.there other.sender.key) in
        let action = pos (action_point_of p slot) in
        let to : action ≤ℤ pos (last_action p) = no_more (action_point_of p slot) (last_action p) last in
        let near : IsWithin reach (gap_of p false action (row_for even.rows sender.id) (row_for even.rows node.id)) =
        acts false (as_member p (hearer_in p t even odd sender)) (as_member p (hearer_in p t even odd node)) action (member_there sender there) (member_there node among) (no_less (action_point_of p slot)) to in
        let by_even = heard.placed index slot sender false channel early other is in
        let by_odd = heard.placed index slot sender true channel late other late_is in
        deviations_are_steady p (sender_with (round_in p t even odd) slot sender.id) (row_for even.rows node.id) (row_for odd.rows node.id) early late w.sane regular (no_less (action_point_of p slot))
        (before action (pos (last_action p)) p.correction to acts_early.1)
        (deviation_within p reach false action (row_for even.rows node.id) (row_for even.rows sender.id) early w.sane limit regular.even_micro near by_even) by_even by_odd
      where
        no_more : (a b : ℕ) → a ≤ b → pos a ≤ℤ pos b
        no_more a b le = omega (arith, ints, le)

        before : (a b c : ℤ) → a ≤ℤ b → b ≤ℤ c → a ≤ℤ c
        before a b c x y = omega (arith, ints, x, y)

    module _ (active : All (λ row. row.state ≡ Active) odd.rows) where
      supplied_at : (node : NodeSpec) → Contains (nodes_in p even) node → IsSteadilySupplied (round_in p t even odd) (recorded_flutter p) (hearer_in p t even odd node)
      supplied_at node among = record {
        regular = row_regular node among;
        applied = offset_applied p t h even odd k w d node (late_active p t h even odd k w d node active among) among;
        hears = heard_in p t h even odd k node w pairs d among;
        steady = pairs_steady node among;
      }

      -- ---- their round

      allows : (beside : Bool) → MayNameArbitrary beside p t → AllowsArbitrary beside (round_in p t even odd)
      allows false none = none
      allows true any = any

      pub round_in_reach : (beside : Bool) → MayNameArbitrary beside p t → AreFew (sync_count p (is_lasting t)) (sync_count p (is_named t))
          → IsRoundInReach beside (round_in p t even odd) (recorded_flutter p) reach (traced_hearers p t even odd)
      round_in_reach beside may few =
          let at : NodeSpec → Hearer = hearer_in p t even odd in
          record {
            round = record {
              sane = w.sane;
              few = few_rows p t h even odd k w few d;
              regular = λ node there has. row_regular node (sends_in p t even node there has);
            };
            arbitrary = allows beside may;
            suffices = limit;
            acts = acts;
            supplied = λ n here.
                let found = map_contains at (nodes_in p even) n here in
                subst (IsSteadilySupplied (round_in p t even odd) (recorded_flutter p)) found.2 (supplied_at found.0 found.1);
            among = λ node slot sender. (at node, contains_map at (nodes_in p even) node (sends_in p t even node sender.there sender.rows), refl, refl);
          }

  -- ---- how far apart their clocks lie

  pub rows_lie : (apart : ℤ) (macrotick : ℕ)
      → ((is_odd : Bool) (one other : Member) → Contains (traced_members p t even odd) one → Contains (traced_members p t even odd) other
      → IsWithin apart (gap_of p is_odd (pos macrotick) (row_in is_odd one.even one.odd) (row_in is_odd other.even other.odd)))
      → RowsLie p false apart even.rows macrotick × RowsLie p true apart odd.rows macrotick
  rows_lie apart macrotick near =
      let m = pos macrotick in
      let nodes : List NodeSpec = nodes_in p even in
      let ascend = ascend_in p even w.sane in
      let rows = rows_in p t h even odd k w d in
      let at : NodeSpec → Member = λ node. as_member p (hearer_in p t even odd node) in (
        all_rows nodes even.rows (λ one. All (λ other. IsWithin apart (gap_of p false m one other)) even.rows) ascend rows.even_rows
            (λ one here.
            all_rows nodes even.rows (λ other. IsWithin apart (gap_of p false m (row_for even.rows one.id) other)) ascend rows.even_rows
            (λ other there. near false (at one) (at other) (member_there one here) (member_there other there))),
        all_rows nodes odd.rows (λ one. All (λ other. IsWithin apart (gap_of p true m one other)) odd.rows) ascend rows.odd_rows
            (λ one here.
            all_rows nodes odd.rows (λ other. IsWithin apart (gap_of p true m (row_for odd.rows one.id) other)) ascend rows.odd_rows
            (λ other there. near true (at one) (at other) (member_there one here) (member_there other there))),
      )
