-- The nodes with rows of a double cycle in which frames may be lost: each computes its terms from the values that it has, and has at
-- least one of each kind where it is not deaf.
use Rattle.std.proofs.Common.{◌≡◌, ℕ, ◌≤◌, ◌<◌, true, false, ℤ, pos, Option, Some, None, List, [], ◌∷◌, length, refl, ap, ◌∙◌, subst, inl, inr, arith}
use Rattle.std.specs.Prelude.{Contains, IsSome, is_some}
use Rattle.std.specs.List.{cons_option, filter_map, range_with_len}
use Rattle.fr_base.specs.declared.channel.Channel.TheVariants.{A, B}
use Rattle.fr_cluster.specs.Questions.{index_in, key_slot_of, own_index}
use Rattle.fr_cluster.specs.Sane.{IsSane}
use Rattle.fr_cluster.specs.Setting.{Setting}
use Rattle.fr_cluster.specs.declared.nodes.NodeSpec.{NodeSpec}
use Rattle.fr_cluster.proofs.Elements.{Contains-none}
use Rattle.fr_cluster.proofs.KeyIndexes.{index-lt}
use Rattle.fr_cluster.proofs.KeyNodes.{key_among, Contains-cons_cases}
use Rattle.fr_time.proofs.Keys.{key_index_is, key_slot_has, rank_of, slot_of_index}
use Rattle.fr_measure.specs.Values.{change_at, is_own, least_of, mean_of, offset_at, rate_at, values_of}
use Rattle.fr_precision.specs.Round.{offsets_of, rates_of, Hearer, IsRound, IsSender}
use Rattle.fr_precision.specs.Step.{Member}
use Rattle.fr_precision.proofs.Counting.{range_contains}
use Rattle.fr_history.specs.Cycles.{Cycle, Cycles}
use Rattle.fr_history.specs.Standing.{row_nodes}
use Rattle.fr_runs.specs.Gathered.{round_at, row_hearer}
use Rattle.fr_runs.specs.Links.{IsCarried, IsLinked}
use Rattle.fr_runs.proofs.Courses.{is_correct_row, row_applied}
use Rattle.fr_runs.proofs.Doubles.{odd_length}
use Rattle.fr_runs.proofs.Fed.{row_itself}
use Rattle.fr_runs.proofs.Going.{is_row_node}
use Rattle.fr_runs.proofs.Nodes.{correct_node}
use Rattle.fr_precision.proofs.RoundLemmas.{contains_map, map_contains}
use Rattle.fr_runs.proofs.RowsHeard.{RowLink}
use Rattle.fr_traffic.specs.RoundsInPart.{IsRoundInPart, IsSuppliedInPart, IsTrustedOf}
use Rattle.fr_bound.specs.SharpBounds.{last_action}
use Rattle.fr_precision.specs.Among.{ComputesOwn}
use Rattle.fr_runs.specs.SteadyRuns.{row_hearers, row_members, AreRowsInReach, HearsSome, MayHaveArbitrary, NoneIsDeaf}
use Rattle.fr_traffic.proofs.HeardInPart.{both_trusted, rounds_in_part_compute_own}
use Rattle.fr_traffic.proofs.HeardSurely.{change_some, least_some, mean_some, own_of, own_or_other, own_there}
use Rattle.fr_runs.proofs.RowsSupplied.{few_in, frames_stored, looked_up, odd_active, pairs_steady, row_regular, rows_heard_in_part, LawfulRows}
use Rattle.fr_promise.proofs.RunDoubles.{all_among, AllHave}

-- ---- a list of values is not empty

-- where there is one at an index
some_at : (at : ℕ → Option ℤ) (indexes : List ℕ) (index : ℕ) → Contains indexes index → IsSome (at index) → 1 ≤ length (filter_map at indexes)
some_at at [] index among there = absurd (Contains-none index among)
some_at at (first ∷ indexes) index among there = elim (Contains-cons_cases first indexes index among) [
  | inl same ↦ one (at first) (ap (λ (i : ℕ). is_some (at i)) same ∙ there)
  | inr more ↦ further (at first) (some_at at indexes index more there)
]
  where
    one : (o : Option ℤ) → IsSome o → 1 ≤ length (cons_option o (filter_map at indexes))
    one None is = absurd (cc)
    one (Some v) is = omega arith

    further : (o : Option ℤ) → 1 ≤ length (filter_map at indexes) → 1 ≤ length (cons_option o (filter_map at indexes))
    further None some = some
    further (Some v) some = omega arith

some_value : (at : ℕ → Option ℤ) (index : ℕ) → index < 15 → IsSome (at index) → 1 ≤ length (values_of at)
unfolding values_of
some_value at index below there = some_at at (range_with_len 0 15) index (range_contains 15 index below) there

-- ---- a node of a double cycle

module _ (x : Setting) (flutter : ℕ) (h : Cycles) (even odd : Cycle) (double : ℕ) (reach : ℤ) (s : LawfulRows x flutter h even odd double) (r : AreRowsInReach x h even odd reach) where
  sane : IsSane x.params
  sane = s.covered.sane

  pub row_placed : (node : NodeSpec) → Contains (row_nodes x h) node → IsSuppliedInPart (round_at x h even odd) flutter (row_hearer x even odd node.id)
  row_placed node among = record {
    regular = row_regular x flutter h even odd double s r.rates node among;
    applied = row_applied x h even odd node s.two (odd_length (length h) double s.counted) among (odd_active x flutter h even odd double reach s r node among);
    hears = rows_heard_in_part x flutter h even odd double reach s r node among;
    steady = pairs_steady x flutter h even odd double reach s r node among;
  }

  pub round_is : IsRound (round_at x h even odd)
  round_is = record {
    sane = sane;
    few = few_in x double flutter h s.covered;
    regular = λ node there has. row_regular x flutter h even odd double s r.rates node (is_row_node x h node there has);
  }

  -- each sender has the rows of one of them
  pub senders_among : (node : NodeSpec) (slot : ℕ) → IsSender (round_at x h even odd) node slot
      → (n : Hearer) × Contains (row_hearers x h even odd) n × (n.even ≡ (round_at x h even odd).even node.id) × (n.odd ≡ (round_at x h even odd).odd node.id)
  senders_among node slot sender =
      let at : NodeSpec → Hearer = λ n. row_hearer x even odd n.id in
      (at node, contains_map at (row_nodes x h) node (is_row_node x h node sender.there sender.rows), refl, refl)

  -- ---- where each correct node has a row

  module _ (all : AllHave x h) where
    -- both lists have a value of a node's own
    own_values : (node : NodeSpec) (index : ℕ) → Contains (row_nodes x h) node → own_index x.params node.id ≡ Some index
        → (1 ≤ length (offsets_of (row_hearer x even odd node.id))) × (1 ≤ length (rates_of (row_hearer x even odd node.id)))
    own_values node index among own =
        let p = x.params in
        let n = row_hearer x even odd node.id in
        let itself = row_itself x h even odd node index sane among own in
        let below : index < 15 = index-lt p itself.0 index sane (key_slot_has p index itself.0 itself.1.1.slot_is).0 in (
          some_value (offset_at n.look n.own) index below (own_there n.own index (least_of (n.look index true A) (n.look index true B)) own),
          some_value (rate_at n.look n.own) index below (own_there n.own index (mean_of (change_at n.look index A) (change_at n.look index B)) own),
        )

    -- and of one whose frames of both cycles are carried
    carried_values : (node sender : NodeSpec) (slot : ℕ) → Contains (row_nodes x h) node → IsLinked x sender node slot → IsCarried x sender node double
        → (1 ≤ length (offsets_of (row_hearer x even odd node.id))) × (1 ≤ length (rates_of (row_hearer x even odd node.id)))
    carried_values node sender slot among linked carried =
        let p = x.params in
        let n = row_hearer x even odd node.id in
        let link : RowLink x h sender node slot = record { sends = all_among x h sender all linked.sends; hears = among; key = linked.key; other = linked.other } in
        let key = key_among p.nodes sender slot (correct_node x sender linked.sends).there linked.key in
        let index = rank_of p slot in
        let indexed = key_index_is p slot key in
        let slot_is : key_slot_of p index ≡ Some slot = slot_of_index p index slot indexed in
        let below : index < 15 = index-lt p slot index sane indexed in
        let early = ap is_some (looked_up x flutter h even odd double reach s r node.id index slot false carried.channel slot_is) ∙ frames_stored x flutter h even odd double reach s r false sender node slot carried.channel link carried.share carried.even in
        let late = ap is_some (looked_up x flutter h even odd double reach s r node.id index slot true carried.channel slot_is) ∙ frames_stored x flutter h even odd double reach s r true sender node slot carried.channel link carried.share carried.odd in (
          some_value (offset_at n.look n.own) index below
              (own_or_other n.own index (least_of (n.look index true A) (n.look index true B)) (is_own n.own index) refl (least_some (n.look index true) carried.channel late)),
          some_value (rate_at n.look n.own) index below
              (own_or_other n.own index (mean_of (change_at n.look index A) (change_at n.look index B)) (is_own n.own index) refl
              (mean_some (change_at n.look index) carried.channel (change_some (n.look index false carried.channel) (n.look index true carried.channel) early late))),
        )

    has_values : (node : NodeSpec) → Contains (row_nodes x h) node → HearsSome x node double
        → (1 ≤ length (offsets_of (row_hearer x even odd node.id))) × (1 ≤ length (rates_of (row_hearer x even odd node.id)))
    has_values node among (inr from) = carried_values node from.0 from.1.0 among from.1.1 from.1.2
    has_values node among (inl key) = by_key node.key refl key
      where
        by_key : (o : Option ℕ) → node.key ≡ o → IsSome o → (1 ≤ length (offsets_of (row_hearer x even odd node.id))) × (1 ≤ length (rates_of (row_hearer x even odd node.id)))
        by_key None is there = absurd (cc)
        by_key (Some slot) is there =
            let p = x.params in
            let correct = correct_node x node (is_correct_row x h node among) in
            let indexed = key_index_is p slot (key_among p.nodes node slot correct.there is) in
            own_values node (rank_of p slot) among (own_of p node sane correct.there ∙ ap (index_in p) is ∙ indexed)

    -- where no node is deaf, without arbitrary sync nodes
    pub round_in_part : MayHaveArbitrary false x → NoneIsDeaf x double → IsRoundInPart (round_at x h even odd) flutter (row_hearers x h even odd)
    round_in_part none hears =
        let at : NodeSpec → Hearer = λ n. row_hearer x even odd n.id in
        let Trusted : Hearer → Type 0 = λ n. IsTrustedOf (round_at x h even odd) (offset_at n.look n.own) × IsTrustedOf (round_at x h even odd) (rate_at n.look n.own) in
        record {
          round = round_is;
          trusted = λ n here. let found = map_contains at (row_nodes x h) n here in subst Trusted found.2 (trusted found.0 found.1);
          supplied = λ n here.
              let found = map_contains at (row_nodes x h) n here in
              subst (IsSuppliedInPart (round_at x h even odd) flutter) found.2 (row_placed found.0 found.1);
          among = senders_among;
        }
      where
        trusted : (node : NodeSpec) → Contains (row_nodes x h) node
            → IsTrustedOf (round_at x h even odd) (offset_at (row_hearer x even odd node.id).look (row_hearer x even odd node.id).own)
            × IsTrustedOf (round_at x h even odd) (rate_at (row_hearer x even odd node.id).look (row_hearer x even odd node.id).own)
        trusted node among =
            let some = has_values node among (hears node (is_correct_row x h node among)) in
            both_trusted (round_at x h even odd) flutter (row_hearer x even odd node.id) round_is (row_placed node among) none some.0 some.1

-- each of the nodes with rows computes its terms from some of theirs
pub computes_own : (x : Setting) (flutter : ℕ) (earlier : Cycles) (even odd : Cycle) (double : ℕ) (reach : ℤ) (s : LawfulRows x flutter earlier even odd double) (r : AreRowsInReach x earlier even odd reach) (node : Member)
    → AllHave x earlier → MayHaveArbitrary false x → NoneIsDeaf x double → Contains (row_members x earlier even odd) node
    → ComputesOwn x.params flutter (row_members x earlier even odd) (pos (last_action x.params)) node
computes_own x flutter earlier even odd double reach s r node all none hears here =
    rounds_in_part_compute_own (round_at x earlier even odd) flutter (row_hearers x earlier even odd) node
    (round_in_part x flutter earlier even odd double reach s r all none hears) here
