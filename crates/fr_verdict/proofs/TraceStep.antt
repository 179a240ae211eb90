-- The step of a steady trace from one double cycle to the next, with free numbers: where action points lie within a reach for which
-- the offset limit suffices.
use Rattle.std.proofs.Common.{All, ◌≡◌, ℕ, suc, ◌+◌, ◌*◌, ◌<◌, ◌≤◌, Bool, true, false, Option, List, ◌∷◌, map, ℤ, pos, refl, ap, sym, ◌∙◌, subst}
use Rattle.std.specs.Prelude.{◌+ℤ◌, ◌≤ℤ◌, Contains}
use Rattle.std.specs.Option.{option_map_or}
use Rattle.std.proofs.lemmas.List.Elements.{All-contains_itself}
use Rattle.fr_base.specs.Within.{IsWithin}
use Rattle.fr_base.specs.declared.node_row.NodeRow.{NodeRow}
use Rattle.fr_base.specs.declared.state.Outcome.TheVariants.{Within}
use Rattle.fr_base.specs.declared.state.State.TheVariants.{Active}
use Rattle.fr_bound.specs.Bounds.{longest_micro}
use Rattle.fr_cluster.specs.Values.{Values, amount}
use Rattle.fr_cluster.specs.declared.names.ParamName.TheVariants as name
use Rattle.fr_cluster.specs.declared.nodes.NodeSpec.{NodeSpec}
use Rattle.fr_correct.specs.declared.term.Term.{Term}
use Rattle.fr_history.specs.History.{AreRowsOf, History, Record, row_for}
use Rattle.fr_history.specs.Skew.{skew_at}
use Rattle.fr_history.specs.Terms.{offset_term_in, rate_term_in, status_in}
use Rattle.fr_history.proofs.Lists.{map-map}
use Rattle.fr_precision.specs.Instants.{gap_of, row_in}
use Rattle.fr_precision.specs.Offsets.{LimitSuffices}
use Rattle.fr_precision.specs.Round.{senders_of, Hearer}
use Rattle.fr_precision.specs.Step.{IsFollowed, Member}
use Rattle.fr_precision.proofs.Senders.{All-along}
use Rattle.fr_runs.specs.Links.{cycle_in}
use Rattle.fr_runs.proofs.Doubles.{even_length, odd_length}
use Rattle.fr_runs.proofs.Receivers.{no_less, same_mapped}
use Rattle.fr_runs.proofs.Rows.{all_rows, rows_are}
use Rattle.fr_runs.proofs.Spread.{macrotick_within, spread_within}
use Rattle.fr_skew.specs.Spreads.{spread_at}
use Rattle.fr_time.specs.Position.{grid_for}
use Rattle.fr_trace.specs.Trace.{TraceView}
use Rattle.fr_verdict.specs.Precision.{AreTermsWithin}
use Rattle.fr_verdict.proofs.Checked.{ascend_in, few_nodes}
use Rattle.fr_verdict.proofs.Heard.{hearer_in, round_in}
use Rattle.fr_verdict.proofs.Recorded.{IsDouble, Passes, even_at, node_two, odd_at, rows_in}
use Rattle.fr_verdict.proofs.Standing.{AreTwo, all_stay, nodes_in, nodes_stay}
use Rattle.fr_verdict.proofs.Turning.{behind_active, goes_on, late_active, offset_told, rate_told}
use Rattle.fr_precision.specs.Lengths.{CanWalk}
use Rattle.fr_bound.specs.SharpBounds.{last_action, precision_by, rate_walk, sharp_lambda}
use Rattle.fr_precision.specs.SharpRound.{as_member, IsRoundInReach}
use Rattle.fr_precision.specs.SharpStep.{ActInReach, DrawsTo, AreSharp, ComeSharply}
use Rattle.fr_verdict.specs.SharpTraces.{recorded_flutter, IsSteadyTrace, RecordsEndWell}
use Rattle.fr_precision.proofs.BoundLemmas.{key_slots_act_early}
use Rattle.fr_precision.proofs.StepLemmas.{macroticks_stay_sharp, next_is_near, spreads_shrink_in_reach}
use Rattle.fr_precision.proofs.AlikeLemmas.{alike_rounds_shrink}
use Rattle.fr_precision.proofs.RoundLemmas.{rounds_in_reach_are_sharp}
use Rattle.fr_verdict.proofs.TraceAlike.{traced_alike, IsSteadySaid}
use Rattle.fr_verdict.specs.Alike.{AreSaidFrom}
use Rattle.fr_verdict.proofs.TraceRows.{evens_are, member_there, members_regular, of_members, round_in_reach, rows_lie, traced_hearers, traced_members}

-- what is known of two records: action points lie within a reach, nodes are active, and their starts and even lengths lie so near
pub record IsTracedStep (beside : Bool) (p : Values) (t : TraceView) (even odd : Record) (starts lengths next_starts next_lengths : ℕ) (beyond next reach : ℤ) : Type 0 where
  pub draws : DrawsTo beside p (recorded_flutter p) starts lengths next_starts next_lengths
  pub least : sharp_lambda beside p (recorded_flutter p) ≤ lengths
  pub walks : CanWalk p (recorded_flutter p) beyond (rate_walk p (recorded_flutter p))
  pub from : pos 0 ≤ℤ next
  pub takes : (beyond +ℤ rate_walk p (recorded_flutter p)) ≤ℤ next
  pub limit : LimitSuffices p reach
  pub acts : ActInReach p reach (pos (last_action p)) (traced_members p t even odd)
  pub active_even : All (λ row. row.state ≡ Active) even.rows
  pub active_odd : All (λ row. row.state ≡ Active) odd.rows
  pub near : AreSharp p starts lengths beyond even.rows

-- and what it comes to in the next two
pub record IsNextRecorded (p : Values) (next_starts next_lengths : ℕ) (next : ℤ) (even odd : Record) : Type 0 where
  pub active_even : All (λ row. row.state ≡ Active) even.rows
  pub active_odd : All (λ row. row.state ≡ Active) odd.rows
  pub rows : AreSharp p next_starts next_lengths next even.rows

module _ (beside : Bool) (p : Values) (t : TraceView) (double : ℕ) (said : IsSteadySaid beside p t double) where
  abbrev s : IsSteadyTrace true p t double
  s = said.steady

  abbrev flutter : ℕ
  flutter = recorded_flutter p

  pub passes : Passes p t
  passes = record { sane = s.sane; trace = s.trace; fits = s.fits; lawful = s.lawful; lengths = s.lengths; changes = s.changes }

  module _ (k : ℕ) (from : double ≤ k) (within : k < t.doubles) (h : History) (even odd : Record) (d : IsDouble t h even odd k) (starts lengths next_starts next_lengths : ℕ) (beyond next reach : ℤ)
      (z : IsTracedStep beside p t even odd starts lengths next_starts next_lengths beyond next reach) where
    abbrev members : List Member
    members = traced_members p t even odd

    sharp : AreSharp p starts lengths beyond (map (λ (node : Member). node.even) members)
    sharp = subst (AreSharp p starts lengths beyond) (sym (evens_are p t h even odd k passes d)) z.near

    round : IsRoundInReach true (round_in p t even odd) flutter reach (traced_hearers p t even odd)
    round = round_in_reach p t h even odd k passes d reach z.limit z.acts (s.heard k from within) z.active_odd true s.arbitrary (few_nodes p t s.counts)

    come : (one other : Member) → Contains members one → Contains members other → ComeSharply p next_starts next_lengths next one other
    come one other here there = comes beside z.draws z.least said.alike one other here there
      where
        comes : (b : Bool) → DrawsTo b p flutter starts lengths next_starts next_lengths → sharp_lambda b p flutter ≤ lengths → AreSaidFrom b p t double → (one other : Member) → Contains members one → Contains members other
            → ComeSharply p next_starts next_lengths next one other
        comes true draws least any one other here there =
            spreads_shrink_in_reach true p flutter (senders_of (round_in p t even odd)) members starts lengths next_starts next_lengths beyond (rate_walk p flutter) next reach (pos (last_action p)) one other
            (record { sane = s.sane; walks = z.walks; suffices = z.limit; early = (key_slots_act_early p s.sane).1 }) z.acts z.from z.takes draws sharp
            (rounds_in_reach_are_sharp true (round_in p t even odd) flutter reach (traced_hearers p t even odd) round) here there
        comes false draws least alike one other here there =
            alike_rounds_shrink (round_in p t even odd) flutter starts lengths next_starts next_lengths beyond (rate_walk p flutter) next reach (traced_hearers p t even odd) round z.walks z.from z.takes draws sharp
            (traced_alike p t h even odd k passes d lengths least (alike k from within)) one other here there

    -- ---- behind it

    own : (node : NodeSpec) → Contains (nodes_in p even) node
        → ComeSharply p next_starts next_lengths next (as_member p (hearer_in p t even odd node)) (as_member p (hearer_in p t even odd node))
    own node among =
        let at = member_there p t h even odd k passes d node among in
        come (as_member p (hearer_in p t even odd node)) (as_member p (hearer_in p t even odd node)) at at

    offset_within : (node : NodeSpec) → Contains (nodes_in p even) node → (offset_term_in p (even ∷ h) odd.devs (row_for odd.rows node.id).node).outcome ≡ Within
    offset_within node among = ap (λ (term : Term). term.outcome) (offset_told p t h even odd k passes d node among) ∙ (own node among).uncut

    rate_within : (node : NodeSpec) → Contains (nodes_in p even) node → (rate_term_in p (even ∷ h) odd.devs (row_for odd.rows node.id)).outcome ≡ Within
    rate_within node among = ap (λ (term : Term). term.outcome) (rate_told p t h even odd k passes d node among) ∙ (own node among).range.uncut

    active : (node : NodeSpec) → Contains (nodes_in p even) node → (status_in p (odd ∷ even ∷ h) node.id).state ≡ Active
    active node among = behind_active p t h even odd k passes d node z.active_even (offset_within node among) (rate_within node among) among

    pub ends_well : RecordsEndWell p h even odd
    ends_well =
        let rows = rows_in p t h even odd k passes d in
        let ascend = ascend_in p even s.sane in
        record {
          within = all_rows (nodes_in p even) odd.rows (AreTermsWithin p (even ∷ h) odd) ascend rows.odd_rows (λ node among. record { offset = offset_within node among; rate = rate_within node among });
          active =
              all_rows (nodes_in p even) odd.rows (λ row. (status_in p (odd ∷ even ∷ h) row.node).state ≡ Active) ascend rows.odd_rows
              (λ node among. ap (λ n. (status_in p (odd ∷ even ∷ h) n).state) (node_two p t h even odd k node passes d among).has_odd.number ∙ active node among);
        }

    -- where a number takes in both ends of the double cycle, no macroticks lie further apart
    precise : (apart : ℕ) → precision_by p starts lengths ≤ apart → next_starts + longest_micro p ≤ apart → (macrotick : ℕ) (is_odd : Bool) (one other : Member) → macrotick < amount p name.gMacroPerCycle → Contains members one → Contains members other
        → IsWithin (pos apart) (gap_of p is_odd (pos macrotick) (row_in is_odd one.even one.odd) (row_in is_odd other.even other.odd))
    precise apart fits end_fits macrotick is_odd one other less here there =
        macroticks_stay_sharp p starts lengths next_starts next_lengths beyond next members one other apart (pos macrotick) is_odd s.sane sharp (members_regular p t h even odd k passes d) here there (come one other here there)
        fits end_fits (no_less macrotick) (macrotick_within p macrotick s.sane less)

    pub skews : (apart : ℕ) → precision_by p starts lengths ≤ apart → next_starts + longest_micro p ≤ apart → (macrotick : ℕ) (is_odd : Bool) → macrotick < amount p name.gMacroPerCycle → skew_at p t.history (cycle_in is_odd k) macrotick ≤ℤ pos apart
    skews apart fits end_fits macrotick is_odd less = by is_odd
      where
        Most : ℕ → Option Record → Type 0
        Most cycle o = option_map_or (λ r. spread_at (grid_for p) cycle r.rows macrotick) o (pos 0) ≤ℤ pos apart

        by : (b : Bool) → skew_at p t.history (cycle_in b k) macrotick ≤ℤ pos apart
        by false =
            let lie = rows_lie p t h even odd k passes d (pos apart) macrotick (λ odd_is one other here there. precise apart fits end_fits macrotick odd_is one other less here there) in
            subst (Most (2 * k)) (sym (even_at t h even odd k d)) (spread_within p (2 * k) (pos apart) even.rows macrotick false (even_length (2 * k) k refl) (no_less apart) lie.0)
        by true =
            let lie = rows_lie p t h even odd k passes d (pos apart) macrotick (λ odd_is one other here there. precise apart fits end_fits macrotick odd_is one other less here there) in
            subst (Most (suc (2 * k))) (sym (odd_at t h even odd k d)) (spread_within p (suc (2 * k)) (pos apart) odd.rows macrotick true (odd_length (2 * k) k refl) (no_less apart) lie.1)

    -- ---- the next one

    module _ (even2 odd2 : Record) (d2 : IsDouble t (odd ∷ even ∷ h) even2 odd2 (suc k)) where
      same_nodes : nodes_in p even2 ≡ nodes_in p even
      same_nodes =
          let first = (rows_in p t h even odd k passes d).two in
          let then = (rows_in p t (odd ∷ even ∷ h) even2 odd2 (suc k) passes d2).two in
          let two : AreTwo p t (even ∷ h) odd even2 = record { early = first.late; late = then.early } in
          all_stay p t (even ∷ h) odd even2 two s.none_joins ∙ nodes_stay p t h even odd k first d.counted

      among2 : (node : NodeSpec) → Contains (nodes_in p even) node → Contains (nodes_in p even2) node
      among2 node among = let Has : List NodeSpec → Type 0 = λ nodes. Contains nodes node in subst Has (sym same_nodes) among

      follows : (node : NodeSpec) → Contains (nodes_in p even) node → IsFollowed p (as_member p (hearer_in p t even odd node)) (row_for even2.rows node.id) (row_for odd2.rows node.id)
      follows node among =
          goes_on p t h even odd k passes d node even2 odd2 d2 (late_active p t h even odd k passes d node z.active_odd among) (active node among) among (among2 node among)

      -- a node of the step by the number of its row
      next_row : Record → Member → NodeRow
      next_row r node = row_for r.rows node.even.node

      number_is : (node : NodeSpec) → Contains (nodes_in p even) node → (row_for even.rows node.id).node ≡ node.id
      number_is node among = (node_two p t h even odd k node passes d among).has_even.number

      followed_at : (node : Member) → Contains members node → IsFollowed p node (next_row even2 node) (next_row odd2 node)
      unfolding next_row
      followed_at =
          of_members p t h even odd k passes d (λ (node : Member). IsFollowed p node (row_for even2.rows node.even.node) (row_for odd2.rows node.even.node))
          (λ node among.
          let At : ℕ → Type 0 = λ id. IsFollowed p (as_member p (hearer_in p t even odd node)) (row_for even2.rows id) (row_for odd2.rows id) in
          subst At (sym (number_is node among)) (follows node among))

      next_evens : map (next_row even2) members ≡ even2.rows
      unfolding next_row
      next_evens =
          let Are : List NodeSpec → Type 0 = λ nodes. AreRowsOf nodes even2.rows in
          let rows = rows_in p t (odd ∷ even ∷ h) even2 odd2 (suc k) passes d2 in
          map-map (λ (node : Member). row_for even2.rows node.even.node) (as_member p) (traced_hearers p t even odd)
          ∙ map-map (λ (n : Hearer). row_for even2.rows n.even.node) (hearer_in p t even odd) (nodes_in p even)
          ∙ same_mapped (λ (node : NodeSpec). row_for even2.rows (row_for even.rows node.id).node) (λ (node : NodeSpec). row_for even2.rows node.id) (nodes_in p even)
          (λ node among. ap (row_for even2.rows) (number_is node among))
          ∙ rows_are (nodes_in p even) even2.rows (ascend_in p even s.sane) (subst Are same_nodes rows.even_rows)

      pub next_stands : IsNextRecorded p next_starts next_lengths next even2 odd2
      next_stands =
          let rows = rows_in p t (odd ∷ even ∷ h) even2 odd2 (suc k) passes d2 in
          let Are : List NodeRow → List NodeSpec → Type 0 = λ rs nodes. AreRowsOf nodes rs in
          let ascend = ascend_in p even s.sane in
          record {
            active_even = all_rows (nodes_in p even) even2.rows (λ row. row.state ≡ Active) ascend (subst (Are even2.rows) same_nodes rows.even_rows) (λ node among. (follows node among).active_even);
            active_odd = all_rows (nodes_in p even) odd2.rows (λ row. row.state ≡ Active) ascend (subst (Are odd2.rows) same_nodes rows.odd_rows) (λ node among. (follows node among).active_odd);
            rows =
                subst (AreSharp p next_starts next_lengths next) next_evens
                (next_is_near p members next_starts next_lengths next (next_row even2)
                (next_row odd2) come
                (
                All-along (Contains members) (λ (node : Member). IsFollowed p node (next_row even2 node) (next_row odd2 node)) members followed_at
                (All-contains_itself members)
                ));
          }
