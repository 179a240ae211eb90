-- What a node with rows in a double cycle comes to behind it and in the next one, where it is active in it and cuts no term.
use Rattle.std.proofs.Common.{◌≡◌, ℕ, suc, ◌*◌, All, ◌∷◌, length, ap, ap₂, sym, ◌∙◌, true, pos, Some, arith, if◌then◌else◌}
use Rattle.std.specs.Prelude.{Contains}
use Rattle.fr_base.specs.declared.state.Outcome.{Outcome}
use Rattle.fr_base.specs.declared.state.Outcome.TheVariants.{Within}
use Rattle.fr_base.specs.declared.state.State.TheVariants.{Active}
use Rattle.fr_cluster.specs.Values.{Values}
use Rattle.fr_cluster.specs.declared.nodes.NodeSpec.{NodeSpec}
use Rattle.fr_correct.specs.declared.term.Term.{Term}
use Rattle.fr_history.specs.History.{History, Record, record_at, row_for}
use Rattle.fr_history.specs.Terms.{offset_term_in, rate_term_in, status_in}
use Rattle.fr_precision.specs.Step.{IsFollowed}
use Rattle.fr_runs.specs.Hearers.{member_from}
use Rattle.fr_runs.proofs.Doubles.{even_length, odd_is_corrected, odd_length, status_even}
use Rattle.fr_runs.proofs.Rows.{each_row}
use Rattle.fr_trace.specs.Trace.{TraceView}
use Rattle.fr_verdict.proofs.Heard.{hearer_in}
use Rattle.fr_verdict.proofs.Recorded.{IsDouble, Passes, even_at, node_two, odd_at, rate_follows, rate_term_is, rows_in, start_follows, state_is, stays_active, steady, window}
use Rattle.fr_verdict.proofs.Standing.{nodes_in}

module _ (p : Values) (t : TraceView) (h : History) (even odd : Record) (k : ℕ) (w : Passes p t) (d : IsDouble t h even odd k) (node : NodeSpec) where
  pub late_active : All (λ row. row.state ≡ Active) odd.rows → Contains (nodes_in p even) node → (row_for odd.rows node.id).state ≡ Active
  late_active active among = each_row (nodes_in p even) odd.rows (λ row. row.state ≡ Active) node (rows_in p t h even odd k w d).odd_rows among active

  -- both terms by the row's own number
  pub offset_told : Contains (nodes_in p even) node → offset_term_in p (even ∷ h) odd.devs (row_for odd.rows node.id).node ≡ (member_from p (hearer_in p t even odd node)).offset_term
  offset_told among = ap (λ n. offset_term_in p (even ∷ h) odd.devs n) (node_two p t h even odd k node w d among).has_odd.number

  pub rate_told : Contains (nodes_in p even) node → rate_term_in p (even ∷ h) odd.devs (row_for odd.rows node.id) ≡ (member_from p (hearer_in p t even odd node)).rate_term
  rate_told among = rate_term_is p (even ∷ h) odd node.id (node_two p t h even odd k node w d among).has_odd

  -- its clock applies the offset term
  pub offset_applied : (row_for odd.rows node.id).state ≡ Active → Contains (nodes_in p even) node
      → (row_for odd.rows node.id).offset ≡ (member_from p (hearer_in p t even odd node)).offset_term.value
  offset_applied active among =
      let is = (rows_in p t h even odd k w d).odd_is node among in
      let row = row_for odd.rows node.id in
      is.offset
      ∙ ap (λ b. if b then (offset_term_in p (even ∷ h) odd.devs row.node).value else pos 0) (odd_is_corrected (even ∷ h) row (odd_length (length h) k d.counted) active)
      ∙ ap (λ (term : Term). term.value) (offset_told among)

  -- where no term is cut it is active behind the double cycle
  pub behind_active : All (λ row. row.state ≡ Active) even.rows → (offset_term_in p (even ∷ h) odd.devs (row_for odd.rows node.id).node).outcome ≡ Within
      → (rate_term_in p (even ∷ h) odd.devs (row_for odd.rows node.id)).outcome ≡ Within → Contains (nodes_in p even) node → (status_in p (odd ∷ even ∷ h) node.id).state ≡ Active
  behind_active active offset rate among =
      let rows = rows_in p t h even odd k w d in
      let two = node_two p t h even odd k node w d among in
      let before : (status_in p h node.id).state ≡ Active =
      sym (state_is p h even node.id two.has_even (rows.even_is node among)) ∙ each_row (nodes_in p even) even.rows (λ row. row.state ≡ Active) node rows.even_rows among active in
      stays_active p t h even odd k node.id (row_for odd.rows node.id) d.counted two.has_odd.is before (ap₂ (λ (a b : Outcome). (a, b)) offset rate)

  -- the next double cycle
  pub goes_on : (even2 odd2 : Record) → IsDouble t (odd ∷ even ∷ h) even2 odd2 (suc k) → (row_for odd.rows node.id).state ≡ Active → (status_in p (odd ∷ even ∷ h) node.id).state ≡ Active
      → Contains (nodes_in p even) node → Contains (nodes_in p even2) node
      → IsFollowed p (member_from p (hearer_in p t even odd node)) (row_for even2.rows node.id) (row_for odd2.rows node.id)
  goes_on even2 odd2 next late active among among2 =
      let after = odd ∷ even ∷ h in
      let one = node_two p t h even odd k node w d among in
      let two = node_two p t after even2 odd2 (suc k) node w next among2 in
      let rows = rows_in p t after even2 odd2 (suc k) w next in
      let corrected = odd_is_corrected (even ∷ h) (row_for odd.rows node.id) (odd_length (length h) k d.counted) late in
      let rate =
      rate_follows p (even ∷ h) odd even2 node.id true one.has_odd two.has_even (rows.even_is node among2) corrected
      ∙ ap (λ (term : Term). term.value) (rate_told among) in
      let count : 2 * suc k ≡ suc (suc (2 * k)) = omega arith in
      let next_at : record_at t.history (suc (suc (2 * k))) ≡ Some even2 = ap (record_at t.history) (sym count) ∙ even_at t after even2 odd2 (suc k) next in
      record {
        start = start_follows p (even ∷ h) odd even2 node.id one.has_odd two.has_even (rows.even_is node among2);
        next = record {
          even_rate = rate;
          odd_rate = two.double.same_rate ∙ rate;
          even_micro = two.even_micro;
          odd_micro = two.odd_micro;
          even_steady = steady p t node (suc (2 * k)) odd even2 w.changes one.there (odd_at t h even odd k d) next_at one.has_odd two.has_even;
          odd_steady = two.steady;
        };
        active_even = state_is p after even2 node.id two.has_even (rows.even_is node among2) ∙ active;
        active_odd =
            state_is p (even2 ∷ after) odd2 node.id two.has_odd (rows.odd_is node among2)
            ∙ status_even (window p t even) after even2 node.id (even_length (length after) (suc k) next.counted) ∙ active;
      }
