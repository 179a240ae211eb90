-- What a double cycle comes to whose nodes with rows lie apart by free numbers, whoever follows in it.
use Rattle.std.proofs.Common.{◌≡◌, ℕ, true, false, ℤ, ap, sym, ◌∙◌}
use Rattle.std.specs.Prelude.{Contains}
use Rattle.fr_cluster.specs.Questions.{own_index}
use Rattle.fr_cluster.specs.Setting.{Setting, correct_nodes}
use Rattle.fr_cluster.specs.Values.{Values}
use Rattle.fr_cluster.specs.declared.nodes.NodeSpec.{NodeSpec}
use Rattle.fr_cluster.proofs.Elements.{kept_filtered}
use Rattle.fr_correct.specs.Terms.{rate_term_of}
use Rattle.fr_correct.specs.declared.term.Term.{Term}
use Rattle.fr_measure.specs.Deviations.{rate_values_by}
use Rattle.fr_history.specs.History.{row_for}
use Rattle.fr_history.specs.Cycles.{Cycle, Cycles}
use Rattle.fr_history.specs.Standing.{has_row, row_nodes}
use Rattle.fr_runs.specs.Apart.{PlacesSyncFrames, SpreadRowsDrawNear}
use Rattle.fr_runs.specs.Links.{IsLinked}
use Rattle.fr_runs.specs.Numbers.{HasRowIn, StoresSyncFrames, rate_term_told}
use Rattle.fr_runs.proofs.Rows.{has_row as row_there}
use Rattle.fr_runs.proofs.Standing.{told_has}
use Rattle.fr_runs.proofs.RowsDrawn.{member_at, next_active, next_proper, next_rows_lie, next_spread_is, offsets_uncut, rates_uncut, stays_active}
use Rattle.fr_runs.proofs.RowsHeard.{RowLink, SpreadRows, frames_stored, placed_in}
use Rattle.fr_runs.proofs.RowsRun.{next_rows, spread_rows}

module _ (x : Setting) (h : Cycles) (even odd : Cycle) (double : ℕ) (starts lengths reach : ℤ) (s : SpreadRows x h even odd double starts lengths reach) where
  -- a node with a row is one of them
  pub among_rows : (node : NodeSpec) → HasRowIn x even node → Contains (row_nodes x h) node
  among_rows node has =
      kept_filtered (λ (n : NodeSpec). has_row x h n.id) (correct_nodes x) node has.correct (sym (told_has x h even node s.even_runs has.correct) ∙ has.row)

  pub rate_term_is : (node : NodeSpec) → Contains (row_nodes x h) node → rate_term_told x even odd node ≡ (member_at x even odd node).rate_term
  rate_term_is node among =
      let p : Values = x.params in
      ap (λ (id : ℕ). rate_term_of (row_for odd.told.rows node.id).rate p.damping p.rate_limit (rate_values_by p even.told.devs odd.told.devs id (own_index p node.id)))
      (row_there (row_nodes x h) odd.told.rows node s.two.odd_rows.nodes among).number

  -- a link of two nodes with rows
  row_link : (sender receiver : NodeSpec) (slot : ℕ) → IsLinked x sender receiver slot → HasRowIn x even sender → HasRowIn x even receiver → RowLink x h sender receiver slot
  row_link sender receiver slot link first second = record {
    sends = among_rows sender first;
    hears = among_rows receiver second;
    key = link.key;
    other = link.other;
  }

  pub stores : StoresSyncFrames x even odd double
  stores false sender receiver slot channel link first second share regular =
      frames_stored x h even odd double starts lengths reach s false sender receiver slot channel (row_link sender receiver slot link first second) share regular
  stores true sender receiver slot channel link first second share regular =
      frames_stored x h even odd double starts lengths reach s true sender receiver slot channel (row_link sender receiver slot link first second) share regular

  places : PlacesSyncFrames x even odd
  places false sender receiver slot channel value link first second is =
      placed_in x h even odd double starts lengths reach s false sender receiver slot channel value (row_link sender receiver slot link first second) is
  places true sender receiver slot channel value link first second is =
      placed_in x h even odd double starts lengths reach s true sender receiver slot channel value (row_link sender receiver slot link first second) is

-- ---- the law

pub spread_rows_draw_near : SpreadRowsDrawNear
spread_rows_draw_near x h earlier even odd double starts lengths reach w d apart =
    let s : SpreadRows x earlier even odd double starts lengths reach = spread_rows x h w double earlier even odd starts lengths reach d apart in
    let among : (node : NodeSpec) → HasRowIn x even node → Contains (row_nodes x earlier) node = among_rows x earlier even odd double starts lengths reach s in
    record {
      stored = stores x earlier even odd double starts lengths reach s;
      placed = places x earlier even odd double starts lengths reach s;
      rate_within = λ node has.
          ap (λ (term : Term). term.outcome) (rate_term_is x earlier even odd double starts lengths reach s node (among node has))
          ∙ rates_uncut x earlier even odd double starts lengths reach s node (among node has);
      offset_within = λ node has. offsets_uncut x earlier even odd double starts lengths reach s node (among node has);
      active = λ node has. stays_active x earlier even odd double starts lengths reach s node (among node has);
      next_active = λ next_even next_odd node next has.
          let n = next_rows x h w double earlier even odd next_even next_odd next in
          let active = next_active x earlier even odd double starts lengths reach s next_even next_odd n node (among node has) in
          let proper = next_proper x earlier even odd double starts lengths reach s next_even next_odd n node (among node has) in
          record { active_even = active.0; active_odd = active.1; proper_even = proper.0; proper_odd = proper.1 };
      next = λ next_even next_odd next_starts next_lengths one other next shrinks first second.
          next_rows_lie x earlier even odd double starts lengths reach s next_even next_odd (next_rows x h w double earlier even odd next_even next_odd next) next_starts next_lengths one other shrinks
          (among one first) (among other second);
      next_spread = λ next_even next_odd next_starts next_lengths next shrinks same.
          next_spread_is x earlier even odd double starts lengths reach s next_even next_odd (next_rows x h w double earlier even odd next_even next_odd next) next_starts next_lengths same shrinks;
    }
