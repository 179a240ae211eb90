-- In a double cycle of a run that nodes join, in which no term is cut, none is told so, and no row tells a cut, of a node that has a
-- row or of one that follows.
use Rattle.std.proofs.Common.{◌≡◌, ◌⊎◌, ℕ, true, false, None, List, ◌∷◌, All, length, ap, ◌∙◌, inl, inr, arith, if◌then◌else◌}
use Rattle.std.specs.Prelude.{Contains}
use Rattle.fr_base.specs.States.{cut_of}
use Rattle.fr_base.specs.declared.node_row.NodeRow.{NodeRow}
use Rattle.fr_base.specs.declared.state.Outcome.TheVariants.{Within}
use Rattle.fr_base.specs.declared.state.State.TheVariants.{Active}
use Rattle.fr_cluster.specs.Questions.{own_index}
use Rattle.fr_cluster.specs.Setting.{Setting}
use Rattle.fr_cluster.specs.declared.nodes.NodeSpec.{NodeSpec}
use Rattle.fr_correct.specs.Terms.{rate_term_of}
use Rattle.fr_correct.specs.declared.term.Term.{Term}
use Rattle.fr_measure.specs.Deviations.{rate_values_by}
use Rattle.fr_precision.specs.Round.{Hearer}
use Rattle.fr_precision.proofs.Senders.{All-along}
use Rattle.fr_history.specs.Cycles.{Cycle, Cycles, follower_devs_after, told_of}
use Rattle.fr_history.specs.History.{row_for}
use Rattle.fr_history.specs.Laws.{follower_cut, follower_laws, follower_offset, row_laws}
use Rattle.fr_history.specs.Rows.{cut_after, offset_after}
use Rattle.fr_history.specs.Standing.{following_nodes, row_nodes}
use Rattle.fr_history.specs.Terms.{cuts_by, cuts_in, offset_term_by, offset_term_in, rate_term_by, rate_term_in}
use Rattle.fr_promise.specs.Statement.{TermsAreWithin}
use Rattle.fr_runs.specs.Gathered.{follower_hearer, followers_since, hearers_of, row_hearer}
use Rattle.fr_runs.specs.Hearers.{member_from, IsOneOf}
use Rattle.fr_runs.proofs.Courses.{follower_term_is, row_term_is, told_parity}
use Rattle.fr_runs.proofs.Doubles.{even_length, even_stands, odd_is_corrected, odd_length}
use Rattle.fr_runs.proofs.Going.{followers_ascend, rows_ascend}
use Rattle.fr_precision.proofs.RoundLemmas.{contains_map}
use Rattle.fr_runs.proofs.Rows.{all_rows, each_row, row_runs_by}
use Rattle.fr_promise.proofs.JoinedDoubles.{since_when}
use Rattle.fr_runs.proofs.Joined.{steady_at}
use Rattle.fr_runs.proofs.RowsSupplied.{LawfulRows}

-- no row of some rows tells a cut
abbrev NoneCut : List NodeRow → Type 0
NoneCut rows = All (λ row. row.cut ≡ 0) rows

module _
    (x : Setting) (flutter : ℕ) (h : Cycles) (even odd : Cycle) (double : ℕ) (s : LawfulRows x flutter h even odd double) (active_odd : All (λ row. row.state ≡ Active) odd.told.rows)
    (offset_within : (n : Hearer) → IsOneOf (hearers_of x h even odd double) n → (member_from x.params n).offset_term.outcome ≡ Within)
    (rate_within : (n : Hearer) → IsOneOf (hearers_of x h even odd double) n → (member_from x.params n).rate_term.outcome ≡ Within) where
  -- ---- the even cycle corrects nothing

  early_rows : NoneCut even.told.rows
  early_rows =
      All-along (λ row. row.cut ≡ cut_after x.params (told_of h) even.told row) (λ row. row.cut ≡ 0) even.told.rows
      (λ row is. is ∙ ap (λ b. if b then cuts_in x.params (told_of h) even.told.devs row else 0) (even_stands (told_of h) row (told_parity h false (even_length (length h) double s.counted))))
      s.even_obeys.told.cuts

  early_followers : NoneCut even.followers
  early_followers =
      All-along (λ row. row.cut ≡ follower_cut x.params h even.follower_devs row) (λ row. row.cut ≡ 0) even.followers
      (λ row is. is ∙ ap (λ b. if b then cuts_by x.params (follower_devs_after h) even.follower_devs row None else 0) (even_length (length h) double s.counted))
      s.even_obeys.followers.cuts

  -- ---- in the odd cycle no term is cut

  late_row : (node : NodeSpec) → Contains (row_nodes x h) node → (row_for odd.told.rows node.id).cut ≡ 0
  late_row node among =
      let p = x.params in
      let after = told_of (even ∷ h) in
      let nodes = row_nodes x h in
      let row = row_for odd.told.rows node.id in
      let at : NodeSpec → Hearer = λ n. row_hearer x even odd n.id in
      let one : IsOneOf (hearers_of x h even odd double) (at node) = inl (inl (contains_map at nodes node among)) in
      let late = row_runs_by (row_laws x (even ∷ h)) (offset_after p after odd.told) nodes odd.told.rows node s.two.odd_rows among in
      let offset : (offset_term_in p after odd.told.devs row.node).outcome ≡ Within =
      ap (λ n. (offset_term_in p after odd.told.devs n).outcome) late.has.number ∙ offset_within (at node) one in
      let rate : (rate_term_in p after odd.told.devs row).outcome ≡ Within =
      ap (λ (t : Term). t.outcome) (row_term_is x h even odd node.id late.has.number) ∙ rate_within (at node) one in
      let first : cut_of (offset_term_in p after odd.told.devs row.node).outcome ≡ 0 = ap cut_of offset in
      let second : cut_of (rate_term_in p after odd.told.devs row).outcome ≡ 0 = ap cut_of rate in
      let none : cuts_in p after odd.told.devs row ≡ 0 = omega (arith, first, second) in
      let active = each_row nodes odd.told.rows (λ r. r.state ≡ Active) node s.two.odd_rows.nodes among active_odd in
      let corrected = odd_is_corrected after row (told_parity (even ∷ h) true (odd_length (length h) double s.counted)) active in
      each_row nodes odd.told.rows (λ r. r.cut ≡ cut_after p after odd.told r) node s.two.odd_rows.nodes among s.odd_obeys.told.cuts
      ∙ ap (λ b. if b then cuts_in p after odd.told.devs row else 0) corrected
      ∙ none

  -- whoever follows does so for the second or for the first double cycle
  one_of : (node : NodeSpec) → Contains (followers_since x h 2 double) node ⊎ Contains (followers_since x h 1 double) node
      → IsOneOf (hearers_of x h even odd double) (follower_hearer x even odd node.id)
  one_of node (inl second) = inl (inr (contains_map (λ (n : NodeSpec). follower_hearer x even odd n.id) (followers_since x h 2 double) node second))
  one_of node (inr first) = inr (contains_map (λ (n : NodeSpec). follower_hearer x even odd n.id) (followers_since x h 1 double) node first)

  late_follower : (node : NodeSpec) → Contains (following_nodes x h) node → (row_for odd.followers node.id).cut ≡ 0
  late_follower node among =
      let p = x.params in
      let nodes = following_nodes x h in
      let row = row_for odd.followers node.id in
      let n = follower_hearer x even odd node.id in
      let one = one_of node (since_when x h double node s.counted among) in
      let late = row_runs_by (follower_laws x (even ∷ h)) (follower_offset p (even ∷ h) odd.follower_devs) nodes odd.followers node s.two.odd_followers among in
      let offset : (offset_term_by p even.follower_devs odd.follower_devs row.node None).outcome ≡ Within =
      ap (λ m. (offset_term_by p even.follower_devs odd.follower_devs m None).outcome) late.has.number ∙ offset_within n one in
      let rate : (rate_term_by p even.follower_devs odd.follower_devs row None).outcome ≡ Within =
      ap (λ (t : Term). t.outcome) (follower_term_is x h even odd node.id late.has.number) ∙ rate_within n one in
      let first : cut_of (offset_term_by p even.follower_devs odd.follower_devs row.node None).outcome ≡ 0 = ap cut_of offset in
      let second : cut_of (rate_term_by p even.follower_devs odd.follower_devs row None).outcome ≡ 0 = ap cut_of rate in
      let none : cuts_by p even.follower_devs odd.follower_devs row None ≡ 0 = omega (arith, first, second) in
      each_row nodes odd.followers (λ r. r.cut ≡ follower_cut p (even ∷ h) odd.follower_devs r) node s.two.odd_followers.nodes among s.odd_obeys.followers.cuts
      ∙ ap (λ b. if b then cuts_by p even.follower_devs odd.follower_devs row None else 0) (odd_length (length h) double s.counted)
      ∙ none

  -- ---- both cycles

  pub even_uncut : NoneCut even.told.rows × NoneCut even.followers
  even_uncut = (early_rows, early_followers)

  pub odd_uncut : NoneCut odd.told.rows × NoneCut odd.followers
  odd_uncut = (
    all_rows (row_nodes x h) odd.told.rows (λ row. row.cut ≡ 0) (rows_ascend x h s.covered.sane) s.two.odd_rows.nodes late_row,
    all_rows (following_nodes x h) odd.followers (λ row. row.cut ≡ 0) (followers_ascend x h s.covered.sane) s.two.odd_followers.nodes late_follower,
  )

  -- ---- the terms, as they are told

  pub terms_within : TermsAreWithin x h even odd
  terms_within = record {
    rows =
        λ node among.
        let p = x.params in
        let at : NodeSpec → Hearer = λ n. row_hearer x even odd n.id in
        let one : IsOneOf (hearers_of x h even odd double) (at node) = inl (inl (contains_map at (row_nodes x h) node among)) in
        let late = row_runs_by (row_laws x (even ∷ h)) (offset_after p (told_of (even ∷ h)) odd.told) (row_nodes x h) odd.told.rows node s.two.odd_rows among in (
          ap (λ (id : ℕ). (rate_term_of (row_for odd.told.rows node.id).rate p.damping p.rate_limit (rate_values_by p even.told.devs odd.told.devs id (own_index p node.id))).outcome) late.has.number
              ∙ rate_within (at node) one,
          offset_within (at node) one,
        );
    followers =
        λ node among.
        let p = x.params in
        let n = follower_hearer x even odd node.id in
        let one = one_of node (since_when x h double node s.counted among) in
        let late = row_runs_by (follower_laws x (even ∷ h)) (follower_offset p (even ∷ h) odd.follower_devs) (following_nodes x h) odd.followers node s.two.odd_followers among in
        steady_at p even.follower_devs odd.follower_devs node.id (row_for odd.followers node.id) late.has.number (offset_within n one) (rate_within n one);
  }
