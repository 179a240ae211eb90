-- No correction term of a run that keeps together is cut or missing, of a node with a row or of one that follows.
use Rattle.std.proofs.Common.{◌≡◌, ◌∙◌, ℕ, ◌<◌, ◌≤◌, None, ◌∷◌, ◌&&◌, inl, ap, ap₂}
use Rattle.fr_base.specs.declared.node_row.NodeRow.{NodeRow}
use Rattle.fr_base.specs.declared.state.Outcome.{Outcome}
use Rattle.fr_base.specs.declared.state.Outcome.TheVariants.{Within}
use Rattle.fr_cluster.specs.Questions.{own_index}
use Rattle.fr_cluster.specs.Setting.{Setting}
use Rattle.fr_cluster.specs.Values.{Values}
use Rattle.fr_cluster.specs.declared.nodes.NodeSpec.{NodeSpec}
use Rattle.fr_correct.specs.Terms.{is_uncut, rate_term_of}
use Rattle.fr_correct.specs.declared.term.Term.{Term}
use Rattle.fr_measure.specs.Deviations.{rate_values_by}
use Rattle.fr_history.specs.Cycles.{Cycle, Cycles, told_of}
use Rattle.fr_history.specs.History.{row_for}
use Rattle.fr_history.specs.Laws.{follower_laws, follower_offset, row_laws}
use Rattle.fr_history.specs.Rows.{offset_after}
use Rattle.fr_history.specs.Standing.{following_nodes, row_nodes}
use Rattle.fr_history.specs.Terms.{offset_term_by, rate_term_by}
use Rattle.fr_precision.specs.Round.{Hearer}
use Rattle.fr_runs.specs.Gathered.{follower_hearer, hearers_of, row_hearer}
use Rattle.fr_runs.specs.Hearers.{IsOneOf, member_from}
use Rattle.fr_runs.specs.Numbers.{rate_term_told}
use Rattle.fr_runs.specs.Rounds.{IsDoubleOf}
use Rattle.fr_runs.specs.Whole.{IsUnfollowedRun}
use Rattle.fr_runs.proofs.Courses.{follower_term_is}
use Rattle.fr_runs.proofs.Precision.{followers_are, IsFedRun}
use Rattle.fr_runs.proofs.Joining.{is_fed, is_run, later_at}
use Rattle.fr_precision.proofs.RoundLemmas.{contains_map}
use Rattle.fr_runs.proofs.Rows.{row_runs_by}
use Rattle.fr_runs.proofs.Uncut.{one_of as hearer_is, two_of}
use Rattle.fr_promise.specs.Statement.{TermsAreWithin}

-- ---- their terms

row_rate_is : (x : Setting) (even odd : Cycle) (node : NodeSpec) → (row_for odd.told.rows node.id).node ≡ node.id
    → rate_term_told x even odd node ≡ (member_from x.params (row_hearer x even odd node.id)).rate_term
row_rate_is x even odd node own =
    let p : Values = x.params in
    ap (λ (id : ℕ). rate_term_of (row_for odd.told.rows node.id).rate p.damping p.rate_limit (rate_values_by p even.told.devs odd.told.devs id (own_index p node.id))) own

pub terms_are_within : (x : Setting) (h : Cycles) (double : ℕ) → IsUnfollowedRun x h double → (m : ℕ) (earlier : Cycles) (even odd : Cycle) → double ≤ m → m < x.doubles
    → IsDoubleOf h m earlier even odd → TermsAreWithin x earlier even odd
terms_are_within x h double s m earlier even odd from less d =
    let p : Values = x.params in
    let up = (later_at x h double m earlier even odd s from less d).up in
    let two = two_of x earlier even odd m up in
    let fed : IsFedRun x h double = record { run = is_run x h double s; first = s.rates; fed = is_fed x h double s; unfollowed = s.unfollowed } in
    record {
      rows = λ node among.
          let at : NodeSpec → Hearer = λ n. row_hearer x even odd n.id in
          let one : IsOneOf (hearers_of x earlier even odd m) (at node) = inl (inl (contains_map at (row_nodes x earlier) node among)) in
          let late = row_runs_by (row_laws x (even ∷ earlier)) (offset_after p (told_of (even ∷ earlier)) odd.told) (row_nodes x earlier) odd.told.rows node two.odd_rows among in
          (ap (λ (t : Term). t.outcome) (row_rate_is x even odd node late.has.number) ∙ up.rate_within (at node) one, up.offset_within (at node) one);
      followers = λ node among.
          let n : Hearer = follower_hearer x even odd node.id in
          let row : NodeRow = row_for odd.followers node.id in
          let one = hearer_is x earlier even odd m node (followers_are x h double m earlier even odd fed from less d node among) in
          let late = row_runs_by (follower_laws x (even ∷ earlier)) (follower_offset p (even ∷ earlier) odd.follower_devs) (following_nodes x earlier) odd.followers node two.odd_followers among in
          let offset : (offset_term_by p even.follower_devs odd.follower_devs row.node None).outcome ≡ Within =
          ap (λ k. (offset_term_by p even.follower_devs odd.follower_devs k None).outcome) late.has.number ∙ up.offset_within n one in
          let rate : (rate_term_by p even.follower_devs odd.follower_devs row None).outcome ≡ Within =
          ap (λ (t : Term). t.outcome) (follower_term_is x earlier even odd node.id late.has.number) ∙ up.rate_within n one in
          ap₂ (λ (a b : Outcome). is_uncut a && is_uncut b) offset rate;
    }
