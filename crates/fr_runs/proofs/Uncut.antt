-- In a double cycle that keeps up no row tells a cut, of a node that has a row or of one that follows.
use Rattle.std.proofs.Common.{◌≡◌, ◌⊎◌, ℕ, true, false, None, List, ◌∷◌, All, length, ap, ◌∙◌, inl, inr, arith, if◌then◌else◌}
use Rattle.std.specs.Prelude.{Contains}
use Rattle.fr_base.specs.States.{cut_of}
use Rattle.fr_base.specs.declared.node_row.NodeRow.{NodeRow}
use Rattle.fr_base.specs.declared.state.Outcome.TheVariants.{Within}
use Rattle.fr_cluster.specs.declared.nodes.NodeSpec.{NodeSpec}
use Rattle.fr_time.specs.Cycles.{is_odd}
use Rattle.fr_correct.specs.declared.term.Term.{Term}
use Rattle.fr_precision.proofs.Senders.{All-along}
use Rattle.fr_history.specs.Rows.{CutsRun, cut_after, offset_after}
use Rattle.fr_history.specs.Terms.{cuts_by, cuts_in, offset_term_by, offset_term_in, rate_term_by, rate_term_in}
use Rattle.fr_cluster.specs.Setting.{Setting}
use Rattle.fr_history.specs.Cycles.{Cycle, Cycles, follower_devs_after, told_of}
use Rattle.fr_history.specs.Laws.{follower_cut, follower_laws, follower_offset, row_laws}
use Rattle.fr_history.specs.Standing.{following_nodes, row_nodes}
use Rattle.fr_precision.specs.Round.{Hearer}
use Rattle.fr_history.specs.History.{row_for}
use Rattle.fr_runs.proofs.Doubles.{even_length, even_stands, odd_is_corrected, odd_length}
use Rattle.fr_precision.proofs.RoundLemmas.{contains_map}
use Rattle.fr_runs.proofs.Rows.{all_rows, each_row, row_runs_by}
use Rattle.fr_runs.specs.Gathered.{follower_hearer, followers_since, hearers_of, row_hearer}
use Rattle.fr_runs.specs.Hearers.{IsOneOf}
use Rattle.fr_runs.specs.Rounds.{KeepsUp}
use Rattle.fr_runs.proofs.Courses.{RunTwo, follower_term_is, row_term_is, run_two, told_parity}
use Rattle.fr_runs.proofs.Going.{followers_ascend, odd_active, rows_ascend}
use Rattle.fr_runs.proofs.Succeeding.{followers_stay, rows_stay}

-- no row of some rows tells a cut
abbrev pub NoneCut : List NodeRow → Type 0
NoneCut rows = All (λ row. row.cut ≡ 0) rows

-- what the rows and the followers of a cycle tell of cuts follows its law
pub record CutsOf (x : Setting) (h : Cycles) (c : Cycle) : Type 0 where
  pub rows : CutsRun x (told_of h) c.told
  pub followers : All (λ row. row.cut ≡ follower_cut x.params h c.follower_devs row) c.followers

-- ---- the even cycle corrects nothing

even_rows : (x : Setting) (h : Cycles) (even : Cycle) → is_odd (length h) ≡ false → CutsOf x h even → NoneCut even.told.rows
even_rows x h even parity cuts =
    All-along (λ row. row.cut ≡ cut_after x.params (told_of h) even.told row) (λ row. row.cut ≡ 0) even.told.rows
    (λ row is. is ∙ ap (λ b. if b then cuts_in x.params (told_of h) even.told.devs row else 0) (even_stands (told_of h) row (told_parity h false parity)))
    cuts.rows

even_followers : (x : Setting) (h : Cycles) (even : Cycle) → is_odd (length h) ≡ false → CutsOf x h even → NoneCut even.followers
even_followers x h even parity cuts =
    All-along (λ row. row.cut ≡ follower_cut x.params h even.follower_devs row) (λ row. row.cut ≡ 0) even.followers
    (λ row is. is ∙ ap (λ b. if b then cuts_by x.params (follower_devs_after h) even.follower_devs row None else 0) parity)
    cuts.followers

-- ---- in the odd cycle no term is cut

pub two_of : (x : Setting) (h : Cycles) (even odd : Cycle) (double : ℕ) → KeepsUp x h even odd double → RunTwo x h even odd
two_of x h even odd double up =
    let g = up.gathered in
    run_two x h even odd g.even_runs g.odd_runs (rows_stay x h even double g.counted g.even_runs) (followers_stay x h even double g.counted g.even_runs)

odd_row : (x : Setting) (h : Cycles) (even odd : Cycle) (double : ℕ) (node : NodeSpec) → KeepsUp x h even odd double → CutsOf x (even ∷ h) odd → Contains (row_nodes x h) node
    → (row_for odd.told.rows node.id).cut ≡ 0
odd_row x h even odd double node up cuts among =
    let p = x.params in
    let g = up.gathered in
    let two = two_of x h even odd double up in
    let after = told_of (even ∷ h) in
    let nodes = row_nodes x h in
    let row = row_for odd.told.rows node.id in
    let at : NodeSpec → Hearer = λ n. row_hearer x even odd n.id in
    let one : IsOneOf (hearers_of x h even odd double) (at node) = inl (inl (contains_map at nodes node among)) in
    let late = row_runs_by (row_laws x (even ∷ h)) (offset_after p after odd.told) nodes odd.told.rows node two.odd_rows among in
    let offset : (offset_term_in p after odd.told.devs row.node).outcome ≡ Within =
    ap (λ n. (offset_term_in p after odd.told.devs n).outcome) late.has.number ∙ up.offset_within (at node) one in
    let rate : (rate_term_in p after odd.told.devs row).outcome ≡ Within =
    ap (λ (t : Term). t.outcome) (row_term_is x h even odd node.id late.has.number) ∙ up.rate_within (at node) one in
    let first : cut_of (offset_term_in p after odd.told.devs row.node).outcome ≡ 0 = ap cut_of offset in
    let second : cut_of (rate_term_in p after odd.told.devs row).outcome ≡ 0 = ap cut_of rate in
    let none : cuts_in p after odd.told.devs row ≡ 0 = omega (arith, first, second) in
    let corrected = odd_is_corrected after row (told_parity (even ∷ h) true (odd_length (length h) double g.counted)) (odd_active x h even odd double node g two among) in
    each_row nodes odd.told.rows (λ r. r.cut ≡ cut_after p after odd.told r) node two.odd_rows.nodes among cuts.rows
    ∙ ap (λ b. if b then cuts_in p after odd.told.devs row else 0) corrected
    ∙ none

-- whoever follows in a double cycle does so for the first or for the second time
abbrev pub FollowersAre : Setting → Cycles → ℕ → Type 0
FollowersAre x h double =
    (node : NodeSpec) → Contains (following_nodes x h) node → Contains (followers_since x h 2 double) node ⊎ Contains (followers_since x h 1 double) node

pub one_of : (x : Setting) (h : Cycles) (even odd : Cycle) (double : ℕ) (node : NodeSpec)
    → Contains (followers_since x h 2 double) node ⊎ Contains (followers_since x h 1 double) node → IsOneOf (hearers_of x h even odd double) (follower_hearer x even odd node.id)
one_of x h even odd double node (inl second) = inl (inr (contains_map (λ (n : NodeSpec). follower_hearer x even odd n.id) (followers_since x h 2 double) node second))
one_of x h even odd double node (inr first) = inr (contains_map (λ (n : NodeSpec). follower_hearer x even odd n.id) (followers_since x h 1 double) node first)

odd_follower : (x : Setting) (h : Cycles) (even odd : Cycle) (double : ℕ) (node : NodeSpec) → KeepsUp x h even odd double → CutsOf x (even ∷ h) odd → FollowersAre x h double
    → Contains (following_nodes x h) node → (row_for odd.followers node.id).cut ≡ 0
odd_follower x h even odd double node up cuts are among =
    let p = x.params in
    let g = up.gathered in
    let two = two_of x h even odd double up in
    let nodes = following_nodes x h in
    let row = row_for odd.followers node.id in
    let n = follower_hearer x even odd node.id in
    let one = one_of x h even odd double node (are node among) in
    let late = row_runs_by (follower_laws x (even ∷ h)) (follower_offset p (even ∷ h) odd.follower_devs) nodes odd.followers node two.odd_followers among in
    let offset : (offset_term_by p even.follower_devs odd.follower_devs row.node None).outcome ≡ Within =
    ap (λ m. (offset_term_by p even.follower_devs odd.follower_devs m None).outcome) late.has.number ∙ up.offset_within n one in
    let rate : (rate_term_by p even.follower_devs odd.follower_devs row None).outcome ≡ Within =
    ap (λ (t : Term). t.outcome) (follower_term_is x h even odd node.id late.has.number) ∙ up.rate_within n one in
    let first : cut_of (offset_term_by p even.follower_devs odd.follower_devs row.node None).outcome ≡ 0 = ap cut_of offset in
    let second : cut_of (rate_term_by p even.follower_devs odd.follower_devs row None).outcome ≡ 0 = ap cut_of rate in
    let none : cuts_by p even.follower_devs odd.follower_devs row None ≡ 0 = omega (arith, first, second) in
    each_row nodes odd.followers (λ r. r.cut ≡ follower_cut p (even ∷ h) odd.follower_devs r) node two.odd_followers.nodes among cuts.followers
    ∙ ap (λ b. if b then cuts_by p even.follower_devs odd.follower_devs row None else 0) (odd_length (length h) double g.counted)
    ∙ none

-- ---- both cycles

pub double_uncut : (x : Setting) (h : Cycles) (even odd : Cycle) (double : ℕ) → KeepsUp x h even odd double → FollowersAre x h double → CutsOf x h even → CutsOf x (even ∷ h) odd
    → (NoneCut even.told.rows × NoneCut even.followers) × (NoneCut odd.told.rows × NoneCut odd.followers)
double_uncut x h even odd double up are early late =
    let g = up.gathered in
    let sane = g.covered.sane in
    let two = two_of x h even odd double up in
    let parity = even_length (length h) double g.counted in (
      (even_rows x h even parity early, even_followers x h even parity early),
      (
        all_rows (row_nodes x h) odd.told.rows (λ row. row.cut ≡ 0) (rows_ascend x h sane) two.odd_rows.nodes (λ node among. odd_row x h even odd double node up late among),
        all_rows (following_nodes x h) odd.followers (λ row. row.cut ≡ 0) (followers_ascend x h sane) two.odd_followers.nodes
            (λ node among. odd_follower x h even odd double node up late are among),
      ),
    )
