-- The step of a run, given who succeeds whom.
use Rattle.std.proofs.Common.{ℕ, suc, ℤ, pos, List, ◌∷◌, map, sym, ◌∙◌, subst, inl, inr}
use Rattle.std.specs.Prelude.{Contains}
use Rattle.fr_base.specs.Within.{IsWithin}
use Rattle.fr_cluster.specs.declared.nodes.NodeSpec.{NodeSpec}
use Rattle.fr_bound.specs.Bounds.{lambda_of}
use Rattle.fr_bound.specs.Sync.{IsInSync}
use Rattle.fr_precision.specs.Instants.{LieNear}
use Rattle.fr_runs.specs.Following.{first_apart, first_lengths, second_apart}
use Rattle.fr_cluster.specs.Setting.{Setting}
use Rattle.fr_history.specs.Cycles.{Cycle, Cycles}
use Rattle.fr_history.specs.Standing.{following_nodes, row_nodes}
use Rattle.fr_precision.specs.Round.{Hearer}
use Rattle.fr_history.specs.History.{row_for}
use Rattle.fr_precision.proofs.RoundLemmas.{contains_map, map_contains}
use Rattle.fr_runs.specs.Gathered.{follower_hearer, followers_since, hearers_of, row_hearer}
use Rattle.fr_runs.specs.Hearers.{LiesNear, group_of, member_from}
use Rattle.fr_runs.specs.Succession.{SucceedingGoesOn}
use Rattle.fr_runs.proofs.Begun.{first_at, first_rate_within}
use Rattle.fr_runs.proofs.Courses.{run_two}
use Rattle.fr_runs.proofs.Going.{is_since, rows_ascend}
use Rattle.fr_runs.proofs.Moved.{IsStep, follower_moves, followed, kept_in, member_at, moved, next_rows_hold, two_on, uncut_step}
use Rattle.fr_runs.proofs.Outcomes.{outcomes_none}
use Rattle.fr_runs.proofs.Reach.{some_follows}

-- ---- the rows of the next double cycle are in sync

next_in_sync : (x : Setting) (h : Cycles) (even odd even2 odd2 : Cycle) (double : ℕ) → IsStep x h even odd even2 odd2 double → IsInSync x.params even2.told.rows odd2.told.rows
next_in_sync x h even odd even2 odd2 double s =
    let after = odd ∷ even ∷ h in
    next_rows_hold x.params (group_of x.params (hearers_of x h even odd double)) (row_nodes x after) (member_at x h even odd) even2.told.rows odd2.told.rows
    (rows_ascend x after s.gathered.covered.sane) s.next.even_rows.nodes s.next.odd_rows.nodes
    (λ node among. followed x h even odd even2 odd2 double node (uncut_step x h even odd even2 odd2 double s) among) (IsInSync x.params) (kept_in x h even odd even2 odd2 double s).next_rows

-- ---- rates

next_rate : (x : Setting) (h : Cycles) (even odd even2 odd2 : Cycle) (double : ℕ) (node : NodeSpec) → IsStep x h even odd even2 odd2 double
    → Contains (row_nodes x (odd ∷ even ∷ h)) node → IsWithin x.params.rate_limit (row_for even2.told.rows node.id).rate
unfolding member_at
next_rate x h even odd even2 odd2 double node s among =
    let goes = moved x h even odd even2 odd2 double node (uncut_step x h even odd even2 odd2 double s) among in
    let Limit : ℤ → Type 0 = IsWithin x.params.rate_limit in
    subst Limit (sym goes.moves.next.even_rate) ((kept_in x h even odd even2 odd2 double s).range (member_at x h even odd node) (inl goes.will)).limit

-- a follower of the first double cycle is a member of the group
first_member : (x : Setting) (h : Cycles) (even odd : Cycle) (double : ℕ) (node : NodeSpec) → Contains (followers_since x h 1 double) node
    → Contains (group_of x.params (hearers_of x h even odd double)).firsts (member_from x.params (follower_hearer x even odd node.id))
first_member x h even odd double node among =
    let nodes = followers_since x h 1 double in
    let at : NodeSpec → Hearer = λ n. follower_hearer x even odd n.id in
    contains_map (member_from x.params) (map at nodes) (at node) (contains_map at nodes node among)

next_follower_rate : (x : Setting) (h : Cycles) (even odd even2 odd2 : Cycle) (double : ℕ) (node : NodeSpec) → IsStep x h even odd even2 odd2 double
    → Contains (following_nodes x (odd ∷ even ∷ h)) node → IsWithin x.params.rate_limit (row_for even2.followers node.id).rate
next_follower_rate x h even odd even2 odd2 double node s among = elim (s.succeeded.followers_from node among) [
  | inl second ↦
      let first = s.succeeded.seconds_from node second in
      let moves = follower_moves x h even odd even2 odd2 double node (uncut_step x h even odd even2 odd2 double s) (is_since x h 1 double node first) among in
      let Limit : ℤ → Type 0 = IsWithin x.params.rate_limit in
      let member = member_from x.params (follower_hearer x even odd node.id) in
      subst Limit (sym moves.next.even_rate) ((kept_in x h even odd even2 odd2 double s).range member (inr (first_member x h even odd double node first))).limit
  | inr first ↦ first_rate_within x h even odd even2 odd2 double node s first
]

-- ---- followers lie near the rows

-- rows and followers as receivers, by their nodes
lies_near : (x : Setting) (h : Cycles) (even odd : Cycle) (starts lengths : ℕ) (nodes : List NodeSpec)
    → ((node row : NodeSpec) → Contains nodes node → Contains (row_nodes x h) row
    → LieNear x.params (pos starts) (pos lengths) (pos lengths) (row_for even.told.rows row.id) (row_for odd.told.rows row.id) (row_for even.followers node.id) (row_for odd.followers node.id))
    → (n : Hearer) → Contains (map (λ (node : NodeSpec). follower_hearer x even odd node.id) nodes) n
    → LiesNear x.params starts lengths (map (λ (node : NodeSpec). row_hearer x even odd node.id) (row_nodes x h)) n
lies_near x h even odd starts lengths nodes near n among row there =
    let node = map_contains (λ (node : NodeSpec). follower_hearer x even odd node.id) nodes n among in
    let other = map_contains (λ (node : NodeSpec). row_hearer x even odd node.id) (row_nodes x h) row there in
    let Near : Hearer → Hearer → Type 0 = λ a b. LieNear x.params (pos starts) (pos lengths) (pos lengths) a.even a.odd b.even b.odd in
    let First : Hearer → Type 0 = λ a. Near a n in
    subst First other.2 (subst (Near (row_hearer x even odd other.0.id)) node.2 (near node.0 other.0 node.1 other.1))

second_near : (x : Setting) (h : Cycles) (even odd even2 odd2 : Cycle) (double : ℕ) (node row : NodeSpec) → IsStep x h even odd even2 odd2 double
    → Contains (followers_since x (odd ∷ even ∷ h) 2 (suc double)) node → Contains (row_nodes x (odd ∷ even ∷ h)) row
    → LieNear x.params (pos (second_apart x.params)) (pos (lambda_of x.params)) (pos (lambda_of x.params))
    (row_for even2.told.rows row.id) (row_for odd2.told.rows row.id) (row_for even2.followers node.id) (row_for odd2.followers node.id)
unfolding member_at
second_near x h even odd even2 odd2 double node row s second among =
    let goes = moved x h even odd even2 odd2 double row (uncut_step x h even odd even2 odd2 double s) among in
    let first = s.succeeded.seconds_from node second in
    let moves = follower_moves x h even odd even2 odd2 double node (uncut_step x h even odd even2 odd2 double s) (is_since x h 1 double node first) (is_since x (odd ∷ even ∷ h) 2 (suc double) node second) in
    (kept_in x h even odd even2 odd2 double s).next_seconds (member_at x h even odd row) (member_from x.params (follower_hearer x even odd node.id))
    (row_for even2.told.rows row.id) (row_for odd2.told.rows row.id) (row_for even2.followers node.id) (row_for odd2.followers node.id)
    goes.will (first_member x h even odd double node first) goes.moves.start goes.moves.next moves.start moves.next

first_near : (x : Setting) (h : Cycles) (even odd even2 odd2 : Cycle) (double : ℕ) (node row : NodeSpec) → IsStep x h even odd even2 odd2 double
    → Contains (followers_since x (odd ∷ even ∷ h) 1 (suc double)) node → Contains (row_nodes x (odd ∷ even ∷ h)) row
    → LieNear x.params (pos (first_apart x.params)) (pos (first_lengths x.params)) (pos (first_lengths x.params))
    (row_for even2.told.rows row.id) (row_for odd2.told.rows row.id) (row_for even2.followers node.id) (row_for odd2.followers node.id)
unfolding member_at
first_near x h even odd even2 odd2 double node row s since among =
    let goes = moved x h even odd even2 odd2 double row (uncut_step x h even odd even2 odd2 double s) among in
    let first = first_at x h even odd even2 odd2 double node s since in
    (kept_in x h even odd even2 odd2 double s).next_firsts (member_at x h even odd row) first.caught first.reference
    (row_for even2.told.rows row.id) (row_for odd2.told.rows row.id) (row_for even2.followers node.id) (row_for odd2.followers node.id)
    (s.gathered.covered.rate_limit (some_follows x (odd ∷ even ∷ h) 1 (suc double) node since)) goes.will goes.moves.start goes.moves.next first.there first.is_caught first.begins

-- ---- the step

pub succeeding_goes_on_lem : SucceedingGoesOn
succeeding_goes_on_lem x h even odd even2 odd2 double g fed more succeeded rows_stay followers_stay even_runs odd_runs =
    let p = x.params in
    let after = odd ∷ even ∷ h in
    let s : IsStep x h even odd even2 odd2 double = record {
      gathered = g;
      fed = fed;
      more = more;
      succeeded = succeeded;
      two = run_two x h even odd g.even_runs g.odd_runs succeeded.rows_stay succeeded.followers_stay;
      next = run_two x after even2 odd2 even_runs odd_runs rows_stay followers_stay;
    } in
    record {
      covered = g.covered;
      counted = two_on h even odd double g.counted;
      within = more;
      even_runs = even_runs;
      odd_runs = odd_runs;
      rates = λ node among. next_rate x h even odd even2 odd2 double node s among;
      follower_rates = λ node among. next_follower_rate x h even odd even2 odd2 double node s among;
      in_sync = next_in_sync x h even odd even2 odd2 double s;
      seconds_near =
          lies_near x after even2 odd2 (second_apart p) (lambda_of p) (followers_since x after 2 (suc double))
          (λ node row second among. second_near x h even odd even2 odd2 double node row s second among);
      firsts_near =
          lies_near x after even2 odd2 (first_apart p) (first_lengths p) (followers_since x after 1 (suc double))
          (λ node row first among. first_near x h even odd even2 odd2 double node row s first among);
      fresh =
          λ node correct has.
          let before = succeeded.fresh_from node correct has in
          outcomes_none x h even odd double node.id g.counted before.1 ∙ g.fresh node correct before.0;
    }
