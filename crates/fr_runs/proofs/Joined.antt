-- No follower is left behind: a node that follows for the first time does so for the second time, and then it has a row.
use Rattle.std.proofs.Common.{◌≡◌, ℕ, suc, ◌+◌, ◌*◌, ◌==◌, Bool, true, ◌&&◌, ◌||◌, Option, None, List, ◌∷◌, length, pos, ap, ap₂, ◌∙◌, inl, inr, arith}
use Rattle.std.specs.Prelude.{Contains, is_some}
use Rattle.std.proofs.lemmas.Bool.{or_right}
use Rattle.fr_base.specs.declared.dev.Dev.{Dev}
use Rattle.fr_base.specs.declared.node_row.NodeRow.{NodeRow}
use Rattle.fr_base.specs.declared.state.Outcome.TheVariants.{Within}
use Rattle.fr_cluster.specs.Setting.{Setting, correct_nodes}
use Rattle.fr_cluster.specs.Values.{Values}
use Rattle.fr_cluster.specs.declared.nodes.NodeSpec.{NodeSpec}
use Rattle.fr_time.specs.Cycles.{is_odd}
use Rattle.fr_correct.specs.Terms.{is_uncut, rate_term_of}
use Rattle.fr_measure.specs.Deviations.{rate_values_by}
use Rattle.fr_history.specs.History.{row_for, row_of}
use Rattle.fr_history.specs.Terms.{offset_term_by, rate_term_by}
use Rattle.fr_runs.specs.Group.{IsGroupKept, IsOf}
use Rattle.fr_history.specs.Catching.{begins_with}
use Rattle.fr_history.specs.Cycles.{Cycle, Cycles}
use Rattle.fr_history.specs.Standing.{followed_well, following_nodes, follows, follows_by, goes_on, has_row, has_row_by, is_steady, row_nodes}
use Rattle.fr_history.proofs.Standing.{equal}
use Rattle.fr_precision.specs.Round.{Hearer, senders_of}
use Rattle.fr_precision.specs.Step.{Member}
use Rattle.fr_cluster.proofs.Elements.{kept_filtered}
use Rattle.fr_precision.proofs.RoundLemmas.{contains_map}
use Rattle.fr_runs.proofs.Rows.{has_row as row_there}
use Rattle.fr_runs.specs.Gathered.{CycleRuns, IsDoubleInSync, IsHeardByAll, follower_hearer, followers_since, hearers_of, reach_in, round_at}
use Rattle.fr_runs.specs.Hearers.{IsOneOf, group_of, member_from}
use Rattle.fr_runs.specs.Succession.{FollowersJoin}
use Rattle.fr_runs.proofs.Courses.{run_two}
use Rattle.fr_runs.proofs.Going.{kept}
use Rattle.fr_runs.proofs.Standing.{follower_of, follows_stays, is_follower}
use Rattle.fr_runs.proofs.Succeeding.{followers_stay, rows_stay}

-- what a double cycle with its deviations comes to
pub double_kept : (x : Setting) (h : Cycles) (even odd : Cycle) (double : ℕ) → IsDoubleInSync x h even odd double → IsHeardByAll x h even odd double
    → IsGroupKept x.params (senders_of (round_at x h even odd)) (group_of x.params (hearers_of x h even odd double)) (pos (reach_in x))
double_kept x h even odd double g fed =
    kept x h even odd double g fed (run_two x h even odd g.even_runs g.odd_runs (rows_stay x h even double g.counted g.even_runs) (followers_stay x h even double g.counted g.even_runs))

-- a receiver is a member of the group
pub is_of : (x : Setting) (h : Cycles) (even odd : Cycle) (double : ℕ) (n : Hearer) → IsOneOf (hearers_of x h even odd double) n
    → IsOf (group_of x.params (hearers_of x h even odd double)) (member_from x.params n)
is_of x h even odd double n one = elim one [
  | inl will ↦ elim will [
    | inl row ↦ inl (inl (contains_map (member_from x.params) (hearers_of x h even odd double).rows n row))
    | inr second ↦ inl (inr (contains_map (member_from x.params) (hearers_of x h even odd double).seconds n second))
  ]
  | inr first ↦ inr (contains_map (member_from x.params) (hearers_of x h even odd double).firsts n first)
]

both_true : (a b : Bool) → a ≡ true → b ≡ true → (a && b) ≡ true
both_true a b one other = ap₂ (λ c d. c && d) one other

-- a follower neither of whose terms was cut or missing was steady
pub steady_at : (p : Values) (evens odds : List Dev) (node : ℕ) (row : NodeRow) → row.node ≡ node
    → (offset_term_by p evens odds node None).outcome ≡ Within
    → (rate_term_of row.rate p.damping p.rate_limit (rate_values_by p evens odds node None)).outcome ≡ Within
    → is_steady p evens odds row ≡ true
steady_at p evens odds node row own offset rate =
    let by_offset : is_uncut (offset_term_by p evens odds row.node None).outcome ≡ true =
    ap (λ n. is_uncut (offset_term_by p evens odds n None).outcome) own ∙ ap is_uncut offset in
    let by_rate : is_uncut (rate_term_by p evens odds row None).outcome ≡ true =
    ap (λ n. is_uncut (rate_term_of row.rate p.damping p.rate_limit (rate_values_by p evens odds n None)).outcome) own ∙ ap is_uncut rate in
    both_true (is_uncut (offset_term_by p evens odds row.node None).outcome) (is_uncut (rate_term_by p evens odds row None).outcome) by_offset by_rate

-- ---- a double cycle in which no term of a receiver is cut

pub record IsUncutIn (x : Setting) (h : Cycles) (even odd : Cycle) (double : ℕ) : Type 0 where
  pub counted : length h ≡ 2 * double
  pub even_runs : CycleRuns x h even
  pub odd_runs : CycleRuns x (even ∷ h) odd
  pub offset : (node : Member) → IsOf (group_of x.params (hearers_of x h even odd double)) node → node.offset_term.outcome ≡ Within
  pub rate : (node : Member) → IsOf (group_of x.params (hearers_of x h even odd double)) node → node.rate_term.outcome ≡ Within

-- each follower followed well up to the end of the double cycle
record FollowedWell (x : Setting) (h : Cycles) (even odd : Cycle) (node : NodeSpec) : Type 0 where
  there : is_some (row_of odd.followers node.id) ≡ true
  well : followed_well x.params odd (even ∷ h) (row_of odd.followers node.id) ≡ true

follows_well : (x : Setting) (h : Cycles) (even odd : Cycle) (double : ℕ) (node : NodeSpec) → IsUncutIn x h even odd double
    → Contains (correct_nodes x) node → follows x h node.id ≡ true → IsOneOf (hearers_of x h even odd double) (follower_hearer x even odd node.id)
    → FollowedWell x h even odd node
follows_well x h even odd double node g there does one =
    let still : follows x (even ∷ h) node.id ≡ true = follows_stays x h even double node g.counted g.even_runs there ∙ does in
    let among = kept_filtered (λ (n : NodeSpec). follows x (even ∷ h) n.id) (correct_nodes x) node there still in
    let row = row_there (following_nodes x (even ∷ h)) odd.followers node g.odd_runs.followers.nodes among in
    let member = member_from x.params (follower_hearer x even odd node.id) in
    let is = is_of x h even odd double (follower_hearer x even odd node.id) one in
    record {
      there = ap (λ (o : Option NodeRow). is_some o) row.is;
      well =
          ap (followed_well x.params odd (even ∷ h)) row.is
          ∙ steady_at x.params even.follower_devs odd.follower_devs node.id (row_for odd.followers node.id) row.number (g.offset member is) (g.rate member is);
    }

-- whoever follows for the second time has a row then
second_has : (x : Setting) (h : Cycles) (even odd : Cycle) (double : ℕ) → IsUncutIn x h even odd double
    → (node : NodeSpec) → Contains (followers_since x h 2 double) node → Contains (row_nodes x (odd ∷ even ∷ h)) node
second_has x h even odd double g node among =
    let f = follower_of x h 2 double node among in
    let does : follows x h node.id ≡ true = ap (follows_by x h node.id) f.joins ∙ f.does in
    let one = contains_map (λ (n : NodeSpec). follower_hearer x even odd n.id) (followers_since x h 2 double) node among in
    let followed = follows_well x h even odd double node g f.correct does (inl (inr one)) in
    let counted : length h ≡ 2 * double = g.counted in
    let since : f.join.double + 2 ≡ double = f.since in
    let now : Bool = suc (suc (length h)) == 2 * f.join.double + 6 in
    let well : Bool = followed_well x.params odd (even ∷ h) (row_of odd.followers node.id) in
    let at : now ≡ true = equal (suc (suc (length h))) (2 * f.join.double + 6) (omega (arith, counted, since)) in
    let has : has_row x (odd ∷ even ∷ h) node.id ≡ true =
    ap (has_row_by x (odd ∷ even ∷ h) node.id) f.joins ∙ or_right (is_some (row_of odd.told.rows node.id)) (now && well) (both_true now well at followed.well) in
    kept_filtered (λ (n : NodeSpec). has_row x (odd ∷ even ∷ h) n.id) (correct_nodes x) node f.correct has

-- and whoever follows for the first time follows for the second time
first_follows : (x : Setting) (h : Cycles) (even odd : Cycle) (double : ℕ) → IsUncutIn x h even odd double
    → (node : NodeSpec) → Contains (followers_since x h 1 double) node → Contains (followers_since x (odd ∷ even ∷ h) 2 (suc double)) node
first_follows x h even odd double g node among =
    let f = follower_of x h 1 double node among in
    let does : follows x h node.id ≡ true = ap (follows_by x h node.id) f.joins ∙ f.does in
    let one = contains_map (λ (n : NodeSpec). follower_hearer x even odd n.id) (followers_since x h 1 double) node among in
    let followed = follows_well x h even odd double node g f.correct does (inr one) in
    let counted : length h ≡ 2 * double = g.counted in
    let since : f.join.double + 1 ≡ double = f.since in
    let now : Bool = suc (suc (length h)) == 2 * f.join.double + 4 in
    let well : Bool = followed_well x.params odd (even ∷ h) (row_of odd.followers node.id) in
    let at : now ≡ true = equal (suc (suc (length h))) (2 * f.join.double + 4) (omega (arith, counted, since)) in
    let further : Bool = is_odd (suc (suc (length h))) || (now && well) in
    let goes : goes_on x (odd ∷ even ∷ h) node.id f.join ≡ true =
    both_true (is_some (row_of odd.followers node.id)) further followed.there (or_right (is_odd (suc (suc (length h)))) (now && well) (both_true now well at followed.well)) in
    let again : follows x (odd ∷ even ∷ h) node.id ≡ true =
    ap (follows_by x (odd ∷ even ∷ h) node.id) f.joins ∙ or_right (is_some (begins_with x (odd ∷ even ∷ h) node.id f.join)) (goes_on x (odd ∷ even ∷ h) node.id f.join) goes in
    is_follower x (odd ∷ even ∷ h) 2 (suc double) node f.join f.joins f.correct again (omega (arith, since))

-- so no follower is left behind
pub uncut_followers_join : (x : Setting) (h : Cycles) (even odd : Cycle) (double : ℕ) → IsUncutIn x h even odd double
    → ((node : NodeSpec) → Contains (followers_since x h 2 double) node → Contains (row_nodes x (odd ∷ even ∷ h)) node)
    × ((node : NodeSpec) → Contains (followers_since x h 1 double) node → Contains (followers_since x (odd ∷ even ∷ h) 2 (suc double)) node)
uncut_followers_join x h even odd double g = (second_has x h even odd double g, first_follows x h even odd double g)

pub followers_join : FollowersJoin
followers_join x h even odd double g fed =
    let k = double_kept x h even odd double g fed in
    uncut_followers_join x h even odd double (
    record {
      counted = g.counted;
      even_runs = g.even_runs;
      odd_runs = g.odd_runs;
      offset = k.uncut;
      rate = λ node here. (k.range node here).uncut;
    }
    )
