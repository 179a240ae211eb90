-- How far the receivers of a double cycle lie from the senders: the precision, and where a node follows, the reach.
use Rattle.std.proofs.Common.{◌≡◌, ℕ, ◌+◌, ◌*◌, ℤ, pos, Bool, true, false, Some, List, ◌∷◌, [], ap, ◌∙◌, subst, sym, inl, inr, arith, if◌then◌else◌}
use Rattle.std.specs.Prelude.{◌+ℤ◌, ◌*ℤ◌, ◌≤ℤ◌, Contains, is_some}
use Rattle.std.specs.List.{list_any}
use Rattle.std.proofs.lemmas.Bool.{or_left, or_right}
use Rattle.std.proofs.lemmas.Int.{ints}
use Rattle.fr_base.specs.declared.node_row.NodeRow.{NodeRow}
use Rattle.fr_cluster.proofs.KeyNodes.{Contains-cons_cases}
use Rattle.fr_cluster.specs.Sane.{IsSane}
use Rattle.fr_cluster.specs.Setting.{Setting, correct_nodes}
use Rattle.fr_cluster.specs.Values.{Values}
use Rattle.fr_cluster.specs.declared.join.Join.{Join}
use Rattle.fr_cluster.specs.declared.nodes.NodeSpec.{NodeSpec}
use Rattle.fr_bound.specs.Bounds.{arrival_error, follower_error, lambda_of, longest_micro, pi_of, precision_of, reach_of}
use Rattle.fr_precision.specs.Instants.{LieNear, Runs}
use Rattle.fr_precision.proofs.InstantLaws.{actions_stay_near, wider}
use Rattle.fr_runs.specs.Following.{IsInReach, first_apart, first_lengths, second_apart}
use Rattle.fr_runs.proofs.Followed.{first_double_is_in_reach, second_double_is_in_reach}
use Rattle.fr_history.specs.Cycles.{Cycles, some_joins}
use Rattle.fr_cluster.proofs.Elements.{Contains-none}
use Rattle.fr_runs.specs.Gathered.{followers_since, reach_in}
use Rattle.fr_runs.proofs.Standing.{follower_of}

-- ---- whether some node joins

any_there : (test : NodeSpec → Bool) (nodes : List NodeSpec) (node : NodeSpec) → Contains nodes node → test node ≡ true → list_any test nodes ≡ true
any_there test [] node among passes = absurd (Contains-none node among)
any_there test (first ∷ nodes) node among passes = elim (Contains-cons_cases first nodes node among) [
  | inl here ↦ or_left (test first) (list_any test nodes) (ap test here ∙ passes)
  | inr there ↦ or_right (test first) (list_any test nodes) (any_there test nodes node there passes)
]

pub some_joins_by : (x : Setting) (node : NodeSpec) (join : Join) → Contains (correct_nodes x) node → x.join node.id ≡ Some join → some_joins x ≡ true
some_joins_by x node join there at = any_there (λ (n : NodeSpec). is_some (x.join n.id)) (correct_nodes x) node there (ap is_some at)

-- a node that follows joins
pub some_follows : (x : Setting) (h : Cycles) (ago double : ℕ) (node : NodeSpec) → Contains (followers_since x h ago double) node → some_joins x ≡ true
some_follows x h ago double node among =
    let f = follower_of x h ago double node among in some_joins_by x node f.join f.correct f.joins

-- ---- the reach of a run

no_further : (pi l y e q : ℕ) → pos (pi + 2 * l + 2 * q) ≤ℤ pos (pi + 8 * l + 4 * y + 4 * e + 8 * q)
no_further pi l y e q = omega (arith, ints)

same_number : (n : ℕ) → pos n ≤ℤ pos n
same_number n = omega (arith, ints)

pub takes_precision : (x : Setting) → pos (precision_of x.params) ≤ℤ pos (reach_in x)
takes_precision x = by (some_joins x)
  where
    by : (b : Bool) → pos (precision_of x.params) ≤ℤ pos (if b then reach_of x.params else precision_of x.params)
    by true = no_further (pi_of x.params) (lambda_of x.params) (follower_error x.params) (arrival_error x.params) (longest_micro x.params)
    by false = same_number (precision_of x.params)

pub reach_is : (x : Setting) → some_joins x ≡ true → reach_in x ≡ reach_of x.params
reach_is x joins = ap (λ b. if b then reach_of x.params else precision_of x.params) joins

pub precision_is : (x : Setting) → some_joins x ≡ false → reach_in x ≡ precision_of x.params
precision_is x none = ap (λ b. if b then reach_of x.params else precision_of x.params) none

pub takes_reach : (x : Setting) → some_joins x ≡ true → pos (reach_of x.params) ≤ℤ pos (reach_in x)
takes_reach x joins =
    let Takes : ℕ → Type 0 = λ n. pos (reach_of x.params) ≤ℤ pos n in subst Takes (sym (reach_is x joins)) (same_number (reach_of x.params))

-- ---- two nodes lie within it

pub rows_fit : (pi l q : ℕ) (reach : ℤ) → pos (pi + 2 * l + 2 * q) ≤ℤ reach → (pos pi +ℤ (pos 2 *ℤ pos l) +ℤ pos q) ≤ℤ reach
rows_fit pi l q reach takes = omega (arith, ints, takes)

-- where both are in sync
pub synced_reached : (p : Values) (reach : ℤ) (even odd other_even other_odd : NodeRow) → IsSane p → Runs p even odd → Runs p other_even other_odd → pos (precision_of p) ≤ℤ reach
    → LieNear p (pos (pi_of p)) (pos (lambda_of p)) (pos (lambda_of p)) even odd other_even other_odd → IsInReach p reach even odd other_even other_odd
synced_reached p reach even odd other_even other_odd sane runs other_runs takes near macrotick is_odd from to =
    actions_stay_near p (pos (pi_of p)) (pos (lambda_of p)) reach macrotick is_odd even odd other_even other_odd sane runs other_runs near
    (rows_fit (pi_of p) (lambda_of p) (longest_micro p) reach takes) from to

-- where the one follows for the second time, and for the first time
pub second_reached : (p : Values) (reach : ℤ) (even odd other_even other_odd : NodeRow) → IsSane p → Runs p even odd → Runs p other_even other_odd → pos (reach_of p) ≤ℤ reach
    → LieNear p (pos (second_apart p)) (pos (lambda_of p)) (pos (lambda_of p)) even odd other_even other_odd → IsInReach p reach even odd other_even other_odd
second_reached p reach even odd other_even other_odd sane runs other_runs takes near macrotick is_odd from to =
    wider (pos (reach_of p)) reach _ takes (second_double_is_in_reach p even odd other_even other_odd sane runs other_runs near macrotick is_odd from to)

pub first_reached : (p : Values) (reach : ℤ) (even odd other_even other_odd : NodeRow) → IsSane p → Runs p even odd → Runs p other_even other_odd → pos (reach_of p) ≤ℤ reach
    → LieNear p (pos (first_apart p)) (pos (first_lengths p)) (pos (first_lengths p)) even odd other_even other_odd → IsInReach p reach even odd other_even other_odd
first_reached p reach even odd other_even other_odd sane runs other_runs takes near macrotick is_odd from to =
    wider (pos (reach_of p)) reach _ takes (first_double_is_in_reach p even odd other_even other_odd sane runs other_runs near macrotick is_odd from to)
