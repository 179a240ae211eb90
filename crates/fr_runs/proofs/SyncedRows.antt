-- The two rows of a node in a double cycle in sync, whether it has rows or follows.
use Rattle.std.proofs.Common.{◌≡◌, ℕ, suc, ◌*◌, ◌<◌, List, ◌∷◌, length, sym, subst, arith}
use Rattle.std.specs.Prelude.{Contains}
use Rattle.fr_base.specs.Within.{IsWithin}
use Rattle.fr_base.specs.declared.node_row.NodeRow.{NodeRow}
use Rattle.fr_cluster.specs.Setting.{Setting, correct_nodes}
use Rattle.fr_cluster.specs.declared.nodes.NodeSpec.{NodeSpec}
use Rattle.fr_precision.specs.Placement.{IsRegular}
use Rattle.fr_history.specs.Cycles.{Cycle, Cycles}
use Rattle.fr_history.specs.Standing.{following_nodes, row_nodes}
use Rattle.fr_history.specs.History.{row_for}
use Rattle.fr_runs.proofs.Doubles.{even_length}
use Rattle.fr_runs.specs.Gathered.{CycleRuns, IsDoubleInSync}
use Rattle.fr_runs.proofs.Courses.{NodeTwo, RunTwo, follower_two, is_correct_follower, is_correct_row, proper_micro, row_two, run_two, steady}
use Rattle.fr_runs.proofs.Succeeding.{followers_stay, rows_stay}

-- it has a row in the odd cycle too, or follows there too
pub stays_later : (x : Setting) (h : Cycles) (even : Cycle) (double : ℕ) (node : NodeSpec) → length h ≡ 2 * double → CycleRuns x h even → Contains (row_nodes x h) node → Contains (row_nodes x (even ∷ h)) node
stays_later x h even double node counted runs among =
    let Has : List NodeSpec → Type 0 = λ nodes. Contains nodes node in
    subst Has (sym (rows_stay x h even double counted runs)) among

pub row_later : (x : Setting) (h : Cycles) (even odd : Cycle) (double : ℕ) (node : NodeSpec) → IsDoubleInSync x h even odd double → Contains (row_nodes x h) node
    → Contains (row_nodes x (even ∷ h)) node
row_later x h even odd double node g among = stays_later x h even double node g.counted g.even_runs among

pub follows_later : (x : Setting) (h : Cycles) (even : Cycle) (double : ℕ) (node : NodeSpec) → length h ≡ 2 * double → CycleRuns x h even → Contains (following_nodes x h) node → Contains (following_nodes x (even ∷ h)) node
follows_later x h even double node counted runs among =
    let Has : List NodeSpec → Type 0 = λ nodes. Contains nodes node in
    subst Has (sym (followers_stay x h even double counted runs)) among

two_of : (x : Setting) (h : Cycles) (even odd : Cycle) (double : ℕ) → IsDoubleInSync x h even odd double → RunTwo x h even odd
two_of x h even odd double g =
    run_two x h even odd g.even_runs g.odd_runs (rows_stay x h even double g.counted g.even_runs) (followers_stay x h even double g.counted g.even_runs)

-- both rows are regular
regular_by : (x : Setting) (h : Cycles) (even odd : Cycle) (double : ℕ) (node : NodeSpec) (row next : NodeRow) → IsDoubleInSync x h even odd double → Contains (correct_nodes x) node
    → NodeTwo x h row next node → IsWithin x.params.rate_limit row.rate → IsRegular x.params row next
regular_by x h even odd double node row next g there two rate =
    let counted = g.counted in
    let within = g.within in
    let less : suc (length h) < 2 * x.doubles = omega (arith, counted, within) in
    record {
      double = two.double;
      rate_within = rate;
      even_micro = proper_micro x node (length h) row g.covered there (omega (arith, less)) two.even_length;
      odd_micro = proper_micro x node (suc (length h)) next g.covered there less two.odd_length;
      steady = steady x node (length h) row.length next.length g.covered there less two.even_length two.odd_length;
    }

pub row_regular : (x : Setting) (h : Cycles) (even odd : Cycle) (double : ℕ) (node : NodeSpec) → IsDoubleInSync x h even odd double → Contains (row_nodes x h) node
    → IsRegular x.params (row_for even.told.rows node.id) (row_for odd.told.rows node.id)
row_regular x h even odd double node g among =
    regular_by x h even odd double node (row_for even.told.rows node.id) (row_for odd.told.rows node.id) g (is_correct_row x h node among)
    (row_two x h even odd node (two_of x h even odd double g) (even_length (length h) double g.counted) among) (g.rates node among)

pub follower_regular : (x : Setting) (h : Cycles) (even odd : Cycle) (double : ℕ) (node : NodeSpec) → IsDoubleInSync x h even odd double → Contains (following_nodes x h) node
    → IsRegular x.params (row_for even.followers node.id) (row_for odd.followers node.id)
follower_regular x h even odd double node g among =
    regular_by x h even odd double node (row_for even.followers node.id) (row_for odd.followers node.id) g (is_correct_follower x h node among)
    (follower_two x h even odd node (two_of x h even odd double g) (even_length (length h) double g.counted) among) (g.follower_rates node among)
