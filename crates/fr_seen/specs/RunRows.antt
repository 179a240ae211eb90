-- The rows of a node in the cycles of a run: lawful, with oscillators within what is stated, in sync or not.
use Rattle.std.specs.Prelude.{◌≡◌, ◌≤ℤ◌, ◌-ℤ◌, ◌<◌, ◌≤◌, ◌*◌, ◌↔◌, ℕ, suc, pos, length, Contains, IsSome, Some}
use Rattle.fr_base.specs.Within.{IsWithin}
use Rattle.fr_base.specs.declared.node_row.NodeRow.{NodeRow}
use Rattle.fr_cluster.specs.Sane.{IsSane}
use Rattle.fr_cluster.specs.Setting.{Setting, correct_nodes}
use Rattle.fr_cluster.specs.Values.{amount}
use Rattle.fr_cluster.specs.declared.names.ParamName.TheVariants as name
use Rattle.fr_cluster.specs.declared.nodes.NodeSpec.{NodeSpec}
use Rattle.fr_bound.specs.Bounds.{longest_micro, shortest_micro}
use Rattle.fr_precision.specs.Placement.{IsRegular}
use Rattle.fr_precision.specs.Rows.{corrected_end_of, IsSteady}
use Rattle.fr_history.specs.Cycles.{Cycle, Cycles}
use Rattle.fr_history.specs.History.{row_of}
use Rattle.fr_history.specs.Lawful.{IsLawful}
use Rattle.fr_runs.specs.Numbers.{HasDouble}
use Rattle.fr_runs.specs.Rounds.{RatesBegin}

-- lawful cycles of a run whose rates begin within their limit, and whose correct nodes have microticks that are proper and
-- change by no more than what is stated; no check is asked for, and no node need be in sync
pub record IsTimedRun (x : Setting) (h : Cycles) : Type 0 where
  pub sane : IsSane x.params
  pub rates : RatesBegin x
  pub lawful : IsLawful x h
  pub within : length h ≤ 2 * x.doubles
  pub least :
      (node : NodeSpec) (cycle : ℕ) → Contains (correct_nodes x) node → cycle < 2 * x.doubles
      → pos (shortest_micro x.params) ≤ℤ x.microtick node.id cycle
  pub most :
      (node : NodeSpec) (cycle : ℕ) → Contains (correct_nodes x) node → cycle < 2 * x.doubles
      → x.microtick node.id cycle ≤ℤ pos (longest_micro x.params)
  pub changes :
      (node : NodeSpec) (cycle : ℕ) → Contains (correct_nodes x) node → suc cycle < 2 * x.doubles
      → IsWithin (pos (amount x.params name.xChangeBound)) (x.microtick node.id (suc cycle) -ℤ x.microtick node.id cycle)

-- both rows of a node in a double cycle are regular, and it has both or none
abbrev pub NodesRunRegularly : Type 0
NodesRunRegularly =
    (x : Setting) (h : Cycles) (double : ℕ) (even odd : Cycle) (node : ℕ) (row next : NodeRow)
    → IsTimedRun x h → HasDouble h double even odd
    → row_of even.told.rows node ≡ Some row → row_of odd.told.rows node ≡ Some next → IsRegular x.params row next

abbrev pub NodesHaveBothRows : Type 0
NodesHaveBothRows =
    (x : Setting) (h : Cycles) (double : ℕ) (even odd : Cycle) (node : ℕ) → IsTimedRun x h → HasDouble h double even odd
    → IsSome (row_of even.told.rows node) ↔ IsSome (row_of odd.told.rows node)

-- its next double cycle starts where the odd cycle ends, with a steady microtick
abbrev pub NodesGoOn : Type 0
NodesGoOn =
    (x : Setting) (h : Cycles) (double : ℕ) (even odd next_even next_odd : Cycle) (node : ℕ) (row next : NodeRow)
    → IsTimedRun x h → HasDouble h double even odd → HasDouble h (suc double) next_even next_odd
    → row_of odd.told.rows node ≡ Some row → row_of next_even.told.rows node ≡ Some next
    → (next.start ≡ corrected_end_of x.params row) × IsSteady x.params row next
