-- The step with free numbers over a list of nodes: from starts and lengths that are spread so far to those of the next double
-- cycle.
use Rattle.std.specs.Prelude.{◌≡◌, ℤ, List, All, map, Contains}
use Rattle.fr_base.specs.declared.node_row.NodeRow.{NodeRow}
use Rattle.fr_base.specs.declared.state.Outcome.TheVariants.{Within}
use Rattle.fr_base.specs.declared.state.State.TheVariants.{Active}
use Rattle.fr_cluster.specs.Values.{Values}
use Rattle.fr_precision.specs.Rows.{Sender}
use Rattle.fr_precision.specs.Rates.{KeepsRange}
use Rattle.fr_precision.specs.Step.{AreSpread, IsFollowed, IsSpreadDouble, Member, Shrinks}

-- no term is cut, and the rows of the next double cycle are active, and spread half as far, and some
pub record IsSpreadKept (p : Values) (nodes : List Member) (next_starts next_lengths : ℤ) : Type 0 where
  pub uncut : (node : Member) → Contains nodes node → node.offset_term.outcome ≡ Within
  pub range : (node : Member) → Contains nodes node → KeepsRange p node.odd node.rate_term
  pub next :
      (next_even next_odd : Member → NodeRow) → All (λ node. IsFollowed p node (next_even node) (next_odd node)) nodes
      → All (λ row. row.state ≡ Active) (map next_even nodes) × All (λ row. row.state ≡ Active) (map next_odd nodes)
      × AreSpread p next_starts next_lengths (map next_even nodes) (map next_odd nodes)

abbrev pub SpreadsAreKept : Type 0
SpreadsAreKept =
    (p : Values) (senders : List Sender) (nodes : List Member) (starts lengths reach next_starts next_lengths : ℤ)
    → IsSpreadDouble p senders nodes starts lengths reach → Shrinks p starts lengths next_starts next_lengths
    → IsSpreadKept p nodes next_starts next_lengths
