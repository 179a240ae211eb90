-- A history of a cluster: a finished list of records, one a cycle (this project's own; clocks by section 8.2).
use Rattle.std.specs.Prelude.{◌≡◌, ℕ, ◌==◌, pos, List, [], ◌∷◌, ◌++◌, length, map, Option, Some, None, find, unwrap_or, if◌then◌else◌}
use Rattle.fr_base.specs.declared.cycle_row.Counts.{Counts}
use Rattle.fr_base.specs.declared.dev.Dev.{Dev}
use Rattle.fr_base.specs.declared.node_row.NodeRow.{NodeRow}
use Rattle.fr_base.specs.declared.state.State.TheVariants.{Halt}
use Rattle.fr_cluster.specs.declared.nodes.NodeSpec.{NodeSpec}

-- The record of a cycle: a row for each node that takes part, in ascending order of node (where no node joins, for each
-- correct node); the deviations that were stored, in ascending order of receiver, slot and channel; and what became of the
-- frames.
pub record Record : Type 0 where
  pub rows : List NodeRow
  pub devs : List Dev
  pub counts : Counts

-- The records of cycles from 0 on, the latest first. So the number of a record's cycle is how many records stand after
-- it in the list, which are those of the cycles before it; "after a history" means: in the cycle that follows it. A
-- history with records taken off at the head is a history too.
abbrev pub History : Type 0
History = List Record

-- a record is that of this cycle in a history
pub record IsRecordOf (h : History) (cycle : ℕ) (r : Record) : Type 0 where
  pub later : History
  pub earlier : History
  pub parted : h ≡ later ++ r ∷ earlier
  pub counted : length earlier ≡ cycle

-- the record of a cycle, if the history has it
unfoldable pub record_at : History → ℕ → Option Record
record_at [] cycle = None
record_at (r ∷ h) cycle = if length h == cycle then Some r else record_at h cycle

-- rows have the numbers of these nodes, one each, in their order
abbrev pub AreRowsOf : List NodeSpec → List NodeRow → Type 0
AreRowsOf nodes rows = map (λ row. row.node) rows ≡ map (λ node. node.id) nodes

-- the row of a node, if it has one
abbrev pub row_of : List NodeRow → ℕ → Option NodeRow
row_of rows node = find (λ row. row.node == node) rows

-- and one of zeros where it has none
abbrev pub blank_row : NodeRow
blank_row = record { node = 0; start = pos 0; length = pos 0; rate = pos 0; offset = pos 0; state = Halt; cut = 0 }

unfoldable pub row_for : List NodeRow → ℕ → NodeRow
row_for rows node = unwrap_or (row_of rows node) blank_row
