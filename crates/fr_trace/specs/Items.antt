-- What a trace records, in the order of its file.
use Rattle.std.specs.Prelude.{◌≡◌, ℕ, zero, suc, ◌+◌, ◌==◌, List, [], ◌∷◌, ◌++◌, length, map, filter, Option, None, Some}
use Rattle.fr_base.specs.declared.dev.Dev.{Dev}
use Rattle.fr_base.specs.declared.node_row.NodeRow.{NodeRow}
use Rattle.fr_history.specs.History.{History, Record}
use Rattle.fr_trace.specs.Trace.{TraceView}

-- a node's cycle, or a deviation, of a record, which follows the records before it
pub data Item : Type 0 where
  Clock : (h : History) (r : Record) (row : NodeRow) → Item
  Heard : (h : History) (r : Record) (dev : Dev) → Item

-- the items of some rows of a record: each row, and then the deviations of its node
unfoldable pub items_by : History → Record → List NodeRow → List Item
items_by h r [] = []
items_by h r (row ∷ rows) = Item.Clock h r row ∷ map (Item.Heard h r) (filter (λ dev. dev.receiver == row.node) r.devs) ++ items_by h r rows

-- the items of a history in the order of the file: cycle by cycle, the earliest first
unfoldable pub items_in : History → List Item
items_in [] = []
items_in (r ∷ h) = items_in h ++ items_by h r r.rows

-- the record number of the first item: before it stand the row of the number of double cycles, and a row for each
-- arbitrary node and for each node that joins; records are numbered from 1
abbrev pub first_number : TraceView → ℕ
first_number t = 2 + length t.arbitrary + length t.joins

-- the item at a place
unfoldable pub item_in : List Item → ℕ → Option Item
item_in [] place = None
item_in (item ∷ items) zero = Some item
item_in (item ∷ items) (suc place) = item_in items place

-- a record of this number is that of an item
pub record IsAt (t : TraceView) (number : ℕ) (item : Item) : Type 0 where
  pub place : ℕ
  pub found : item_in (items_in t.history) place ≡ Some item
  pub counted : number ≡ first_number t + place

-- ---- items as they are written

-- a node's row or a deviation of a cycle
pub data Line : Type 0 where
  CycleLine : (cycle : ℕ) (row : NodeRow) → Line
  DevLine : (cycle : ℕ) (dev : Dev) → Line

abbrev pub line_of : Item → Line
line_of (Item.Clock h r row) = Line.CycleLine (length h) row
line_of (Item.Heard h r dev) = Line.DevLine (length h) dev

unfoldable pub numbered : ℕ → List Item → List (ℕ × Line)
numbered n [] = []
numbered n (item ∷ items) = (n, line_of item) ∷ numbered (suc n) items

-- the lines of a trace behind its head, with their record numbers
abbrev pub lines_of : TraceView → List (ℕ × Line)
lines_of t = numbered (first_number t) (items_in t.history)
