-- What breaks a law of a trace at one of its items: facts about the item, the records before it, and, for nodes that join, the
-- trace.
use Rattle.std.specs.Prelude.{◌≡◌, ◌≢◌, ◌⊎◌, ℕ, ◌<◌, ◌≤◌, ◌/◌, ℤ, pos, ◌+ℤ◌, ◌-ℤ◌, ◌<ℤ◌, ◌&&◌, not, Bool, true, false, [], ◌∷◌, length, Option, Some, None, is_some, option_and_then, if◌then◌else◌}
use Rattle.std.specs.Option.{option_map_or}
use Rattle.fr_base.specs.States.{is_active, is_halted}
use Rattle.fr_base.specs.declared.dev.Dev.{Dev}
use Rattle.fr_base.specs.declared.node_row.NodeRow.{NodeRow}
use Rattle.fr_base.specs.declared.state.State.{State}
use Rattle.fr_cluster.specs.Searches.{key_node_in}
use Rattle.fr_cluster.specs.Values.{Values}
use Rattle.fr_cluster.specs.declared.nodes.NodeSpec.{NodeSpec}
use Rattle.fr_time.specs.Cycles.{is_odd}
use Rattle.fr_time.specs.Instant.{next_start_of}
use Rattle.fr_time.specs.Position.{floor_of, grid_for}
use Rattle.fr_time.specs.Slots.{action_point_of}
use Rattle.fr_bound.specs.Bounds.{arrival_error}
use Rattle.fr_precision.specs.Instants.{gap_of}
use Rattle.fr_history.specs.History.{History, Record, row_of}
use Rattle.fr_history.specs.Rows.{offset_after, rate_by}
use Rattle.fr_history.specs.Sync.{IsInSyncAt}
use Rattle.fr_history.specs.Terms.{status_in}
use Rattle.fr_trace.specs.Items.{IsAt, Item}
use Rattle.fr_trace.specs.Items.Item.{Clock, Heard}
use Rattle.fr_trace.specs.Trace.{TraceView, is_named}
use Rattle.fr_verdict.specs.Sync.{IsFirstSynced}
use Rattle.fr_verdict.specs.declared.unlawful.Unlawful.{Unlawful}
use Rattle.fr_verdict.specs.declared.unlawful.Unlawful.TheVariants as unlawful

-- ---- rows

-- the start of a node's cycle by its row in the cycle before: without one it is free, else it is where that cycle ends
abbrev pub start_from : Values → NodeRow → Option NodeRow → ℤ
start_from p row None = row.start
start_from p row (Some before) = next_start_of (grid_for p) before

-- by the records before it: in cycle 0 it is free, and in the first cycle of a node that joins
abbrev pub traced_start : Values → History → NodeRow → ℤ
traced_start p [] row = row.start
traced_start p (r ∷ h) row = start_from p row (row_of r.rows row.node)

-- its rate: where its start is free this is too, within a double cycle it stays, and after one it is the rate term of its
-- deviations
abbrev pub rate_from : Values → History → Record → NodeRow → Option NodeRow → ℤ
rate_from p h r row None = row.rate
rate_from p h r row (Some before) = rate_by p h r (Some before)

abbrev pub traced_rate : Values → History → NodeRow → ℤ
traced_rate p [] row = row.rate
traced_rate p (r ∷ h) row = rate_from p h r row (row_of r.rows row.node)

-- a start is not the end of the cycle before
pub record IsWrongStart (p : Values) (h : History) (row : NodeRow) (kept wanted : ℤ) : Type 0 where
  pub is_kept : kept ≡ row.start
  pub is_wanted : wanted ≡ traced_start p h row
  pub differs : kept ≢ wanted

-- a rate is not that of the rows and deviations before
pub record IsWrongRate (p : Values) (h : History) (row : NodeRow) (kept wanted : ℤ) : Type 0 where
  pub is_kept : kept ≡ row.rate
  pub is_wanted : wanted ≡ traced_rate p h row
  pub differs : kept ≢ wanted

-- a state is not that of operation control after the records before
pub record IsWrongTurn (p : Values) (h : History) (row : NodeRow) (kept wanted : State) : Type 0 where
  pub is_kept : kept ≡ row.state
  pub is_wanted : wanted ≡ (status_in p h row.node).state
  pub differs : kept ≢ wanted

-- an offset is not the offset term of the deviations of its double cycle, or 0 in an even cycle and in Halt
pub record IsWrongOffset (p : Values) (h : History) (r : Record) (row : NodeRow) (kept wanted : ℤ) : Type 0 where
  pub is_kept : kept ≡ row.offset
  pub is_wanted : wanted ≡ offset_after p h r row
  pub differs : kept ≢ wanted

-- ---- deviations

-- the row of the node whose key slot a slot is; only correct nodes have one
abbrev pub sender_row : Values → Record → ℕ → Option NodeRow
sender_row p r slot = option_and_then (λ node. row_of r.rows node.id) (key_node_in p.nodes slot)

-- whether a node is correct and has no row in a record, as before it joins
abbrev pub is_away : TraceView → Record → NodeSpec → Bool
is_away t r node = not (is_named t node.id) && not (is_some (row_of r.rows node.id))

-- whether the node whose key slot a slot is has none there
abbrev pub sender_is_away : Values → TraceView → Record → ℕ → Bool
sender_is_away p t r slot = option_map_or (is_away t r) (key_node_in p.nodes slot) false

-- the state for which a deviation cannot be: that of a correct sender that is not active, or else that of a receiver in Halt
abbrev pub halted_state : Option NodeRow → Option State
halted_state None = None
halted_state (Some receiver) = if is_halted receiver.state then Some receiver.state else None

abbrev pub silent_state : Option NodeRow → Option NodeRow → Option State
silent_state None receiver = halted_state receiver
silent_state (Some sender) receiver = if is_active sender.state then halted_state receiver else Some sender.state

-- of a correct sender without a row nothing is said here
abbrev pub silent_in : Values → TraceView → Record → Dev → Option State
silent_in p t r dev =
    if sender_is_away p t r dev.slot then None else silent_state (sender_row p r dev.slot) (row_of r.rows dev.receiver)

-- no frame can have come: the sender did not send, or the receiver did not receive
abbrev pub IsSilent : Values → TraceView → Record → Dev → State → Type 0
IsSilent p t r dev state = silent_in p t r dev ≡ Some state

-- the least and the greatest deviation, in microticks, that both rows and the error of an arrival allow
abbrev pub low_of : Values → Bool → ℕ → NodeRow → NodeRow → ℤ
low_of p odd slot sender receiver = floor_of (gap_of p odd (pos (action_point_of p slot)) sender receiver -ℤ pos (arrival_error p)) receiver.length

abbrev pub high_of : Values → Bool → ℕ → NodeRow → NodeRow → ℤ
high_of p odd slot sender receiver = floor_of (gap_of p odd (pos (action_point_of p slot)) sender receiver +ℤ pos (arrival_error p)) receiver.length

-- a deviation of a correct sender lies outside of them
pub record IsDeviationOutside (p : Values) (h : History) (r : Record) (dev : Dev) (kept low high : ℤ) : Type 0 where
  pub sender : NodeRow
  pub receiver : NodeRow
  pub sends : sender_row p r dev.slot ≡ Some sender
  pub hears : row_of r.rows dev.receiver ≡ Some receiver
  pub is_kept : kept ≡ dev.value
  pub is_low : low ≡ low_of p (is_odd (length h)) dev.slot sender receiver
  pub is_high : high ≡ high_of p (is_odd (length h)) dev.slot sender receiver
  pub outside : (kept <ℤ low) ⊎ (high <ℤ kept)

-- ---- nodes that join

-- whether a row is the first of a node that joins: its node has none in the record before
abbrev pub is_first_row : History → NodeRow → Bool
is_first_row [] row = false
is_first_row (r ∷ h) row = not (is_some (row_of r.rows row.node))

-- a node has its first row in a double cycle that is not in sync, and that is not before the first one in sync
pub record IsApartRow (p : Values) (t : TraceView) (h : History) (row : NodeRow) (double : ℕ) : Type 0 where
  pub first_row : is_first_row h row ≡ true
  pub synced : ℕ
  pub first : IsFirstSynced p t synced
  pub from : synced ≤ double
  pub apart : IsInSyncAt p t.history double → ⊥
  pub told : double ≡ length h / 2

-- a deviation is about a correct node that has no row in this cycle
pub record IsApartDev (p : Values) (t : TraceView) (h : History) (r : Record) (dev : Dev) (double : ℕ) : Type 0 where
  pub away : sender_is_away p t r dev.slot ≡ true
  pub told : double ≡ length h / 2

-- ---- breaches

-- a fact of an item that is a node's cycle, of one that is a deviation, and of either
abbrev pub OfRow : Item → (History → Record → NodeRow → Type 0) → Type 0
OfRow (Clock h r row) Fact = Fact h r row
OfRow (Heard h r dev) Fact = ⊥

abbrev pub OfDev : Item → (History → Record → Dev → Type 0) → Type 0
OfDev (Clock h r row) Fact = ⊥
OfDev (Heard h r dev) Fact = Fact h r dev

abbrev pub OfEither : Item → (History → Record → NodeRow → Type 0) → (History → Record → Dev → Type 0) → Type 0
OfEither (Clock h r row) RowFact DevFact = RowFact h r row
OfEither (Heard h r dev) RowFact DevFact = DevFact h r dev

-- an item breaks a law in this way; that a trace is not covered is no breach
abbrev pub Breaks : Values → TraceView → Item → Unlawful → Type 0
Breaks p t item (unlawful.Start number kept wanted) = OfRow item (λ h r row. IsWrongStart p h row kept wanted)
Breaks p t item (unlawful.Rate number kept wanted) = OfRow item (λ h r row. IsWrongRate p h row kept wanted)
Breaks p t item (unlawful.Turn number kept wanted) = OfRow item (λ h r row. IsWrongTurn p h row kept wanted)
Breaks p t item (unlawful.Offset number kept wanted) = OfRow item (λ h r row. IsWrongOffset p h r row kept wanted)
Breaks p t item (unlawful.Silent number state) = OfDev item (λ h r dev. IsSilent p t r dev state)
Breaks p t item (unlawful.Deviation number kept low high) = OfDev item (λ h r dev. IsDeviationOutside p h r dev kept low high)
Breaks p t item (unlawful.Apart number double) =
    OfEither item (λ h r row. IsApartRow p t h row double) (λ h r dev. IsApartDev p t h r dev double)
Breaks p t item (unlawful.Uncovered gap) = ⊥

-- the number of the record that is told, and the rank of the law among the laws
abbrev pub record_of_breach : Unlawful → ℕ
record_of_breach (unlawful.Start number kept wanted) = number
record_of_breach (unlawful.Rate number kept wanted) = number
record_of_breach (unlawful.Turn number kept wanted) = number
record_of_breach (unlawful.Offset number kept wanted) = number
record_of_breach (unlawful.Silent number state) = number
record_of_breach (unlawful.Deviation number kept low high) = number
record_of_breach (unlawful.Apart number double) = number
record_of_breach (unlawful.Uncovered gap) = 0

abbrev pub rank_in : Unlawful → ℕ
rank_in (unlawful.Start number kept wanted) = 0
rank_in (unlawful.Rate number kept wanted) = 1
rank_in (unlawful.Turn number kept wanted) = 2
rank_in (unlawful.Offset number kept wanted) = 3
rank_in (unlawful.Silent number state) = 4
rank_in (unlawful.Deviation number kept low high) = 5
rank_in (unlawful.Apart number double) = 6
rank_in (unlawful.Uncovered gap) = 7

-- a breach of a trace: the item of the record that is told breaks the law
pub record IsBreach (p : Values) (t : TraceView) (u : Unlawful) : Type 0 where
  pub item : Item
  pub at : IsAt t (record_of_breach u) item
  pub breaks : Breaks p t item u

-- a breach comes before another: by record number, and then by law
abbrev pub ComesBefore : Unlawful → Unlawful → Type 0
ComesBefore u v = (record_of_breach u < record_of_breach v) ⊎ ((record_of_breach u ≡ record_of_breach v) × (rank_in u < rank_in v))

-- it is one, and there is none before it
pub record IsFirstBreach (p : Values) (t : TraceView) (u : Unlawful) : Type 0 where
  pub is_breach : IsBreach p t u
  pub first : (v : Unlawful) → IsBreach p t v → ComesBefore v u → ⊥

-- a trace is lawful where nothing breaks a law
abbrev pub IsLawfulTrace : Values → TraceView → Type 0
IsLawfulTrace p t = (u : Unlawful) → IsBreach p t u → ⊥

abbrev pub OneFirstBreach : Type 0
OneFirstBreach = (p : Values) (t : TraceView) (u v : Unlawful) → IsFirstBreach p t u → IsFirstBreach p t v → u ≡ v
