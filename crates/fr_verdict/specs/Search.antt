-- The first breach of a trace as a function: item by item, and law by law.
use Rattle.std.specs.Prelude.{◌≡◌, ℕ, zero, suc, ◌+◌, ◌/◌, ◌==◌, ℤ, ◌&&◌, ◌||◌, not, int_le, int_lt, Bool, List, [], ◌∷◌, ◌++◌, length, Option, Some, None, if◌then◌else◌}
use Rattle.std.specs.Option.{option_map, option_or}
use Rattle.fr_base.specs.declared.dev.Dev.{Dev}
use Rattle.fr_base.specs.declared.node_row.NodeRow.{NodeRow}
use Rattle.fr_base.specs.declared.state.State.{State}
use Rattle.fr_base.specs.declared.state.State.TheVariants.{Active, Passive, Halt}
use Rattle.fr_cluster.specs.Values.{Values}
use Rattle.fr_time.specs.Cycles.{is_odd}
use Rattle.fr_history.specs.History.{History, Record, row_of}
use Rattle.fr_history.specs.Rows.{offset_after}
use Rattle.fr_history.specs.Sync.{is_sync_at}
use Rattle.fr_history.specs.Terms.{status_in}
use Rattle.fr_coverage.specs.First.{first_below}
use Rattle.fr_trace.specs.Items.{Item, first_number, items_in}
use Rattle.fr_trace.specs.Items.Item.{Clock, Heard}
use Rattle.fr_trace.specs.Trace.{TraceView}
use Rattle.fr_verdict.specs.Breach.{IsFirstBreach, IsLawfulTrace, high_of, is_first_row, low_of, sender_is_away, sender_row, silent_in, traced_rate, traced_start}
use Rattle.fr_verdict.specs.Sync.{first_synced_of, is_early}
use Rattle.fr_verdict.specs.declared.unlawful.Unlawful.{Unlawful}
use Rattle.fr_verdict.specs.declared.unlawful.Unlawful.TheVariants as unlawful

abbrev pub is_same_number : ℤ → ℤ → Bool
is_same_number a b = int_le a b && int_le b a

-- a number for each state
abbrev pub state_number : State → ℕ
state_number Active = 0
state_number Passive = 1
state_number Halt = 2

-- the answer where a test fails
abbrev pub unless : Bool → Unlawful → Option Unlawful
unless test u = if test then None else Some u

-- ---- each law at an item with a record number

abbrev pub wrong_start : Values → ℕ → History → NodeRow → Option Unlawful
wrong_start p n h row = unless (is_same_number row.start (traced_start p h row)) (unlawful.Start n row.start (traced_start p h row))

abbrev pub wrong_rate : Values → ℕ → History → NodeRow → Option Unlawful
wrong_rate p n h row = unless (is_same_number row.rate (traced_rate p h row)) (unlawful.Rate n row.rate (traced_rate p h row))

abbrev pub turned : ℕ → State → State → Option Unlawful
turned n kept wanted = unless (state_number kept == state_number wanted) (unlawful.Turn n kept wanted)

abbrev pub wrong_turn : Values → ℕ → History → NodeRow → Option Unlawful
wrong_turn p n h row = turned n row.state (status_in p h row.node).state

abbrev pub wrong_offset : Values → ℕ → History → Record → NodeRow → Option Unlawful
wrong_offset p n h r row = unless (is_same_number row.offset (offset_after p h r row)) (unlawful.Offset n row.offset (offset_after p h r row))

abbrev pub silent : Values → TraceView → ℕ → Record → Dev → Option Unlawful
silent p t n r dev = option_map (unlawful.Silent n) (silent_in p t r dev)

abbrev pub outside_by : Values → ℕ → Bool → Dev → Option NodeRow → Option NodeRow → Option Unlawful
outside_by p n odd dev None receiver = None
outside_by p n odd dev (Some sender) None = None
outside_by p n odd dev (Some sender) (Some receiver) =
    if int_lt dev.value (low_of p odd dev.slot sender receiver) || int_lt (high_of p odd dev.slot sender receiver) dev.value
    then Some (unlawful.Deviation n dev.value (low_of p odd dev.slot sender receiver) (high_of p odd dev.slot sender receiver))
    else None

abbrev pub outside : Values → ℕ → History → Record → Dev → Option Unlawful
outside p n h r dev = outside_by p n (is_odd (length h)) dev (sender_row p r dev.slot) (row_of r.rows dev.receiver)

-- the answer where a test passes
abbrev pub whenever : Bool → Unlawful → Option Unlawful
whenever test u = if test then Some u else None

-- whether the rows of a double cycle must be in sync, and are not
abbrev pub is_apart : Values → TraceView → ℕ → Bool
is_apart p t double = not (is_early (first_synced_of p t) double) && not (is_sync_at p t.history double)

abbrev pub apart_row : Values → TraceView → ℕ → History → NodeRow → Option Unlawful
apart_row p t n h row = whenever (is_first_row h row && is_apart p t (length h / 2)) (unlawful.Apart n (length h / 2))

abbrev pub apart_dev : Values → TraceView → ℕ → History → Record → Dev → Option Unlawful
apart_dev p t n h r dev = whenever (sender_is_away p t r dev.slot) (unlawful.Apart n (length h / 2))

-- ---- the laws in their order

abbrev pub row_breach : Values → TraceView → ℕ → History → Record → NodeRow → ℕ → Option Unlawful
row_breach p t n h r row zero = wrong_start p n h row
row_breach p t n h r row (suc zero) = wrong_rate p n h row
row_breach p t n h r row (suc (suc zero)) = wrong_turn p n h row
row_breach p t n h r row (suc (suc (suc zero))) = wrong_offset p n h r row
row_breach p t n h r row (suc (suc (suc (suc zero)))) = None
row_breach p t n h r row (suc (suc (suc (suc (suc zero))))) = None
row_breach p t n h r row (suc (suc (suc (suc (suc (suc zero)))))) = apart_row p t n h row
row_breach p t n h r row (suc (suc (suc (suc (suc (suc (suc rank))))))) = None

abbrev pub dev_breach : Values → TraceView → ℕ → History → Record → Dev → ℕ → Option Unlawful
dev_breach p t n h r dev zero = None
dev_breach p t n h r dev (suc zero) = None
dev_breach p t n h r dev (suc (suc zero)) = None
dev_breach p t n h r dev (suc (suc (suc zero))) = None
dev_breach p t n h r dev (suc (suc (suc (suc zero)))) = silent p t n r dev
dev_breach p t n h r dev (suc (suc (suc (suc (suc zero))))) = outside p n h r dev
dev_breach p t n h r dev (suc (suc (suc (suc (suc (suc zero)))))) = apart_dev p t n h r dev
dev_breach p t n h r dev (suc (suc (suc (suc (suc (suc (suc rank))))))) = None

-- the breach of the law of a rank at an item with this record number, and the first of its laws that it breaks
unfoldable pub breach_by : Values → TraceView → ℕ → Item → ℕ → Option Unlawful
breach_by p t n (Clock h r row) rank = row_breach p t n h r row rank
breach_by p t n (Heard h r dev) rank = dev_breach p t n h r dev rank

abbrev pub breach_at : Values → TraceView → ℕ → Item → Option Unlawful
breach_at p t n item = first_below (breach_by p t n item) 7

-- the first breach of some items that begin with this record number
unfoldable pub first_from : Values → TraceView → ℕ → List Item → Option Unlawful
first_from p t n [] = None
first_from p t n (item ∷ items) = option_or (breach_at p t n item) (first_from p t (suc n) items)

-- the first breach of a trace, if there is one
unfoldable pub first_breach_of : Values → TraceView → Option Unlawful
first_breach_of p t = first_from p t (first_number t) (items_in t.history)

-- ---- it is what is meant

abbrev pub FoundBreachIsFirst : Type 0
FoundBreachIsFirst = (p : Values) (t : TraceView) (u : Unlawful) → first_breach_of p t ≡ Some u → IsFirstBreach p t u

abbrev pub NoneFoundIsLawful : Type 0
NoneFoundIsLawful = (p : Values) (t : TraceView) → first_breach_of p t ≡ None → IsLawfulTrace p t

abbrev pub FirstBreachIsFound : Type 0
FirstBreachIsFound = (p : Values) (t : TraceView) (u : Unlawful) → IsFirstBreach p t u → first_breach_of p t ≡ Some u

-- the search goes on behind a part of the items, with the record number behind it
abbrev pub PassesInParts : Type 0
PassesInParts =
    (p : Values) (t : TraceView) (n : ℕ) (xs ys : List Item) → first_from p t n (xs ++ ys) ≡ option_or (first_from p t n xs) (first_from p t (n + length xs) ys)
