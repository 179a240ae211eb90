-- What the records of a trace say: how many double cycles there are, which nodes are arbitrary and which join, and what was
-- recorded of each cycle.
use Rattle.std.specs.Prelude.{ℕ, zero, suc, ◌==◌, List, [], ◌∷◌, Option, Some, None, Result, Ok, Err, if◌then◌else◌}
use Rattle.std.specs.List.{flat_map}
use Rattle.fr_base.specs.Counts.{no_counts}
use Rattle.fr_base.specs.Rows.{dev_with}
use Rattle.fr_base.specs.declared.channel.Channel.{Channel}
use Rattle.fr_base.specs.declared.dev.Dev.{Dev}
use Rattle.fr_base.specs.declared.node_row.NodeRow.{NodeRow}
use Rattle.fr_base.specs.declared.reason.Reason.{Reason}
use Rattle.fr_history.specs.History.{History, Record}
use Rattle.fr_text.specs.Fields.{looked_up, or_else}
use Rattle.fr_text.specs.Records.{FileRecord}
use Rattle.fr_trace.specs.Rows.{trace_row_of}
use Rattle.fr_trace.specs.declared.rows.HeardRow.{HeardRow}
use Rattle.fr_trace.specs.declared.rows.Row.{Row}
use Rattle.fr_trace.specs.declared.rows.Row.TheVariants as row
use Rattle.fr_trace.specs.declared.trace.TracedJoin.{TracedJoin}

-- ---- before the cycles

-- the number of double cycles that a row says
abbrev pub traced_doubles_in : Result Row Reason → Option ℕ
traced_doubles_in (Ok (row.Run n)) = Some n
traced_doubles_in (Ok (row.Arbitrary node)) = None
traced_doubles_in (Ok (row.Join j)) = None
traced_doubles_in (Ok (row.Clock cycle clock)) = None
traced_doubles_in (Ok (row.Heard heard)) = None
traced_doubles_in (Err why) = None

-- the node that it names arbitrary
abbrev pub named_in : Result Row Reason → List ℕ
named_in (Ok (row.Run n)) = []
named_in (Ok (row.Arbitrary node)) = node ∷ []
named_in (Ok (row.Join j)) = []
named_in (Ok (row.Clock cycle clock)) = []
named_in (Ok (row.Heard heard)) = []
named_in (Err why) = []

-- that a node joins, if it says so
abbrev pub traced_joins_in : Result Row Reason → List TracedJoin
traced_joins_in (Ok (row.Run n)) = []
traced_joins_in (Ok (row.Arbitrary node)) = []
traced_joins_in (Ok (row.Join j)) = j ∷ []
traced_joins_in (Ok (row.Clock cycle clock)) = []
traced_joins_in (Ok (row.Heard heard)) = []
traced_joins_in (Err why) = []

-- the row, where a record says one
abbrev pub said_trace_row : Result Row Reason → Option Row
said_trace_row (Ok said) = Some said
said_trace_row (Err why) = None

-- what the records say: the number of double cycles, the arbitrary nodes and those that join, in their order, and the last row
abbrev pub traced_doubles_at : List FileRecord → Option ℕ
traced_doubles_at records = looked_up (λ r. traced_doubles_in (trace_row_of r)) records

unfoldable pub named_at : List FileRecord → List ℕ
named_at records = flat_map (λ r. named_in (trace_row_of r)) records

unfoldable pub joins_at : List FileRecord → List TracedJoin
joins_at records = flat_map (λ r. traced_joins_in (trace_row_of r)) records

unfoldable pub last_row_at : List FileRecord → Option Row
last_row_at [] = None
last_row_at (r ∷ rest) = or_else (last_row_at rest) (said_trace_row (trace_row_of r))

-- ---- of a cycle

-- a node's row in a cycle, if a row says one
abbrev pub clocks_in : ℕ → Result Row Reason → List NodeRow
clocks_in cycle (Ok (row.Run n)) = []
clocks_in cycle (Ok (row.Arbitrary node)) = []
clocks_in cycle (Ok (row.Join j)) = []
clocks_in cycle (Ok (row.Clock other clock)) = if other == cycle then clock ∷ [] else []
clocks_in cycle (Ok (row.Heard heard)) = []
clocks_in cycle (Err why) = []

-- a deviation on a channel
abbrev pub dev_on : HeardRow → Option Channel → List Dev
dev_on heard None = []
dev_on heard (Some ch) = dev_with heard.receiver heard.slot ch heard.value ∷ []

-- a deviation in a cycle, if a row says one
abbrev pub devs_in : ℕ → Result Row Reason → List Dev
devs_in cycle (Ok (row.Run n)) = []
devs_in cycle (Ok (row.Arbitrary node)) = []
devs_in cycle (Ok (row.Join j)) = []
devs_in cycle (Ok (row.Clock other clock)) = []
devs_in cycle (Ok (row.Heard heard)) = if heard.cycle == cycle then dev_on heard heard.channel else []
devs_in cycle (Err why) = []

-- what the records say of a cycle: its rows and its deviations, each in the order of the file
unfoldable pub record_said : List FileRecord → ℕ → Record
record_said records cycle = record {
  rows = flat_map (λ r. clocks_in cycle (trace_row_of r)) records;
  devs = flat_map (λ r. devs_in cycle (trace_row_of r)) records;
  counts = no_counts;
}

-- a cycle of which nothing is said
abbrev pub no_record : Record
no_record = record { rows = []; devs = []; counts = no_counts }

-- what they say of so many cycles, the latest first
unfoldable pub history_said : List FileRecord → ℕ → History
history_said records zero = []
history_said records (suc n) = record_said records n ∷ history_said records n
