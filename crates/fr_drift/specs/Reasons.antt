-- Why a record of a drift file is refused after the records before it: what the earlier records say is
-- looked up in their list.
use Rattle.std.specs.Prelude.{ℕ, ℤ, Bool, not, ◌==◌, ◌&&◌, ◌||◌, List, Option, Some, None, is_some, Result, Ok, Err, if◌then◌else◌}
use Rattle.fr_base.specs.declared.channel.Channel.{Channel}
use Rattle.fr_base.specs.declared.reason.Reason.{Reason}
use Rattle.fr_base.specs.declared.reason.Reason.TheVariants as reason
use Rattle.fr_base.specs.Within.{lies_within}
use Rattle.fr_text.specs.Records.{FileRecord}
use Rattle.fr_cluster.specs.Values.{Values}
use Rattle.fr_text.specs.Fields.{is_channel, looked_up}
use Rattle.fr_cluster.specs.Questions.{is_common, is_known}
use Rattle.fr_drift.specs.Rows.{drift_row_of}
use Rattle.fr_drift.specs.declared.rows.Start.{Start}
use Rattle.fr_drift.specs.declared.rows.StartRow.{StartRow}
use Rattle.fr_drift.specs.declared.rows.LengthRow.{LengthRow}
use Rattle.fr_drift.specs.declared.rows.DelayRow.{DelayRow}
use Rattle.fr_drift.specs.declared.rows.Row.{Row}
use Rattle.fr_drift.specs.declared.rows.Row.TheVariants as row

-- the number of double cycles, if a row says it
abbrev pub doubles_in : Result Row Reason → Option ℕ
doubles_in (Ok (row.Doubles n)) = Some n
doubles_in (Ok (row.Start s)) = None
doubles_in (Ok (row.Length l)) = None
doubles_in (Ok (row.Delay d)) = None
doubles_in (Err why) = None

-- the start of a node, if a row says it
abbrev pub start_in : ℕ → Result Row Reason → Option Start
start_in node (Ok (row.Doubles n)) = None
start_in node (Ok (row.Start s)) = if s.node == node then Some s.start else None
start_in node (Ok (row.Length l)) = None
start_in node (Ok (row.Delay d)) = None
start_in node (Err why) = None

-- the ticks of a node's microtick from exactly this cycle on, if a row says it
abbrev pub length_in : ℕ → ℕ → Result Row Reason → Option ℤ
length_in node from (Ok (row.Doubles n)) = None
length_in node from (Ok (row.Start s)) = None
length_in node from (Ok (row.Length l)) = if (l.node == node) && (l.from == from) then Some l.ticks else None
length_in node from (Ok (row.Delay d)) = None
length_in node from (Err why) = None

-- whether a row is about this link from exactly this cycle on
abbrev pub is_delay_of : ℕ → ℕ → ℕ → DelayRow → Bool
is_delay_of sender receiver from d = (d.sender == sender) && ((d.receiver == receiver) && (d.from == from))

-- the delay of a link on a channel from exactly this cycle on, if a row says it
abbrev pub delay_in : ℕ → ℕ → Channel → ℕ → Result Row Reason → Option ℤ
delay_in sender receiver ch from (Ok (row.Doubles n)) = None
delay_in sender receiver ch from (Ok (row.Start s)) = None
delay_in sender receiver ch from (Ok (row.Length l)) = None
delay_in sender receiver ch from (Ok (row.Delay d)) = if is_channel ch d.channel && is_delay_of sender receiver from d then Some d.ticks else None
delay_in sender receiver ch from (Err why) = None

-- what the records say: of the run, of a node, of a node from a cycle on, of a link from a
-- cycle on
abbrev pub doubles_at : List FileRecord → Option ℕ
doubles_at records = looked_up (λ r. doubles_in (drift_row_of r)) records

abbrev pub start_at : ℕ → List FileRecord → Option Start
start_at node records = looked_up (λ r. start_in node (drift_row_of r)) records

abbrev pub length_said_at : ℕ → ℕ → List FileRecord → Option ℤ
length_said_at node from records = looked_up (λ r. length_in node from (drift_row_of r)) records

abbrev pub delay_at : ℕ → ℕ → Channel → ℕ → List FileRecord → Option ℤ
delay_at sender receiver ch from records = looked_up (λ r. delay_in sender receiver ch from (drift_row_of r)) records

-- the least reason of a row about a start
abbrev pub start_reason : Values → List FileRecord → StartRow → Option Reason
start_reason p records s =
    if not (lies_within p.rate_limit s.start.rate) then Some reason.OutOfRange
    else if not (is_known p s.node) then Some reason.UnknownNode
    else if is_some (start_at s.node records) then Some reason.Repeated
    else None

-- of one about a length
abbrev pub length_reason : Values → List FileRecord → LengthRow → Option Reason
length_reason p records l =
    if not (is_known p l.node) then Some reason.UnknownNode
    else if is_some (length_said_at l.node l.from records) then Some reason.Repeated
    else None

-- of one about a delay between nodes that are known, by its channel
abbrev pub link_reason : Values → List FileRecord → DelayRow → Option Channel → Option Reason
link_reason p records d None = Some reason.BadChannel
link_reason p records d (Some ch) =
    if d.sender == d.receiver then Some reason.Role
    else if not (is_common p d.sender d.receiver ch) then Some reason.Link
    else if is_some (delay_at d.sender d.receiver ch d.from records) then Some reason.Repeated
    else None

abbrev pub delay_reason : Values → List FileRecord → DelayRow → Option Reason
delay_reason p records d =
    if not (is_known p d.sender && is_known p d.receiver) then Some reason.UnknownNode
    else link_reason p records d d.channel

-- the least reason after these records, of what a record says or shows by itself
abbrev pub drift_row_reason : Values → List FileRecord → Result Row Reason → Option Reason
drift_row_reason p records (Err why) = Some why
drift_row_reason p records (Ok (row.Doubles n)) = if is_some (doubles_at records) then Some reason.Repeated else None
drift_row_reason p records (Ok (row.Start s)) = start_reason p records s
drift_row_reason p records (Ok (row.Length l)) = length_reason p records l
drift_row_reason p records (Ok (row.Delay d)) = delay_reason p records d

-- why a record is refused after the records before it, if it is
abbrev pub drift_reason_after : Values → List FileRecord → FileRecord → Option Reason
drift_reason_after p records r = drift_row_reason p records (drift_row_of r)
