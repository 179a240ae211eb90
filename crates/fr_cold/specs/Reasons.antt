-- Why a record of a power file is refused after the records before it: what the earlier records say is looked up in
-- their list.
use Rattle.std.specs.Prelude.{ℕ, Bool, true, false, not, ◌==◌, ◌&&◌, ◌||◌, nat_lt, List, [], ◌∷◌, Option, Some, None, is_some, Result, Ok, Err, if◌then◌else◌}
use Rattle.fr_base.specs.declared.reason.Reason.{Reason}
use Rattle.fr_base.specs.declared.reason.Reason.TheVariants as reason
use Rattle.fr_text.specs.Records.{FileRecord}
use Rattle.fr_text.specs.Fields.{looked_up, or_else}
use Rattle.fr_cluster.specs.Values.{Values}
use Rattle.fr_cluster.specs.Questions.{is_known, is_coldstart}
use Rattle.fr_cold.specs.declared.state.Switch.{Switch}
use Rattle.fr_cold.specs.declared.state.Switch.TheVariants as switch
use Rattle.fr_cold.specs.Rows.{power_row_of}
use Rattle.fr_cold.specs.declared.draft.Last.{Last}
use Rattle.fr_cold.specs.declared.rows.SwitchRow.{SwitchRow}
use Rattle.fr_cold.specs.declared.rows.Row.{Row}
use Rattle.fr_cold.specs.declared.rows.Row.TheVariants as row

-- what the last record gives that gives something
unfoldable pub last_given : {A : Type 0} → (FileRecord → Option A) → List FileRecord → Option A
last_given what [] = None
last_given what (r ∷ rest) = or_else (last_given what rest) (what r)

-- the number of cycles, if a row says it
abbrev pub cycles_in : Result Row Reason → Option ℕ
cycles_in (Ok (row.Cycles n)) = Some n
cycles_in (Ok (row.Switched s)) = None
cycles_in (Err why) = None

-- how a node is switched at a macrotick, if a row says it
abbrev pub switch_in : ℕ → ℕ → Result Row Reason → Option Switch
switch_in at node (Ok (row.Cycles n)) = None
switch_in at node (Ok (row.Switched s)) = if (s.at == at) && (s.node == node) then Some s.switch else None
switch_in at node (Err why) = None

-- when and how a row switches a node, if it does
abbrev pub last_in : ℕ → Result Row Reason → Option Last
last_in node (Ok (row.Cycles n)) = None
last_in node (Ok (row.Switched s)) = if s.node == node then Some (record { at = s.at; switch = s.switch }) else None
last_in node (Err why) = None

-- what the records say: of the run, of a node at a macrotick, and of a node at last
abbrev pub cycles_at : List FileRecord → Option ℕ
cycles_at records = looked_up (λ r. cycles_in (power_row_of r)) records

abbrev pub switch_at : ℕ → ℕ → List FileRecord → Option Switch
switch_at at node records = last_given (λ r. switch_in at node (power_row_of r)) records

abbrev pub last_at : ℕ → List FileRecord → Option Last
last_at node records = last_given (λ r. last_in node (power_row_of r)) records

-- whether both switch alike
abbrev pub switch_alike : Switch → Switch → Bool
switch_alike switch.On switch.On = true
switch_alike switch.On switch.Off = false
switch_alike switch.Off switch.On = false
switch_alike switch.Off switch.Off = true

-- whether a record may not come after the last one of its node: the records of a node begin with one that switches it on,
-- switch it on and off by turns, and ascend in time
abbrev pub is_out_of_turn : Option Last → SwitchRow → Bool
is_out_of_turn None s = switch_alike s.switch switch.Off
is_out_of_turn (Some last) s = switch_alike last.switch s.switch || not (nat_lt last.at s.at)

-- the least reason of a row about a switch
abbrev pub switch_reason : Values → List FileRecord → SwitchRow → Option Reason
switch_reason p records s =
    if not (is_known p s.node) then Some reason.UnknownNode
    else if not (is_coldstart p s.node) || is_out_of_turn (last_at s.node records) s then Some reason.Role
    else None

-- the least reason after these records, of what a record says or shows by itself
abbrev pub power_row_reason : Values → List FileRecord → Result Row Reason → Option Reason
power_row_reason p records (Err why) = Some why
power_row_reason p records (Ok (row.Cycles n)) = if is_some (cycles_at records) then Some reason.Repeated else None
power_row_reason p records (Ok (row.Switched s)) = switch_reason p records s

-- why a record is refused after the records before it, if it is
abbrev pub power_reason_after : Values → List FileRecord → FileRecord → Option Reason
power_reason_after p records r = power_row_reason p records (power_row_of r)
