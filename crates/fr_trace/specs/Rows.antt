-- What a record of a trace says by itself.
use Rattle.std.specs.Prelude.{◌≡◌, ℕ, ℤ, ◌≤◌, ◌≤ℤ◌, pos, negsuc, Bool, ◌==◌, ◌&&◌, List, [], ◌∷◌, length, Option, Some, None, Result, Ok, Err, codes, if◌then◌else◌}
use Rattle.std.specs.Str.{bytes_eq}
use Rattle.fr_base.specs.Channels.{channel_of}
use Rattle.fr_base.specs.Number.{number_of, within}
use Rattle.fr_base.specs.Timed.{IsTimed}
use Rattle.fr_base.specs.declared.channel.Channel.{Channel}
use Rattle.fr_base.specs.declared.node_row.NodeRow.{NodeRow}
use Rattle.fr_base.specs.declared.numbers.NumberFault.{NumberFault}
use Rattle.fr_base.specs.declared.reason.Reason.{Reason}
use Rattle.fr_base.specs.declared.reason.Reason.TheVariants as reason
use Rattle.fr_base.specs.declared.state.State.{State}
use Rattle.fr_base.specs.declared.state.State.TheVariants.{Active, Passive, Halt}
use Rattle.fr_text.specs.Fields.{both_of, field_of, is_blank, natural_of, or_reason}
use Rattle.fr_text.specs.Records.{FileRecord}
use Rattle.fr_trace.specs.declared.fields.Fields.{Fields}
use Rattle.fr_trace.specs.declared.rows.HeardRow.{HeardRow}
use Rattle.fr_trace.specs.declared.rows.Row.{Row}
use Rattle.fr_trace.specs.declared.rows.Row.TheVariants as row
use Rattle.fr_trace.specs.declared.trace.TracedJoin.{TracedJoin}

-- the number of double cycles
abbrev pub run_row : List ℕ → Result Row Reason
run_row doubles = or_reason (λ n. Ok (row.Run n)) (natural_of 1 100_000 doubles)

-- a node that is arbitrary
abbrev pub traced_arbitrary_row : List ℕ → Result Row Reason
traced_arbitrary_row node = or_reason (λ n. Ok (row.Arbitrary n)) (natural_of 1 64 node)

-- that a node joins, of these numbers: the node and its reference, and the double cycle in which it listens
abbrev pub join_with : (ℕ × ℕ) × ℕ → Result Row Reason
join_with numbers = Ok (row.Join (record { node = numbers.0.0; join = record { double = numbers.1; reference = numbers.0.1 } }))

abbrev pub traced_join_row : List ℕ → List ℕ → List ℕ → Result Row Reason
traced_join_row node reference double = or_reason join_with (both_of (both_of (natural_of 1 64 node) (natural_of 1 64 reference)) (natural_of 0 99_999 double))

-- the state that a field names
abbrev pub state_of : List ℕ → Option State
state_of text =
    if bytes_eq text (codes "active") then Some Active
    else if bytes_eq text (codes "passive") then Some Passive
    else if bytes_eq text (codes "halt") then Some Halt
    else None

-- a rate term that a field writes, within 2000 of 0, an offset term within 16,000, and a deviation within a million
unfoldable pub traced_rate_in : List ℕ → Result ℤ NumberFault
traced_rate_in text = within (negsuc 1999) (pos 2000) (number_of text)

unfoldable pub offset_in : List ℕ → Result ℤ NumberFault
offset_in text = within (negsuc 15_999) (pos 16_000) (number_of text)

unfoldable pub value_in : List ℕ → Result ℤ NumberFault
value_in text = within (negsuc 999_999) (pos 1_000_000) (number_of text)

-- a start and the length of a microtick, in ticks, and both terms
abbrev pub span_in : List ℕ → List ℕ → Result (ℤ × ℤ) NumberFault
span_in start length = both_of (within (pos 0) (pos 900_000_000_000_000_000) (number_of start)) (within (pos 500_000) (pos 1_500_000) (number_of length))

abbrev pub terms_in : List ℕ → List ℕ → Result (ℤ × ℤ) NumberFault
terms_in rate offset = both_of (traced_rate_in rate) (offset_in offset)

-- a node's cycle of these numbers: the cycle and the node, the start and the length of a microtick, both terms
abbrev pub clock_with : State → (ℕ × ℕ) × ((ℤ × ℤ) × (ℤ × ℤ)) → Result Row Reason
clock_with state numbers =
    Ok (row.Clock numbers.0.0 (record {
      node = numbers.0.1;
      start = numbers.1.0.0;
      length = numbers.1.0.1;
      rate = numbers.1.1.0;
      offset = numbers.1.1.1;
      state = state;
      cut = 0;
    }))

abbrev pub clock_in : List ℕ → List ℕ → List ℕ → List ℕ → List ℕ → List ℕ → State → Result Row Reason
clock_in cycle node start length rate offset state =
    or_reason (clock_with state) (both_of (both_of (natural_of 0 199_999 cycle) (natural_of 1 64 node)) (both_of (span_in start length) (terms_in rate offset)))

-- the same where a field names a state
abbrev pub clock_named : List ℕ → List ℕ → List ℕ → List ℕ → List ℕ → List ℕ → Option State → Result Row Reason
clock_named cycle node start length rate offset None = Err reason.UnknownName
clock_named cycle node start length rate offset (Some state) = clock_in cycle node start length rate offset state

abbrev pub clock_row : List ℕ → List ℕ → List ℕ → List ℕ → List ℕ → List ℕ → List ℕ → Result Row Reason
clock_row cycle node start length rate offset state = clock_named cycle node start length rate offset (state_of state)

-- a deviation on a channel of these numbers: the cycle and the receiver, the slot and the value
abbrev pub dev_row : Option Channel → (ℕ × ℕ) × (ℕ × ℤ) → Result Row Reason
dev_row channel numbers =
    Ok (row.Heard (record { cycle = numbers.0.0; receiver = numbers.0.1; slot = numbers.1.0; channel = channel; value = numbers.1.1 }))

abbrev pub heard_row : List ℕ → List ℕ → List ℕ → List ℕ → List ℕ → Result Row Reason
heard_row cycle receiver slot channel value =
    or_reason (dev_row (channel_of channel))
    (both_of (both_of (natural_of 0 199_999 cycle) (natural_of 1 64 receiver)) (both_of (natural_of 1 1023 slot) (value_in value)))

-- the same of the deviation alone
abbrev pub heard_said : Result HeardRow Reason → Result Row Reason
heard_said (Ok heard) = Ok (row.Heard heard)
heard_said (Err why) = Err why

-- whether a record has the form of a deviation: eight fields, of which the first says so
abbrev pub is_heard_record : FileRecord → Bool
is_heard_record fields = (length fields == 8) && bytes_eq (field_of fields 0) (codes "dev")

-- whether three fields are empty
abbrev pub are_blank : List ℕ → List ℕ → List ℕ → Bool
are_blank first second third = is_blank first && is_blank second && is_blank third

-- a row of a form of two fields: the other six are empty
abbrev pub traced_short_row : List ℕ → List ℕ → List ℕ → List ℕ → List ℕ → List ℕ → Result Row Reason → Result Row Reason
traced_short_row second third fourth fifth sixth seventh said = if are_blank second third fourth && are_blank fifth sixth seventh then said else Err reason.Shape

-- a deviation: the last two fields are empty
abbrev pub heard_fields : List ℕ → List ℕ → List ℕ → List ℕ → List ℕ → List ℕ → List ℕ → Result Row Reason
heard_fields first second third fourth fifth sixth seventh = if is_blank sixth && is_blank seventh then heard_row first second third fourth fifth else Err reason.Shape

-- what a record of eight fields says, by its kind
abbrev pub trace_file_row : List ℕ → List ℕ → List ℕ → List ℕ → List ℕ → List ℕ → List ℕ → List ℕ → Result Row Reason
trace_file_row kind first second third fourth fifth sixth seventh =
    if bytes_eq kind (codes "run") then traced_short_row second third fourth fifth sixth seventh (run_row first)
    else if bytes_eq kind (codes "arbitrary") then traced_short_row second third fourth fifth sixth seventh (traced_arbitrary_row first)
    else if bytes_eq kind (codes "join") then (if are_blank fourth fifth sixth && is_blank seventh then traced_join_row first second third else Err reason.Shape)
    else if bytes_eq kind (codes "cycle") then clock_row first second third fourth fifth sixth seventh
    else if bytes_eq kind (codes "dev") then heard_fields first second third fourth fifth sixth seventh
    else Err reason.UnknownName

-- the record that has these fields
abbrev pub trace_fields : Fields → FileRecord
trace_fields f =
    f.kind.now ∷ f.number.now ∷ f.node.now ∷ f.start_or_slot.now ∷ f.length_or_channel.now ∷ f.rate_or_value.now ∷ f.offset.now ∷ f.state.now ∷ []

-- what a record says, or the least of the reasons that it shows by itself
unfoldable pub trace_row_of : FileRecord → Result Row Reason
trace_row_of fields =
    if length fields == 8 then trace_file_row (field_of fields 0) (field_of fields 1) (field_of fields 2) (field_of fields 3) (field_of fields 4) (field_of fields 5) (field_of fields 6) (field_of fields 7)
    else Err reason.Shape

-- a trace has 1 to 100,000 double cycles
pub record IsProperTracedCount (doubles : ℕ) : Type 0 where
  pub from : 1 ≤ doubles
  pub to : doubles ≤ 100_000

-- starts lie up to 9 * 10^17 ticks, and a microtick lasts 500,000 to 1,500,000
pub record IsProperSpan (span : ℤ × ℤ) : Type 0 where
  pub from : pos 0 ≤ℤ span.0
  pub to : span.0 ≤ℤ pos 900_000_000_000_000_000
  pub length_from : pos 500_000 ≤ℤ span.1
  pub length_to : span.1 ≤ℤ pos 1_500_000

-- a rate term lies within 2000 microticks of 0, an offset term within 16,000
pub record AreProperTerms (terms : ℤ × ℤ) : Type 0 where
  pub from : negsuc 1999 ≤ℤ terms.0
  pub to : terms.0 ≤ℤ pos 2000
  pub offset_from : negsuc 15_999 ≤ℤ terms.1
  pub offset_to : terms.1 ≤ℤ pos 16_000

-- the numbers of a node that joins
pub record IsProperJoinRow (j : TracedJoin) : Type 0 where
  pub node_to : j.node ≤ 64
  pub double_to : j.join.double ≤ 99_999

-- the numbers of a node's cycle lie in their ranges, and no cut is told
pub record IsProperClock (cycle : ℕ) (row : NodeRow) : Type 0 where
  pub cycle_to : cycle ≤ 199_999
  pub timed : IsTimed row
  pub early : row.start ≤ℤ pos 900_000_000_000_000_000
  pub uncut : row.cut ≡ 0

-- those of a deviation
pub record IsProperHeard (heard : HeardRow) : Type 0 where
  pub cycle_to : heard.cycle ≤ 199_999
  pub slot_from : 1 ≤ heard.slot
  pub from : negsuc 999_999 ≤ℤ heard.value
  pub to : heard.value ≤ℤ pos 1_000_000

-- those of a row
abbrev pub IsProperTraceRow : Row → Type 0
IsProperTraceRow (row.Run n) = IsProperTracedCount n
IsProperTraceRow (row.Arbitrary node) = node ≤ 64
IsProperTraceRow (row.Join j) = IsProperJoinRow j
IsProperTraceRow (row.Clock cycle clock) = IsProperClock cycle clock
IsProperTraceRow (row.Heard heard) = IsProperHeard heard
