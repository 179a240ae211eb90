-- What a record of a drift file says by itself.
use Rattle.std.specs.Prelude.{ℕ, ℤ, ◌≤◌, ◌≤ℤ◌, pos, negsuc, ◌==◌, ◌&&◌, List, length, Result, Ok, Err, Option, codes, if◌then◌else◌}
use Rattle.std.specs.Str.{bytes_eq}
use Rattle.fr_base.specs.Number.{number_of, within}
use Rattle.fr_base.specs.declared.channel.Channel.{Channel}
use Rattle.fr_base.specs.declared.numbers.NumberFault.{NumberFault}
use Rattle.fr_base.specs.declared.reason.Reason.{Reason}
use Rattle.fr_base.specs.declared.reason.Reason.TheVariants as reason
use Rattle.fr_text.specs.Records.{FileRecord}
use Rattle.fr_base.specs.Channels.{channel_of}
use Rattle.fr_text.specs.Fields.{natural_of, both_of}
use Rattle.fr_text.specs.Fields.{is_blank, or_reason, field_of}
use Rattle.fr_drift.specs.declared.rows.Start.{Start}
use Rattle.fr_drift.specs.declared.rows.Row.{Row}
use Rattle.fr_drift.specs.declared.rows.Row.TheVariants as row

-- the greatest delay of a link, in ticks
abbrev pub most_link_delay : ℕ
most_link_delay = 1_000_000_000

-- the number of double cycles of a run
abbrev pub doubles_row : List ℕ → Result Row Reason
doubles_row count = or_reason (λ n. Ok (row.Doubles n)) (natural_of 1 100_000 count)

-- a rate term that a field writes, within 2000 of 0
unfoldable pub rate_in : List ℕ → Result ℤ NumberFault
rate_in text = within (negsuc 1999) (pos 2000) (number_of text)

-- a node's start at a tick with a rate term
abbrev pub start_with : ℕ × (ℤ × ℤ) → Result Row Reason
start_with numbers = Ok (row.Start (record { node = numbers.0; start = record { ticks = numbers.1.0; rate = numbers.1.1 } }))

abbrev pub start_row : List ℕ → List ℕ → List ℕ → Result Row Reason
start_row node ticks rate =
    or_reason start_with (both_of (natural_of 1 64 node) (both_of (within (pos 0) (pos 1_000_000_000_000) (number_of ticks)) (rate_in rate)))

-- a node's microticks from a cycle on
abbrev pub length_with : ℕ × (ℕ × ℤ) → Result Row Reason
length_with numbers = Ok (row.Length (record { node = numbers.0; from = numbers.1.0; ticks = numbers.1.1 }))

abbrev pub length_row : List ℕ → List ℕ → List ℕ → Result Row Reason
length_row node from ticks =
    or_reason length_with (both_of (natural_of 1 64 node) (both_of (natural_of 0 199_999 from) (within (pos 500_000) (pos 1_500_000) (number_of ticks))))

-- a link's delay on a channel from a cycle on
abbrev pub delay_on : Option Channel → (ℕ × ℕ) × (ℕ × ℤ) → Result Row Reason
delay_on channel numbers =
    Ok (row.Delay (record { sender = numbers.0.0; receiver = numbers.0.1; channel = channel; from = numbers.1.0; ticks = numbers.1.1 }))

abbrev pub delay_row : List ℕ → List ℕ → List ℕ → List ℕ → List ℕ → Result Row Reason
delay_row sender receiver channel from ticks =
    or_reason (delay_on (channel_of channel))
    (both_of (both_of (natural_of 1 64 sender) (natural_of 1 64 receiver)) (both_of (natural_of 0 199_999 from) (within (pos 0) (pos most_link_delay) (number_of ticks))))

-- a row of a form of four fields: the last two fields are empty
abbrev pub short_row : List ℕ → List ℕ → Result Row Reason → Result Row Reason
short_row fourth fifth said = if is_blank fourth && is_blank fifth then said else Err reason.Shape

-- what a record of six fields says, by its kind
abbrev pub drift_file_row : List ℕ → List ℕ → List ℕ → List ℕ → List ℕ → List ℕ → Result Row Reason
drift_file_row kind first second third fourth fifth =
    if bytes_eq kind (codes "doubles") then short_row second third (short_row fourth fifth (doubles_row first))
    else if bytes_eq kind (codes "start") then short_row fourth fifth (start_row first second third)
    else if bytes_eq kind (codes "length") then short_row fourth fifth (length_row first second third)
    else if bytes_eq kind (codes "delay") then delay_row first second third fourth fifth
    else Err reason.UnknownName

-- what a record says, or the least of the reasons that it shows by itself
unfoldable pub drift_row_of : FileRecord → Result Row Reason
drift_row_of fields =
    if length fields == 6 then drift_file_row (field_of fields 0) (field_of fields 1) (field_of fields 2) (field_of fields 3) (field_of fields 4) (field_of fields 5)
    else Err reason.Shape

-- a start is 0 to 1,000,000,000,000 ticks, its rate term within 2000 microticks of 0
pub record IsProperStart (start : Start) : Type 0 where
  pub from : pos 0 ≤ℤ start.ticks
  pub to : start.ticks ≤ℤ pos 1_000_000_000_000
  pub rate_from : negsuc 1999 ≤ℤ start.rate
  pub rate_to : start.rate ≤ℤ pos 2000

-- a microtick lasts 500,000 to 1,500,000 ticks
pub record IsMicrotickLength (ticks : ℤ) : Type 0 where
  pub from : pos 500_000 ≤ℤ ticks
  pub to : ticks ≤ℤ pos 1_500_000

-- a delay is 0 to 1,000,000,000 ticks
pub record IsProperDelay (ticks : ℤ) : Type 0 where
  pub from : pos 0 ≤ℤ ticks
  pub to : ticks ≤ℤ pos most_link_delay

-- a run has 1 to 100,000 double cycles
pub record IsProperCount (doubles : ℕ) : Type 0 where
  pub from : 1 ≤ doubles
  pub to : doubles ≤ 100_000

-- the numbers of a row lie in their ranges
abbrev pub IsProperDriftRow : Row → Type 0
IsProperDriftRow (row.Doubles n) = IsProperCount n
IsProperDriftRow (row.Start s) = IsProperStart s.start
IsProperDriftRow (row.Length l) = IsMicrotickLength l.ticks
IsProperDriftRow (row.Delay d) = IsProperDelay d.ticks
