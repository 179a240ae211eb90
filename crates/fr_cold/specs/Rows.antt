-- What a record of a power file says by itself.
use Rattle.std.specs.Prelude.{ℕ, ◌≤◌, ◌==◌, List, length, Result, Ok, Err, codes, if◌then◌else◌}
use Rattle.std.specs.Str.{bytes_eq}
use Rattle.fr_base.specs.declared.reason.Reason.{Reason}
use Rattle.fr_base.specs.declared.reason.Reason.TheVariants as reason
use Rattle.fr_text.specs.Records.{FileRecord}
use Rattle.fr_text.specs.Fields.{both_of, field_of, is_blank, natural_of, or_reason}
use Rattle.fr_cold.specs.declared.state.Switch.{Switch}
use Rattle.fr_cold.specs.declared.state.Switch.TheVariants as switch
use Rattle.fr_cold.specs.declared.rows.Row.{Row}
use Rattle.fr_cold.specs.declared.rows.Row.TheVariants as row

-- the greatest macrotick of a run: that at which 1,000 cycles of 16,000 macroticks end
abbrev pub most_tick : ℕ
most_tick = 16_000_000

-- the number of cycles of a run
abbrev pub cycles_row : List ℕ → Result Row Reason
cycles_row count = or_reason (λ n. Ok (row.Cycles n)) (natural_of 1 1000 count)

-- a node that is switched at a macrotick
abbrev pub switch_with : Switch → ℕ × ℕ → Result Row Reason
switch_with how numbers = Ok (row.Switched (record { node = numbers.0; at = numbers.1; switch = how }))

abbrev pub switch_row : Switch → List ℕ → List ℕ → Result Row Reason
switch_row how node at = or_reason (switch_with how) (both_of (natural_of 1 64 node) (natural_of 0 most_tick at))

-- what a record of three fields says, by its kind
abbrev pub power_file_row : List ℕ → List ℕ → List ℕ → Result Row Reason
power_file_row kind first second =
    if bytes_eq kind (codes "cycles") then (if is_blank second then cycles_row first else Err reason.Shape)
    else if bytes_eq kind (codes "on") then switch_row switch.On first second
    else if bytes_eq kind (codes "off") then switch_row switch.Off first second
    else Err reason.UnknownName

-- what a record says, or the least of the reasons that it shows by itself
unfoldable pub power_row_of : FileRecord → Result Row Reason
power_row_of fields =
    if length fields == 3 then power_file_row (field_of fields 0) (field_of fields 1) (field_of fields 2)
    else Err reason.Shape

-- a run has 1 to 1,000 cycles
pub record IsProperCycles (cycles : ℕ) : Type 0 where
  pub from : 1 ≤ cycles
  pub to : cycles ≤ 1000

-- the numbers of a row lie in their ranges
abbrev pub IsProperPowerRow : Row → Type 0
IsProperPowerRow (row.Cycles n) = IsProperCycles n
IsProperPowerRow (row.Switched s) = s.at ≤ most_tick
