-- What a record of a script says by itself.
use Rattle.std.specs.Prelude.{ℕ, ◌<◌, ◌==◌, ◌&&◌, Bool, length, IfSome, Result, Ok, Err, codes, if◌then◌else◌}
use Rattle.std.specs.Str.{bytes_eq}
use Rattle.fr_base.specs.declared.numbers.NumberFault.{NumberFault}
use Rattle.fr_base.specs.declared.reason.Reason.{Reason}
use Rattle.fr_base.specs.declared.reason.Reason.TheVariants as reason
use Rattle.fr_text.specs.Records.{FileRecord}
use Rattle.fr_text.specs.Fields.{both_of, field_of, is_blank, natural_of, or_reason}
use Rattle.fr_script.specs.Deed.{IsProperDeed, deed_file_row}
use Rattle.fr_script.specs.declared.rows.JoinRow.{JoinRow}
use Rattle.fr_script.specs.declared.rows.Row.{Row}
use Rattle.fr_script.specs.declared.rows.Row.TheVariants as row

-- the fields after a node are empty
abbrev pub is_node_alone : FileRecord → Bool
is_node_alone fields = is_blank (field_of fields 2) && is_blank (field_of fields 3) && is_blank (field_of fields 4) && is_blank (field_of fields 5) && is_blank (field_of fields 6)

abbrev pub script_node_row : Result ℕ NumberFault → Result Row Reason
script_node_row number = or_reason (λ node. Ok (row.Arbitrary node)) number

abbrev pub arbitrary_row : FileRecord → Result Row Reason
arbitrary_row fields = if is_node_alone fields then script_node_row (natural_of 1 64 (field_of fields 1)) else Err reason.Shape

-- the fields after a reference are empty
abbrev pub is_reference_last : FileRecord → Bool
is_reference_last fields = is_blank (field_of fields 4) && is_blank (field_of fields 5) && is_blank (field_of fields 6)

-- the node, and how it joins, that three fields name
abbrev pub joining : Result (ℕ × (ℕ × ℕ)) NumberFault → Result JoinRow NumberFault
joining (Ok numbers) = Ok (record { node = numbers.1.0; join = record { double = numbers.0; reference = numbers.1.1 } })
joining (Err fault) = Err fault

abbrev pub join_in : FileRecord → Result JoinRow NumberFault
join_in fields = joining (both_of (natural_of 0 99_999 (field_of fields 1)) (both_of (natural_of 1 64 (field_of fields 2)) (natural_of 1 64 (field_of fields 3))))

abbrev pub join_row : FileRecord → Result Row Reason
join_row fields = if is_reference_last fields then or_reason (λ said. Ok (row.Join said)) (join_in fields) else Err reason.Shape

-- what a record of seven fields says whose word is that of no deed, and not `arbitrary`
abbrev pub row_of_no_deed : FileRecord → Result Row Reason
row_of_no_deed fields = if bytes_eq (field_of fields 0) (codes "join") then join_row fields else Err reason.UnknownName

-- what a record of seven fields says, by its kind
abbrev pub script_file_row : FileRecord → Result Row Reason
script_file_row fields =
    if bytes_eq (field_of fields 0) (codes "arbitrary") then arbitrary_row fields
    else deed_file_row fields (row_of_no_deed fields)

-- what a record says, or the least of the reasons that it shows by itself: but for those of a field that is no channel or
-- not hexadecimal, which come after reasons that it does not show, and of a bit after the end of the cluster's frames
unfoldable pub script_row_of : FileRecord → Result Row Reason
script_row_of fields = if length fields == 7 then script_file_row fields else Err reason.Shape

abbrev pub IsProperScriptRow : Row → Type 0
IsProperScriptRow (row.Arbitrary node) = Unit {0}
IsProperScriptRow (row.Deed d) = IfSome d.deed IsProperDeed
IsProperScriptRow (row.Join j) = j.join.double < 100_000
