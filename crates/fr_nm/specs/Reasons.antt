-- Why a record of a recording is refused, and what the records say that are not.
use Rattle.std.specs.Prelude.{ℕ, List, [], ◌∷◌, Option, Some, None, Result, Ok, Err}
use Rattle.fr_base.specs.declared.channel.Channel.{Channel}
use Rattle.fr_base.specs.declared.reason.Reason.{Reason}
use Rattle.fr_base.specs.declared.reason.Reason.TheVariants as reason
use Rattle.fr_text.specs.Records.{FileRecord}
use Rattle.fr_nm.specs.Rows.{vectors_row_of}
use Rattle.fr_nm.specs.Vectors.{Recorded, vector_record}
use Rattle.fr_nm.specs.declared.rows.Row.{Row}

abbrev pub field_reason : Option Channel → Option (List ℕ) → Option Reason
field_reason None bytes = Some reason.BadChannel
field_reason (Some channel) None = Some reason.NotHex
field_reason (Some channel) (Some bytes) = None

-- the least reason of what a record says or shows by itself; the records before it are of no account
abbrev pub vectors_row_reason : List FileRecord → Result Row Reason → Option Reason
vectors_row_reason before (Err why) = Some why
vectors_row_reason before (Ok row) = field_reason row.channel row.bytes

abbrev pub vectors_reason_after : List FileRecord → FileRecord → Option Reason
vectors_reason_after before r = vectors_row_reason before (vectors_row_of r)

-- what is recorded by a record that is not refused
abbrev pub recorded_by : ℕ → Option Channel → Option (List ℕ) → List Recorded
recorded_by cycle None bytes = []
recorded_by cycle (Some channel) None = []
recorded_by cycle (Some channel) (Some bytes) = vector_record cycle channel bytes ∷ []

abbrev pub recorded_in : Result Row Reason → List Recorded
recorded_in (Err why) = []
recorded_in (Ok row) = recorded_by row.cycle row.channel row.bytes
