-- The records that the bytes of a file hold.
use Rattle.std.specs.Prelude.{ℕ, List}
use Rattle.csv.specs.Reading.{records, default_config, strip_bom}

-- a record: the bytes of each of its fields
abbrev pub FileRecord : Type 0
FileRecord = List (List ℕ)

-- the records of a file, a byte order mark at its start taken off: with no header row, between commas,
-- untrimmed, of any number of fields, with quotes as `csv` reads them
unfoldable pub records_of : List ℕ → List FileRecord
records_of bytes = records default_config (strip_bom bytes)
