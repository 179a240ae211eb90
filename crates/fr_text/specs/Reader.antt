-- What a reader of records has left.
use Rattle.std.specs.Prelude.{ℕ, ◌+◌, ◌≡◌, Bool, true, false, List, [], length, Option, Some, None}
use Rattle.csv.specs.Machine.{ends_at_end}
use Rattle.csv.specs.Reading.{records_from, default_config, source_of, has_failed, reader_config, reader_trim, reader_state, is_flexible, Ready}
use Rattle.csv.specs.declared.parser.State.{State}
use Rattle.csv.specs.declared.reader.Reader.{Reader}
use Rattle.csv.specs.declared.reader.Trim.TheVariants as trim
use Rattle.fr_text.specs.Records.{FileRecord}

-- the records of a text from a state
unfoldable pub rest_of : State → List ℕ → List FileRecord
rest_of s text = records_from default_config (length text + 1) s text

-- the records that are left: those of the bytes that are left, and none once the end or a failure was met
unfoldable pub left_by : Bool → State → Option (List ℕ) → List FileRecord
left_by true s source = []
left_by false s None = []
left_by false s (Some text) = rest_of s text

-- a reader that takes records of any length and stands between two of them, with bytes left that are known
pub record IsReading {R : Type 0} (rem : R → Option (List ℕ)) (a : Reader R) : Type 0 where
  pub going : has_failed a ≡ false
  pub commas : reader_config a ≡ default_config
  pub untrimmed : reader_trim a ≡ trim.None
  pub any_length : is_flexible a ≡ true
  pub ready : Ready a
  pub between : ends_at_end (reader_state a) ≡ false
  pub told : (text : List ℕ) × (source_of rem a ≡ Some text)
