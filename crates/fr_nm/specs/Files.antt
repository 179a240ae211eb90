-- What a recording stands for, and why it is refused.
use Rattle.std.specs.Prelude.{◌≡◌, ℕ, List, Option, Result, ⊤}
use Rattle.std.specs.List.{flat_map}
use Rattle.fr_base.specs.declared.reason.Reason.{Reason}
use Rattle.fr_text.specs.Kind.{Kind}
use Rattle.fr_text.specs.Records.{FileRecord, records_of}
use Rattle.fr_text.specs.Refusal.{NoneRefused, FirstRefused}
use Rattle.fr_text.specs.Takes.{TakesRow}
use Rattle.fr_nm.specs.Rows.{vectors_row_of}
use Rattle.fr_nm.specs.Reasons.{recorded_in, vectors_reason_after, vectors_row_reason}
use Rattle.fr_nm.specs.Vectors.{Recorded}
use Rattle.fr_nm.specs.View.{VectorsStandFor, VectorsView}
use Rattle.fr_nm.specs.declared.fault.FileFault.{FileFault}
use Rattle.fr_nm.specs.declared.fault.FileFault.TheVariants as fault
use Rattle.fr_nm.specs.declared.rows.Row.{Row}

-- what is recorded by the records of a file
abbrev pub recording_of : List FileRecord → List Recorded
recording_of records = flat_map (λ r. recorded_in (vectors_row_of r)) records

-- the vectors are those of the records of a file
abbrev pub HoldsEntries : VectorsView → List FileRecord → Type 0
HoldsEntries v records = VectorsStandFor v (recording_of records)

-- what is said is refused for its reason, or held after the records so far
abbrev pub TakesVectorsRow : {Error : Type 0} → VectorsView → VectorsView → Row → Result (Option Reason) Error → Type 0
TakesVectorsRow before after row result = TakesRow HoldsEntries vectors_row_of vectors_row_reason before after row result

-- the file is accepted, and these are the vectors of its records
pub record IsVectorsFile (width : ℕ) (v : VectorsView) (bytes : List ℕ) : Type 0 where
  pub none_refused : NoneRefused vectors_reason_after (records_of bytes)
  pub width_is : v.width ≡ width
  pub stands : HoldsEntries v (records_of bytes)

-- a fault tells the first record that is refused; want of memory may come at any file
abbrev pub RefusesVectors : List ℕ → FileFault → Type 0
RefusesVectors bytes (fault.Row number why) = FirstRefused vectors_reason_after (records_of bytes) number why
RefusesVectors bytes fault.NoMemory = ⊤

-- the kind of a recording whose vectors have so many bytes
abbrev pub vectors_file : ℕ → Kind VectorsView FileFault
vectors_file width = record { is_file_of = IsVectorsFile width; refuses = RefusesVectors; is_sound = λ v. v.width ≡ width; no_memory = fault.NoMemory }
