-- What a table under construction does with one more record.
use Rattle.std.specs.Prelude.{ℕ, ◌≡◌, ◌++◌, ◌∷◌, [], List, Option, None, Result, Ok, IfOk}
use Rattle.fr_base.specs.declared.reason.Reason.{Reason}
use Rattle.fr_text.specs.Records.{FileRecord, records_of}
use Rattle.fr_text.specs.Refusal.{Refusing, NoneRefused}

-- of a draft that holds some records, the row that a record says is refused for its reason, or is held after them
pub record TakesRow {Draft Row Error : Type 0} (Holds : Draft → List FileRecord → Type 0) (row_of : FileRecord → Result Row Reason)
    (reason : List FileRecord → Result Row Reason → Option Reason) (before after : Draft) (row : Row) (result : Result (Option Reason) Error) : Type 0 where
  pub why : (done : List FileRecord) → Holds before done → IfOk result (λ why. why ≡ reason done (Ok row))
  pub adds : (done : List FileRecord) (r : FileRecord) → Holds before done → row_of r ≡ Ok row → IfOk result (λ why. why ≡ None → Holds after (done ++ r ∷ []))

-- the same of a table and a record of a file
pub record TakesRecord {Table Error : Type 0} (Holds : Table → List FileRecord → Type 0) (reason : Refusing) (before after : Table) (row : FileRecord)
    (result : Result (Option Reason) Error) : Type 0 where
  pub why : (done : List FileRecord) → Holds before done → IfOk result (λ why. why ≡ reason done row)
  pub adds : (done : List FileRecord) → Holds before done → IfOk result (λ why. why ≡ None → Holds after (done ++ row ∷ []))

-- of a file of which no record is refused a table holds all records, and refuses as before
pub record IsFilled {Table : Type 0} (Holds : Table → List FileRecord → Type 0) (reason : Table → Refusing) (before after : Table) (bytes : List ℕ) : Type 0 where
  pub accepted : NoneRefused (reason before) (records_of bytes)
  pub stands : Holds after (records_of bytes)
  pub same : reason after ≡ reason before
