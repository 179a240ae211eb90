-- Of the reasons for which a record may be refused, the least that holds.
use Rattle.std.specs.Prelude.{◌≡◌, ◌≤◌, Bool, true, false, List, Option, Some, None, Result, Ok, Err}
use Rattle.fr_base.specs.Reason.{reason_rank}
use Rattle.fr_base.specs.declared.reason.Reason.{Reason}
use Rattle.fr_text.specs.Records.{FileRecord}
use Rattle.fr_text.specs.Refusal.{Refusing}

-- whether a reason holds of a record after the records before it; where a reason of lesser number holds, those of
-- greater number are of no account: a record that misses its form need not say what they ask for
abbrev pub Holding : Type 0
Holding = List FileRecord → FileRecord → Reason → Bool

-- the reason holds, and none of lesser number does
pub record HoldsFirst (test : Reason → Bool) (why : Reason) : Type 0 where
  pub holds : test why ≡ true
  pub least : (other : Reason) → test other ≡ true → reason_rank why ≤ reason_rank other

-- the least reason that holds, and none only where none holds
abbrev pub IsLeastReason : (Reason → Bool) → Option Reason → Type 0
IsLeastReason test None = (why : Reason) → test why ≡ false
IsLeastReason test (Some why) = HoldsFirst test why

-- every record is refused for the least reason that holds of it, and only where one does
abbrev pub GivesLeast : Refusing → Holding → Type 0
GivesLeast reason holds = (before : List FileRecord) (record_at : FileRecord) → IsLeastReason (holds before record_at) (reason before record_at)

-- whether what a record says passes a test; where it says nothing it does not
abbrev pub row_passes : {Row : Type 0} → (Row → Bool) → Result Row Reason → Bool
row_passes test (Ok row) = test row
row_passes test (Err why) = false
