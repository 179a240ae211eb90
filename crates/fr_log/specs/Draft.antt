-- What the tables under construction hold of the records so far.
use Rattle.std.specs.Prelude.{ℕ, ◌≡◌, ◌≤◌, true, false, List, length, All, Option, Some, None, IfSome, IsSome, Result, Ok, Err, slice_index_or, unwrap_or}
use Rattle.std.specs.List.Sorted.{IsNonDecreasingBy}
use Rattle.fr_base.specs.declared.channel.Channel.TheVariants as channel
use Rattle.fr_base.specs.declared.reason.Reason.{Reason}
use Rattle.fr_text.specs.Records.{FileRecord}
use Rattle.fr_text.specs.Takes.{TakesRow}
use Rattle.fr_cluster.specs.Values.{Values}
use Rattle.fr_log.specs.Files.{LogStandsFor, lacks_delay}
use Rattle.fr_log.specs.Numbers.{IsHeadNumber, head_place}
use Rattle.fr_log.specs.Reasons.{delay_limits_by, each_by, entries_by, is_arbitrary_by, is_log_whole, is_misfit, log_row_reason, number_by}
use Rattle.fr_log.specs.Rows.{log_row_of}
use Rattle.fr_log.specs.View.{AreAllLimits, AreDelayLimits, IsEntry, IsLog, LogView}
use Rattle.fr_log.specs.declared.draft.Draft.{Draft}
use Rattle.fr_log.specs.declared.fault.LogFault.{LogFault}
use Rattle.fr_log.specs.declared.fault.LogFault.TheVariants as fault
use Rattle.fr_log.specs.declared.rows.HeadNumber.{HeadNumber}
use Rattle.fr_log.specs.declared.rows.HeadNumber.TheVariants as head
use Rattle.fr_log.specs.declared.rows.Row.{Row}

-- the number of a name in a table
abbrev pub number_in_table : List (Option ℕ) → HeadNumber → Option ℕ
number_in_table numbers name = slice_index_or numbers (head_place name) None

-- a number that a record may say
pub record IsTakenNumber (name : HeadNumber) (number : ℕ) : Type 0 where
  pub range : IsHeadNumber name number
  pub fits : is_misfit name number ≡ false

-- nothing in the tables is out of range or out of order
pub record AreProperTables (draft : Draft) : Type 0 where
  pub numbers : (name : HeadNumber) → IfSome (number_in_table draft.numbers name) (IsTakenNumber name)
  pub on_a : AreAllLimits draft.on_a
  pub on_b : AreAllLimits draft.on_b
  pub each : IfSome draft.each AreDelayLimits
  pub entries : (unit : ℕ) → number_in_table draft.numbers head.Unit ≡ Some unit → All (IsEntry unit) draft.entries.items
  pub ascending : IsNonDecreasingBy (λ e. e.stamp) draft.entries.items

-- the tables hold what the records say, and nothing out of range
pub record IsLogDraft (draft : Draft) (records : List FileRecord) : Type 0 where
  pub numbers_long : length draft.numbers ≡ 7
  pub arbitrary_long : length draft.arbitrary ≡ 65
  pub on_a_long : length draft.on_a ≡ 65
  pub on_b_long : length draft.on_b ≡ 65
  pub numbers : (name : HeadNumber) → number_in_table draft.numbers name ≡ number_by name records
  pub whole : draft.whole ≡ is_log_whole records
  pub arbitrary : (node : ℕ) → node ≤ 64 → slice_index_or draft.arbitrary node false ≡ is_arbitrary_by node records
  pub on_a : (node : ℕ) → node ≤ 64 → slice_index_or draft.on_a node None ≡ delay_limits_by node channel.A records
  pub on_b : (node : ℕ) → node ≤ 64 → slice_index_or draft.on_b node None ≡ delay_limits_by node channel.B records
  pub each : draft.each ≡ each_by records
  pub entries : draft.entries.items ≡ entries_by records
  pub proper : AreProperTables draft

-- a row is refused for its reason, or held after the records so far; the parameters stay
pub record TakesLogRow {Error : Type 0} (before after : Draft) (row : Row) (result : Result (Option Reason) Error) : Type 0 where
  pub params : after.params ≡ before.params
  pub takes : TakesRow IsLogDraft log_row_of (log_row_reason before.params.now) before after row result

-- the same where it takes no memory
abbrev pub TakesLogRowAtOnce : Draft → Draft → Row → Option Reason → Type 0
TakesLogRowAtOnce before after row why = let answer : Result (Option Reason) (Unit {0}) = Ok why in TakesLogRow before after row answer

-- the log of the tables
abbrev pub log_drafted : Draft → ℕ → ℕ → LogView
log_drafted draft unit drift = record {
  unit = unit;
  drift = drift;
  error = unwrap_or (number_in_table draft.numbers head.Error) 0;
  jitter = number_in_table draft.numbers head.Jitter;
  flutter = number_in_table draft.numbers head.Flutter;
  lost = unwrap_or (number_in_table draft.numbers head.Lost) 0;
  since = number_in_table draft.numbers head.Since;
  whole = draft.whole;
  arbitrary = draft.arbitrary;
  on_a = draft.on_a;
  on_b = draft.on_b;
  each = draft.each;
  entries = draft.entries.items;
}

-- the log of these records; or what they do not say, the first of it
pub record IsLogOf (p : Values) (records : List FileRecord) (l : LogView) : Type 0 where
  pub limited : lacks_delay p records ≡ false
  pub stands : LogStandsFor l records
  pub proper : IsLog l

pub record MissesDrift (records : List FileRecord) : Type 0 where
  pub unit : IsSome (number_by head.Unit records)
  pub missing : number_by head.Drift records ≡ None

pub record MissesDelay (p : Values) (records : List FileRecord) : Type 0 where
  pub unit : IsSome (number_by head.Unit records)
  pub drift : IsSome (number_by head.Drift records)
  pub missing : lacks_delay p records ≡ true

abbrev pub EndsLog : Values → List FileRecord → Result LogView LogFault → Type 0
EndsLog p records (Ok l) = IsLogOf p records l
EndsLog p records (Err (fault.Row number why)) = ⊥
EndsLog p records (Err fault.MissingUnit) = number_by head.Unit records ≡ None
EndsLog p records (Err fault.MissingDrift) = MissesDrift records
EndsLog p records (Err fault.MissingDelay) = MissesDelay p records
EndsLog p records (Err fault.NoMemory) = ⊥
