-- What the tables under construction hold of the records so far.
use Rattle.std.specs.Prelude.{ℕ, ℤ, ◌≡◌, List, Option, Some, None, IfSome, Result, Ok, if◌then◌else◌}
use Rattle.std.specs.declared.cmp.Ordering.{Ordering}
use Rattle.std.specs.Ordering.{nat_cmp}
use Rattle.std.specs.BTreeMap.{BTreeMap, IsOrdered, get, is_at}
use Rattle.fr_base.specs.declared.channel.Channel.{Channel}
use Rattle.fr_base.specs.declared.channel.Channel.TheVariants as channel
use Rattle.fr_base.specs.declared.reason.Reason.{Reason}
use Rattle.fr_text.specs.Records.{FileRecord}
use Rattle.fr_text.specs.Takes.{TakesRow}
use Rattle.fr_cluster.specs.Values.{Values}
use Rattle.fr_drift.specs.Keys.{delay_cmp, delay_key, length_cmp, length_key}
use Rattle.fr_drift.specs.Reasons.{delay_at, doubles_at, drift_row_reason, length_said_at, start_at}
use Rattle.fr_drift.specs.Rows.{IsProperCount, IsProperDelay, IsMicrotickLength, IsProperStart, drift_row_of}
use Rattle.fr_drift.specs.View.{DriftView, delay_rows}
use Rattle.fr_drift.specs.declared.rows.Row.{Row}
use Rattle.fr_drift.specs.declared.draft.Draft.{Draft}
use Rattle.fr_drift.specs.declared.keys.DelayKey.{DelayKey}
use Rattle.fr_drift.specs.declared.keys.LengthKey.{LengthKey}

-- a value is put under a key that had none, and all else stays
pub record IsNewEntryPut {K V : Type 0} (cmp : K → K → Ordering) (old new : BTreeMap K V) (key : K) (value : V) : Type 0 where
  pub empty : get cmp old key ≡ None
  pub ordered : IsOrdered cmp new
  pub filled : (q : K) → get cmp new q ≡ (if is_at (cmp key) q then Some value else get cmp old q)

-- nothing in the tables is out of range or out of order
pub record AreProper (draft : Draft) : Type 0 where
  pub count : IfSome draft.doubles IsProperCount
  pub starts : (node : ℕ) → IfSome (get nat_cmp draft.starts node) IsProperStart
  pub lengths : (key : LengthKey) → IfSome (get length_cmp draft.lengths key) IsMicrotickLength
  pub delays_a : (key : DelayKey) → IfSome (get delay_cmp draft.delays_a key) IsProperDelay
  pub delays_b : (key : DelayKey) → IfSome (get delay_cmp draft.delays_b key) IsProperDelay
  pub starts_ordered : IsOrdered nat_cmp draft.starts
  pub lengths_ordered : IsOrdered length_cmp draft.lengths
  pub delays_a_ordered : IsOrdered delay_cmp draft.delays_a
  pub delays_b_ordered : IsOrdered delay_cmp draft.delays_b

-- the tables hold what the records say, and nothing out of range
pub record IsDriftDraft (draft : Draft) (records : List FileRecord) : Type 0 where
  pub doubles : draft.doubles ≡ doubles_at records
  pub starts : (node : ℕ) → get nat_cmp draft.starts node ≡ start_at node records
  pub lengths : (node from : ℕ) → get length_cmp draft.lengths (length_key node from) ≡ length_said_at node from records
  pub delays_a : (sender receiver from : ℕ) → get delay_cmp draft.delays_a (delay_key sender receiver from) ≡ delay_at sender receiver channel.A from records
  pub delays_b : (sender receiver from : ℕ) → get delay_cmp draft.delays_b (delay_key sender receiver from) ≡ delay_at sender receiver channel.B from records
  pub proper : AreProper draft

-- a row is refused against these parameters for its reason, or held after the records so far
abbrev pub TakesDriftRow : {Error : Type 0} → Values → Draft → Draft → Row → Result (Option Reason) Error → Type 0
TakesDriftRow p before after row result = TakesRow IsDriftDraft drift_row_of (drift_row_reason p) before after row result

-- the same where it takes no memory
abbrev pub TakesDriftRowAtOnce : Values → Draft → Draft → Row → Option Reason → Type 0
TakesDriftRowAtOnce p before after row why = let answer : Result (Option Reason) (Unit {0}) = Ok why in TakesDriftRow p before after row answer

-- the rows of delays on a channel, none of them out of range
pub record AreDelaysOn (d : DriftView) (ch : Channel) (rows : BTreeMap DelayKey ℤ) : Type 0 where
  pub same : (sender receiver from : ℕ) → get delay_cmp rows (delay_key sender receiver from) ≡ delay_rows d sender receiver ch from
  pub proper : (key : DelayKey) → IfSome (get delay_cmp rows key) IsProperDelay
