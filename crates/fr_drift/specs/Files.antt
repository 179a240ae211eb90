-- What a drift file stands for, and why it is refused.
use Rattle.std.specs.Prelude.{ℕ, ℤ, neg_ℤ, ◌≤ℤ◌, ◌≡◌, List, true, Some, None, ⊤}
use Rattle.std.specs.FinMap.{is_sorted}
use Rattle.std.specs.Ordering.{nat_cmp}
use Rattle.fr_base.specs.declared.channel.Channel.{Channel}
use Rattle.fr_text.specs.Kind.{Kind}
use Rattle.fr_text.specs.Records.{FileRecord, records_of}
use Rattle.fr_text.specs.Refusal.{NoneRefused, FirstRefused}
use Rattle.fr_cluster.specs.Values.{Values}
use Rattle.fr_cluster.specs.Questions.{compensation_of}
use Rattle.fr_drift.specs.Keys.{delay_cmp, length_cmp}
use Rattle.fr_drift.specs.Reasons.{doubles_at, start_at, length_said_at, delay_at, drift_reason_after}
use Rattle.fr_drift.specs.View.{DriftView, compensation_on, delay_rows, length_rows, start_rows}
use Rattle.fr_drift.specs.declared.fault.DriftFault.{DriftFault}
use Rattle.fr_drift.specs.declared.fault.DriftFault.TheVariants as fault

-- the rows stand in the order of their keys, each once
pub record AreInOrder (d : DriftView) : Type 0 where
  pub starts : is_sorted nat_cmp d.starts ≡ true
  pub lengths : is_sorted length_cmp d.lengths ≡ true
  pub delays_a : is_sorted delay_cmp d.delays_a ≡ true
  pub delays_b : is_sorted delay_cmp d.delays_b ≡ true

-- the drift is what the records say: its number of double cycles is that of their one row, its starts, lengths and delays
-- are those of their rows, in the order of their keys, and it keeps the compensation that these parameters answer for each
-- channel
pub record DriftStandsFor (p : Values) (d : DriftView) (records : List FileRecord) : Type 0 where
  pub doubles : doubles_at records ≡ Some d.doubles
  pub compensation : (ch : Channel) → compensation_on d ch ≡ compensation_of p ch
  pub starts : (node : ℕ) → start_rows d node ≡ start_at node records
  pub lengths : (node from : ℕ) → length_rows d node from ≡ length_said_at node from records
  pub delays : (sender receiver : ℕ) (ch : Channel) (from : ℕ) → delay_rows d sender receiver ch from ≡ delay_at sender receiver ch from records
  pub order : AreInOrder d

-- a drift fits parameters where there is a list of records that is accepted against them and that stands for it
pub record DriftFits (p : Values) (d : DriftView) : Type 0 where
  pub records : List FileRecord
  pub none_refused : NoneRefused (drift_reason_after p) records
  pub stands : DriftStandsFor p d records

-- a rate term lies within the limit of these parameters
pub record IsRateWithin (p : Values) (rate : ℤ) : Type 0 where
  pub from : neg_ℤ p.rate_limit ≤ℤ rate
  pub to : rate ≤ℤ p.rate_limit

-- the file is accepted against these parameters, and this is the drift that it stands for
pub record IsDriftFile (p : Values) (d : DriftView) (bytes : List ℕ) : Type 0 where
  pub none_refused : NoneRefused (drift_reason_after p) (records_of bytes)
  pub stands : DriftStandsFor p d (records_of bytes)

-- no record is refused, and none says how many double cycles the run has
pub record LacksDoubles (p : Values) (records : List FileRecord) : Type 0 where
  pub none_refused : NoneRefused (drift_reason_after p) records
  pub missing : doubles_at records ≡ None

-- a fault tells the first cause, a record before the missing row; want of memory may come at any file
abbrev pub RefusesDrift : Values → List ℕ → DriftFault → Type 0
RefusesDrift p bytes (fault.Row number why) = FirstRefused (drift_reason_after p) (records_of bytes) number why
RefusesDrift p bytes fault.MissingDoubles = LacksDoubles p (records_of bytes)
RefusesDrift p bytes fault.NoMemory = ⊤

-- the kind of a drift file of a cluster with these parameters
abbrev pub drift_file : Values → Kind DriftView DriftFault
drift_file p = record { is_file_of = IsDriftFile p; refuses = RefusesDrift p; is_sound = DriftFits p; no_memory = fault.NoMemory }
