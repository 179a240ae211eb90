-- What a log file stands for, and why it is refused.
use Rattle.std.specs.Prelude.{ℕ, ◌≡◌, ◌≤◌, Bool, true, false, not, ◌&&◌, ◌||◌, List, length, Some, None, is_none, is_some, IsSome, unwrap_or, ⊤}
use Rattle.std.specs.List.{list_any}
use Rattle.fr_base.specs.declared.channel.Channel.{Channel}
use Rattle.fr_base.specs.declared.channel.Channel.TheVariants as channel
use Rattle.fr_text.specs.Fields.{or_else}
use Rattle.fr_text.specs.Kind.{Kind}
use Rattle.fr_text.specs.Records.{FileRecord, records_of}
use Rattle.fr_text.specs.Refusal.{FirstRefused, NoneRefused}
use Rattle.fr_cluster.specs.Questions.{has_channel, node_of, own_key}
use Rattle.fr_cluster.specs.Values.{Values}
use Rattle.fr_cluster.specs.declared.nodes.NodeSpec.{NodeSpec}
use Rattle.fr_log.specs.Reasons.{delay_limits_by, each_by, entries_by, is_arbitrary_by, is_log_whole, log_reason_after, number_by}
use Rattle.fr_log.specs.View.{IsLog, LogView, delay_limits_of, is_arbitrary_in, own_limits}
use Rattle.fr_log.specs.declared.fault.LogFault.{LogFault}
use Rattle.fr_log.specs.declared.fault.LogFault.TheVariants as fault
use Rattle.fr_log.specs.declared.rows.HeadNumber.TheVariants as head

-- the log is what the records say: its numbers are those of their rows, the error and what may be lost 0 where none says it, a
-- node is arbitrary where a record names it, the limits of delays are those of their rows, and its entries are those of the records, in
-- their order
pub record LogStandsFor (l : LogView) (records : List FileRecord) : Type 0 where
  pub unit : number_by head.Unit records ≡ Some l.unit
  pub drift : number_by head.Drift records ≡ Some l.drift
  pub error : l.error ≡ unwrap_or (number_by head.Error records) 0
  pub jitter : l.jitter ≡ number_by head.Jitter records
  pub flutter : l.flutter ≡ number_by head.Flutter records
  pub lost : l.lost ≡ unwrap_or (number_by head.Lost records) 0
  pub since : l.since ≡ number_by head.Since records
  pub whole : l.whole ≡ is_log_whole records
  pub arbitrary_long : length l.arbitrary ≡ 65
  pub on_a_long : length l.on_a ≡ 65
  pub on_b_long : length l.on_b ≡ 65
  pub arbitrary : (node : ℕ) → node ≤ 64 → is_arbitrary_in l node ≡ is_arbitrary_by node records
  pub limits : (node : ℕ) (ch : Channel) → node ≤ 64 → own_limits l node ch ≡ delay_limits_by node ch records
  pub each : l.each ≡ each_by records
  pub entries : l.entries ≡ entries_by records

-- whether a node has a channel on which the records do not limit the delay of its frames
abbrev pub lacks_on : List FileRecord → NodeSpec → Channel → Bool
lacks_on records node ch = has_channel (Some node) ch && is_none (or_else (delay_limits_by node.id ch records) (each_by records))

abbrev pub lacks_limits : List FileRecord → NodeSpec → Bool
lacks_limits records node =
    is_some node.key && not (is_arbitrary_by node.id records) && (lacks_on records node channel.A || lacks_on records node channel.B)

-- whether a correct node with a key slot has one
abbrev pub lacks_delay : Values → List FileRecord → Bool
lacks_delay p records = list_any (lacks_limits records) p.nodes

-- the file is accepted against these parameters, and this is the log that it stands for
pub record IsLogFile (p : Values) (l : LogView) (bytes : List ℕ) : Type 0 where
  pub none_refused : NoneRefused (log_reason_after p) (records_of bytes)
  pub limited : lacks_delay p (records_of bytes) ≡ false
  pub stands : LogStandsFor l (records_of bytes)

-- a log fits parameters where there is a list of records that is accepted against them and that stands for it
pub record LogFits (p : Values) (l : LogView) : Type 0 where
  pub records : List FileRecord
  pub none_refused : NoneRefused (log_reason_after p) records
  pub limited : lacks_delay p records ≡ false
  pub stands : LogStandsFor l records

-- no record is refused, and none says how long a unit is
pub record LacksUnit (p : Values) (records : List FileRecord) : Type 0 where
  pub none_refused : NoneRefused (log_reason_after p) records
  pub missing : number_by head.Unit records ≡ None

-- one says that, and none how far off the observer's clock is
pub record LacksDrift (p : Values) (records : List FileRecord) : Type 0 where
  pub none_refused : NoneRefused (log_reason_after p) records
  pub unit : IsSome (number_by head.Unit records)
  pub missing : number_by head.Drift records ≡ None

-- both are said, and the delay of a correct node with a key slot is not limited on a channel that it has
pub record LacksDelay (p : Values) (records : List FileRecord) : Type 0 where
  pub none_refused : NoneRefused (log_reason_after p) records
  pub unit : IsSome (number_by head.Unit records)
  pub drift : IsSome (number_by head.Drift records)
  pub missing : lacks_delay p records ≡ true

-- a fault tells the first cause, a record before what is missing; want of memory may come at any file
abbrev pub RefusesLog : Values → List ℕ → LogFault → Type 0
RefusesLog p bytes (fault.Row number why) = FirstRefused (log_reason_after p) (records_of bytes) number why
RefusesLog p bytes fault.MissingUnit = LacksUnit p (records_of bytes)
RefusesLog p bytes fault.MissingDrift = LacksDrift p (records_of bytes)
RefusesLog p bytes fault.MissingDelay = LacksDelay p (records_of bytes)
RefusesLog p bytes fault.NoMemory = ⊤

-- what holds of each log that is read
pub record IsSoundLog (p : Values) (l : LogView) : Type 0 where
  pub fits : LogFits p l
  pub proper : IsLog l

-- the kind of a log of an observer of a cluster with these parameters
abbrev pub log_file : Values → Kind LogView LogFault
log_file p = record { is_file_of = IsLogFile p; refuses = RefusesLog p; is_sound = IsSoundLog p; no_memory = fault.NoMemory }

-- ---- what a log that fits promises

-- a correct node with a key slot
pub record IsSyncSender (p : Values) (l : LogView) (node : ℕ) : Type 0 where
  pub key : IsSome (own_key p node)
  pub correct : is_arbitrary_in l node ≡ false

-- the delay of the frames of each is limited on each channel that it has
abbrev pub HaveLimits : Values → LogView → Type 0
HaveLimits p l = (node : ℕ) (ch : Channel) → node ≤ 64 → IsSyncSender p l node → has_channel (node_of p node) ch ≡ true → IsSome (delay_limits_of l node ch)

-- each arbitrary node has a key slot
abbrev pub HaveOwnSlots : Values → LogView → Type 0
HaveOwnSlots p l = (node : ℕ) → is_arbitrary_in l node ≡ true → IsSome (own_key p node)
