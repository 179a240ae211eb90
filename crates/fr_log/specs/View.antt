-- What contracts see of a log.
use Rattle.std.specs.Prelude.{ℕ, ◌≡◌, ◌*◌, ◌%◌, ◌-◌, ◌≤◌, min, Bool, false, List, length, All, Option, Some, None, IfSome, slice_index_or}
use Rattle.std.specs.List.Sorted.{IsNonDecreasingBy}
use Rattle.std.specs.Option.{option_map}
use Rattle.fr_base.specs.declared.channel.Channel.{Channel}
use Rattle.fr_base.specs.declared.channel.Channel.TheVariants as channel
use Rattle.fr_text.specs.Fields.{or_else}
use Rattle.fr_log.specs.Numbers.{IsHeadNumber}
use Rattle.fr_log.specs.Rows.{AreEntryBytes, last_stamp, most_delay}
use Rattle.fr_log.specs.declared.entry.Entry.{Entry}
use Rattle.fr_log.specs.declared.rows.DelayLimits.{DelayLimits}
use Rattle.fr_log.specs.declared.rows.HeadNumber.TheVariants as head

-- the numbers of its head, in ticks, the drift in parts per million, how many senders a node may miss, the even cycle in whose
-- double cycle the cluster is in sync by the sharper bounds; whether no frame was missed; whether the node of each number is
-- arbitrary; the limits of the delays of each node on each channel, and of those that have no others; the entries in their order
pub record LogView : Type 0 where
  pub unit : ℕ
  pub drift : ℕ
  pub error : ℕ
  pub jitter : Option ℕ
  pub flutter : Option ℕ
  pub lost : ℕ
  pub since : Option ℕ
  pub whole : Bool
  pub arbitrary : List Bool
  pub on_a : List (Option DelayLimits)
  pub on_b : List (Option DelayLimits)
  pub each : Option DelayLimits
  pub entries : List Entry

-- whether the log names a node arbitrary
unfoldable pub is_arbitrary_in : LogView → ℕ → Bool
is_arbitrary_in l node = slice_index_or l.arbitrary node false

-- the limits that a row says of the delay of a node's frames on a channel
abbrev pub limits_on : LogView → Channel → List (Option DelayLimits)
limits_on l channel.A = l.on_a
limits_on l channel.B = l.on_b

unfoldable pub own_limits : LogView → ℕ → Channel → Option DelayLimits
own_limits l node ch = slice_index_or (limits_on l ch) node None

-- the limits of that delay: its own, or those of all that have no others
unfoldable pub delay_limits_of : LogView → ℕ → Channel → Option DelayLimits
delay_limits_of l node ch = or_else (own_limits l node ch) l.each

-- how much two such delays differ at most: no more than their limits, and no more than the log says
abbrev pub jitter_within : Option ℕ → DelayLimits → ℕ
jitter_within None limits = limits.high - limits.low
jitter_within (Some jitter) limits = min jitter (limits.high - limits.low)

unfoldable pub jitter_of : LogView → ℕ → Channel → Option ℕ
jitter_of l node ch = option_map (jitter_within l.jitter) (delay_limits_of l node ch)

-- limits stand in order
pub record AreDelayLimits (limits : DelayLimits) : Type 0 where
  pub ordered : limits.low ≤ limits.high
  pub most : limits.high ≤ most_delay

abbrev pub AreAllLimits : List (Option DelayLimits) → Type 0
AreAllLimits limits = (node : ℕ) → IfSome (slice_index_or limits node None) AreDelayLimits

-- an entry has bytes of a frame at most, and comes at a tick that is not too great, with units of so many ticks
pub record IsEntry (unit : ℕ) (e : Entry) : Type 0 where
  pub stamp : unit * e.stamp ≤ last_stamp
  pub bytes : AreEntryBytes e.bytes

-- an even cycle
pub record IsEvenCycle (cycle : ℕ) : Type 0 where
  pub even : cycle % 2 ≡ 0
  pub most : cycle ≤ 199_998

-- what holds of every log
pub record IsLog (l : LogView) : Type 0 where
  pub unit : IsHeadNumber head.Unit l.unit
  pub drift : IsHeadNumber head.Drift l.drift
  pub error : IsHeadNumber head.Error l.error
  pub jitter : IfSome l.jitter (IsHeadNumber head.Jitter)
  pub flutter : IfSome l.flutter (IsHeadNumber head.Flutter)
  pub lost : IsHeadNumber head.Lost l.lost
  pub since : IfSome l.since IsEvenCycle
  pub arbitrary_long : length l.arbitrary ≡ 65
  pub on_a_long : length l.on_a ≡ 65
  pub on_b_long : length l.on_b ≡ 65
  pub on_a : AreAllLimits l.on_a
  pub on_b : AreAllLimits l.on_b
  pub each : IfSome l.each AreDelayLimits
  pub entries : All (IsEntry l.unit) l.entries
  pub ascending : IsNonDecreasingBy (λ e. e.stamp) l.entries
