-- What the recorded deviations of a receiver put into a table.
use Rattle.std.specs.Prelude.{◌≡◌, ◌≢◌, ℕ, ◌<◌, ℤ, Bool, List, Option, Some, None, option_and_then, if◌then◌else◌}
use Rattle.std.specs.Option.{option_or}
use Rattle.fr_base.specs.Rows.{dev_in, is_dev_of}
use Rattle.fr_base.specs.declared.channel.Channel.{Channel}
use Rattle.fr_base.specs.declared.dev.Dev.{Dev}
use Rattle.fr_cluster.specs.Questions.{key_slot_of}
use Rattle.fr_cluster.specs.Values.{Values}
use Rattle.fr_measure.specs.Readings.{Readings, reading}

-- a receiver's deviation of a key index on a channel among some deviations
abbrev pub look_among : Values → List Dev → ℕ → ℕ → Channel → Option ℤ
look_among p devs node index channel = option_and_then (λ slot. dev_in devs node slot channel) (key_slot_of p index)

-- what one deviation says of a key index and a channel
abbrev pub told_by : Values → Dev → ℕ → ℕ → Channel → Option ℤ
told_by p dev node index channel =
    option_and_then (λ slot. if is_dev_of node slot channel dev then Some dev.value else None) (key_slot_of p index)

-- a table has taken in what was told of one cycle, where it had nothing before, and nothing else
pub record TakesIn (odd : Bool) (told : ℕ → Channel → Option ℤ) (old new : Readings) : Type 0 where
  pub own : (index : ℕ) (channel : Channel) → index < 15 → reading new index odd channel ≡ option_or (reading old index odd channel) (told index channel)
  pub others : (index : ℕ) (other : Bool) (channel : Channel) → other ≢ odd → reading new index other channel ≡ reading old index other channel
