-- The records of a drift file as they are written: numbers without leading zeros, and empty the fields that a form leaves empty.
use Rattle.std.specs.Prelude.{ℕ, ℤ, [], ◌∷◌, codes}
use Rattle.std.specs.Fmt.{decimal, signed_decimal}
use Rattle.fr_base.specs.Channels.{letter}
use Rattle.fr_base.specs.declared.channel.Channel.{Channel}
use Rattle.fr_text.specs.Records.{FileRecord}

-- `doubles,COUNT,,,,`
abbrev pub doubles_record : ℕ → FileRecord
doubles_record count = codes "doubles" ∷ decimal count ∷ [] ∷ [] ∷ [] ∷ [] ∷ []

-- `start,NODE,TICKS,RATE,,`
abbrev pub start_record : ℕ → ℤ → ℤ → FileRecord
start_record node ticks rate = codes "start" ∷ decimal node ∷ signed_decimal ticks ∷ signed_decimal rate ∷ [] ∷ [] ∷ []

-- `length,NODE,FROM,TICKS,,`
abbrev pub length_record : ℕ → ℕ → ℤ → FileRecord
length_record node from ticks = codes "length" ∷ decimal node ∷ decimal from ∷ signed_decimal ticks ∷ [] ∷ [] ∷ []

-- `delay,SENDER,RECEIVER,CHANNEL,FROM,TICKS`
abbrev pub delay_record : ℕ → ℕ → Channel → ℕ → ℤ → FileRecord
delay_record sender receiver channel from ticks = codes "delay" ∷ decimal sender ∷ decimal receiver ∷ letter channel ∷ decimal from ∷ signed_decimal ticks ∷ []
