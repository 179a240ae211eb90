-- The records of a script as they are written: numbers without leading zeros, and empty the fields that a form leaves empty.
use Rattle.std.specs.Prelude.{ℕ, ℤ, [], ◌∷◌, codes}
use Rattle.std.specs.Fmt.{decimal, signed_decimal}
use Rattle.fr_base.specs.Channels.{letter}
use Rattle.fr_base.specs.declared.channel.Channel.{Channel}
use Rattle.fr_text.specs.Records.{FileRecord}

-- `arbitrary,NODE,,,,,`
abbrev pub arbitrary_record : ℕ → FileRecord
arbitrary_record node = codes "arbitrary" ∷ decimal node ∷ [] ∷ [] ∷ [] ∷ [] ∷ [] ∷ []

-- `say,CYCLE,SENDER,RECEIVER,CHANNEL,SHIFT,`: the regular frame
abbrev pub say_record : ℕ → ℕ → ℕ → Channel → ℤ → FileRecord
say_record cycle sender receiver channel shift = codes "say" ∷ decimal cycle ∷ decimal sender ∷ decimal receiver ∷ letter channel ∷ signed_decimal shift ∷ [] ∷ []
