-- Channels as they are spelt.
use Rattle.std.specs.Prelude.{ℕ, List, codes, Option, Some, None, if◌then◌else◌}
use Rattle.std.specs.Str.{bytes_eq}
use Rattle.fr_base.specs.declared.channel.Channel.{Channel}
use Rattle.fr_base.specs.declared.channel.Channel.TheVariants.{A, B}

-- a channel as it is spelt
abbrev pub letter : Channel → List ℕ
letter A = codes "A"
letter B = codes "B"

-- the channel that a text spells, if it does
abbrev pub channel_of : List ℕ → Option Channel
channel_of text = if bytes_eq text (codes "A") then Some A else if bytes_eq text (codes "B") then Some B else None
