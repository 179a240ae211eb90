-- The lists that the record of a cycle is made of, and their order.
use Rattle.std.specs.Prelude.{◌≡◌, ◌⊎◌, ℕ, ◌==◌, ℤ, ◌<◌, Bool, ◌&&◌, Option, List, AllPairs, find}
use Rattle.std.specs.Option.{option_map}
use Rattle.fr_base.specs.declared.channel.Channel.{Channel}
use Rattle.fr_base.specs.declared.channel.Channel.TheVariants.{A, B}
use Rattle.fr_base.specs.declared.node_row.NodeRow.{NodeRow}
use Rattle.fr_base.specs.declared.dev.Dev.{Dev}

-- channel A comes before channel B
abbrev pub channel_rank : Channel → ℕ
channel_rank A = 0
channel_rank B = 1

-- one deviation comes before another: by receiver, then by slot, then by channel
abbrev pub IsEarlierDev : Dev → Dev → Type 0
IsEarlierDev a b =
    (a.receiver < b.receiver)
    ⊎ ((a.receiver ≡ b.receiver) × ((a.slot < b.slot) ⊎ ((a.slot ≡ b.slot) × (channel_rank a.channel < channel_rank b.channel))))

-- rows in ascending order of node, and deviations in theirs: no two are of the same place
abbrev pub AreAscendingRows : List NodeRow → Type 0
AreAscendingRows rows = AllPairs (λ a b. a.node < b.node) rows

abbrev pub AreAscendingDevs : List Dev → Type 0
AreAscendingDevs devs = AllPairs IsEarlierDev devs

-- a list of deviations, and how many more it has room for without taking memory
pub record Roomy : Type 0 where
  pub entries : List Dev
  pub spare : ℕ

-- a deviation of these numbers
abbrev pub dev_with : ℕ → ℕ → Channel → ℤ → Dev
dev_with receiver slot channel value = record { receiver = receiver; slot = slot; channel = channel; value = value }

-- whether a deviation is that of a receiver, a slot and a channel
abbrev pub is_dev_of : ℕ → ℕ → Channel → Dev → Bool
is_dev_of receiver slot channel dev = (dev.receiver == receiver) && (dev.slot == slot) && (channel_rank dev.channel == channel_rank channel)

-- the deviation of a receiver, a slot and a channel, if it is recorded
abbrev pub dev_in : List Dev → ℕ → ℕ → Channel → Option ℤ
dev_in devs receiver slot channel = option_map (λ dev. dev.value) (find (is_dev_of receiver slot channel) devs)
