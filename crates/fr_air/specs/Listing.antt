-- The deviations of a cycle in the tables of nodes, as they are listed.
use Rattle.std.specs.Prelude.{◌≡◌, ℕ, ◌+◌, ◌*◌, ◌≤◌, pos, Bool, List, All, ◌++◌, length, option_and_then, is_some, filter}
use Rattle.std.specs.List.{flat_map, range_with_len}
use Rattle.std.specs.Option.{option_map, option_to_list}
use Rattle.fr_base.specs.Rows.{dev_with, IsEarlierDev, Roomy}
use Rattle.fr_base.specs.declared.channel.Channel.{Channel}
use Rattle.fr_base.specs.declared.dev.Dev.{Dev}
use Rattle.fr_cluster.specs.Values.{Values, amount}
use Rattle.fr_cluster.specs.declared.names.ParamName.TheVariants as name
use Rattle.fr_cluster.specs.Questions.{key_index_of}
use Rattle.fr_measure.specs.Readings.{reading}
use Rattle.fr_node.specs.View.{NodeView}
use Rattle.fr_history.specs.Offers.{channels}

-- the key slots in ascending order
abbrev pub ordered_keys : Values → List ℕ
ordered_keys p = filter (λ slot. is_some (key_index_of p slot)) (range_with_len 1 (amount p name.gNumberOfStaticSlots))

-- the deviation that a node has of a slot in the odd or the even cycle on a channel, as a list of one or none
abbrev pub listed_at : Values → Bool → NodeView → ℕ → Channel → List Dev
listed_at p odd node slot channel =
    option_to_list (option_map (dev_with node.id slot channel) (option_and_then (λ index. reading node.table index odd channel) (key_index_of p slot)))

-- those of a node, in ascending order of slot and channel
abbrev pub listed_of : Values → Bool → List ℕ → NodeView → List Dev
listed_of p odd keys node = flat_map (λ slot. flat_map (listed_at p odd node slot) channels) keys

-- those of all nodes, in the order of the nodes
abbrev pub listed_among : Values → Bool → List ℕ → List NodeView → List Dev
listed_among p odd keys nodes = flat_map (listed_of p odd keys) nodes

-- a list of deviations after these were put at its end, each of which took the place of one that it had room for
pub record Lists (devs : List Dev) (most : ℕ) (before after : Roomy) : Type 0 where
  pub entries_are : after.entries ≡ before.entries ++ devs
  pub room : before.spare ≤ after.spare + most
  pub kept : before.spare + length before.entries ≤ after.spare + length after.entries

-- a list of deviations has room, as a whole, for all that nodes can store in these key slots
abbrev pub HasRoom : List ℕ → Roomy → Type 0
HasRoom keys devs = 128 * length keys ≤ devs.spare + length devs.entries

-- so many more deviations can be listed, of which the first may be the receiver's of a slot and a channel: there is room, and
-- those before it are earlier
pub record CanList (most receiver slot : ℕ) (channel : Channel) (devs : Roomy) : Type 0 where
  pub room : most ≤ devs.spare
  pub later : All (λ earlier. IsEarlierDev earlier (dev_with receiver slot channel (pos 0))) devs.entries

-- a list of deviations after all of it was written anew
pub record IsListed (keys : List ℕ) (devs : List Dev) (now : Roomy) : Type 0 where
  pub entries_are : now.entries ≡ devs
  pub room : HasRoom keys now
