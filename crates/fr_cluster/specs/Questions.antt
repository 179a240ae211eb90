-- What the questions to the parameters answer.
use Rattle.std.specs.Prelude.{ℕ, ◌==◌, ℤ, Bool, false, ◌&&◌, Option, Some, None, is_some, find}
use Rattle.std.specs.Int.{int_max}
use Rattle.std.specs.Option.{option_map_or}
use Rattle.fr_base.specs.declared.channel.Channel.{Channel}
use Rattle.fr_base.specs.declared.channel.Channel.TheVariants as channel
use Rattle.fr_cluster.specs.Constraints.{key_slots}
use Rattle.fr_cluster.specs.Values.{Values}
use Rattle.fr_cluster.specs.Searches.{key_index_in, node_in}
use Rattle.fr_cluster.specs.declared.nodes.NodeSpec.{NodeSpec}

-- the delay compensation of a channel
abbrev pub compensation_of : Values → Channel → ℤ
compensation_of p channel.A = p.compensation_a
compensation_of p channel.B = p.compensation_b

-- the greater of both
abbrev pub widest_compensation_of : Values → ℤ
widest_compensation_of p = int_max (compensation_of p channel.A) (compensation_of p channel.B)

-- the node of a number, if there is one
abbrev pub node_of : Values → ℕ → Option NodeSpec
node_of p id = node_in p.nodes id

-- whether the cluster has a node of this number
abbrev pub is_known : Values → ℕ → Bool
is_known p node = is_some (node_of p node)

-- the place of a slot among the key slots in ascending order: how many of them are below it; only if it is one
abbrev pub key_index_of : Values → ℕ → Option ℕ
key_index_of p slot = key_index_in p.nodes slot

-- the key slot of a place, in ascending order of slot
abbrev pub key_slot_of : Values → ℕ → Option ℕ
key_slot_of p index = find (λ slot. option_map_or (λ place. place == index) (key_index_of p slot) false) (key_slots p.nodes)

-- the key slot of a node, if there is such a node and it has one
abbrev pub key_in : Option NodeSpec → Option ℕ
key_in None = None
key_in (Some node) = node.key

abbrev pub own_key : Values → ℕ → Option ℕ
own_key p id = key_in (node_of p id)

-- the place of a node's key slot among the key slots
abbrev pub index_in : Values → Option ℕ → Option ℕ
index_in p None = None
index_in p (Some slot) = key_index_of p slot

abbrev pub own_index : Values → ℕ → Option ℕ
own_index p id = index_in p (own_key p id)

-- whether there is a node and it is a coldstart node
abbrev pub is_coldstart : Values → ℕ → Bool
is_coldstart p id = option_map_or (λ node. node.coldstart) (node_of p id) false

-- whether there is a node and it has the channel
abbrev pub has_channel : Option NodeSpec → Channel → Bool
has_channel None ch = false
has_channel (Some node) channel.A = node.on_a
has_channel (Some node) channel.B = node.on_b

-- whether both nodes are there and have the channel
abbrev pub is_common : Values → ℕ → ℕ → Channel → Bool
is_common p a b channel = has_channel (node_of p a) channel && has_channel (node_of p b) channel
