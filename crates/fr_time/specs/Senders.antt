-- Who sends in a static slot of a cycle, and what kind of frame.
use Rattle.std.specs.Prelude.{ℕ, ◌%◌, ◌==◌, ◌≢◌, All, Option, Some, if◌then◌else◌}
use Rattle.std.specs.Option.{option_or, option_map}
use Rattle.fr_cluster.specs.Searches.{key_node_in, slot_in}
use Rattle.fr_cluster.specs.Values.{Values}
use Rattle.fr_cluster.specs.declared.nodes.NodeSpec.{NodeSpec}
use Rattle.fr_cluster.specs.declared.nodes.SlotSpec.{SlotSpec}
use Rattle.fr_time.specs.declared.senders.Sending.{Sending}
use Rattle.fr_time.specs.declared.senders.Kind.{Kind}
use Rattle.fr_time.specs.declared.senders.Kind.TheVariants.{SyncFrame, ValidFrame, NullFrame}
use Rattle.fr_time.specs.Cycles.{cycle_count}

-- a node sends a sync frame in its key slot in every cycle
abbrev pub sync_sending : NodeSpec → Sending
sync_sending node = record { node = node.id; kind = SyncFrame }

-- what a further slot carries in a cycle: a frame with valid payload where the cycle count modulo the repetition is
-- the base, and else a null frame
abbrev pub further_kind : SlotSpec → ℕ → Kind
further_kind spec cycle = if cycle_count cycle % spec.repetition == spec.base then ValidFrame else NullFrame

abbrev pub further_sending : ℕ → SlotSpec → Sending
further_sending cycle spec = record { node = spec.node; kind = further_kind spec cycle }

-- the node whose key slot a slot is, and the further slot of that number
abbrev pub key_node_of : Values → ℕ → Option NodeSpec
key_node_of p slot = key_node_in p.nodes slot

abbrev pub further_slot_of : Values → ℕ → Option SlotSpec
further_slot_of p slot = slot_in p.slots slot

-- who sends in a slot of a cycle: the node of this key slot, or that of this further slot; no slot is both
abbrev pub sender_of : Values → ℕ → ℕ → Option Sending
sender_of p slot cycle = option_or (option_map sync_sending (key_node_of p slot)) (option_map (further_sending cycle) (further_slot_of p slot))

-- a slot is neither a key slot nor a further slot
pub record IsUnused (p : Values) (slot : ℕ) : Type 0 where
  pub no_key : All (λ node. node.key ≢ Some slot) p.nodes
  pub no_further : All (λ spec. spec.slot ≢ slot) p.slots
