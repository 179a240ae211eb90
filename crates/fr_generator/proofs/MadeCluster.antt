-- The cluster that is made is one.
use Rattle.std.proofs.Common.{◌≡◌, ◌≤◌, ◌<◌, ◌≢◌, ◌+◌, ℕ, zero, suc, true, Some, List, [], ◌∷◌, refl, arith, lit<}
use Rattle.std.specs.Prelude.{◌-◌, ◌%◌, map}
use Rattle.std.specs.List.{All, AllPairs, Contains}
use Rattle.std.proofs.lemmas.Int.{ints}
use Rattle.std.proofs.lemmas.List.Elements.{All-cons}
use Rattle.std.proofs.lemmas.List.Kept.{AllPairs-cons}
use Rattle.fr_base.specs.declared.channel.Channel.{Channel}
use Rattle.fr_base.specs.declared.channel.Channel.TheVariants as channel
use Rattle.fr_cluster.specs.Constraints.{key_slots}
use Rattle.fr_params.specs.Making.{IsMadeOf}
use Rattle.fr_cluster.specs.Numbers.{number_in}
use Rattle.fr_cluster.specs.Questions.{is_common, node_of}
use Rattle.fr_cluster.specs.Ranges.{InRange}
use Rattle.fr_cluster.specs.Sane.{IsSaneNode, IsSaneSlot}
use Rattle.fr_cluster.specs.Values.{Values}
use Rattle.fr_cluster.specs.declared.names.ParamName.{ParamName}
use Rattle.fr_cluster.specs.declared.names.ParamName.TheVariants as name
use Rattle.fr_cluster.specs.declared.nodes.NodeSpec.{NodeSpec}
use Rattle.fr_cluster.specs.declared.nodes.SlotSpec.{SlotSpec}
use Rattle.std.specs.Prelude.{Result, Ok, Err, IfOk}
use Rattle.fr_params.specs.Assembling.{AreAccepted, Assembles}
use Rattle.fr_params.specs.declared.fault.ParamFault.{ParamFault}
use Rattle.fr_generator.specs.Cluster.{made_node, made_numbers, made_slot, made_values, nodes_to, slots_to}

-- each node from 1 to 8 is there
pub known : (n : ℕ) → 1 ≤ n → n ≤ 8 → node_of made_values n ≡ Some (made_node n)
unfolding nodes_to
known zero low high = absurd (omega arith)
known (suc zero) low high = refl
known (suc (suc zero)) low high = refl
known (suc (suc (suc zero))) low high = refl
known (suc (suc (suc (suc zero)))) low high = refl
known (suc (suc (suc (suc (suc zero))))) low high = refl
known (suc (suc (suc (suc (suc (suc zero)))))) low high = refl
known (suc (suc (suc (suc (suc (suc (suc zero))))))) low high = refl
known (suc (suc (suc (suc (suc (suc (suc (suc zero)))))))) low high = refl
known (suc (suc (suc (suc (suc (suc (suc (suc (suc n))))))))) low high = absurd (omega arith)

-- and has both channels
pub both : (a b : ℕ) (ch : Channel) → 1 ≤ a → a ≤ 8 → 1 ≤ b → b ≤ 8 → is_common made_values a b ch ≡ true
both a b channel.A low high from to = rw (known a low high, known b from to) refl
both a b channel.B low high from to = rw (known a low high, known b from to) refl

-- coldstart nodes from a number on
nodes_from : ℕ → ℕ → List NodeSpec
nodes_from first zero = []
nodes_from first (suc more) = made_node first ∷ nodes_from (suc first) more

all-none : {X : Type 0} (P : X → Type 0) → All P []
all-none P k d less = absurd (omega arith)

pairs-none : {X : Type 0} (R : X → X → Type 0) → AllPairs R []
pairs-none R i j d before less = absurd (omega arith)

nodes-sane : (first count : ℕ) → 1 ≤ first → first + count ≤ 65 → All IsSaneNode (nodes_from first count)
unfolding nodes_from
nodes-sane first zero low high = all-none IsSaneNode
nodes-sane first (suc more) low high =
    All-cons IsSaneNode _ (nodes_from (suc first) more) (record { proper = record { from = low; to = omega arith; key = (low, omega arith) }; starts = refl })
    (nodes-sane (suc first) more (omega arith) (omega arith))

ids-above : (low first count : ℕ) → low < first → All (λ node. low < node.id) (nodes_from first count)
unfolding nodes_from
ids-above low first zero less = all-none (λ node. low < node.id)
ids-above low first (suc more) less = All-cons (λ node. low < node.id) _ (nodes_from (suc first) more) less (ids-above low (suc first) more (omega arith))

ids-ascend : (first count : ℕ) → AllPairs (λ a b. a.id < b.id) (nodes_from first count)
unfolding nodes_from
ids-ascend first zero = pairs-none (λ a b. a.id < b.id)
ids-ascend first (suc more) = AllPairs-cons (λ a b. a.id < b.id) _ (nodes_from (suc first) more) (ids-above first (suc first) more (omega arith)) (ids-ascend (suc first) more)

keys-within : (first count : ℕ) → first + count ≤ 141 → All (λ key. key ≤ 140) (key_slots (nodes_from first count))
unfolding nodes_from
keys-within first zero high = all-none (λ key. key ≤ 140)
keys-within first (suc more) high = All-cons (λ key. key ≤ 140) first (key_slots (nodes_from (suc first) more)) (omega arith) (keys-within (suc first) more (omega arith))

keys-others : (low first count : ℕ) → low < first → All (λ key. low ≢ key) (key_slots (nodes_from first count))
unfolding nodes_from
keys-others low first zero less = all-none (λ key. low ≢ key)
keys-others low first (suc more) less =
    All-cons (λ key. low ≢ key) first (key_slots (nodes_from (suc first) more)) (λ same. absurd (omega arith)) (keys-others low (suc first) more (omega arith))

keys-differ : (first count : ℕ) → AllPairs (λ a b. a ≢ b) (key_slots (nodes_from first count))
unfolding nodes_from
keys-differ first zero = pairs-none (λ a b. a ≢ b)
keys-differ first (suc more) =
    AllPairs-cons (λ a b. a ≢ b) first (key_slots (nodes_from (suc first) more)) (keys-others first (suc first) more (omega arith)) (keys-differ (suc first) more)

keys-small : (first count : ℕ) → first + count ≤ 9 → (slot : ℕ) → 9 ≤ slot → Contains (key_slots (nodes_from first count)) slot → ⊥
unfolding nodes_from
keys-small first zero high slot low there = absurd (omega arith)
keys-small first (suc more) high slot low (zero, room, is) = absurd (omega (arith, is))
keys-small first (suc more) high slot low (suc k, room, is) = keys-small (suc first) more (omega arith) slot low (k, omega arith, is)

-- further slots from a number on
slots_from : ℕ → ℕ → List SlotSpec
slots_from first zero = []
slots_from first (suc more) = made_slot first ∷ slots_from (suc first) more

turns : (n : ℕ) → 1 ≤ n → n ≤ 8 → Contains (map (λ node. node.id) (nodes_from 1 8)) n
unfolding nodes_from
turns zero low high = absurd (omega arith)
turns (suc zero) low high = (0, lit< tt, refl)
turns (suc (suc zero)) low high = (1, lit< tt, refl)
turns (suc (suc (suc zero))) low high = (2, lit< tt, refl)
turns (suc (suc (suc (suc zero)))) low high = (3, lit< tt, refl)
turns (suc (suc (suc (suc (suc zero))))) low high = (4, lit< tt, refl)
turns (suc (suc (suc (suc (suc (suc zero)))))) low high = (5, lit< tt, refl)
turns (suc (suc (suc (suc (suc (suc (suc zero))))))) low high = (6, lit< tt, refl)
turns (suc (suc (suc (suc (suc (suc (suc (suc zero)))))))) low high = (7, lit< tt, refl)
turns (suc (suc (suc (suc (suc (suc (suc (suc (suc n))))))))) low high = absurd (omega arith)

slots-sane : (first count : ℕ) → 9 ≤ first → first + count ≤ 1024 → All (IsSaneSlot (nodes_from 1 8)) (slots_from first count)
unfolding slots_from
slots-sane first zero low high = all-none (IsSaneSlot (nodes_from 1 8))
slots-sane first (suc more) low high =
    All-cons (IsSaneSlot (nodes_from 1 8)) _ (slots_from (suc first) more)
    (record {
      proper = record {
        from = omega arith;
        to = omega arith;
        node_from = omega arith;
        node_to = omega arith;
        base_to = omega arith;
        repetition_from = omega arith;
        repetition_to = omega arith;
      };
      turn = refl;
      known = turns ((first - 9) % 8 + 1) (omega arith) (omega arith);
    })
    (slots-sane (suc first) more (omega arith) (omega arith))

slots-above : (low first count : ℕ) → low < first → All (λ slot. low < slot.slot) (slots_from first count)
unfolding slots_from
slots-above low first zero less = all-none (λ slot. low < slot.slot)
slots-above low first (suc more) less = All-cons (λ slot. low < slot.slot) _ (slots_from (suc first) more) less (slots-above low (suc first) more (omega arith))

slots-ascend : (first count : ℕ) → AllPairs (λ a b. a.slot < b.slot) (slots_from first count)
unfolding slots_from
slots-ascend first zero = pairs-none (λ a b. a.slot < b.slot)
slots-ascend first (suc more) = AllPairs-cons (λ a b. a.slot < b.slot) _ (slots_from (suc first) more) (slots-above first (suc first) more (omega arith)) (slots-ascend (suc first) more)

slots-free : (first count : ℕ) → 9 ≤ first → first + count ≤ 141 → All (λ slot. (slot.slot ≤ 140) × (Contains (key_slots (nodes_from 1 8)) slot.slot → ⊥)) (slots_from first count)
unfolding slots_from
slots-free first zero low high = all-none (λ slot. (slot.slot ≤ 140) × (Contains (key_slots (nodes_from 1 8)) slot.slot → ⊥))
slots-free first (suc more) low high =
    All-cons (λ slot. (slot.slot ≤ 140) × (Contains (key_slots (nodes_from 1 8)) slot.slot → ⊥)) _ (slots_from (suc first) more)
    (omega arith, λ there. keys-small 1 8 (omega arith) first low there) (slots-free (suc first) more (omega arith) (omega arith))

same-nodes : nodes_to 8 ≡ nodes_from 1 8
unfolding nodes_to nodes_from
same-nodes = refl

same-slots : slots_to 16 ≡ slots_from 9 16
unfolding slots_to slots_from
same-slots = refl

in-range : (n : ParamName) → InRange n (number_in made_numbers n)
in-range name.gMacroPerCycle = (grind (arith, ints), grind (arith, ints))
in-range other = (grind (arith, ints), grind (arith, ints))

accepted : AreAccepted made_numbers (nodes_from 1 8) (slots_from 9 16)
unfolding nodes_from slots_from
accepted = record {
  long = refl;
  ranged = in-range;
  lists = record {
    nodes_sane = nodes-sane 1 8 (omega arith) (omega arith);
    slots_sane = slots-sane 9 16 (omega arith) (omega arith);
    nodes_ascend = ids-ascend 1 8;
    slots_ascend = slots-ascend 9 16;
    few_nodes = omega arith;
    few_slots = omega arith;
  };
  constraints = record {
    whole_cycle = refl;
    acts_in_slot = omega arith;
    corrects_after = (omega arith, omega arith);
    leaves_microticks = omega arith;
    passive_first = omega arith;
    sync_nodes = (omega arith, omega arith);
    own_slots = (keys-within 1 8 (omega arith), keys-differ 1 8);
    free_slots = slots-free 9 16 (omega arith) (omega arith);
  };
}

-- the numbers, nodes and slots are those of a cluster
pub made-accepted : AreAccepted made_numbers (nodes_to 8) (slots_to 16)
made-accepted = rw (same-nodes, same-slots) accepted

-- and parameters that are made of them are these
pub made-same : (p : Values) → IsMadeOf p made_numbers (nodes_to 8) (slots_to 16) → p ≡ made_values
made-same p h = λ i. record {
  macros = h.figures name.gMacroPerCycle i;
  micros = h.figures name.pMicroPerCycle i;
  static_slots = h.figures name.gNumberOfStaticSlots i;
  slot_macros = h.figures name.gdStaticSlot i;
  action_offset = h.figures name.gdActionPointOffset i;
  idle_macros = h.figures name.gdNIT i;
  words = h.figures name.gPayloadLengthStatic i;
  correction = h.figures name.gOffsetCorrectionStart i;
  max_passive = h.figures name.gMaxWithoutClockCorrectionPassive i;
  max_fatal = h.figures name.gMaxWithoutClockCorrectionFatal i;
  halt_allowed = h.figures name.pAllowHaltDueToClock i;
  to_active = h.figures name.pAllowPassiveToActive i;
  damping = h.figures name.pClusterDriftDamping i;
  offset_limit = h.figures name.pOffsetCorrectionOut i;
  rate_limit = h.figures name.pRateCorrectionOut i;
  compensation_a = h.figures name.pDelayCompensationA i;
  compensation_b = h.figures name.pDelayCompensationB i;
  rate_bound = h.figures name.xRateBound i;
  change_bound = h.figures name.xChangeBound i;
  delay_error = h.figures name.xDelayError i;
  nodes = h.nodes_are i;
  slots = h.slots_are i;
}

pub made-ok : (result : Result Values ParamFault) → Assembles made_numbers (nodes_to 8) (slots_to 16) result → IfOk result (λ p. p ≡ made_values)
made-ok (Ok p) h = made-same p h
made-ok (Err why) h = tt
