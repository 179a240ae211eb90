-- The eight constraints on the parameters of a cluster, over the number of each name as a natural.
use Rattle.std.specs.Prelude.{pos, ◌+ℤ◌, ◌-ℤ◌, ◌*ℤ◌, ◌≤ℤ◌, ℕ, zero, suc, ◌≡◌, ◌≢◌, ◌+◌, ◌-◌, ◌*◌, ◌<◌, ◌≤◌, List, length, All, AllPairs, Contains}
use Rattle.std.specs.List.{filter_map}
use Rattle.fr_cluster.specs.declared.names.ParamName.{ParamName}
use Rattle.fr_cluster.specs.declared.names.ParamName.TheVariants as name
use Rattle.fr_cluster.specs.declared.nodes.NodeSpec.{NodeSpec}
use Rattle.fr_cluster.specs.declared.nodes.SlotSpec.{SlotSpec}

-- a number for each name
abbrev pub Amounts : Type 0
Amounts = ParamName → ℕ

-- the macroticks of all static slots
abbrev pub static_macros : Amounts → ℕ
static_macros f = f name.gNumberOfStaticSlots * f name.gdStaticSlot

-- 1: the static slots and the rest fill the cycle
abbrev pub IsWholeCycle : Amounts → Type 0
IsWholeCycle f = f name.gMacroPerCycle ≡ static_macros f + f name.gdNIT

-- 2: the action point lies within its slot
abbrev pub ActsInSlot : Amounts → Type 0
ActsInSlot f = f name.gdActionPointOffset < f name.gdStaticSlot

-- 3: the offset correction starts after the static slots and before the end of the cycle
abbrev pub CorrectsAfterSlots : Amounts → Type 0
CorrectsAfterSlots f = (static_macros f < f name.gOffsetCorrectionStart) × (f name.gOffsetCorrectionStart < f name.gMacroPerCycle)

-- the macroticks of the offset correction; under 3 nothing is cut off
abbrev pub correction_macros : Amounts → ℕ
correction_macros f = f name.gMacroPerCycle - f name.gOffsetCorrectionStart

-- the microticks of the shortest cycle before its offset; where the rate limit is above the cycle this is 0 for
-- a negative number, and 4 does not hold for either, since its other side is above 0
abbrev pub least_micros : Amounts → ℕ
least_micros f = f name.pMicroPerCycle - f name.pRateCorrectionOut

-- 4: (N - Ro)(G - O) is at least G (G - O + Oo + 1): the shortest cycle has a microtick for each macrotick of the correction
abbrev pub LeavesMicroticks : Amounts → Type 0
LeavesMicroticks f = f name.gMacroPerCycle * (correction_macros f + f name.pOffsetCorrectionOut + 1) ≤ least_micros f * correction_macros f

-- the same over signed numbers, where no difference is cut off; a law says that under 3 it is the same
abbrev pub LeavesSignedMicroticks : Amounts → Type 0
LeavesSignedMicroticks f =
    (pos (f name.gMacroPerCycle) *ℤ (((pos (f name.gMacroPerCycle) -ℤ pos (f name.gOffsetCorrectionStart)) +ℤ pos (f name.pOffsetCorrectionOut)) +ℤ pos 1))
    ≤ℤ ((pos (f name.pMicroPerCycle) -ℤ pos (f name.pRateCorrectionOut)) *ℤ (pos (f name.gMacroPerCycle) -ℤ pos (f name.gOffsetCorrectionStart)))

-- 5: a node is passive before it halts
abbrev pub IsPassiveFirst : Amounts → Type 0
IsPassiveFirst f = f name.gMaxWithoutClockCorrectionPassive ≤ f name.gMaxWithoutClockCorrectionFatal

-- the key slots of nodes, in the order of the nodes
abbrev pub key_slots : List NodeSpec → List ℕ
key_slots nodes = filter_map (λ node. node.key) nodes

-- 6: 1 to 15 nodes have a key slot
abbrev pub HasSyncNodes : List ℕ → Type 0
HasSyncNodes keys = (1 ≤ length keys) × (length keys ≤ 15)

-- 7: the key slots are static slots, and all different
abbrev pub AreKeySlots : ℕ → List ℕ → Type 0
AreKeySlots limit keys = All (λ key. key ≤ limit) keys × AllPairs (λ a b. a ≢ b) keys

-- 8: the further slots are static slots, and no key slots
abbrev pub AreFreeSlots : ℕ → List ℕ → List SlotSpec → Type 0
AreFreeSlots limit keys slots = All (λ slot. (slot.slot ≤ limit) × (Contains keys slot.slot → ⊥)) slots

-- the constraint of a number, over the key slots and the further slots; there is none of other numbers
abbrev pub ConstraintHolds : ℕ → Amounts → List ℕ → List SlotSpec → Type 0
ConstraintHolds zero f keys slots = Unit {0}
ConstraintHolds (suc zero) f keys slots = IsWholeCycle f
ConstraintHolds (suc (suc zero)) f keys slots = ActsInSlot f
ConstraintHolds (suc (suc (suc zero))) f keys slots = CorrectsAfterSlots f
ConstraintHolds (suc (suc (suc (suc zero)))) f keys slots = LeavesMicroticks f
ConstraintHolds (suc (suc (suc (suc (suc zero))))) f keys slots = IsPassiveFirst f
ConstraintHolds (suc (suc (suc (suc (suc (suc zero)))))) f keys slots = HasSyncNodes keys
ConstraintHolds (suc (suc (suc (suc (suc (suc (suc zero))))))) f keys slots = AreKeySlots (f name.gNumberOfStaticSlots) keys
ConstraintHolds (suc (suc (suc (suc (suc (suc (suc (suc zero)))))))) f keys slots = AreFreeSlots (f name.gNumberOfStaticSlots) keys slots
ConstraintHolds (suc (suc (suc (suc (suc (suc (suc (suc (suc k))))))))) f keys slots = Unit {0}

-- all eight hold
pub record AllHold (f : Amounts) (keys : List ℕ) (slots : List SlotSpec) : Type 0 where
  pub whole_cycle : IsWholeCycle f
  pub acts_in_slot : ActsInSlot f
  pub corrects_after : CorrectsAfterSlots f
  pub leaves_microticks : LeavesMicroticks f
  pub passive_first : IsPassiveFirst f
  pub sync_nodes : HasSyncNodes keys
  pub own_slots : AreKeySlots (f name.gNumberOfStaticSlots) keys
  pub free_slots : AreFreeSlots (f name.gNumberOfStaticSlots) keys slots

-- the constraint of this number fails, and those of lesser numbers hold
pub record FirstFails (k : ℕ) (f : Amounts) (keys : List ℕ) (slots : List SlotSpec) : Type 0 where
  pub fails : ConstraintHolds k f keys slots → ⊥
  pub earlier : (j : ℕ) → j < k → ConstraintHolds j f keys slots
