-- The ranges of the numbers of a cluster's parameters, nodes and further slots.
use Rattle.std.specs.Prelude.{ℕ, ℤ, ◌≤◌, ◌≤ℤ◌, pos, Bool, ◌==◌, ◌&&◌, ◌||◌, nat_lt, is_none, IfSome}
use Rattle.fr_cluster.specs.declared.names.ParamName.{ParamName}
use Rattle.fr_cluster.specs.declared.names.ParamName.TheVariants as name
use Rattle.fr_cluster.specs.declared.nodes.NodeSpec.{NodeSpec}
use Rattle.fr_cluster.specs.declared.nodes.SlotSpec.{SlotSpec}

-- the least value that a parameter may have
abbrev pub least : ParamName → ℕ
least name.gMacroPerCycle = 10
least name.pMicroPerCycle = 10
least name.gNumberOfStaticSlots = 1
least name.gdStaticSlot = 2
least name.gdActionPointOffset = 1
least name.gdNIT = 1
least name.gPayloadLengthStatic = 0
least name.gOffsetCorrectionStart = 1
least name.gMaxWithoutClockCorrectionPassive = 1
least name.gMaxWithoutClockCorrectionFatal = 1
least name.pAllowHaltDueToClock = 0
least name.pAllowPassiveToActive = 0
least name.pClusterDriftDamping = 0
least name.pOffsetCorrectionOut = 1
least name.pRateCorrectionOut = 1
least name.pDelayCompensation = 0
least name.pDelayCompensationA = 0
least name.pDelayCompensationB = 0
least name.xRateBound = 0
least name.xChangeBound = 0
least name.xDelayError = 0

-- the greatest value that it may have
abbrev pub greatest : ParamName → ℕ
greatest name.gMacroPerCycle = 16_000
greatest name.pMicroPerCycle = 640_000
greatest name.gNumberOfStaticSlots = 1023
greatest name.gdStaticSlot = 1000
greatest name.gdActionPointOffset = 63
greatest name.gdNIT = 15_999
greatest name.gPayloadLengthStatic = 127
greatest name.gOffsetCorrectionStart = 15_999
greatest name.gMaxWithoutClockCorrectionPassive = 15
greatest name.gMaxWithoutClockCorrectionFatal = 15
greatest name.pAllowHaltDueToClock = 1
greatest name.pAllowPassiveToActive = 31
greatest name.pClusterDriftDamping = 100
greatest name.pOffsetCorrectionOut = 16_000
greatest name.pRateCorrectionOut = 2000
greatest name.pDelayCompensation = 200
greatest name.pDelayCompensationA = 200
greatest name.pDelayCompensationB = 200
greatest name.xRateBound = 1500
greatest name.xChangeBound = 1500
greatest name.xDelayError = 10_000_000

-- a value lies in the range of its parameter
abbrev pub InRange : ParamName → ℤ → Type 0
InRange n v = (pos (least n) ≤ℤ v) × (v ≤ℤ pos (greatest n))

-- a node's number is 1 to 64, its key slot, if it has one, 1 to 1023
pub record IsProperNode (node : NodeSpec) : Type 0 where
  pub from : 1 ≤ node.id
  pub to : node.id ≤ 64
  pub key : IfSome node.key (λ slot. (1 ≤ slot) × (slot ≤ 1023))

-- a slot is 1 to 1023, its node's number 1 to 64, its base 0 to 63, its repetition 1 to 64
pub record IsProperSlot (slot : SlotSpec) : Type 0 where
  pub from : 1 ≤ slot.slot
  pub to : slot.slot ≤ 1023
  pub node_from : 1 ≤ slot.node
  pub node_to : slot.node ≤ 64
  pub base_to : slot.base ≤ 63
  pub repetition_from : 1 ≤ slot.repetition
  pub repetition_to : slot.repetition ≤ 64

-- the repetitions of a slot are the powers of two up to 64
abbrev pub is_repetition : ℕ → Bool
is_repetition n = (n == 1) || (n == 2) || (n == 4) || (n == 8) || (n == 16) || (n == 32) || (n == 64)

-- whether a slot's base and repetition go together
abbrev pub has_turn : SlotSpec → Bool
has_turn slot = is_repetition slot.repetition && nat_lt slot.base slot.repetition

-- whether a coldstart node has no key slot to send its startup frames in
abbrev pub is_keyless_starter : NodeSpec → Bool
is_keyless_starter node = node.coldstart && is_none node.key
