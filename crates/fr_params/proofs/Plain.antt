-- The records of an upgraded file are written without quotes.
use Rattle.std.proofs.Common.{◌≡◌, ◌≤◌, ℕ, Bool, true, false, Option, Some, None, refl, arith}
use Rattle.std.specs.Prelude.{IfSome}
use Rattle.fr_params.specs.Names.{word_of}
use Rattle.fr_cluster.specs.Ranges.{InRange, IsProperNode, IsProperSlot}
use Rattle.fr_cluster.specs.Values.{Values, amount, figure}
use Rattle.fr_cluster.specs.declared.names.ParamName.{ParamName}
use Rattle.fr_cluster.specs.declared.names.ParamName.TheVariants as name
use Rattle.fr_cluster.specs.declared.nodes.NodeSpec.{NodeSpec}
use Rattle.fr_cluster.specs.declared.nodes.SlotSpec.{SlotSpec}
use Rattle.fr_text.proofs.Plain.{decimal-plain}
use Rattle.fr_text.specs.Texts.{is_plain_field, is_plain_record}
use Rattle.fr_params.proofs.Says.{amount-below}
use Rattle.fr_params.specs.Texts.{channels_text, coldstart_text, key_text, node_record, param_record, slot_record, version_record}

pub version-plain : is_plain_record version_record ≡ true
version-plain = refl

word-plain : (n : ParamName) → is_plain_field (word_of n) ≡ true
word-plain name.gMacroPerCycle = refl
word-plain name.pMicroPerCycle = refl
word-plain name.gNumberOfStaticSlots = refl
word-plain name.gdStaticSlot = refl
word-plain name.gdActionPointOffset = refl
word-plain name.gdNIT = refl
word-plain name.gPayloadLengthStatic = refl
word-plain name.gOffsetCorrectionStart = refl
word-plain name.gMaxWithoutClockCorrectionPassive = refl
word-plain name.gMaxWithoutClockCorrectionFatal = refl
word-plain name.pAllowHaltDueToClock = refl
word-plain name.pAllowPassiveToActive = refl
word-plain name.pClusterDriftDamping = refl
word-plain name.pOffsetCorrectionOut = refl
word-plain name.pRateCorrectionOut = refl
word-plain name.pDelayCompensation = refl
word-plain name.pDelayCompensationA = refl
word-plain name.pDelayCompensationB = refl
word-plain name.xRateBound = refl
word-plain name.xChangeBound = refl
word-plain name.xDelayError = refl

pub param-plain : (p : Values) (n : ParamName) → InRange n (figure p n) → is_plain_record (param_record p n) ≡ true
param-plain p n h = let small = amount-below p n h in rw (word-plain n, decimal-plain (amount p n) (omega (arith, small))) refl

key-plain : (key : Option ℕ) → IfSome key (λ slot. (1 ≤ slot) × (slot ≤ 1023)) → is_plain_field (key_text key) ≡ true
key-plain None h = refl
key-plain (Some slot) h = decimal-plain slot (omega (arith, h.1))

channels-plain : (a b : Bool) → is_plain_field (channels_text a b) ≡ true
channels-plain true true = refl
channels-plain true false = refl
channels-plain false true = refl
channels-plain false false = refl

coldstart-plain : (c : Bool) → is_plain_field (coldstart_text c) ≡ true
coldstart-plain true = refl
coldstart-plain false = refl

pub node-plain : (node : NodeSpec) → IsProperNode node → is_plain_record (node_record node) ≡ true
node-plain node h =
    rw (
      decimal-plain node.id (omega (arith, h.to)),
      key-plain node.key h.key,
      channels-plain node.on_a node.on_b,
      coldstart-plain node.coldstart,
    )
    refl

pub slot-plain : (slot : SlotSpec) → IsProperSlot slot → is_plain_record (slot_record slot) ≡ true
slot-plain slot h =
    rw (
      decimal-plain slot.slot (omega (arith, h.to)),
      decimal-plain slot.node (omega (arith, h.node_to)),
      decimal-plain slot.base (omega (arith, h.base_to)),
      decimal-plain slot.repetition (omega (arith, h.repetition_to)),
    )
    refl
