-- What contracts see of the parameters of a cluster.
use Rattle.std.specs.Prelude.{ℕ, ℤ, List, nat_abs}
use Rattle.std.specs.Int.{int_max}
use Rattle.fr_cluster.specs.declared.names.ParamName.{ParamName}
use Rattle.fr_cluster.specs.declared.names.ParamName.TheVariants as name
use Rattle.fr_cluster.specs.declared.nodes.NodeSpec.{NodeSpec}
use Rattle.fr_cluster.specs.declared.nodes.SlotSpec.{SlotSpec}

-- the parameters: a number for each name of the second version's table, the nodes by id, the further slots by slot
pub record Values : Type 0 where
  pub macros : ℤ
  pub micros : ℤ
  pub static_slots : ℤ
  pub slot_macros : ℤ
  pub action_offset : ℤ
  pub idle_macros : ℤ
  pub words : ℤ
  pub correction : ℤ
  pub max_passive : ℤ
  pub max_fatal : ℤ
  pub halt_allowed : ℤ
  pub to_active : ℤ
  pub damping : ℤ
  pub offset_limit : ℤ
  pub rate_limit : ℤ
  pub compensation_a : ℤ
  pub compensation_b : ℤ
  pub rate_bound : ℤ
  pub change_bound : ℤ
  pub delay_error : ℤ
  pub nodes : List NodeSpec
  pub slots : List SlotSpec

-- the number of a name; that of the one compensation of both channels is the greater of theirs
abbrev pub figure : Values → ParamName → ℤ
figure p name.gMacroPerCycle = p.macros
figure p name.pMicroPerCycle = p.micros
figure p name.gNumberOfStaticSlots = p.static_slots
figure p name.gdStaticSlot = p.slot_macros
figure p name.gdActionPointOffset = p.action_offset
figure p name.gdNIT = p.idle_macros
figure p name.gPayloadLengthStatic = p.words
figure p name.gOffsetCorrectionStart = p.correction
figure p name.gMaxWithoutClockCorrectionPassive = p.max_passive
figure p name.gMaxWithoutClockCorrectionFatal = p.max_fatal
figure p name.pAllowHaltDueToClock = p.halt_allowed
figure p name.pAllowPassiveToActive = p.to_active
figure p name.pClusterDriftDamping = p.damping
figure p name.pOffsetCorrectionOut = p.offset_limit
figure p name.pRateCorrectionOut = p.rate_limit
figure p name.pDelayCompensation = int_max p.compensation_a p.compensation_b
figure p name.pDelayCompensationA = p.compensation_a
figure p name.pDelayCompensationB = p.compensation_b
figure p name.xRateBound = p.rate_bound
figure p name.xChangeBound = p.change_bound
figure p name.xDelayError = p.delay_error

-- the number of a name as a natural: in its range it is never negative
abbrev pub amount : Values → ParamName → ℕ
amount p n = nat_abs (figure p n)
