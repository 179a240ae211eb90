use Rattle.fr_cluster.specs.declared.names.ParamName.TheVariants as name
use Rattle.fr_cluster.proofs.Kept.{kept}
use Rattle.fr_cluster.proofs.params.Params.figure.Goals as goal

pub returns-in-gMacroPerCycle : goal.returns-in-gMacroPerCycle
returns-in-gMacroPerCycle c = kept c.self.inside c.args.self.now c.args.name name.gMacroPerCycle c.self.view_is c.self.invariant c.in-gMacroPerCycle.is

pub returns-in-pMicroPerCycle : goal.returns-in-pMicroPerCycle
returns-in-pMicroPerCycle c = kept c.self.inside c.args.self.now c.args.name name.pMicroPerCycle c.self.view_is c.self.invariant c.in-pMicroPerCycle.is

pub returns-in-gNumberOfStaticSlots : goal.returns-in-gNumberOfStaticSlots
returns-in-gNumberOfStaticSlots c = kept c.self.inside c.args.self.now c.args.name name.gNumberOfStaticSlots c.self.view_is c.self.invariant c.in-gNumberOfStaticSlots.is

pub returns-in-gdStaticSlot : goal.returns-in-gdStaticSlot
returns-in-gdStaticSlot c = kept c.self.inside c.args.self.now c.args.name name.gdStaticSlot c.self.view_is c.self.invariant c.in-gdStaticSlot.is

pub returns-in-gdActionPointOffset : goal.returns-in-gdActionPointOffset
returns-in-gdActionPointOffset c = kept c.self.inside c.args.self.now c.args.name name.gdActionPointOffset c.self.view_is c.self.invariant c.in-gdActionPointOffset.is

pub returns-in-gdNIT : goal.returns-in-gdNIT
returns-in-gdNIT c = kept c.self.inside c.args.self.now c.args.name name.gdNIT c.self.view_is c.self.invariant c.in-gdNIT.is

pub returns-in-gPayloadLengthStatic : goal.returns-in-gPayloadLengthStatic
returns-in-gPayloadLengthStatic c = kept c.self.inside c.args.self.now c.args.name name.gPayloadLengthStatic c.self.view_is c.self.invariant c.in-gPayloadLengthStatic.is

pub returns-in-gOffsetCorrectionStart : goal.returns-in-gOffsetCorrectionStart
returns-in-gOffsetCorrectionStart c = kept c.self.inside c.args.self.now c.args.name name.gOffsetCorrectionStart c.self.view_is c.self.invariant c.in-gOffsetCorrectionStart.is

pub returns-in-gMaxWithoutClockCorrectionPassive : goal.returns-in-gMaxWithoutClockCorrectionPassive
returns-in-gMaxWithoutClockCorrectionPassive c = kept c.self.inside c.args.self.now c.args.name name.gMaxWithoutClockCorrectionPassive c.self.view_is c.self.invariant c.in-gMaxWithoutClockCorrectionPassive.is

pub returns-in-gMaxWithoutClockCorrectionFatal : goal.returns-in-gMaxWithoutClockCorrectionFatal
returns-in-gMaxWithoutClockCorrectionFatal c = kept c.self.inside c.args.self.now c.args.name name.gMaxWithoutClockCorrectionFatal c.self.view_is c.self.invariant c.in-gMaxWithoutClockCorrectionFatal.is

pub returns-in-pAllowHaltDueToClock : goal.returns-in-pAllowHaltDueToClock
returns-in-pAllowHaltDueToClock c = kept c.self.inside c.args.self.now c.args.name name.pAllowHaltDueToClock c.self.view_is c.self.invariant c.in-pAllowHaltDueToClock.is

pub returns-in-pAllowPassiveToActive : goal.returns-in-pAllowPassiveToActive
returns-in-pAllowPassiveToActive c = kept c.self.inside c.args.self.now c.args.name name.pAllowPassiveToActive c.self.view_is c.self.invariant c.in-pAllowPassiveToActive.is

pub returns-in-pClusterDriftDamping : goal.returns-in-pClusterDriftDamping
returns-in-pClusterDriftDamping c = kept c.self.inside c.args.self.now c.args.name name.pClusterDriftDamping c.self.view_is c.self.invariant c.in-pClusterDriftDamping.is

pub returns-in-pOffsetCorrectionOut : goal.returns-in-pOffsetCorrectionOut
returns-in-pOffsetCorrectionOut c = kept c.self.inside c.args.self.now c.args.name name.pOffsetCorrectionOut c.self.view_is c.self.invariant c.in-pOffsetCorrectionOut.is

pub returns-in-pRateCorrectionOut : goal.returns-in-pRateCorrectionOut
returns-in-pRateCorrectionOut c = kept c.self.inside c.args.self.now c.args.name name.pRateCorrectionOut c.self.view_is c.self.invariant c.in-pRateCorrectionOut.is

pub returns-in-pDelayCompensationA : goal.returns-in-pDelayCompensationA
returns-in-pDelayCompensationA c = kept c.self.inside c.args.self.now c.args.name name.pDelayCompensationA c.self.view_is c.self.invariant c.in-pDelayCompensationA.is

pub returns-in-pDelayCompensationB : goal.returns-in-pDelayCompensationB
returns-in-pDelayCompensationB c = kept c.self.inside c.args.self.now c.args.name name.pDelayCompensationB c.self.view_is c.self.invariant c.in-pDelayCompensationB.is

pub returns-in-xRateBound : goal.returns-in-xRateBound
returns-in-xRateBound c = kept c.self.inside c.args.self.now c.args.name name.xRateBound c.self.view_is c.self.invariant c.in-xRateBound.is

pub returns-in-xChangeBound : goal.returns-in-xChangeBound
returns-in-xChangeBound c = kept c.self.inside c.args.self.now c.args.name name.xChangeBound c.self.view_is c.self.invariant c.in-xChangeBound.is

pub returns-in-xDelayError : goal.returns-in-xDelayError
returns-in-xDelayError c = kept c.self.inside c.args.self.now c.args.name name.xDelayError c.self.view_is c.self.invariant c.in-xDelayError.is
