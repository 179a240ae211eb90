-- The parameters of an accepted file are sane.
use Rattle.std.proofs.Common.{◌≡◌, refl, subst}
use Rattle.fr_cluster.specs.Numbers.{number_in}
use Rattle.fr_cluster.specs.Ranges.{InRange}
use Rattle.fr_cluster.specs.Values.{Values, figure}
use Rattle.fr_cluster.specs.declared.names.ParamName.{ParamName}
use Rattle.fr_cluster.specs.declared.names.ParamName.TheVariants as name
use Rattle.fr_params.specs.Assembling.{AssemblesFiles, numbers_of}
use Rattle.fr_params.specs.Upgrades.{AcceptedAreSane}

number-back : (p : Values) (n : ParamName) → number_in (numbers_of p) n ≡ figure p n
number-back p name.gMacroPerCycle = refl
number-back p name.pMicroPerCycle = refl
number-back p name.gNumberOfStaticSlots = refl
number-back p name.gdStaticSlot = refl
number-back p name.gdActionPointOffset = refl
number-back p name.gdNIT = refl
number-back p name.gPayloadLengthStatic = refl
number-back p name.gOffsetCorrectionStart = refl
number-back p name.gMaxWithoutClockCorrectionPassive = refl
number-back p name.gMaxWithoutClockCorrectionFatal = refl
number-back p name.pAllowHaltDueToClock = refl
number-back p name.pAllowPassiveToActive = refl
number-back p name.pClusterDriftDamping = refl
number-back p name.pOffsetCorrectionOut = refl
number-back p name.pRateCorrectionOut = refl
number-back p name.pDelayCompensation = refl
number-back p name.pDelayCompensationA = refl
number-back p name.pDelayCompensationB = refl
number-back p name.xRateBound = refl
number-back p name.xChangeBound = refl
number-back p name.xDelayError = refl

pub accepted-sane : AssemblesFiles → AcceptedAreSane
accepted-sane made p bytes file =
    let own = made p bytes file in
    record {
      ranges = λ n. subst (InRange n) (number-back p n) (own.accepted.ranged n);
      constraints = file.constraints;
      lists = own.accepted.lists;
    }
