-- The table of parameters: how a file spells each, its place, and the versions of a file that have it.
use Rattle.std.specs.Prelude.{ℕ, List, Option, codes, find}
use Rattle.std.specs.Str.{bytes_eq}
use Rattle.fr_cluster.specs.declared.names.ParamName.{ParamName}
use Rattle.fr_cluster.specs.declared.names.ParamName.TheVariants as name
use Rattle.fr_params.specs.declared.names.Version.{Version}
use Rattle.fr_params.specs.declared.names.Version.TheVariants as version
use Rattle.fr_params.specs.declared.names.TheConstants.{NAMES_OF_ONE, NAMES_OF_TWO}

-- a name as a file spells it
abbrev pub word_of : ParamName → List ℕ
word_of name.gMacroPerCycle = codes "gMacroPerCycle"
word_of name.pMicroPerCycle = codes "pMicroPerCycle"
word_of name.gNumberOfStaticSlots = codes "gNumberOfStaticSlots"
word_of name.gdStaticSlot = codes "gdStaticSlot"
word_of name.gdActionPointOffset = codes "gdActionPointOffset"
word_of name.gdNIT = codes "gdNIT"
word_of name.gPayloadLengthStatic = codes "gPayloadLengthStatic"
word_of name.gOffsetCorrectionStart = codes "gOffsetCorrectionStart"
word_of name.gMaxWithoutClockCorrectionPassive = codes "gMaxWithoutClockCorrectionPassive"
word_of name.gMaxWithoutClockCorrectionFatal = codes "gMaxWithoutClockCorrectionFatal"
word_of name.pAllowHaltDueToClock = codes "pAllowHaltDueToClock"
word_of name.pAllowPassiveToActive = codes "pAllowPassiveToActive"
word_of name.pClusterDriftDamping = codes "pClusterDriftDamping"
word_of name.pOffsetCorrectionOut = codes "pOffsetCorrectionOut"
word_of name.pRateCorrectionOut = codes "pRateCorrectionOut"
word_of name.pDelayCompensation = codes "pDelayCompensation"
word_of name.pDelayCompensationA = codes "pDelayCompensationA"
word_of name.pDelayCompensationB = codes "pDelayCompensationB"
word_of name.xRateBound = codes "xRateBound"
word_of name.xChangeBound = codes "xChangeBound"
word_of name.xDelayError = codes "xDelayError"

-- the names of a version's table, in its order: the first version has one delay compensation for both channels, the
-- second has one for each in its place
abbrev pub names_of : Version → List ParamName
names_of version.One = NAMES_OF_ONE
names_of version.Two = NAMES_OF_TWO

-- the name of a version that a text spells, if it spells one
abbrev pub name_of : Version → List ℕ → Option ParamName
name_of v text = find (λ n. bytes_eq text (word_of n)) (names_of v)

-- the place of a name among all names of both versions, from 0
abbrev pub place : ParamName → ℕ
place name.gMacroPerCycle = 0
place name.pMicroPerCycle = 1
place name.gNumberOfStaticSlots = 2
place name.gdStaticSlot = 3
place name.gdActionPointOffset = 4
place name.gdNIT = 5
place name.gPayloadLengthStatic = 6
place name.gOffsetCorrectionStart = 7
place name.gMaxWithoutClockCorrectionPassive = 8
place name.gMaxWithoutClockCorrectionFatal = 9
place name.pAllowHaltDueToClock = 10
place name.pAllowPassiveToActive = 11
place name.pClusterDriftDamping = 12
place name.pOffsetCorrectionOut = 13
place name.pRateCorrectionOut = 14
place name.pDelayCompensation = 15
place name.pDelayCompensationA = 16
place name.pDelayCompensationB = 17
place name.xRateBound = 18
place name.xChangeBound = 19
place name.xDelayError = 20
