-- Damage to lists of bits, and which generators see it.
use Rattle.std.specs.Prelude.{◌≡◌, ◌≢◌, ◌⊎◌, ℕ, ◌+◌, ◌<◌, ◌≤◌, zero, suc, Bool, true, false, not, List, [], ◌∷◌, ◌++◌, length, take, drop}
use Rattle.fr_base.specs.declared.channel.Channel.{Channel}
use Rattle.fr_crc.specs.Bits.{differ, one_of}
use Rattle.fr_frame.specs.declared.fault.FrameFault.TheVariants.{HeaderCrc, FrameCrc}
use Rattle.fr_frame.specs.Fault.{IsFirstFault}

-- bits with the one at a place inverted, counted from 0; they are as they were where they end before it
abbrev pub inverted : ℕ → List Bool → List Bool
inverted zero [] = []
inverted zero (b ∷ bits) = not b ∷ bits
inverted (suc place) [] = []
inverted (suc place) (b ∷ bits) = b ∷ inverted place bits

-- whether an odd number of bits is 1
abbrev pub has_odd_ones : List Bool → Bool
has_odd_ones [] = false
has_odd_ones (b ∷ bits) = differ b (has_odd_ones bits)

-- how many bits are 1
abbrev pub ones : List Bool → ℕ
ones [] = 0
ones (b ∷ bits) = one_of b + ones bits

-- the last bit after a first one
abbrev pub last_after : Bool → List Bool → Bool
last_after b [] = b
last_after b (c ∷ bits) = last_after c bits

-- the last bit of a generator is 1: its term x^0 is there
abbrev pub EndsInOne : List Bool → Type 0
EndsInOne generator = last_after false generator ≡ true

-- two lists of one length that differ, and nowhere but in a window of so many bits
pub record DifferWithin (width : ℕ) (first second : List Bool) : Type 0 where
  pub before : List Bool
  pub middle : List Bool
  pub other : List Bool
  pub behind : List Bool
  pub first_is : first ≡ before ++ middle ++ behind
  pub second_is : second ≡ before ++ other ++ behind
  pub long : length middle ≡ length other
  pub narrow : length middle ≤ width
  pub differs : middle ≢ other

-- where the header's covered bits and its CRC stand among the bits of a frame: 31 bits from bit 3 on
abbrev pub header_code : List Bool → List Bool
header_code bits = take 31 (drop 3 bits)

-- a bit of a frame, counted from 0, that is one of these 31
abbrev pub IsInHeaderCode : ℕ → Type 0
IsInHeaderCode place = (3 ≤ place) × (place ≤ 33)

-- one that is none of them
abbrev pub IsOutsideHeaderCode : ℕ → Type 0
IsOutsideHeaderCode place = (place < 3) ⊎ (33 < place)

-- the first fault of the bytes is that the header keeps another CRC than that of its fields
abbrev pub FailsHeaderCrc : Channel → List ℕ → Type 0
FailsHeaderCrc channel bytes = (kept : ℕ) × ((computed : ℕ) × IsFirstFault channel bytes (HeaderCrc kept computed))

-- the first fault of the bytes is that the last three keep another CRC than that of all before them
abbrev pub FailsFrameCrc : Channel → List ℕ → Type 0
FailsFrameCrc channel bytes = (kept : ℕ) × ((computed : ℕ) × IsFirstFault channel bytes (FrameCrc kept computed))
