-- How far apart two inverted bits are always seen, computed: the register with one bit comes back after 31 and after
-- 4,094 zeros, and not before.
use Rattle.std.proofs.Common.{◌≡◌, ◌<◌, Bool, true, false, List, [], ◌∷◌, length, refl, ap, sym, ◌∙◌, lit<}
use Rattle.fr_crc.specs.Bits.{bits, zeros}
use Rattle.fr_crc.specs.Crc.{header_generator, frame_generator}
use Rattle.fr_crc.proofs.Remainders.{length-bits}
use Rattle.fr_crc.specs.Register.{register_stepped, after}
use Rattle.fr_damage.specs.Damage.{has_odd_ones, EndsInOne}
use Rattle.fr_damage.proofs.Patterns.{stays_away}
use Rattle.fr_damage.proofs.Sees.{sees}

pub header_ends : EndsInOne header_generator
unfolding bits
header_ends = refl

pub frame_ends : EndsInOne frame_generator
unfolding bits
frame_ends = refl

pub header_odd : has_odd_ones header_generator ≡ true
unfolding bits
header_odd = refl

pub frame_odd : has_odd_ones frame_generator ≡ true
unfolding bits
frame_odd = refl

pub header_some : 0 < length header_generator
header_some = rw (length-bits 11 0x385) (lit< tt)

pub frame_some : 0 < length frame_generator
frame_some = rw (length-bits 24 0x5D6DCB) (lit< tt)

-- the generators, bit by bit
abbrev header_bits : List Bool
header_bits = false ∷ true ∷ true ∷ true ∷ false ∷ false ∷ false ∷ false ∷ true ∷ false ∷ true ∷ []

abbrev frame_bits : List Bool
frame_bits = false ∷ true ∷ false ∷ true ∷ true ∷ true ∷ false ∷ true ∷ false ∷ true ∷ true ∷ false ∷ true ∷ true ∷ false ∷ true ∷ true ∷ true ∷ false ∷ false ∷ true ∷ false ∷ true ∷ true ∷ []

header_is : header_generator ≡ header_bits
unfolding bits
header_is = refl

frame_is : frame_generator ≡ frame_bits
unfolding bits
frame_is = refl

header_away : stays_away 30 header_bits (register_stepped header_bits header_bits false) ≡ true
header_away = refl

frame_away : stays_away 4093 frame_bits (register_stepped frame_bits frame_bits false) ≡ true
frame_away = refl

pub header_stays_away : stays_away 30 header_generator (register_stepped header_generator header_generator false) ≡ true
header_stays_away = ap (λ (g : List Bool). stays_away 30 g (register_stepped g g false)) header_is ∙ header_away

pub frame_stays_away : stays_away 4093 frame_generator (register_stepped frame_generator frame_generator false) ≡ true
frame_stays_away = ap (λ (g : List Bool). stays_away 4093 g (register_stepped g g false)) frame_is ∙ frame_away

header_returns : after header_bits header_bits (zeros 31) ≡ header_bits
header_returns = refl

frame_returns : after frame_bits frame_bits (zeros 4094) ≡ frame_bits
frame_returns = refl

pub header_comes_back : after header_generator header_generator (zeros 31) ≡ header_generator
header_comes_back = ap (λ (g : List Bool). after g g (zeros 31)) header_is ∙ header_returns ∙ sym header_is

pub frame_comes_back : after frame_generator frame_generator (zeros 4094) ≡ frame_generator
frame_comes_back = ap (λ (g : List Bool). after g g (zeros 4094)) frame_is ∙ frame_returns ∙ sym frame_is

header_sees_bits : sees 30 3 header_bits header_bits ≡ true
header_sees_bits = refl

-- after one bit, each list of 30 bits of which at most three are 1 is seen
pub header_sees : sees 30 3 header_generator header_generator ≡ true
header_sees = ap (λ (g : List Bool). sees 30 3 g g) header_is ∙ header_sees_bits
