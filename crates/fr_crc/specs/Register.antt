-- The division as a shift register makes it, one bit of the message after the other.
use Rattle.std.specs.Prelude.{Bool, false, List, [], ◌∷◌, ◌++◌}
use Rattle.fr_crc.specs.Bits.{differ, xor, times_bit}

-- the register after one more bit
abbrev pub register_stepped : List Bool → List Bool → Bool → List Bool
register_stepped generator [] bit = []
register_stepped generator (top ∷ rest) bit = xor (rest ++ false ∷ []) (times_bit (differ top bit) generator)

-- the register after a message
abbrev pub after : List Bool → List Bool → List Bool → List Bool
after generator register [] = register
after generator register (bit ∷ message) = after generator (register_stepped generator register bit) message
