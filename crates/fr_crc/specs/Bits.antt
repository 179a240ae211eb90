-- Bits in the order in which they are sent, the most significant first, and their arithmetic without carry.
use Rattle.std.specs.Prelude.{ℕ, zero, suc, ◌+◌, ◌*◌, ◌^◌, Bool, true, false, List, [], ◌∷◌, ◌++◌, length, ◌==◌}
use Rattle.std.specs.Int.{bit_at}
use Rattle.std.specs.List.{flat_map}

-- the sum of two bits without carry
abbrev pub differ : Bool → Bool → Bool
differ false b = b
differ true false = true
differ true true = false

-- the sum of two lists of bits without carry, as long as the shorter one
abbrev pub xor : List Bool → List Bool → List Bool
xor [] ys = []
xor (x ∷ xs) [] = []
xor (x ∷ xs) (y ∷ ys) = differ x y ∷ xor xs ys

-- so many zeros
abbrev pub zeros : ℕ → List Bool
zeros zero = []
zeros (suc n) = false ∷ zeros n

-- a list of bits times one bit
abbrev pub times_bit : Bool → List Bool → List Bool
times_bit false g = zeros (length g)
times_bit true g = g

-- the product without carry: of n bits and m + 1 bits it has n + m
abbrev pub mul : List Bool → List Bool → List Bool
mul [] [] = []
mul [] (first ∷ g) = zeros (length g)
mul (b ∷ q) g = xor (times_bit b g ++ zeros (length q)) (false ∷ mul q g)

-- the lowest so many bits of a number
unfoldable pub bits : ℕ → ℕ → List Bool
bits zero n = []
bits (suc k) n = (bit_at n k == 1) ∷ bits k n

-- a bit as a number
abbrev pub one_of : Bool → ℕ
one_of false = 0
one_of true = 1

-- the number that bits write, the most significant first
abbrev pub number_of_bits : List Bool → ℕ
number_of_bits [] = 0
number_of_bits (b ∷ bs) = one_of b * 2 ^ length bs + number_of_bits bs

-- the bits of bytes
abbrev pub message_of : List ℕ → List Bool
message_of bytes = flat_map (bits 8) bytes
