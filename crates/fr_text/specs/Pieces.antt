-- A line by its pieces.
use Rattle.std.specs.Prelude.{◌≡◌, ℕ, ◌≤◌, ◌+◌, ◌*◌, List, [], ◌∷◌, ◌++◌, codes, length}
use Rattle.std.specs.List.{flat_map}
use Rattle.std.specs.Fmt.{decimal, signed_decimal}
use Rattle.fr_text.specs.Numerals.{hexadecimal}
use Rattle.fr_text.specs.declared.piece.Piece.{Piece}
use Rattle.fr_text.specs.declared.piece.Piece.TheVariants.{Word, Natural, Signed, Hex, Bytes}

-- a piece as it is spelt
abbrev pub spelling : Piece → List ℕ
spelling (Word text) = text.now
spelling (Natural value) = decimal value
spelling (Signed value) = signed_decimal value
spelling (Hex value digits) = hexadecimal digits value
spelling (Bytes bytes) = flat_map (hexadecimal 2) bytes.now

-- a line of its own
abbrev pub line : List ℕ → List ℕ
line text = text ++ codes "\n"

-- a text and pieces after it
abbrev pub spelt_after : List ℕ → List Piece → List ℕ
spelt_after text [] = text
spelt_after text (piece ∷ pieces) = spelt_after (text ++ spelling piece) pieces

-- the line of some pieces
abbrev pub spelt : List Piece → List ℕ
spelt pieces = line (spelt_after [] pieces)

-- a text and fields after it, each after a comma
abbrev pub fields_after : List ℕ → List Piece → List ℕ
fields_after text [] = text
fields_after text (field ∷ fields) = fields_after (text ++ codes "," ++ spelling field) fields

-- how many bytes a piece has at most
abbrev pub room_of_piece : Piece → ℕ
room_of_piece (Word text) = length text.now
room_of_piece (Natural value) = 20
room_of_piece (Signed value) = 20
room_of_piece (Hex value digits) = digits
room_of_piece (Bytes bytes) = 2 * length bytes.now

-- how many bytes some pieces have at most, with a byte between each two
abbrev pub room_of_all : List Piece → ℕ
room_of_all [] = 0
room_of_all (piece ∷ pieces) = room_of_piece piece + 1 + room_of_all pieces

-- a piece is spelt as a text, in a room of so many bytes
pub record Spells (piece : Piece) (text : List ℕ) (room : ℕ) : Type 0 where
  pub spelt : spelling piece ≡ text
  pub short : room_of_piece piece ≤ room
