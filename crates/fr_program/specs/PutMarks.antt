-- Puts by their pieces, one after the other, and a mark of each.
use Rattle.std.specs.Prelude.{ℕ, ◌+◌, List, [], ◌∷◌, take, drop}
use Rattle.fr_base.specs.Device.{Put}
use Rattle.fr_program.specs.declared.put_log.PutMark.{PutMark}

-- the puts of some pieces that stand one after the other
abbrev pub puts_by : List PutMark → List ℕ → List Put
puts_by [] bytes = []
puts_by (mark ∷ marks) bytes = record { piece = take mark.length bytes; is_whole = mark.is_whole } ∷ puts_by marks (drop mark.length bytes)

-- how many bytes they have
abbrev pub lengths_of : List PutMark → ℕ
lengths_of [] = 0
lengths_of (mark ∷ marks) = mark.length + lengths_of marks
