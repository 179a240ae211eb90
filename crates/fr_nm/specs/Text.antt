-- The lines of the vectors of a recording: a line for each cycle, and how many records count.
use Rattle.std.specs.Prelude.{ℕ, List, [], ◌∷◌, ◌++◌, take, codes}
use Rattle.std.specs.List.{flat_map}
use Rattle.std.specs.Fmt.{decimal}
use Rattle.fr_text.specs.Numerals.{hexadecimal}
use Rattle.fr_text.specs.Pieces.{line}
use Rattle.fr_nm.specs.View.{VectorsView}
use Rattle.fr_nm.specs.declared.vector.Folded.{Folded}

-- the line of a cycle: its vector, two digits a byte, and how many frames it is of
abbrev pub row_line : ℕ → ℕ → Folded → List ℕ
row_line width cycle row =
    line (codes "cycle " ++ decimal cycle ++ codes " vector " ++ flat_map (hexadecimal 2) (take width row.vector) ++ codes " frames " ++ decimal row.frames)

abbrev pub rows_text : ℕ → List (ℕ × Folded) → List ℕ
rows_text width [] = []
rows_text width (row ∷ rows) = row_line width row.0 row.1 ++ rows_text width rows

-- how many records count and how many do not
abbrev pub total_line : ℕ → ℕ → List ℕ
total_line frames ignored = line (codes "frames " ++ decimal frames ++ codes " ignored " ++ decimal ignored)

abbrev pub nm_text : VectorsView → List ℕ
nm_text v = rows_text v.width v.rows ++ total_line v.frames v.ignored
