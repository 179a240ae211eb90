-- A text by its lines.
use Rattle.std.specs.Prelude.{ℕ, List, [], ◌∷◌, ◌++◌, Option, Some, None}

-- a line, where it is there
abbrev pub shown : Option (List ℕ) → List ℕ
shown None = []
shown (Some line) = line

-- a text and lines after it
abbrev pub joined_after : List ℕ → List (Option (List ℕ)) → List ℕ
joined_after text [] = text
joined_after text (line ∷ lines) = joined_after (text ++ shown line) lines

-- the text of some lines
abbrev pub joined_lines : List (Option (List ℕ)) → List ℕ
joined_lines lines = joined_after [] lines
