-- The words of a text.
use Rattle.std.specs.Prelude.{ℕ, ◌-◌, ◌==◌, List, length, take, slice_index, if◌then◌else◌}
use Rattle.std.specs.List.{slice_split}

-- the lines of a text
abbrev pub lines_in : List ℕ → List (List ℕ)
lines_in text = slice_split (λ b. b == 10) text

-- a text without the line feed at its end, where it has one
abbrev pub unended : List ℕ → List ℕ
unended text = if slice_index text (length text - 1) == 10 then take (length text - 1) text else text

-- the words of which a caller gave the bytes: the lines but for a line feed at the end
abbrev pub words_in : List ℕ → List (List ℕ)
words_in bytes = lines_in (unended bytes)
