-- What a request for the vectors of a recording reads, and writes.
use Rattle.std.specs.Prelude.{◌≡◌, ℕ, List, [], ◌∷◌}
use Rattle.fr_nm.specs.Files.{vectors_file}
use Rattle.fr_nm.specs.Text.{nm_text}
use Rattle.fr_nm.specs.Told.{vectors_says}
use Rattle.fr_nm.specs.View.{VectorsView}
use Rattle.fr_program.specs.Command.{Command}
use Rattle.fr_text.specs.Files.{Files, IsNeverSaid, file, text}

-- the lines of the vectors in a file
abbrev pub nm_files : ℕ → Files
nm_files width = file (vectors_file width) vectors_says (λ (vectors : VectorsView). text (λ (written : List ℕ). written ≡ nm_text vectors) IsNeverSaid)

abbrev pub nm_command : ℕ → List ℕ → Command
nm_command width name = record { names = name ∷ []; files = nm_files width }
