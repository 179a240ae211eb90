-- What a request for bounds reads, and writes.
use Rattle.std.specs.Prelude.{◌≡◌, ℕ, List, [], ◌∷◌}
use Rattle.fr_cluster.specs.Values.{Values}
use Rattle.fr_params.specs.Files.{params_file}
use Rattle.fr_params.specs.Told.{params_says}
use Rattle.fr_program.specs.Command.{Command}
use Rattle.fr_text.specs.Files.{Files, IsNeverSaid, file, text}
use Rattle.fr_answer.specs.BoundText.{bound_text, with_join_text}
use Rattle.fr_answer.specs.SharpJoinText.{sharp_with_join_text}
use Rattle.fr_answer.specs.SharpText.{sharp_text}

-- the lines of the parameters in a file
abbrev pub bound_files : Files
bound_files = file params_file params_says (λ (p : Values). text (λ (written : List ℕ). written ≡ bound_text p) IsNeverSaid)

abbrev pub bound_command : List ℕ → Command
bound_command name = record { names = name ∷ []; files = bound_files }

-- these and those of a cluster that nodes join
abbrev pub join_files : Files
join_files = file params_file params_says (λ (p : Values). text (λ (written : List ℕ). written ≡ with_join_text p) IsNeverSaid)

abbrev pub join_command : List ℕ → Command
join_command name = record { names = name ∷ []; files = join_files }

-- the sharper bounds and checks, where delays flutter by no more than so many ticks
abbrev pub sharp_files : ℕ → Files
sharp_files flutter = file params_file params_says (λ (p : Values). text (λ (written : List ℕ). written ≡ sharp_text p flutter) IsNeverSaid)

abbrev pub sharp_command : List ℕ → ℕ → Command
sharp_command name flutter = record { names = name ∷ []; files = sharp_files flutter }

-- these and those of a cluster that nodes join
abbrev pub sharp_join_files : ℕ → Files
sharp_join_files flutter =
    file params_file params_says (λ (p : Values). text (λ (written : List ℕ). written ≡ sharp_with_join_text p flutter) IsNeverSaid)

abbrev pub sharp_join_command : List ℕ → ℕ → Command
sharp_join_command name flutter = record { names = name ∷ []; files = sharp_join_files flutter }
