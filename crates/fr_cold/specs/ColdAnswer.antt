-- What a request for a startup reads, and writes.
use Rattle.std.specs.Prelude.{ℕ, List, [], ◌∷◌}
use Rattle.fr_cluster.specs.Values.{Values}
use Rattle.fr_cold.specs.Files.{power_file}
use Rattle.fr_cold.specs.Told.{power_says}
use Rattle.fr_cold.specs.View.{PowerView}
use Rattle.fr_params.specs.Files.{params_file}
use Rattle.fr_params.specs.Told.{params_says}
use Rattle.fr_program.specs.Command.{Command}
use Rattle.fr_text.specs.Files.{Files, IsNeverSaid, file, text}
use Rattle.fr_cold.specs.ColdText.{IsColdText}

-- the text of the startup of parameters, and of a power file that is accepted against them
abbrev pub cold_files : Files
cold_files = file params_file params_says (λ (p : Values). file (power_file p) power_says (λ (v : PowerView). text (IsColdText p v) IsNeverSaid))

abbrev pub cold_command : List ℕ → List ℕ → Command
cold_command params power = record { names = params ∷ power ∷ []; files = cold_files }
