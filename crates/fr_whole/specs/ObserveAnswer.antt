-- What a request for what a log tells reads, and writes.
use Rattle.std.specs.Prelude.{ℕ, List, [], ◌∷◌}
use Rattle.fr_cluster.specs.Values.{Values}
use Rattle.fr_log.specs.Files.{log_file}
use Rattle.fr_log.specs.Told.{log_says}
use Rattle.fr_log.specs.View.{LogView}
use Rattle.fr_params.specs.Files.{params_file}
use Rattle.fr_params.specs.Told.{params_says}
use Rattle.fr_program.specs.Command.{Command}
use Rattle.fr_text.specs.Files.{Files, IsNeverSaid, file, text}
use Rattle.fr_whole.specs.ObservedText.{IsObservedText}

-- what a log tells that is accepted against parameters
abbrev pub observe_files : Files
observe_files =
    file params_file params_says (λ (p : Values). file (log_file p) log_says (λ (l : LogView). text (IsObservedText p l) IsNeverSaid))

abbrev pub observe_command : List ℕ → List ℕ → Command
observe_command params log = record { names = params ∷ log ∷ []; files = observe_files }
