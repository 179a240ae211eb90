-- What a request for an upgrade reads, and writes.
use Rattle.std.specs.Prelude.{◌≡◌, ℕ, List, [], ◌∷◌}
use Rattle.fr_cluster.specs.Values.{Values}
use Rattle.fr_params.specs.Files.{params_file}
use Rattle.fr_params.specs.Told.{params_says}
use Rattle.fr_program.specs.Command.{Command}
use Rattle.fr_text.specs.Files.{Files, IsNeverSaid, file, text}
use Rattle.fr_params.specs.Texts.{upgraded_text}
use Rattle.fr_params.specs.Upgrades.{IsUpgraded}

-- the text of parameters as a file of version 2: it is accepted too, stands for the same parameters, and upgrading it gives the same
-- text
pub record IsUpgrade (params : Values) (text : List ℕ) : Type 0 where
  pub shown : text ≡ upgraded_text params
  pub upgraded : IsUpgraded params text

-- that of the parameters in a file
abbrev pub upgrade_files : Files
upgrade_files = file params_file params_says (λ (p : Values). text (IsUpgrade p) IsNeverSaid)

abbrev pub upgrade_command : List ℕ → Command
upgrade_command name = record { names = name ∷ []; files = upgrade_files }
