-- The files of the cluster of a seed, as texts.
use Rattle.std.specs.Prelude.{ℕ, List}
use Rattle.fr_text.specs.Texts.{text_of_records}
use Rattle.fr_params.specs.Files.{IsParamsFile}
use Rattle.fr_params.specs.Texts.{upgraded_text}
use Rattle.fr_drift.specs.Files.{IsDriftFile}
use Rattle.fr_script.specs.Files.{IsScriptFile}
use Rattle.fr_generator.specs.Cluster.{made_values}
use Rattle.fr_generator.specs.Generated.{IsGenerated, IsMadeCount, drift_of_seed, script_of_seed}
use Rattle.fr_generator.specs.declared.generated.Generated.{Generated}

-- the text of its parameters, the same for all seeds, and those of the records of its drift and of its script
abbrev pub made_params_text : List ℕ
made_params_text = upgraded_text made_values

abbrev pub made_drift_text : ℕ → ℕ → List ℕ
made_drift_text seed doubles = text_of_records (drift_of_seed seed doubles).records

abbrev pub made_script_text : ℕ → ℕ → List ℕ
made_script_text seed doubles = text_of_records (script_of_seed seed doubles).records

-- bytes are accepted as the parameter file, the drift file and the script of a cluster, and stand for it
pub record AreFilesOf (made : Generated) (params drift script : List ℕ) : Type 0 where
  pub of_params : IsParamsFile made.params params
  pub of_drift : IsDriftFile made.params made.drift drift
  pub of_script : IsScriptFile made.params made.script script

-- the texts of a seed are so of its cluster
abbrev pub MadeFilesAreAccepted : Type 0
MadeFilesAreAccepted =
    (seed doubles : ℕ) (made : Generated) → IsMadeCount doubles → IsGenerated seed doubles made
    → AreFilesOf made made_params_text (made_drift_text seed doubles) (made_script_text seed doubles)
