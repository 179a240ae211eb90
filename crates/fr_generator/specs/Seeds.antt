-- What a seed decides.
use Rattle.std.specs.Prelude.{◌≡◌, ℕ}
use Rattle.fr_text.specs.Refusal.{NoneRefused}
use Rattle.fr_drift.specs.Reasons.{drift_reason_after}
use Rattle.fr_script.specs.Reasons.{script_reason_after}
use Rattle.fr_generator.specs.Cluster.{made_values}
use Rattle.fr_generator.specs.Generated.{IsGenerated, IsMadeCount, drift_of_seed, script_of_seed}
use Rattle.fr_generator.specs.declared.generated.Generated.{Generated}

-- the records of the drift of a seed are accepted against the parameters, and so are those of its script
abbrev pub DriftIsAccepted : Type 0
DriftIsAccepted = (seed doubles : ℕ) → IsMadeCount doubles → NoneRefused (drift_reason_after made_values) (drift_of_seed seed doubles).records

abbrev pub ScriptIsAccepted : Type 0
ScriptIsAccepted = (seed doubles : ℕ) → IsMadeCount doubles → NoneRefused (script_reason_after made_values) (script_of_seed seed doubles).records

-- clusters of one seed over as many double cycles are the same
abbrev pub OneCluster : Type 0
OneCluster = (seed doubles : ℕ) (made again : Generated) → IsGenerated seed doubles made → IsGenerated seed doubles again → made ≡ again
