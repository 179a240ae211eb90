-- The cluster of a seed: its parameters, its drift and its script, as the files that have these records stand for them.
use Rattle.std.specs.Prelude.{◌≡◌, ◌≤◌, ℕ, ◌*◌, [], ◌∷◌}
use Rattle.fr_cluster.specs.Values.{Values}
use Rattle.fr_drift.specs.Files.{DriftFits, DriftStandsFor}
use Rattle.fr_drift.specs.View.{DriftView}
use Rattle.fr_drift.specs.Written.{doubles_record}
use Rattle.fr_script.specs.Files.{ScriptFits, ScriptStandsFor}
use Rattle.fr_script.specs.View.{ScriptView}
use Rattle.fr_script.specs.Written.{arbitrary_record}
use Rattle.fr_generator.specs.Cluster.{made_values}
use Rattle.fr_generator.specs.Drawn.{Drawn, drawn_from, first_words, in_turn}
use Rattle.fr_generator.specs.Steps.{after_chance, after_clock, after_delay}
use Rattle.fr_generator.specs.declared.generated.Generated.{Generated}
use Rattle.rand_pcg.specs.Lcg.{Lcg}

-- the cluster of a seed runs 1 to 10,000 double cycles
pub record IsMadeCount (doubles : ℕ) : Type 0 where
  pub from : 1 ≤ doubles
  pub to : doubles ≤ 10_000

-- the records of the drift: the number of double cycles, the clocks of the nodes from 1 to 8, and the delays of all links
abbrev pub drift_from : Lcg → ℕ → Drawn
drift_from words doubles = in_turn after_delay 112 (in_turn after_clock 8 (drawn_from (doubles_record doubles ∷ []) words))

-- the records of the script: nodes 7 and 8 are arbitrary, and they say frames by the chances of all cycles
abbrev pub script_from : Lcg → ℕ → Drawn
script_from words doubles = in_turn after_chance (48 * doubles) (drawn_from (arbitrary_record 7 ∷ arbitrary_record 8 ∷ []) words)

-- those of a seed
abbrev pub drift_of_seed : ℕ → ℕ → Drawn
drift_of_seed seed doubles = drift_from (first_words seed) doubles

abbrev pub script_of_seed : ℕ → ℕ → Drawn
script_of_seed seed doubles = script_from (drift_of_seed seed doubles).words doubles

-- a drift of these words, and the words that are left
pub record IsDriftDrawn (p : Values) (words words_after : Lcg) (doubles : ℕ) (d : DriftView) : Type 0 where
  pub stands : DriftStandsFor p d (drift_from words doubles).records
  pub drawn : words_after ≡ (drift_from words doubles).words
  pub fits : DriftFits p d

-- a script of these words
pub record IsScriptDrawn (p : Values) (words : Lcg) (doubles : ℕ) (s : ScriptView) : Type 0 where
  pub stands : ScriptStandsFor s (script_from words doubles).records
  pub fits : ScriptFits p s

-- the cluster of a seed over so many double cycles
pub record IsGenerated (seed doubles : ℕ) (made : Generated) : Type 0 where
  pub params : made.params ≡ made_values
  pub drift : DriftStandsFor made.params made.drift (drift_of_seed seed doubles).records
  pub script : ScriptStandsFor made.script (script_of_seed seed doubles).records
  pub drift_fits : DriftFits made.params made.drift
  pub script_fits : ScriptFits made.params made.script
