-- The run that a world's files decide.
use Rattle.fr_coverage.specs.Decided.{setting_of}
use Rattle.fr_cluster.specs.Setting.{Setting}
use Rattle.fr_air.specs.declared.files.RunInputs.{RunInputs}

-- the setting of a world's files
abbrev pub setting_in : RunInputs → Setting
setting_in f = setting_of f.params f.drift f.script
