-- The names of the files that decide a run.
use Rattle.std.specs.Prelude.{ℕ, List, [], ◌∷◌}
use Rattle.fr_report.specs.declared.files.RunFiles.{RunFiles}

-- the names of the three files of a run
pub record RunNames : Type 0 where
  pub params : List ℕ
  pub drift : List ℕ
  pub script : List ℕ

abbrev pub run_names_of : RunFiles → RunNames
run_names_of files = record { params = files.params.now; drift = files.drift.now; script = files.script.now }

-- one after the other
abbrev pub names_in : RunNames → List (List ℕ)
names_in names = names.params ∷ names.drift ∷ names.script ∷ []
