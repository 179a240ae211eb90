-- The names that a shelf in memory was asked for.
use Rattle.std.specs.Prelude.{ℕ, Bool, true, false, List, Option, Some, None}
use Rattle.fr_program.specs.Program.{texts}
use Rattle.fr_program.specs.declared.asked_names.AskedNames.{AskedNames}

abbrev pub told_if : Bool → List (List ℕ) → Option (List (List ℕ))
told_if true names = Some names
told_if false names = None

-- in their order, where they are told
abbrev pub names_told : AskedNames → Option (List (List ℕ))
names_told asked = told_if asked.told (texts asked.names.items)
