-- What a shelf holds that never answers a fault of its own.
use Rattle.std.specs.Prelude.{ℕ, List, [], Some, unwrap_or}
use Rattle.std.specs.Option.{option_map}
use Rattle.std.specs.BTreeMap.{get_by_text}
use Rattle.fr_base.specs.Device.{Shelved}
use Rattle.fr_program.specs.declared.sure.SureShelf.{SureShelf}
use Rattle.fr_program.specs.AskedNames.{names_told}

-- the bytes under a name: those that were put there, else none
abbrev pub kept_in : SureShelf → List ℕ → List ℕ
kept_in shelf name = unwrap_or (option_map (λ bytes. bytes.items) (get_by_text shelf.files name)) []

-- the bytes under each name, which it tells, and the names that were asked for; no fault is ever counted
abbrev pub sure_state : SureShelf → Shelved
sure_state shelf = record { held = λ name. Some (kept_in shelf name); faults = λ _. 0; asked = names_told shelf.asked }
