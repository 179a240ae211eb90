-- A program's answer to its words: what they ask for, how that ends, its status and its line.
use Rattle.std.specs.Prelude.{◌≡◌, ℕ, List, map, String, Err}
use Rattle.std.specs.String.{string_bytes}
use Rattle.std.specs.declared.alloc.Global.{Global}
use Rattle.fr_base.specs.Device.{Sunk}
use Rattle.fr_text.specs.declared.status.Status.{Status}
use Rattle.fr_program.specs.declared.failure.Failure.TheVariants.{Usage}
use Rattle.fr_program.specs.Around.{Around, Ending}
use Rattle.fr_program.specs.Command.{AreLoads, Command, CommandEnds, IsComplete}
use Rattle.fr_program.specs.Failure.{IsTold, ending_status}

-- what words ask for, the command of what was asked for, and what is said of words that ask for nothing
pub record Program (Asked : Type 0) : Type 1 where
  pub asks_for : List (List ℕ) → Asked → Type 0
  pub command_of : Asked → Command
  pub usage : List ℕ

-- the bytes of each word
abbrev pub texts : List (String Global) → List (List ℕ)
texts words = map string_bytes words

-- the words are no request
abbrev pub IsNoRequest : {Asked : Type 0} → Program Asked → List (List ℕ) → Type 0
IsNoRequest {Asked} program words = (asked : Asked) → program.asks_for words asked → ⊥

-- how words end, whether they ask for something or not
pub record WordsEnd {Asked : Type 0} (program : Program Asked) (words : List (List ℕ)) (around : Around) (ending : Ending) : Type 0 where
  pub ends : (asked : Asked) → program.asks_for words asked → CommandEnds (program.command_of asked) around ending
  pub loads : (asked : Asked) → program.asks_for words asked → AreLoads (program.command_of asked).names around.shelf_before around.shelf_after
  pub none : IsNoRequest program words → ending ≡ Err Usage

-- there is an ending of the words whose status and line are these
pub record IsProgramAnswer {Asked : Type 0} (program : Program Asked) (words : List (List ℕ)) (around : Around) (told_before told_after : Sunk) (answer : Status) : Type 0 where
  pub ending : Ending
  pub ends : WordsEnd program words around ending
  pub status : answer ≡ ending_status ending
  pub told : IsTold program.usage told_before told_after ending

-- where the bytes of the files are told and no fault was counted, they decide the status, but for want of memory
abbrev pub IsProgramComplete : {Asked : Type 0} → Program Asked → List (List ℕ) → Around → Status → Type 0
IsProgramComplete {Asked} program words around answer = (asked : Asked) → program.asks_for words asked → IsComplete (program.command_of asked) around answer
