-- A kind of file: which value a file is of, why another is refused, and what a request reads of such files.
use Rattle.std.specs.Prelude.{◌≡◌, ◌≢◌, ℕ, ◌≤◌, List, length, Result, Ok, Err, ⊤}
use Rattle.fr_base.specs.Device.{Shelved, IsFaulty, IsLoaded, IsLong}
use Rattle.fr_base.specs.declared.shelf.TheConstants.{MAX_FILE}
use Rattle.fr_text.specs.declared.kind.Stop.{Stop}
use Rattle.fr_text.specs.declared.kind.Stop.TheVariants as stop

-- which bytes are a file of a value, which are refused for a fault, what holds of each value that is read, and the
-- fault of a reader that ran out of memory
pub record Kind (Value Fault : Type 0) : Type 1 where
  pub is_file_of : Value → List ℕ → Type 0
  pub refuses : List ℕ → Fault → Type 0
  pub is_sound : Value → Type 0
  pub no_memory : Fault

-- what a reader answers to bytes
abbrev pub Reads : {Value Fault : Type 0} → Kind Value Fault → List ℕ → Result Value Fault → Type 0
Reads kind bytes (Ok value) = kind.is_file_of value bytes
Reads kind bytes (Err fault) = kind.refuses bytes fault

-- of two answers to the same bytes that are not want of memory, both are the same
abbrev pub HasOneAnswer : {Value Fault : Type 0} → Kind Value Fault → Type 0
HasOneAnswer {Value} {Fault} kind =
    (bytes : List ℕ) (a b : Result Value Fault) → a ≢ Err kind.no_memory → b ≢ Err kind.no_memory → Reads kind bytes a → Reads kind bytes b → a ≡ b

-- to all bytes there is an answer that is not want of memory
abbrev pub HasSomeAnswer : {Value Fault : Type 0} → Kind Value Fault → Type 0
HasSomeAnswer {Value} {Fault} kind = (bytes : List ℕ) → (answer : Result Value Fault) × (answer ≢ Err kind.no_memory) × Reads kind bytes answer

-- bytes that are refused, and not for want of memory
pub record IsRefusal {Value Fault : Type 0} (kind : Kind Value Fault) (bytes : List ℕ) (fault : Fault) : Type 0 where
  pub refused : kind.refuses bytes fault
  pub cause : fault ≢ kind.no_memory

-- bytes that are the file of a value
pub record AreBytes {Value Fault : Type 0} (kind : Kind Value Fault) (bytes : List ℕ) (value : Value) : Type 0 where
  pub fits : length bytes ≤ MAX_FILE
  pub accepted : kind.is_file_of value bytes

-- a shelf has the file of a value
pub record Has {Value Fault : Type 0} (kind : Kind Value Fault) (shelf : Shelved) (file : List ℕ) (value : Value) : Type 0 where
  pub bytes : List ℕ
  pub loaded : IsLoaded shelf file bytes
  pub accepted : kind.is_file_of value bytes
  pub sound : kind.is_sound value

-- a shelf has a file that is refused
pub record HasNo {Value Fault : Type 0} (kind : Kind Value Fault) (shelf : Shelved) (file : List ℕ) (fault : Fault) : Type 0 where
  pub bytes : List ℕ
  pub loaded : IsLoaded shelf file bytes
  pub refusal : IsRefusal kind bytes fault

-- why a request stops at a file
abbrev pub StopsAt : {Value Fault : Type 0} → Kind Value Fault → Shelved → Shelved → List ℕ → Stop Fault → Type 0
StopsAt kind before after file stop.ReadFault = IsFaulty before after file
StopsAt kind before after file stop.TooLong = IsLong before file
StopsAt kind before after file stop.NoMemory = ⊤
StopsAt kind before after file (stop.Refused fault) = HasNo kind before file fault
