-- That bytes define a status: one and no other, beside want of memory.
use Rattle.std.specs.Prelude.{◌≡◌, ◌≢◌, ◌⊎◌, ◌<◌, ◌^◌, ℕ, zero, suc, List, All, length}
use Rattle.fr_text.specs.Files.{Files, IsStatusOf, file, text}
use Rattle.fr_text.specs.Kind.{AreBytes, HasOneAnswer, HasSomeAnswer}
use Rattle.fr_text.specs.declared.status.Status.{Status}
use Rattle.fr_text.specs.declared.status.Status.TheVariants as status

-- numbers that are bytes
abbrev pub AreOctets : List ℕ → Type 0
AreOctets bytes = All (λ byte. byte < 2 ^ 8) bytes

-- of two statuses that the bytes of files define, and that are not want of memory, both are the same
abbrev pub HasOneStatus : Files → Type 0
HasOneStatus files =
    (bytes : List (List ℕ)) (a b : Status) → a ≢ status.NoMemory → b ≢ status.NoMemory
    → IsStatusOf files bytes a → IsStatusOf files bytes b → a ≡ b

-- so many files define a status that is not want of memory, whatever bytes they have
abbrev pub HasSomeStatus : Files → ℕ → Type 0
HasSomeStatus files count =
    (bytes : List (List ℕ)) → length bytes ≡ count → All AreOctets bytes
    → (answer : Status) × (answer ≢ status.NoMemory) × IsStatusOf files bytes answer

-- the bytes of so many files define one status, and no other
pub record DefinesOneStatus (files : Files) (count : ℕ) : Type 0 where
  pub one : HasOneStatus files
  pub some : HasSomeStatus files count

-- ---- what it rests on, of each file and behind all

-- each kind has one answer to bytes, and behind all files there is not both a text and a refusal
abbrev pub HasOneEnd : Files → Type 0
HasOneEnd (text IsText IsSaid) = (written said : List ℕ) → IsText written → IsSaid said → ⊥
HasOneEnd (file {Value} kind says rest) = HasOneAnswer kind × ((value : Value) → HasOneEnd (rest value))

-- there are so many files, each kind has an answer to all bytes, and behind files that are accepted there is a text or a refusal
abbrev pub HasSomeEnd : Files → ℕ → Type 0
HasSomeEnd (text IsText IsSaid) count = (count ≡ 0) × (((written : List ℕ) × IsText written) ⊎ ((said : List ℕ) × IsSaid said))
HasSomeEnd (file {Value} kind says rest) zero = ⊥
HasSomeEnd (file {Value} kind says rest) (suc count) =
    HasSomeAnswer kind × ((bytes : List ℕ) (value : Value) → AreOctets bytes → AreBytes kind bytes value → HasSomeEnd (rest value) count)
