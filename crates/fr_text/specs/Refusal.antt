-- Which record of a file is refused, and why: facts about the finished list of records.
use Rattle.std.specs.Prelude.{ℕ, ◌+◌, ◌≡◌, ◌⊎◌, List, ◌∷◌, ◌++◌, length, Option, Some, None}
use Rattle.fr_base.specs.declared.reason.Reason.{Reason}
use Rattle.fr_text.specs.Records.{FileRecord}

-- why a record is refused after the records before it, or None
abbrev pub Refusing : Type 0
Refusing = List FileRecord → FileRecord → Option Reason

-- no record of the list is refused
abbrev pub NoneRefused : Refusing → List FileRecord → Type 0
NoneRefused reason records = (before : List FileRecord) (record_at : FileRecord) (after : List FileRecord) → records ≡ before ++ record_at ∷ after → reason before record_at ≡ None

-- the first record that is refused is the one of this number, counted from 1, for this reason
pub record FirstRefused (reason : Refusing) (records : List FileRecord) (number : ℕ) (why : Reason) : Type 0 where
  pub before : List FileRecord
  pub record_at : FileRecord
  pub after : List FileRecord
  pub cut : records ≡ before ++ record_at ∷ after
  pub place : number ≡ length before + 1
  pub none_before : NoneRefused reason before
  pub refused : reason before record_at ≡ Some why

-- a list of records has one first refused record at most, and one reason for it
abbrev pub RefusesOneFirst : Refusing → Type 0
RefusesOneFirst reason =
    (records : List FileRecord) (n m : ℕ) (why other : Reason) → FirstRefused reason records n why → FirstRefused reason records m other → (n ≡ m) × (why ≡ other)

-- where a record is refused it is not so that none is
abbrev pub RefusesOrAccepts : Refusing → Type 0
RefusesOrAccepts reason = (records : List FileRecord) (n : ℕ) (why : Reason) → FirstRefused reason records n why → NoneRefused reason records → ⊥

-- of each list of records either none is refused or there is a first that is
abbrev pub RefusesFirst : Refusing → Type 0
RefusesFirst reason = (records : List FileRecord) → NoneRefused reason records ⊎ ((n : ℕ) × ((why : Reason) × FirstRefused reason records n why))
