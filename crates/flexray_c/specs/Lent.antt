-- The files that a caller lends, as a shelf.
use Rattle.std.specs.Prelude.{◌≡◌, ℕ, ◌<◌, ◌≤◌, List, length, Option, Some, None, Result, Ok, Err, codes, Bool, ◌||◌, if◌then◌else◌}
use Rattle.std.specs.Str.{bytes_eq}
use Rattle.fr_base.specs.Device.{Shelved}
use Rattle.fr_base.specs.declared.shelf.TheConstants.{MAX_FILE}
use Rattle.fr_base.specs.declared.shelf.LoadFault.{LoadFault}
use Rattle.fr_base.specs.declared.shelf.LoadFault.TheVariants.{Failed, TooLong, NoMemory}
use Rattle.flexray_c.specs.declared.lent.LentFiles.{LentFiles}

-- the bytes under a name: of three files, called first, second and third
abbrev pub lent_under : List ℕ → List ℕ → List ℕ → List ℕ → Option (List ℕ)
lent_under first second third name =
    if bytes_eq name (codes "first") then Some first
    else if bytes_eq name (codes "second") then Some second
    else if bytes_eq name (codes "third") then Some third
    else None

-- the names of the three
abbrev pub is_lent : List ℕ → Bool
is_lent name = bytes_eq name (codes "first") || bytes_eq name (codes "second") || bytes_eq name (codes "third")

-- a shelf of these files: no fault of theirs is ever counted, all other names have one count, and it does not tell which names
-- were asked for
abbrev pub lent_shelf : List ℕ → List ℕ → List ℕ → ℕ → Shelved
lent_shelf first second third missing = record {
  held = lent_under first second third;
  faults = λ name. if is_lent name then 0 else missing;
  asked = None;
}

-- how many loads of other names were counted
abbrev pub missing_faults : LentFiles → ℕ
missing_faults files = files.missing

abbrev pub lent_state : LentFiles → Shelved
lent_state files = lent_shelf files.first.now files.second.now files.third.now (missing_faults files)

-- the bytes under a name, of what was lent
abbrev pub lent_in : LentFiles → List ℕ → Option (List ℕ)
lent_in files name = lent_under files.first.now files.second.now files.third.now name

-- How a load ends of the file under a name, by what it gave. Where there is none, it fails. Where there is one, it gives these
-- bytes, all of them, if a file may have as many, and else tells how many they are. Only of a file that it would give memory
-- may run out.
abbrev pub GivesLent : Option (List ℕ) → Result (Unit {0}) LoadFault → List ℕ → Type 0
GivesLent None (Ok done) given = ⊥
GivesLent None (Err Failed) given = Unit {0}
GivesLent None (Err (TooLong seen)) given = ⊥
GivesLent None (Err NoMemory) given = ⊥
GivesLent (Some bytes) (Ok done) given = (given ≡ bytes) × (length bytes ≤ MAX_FILE)
GivesLent (Some bytes) (Err Failed) given = ⊥
GivesLent (Some bytes) (Err (TooLong seen)) given = (seen ≡ length bytes) × (MAX_FILE < length bytes)
GivesLent (Some bytes) (Err NoMemory) given = length bytes ≤ MAX_FILE
