-- What a shelf in memory holds, how often a name has failed, and which loads it refuses.
use Rattle.std.specs.Prelude.{◌≡◌, ◌≢◌, ◌≤◌, ℕ, List, [], Option, Some, None, IsSome, Bool, ◌==◌, ◌||◌, is_none}
use Rattle.std.specs.List.{list_any}
use Rattle.std.specs.Option.{option_map, option_map_or}
use Rattle.std.specs.BTreeMap.{get_by_text}
use Rattle.fr_base.specs.Device.{raised, Shelved}
use Rattle.fr_program.specs.declared.memory_shelf.MemoryShelf.{MemoryShelf}
use Rattle.fr_program.specs.AskedNames.{names_told}

-- the bytes under a name
abbrev pub held_in : MemoryShelf → List ℕ → Option (List ℕ)
held_in shelf name = option_map (λ file. file.bytes.items) (get_by_text shelf.files name)

-- the count of a name: its own where it is held, else the one count of all names that are not
abbrev pub faults_in : MemoryShelf → List ℕ → ℕ
faults_in shelf name = option_map_or (λ file. file.faults) (get_by_text shelf.files name) shelf.missing

-- how many loads there were
abbrev pub loads_of : MemoryShelf → ℕ
loads_of shelf = shelf.loads

-- the names that were asked for, in their order, where it tells them
abbrev pub asked_in : MemoryShelf → Option (List (List ℕ))
asked_in shelf = names_told shelf.asked

-- its bytes, which it tells, its counts of faults, and the names that were asked for
abbrev pub shelved_in : MemoryShelf → Shelved
shelved_in shelf = record { held = held_in shelf; faults = faults_in shelf; asked = asked_in shelf }

-- the numbers of the loads that are to fail, from 1
abbrev pub failing_loads : MemoryShelf → List ℕ
failing_loads shelf = shelf.failing.items

-- the next load of this name fails: its number is listed, or the name is not held
abbrev pub refuses : MemoryShelf → List ℕ → Bool
refuses shelf name = list_any (λ number. number == raised (loads_of shelf)) (failing_loads shelf) || is_none (held_in shelf name)

-- it holds no name, and nothing was counted or chosen
pub record IsNewShelf (shelf : MemoryShelf) : Type 0 where
  pub empty : (name : List ℕ) → held_in shelf name ≡ None
  pub no_faults : (name : List ℕ) → faults_in shelf name ≡ 0
  pub no_loads : loads_of shelf ≡ 0
  pub none_asked : asked_in shelf ≡ Some []
  pub none_failing : failing_loads shelf ≡ []

-- the counts stay, and the names that were asked for
pub record KeepsCounts (before after : MemoryShelf) : Type 0 where
  pub faults : (name : List ℕ) → faults_in after name ≡ faults_in before name
  pub loads : loads_of after ≡ loads_of before
  pub asked : asked_in after ≡ asked_in before

-- a fault of the name is counted: at its own count where it is held, so that all others stay, and else at the one count
-- of all names that are not held
pub record CountsFault (before after : MemoryShelf) (name : List ℕ) : Type 0 where
  pub counted : faults_in after name ≡ raised (faults_in before name)
  pub others : (other : List ℕ) → other ≢ name → IsSome (held_in before other) → faults_in after other ≡ faults_in before other
  pub common : IsSome (held_in before name) → (other : List ℕ) → other ≢ name → faults_in after other ≡ faults_in before other

-- only counts of faults rise
pub record OnlyCounts (before after : MemoryShelf) : Type 0 where
  pub never_fall : (name : List ℕ) → faults_in before name ≤ faults_in after name
  pub held : (name : List ℕ) → held_in after name ≡ held_in before name
  pub loads : loads_of after ≡ loads_of before
  pub asked : asked_in after ≡ asked_in before
  pub failing : failing_loads after ≡ failing_loads before
