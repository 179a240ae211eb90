-- The files of a command, one after the other, and what is written of them or said.
use Rattle.std.specs.Prelude.{◌≡◌, ℕ, ◌<◌, ◌≤◌, ◌⊎◌, List, [], ◌∷◌, ◌++◌, length, map, Some}
use Rattle.fr_base.specs.Device.{Asks, IsFaulty, Shelved}
use Rattle.fr_base.specs.declared.shelf.TheConstants.{MAX_FILE}
use Rattle.fr_text.specs.Kind.{AreBytes, Has, HasOneAnswer, IsRefusal, Kind, StopsAt}
use Rattle.fr_text.specs.Told.{no_memory, refusal, stop_told}
use Rattle.fr_text.specs.declared.kind.Stop.{Stop}
use Rattle.fr_text.specs.declared.status.Status.{Status}
use Rattle.fr_text.specs.declared.status.Status.TheVariants as status
use Rattle.fr_text.specs.declared.told.Told.{Told}

-- files, each of a kind that may depend on the values of those before it, with what is said of a stop at it; behind them the texts
-- that may be written, and what may be said where the command refuses what the files say
pub data Files : Type 1 where
  text : (IsText IsSaid : List ℕ → Type 0) → Files
  file : {Value Fault : Type 0} → (kind : Kind Value Fault) → (says : Stop Fault → List ℕ) → (rest : Value → Files) → Files

-- nothing is refused
abbrev pub IsNeverSaid : List ℕ → Type 0
IsNeverSaid said = ⊥

-- a shelf has the files under these names, each accepted, and this may be written of them
abbrev pub IsTextOf : Files → List (List ℕ) → Shelved → List ℕ → Type 0
IsTextOf (text IsText IsSaid) names shelf written = IsText written
IsTextOf (file {Value} kind says rest) [] shelf written = ⊥
IsTextOf (file {Value} kind says rest) (name ∷ names) shelf written = (value : Value) × Has kind shelf name value × IsTextOf (rest value) names shelf written

-- a stop at a file, told so; the names before it were asked for, then this one, and no other
pub record StopsHere {Value Fault : Type 0} (kind : Kind Value Fault) (says : Stop Fault → List ℕ) (front : List (List ℕ)) (name : List ℕ) (before after : Shelved) (why : Told) : Type 0 where
  pub stop : Stop Fault
  pub stops : StopsAt kind before after name stop
  pub told : why ≡ stop_told says stop
  pub asked : Asks before.asked after.asked (front ++ name ∷ [])

-- a stop behind all files, told so: want of memory, or what the command refuses; all their names were asked for, and no other
pub record StopsBehind (IsSaid : List ℕ → Type 0) (names : List (List ℕ)) (before after : Shelved) (why : Told) : Type 0 where
  pub told : (why ≡ no_memory) ⊎ ((said : List ℕ) × IsSaid said × (why ≡ refusal said))
  pub asked : Asks before.asked after.asked names

-- why a command stops that has files of these names in front of its others: at the first file that is not accepted, or behind
-- all of them
abbrev pub StopsIn : Files → List (List ℕ) → List (List ℕ) → Shelved → Shelved → Told → Type 0
StopsIn (text IsText IsSaid) front names before after why = StopsBehind IsSaid front before after why
StopsIn (file {Value} kind says rest) front [] before after why = ⊥
StopsIn (file {Value} kind says rest) front (name ∷ names) before after why =
    StopsHere kind says front name before after why
    ⊎ ((value : Value) × Has kind before name value × StopsIn (rest value) (front ++ name ∷ []) names before after why)

-- a shelf tells the bytes of the files under these names
abbrev pub AreTold : List (List ℕ) → Shelved → List (List ℕ) → Type 0
AreTold names shelf bytes = map shelf.held names ≡ map Some bytes

-- no fault of these files was counted
abbrev pub AreFaultless : List (List ℕ) → Shelved → Shelved → Type 0
AreFaultless [] before after = Unit {0}
AreFaultless (name ∷ names) before after = (IsFaulty before after name → ⊥) × AreFaultless names before after

-- the status that bytes define that are not accepted, or want of memory
abbrev pub IsStopStatus : {Value Fault : Type 0} → Kind Value Fault → List ℕ → Status → Type 0
IsStopStatus {Value} {Fault} kind bytes status.Refused = (length bytes ≤ MAX_FILE) × ((fault : Fault) × IsRefusal kind bytes fault)
IsStopStatus {Value} {Fault} kind bytes status.TooLong = MAX_FILE < length bytes
IsStopStatus {Value} {Fault} kind bytes status.NoMemory = Unit {0}
IsStopStatus {Value} {Fault} kind bytes other = ⊥

-- the status behind all files: something may be written, or the command refuses what they say; or want of memory
abbrev pub IsEndStatus : (List ℕ → Type 0) → (List ℕ → Type 0) → Status → Type 0
IsEndStatus IsText IsSaid status.Done = (written : List ℕ) × IsText written
IsEndStatus IsText IsSaid status.No = (said : List ℕ) × IsSaid said
IsEndStatus IsText IsSaid status.NoMemory = Unit {0}
IsEndStatus IsText IsSaid other = ⊥

-- the status that the bytes of the files define: the first file that is not accepted decides, or all are
abbrev pub IsStatusOf : Files → List (List ℕ) → Status → Type 0
IsStatusOf (text IsText IsSaid) bytes answer = IsEndStatus IsText IsSaid answer
IsStatusOf (file {Value} kind says rest) [] answer = ⊥
IsStatusOf (file {Value} kind says rest) (first ∷ bytes) answer =
    IsStopStatus kind first answer ⊎ ((value : Value) × AreBytes kind first value × IsStatusOf (rest value) bytes answer)

-- two texts that may be written of files of the same bytes are the same, whatever the names and the shelves
abbrev pub IsDecided : Files → Type 0
IsDecided files =
    (names others : List (List ℕ)) (shelf other : Shelved) (bytes : List (List ℕ)) (written again : List ℕ) → AreTold names shelf bytes → AreTold others other bytes
    → IsTextOf files names shelf written → IsTextOf files others other again → written ≡ again

-- the same files, with what may be said in place of what may be written
abbrev pub said_of : Files → Files
said_of (text IsText IsSaid) = text IsSaid IsText
said_of (file kind says rest) = file kind says (λ value. said_of (rest value))

-- each kind has one answer to bytes, and their values one text
abbrev pub HasOneText : Files → Type 0
HasOneText (text IsText IsSaid) = (written again : List ℕ) → IsText written → IsText again → written ≡ again
HasOneText (file {Value} kind says rest) = HasOneAnswer kind × ((value : Value) → HasOneText (rest value))
