-- What is said of devices that may fail: their states, what a load and a put do to them.
use Rattle.std.specs.Prelude.{◌≡◌, ℕ, ◌+◌, ◌-◌, ◌^◌, ◌<◌, ◌≤◌, min, Bool, true, false, List, [], ◌∷◌, ◌++◌, codes, length, take, map, All, Option, Some, None, IfSome, Result, Ok, Err, OnOk, OnErr}
use Rattle.std.specs.List.{concat}
use Rattle.std.specs.Io.KnownBytes.{Appends}
use Rattle.fr_base.specs.declared.shelf.TheConstants.{MAX_FILE}
use Rattle.fr_base.specs.declared.shelf.LoadFault.{LoadFault}
use Rattle.fr_base.specs.declared.shelf.LoadFault.TheVariants.{Failed, TooLong, NoMemory}
use Rattle.fr_base.specs.declared.sink.PutFault.{PutFault}

-- a shelf: the bytes under each name, where it tells them, the count of faults of each name, and the names that were asked for,
-- in their order, where it tells them
pub record Shelved : Type 0 where
  pub held : List ℕ → Option (List ℕ)
  pub faults : List ℕ → ℕ
  pub asked : Option (List (List ℕ))

-- a put: its piece, and whether it was put whole
pub record Put : Type 0 where
  pub piece : List ℕ
  pub is_whole : Bool

-- a sink: the bytes that were put, where it tells them, the count of its faults, and its puts in their order, failed ones too,
-- where it tells them
pub record Sunk : Type 0 where
  pub written : Option (List ℕ)
  pub faults : ℕ
  pub puts : Option (List Put)

-- A count of faults rose from one value to another, or it stands at the last value that a counter of 64 bits has.
abbrev pub Rose : ℕ → ℕ → Type 0
Rose before now = min (before + 1) (2 ^ 64 - 1) ≤ now

-- the next value of a counter that stays at its last value
abbrev pub raised : ℕ → ℕ
raised count = min (count + 1) (2 ^ 64 - 1)

-- where the content is told, it is these bytes
abbrev pub IsHeld : Option (List ℕ) → List ℕ → Type 0
IsHeld told bytes = IfSome told (λ content. bytes ≡ content)

-- more bytes were seen than a file may have, and no more than it has where its content is told
pub record IsSeen (told : Option (List ℕ)) (limit seen : ℕ) : Type 0 where
  pub above : limit < seen
  pub within : IfSome told (λ content. seen ≤ length content)

-- where a file was too long, that many of its bytes were seen
abbrev pub SeesTooLong : Option (List ℕ) → LoadFault → Type 0
SeesTooLong told Failed = Unit {0}
SeesTooLong told (TooLong seen) = IsSeen told MAX_FILE seen
SeesTooLong told NoMemory = Unit {0}

-- these bytes were loaded from the file, and a file may have as many
pub record IsLoaded (shelf : Shelved) (file bytes : List ℕ) : Type 0 where
  pub told : IsHeld (shelf.held file) bytes
  pub fits : length bytes ≤ MAX_FILE

-- a fault of the file was counted
abbrev pub IsFaulty : Shelved → Shelved → List ℕ → Type 0
IsFaulty before after file = Rose (before.faults file) (after.faults file)

-- the file has more bytes than a file may have, where its content is told
abbrev pub IsLong : Shelved → List ℕ → Type 0
IsLong shelf file = IfSome (shelf.held file) (λ bytes. MAX_FILE < length bytes)

-- what a failed load says: a fault was counted, or the file is too long; want of memory is free
abbrev pub StopsLoad : Shelved → Shelved → List ℕ → LoadFault → Type 0
StopsLoad before after file Failed = IsFaulty before after file
StopsLoad before after file (TooLong seen) = IsSeen (before.held file) MAX_FILE seen
StopsLoad before after file NoMemory = Unit {0}

-- where the names that were asked for are told now, they were told before, and since then these were asked for, in this order
abbrev pub Asks : Option (List (List ℕ)) → Option (List (List ℕ)) → List (List ℕ) → Type 0
Asks before None names = Unit {0}
Asks None (Some now) names = ⊥
Asks (Some before) (Some now) names = now ≡ before ++ names

-- a front of these names was asked for, which may be none or all of them
abbrev pub AsksFront : Option (List (List ℕ)) → Option (List (List ℕ)) → List (List ℕ) → Type 0
AsksFront before now names = (n : ℕ) × Asks before now (take n names)

-- a shelf after one load more, of this name: the bytes stay, no count fell
pub record IsOneLoadLater (before after : Shelved) (name : List ℕ) : Type 0 where
  pub held_stays : (file : List ℕ) → after.held file ≡ before.held file
  pub never_fall : (file : List ℕ) → before.faults file ≤ after.faults file
  pub one_load : Asks before.asked after.asked (name ∷ [])

-- told bytes grew by the front of a piece, which may be none or all of it
abbrev pub AppendsFront : Option (List ℕ) → Option (List ℕ) → List ℕ → Type 0
AppendsFront old new piece = (n : ℕ) × Appends old new (take n piece)

-- a put that took its piece whole, and one that failed
abbrev pub whole_put : List ℕ → Put
whole_put piece = record { piece = piece; is_whole = true }

abbrev pub failed_put : List ℕ → Put
failed_put piece = record { piece = piece; is_whole = false }

-- the put of a piece, by what it answered
abbrev pub put_of : Result (Unit {0}) PutFault → List ℕ → Put
put_of (Ok done) piece = whole_put piece
put_of (Err fault) piece = failed_put piece

-- where the puts are told, they were told before, and are those and then these
abbrev pub AddsPuts : Option (List Put) → Option (List Put) → List Put → Type 0
AddsPuts before None more = Unit {0}
AddsPuts None (Some now) more = ⊥
AddsPuts (Some before) (Some now) more = now ≡ before ++ more

-- a piece was put whole; or a fault was counted, and then a front of the piece may have been put. It was put once, and nothing else was
pub record PutsPiece (result : Result (Unit {0}) PutFault) (before now : Sunk) (piece : List ℕ) : Type 0 where
  pub whole : OnOk result (Appends before.written now.written piece)
  pub failed : OnErr result (Rose before.faults now.faults)
  pub front : OnErr result (AppendsFront before.written now.written piece)
  pub never_fall : before.faults ≤ now.faults
  pub one_put : AddsPuts before.puts now.puts (put_of result piece ∷ [])

-- a text ends with a line feed
pub record IsEnded (text : List ℕ) : Type 0 where
  pub front : List ℕ
  pub ended : text ≡ front ++ codes "\n"

-- a text was put whole: in pieces of whole lines, each in one put that took it, and nothing else was put
pub record PutsWhole (before now : Sunk) (text : List ℕ) : Type 0 where
  pub pieces : List (List ℕ)
  pub ended : All IsEnded pieces
  pub parts : concat pieces ≡ text
  pub written : Appends before.written now.written text
  pub puts : AddsPuts before.puts now.puts (map whole_put pieces)

-- a text was put up to a put that failed, and the sink counted a fault: some pieces of whole lines each in one put that took it,
-- and then one more, of which a front was put. Nothing was put behind it
pub record PutsFront (before now : Sunk) (text : List ℕ) : Type 0 where
  pub pieces : List (List ℕ)
  pub last : List ℕ
  pub rest : List ℕ
  pub ended : All IsEnded pieces
  pub last_ended : IsEnded last
  pub parts : concat pieces ++ (last ++ rest) ≡ text
  pub counted : Rose before.faults now.faults
  pub taken : ℕ
  pub written : Appends before.written now.written (concat pieces ++ take taken last)
  pub puts : AddsPuts before.puts now.puts (map whole_put pieces ++ failed_put last ∷ [])

-- a text was put, whole or up to a put that failed
pub record Puts (result : Result (Unit {0}) PutFault) (before now : Sunk) (text : List ℕ) : Type 0 where
  pub whole : OnOk result (PutsWhole before now text)
  pub front : OnErr result (PutsFront before now text)
  pub never_fall : before.faults ≤ now.faults
