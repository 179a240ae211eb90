-- What holds of the parts of a message memory, and of a frame that stands in a cell while it is offered.
use Rattle.std.specs.Prelude.{◌≡◌, ◌≢◌, ℕ, ◌+◌, ◌<◌, ◌≤◌, List, [], ◌∷◌, length, slice_index_or, slice_set, Option, Some, None, IsSome, option_map, unwrap_or}
use Rattle.fr_pool.specs.Pool.{PoolView, HasFree, IsFree, IsOut}
use Rattle.fr_air.specs.Memory.{Held, frame_at, sent_at}
use Rattle.fr_air.specs.declared.memory.Message.{Message}

-- what stands in the cell of a message
abbrev pub held_of : ℕ → PoolView → Message → Held
held_of bytes pool message = record { place = message.place; frame = frame_at pool message.cell bytes }

-- each message is in the cell of its own number, and the cells of the messages and of what is said are out and no others
pub record HaveCells (pool : PoolView) (messages : List Message) (said : Option ℕ) : Type 0 where
  pub order : (k : ℕ) (d : Message) → k < length messages → (slice_index_or messages k d).cell ≡ k
  pub out : (k : ℕ) → k < length messages → IsOut pool k
  pub said_out : (k : ℕ) → said ≡ Some k → (length messages ≤ k) × IsOut pool k
  pub free : (k : ℕ) → length messages ≤ k → k < length pool.out → said ≢ Some k → IsFree pool k

-- the number of the cell of a message, or of that of what is said
abbrev pub number_at : List Message → Option ℕ → Option ℕ → ℕ
number_at messages said None = unwrap_or said 0
number_at messages said (Some k) = (slice_index_or messages k (record { place = 0; cell = 0 })).cell

-- there is one
abbrev pub IsThere : List Message → Option ℕ → Option ℕ → Type 0
IsThere messages said None = IsSome said
IsThere messages said (Some k) = k < length messages

-- what is said
abbrev pub bytes_said : ℕ → PoolView → Option ℕ → Option (List ℕ)
bytes_said bytes pool said = option_map (λ cell. frame_at pool cell bytes) said

-- how many places have a number
abbrev pub how_many_numbered : List (Option ℕ) → ℕ
how_many_numbered [] = 0
how_many_numbered (None ∷ places) = how_many_numbered places
how_many_numbered (Some k ∷ places) = how_many_numbered places + 1

-- each place with a message has its number, and there is room for a message at each
pub record HavePlaces (messages : List Message) (places : List (Option ℕ)) (room : ℕ) : Type 0 where
  pub room_is : length places ≤ room
  pub counted : how_many_numbered places ≡ length messages
  pub found : (place k : ℕ) → slice_index_or places place None ≡ Some k → k < length messages
  pub owned : (place k : ℕ) (d : Message) → slice_index_or places place None ≡ Some k → (slice_index_or messages k d).place ≡ place
  pub placed : (k : ℕ) (d : Message) → k < length messages → slice_index_or places (slice_index_or messages k d).place None ≡ Some k

-- what holds of the parts of a memory: there are two more cells than places
pub record IsMemory (pool : PoolView) (messages : List Message) (places : List (Option ℕ)) (room : ℕ) (said : Option ℕ) : Type 0 where
  pub sizes : length pool.out ≡ length places + 2
  pub whole : length pool.bytes ≡ length pool.out
  pub cells : HaveCells pool messages said
  pub at_places : HavePlaces messages places room

-- the cell with this number is the one of a place, and it takes what is sent there
pub record IsClaimed (old new : List Held) (place cell : ℕ) : Type 0 where
  pub within : cell < length new
  pub place_is : (d : Held) → (slice_index_or new cell d).place ≡ place
  pub takes : (frame : List ℕ) → slice_set new cell (record { place = place; frame = frame }) ≡ sent_at place frame old

-- a frame of so many bytes stands in a cell, and another cell is free
pub record StandsInCell (pool : PoolView) (cell bytes : ℕ) : Type 0 where
  pub out : IsOut pool cell
  pub whole : length pool.bytes ≡ length pool.out
  pub within : length (frame_at pool cell bytes) ≡ bytes
  pub short : bytes ≤ 262
  pub spare : HasFree pool

-- the same cells are out, and what is out has the bytes that it had
pub record Stays (old new : PoolView) : Type 0 where
  pub out : new.out ≡ old.out
  pub whole : length new.bytes ≡ length old.bytes
  pub same : (cell : ℕ) → IsOut old cell → slice_index_or new.bytes cell [] ≡ slice_index_or old.bytes cell []
