-- What a sink in memory has, and which pieces it takes.
use Rattle.std.specs.Prelude.{◌≡◌, [], ℕ, ◌+◌, List, Bool, ◌==◌, ◌&&◌, ◌↔◌, length, nat_le, not, Option, Some, IsSome}
use Rattle.std.specs.List.{list_any}
use Rattle.fr_base.specs.Device.{Put, raised, Sunk}
use Rattle.fr_program.specs.PutLog.{CanTell, kept_puts}
use Rattle.fr_program.specs.declared.memory_sink.MemorySink.{MemorySink}

-- the bytes put so far
abbrev pub bytes_in : MemorySink → List ℕ
bytes_in sink = sink.bytes.items

-- how many bytes it may have in all
abbrev pub room_of : MemorySink → ℕ
room_of sink = sink.room

-- how many faults were counted
abbrev pub sink_faults : MemorySink → ℕ
sink_faults sink = sink.faults

-- its puts, where it tells them
abbrev pub told_puts : MemorySink → Option (List Put)
told_puts sink = kept_puts sink.log

-- its bytes, which it tells, its count of faults, and its puts
abbrev pub sunk_in : MemorySink → Sunk
sunk_in sink = record { written = Some (bytes_in sink); faults = sink_faults sink; puts = told_puts sink }

-- how many puts there were
abbrev pub puts_of : MemorySink → ℕ
puts_of sink = sink.puts

-- the numbers of the puts that are to fail, from 1
abbrev pub failing_puts : MemorySink → List ℕ
failing_puts sink = sink.failing.items

-- the next put takes this piece: its number is not listed, and the piece fits the room
abbrev pub takes : MemorySink → List ℕ → Bool
takes sink piece = not (list_any (λ number. number == raised (puts_of sink)) (failing_puts sink)) && nat_le (length (bytes_in sink) + length piece) (room_of sink)

-- how many puts it tells at most
abbrev pub most_told : ℕ
most_told = 100

-- after a put of this piece it tells its puts exactly where it told them before, and with this one they are at most 100 and
-- their pieces have no more bytes than its room
abbrev pub TellsOn : MemorySink → MemorySink → List ℕ → Type 0
TellsOn before after piece = IsSome (told_puts after) ↔ CanTell (told_puts before) (room_of before) most_told piece

-- it has this room and no bytes, nothing was counted or chosen, and it tells that nothing was put
pub record IsNewSink (room : ℕ) (sink : MemorySink) : Type 0 where
  pub empty : bytes_in sink ≡ []
  pub room_is : room_of sink ≡ room
  pub no_faults : sink_faults sink ≡ 0
  pub no_puts : puts_of sink ≡ 0
  pub none_failing : failing_puts sink ≡ []
  pub none_put : told_puts sink ≡ Some []

-- bytes, room, counts and puts stay
pub record KeepsSink (before after : MemorySink) : Type 0 where
  pub bytes : bytes_in after ≡ bytes_in before
  pub room : room_of after ≡ room_of before
  pub faults : sink_faults after ≡ sink_faults before
  pub puts : puts_of after ≡ puts_of before
  pub told : told_puts after ≡ told_puts before

-- it was put into once more, with the same room and choice of failing puts
pub record IsOnePutLater (before after : MemorySink) : Type 0 where
  pub puts : puts_of after ≡ raised (puts_of before)
  pub room : room_of after ≡ room_of before
  pub failing : failing_puts after ≡ failing_puts before
