-- The puts that a sink in memory keeps.
use Rattle.std.specs.Prelude.{◌≡◌, ℕ, ◌+◌, ◌<◌, ◌≤◌, List, length, Option, Some, None}
use Rattle.std.specs.List.{sum_by}
use Rattle.std.specs.Option.{option_map}
use Rattle.fr_base.specs.Device.{Put}
use Rattle.fr_program.specs.declared.put_log.PutLog.{PutLog}
use Rattle.fr_program.specs.PutMarks.{puts_by}

-- the puts that are kept
abbrev pub puts_in : PutLog → List Put
puts_in log = puts_by log.marks.items log.bytes.items

-- what is told, where puts are kept
abbrev pub kept_puts : Option PutLog → Option (List Put)
kept_puts log = option_map puts_in log

-- it has room for so many bytes and puts in all
pub record LogHasRoom (room most : ℕ) (log : PutLog) : Type 0 where
  pub bytes : log.room ≡ room
  pub puts : log.most ≡ most

-- there is room for a put of this piece
pub record Fits (log : PutLog) (piece : List ℕ) : Type 0 where
  pub bytes : length log.bytes.items + length piece ≤ log.room
  pub puts : length log.marks.items < log.most

-- how many bytes the pieces of some puts have
abbrev pub piece_bytes : List Put → ℕ
piece_bytes puts = sum_by (λ put. length put.piece) puts

-- behind these puts, a put of this piece fits a room for so many bytes and puts
pub record FitsBehind (puts : List Put) (room most : ℕ) (piece : List ℕ) : Type 0 where
  pub bytes : piece_bytes puts + length piece ≤ room
  pub one_more : length puts < most

-- puts are told, and behind them a put of this piece fits
abbrev pub CanTell : Option (List Put) → ℕ → ℕ → List ℕ → Type 0
CanTell None room most piece = ⊥
CanTell (Some puts) room most piece = FitsBehind puts room most piece
