-- What became of a world whose series is written: all of it is run, or it stops where a put failed.
use Rattle.std.specs.Prelude.{◌≡◌, ℕ, suc, ◌*◌, ◌<◌, ◌≤◌, List, ◌++◌, Result, Ok, Err}
use Rattle.fr_base.specs.Device.{Puts, Sunk}
use Rattle.fr_base.specs.declared.sink.PutFault.{PutFault}
use Rattle.fr_drift.specs.Questions.{doubles_of}
use Rattle.fr_history.specs.Cycles.{told_of}
use Rattle.fr_history.specs.Next.{cycles_of}
use Rattle.fr_text.specs.Pieces.{line}
use Rattle.fr_world.specs.World.{WorldView, setting_after}
use Rattle.fr_series.specs.SeriesText.{series_head, series_rows, series_text}
use Rattle.fr_series.specs.SharpText.{sharp_head, sharp_rows, sharp_series_text}

-- ---- a text with lines for each double cycle

-- a put failed in the lines of the cycles, by those of the double cycles before one: those of every double cycle but the last that
-- was run had been put whole before
pub record StopsInRows (rows : ℕ → List ℕ) (why : PutFault) (w after : WorldView) (before now : Sunk) : Type 0 where
  pub last : ℕ
  pub inside : last < doubles_of w.drift
  pub ran : after ≡ record w { cycles = 2 * suc last }
  pub whole : Sunk
  pub left : List ℕ
  pub parted : rows (doubles_of w.drift) ≡ rows last ++ left
  pub earlier : Puts (Ok tt) before whole (rows last)
  pub failed : Puts (Err why) whole now left

-- all double cycles are run, or as many as come up to such a put
abbrev pub RowsEnd : (ℕ → List ℕ) → Result (Unit {0}) PutFault → WorldView → WorldView → Sunk → Sunk → Type 0
RowsEnd rows (Ok done) w after before now = after ≡ record w { cycles = 2 * doubles_of w.drift }
RowsEnd rows (Err why) w after before now = StopsInRows rows why w after before now

-- a put of the text failed: behind the head, if any double cycle was run, and the lines of every one but the last that was run,
-- which had been put whole before
pub record StopsWriting (head : List ℕ) (rows : ℕ → List ℕ) (text : List ℕ) (why : PutFault) (w after : WorldView) (before now : Sunk) : Type 0 where
  pub doubles : ℕ
  pub few : doubles ≤ doubles_of w.drift
  pub ran : after ≡ record w { cycles = 2 * doubles }
  pub whole : Sunk
  pub put : List ℕ
  pub left : List ℕ
  pub parted : text ≡ put ++ left
  pub begins : (last : ℕ) → doubles ≡ suc last → (more : List ℕ) × (put ≡ head ++ rows last ++ more)
  pub earlier : Puts (Ok tt) before whole put
  pub failed : Puts (Err why) whole now left

-- all cycles of a world are run, or it stops where a put failed, and then no further double cycle is run
abbrev pub WritingEnds : List ℕ → (ℕ → List ℕ) → List ℕ → Result (Unit {0}) PutFault → WorldView → WorldView → Sunk → Sunk → Type 0
WritingEnds head rows text (Ok done) w after before now = after ≡ record w { cycles = 2 * doubles_of w.drift }
WritingEnds head rows text (Err why) w after before now = StopsWriting head rows text why w after before now

-- ---- both series

-- the lines of the double cycles of a world's run before one
abbrev pub rows_before : WorldView → ℕ → List ℕ
rows_before w double = series_rows w.params (told_of (cycles_of (setting_after w) (2 * double)))

-- what became of the world whose series is written
abbrev pub SeriesEnds : Result (Unit {0}) PutFault → WorldView → WorldView → Sunk → Sunk → Type 0
SeriesEnds result w after before now = WritingEnds (line series_head) (rows_before w) (series_text w.params w.drift w.script) result w after before now

-- the same lines of a sharper series, and what became of the world whose sharper series is written
abbrev pub sharp_rows_before : WorldView → ℕ → List ℕ
sharp_rows_before w double = sharp_rows w.params w.drift w.script (cycles_of (setting_after w) (2 * double))

abbrev pub SharpSeriesEnds : Result (Unit {0}) PutFault → WorldView → WorldView → Sunk → Sunk → Type 0
SharpSeriesEnds result w after before now =
    WritingEnds (line sharp_head) (sharp_rows_before w) (sharp_series_text w.params w.drift w.script) result w after before now
