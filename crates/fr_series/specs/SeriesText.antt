-- The series of a run as a text, line by line.
use Rattle.std.specs.Prelude.{ℕ, ◌+◌, ◌*◌, Bool, true, false, List, [], ◌∷◌, ◌++◌, codes, length, Option, Some, None}
use Rattle.std.specs.Fmt.{decimal, signed_decimal}
use Rattle.fr_base.specs.declared.node_row.NodeRow.{NodeRow}
use Rattle.fr_bound.specs.Sync.{is_in_sync}
use Rattle.fr_cluster.specs.Values.{Values}
use Rattle.fr_coverage.specs.Decided.{setting_of}
use Rattle.fr_drift.specs.Questions.{doubles_of}
use Rattle.fr_drift.specs.View.{DriftView}
use Rattle.fr_script.specs.View.{ScriptView}
use Rattle.fr_time.specs.Position.{grid_for}
use Rattle.fr_time.specs.declared.grid.Grid.{Grid}
use Rattle.fr_skew.specs.declared.peak.Peak.{Peak}
use Rattle.fr_history.specs.History.{History, Record}
use Rattle.fr_history.specs.Cycles.{Cycles, told_of}
use Rattle.fr_history.specs.Next.{cycles_of}
use Rattle.fr_text.specs.Pieces.{line}
use Rattle.fr_series.specs.Figures.{figures_of}
use Rattle.fr_series.specs.Scale.{peak_by}
use Rattle.fr_series.specs.declared.figures.Figures.{Figures}

abbrev pub series_head : List ℕ
series_head = codes "cycle,in_sync,skew,macrotick"

abbrev pub yes_or_no : Bool → List ℕ
yes_or_no true = codes "yes"
yes_or_no false = codes "no"

-- a skew in ticks and its macrotick
abbrev pub peak_text : Option Peak → List ℕ
peak_text None = codes "-,-"
peak_text (Some peak) = signed_decimal peak.skew ++ codes "," ++ decimal peak.macrotick

-- a cycle: its number, whether its double cycle is in sync, and its greatest skew with its first macrotick
abbrev pub series_row : ℕ → Bool → Option Peak → List ℕ
series_row cycle in_sync peak = decimal cycle ++ codes "," ++ yes_or_no in_sync ++ codes "," ++ peak_text peak

-- the two cycles of a double cycle
abbrev pub double_by : Grid → Bool → ℕ → List NodeRow → List NodeRow → List ℕ
double_by grid in_sync cycle even odd =
    line (series_row cycle in_sync (peak_by grid cycle even)) ++ line (series_row (cycle + 1) in_sync (peak_by grid (cycle + 1) odd))

abbrev pub double_text : Values → ℕ → Record → Record → List ℕ
double_text p cycle even odd = double_by (grid_for p) (is_in_sync p even.rows odd.rows) cycle even.rows odd.rows

-- the cycles of a history of whole double cycles
unfoldable pub series_rows : Values → History → List ℕ
series_rows p [] = []
series_rows p (r ∷ []) = []
series_rows p (odd ∷ even ∷ h) = series_rows p h ++ double_text p (length h) even odd

-- the greatest skew since the first double cycle in sync in which no node follows, and its first place
abbrev pub greatest_text : Option Peak → List ℕ
greatest_text None = codes "greatest,-,-,-"
greatest_text (Some peak) =
    codes "greatest," ++ signed_decimal peak.skew ++ codes "," ++ decimal peak.cycle ++ codes "," ++ decimal peak.macrotick

-- whether the last double cycle is in sync, or from which double cycle on none is
abbrev pub synced_text : Option ℕ → List ℕ
synced_text None = codes "synced,yes,,"
synced_text (Some double) = codes "synced,no," ++ decimal double ++ codes ","

-- whether the skew stayed within the precision since then, or the first place where it did not
abbrev pub above_text : Option Peak → List ℕ
above_text None = codes "within,yes,,"
above_text (Some peak) = codes "within,no," ++ decimal peak.cycle ++ codes "," ++ decimal peak.macrotick

abbrev pub within_text : Option ℕ → Option Peak → List ℕ
within_text None above = codes "within,-,,"
within_text (Some first) above = above_text above

-- the lines at the end
unfoldable pub series_end : Figures → List ℕ
series_end figures =
    line (greatest_text figures.greatest) ++ line (synced_text figures.lost) ++ line (within_text figures.synced figures.above)

-- the series of some cycles
unfoldable pub series_of : Values → Cycles → List ℕ
series_of p h = line series_head ++ series_rows p (told_of h) ++ series_end (figures_of p h)

-- the series of the run of some parameters, a drift and a script, over all its cycles
abbrev pub series_text : Values → DriftView → ScriptView → List ℕ
series_text p d s = series_of p (cycles_of (setting_of p d s) (2 * doubles_of d))
