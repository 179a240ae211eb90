-- The sharper series of a run as a text, line by line.
use Rattle.std.specs.Prelude.{ℕ, ℤ, ◌+◌, ◌*◌, ◌/◌, Bool, true, false, List, [], ◌∷◌, ◌++◌, codes, length, Option, Some, None, unwrap_or}
use Rattle.std.specs.Fmt.{decimal, signed_decimal}
use Rattle.fr_base.specs.Channels.{letter}
use Rattle.fr_base.specs.declared.node_row.NodeRow.{NodeRow}
use Rattle.fr_bound.specs.Sync.{is_in_sync}
use Rattle.fr_cluster.specs.Values.{Values}
use Rattle.fr_coverage.specs.Decided.{setting_of}
use Rattle.fr_coverage.specs.Flutter.{flutter_from}
use Rattle.fr_coverage.specs.Phrases.{gap_text}
use Rattle.fr_coverage.specs.declared.gap.Fluttering.{Fluttering}
use Rattle.fr_coverage.specs.declared.gap.Gap.{Gap}
use Rattle.fr_drift.specs.Questions.{doubles_of}
use Rattle.fr_drift.specs.View.{DriftView}
use Rattle.fr_script.specs.View.{ScriptView}
use Rattle.fr_time.specs.Position.{grid_for}
use Rattle.fr_time.specs.declared.grid.Grid.{Grid}
use Rattle.fr_skew.specs.declared.peak.Peak.{Peak}
use Rattle.fr_history.specs.Cycles.{Cycles}
use Rattle.fr_history.specs.Next.{cycles_of}
use Rattle.fr_text.specs.Pieces.{line}
use Rattle.fr_promise.specs.SharpTested.{is_in_sharp_sync}
use Rattle.fr_sharp.specs.SharpStatement.{has_arbitrary}
use Rattle.fr_series.specs.Basis.{asked_from, basis_of, first_sharp_of, tally_of}
use Rattle.fr_series.specs.Scale.{peak_by}
use Rattle.fr_series.specs.SharpLosses.{bound_or_none, hearing_text, kept_by, lost_text}
use Rattle.fr_series.specs.SeriesText.{above_text, greatest_text, series_head, series_row, synced_text, within_text, yes_or_no}
use Rattle.fr_series.specs.declared.basis.Basis.{Basis}
use Rattle.fr_series.specs.declared.kept.Kept.{Kept}
use Rattle.fr_series.specs.declared.tally.Tally.{Tally}

-- ---- the cycles: as in a series, with three columns more

abbrev pub sharp_head : List ℕ
sharp_head = series_head ++ codes ",sharp,heard,bound"

-- whether the double cycle of a cycle is in sharp sync, what is heard in it, and how far macroticks may lie apart in it
abbrev pub sharp_row : ℕ → Bool → Bool → Kept → Option Peak → List ℕ
sharp_row cycle in_sync sharp kept peak =
    series_row cycle in_sync peak ++ codes "," ++ yes_or_no sharp
    ++ codes "," ++ hearing_text kept ++ codes "," ++ bound_or_none kept.bound

abbrev pub sharp_double_by : Grid → Bool → Bool → Kept → ℕ → List NodeRow → List NodeRow → List ℕ
sharp_double_by grid in_sync sharp kept cycle even odd =
    line (sharp_row cycle in_sync sharp kept (peak_by grid cycle even))
    ++ line (sharp_row (cycle + 1) in_sync sharp kept (peak_by grid (cycle + 1) odd))

-- by the first double cycle in sharp sync before a double cycle, and by the first one up to it: the numbers are those from that first
-- one on, and else those from the double cycle itself on
abbrev pub sharp_double_text : Values → DriftView → ScriptView → Option ℕ → Option ℕ → ℕ → List NodeRow → List NodeRow → List ℕ
sharp_double_text p d s before synced double even odd =
    sharp_double_by (grid_for p) (is_in_sync p even odd)
    (is_in_sharp_sync (has_arbitrary p s) p (flutter_from p d s (unwrap_or before double)) even odd) (kept_by p d s synced double)
    (2 * double) even odd

-- whole double cycles of a run
unfoldable pub sharp_rows : Values → DriftView → ScriptView → Cycles → List ℕ
sharp_rows p d s [] = []
sharp_rows p d s (c ∷ []) = []
sharp_rows p d s (odd ∷ even ∷ h) =
    sharp_rows p d s h
    ++ sharp_double_text p d s (first_sharp_of p d s h) (first_sharp_of p d s (odd ∷ even ∷ h)) (length h / 2) even.told.rows odd.told.rows

-- ---- the lines at the end

-- the flutter, in ticks, and its place: the last double cycle in which a delay flutters so, and the first such delay in it
abbrev pub place_text : Fluttering → List ℕ
place_text place =
    codes "delay " ++ decimal place.sender ++ codes " " ++ decimal place.receiver ++ codes " " ++ letter place.channel ++ codes " "
    ++ decimal place.double

abbrev pub flutter_text : Option Fluttering → List ℕ
flutter_text None = codes "flutter,0,,,"
flutter_text (Some place) = codes "flutter," ++ decimal place.ticks ++ codes ",,," ++ place_text place

-- the sharper precision, in ticks, and whether it is that beside arbitrary sync nodes
abbrev pub beside_or_alone : Bool → List ℕ
beside_or_alone false = codes "alone"
beside_or_alone true = codes "beside"

abbrev pub sharp_precision_text : ℤ → Bool → List ℕ
sharp_precision_text precision beside = codes "sharp," ++ signed_decimal precision ++ codes "," ++ beside_or_alone beside ++ codes ",,"

-- whether the run is sharply covered, or why it is not
abbrev pub sharp_covered_text : Option Gap → List ℕ
sharp_covered_text None = codes "sharp covered,yes,,,"
sharp_covered_text (Some gap) = gap_text (codes "sharp covered,no,,,") gap

-- the first double cycle in sharp sync in which no node follows, and for how many since then it stays so
abbrev pub doubles_or_on : Option ℕ → List ℕ
doubles_or_on None = codes "on"
doubles_or_on (Some doubles) = decimal doubles

abbrev pub sharp_synced_text : Option ℕ → Option ℕ → List ℕ
sharp_synced_text None lasts = codes "sharp synced,-,,,"
sharp_synced_text (Some double) lasts = codes "sharp synced," ++ decimal double ++ codes "," ++ doubles_or_on lasts ++ codes ",,"

-- the greatest skew since then, and whether none was above the sharper precision, or the first place where one was
abbrev pub sharp_greatest_text : Option Peak → List ℕ
sharp_greatest_text peak = codes "sharp " ++ greatest_text peak ++ codes ","

abbrev pub sharp_above_text : Option Peak → List ℕ
sharp_above_text above = codes "sharp " ++ above_text above ++ codes ","

abbrev pub sharp_within_text : Option ℕ → Option Peak → List ℕ
sharp_within_text synced above = codes "sharp " ++ within_text synced above ++ codes ","

-- those of a series
unfoldable pub older_end : Tally → List ℕ
older_end tally =
    line (greatest_text tally.older.greatest ++ codes ",")
    ++ line (synced_text tally.older.lost ++ codes ",")
    ++ line (within_text tally.older.synced tally.older.above ++ codes ",")

unfoldable pub sharp_end : Basis → Tally → List ℕ
sharp_end basis tally =
    line (flutter_text basis.fluttering)
    ++ line (sharp_precision_text basis.precision basis.beside)
    ++ line (sharp_covered_text basis.gap)
    ++ line (sharp_synced_text tally.sharp.synced basis.lasts)
    ++ line (sharp_greatest_text tally.sharp.greatest)
    ++ line (sharp_within_text tally.sharp.synced tally.sharp.above)
    ++ line (lost_text basis)

-- the sharper series of some cycles, with what it rests on from their first double cycle in sharp sync on
unfoldable pub sharp_series_by : Values → DriftView → ScriptView → Cycles → List ℕ
sharp_series_by p d s h =
    line sharp_head
    ++ sharp_rows p d s h
    ++ older_end (tally_of p d s h)
    ++ sharp_end (basis_of p d s (asked_from p d s h)) (tally_of p d s h)

-- that of the run of some parameters, a drift and a script, over all its cycles
abbrev pub sharp_series_text : Values → DriftView → ScriptView → List ℕ
sharp_series_text p d s = sharp_series_by p d s (cycles_of (setting_of p d s) (2 * doubles_of d))
