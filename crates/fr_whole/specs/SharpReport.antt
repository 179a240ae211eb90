-- The report of a run by the sharper bounds as a text, line by line: what they say of the run, and then its report.
use Rattle.std.specs.Prelude.{ℕ, ℤ, ◌*◌, Bool, true, false, List, ◌++◌, codes, Option, Some, None}
use Rattle.std.specs.Fmt.{decimal, signed_decimal}
use Rattle.std.specs.Option.{option_map}
use Rattle.fr_cluster.specs.Values.{Values}
use Rattle.fr_coverage.specs.Decided.{setting_of}
use Rattle.fr_coverage.specs.Flutter.{flutter_from}
use Rattle.fr_coverage.specs.Phrases.{gap_text}
use Rattle.fr_coverage.specs.declared.gap.Fluttering.{Fluttering}
use Rattle.fr_coverage.specs.declared.gap.Gap.{Gap}
use Rattle.fr_drift.specs.Questions.{doubles_of}
use Rattle.fr_drift.specs.View.{DriftView}
use Rattle.fr_script.specs.View.{ScriptView}
use Rattle.fr_skew.specs.declared.peak.Peak.{Peak}
use Rattle.fr_history.specs.Cycles.{Cycles}
use Rattle.fr_history.specs.Next.{cycles_of}
use Rattle.fr_report.specs.RunText.{run_text}
use Rattle.fr_text.specs.Lines.{shown}
use Rattle.fr_text.specs.Pieces.{line}
use Rattle.fr_series.specs.Basis.{asked_from, basis_of, sharp_figures_of}
use Rattle.fr_series.specs.SharpLosses.{last_lost_text}
use Rattle.fr_series.specs.SharpText.{beside_or_alone, doubles_or_on, place_text}
use Rattle.fr_series.specs.declared.basis.Basis.{Basis}
use Rattle.fr_series.specs.declared.tally.SharpFigures.{SharpFigures}
use Rattle.fr_whole.specs.SharpGaps.{sharp_gaps_of}
use Rattle.fr_whole.specs.declared.sharp_gaps.SharpGaps.{SharpGaps}

-- ---- the lines

-- the flutter, in ticks, and its place
abbrev pub flutter_told : Option Fluttering → List ℕ
flutter_told None = codes "sharp flutter 0"
flutter_told (Some place) = codes "sharp flutter " ++ decimal place.ticks ++ codes " " ++ place_text place

-- the sharper precision, in ticks, and whether it is that beside arbitrary sync nodes
abbrev pub precision_told : ℤ → Bool → List ℕ
precision_told precision beside = codes "sharp precision " ++ signed_decimal precision ++ codes " " ++ beside_or_alone beside

-- whether the run is sharply covered, by its first gap
abbrev pub covered_shown : Option Gap → Option (List ℕ)
covered_shown None = Some (line (codes "sharp covered yes"))
covered_shown (Some gap) = None

-- or why it is not: a gap of a kind
abbrev pub gap_shown : Gap → List ℕ
gap_shown gap = line (gap_text (codes "sharp covered no ") gap)

abbrev pub gap_told : Option Gap → List ℕ
gap_told gap = shown (option_map gap_shown gap)

-- the first double cycle in sharp sync in which no node follows, and for how many since then it stays so
abbrev pub synced_told : Option ℕ → Option ℕ → List ℕ
synced_told None lasts = codes "sharp in sync no"
synced_told (Some double) lasts = codes "sharp in sync " ++ decimal double ++ codes " " ++ doubles_or_on lasts

-- the greatest skew since then, in ticks, and its first place
abbrev pub greatest_told : Peak → List ℕ
greatest_told peak =
    codes "sharp greatest skew " ++ signed_decimal peak.skew
    ++ codes " cycle " ++ decimal peak.cycle ++ codes " macrotick " ++ decimal peak.macrotick

abbrev pub greatest_shown : Peak → List ℕ
greatest_shown peak = line (greatest_told peak)

-- whether no skew since then was above the sharper precision, or the first that was, and its place
abbrev pub above_told : Option Peak → List ℕ
above_told None = codes "sharp within yes"
above_told (Some peak) =
    codes "sharp within no " ++ signed_decimal peak.skew
    ++ codes " cycle " ++ decimal peak.cycle ++ codes " macrotick " ++ decimal peak.macrotick

abbrev pub within_told : Option ℕ → Option Peak → List ℕ
within_told None above = codes "sharp within -"
within_told (Some double) above = above_told above

-- how many double cycles lose frames, the last one, and the greatest bound with its double cycle; none where the run is not covered
-- through losses
abbrev pub lost_bound_told : Bool → ℕ → ℕ → List ℕ
lost_bound_told false peak place = codes "-"
lost_bound_told true peak place = decimal peak ++ codes " double " ++ decimal place

abbrev pub lost_told : Basis → List ℕ
lost_told basis =
    codes "sharp lost " ++ decimal basis.lost ++ codes " last " ++ last_lost_text basis.last_lost ++ codes " bound "
    ++ lost_bound_told basis.through basis.peak basis.place

-- ---- the text

-- what the sharper bounds say, by what a run rests on, its gaps and the figures of sharp sync; where no double cycle is in sharp sync there
-- is no line of a greatest skew
unfoldable pub sharp_lines_of : Basis → SharpGaps → SharpFigures → List ℕ
sharp_lines_of basis gaps figures =
    line (flutter_told basis.fluttering)
    ++ line (precision_told basis.precision basis.beside)
    ++ shown (covered_shown basis.gap)
    ++ gap_told gaps.second
    ++ gap_told gaps.third
    ++ gap_told gaps.fourth
    ++ gap_told gaps.fifth
    ++ gap_told gaps.sixth
    ++ gap_told gaps.seventh
    ++ gap_told gaps.eighth
    ++ gap_told gaps.ninth
    ++ gap_told gaps.run.count
    ++ gap_told gaps.run.lengths
    ++ gap_told gaps.run.changes
    ++ gap_told gaps.run.delays
    ++ gap_told gaps.run.links
    ++ line (synced_told figures.synced basis.lasts)
    ++ shown (option_map greatest_shown figures.greatest)
    ++ line (within_told figures.synced figures.above)
    ++ line (lost_told basis)

-- what they say of some cycles, from their first double cycle in sharp sync on
abbrev pub sharp_lines_by : Values → DriftView → ScriptView → Cycles → List ℕ
sharp_lines_by p d s h =
    sharp_lines_of (basis_of p d s (asked_from p d s h)) (sharp_gaps_of p d s (asked_from p d s h) (flutter_from p d s (asked_from p d s h)))
    (sharp_figures_of p d s h)

-- of the run of some parameters, a drift and a script, over all its cycles, with the report of that run
abbrev pub sharp_report_text : Values → DriftView → ScriptView → List ℕ
sharp_report_text p d s = sharp_lines_by p d s (cycles_of (setting_of p d s) (2 * doubles_of d)) ++ run_text p d s
