-- What the sharper bounds say of a recorded trace as a text, line by line.
use Rattle.std.specs.Prelude.{ℕ, List, ◌++◌, codes, Option, Some, None}
use Rattle.std.specs.Fmt.{decimal, signed_decimal}
use Rattle.std.specs.Option.{option_map}
use Rattle.fr_answer.specs.SharpText.{sharp_check_line}
use Rattle.fr_bound.specs.SharpBounds.{sharp_precision}
use Rattle.fr_cluster.specs.Values.{Values}
use Rattle.fr_series.specs.SharpText.{doubles_or_on}
use Rattle.fr_skew.specs.declared.peak.Peak.{Peak}
use Rattle.fr_text.specs.Lines.{shown}
use Rattle.fr_text.specs.Pieces.{line}
use Rattle.fr_trace.specs.Trace.{TraceView}
use Rattle.fr_verdict.specs.SharpTraces.{recorded_flutter}
use Rattle.fr_whole.specs.TracedFigures.{is_kind_beside, traced_figures_of}
use Rattle.fr_whole.specs.TracedMeaning.{traced_lasts}
use Rattle.fr_whole.specs.declared.traced_figures.TracedFigures.{TracedFigures}
use Rattle.fr_whole.specs.declared.traced_figures.TracedKind.{TracedKind}
use Rattle.fr_whole.specs.declared.traced_figures.TracedKind.TheVariants.{Alone, Alike, Beside}

-- ---- the lines

-- for which kind of cluster it counts
abbrev pub traced_kind_text : TracedKind → List ℕ
traced_kind_text Alone = codes "kind alone"
traced_kind_text Alike = codes "kind alike"
traced_kind_text Beside = codes "kind beside"

-- the first double cycle in sharp sync, and for how many since then it stays so
abbrev pub traced_sync_text : Option ℕ → Option ℕ → List ℕ
traced_sync_text None lasts = codes "in sync never"
traced_sync_text (Some double) lasts = codes "in sync " ++ decimal double ++ codes " " ++ doubles_or_on lasts

-- the first one since then in which some arbitrary node is not alike
abbrev pub unlike_shown : ℕ → List ℕ
unlike_shown double = line (codes "unlike " ++ decimal double)

-- a skew, in ticks, and its first place, behind a text in front
abbrev pub skew_place_text : List ℕ → Peak → List ℕ
skew_place_text front peak =
    front ++ signed_decimal peak.skew ++ codes " cycle " ++ decimal peak.cycle ++ codes " macrotick " ++ decimal peak.macrotick

abbrev pub greatest_skew_shown : Peak → List ℕ
greatest_skew_shown peak = line (skew_place_text (codes "greatest skew ") peak)

-- whether no skew since then is above the sharper precision, or the first that is
abbrev pub traced_above_text : Option Peak → List ℕ
traced_above_text None = codes "within yes"
traced_above_text (Some peak) = skew_place_text (codes "within no ") peak

abbrev pub traced_within_text : Option ℕ → Option Peak → List ℕ
traced_within_text None above = codes "within -"
traced_within_text (Some double) above = traced_above_text above

-- ---- the text

-- by the figures of a trace: the flutter and the sharper precision, in ticks, and the first three checks, all of its kind; the last two
-- are not asked of a trace; where no double cycle is in sharp sync there is no line of a greatest skew
unfoldable pub sharp_check_lines : Values → TracedFigures → List ℕ
sharp_check_lines p figures =
    line (codes "flutter " ++ decimal (recorded_flutter p))
    ++ line (traced_kind_text figures.kind)
    ++ line (codes "precision " ++ decimal (sharp_precision (is_kind_beside figures.kind) p (recorded_flutter p)))
    ++ sharp_check_line (codes "") (is_kind_beside figures.kind) (recorded_flutter p) 1 p
    ++ sharp_check_line (codes "") (is_kind_beside figures.kind) (recorded_flutter p) 2 p
    ++ sharp_check_line (codes "") (is_kind_beside figures.kind) (recorded_flutter p) 3 p
    ++ line (traced_sync_text figures.sharp.synced (traced_lasts (is_kind_beside figures.kind) p))
    ++ shown (option_map unlike_shown figures.unlike)
    ++ shown (option_map greatest_skew_shown figures.sharp.greatest)
    ++ line (traced_within_text figures.sharp.synced figures.sharp.above)

abbrev pub sharp_check_text : Values → TraceView → List ℕ
sharp_check_text p t = sharp_check_lines p (traced_figures_of p t)
