-- What a proof opens to compute what is printed of a run, and its first gap.
use Rattle.std.specs.Prelude.{⊤}
use Rattle.std.specs.Fmt.{digits}
use Rattle.fr_text.specs.Numerals.{hexadecimal}
use Rattle.fr_history.specs.History.{record_at}
use Rattle.fr_history.specs.Terms.{outcomes_in}
use Rattle.fr_measure.specs.Values.{values_of}
use Rattle.fr_midpoint.specs.Midpoint.{midpoint_by_ranks}
use Rattle.fr_coverage.specs.Coverage.{first_gap}
use Rattle.fr_coverage.specs.First.{first_below, first_in}
use Rattle.fr_lines.specs.Clocks.{last_offset_of}
use Rattle.fr_lines.specs.Sums.{cuts_of, totals_of}
use Rattle.fr_lines.specs.Text.{report_of, told_text, told_lines}
use Rattle.fr_lines.specs.Told.{run_told}
use Rattle.fr_history.proofs.Computing.{on_told}

-- the sums of a history
unfoldable pub on_sums : ⊤
unfolding totals_of cuts_of
on_sums = tt

-- the report of a history
unfoldable pub on_reports : ⊤
unfolding on_told on_sums outcomes_in values_of midpoint_by_ranks record_at last_offset_of digits hexadecimal report_of told_text told_lines run_told
on_reports = tt

-- the first gap of a run
unfoldable pub on_gaps : ⊤
unfolding first_gap first_below first_in
on_gaps = tt
