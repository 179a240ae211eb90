-- Sums over a history.
use Rattle.std.specs.Prelude.{ℕ, ◌+◌, List, [], ◌∷◌}
use Rattle.std.specs.List.{sum_by}
use Rattle.fr_base.specs.Counts.{no_counts, sum_of}
use Rattle.fr_base.specs.declared.cycle_row.Counts.{Counts}
use Rattle.fr_base.specs.declared.node_row.NodeRow.{NodeRow}
use Rattle.fr_history.specs.History.{History}

-- the counts of all cycles: the sums of numbers, and the sums without carry of frame CRCs
unfoldable pub totals_of : History → Counts
totals_of [] = no_counts
totals_of (r ∷ h) = sum_of (totals_of h) r.counts

-- how many correction terms were cut in a cycle, and in all
abbrev pub cuts_in_rows : List NodeRow → ℕ
cuts_in_rows rows = sum_by (λ row. row.cut) rows

unfoldable pub cuts_of : History → ℕ
cuts_of [] = 0
cuts_of (r ∷ h) = cuts_of h + cuts_in_rows r.rows
