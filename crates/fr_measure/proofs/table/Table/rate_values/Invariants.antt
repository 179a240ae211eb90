use Rattle.std.proofs.Common.{◌≡◌, ◌≤◌, length}
use Rattle.std.specs.List.{filter_map, range_with_len}
use Rattle.fr_measure.specs.Readings.{reading}
use Rattle.fr_measure.specs.Values.{rate_at}
use Rattle.fr_measure.proofs.table.Table.rate_values.Given as goal

-- the values of the key indexes below, and no more of them than indexes
abbrev pub invariant-loop-index : goal.invariant-loop-index
invariant-loop-index l =
    (l.values ≡ filter_map (rate_at (reading l.self) l.own) (range_with_len 0 l.index)) × (length l.values ≤ l.index)
