use Rattle.std.proofs.Common.{◌≡◌, ◌*◌, ◌≤◌, take}
use Rattle.std.specs.List.{sum_by}
use Rattle.fr_lines.proofs.rows.cuts.Given as goal

-- the cuts of the rows so far, each of which has a byte of them
abbrev pub invariant-loop-row : goal.invariant-loop-row
invariant-loop-row l = (l.cuts ≡ sum_by (λ row. row.cut) (take l.row-index l.rows)) × (l.cuts ≤ 255 * l.row-index)
