use Rattle.std.proofs.Common.{◌≡◌, ◌+◌, ◌*◌, ◌≤◌, length, take, None}
use Rattle.fr_trace.specs.Cycles.{history_by, kept_of}
use Rattle.fr_trace.specs.Items.{items_by}
use Rattle.fr_verdict.specs.Search.{first_from}
use Rattle.fr_check.proofs.walk.pass_cycle.Given as goal

-- no breach so far
abbrev pub invariant-loop-row : goal.invariant-loop-row
invariant-loop-row l =
    (first_from l.params l.trace l.number (items_by (history_by l.behind) (kept_of l.cycle) (take l.row-index l.cycle.rows.items)) ≡ None)
    × (l.next ≡ l.number + length (items_by (history_by l.behind) (kept_of l.cycle) (take l.row-index l.cycle.rows.items)))
    × (l.next ≤ l.number + 140_001 * l.row-index)
