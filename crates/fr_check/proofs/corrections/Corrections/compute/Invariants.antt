use Rattle.std.proofs.Common.{take}
use Rattle.std.specs.Prelude.{All}
use Rattle.fr_trace.specs.Cycles.{history_by}
use Rattle.fr_check.specs.Corrections.{IsCorrection}
use Rattle.fr_check.proofs.corrections.Corrections.compute.Given as goal

-- the terms of the rows so far are kept
abbrev pub invariant-loop-row : goal.invariant-loop-row
invariant-loop-row l = All (IsCorrection l.params (history_by l.behind) l.cycle.devs.items l.self) (take l.row-index l.cycle.rows.items)
