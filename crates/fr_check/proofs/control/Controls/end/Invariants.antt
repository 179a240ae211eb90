use Rattle.std.proofs.Common.{ℕ, ◌≤◌, List, take}
use Rattle.std.specs.Prelude.{All}
use Rattle.fr_base.specs.declared.dev.Dev.{Dev}
use Rattle.fr_cluster.specs.Values.{Values}
use Rattle.fr_history.specs.History.{History}
use Rattle.fr_check.specs.Controls.{HasStepped, Hold}
use Rattle.fr_check.specs.Corrections.{IsCorrection}
use Rattle.fr_check.proofs.control.Controls.end.Given as goal

-- the nodes of the rows so far have stepped, the others stand as before
abbrev pub invariant-loop-row : goal.invariant-loop-row
invariant-loop-row l =
    (p : Values) (h : History) (odds : List Dev) → All (IsCorrection p h odds l.corrections) l.rows → Hold p h l.initial.self
    → (node : ℕ) → 1 ≤ node → node ≤ 64 → HasStepped p h odds (take l.row-index l.rows) l.self node
