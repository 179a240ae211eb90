use Rattle.std.proofs.Common.{◌≤◌, ◌+◌, ◌*◌, take}
use Rattle.fr_history.specs.Gauged.{GaugeHolds}
use Rattle.fr_trace.specs.Cycles.{history_by}
use Rattle.fr_trace.specs.Items.{first_number}
use Rattle.fr_check.specs.Controls.{Hold}
use Rattle.fr_check.specs.Corrections.{AreLatest}
use Rattle.fr_check.specs.Followed.{followed_by}
use Rattle.fr_check.proofs.Gathering.{Passed}
use Rattle.fr_check.proofs.checking.gauged.Given as goal

-- no breach so far, and all that is kept is of the cycles so far
abbrev pub invariant-loop-n : goal.invariant-loop-n
invariant-loop-n l =
    Passed l.params l.trace (first_number l.trace) l.number (history_by (take l.n l.cycles))
    × ((l.number ≤ 130 + 9_000_000 * l.n)
    × (Hold l.params (history_by (take l.n l.cycles)) l.controls
    × (AreLatest l.params (history_by (take l.n l.cycles)) l.corrections
    × GaugeHolds l.params l.gauge (followed_by l.trace (history_by (take l.n l.cycles))))))
