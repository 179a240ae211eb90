use Rattle.std.proofs.Common.{◌≡◌, ◌<◌, ℕ, length}
use Rattle.fr_poc.specs.Control.{first_status}
use Rattle.fr_check.specs.Controls.{control_at}
use Rattle.fr_check.proofs.control.all_begun.Given as goal

-- the nodes below have begun
abbrev pub invariant-loop-node : goal.invariant-loop-node
invariant-loop-node l = (length l.by_node ≡ 65) × ((k : ℕ) → k < l.node → control_at l.by_node k ≡ record { limits = l.limits; status = first_status })
