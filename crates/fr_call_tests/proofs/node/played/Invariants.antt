use Rattle.std.specs.Prelude.{◌≡◌, ◌≤◌, IsNone}
use Rattle.fr_node.specs.Fits.{NodeFits}
use Rattle.fr_call_tests.proofs.node.played.Given as goal

-- the node goes on fitting, between its cycles
abbrev pub invariant-loop-offers : goal.invariant-loop-offers
invariant-loop-offers l = record { fits : NodeFits l.params l.node; between : IsNone l.node.length; next : l.node.cycle ≡ l.cycle }
