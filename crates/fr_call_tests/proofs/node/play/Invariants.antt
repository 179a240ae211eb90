use Rattle.std.specs.Prelude.{◌≡◌, IsSome}
use Rattle.fr_node.specs.Fits.{NodeFits}
use Rattle.fr_call_tests.proofs.node.play.Given as goal

-- the node goes on fitting, in its cycle
abbrev pub invariant-loop-offer : goal.invariant-loop-offer
invariant-loop-offer l = record { fits : NodeFits l.params l.node; under_way : IsSome l.node.length; cycle : l.node.cycle ≡ l.cycle }
