use Rattle.std.proofs.Common.{◌≡◌, length, map, take}
use Rattle.fr_report.specs.Worlds.{clock_between}
use Rattle.fr_report.proofs.clocks.clocks_of.Given as goal

-- the clocks of the nodes so far
abbrev pub invariant-loop-node : goal.invariant-loop-node
invariant-loop-node l = (l.clocks ≡ map (clock_between l.report.odd) (take l.node-index l.nodes)) × (length l.clocks ≡ l.node-index)
