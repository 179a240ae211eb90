use Rattle.std.proofs.Common.{◌≤◌}
use Rattle.fr_traffic.specs.Traffic.{lacking_for, traffic_with}
use Rattle.fr_traffic.proofs.bearing.lacks_for.Given as goal

-- in so many it has
abbrev pub invariant-loop-back : goal.invariant-loop-back
invariant-loop-back l = l.back ≤ lacking_for (traffic_with l.nodes l.script) l.node l.fn.double
