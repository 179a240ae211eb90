use Rattle.std.proofs.Common.{◌≡◌, ◌<◌, ◌≤◌, ◌-◌, None}
use Rattle.fr_coverage.specs.First.{first_between}
use Rattle.fr_coverage.specs.Links.{link_gap}
use Rattle.fr_coverage.proofs.linking.first_break.Given as goal

abbrev pub invariant-loop-double : goal.invariant-loop-double
invariant-loop-double l = record {
  within : l.double ≤ l.doubles;
  behind : l.double < l.doubles → l.from ≤ l.double;
  none : first_between (link_gap l.script l.sender l.receiver) l.from l.double ≡ None;
}

abbrev pub decreases-loop-double : goal.decreases-loop-double
decreases-loop-double l = l.doubles - l.double
