use Rattle.std.proofs.Common.{◌≡◌, ℕ, ◌+◌, ◌-◌, ◌*◌, ◌≤◌}
use Rattle.fr_time.specs.Cycles.{double_cycle_of}
use Rattle.fr_sightings.specs.Ranges.{AreSeenFrom, DoublesAscend}
use Rattle.fr_sightings.specs.Senders.{sightings_in}
use Rattle.fr_findings.specs.Census.{missed_among}
use Rattle.fr_findings.proofs.Missed.{up_to}
use Rattle.fr_findings.proofs.census.missed_between.Given as goal

-- what is left are the sightings of the double cycles that are left
abbrev pub invariant-loop-double : goal.invariant-loop-double
invariant-loop-double l = record {
  from : AreSeenFrom l.double l.rest;
  ascend : DoublesAscend l.rest;
  same : (later : ℕ) → l.double ≤ later → sightings_in l.rest later ≡ sightings_in l.seen later;
  within : l.double ≤ double_cycle_of l.span.last + 1;
  started : double_cycle_of l.span.first ≤ l.double;
  few : l.missed ≤ 2 * (l.double - double_cycle_of l.span.first);
  total : l.missed + missed_among l.span.first l.span.last l.seen l.node l.channel (up_to l.double (double_cycle_of l.span.last))
      ≡ missed_among l.span.first l.span.last l.seen l.node l.channel (up_to (double_cycle_of l.span.first) (double_cycle_of l.span.last));
}

abbrev pub decreases-loop-double : goal.decreases-loop-double
decreases-loop-double l = double_cycle_of l.span.last + 1 - l.double
