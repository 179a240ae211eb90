use Rattle.std.proofs.Common.{◌≡◌, ℕ, ◌+◌, ◌-◌, ◌*◌, ◌≤◌, Result}
use Rattle.fr_base.specs.Device.{Puts, Sunk}
use Rattle.fr_base.specs.declared.sink.PutFault.{PutFault}
use Rattle.fr_sightings.specs.Senders.{sightings_in}
use Rattle.fr_findings.specs.Ground.{AreWalked, CountsFew, basis_in, offending_given}
use Rattle.fr_findings.specs.Verdict.{no_progress, progress_of, sightings_before, told_of_doubles}
use Rattle.fr_findings.proofs.Printing.{up_to}
use Rattle.fr_findings.proofs.writing.put_doubles.Given as goal

-- what is left are the sightings of the double cycles that are left; what puts their text puts that of all behind what was put,
-- and what is known behind them is known behind all
abbrev pub invariant-loop-double : goal.invariant-loop-double
invariant-loop-double g l = record {
  seen : AreWalked l.ground l.double l.rest;
  untimely : AreWalked l.ground l.double l.rest_untimely;
  irregular : AreWalked l.ground l.double l.rest_irregular;
  same : (later : ℕ) → l.double ≤ later → sightings_in l.rest later ≡ sightings_in l.frames.seen.now later;
  same_untimely : (later : ℕ) → l.double ≤ later → sightings_in l.rest_untimely later ≡ sightings_in l.frames.offending.untimely.now later;
  same_irregular : (later : ℕ) → l.double ≤ later → sightings_in l.rest_irregular later ≡ sightings_in l.frames.offending.irregular.now later;
  before : l.before ≡ sightings_before l.frames.seen.now l.double;
  within : l.double ≤ l.doubles.last + 1;
  started : l.doubles.first ≤ l.double;
  few : CountsFew (2 * (l.double - l.doubles.first)) l.progress;
  puts : (result : Result (Unit {0}) PutFault) (after : Sunk)
      → Puts result (g.O.Sink.state l.out) after (told_of_doubles (basis_in l.ground) l.frames.seen.now (offending_given l.frames.offending) l.progress (up_to l.double l.doubles.last))
      → Puts result (g.O.Sink.state l.initial.out) after (told_of_doubles (basis_in l.ground) l.frames.seen.now (offending_given l.frames.offending) no_progress (up_to l.doubles.first l.doubles.last));
  progress : progress_of (basis_in l.ground) l.frames.seen.now (offending_given l.frames.offending) l.progress (up_to l.double l.doubles.last)
      ≡ progress_of (basis_in l.ground) l.frames.seen.now (offending_given l.frames.offending) no_progress (up_to l.doubles.first l.doubles.last);
}

abbrev pub decreases-loop-double : goal.decreases-loop-double
decreases-loop-double g l = l.doubles.last + 1 - l.double
