-- What is seen of a double cycle and known of it holds, and what its nodes missed: so do its standings.
use Rattle.fr_course.proofs.MiddleLaws.{middles_hold_lem}
use Rattle.fr_course.proofs.ValueLaws.{values_are_counted_lem, values_are_placed_lem}
use Rattle.fr_seen_runs.specs.Standings.{StandingsAreSo}
use Rattle.fr_seen_runs.proofs.ComputedFaults.{missed_is_so}
use Rattle.fr_seen_runs.proofs.JudgedComputed.{offsets_are_computed, rates_are_computed}
use Rattle.fr_seen_runs.proofs.KnownDoubles.{seen_is_known}
use Rattle.fr_seen_runs.proofs.KnownFaults.{no_known_fault, no_skew_fault_within}
use Rattle.fr_seen_runs.proofs.Standings.{KnownIsKept, standings_hold}

pub known_is_kept : KnownIsKept
known_is_kept = record {
  seen = seen_is_known;
  fault = no_known_fault;
  skew = no_skew_fault_within;
  missed = missed_is_so (offsets_are_computed values_are_counted_lem middles_hold_lem) (rates_are_computed values_are_counted_lem values_are_placed_lem middles_hold_lem);
}

pub standings_are_so : StandingsAreSo
standings_are_so = standings_hold known_is_kept
