-- The worked log as it is read, whether or not its frames come in time: so what the law of time asks can be met.
use Rattle.std.specs.Prelude.{◌≡◌, false, true, None}
use Rattle.fr_sightings.specs.Sure.{are_numbers_sure}
use Rattle.fr_seen_runs.specs.InTime.{IsReadNear}
use Rattle.fr_seen_runs.specs.WorkedLog.{no_delays, seen_cluster, seen_cycles, seen_log, seen_run, true_clock}

-- the log is read of the cycles of the run, whose nodes start near each other from its first double cycle on; and its numbers are
-- sure
pub record WorkedReading : Type 0 where
  pub read : IsReadNear seen_run seen_cycles 0 no_delays true_clock (seen_log None false) 0
  pub sure : are_numbers_sure seen_cluster (seen_log None false) ≡ true
