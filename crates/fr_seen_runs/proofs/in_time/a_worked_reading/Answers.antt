use Rattle.fr_seen_runs.proofs.WorkedReading.{worked_reading_is}
use Rattle.fr_seen_runs.proofs.in_time.a_worked_reading.Goals as goal

pub returns : goal.returns
returns c = worked_reading_is c.one_lawful_run.ensures.lawful
