use Rattle.fr_seen.proofs.Readings.{readings_have_ticks, ticks_have_readings}
use Rattle.fr_seen.proofs.clocks.readings_are_near_ticks.Goals as goal

pub returns-clause-readings : goal.returns-clause-readings
returns-clause-readings c = ticks_have_readings

pub returns-clause-ticks : goal.returns-clause-ticks
returns-clause-ticks c = readings_have_ticks
