use Rattle.fr_whole.proofs.WorkedLed.{worked_run_is_led}
use Rattle.fr_whole.proofs.power_on_laws.a_run_that_is_led.Goals as goal

pub returns : goal.returns
returns c = worked_run_is_led
