-- The run that three files decide.
use Rattle.fr_cluster.specs.Values.{Values}
use Rattle.fr_drift.specs.Questions.{delay_of, doubles_of, length_of, rate_of, start_of}
use Rattle.fr_drift.specs.View.{DriftView}
use Rattle.fr_script.specs.Events.{event_of}
use Rattle.fr_script.specs.View.{ScriptView, is_arbitrary, join_of}
use Rattle.fr_cluster.specs.Setting.{Setting}

-- the setting of a parameter file, a drift file and a script
abbrev pub setting_of : Values → DriftView → ScriptView → Setting
setting_of p d s = record {
  params = p;
  doubles = doubles_of d;
  start = start_of d;
  rate = rate_of d;
  microtick = length_of d;
  delay = delay_of d;
  is_arbitrary = is_arbitrary s;
  event = event_of s;
  join = join_of s;
}
