-- Worked files of a run that a node leads: what is promised from power-on is not empty.
use Rattle.std.specs.Prelude.{◌≡◌, ℕ, pos, true, false, [], ◌∷◌, ◌++◌, replicate, Option, Some, None}
use Rattle.fr_bound.specs.SharpChecks.{sharp_holds_of}
use Rattle.fr_cluster.specs.declared.join.Join.{Join}
use Rattle.fr_cold.specs.Cluster.{Switches}
use Rattle.fr_coverage.specs.Decided.{setting_of}
use Rattle.fr_drift.specs.Questions.{start_of}
use Rattle.fr_drift.specs.View.{DriftView}
use Rattle.fr_drift.specs.Keys.{delay_key, length_key}
use Rattle.fr_script.specs.View.{ScriptView}
use Rattle.fr_sharp.specs.JoinedFiles.{IsSharplyCoveredToJoin}
use Rattle.fr_promise.specs.SharpJoining.{sharp_reach}
use Rattle.fr_sharp.specs.WorkedRun.{steady_cluster}
use Rattle.fr_whole.specs.PowerOn.{IsLedRun, StartsAsItLeads}

-- four double cycles: the microticks of nodes 1 and 2 lie 20 ppm apart, and frames of node 1 travel to node 2 for 250 ticks longer in
-- cycle 1 than in cycle 0
abbrev pub led_drift : DriftView
led_drift = record {
  doubles = 4;
  compensation_a = pos 7;
  compensation_b = pos 7;
  starts = [];
  lengths = (length_key 1 0, pos 1_000_010) ∷ (length_key 2 0, pos 999_990) ∷ [];
  delays_a = (delay_key 1 2 1, pos 7_000_250) ∷ (delay_key 1 2 2, pos 7_000_000) ∷ [];
  delays_b = [];
}

-- nodes 2 to 4 listen to node 1 in double cycle 0
abbrev pub led_script : ScriptView
led_script = record {
  arbitrary = replicate 65 false;
  joins =
      let none : Option Join = None in
      let some : Option Join = Some (record { reference = 1; double = 0 }) in
      replicate 2 none ++ replicate 3 some ++ replicate 60 none;
  on_a = [];
  on_b = [];
}

-- the files are sharply covered to join, the first check holds too, node 1 leads their run, and its cycle 0 starts no later than it
-- leads where the first power-on is at tick 0, whichever nodes are switched
pub record WorkedRunIsLed : Type 0 where
  pub covered : IsSharplyCoveredToJoin steady_cluster led_drift led_script 0 250
  pub first : sharp_holds_of 1 250 (sharp_reach false steady_cluster 250) steady_cluster ≡ true
  pub led : IsLedRun (setting_of steady_cluster led_drift led_script) 1
  pub starts : (switches : Switches) (at : ℕ) → StartsAsItLeads steady_cluster switches at 1 (pos 0) (start_of led_drift 1)
