use Rattle.std.proofs.Common.{refl}
use Rattle.fr_worked.specs.Offset.{worked_offset}
use Rattle.fr_worked.specs.Rates.{worked_rates}
use Rattle.fr_worked.specs.OneArbitrary.{worked_one_arbitrary}
use Rattle.fr_worked.specs.TwoArbitrary.{worked_two_arbitrary}
use Rattle.fr_worked.specs.Lost.{worked_lost_on_one}
use Rattle.fr_worked.proofs.Settings.{offset_setting, rates_setting, one_arbitrary_setting, two_arbitrary_setting, lost_on_one_setting}
use Rattle.fr_worked.proofs.Kept.{kept_from}
use Rattle.fr_worked.proofs.covered_runs_keep_their_precision.Goals as goal

pub returns-clause-offset : goal.returns-clause-offset
returns-clause-offset c = record {
  kept = kept_from worked_offset c.a_run_with_an_offset.ensures offset_setting refl (λ _. refl) refl refl;
  greatest = record { le = tt };
}

pub returns-clause-rates : goal.returns-clause-rates
returns-clause-rates c = record {
  kept = kept_from worked_rates c.a_run_with_drifting_rates.ensures rates_setting refl (λ _. refl) refl refl;
  greatest = record { le = tt };
}

pub returns-clause-one_arbitrary : goal.returns-clause-one_arbitrary
returns-clause-one_arbitrary c = record {
  kept = kept_from worked_one_arbitrary c.a_run_with_one_arbitrary_node.ensures one_arbitrary_setting refl (λ _. refl) refl refl;
  greatest = record { le = tt };
}

pub returns-clause-two_arbitrary : goal.returns-clause-two_arbitrary
returns-clause-two_arbitrary c = record {
  kept = kept_from worked_two_arbitrary c.a_run_with_two_arbitrary_nodes.ensures two_arbitrary_setting refl (λ _. refl) refl refl;
  greatest = record { le = tt };
}

pub returns-clause-lost_on_one : goal.returns-clause-lost_on_one
returns-clause-lost_on_one c = record {
  kept = kept_from worked_lost_on_one c.a_run_with_a_frame_lost_on_one_channel.ensures lost_on_one_setting refl (λ _. refl) refl refl;
  greatest = record { le = tt };
}
