use Rattle.fr_sharp.proofs.LossTold.{covered_is_through, joined_runs_keep_their_bounds, losses_are_told_lem, near_is_taken_in, runs_keep_their_bounds, through_is_covered}
use Rattle.fr_sharp.proofs.losses_of_runs.losses_are_told.Goals as goal

pub returns-clause-figures : goal.returns-clause-figures
returns-clause-figures c = losses_are_told_lem

pub returns-clause-covered : goal.returns-clause-covered
returns-clause-covered c = λ p d s from flutter sane some flutters.
    let finds = c.found_gap_from_is_first.ensures.found p d s from sane in
    (through_is_covered p d s from flutter finds some flutters, covered_is_through p d s from flutter finds some)

pub returns-clause-keeps : goal.returns-clause-keeps
returns-clause-keeps c = runs_keep_their_bounds c.histories_keep_through_losses.ensures.keep c.heard_numbers.ensures.later

pub returns-clause-joined : goal.returns-clause-joined
returns-clause-joined c = joined_runs_keep_their_bounds c.joined_files_keep_through_losses.ensures.covered c.heard_numbers.ensures.later

pub returns-clause-near : goal.returns-clause-near
returns-clause-near c = near_is_taken_in
