use Rattle.fr_seen.proofs.Intervals.{spans_place, stamps_place}
use Rattle.fr_seen.proofs.clocks.stamps_place_action_points.Goals as goal

pub returns-clause-one : goal.returns-clause-one
returns-clause-one c = stamps_place

pub returns-clause-two : goal.returns-clause-two
returns-clause-two c = spans_place
