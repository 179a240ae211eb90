use Rattle.fr_seen.proofs.Intervals.{intervals_are_there, intervals_meet}
use Rattle.fr_seen.proofs.clocks.intervals_are_shared.Goals as goal

pub returns-clause-meet : goal.returns-clause-meet
returns-clause-meet c = intervals_meet

pub returns-clause-there : goal.returns-clause-there
returns-clause-there c = intervals_are_there
