use Rattle.fr_runs.proofs.Joined.{followers_join as followers_join_lem}
use Rattle.fr_runs.proofs.succession.followers_join.Goals as goal

pub returns : goal.returns
returns c = followers_join_lem
