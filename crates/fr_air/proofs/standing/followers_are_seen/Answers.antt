use Rattle.fr_air.proofs.Views.{followers_begin, joining_nodes_are_joined, listeners_come_first}
use Rattle.fr_air.proofs.standing.followers_are_seen.Goals as goal

pub returns-clause-first : goal.returns-clause-first
returns-clause-first c = listeners_come_first

pub returns-clause-begin : goal.returns-clause-begin
returns-clause-begin c = followers_begin

pub returns-clause-join : goal.returns-clause-join
returns-clause-join c = joining_nodes_are_joined
