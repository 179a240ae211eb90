use Rattle.fr_air.proofs.NextStanding.{even_cycles_stay, followers_succeed, joining_nodes_followed, rows_succeed}
use Rattle.fr_air.proofs.standing.nodes_succeed.Goals as goal

pub returns-clause-rows : goal.returns-clause-rows
returns-clause-rows c = rows_succeed

pub returns-clause-followers : goal.returns-clause-followers
returns-clause-followers c = followers_succeed

pub returns-clause-even : goal.returns-clause-even
returns-clause-even c = even_cycles_stay

pub returns-clause-joining : goal.returns-clause-joining
returns-clause-joining c = joining_nodes_followed
