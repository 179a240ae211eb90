use Rattle.fr_air.proofs.Nodes.{followers_are_steady, joining_nodes_are_fresh, without_rows}
use Rattle.fr_air.proofs.standing.nodes_have_what_they_had.Goals as goal

pub returns-clause-steady : goal.returns-clause-steady
returns-clause-steady c = followers_are_steady

pub returns-clause-fresh : goal.returns-clause-fresh
returns-clause-fresh c = without_rows

pub returns-clause-joining : goal.returns-clause-joining
returns-clause-joining c = joining_nodes_are_fresh
