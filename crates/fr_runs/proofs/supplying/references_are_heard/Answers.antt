use Rattle.fr_runs.proofs.Beginning.{covered_listeners_begin}
use Rattle.fr_runs.proofs.Catches.{catches_are_caught, catches_suffice}
use Rattle.fr_runs.proofs.supplying.references_are_heard.Goals as goal

pub returns-clause-caught : goal.returns-clause-caught
returns-clause-caught c = catches_are_caught

pub returns-clause-suffices : goal.returns-clause-suffices
returns-clause-suffices c = catches_suffice

pub returns-clause-begin : goal.returns-clause-begin
returns-clause-begin c = covered_listeners_begin
