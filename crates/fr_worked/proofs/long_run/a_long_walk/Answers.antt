use Rattle.fr_worked.proofs.LongWalk.{long_run_begins, long_run_halts, long_run_is_cut, long_run_walks}
use Rattle.fr_worked.proofs.long_run.a_long_walk.Goals as goal

pub returns-clause-walks : goal.returns-clause-walks
returns-clause-walks c = long_run_walks c.one_lawful_run.ensures.lawful c.one_lawful_run.ensures.long

pub returns-clause-cut : goal.returns-clause-cut
returns-clause-cut c = long_run_is_cut c.one_lawful_run.ensures.lawful c.one_lawful_run.ensures.long

pub returns-clause-halts : goal.returns-clause-halts
returns-clause-halts c = long_run_halts c.one_lawful_run.ensures.lawful c.one_lawful_run.ensures.long

pub returns-clause-begins : goal.returns-clause-begins
returns-clause-begins c = long_run_begins c.one_lawful_run.ensures.lawful c.one_lawful_run.ensures.long
