use Rattle.fr_verdict.proofs.VerdictTells.{verdicts-tell-greatest, verdicts-tell-sync, verdicts-tell-sync-alone}
use Rattle.fr_verdict.proofs.run_laws.a_verdict_tells_of_the_run.Goals as goal

pub returns-clause-greatest : goal.returns-clause-greatest
returns-clause-greatest c = verdicts-tell-greatest

pub returns-clause-synced : goal.returns-clause-synced
returns-clause-synced c = verdicts-tell-sync

pub returns-clause-alone : goal.returns-clause-alone
returns-clause-alone c = verdicts-tell-sync-alone
