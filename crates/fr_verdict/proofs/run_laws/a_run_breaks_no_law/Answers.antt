use Rattle.fr_verdict.proofs.Proper.{proper-runs-are-lawful, proper-runs-break-no-other}
use Rattle.fr_verdict.proofs.Tracing.{runs-break-no-other}
use Rattle.fr_verdict.proofs.run_laws.a_run_breaks_no_law.Goals as goal

pub returns-clause-others : goal.returns-clause-others
returns-clause-others c = runs-break-no-other

pub returns-clause-proper : goal.returns-clause-proper
returns-clause-proper c = proper-runs-break-no-other

pub returns-clause-lawful : goal.returns-clause-lawful
returns-clause-lawful c = proper-runs-are-lawful
