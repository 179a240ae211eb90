use Rattle.fr_program.proofs.PutLogs.{told-where}
use Rattle.fr_program.proofs.put_log.PutLog.noted.Goals as goal

pub returns-in-Some-clause-kept : goal.returns-in-Some-clause-kept
returns-in-Some-clause-kept c = told-where c.args.log c.with_put.result c.in-Some.log c.args.piece.now c.in-Some.is c.in-Some.log.measured c.with_put.ensures.kept
