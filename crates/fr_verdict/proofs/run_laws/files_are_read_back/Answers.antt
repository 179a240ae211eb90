use Rattle.fr_verdict.proofs.FileRanges.{files-keep-ranges, none-joins, runs-of-files-are-read-back}
use Rattle.fr_verdict.proofs.run_laws.files_are_read_back.Goals as goal

pub returns-clause-ranges : goal.returns-clause-ranges
returns-clause-ranges c = files-keep-ranges

pub returns-clause-read : goal.returns-clause-read
returns-clause-read c = runs-of-files-are-read-back

pub returns-clause-alone : goal.returns-clause-alone
returns-clause-alone c = none-joins
