use Rattle.fr_history.proofs.Synced.{cut_of_record, record_at-some, record_of_part}
use Rattle.fr_history.proofs.laws.each_cycle_has_its_record.Goals as goal

pub returns-clause-which : goal.returns-clause-which
returns-clause-which c = λ h cycle r. (record_of_part h cycle r, cut_of_record h cycle r)

pub returns-clause-there : goal.returns-clause-there
returns-clause-there c = record_at-some
