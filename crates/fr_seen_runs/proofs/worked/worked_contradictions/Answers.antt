use Rattle.std.proofs.Common.{refl}
use Rattle.fr_seen_runs.proofs.WorkedFaults.{correction_is_told, form_is_told, none_at_all, none_stated, none_with_own_slots, offset_is_told, stranger_is_told}
use Rattle.fr_seen_runs.specs.WorkedFaults.{correction_told, form_entry, form_told, last_log, late_log, offset_told, stranger_entry, stranger_told}
use Rattle.fr_seen_runs.specs.WorkedLog.{seen_cluster}
use Rattle.fr_seen_runs.proofs.worked.worked_contradictions.Goals as goal

pub returns-clause-offset : goal.returns-clause-offset
returns-clause-offset c = offset_is_told

pub returns-clause-of_none_stated : goal.returns-clause-of_none_stated
returns-clause-of_none_stated c = none_stated c.no_run_is_contradicted.ensures.sync seen_cluster (late_log 250) offset_told refl offset_is_told.verdict

pub returns-clause-correction : goal.returns-clause-correction
returns-clause-correction c = correction_is_told

pub returns-clause-of_none : goal.returns-clause-of_none
returns-clause-of_none c = none_at_all c.no_run_is_contradicted.ensures.own (late_log 7_500) correction_told refl refl correction_is_told.verdict

pub returns-clause-stranger : goal.returns-clause-stranger
returns-clause-stranger c = stranger_is_told

pub returns-clause-stranger_of_none : goal.returns-clause-stranger_of_none
returns-clause-stranger_of_none c = none_with_own_slots c.no_run_is_contradicted.ensures.own (last_log stranger_entry) stranger_told refl stranger_is_told.verdict

pub returns-clause-form : goal.returns-clause-form
returns-clause-form c = form_is_told

pub returns-clause-form_of_none : goal.returns-clause-form_of_none
returns-clause-form_of_none c = none_with_own_slots c.no_run_is_contradicted.ensures.own (last_log form_entry) form_told refl form_is_told.verdict
