use Rattle.fr_answer.specs.RunAnswer.{IsKeptRunText}
use Rattle.fr_report.specs.RunText.{run_text}
use Rattle.fr_report.proofs.RunStatus.{run_status}
use Rattle.fr_answer.proofs.FilesStatus.{kept_defined}
use Rattle.fr_answer.proofs.status_laws.a_run_has_one_status.Goals as goal

pub returns : goal.returns
returns c = run_status (record { params_one = c.one_answer.ensures; params_some = c.some_answer.ensures; drift_one = c.one_answer-2.ensures; drift_some = c.some_answer-2.ensures; script_one = c.one_answer-3.ensures; script_some = c.some_answer-3.ensures; sane = c.accepted_are_sane.ensures }) IsKeptRunText run_text (kept_defined (record { sharply = c.covered_files_keep_sharply.ensures.keep; joined = c.covered_files_keep_sharply_joined.ensures; lost = c.lossy_files_give_runs.ensures.keep; joined_lost = c.joined_files_keep_through_losses.ensures.covered }) run_text c.a_run_is_lawful.ensures.text)
