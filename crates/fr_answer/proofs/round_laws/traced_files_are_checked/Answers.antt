use Rattle.fr_answer.proofs.FilesChecked.{made-runs, traced-files}
use Rattle.fr_answer.proofs.round_laws.traced_files_are_checked.Goals as goal

pub returns-clause-files : goal.returns-clause-files
returns-clause-files c = traced-files c.what_is_traced_is_checked.ensures.joined c.accepted_are_sane.ensures c.drift_of_a_file_fits.ensures c.script_of_a_file_is_sound.ensures

pub returns-clause-made : goal.returns-clause-made
returns-clause-made c =
    made-runs (traced-files c.what_is_traced_is_checked.ensures.joined c.accepted_are_sane.ensures c.drift_of_a_file_fits.ensures c.script_of_a_file_is_sound.ensures) c.made_files_are_accepted.ensures
