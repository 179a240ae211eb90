use Rattle.fr_sharp.proofs.FromFiles.{arbitrary_is_told, files_are_steady as files_are_steady_lem, files_flutter, files_give_steady_runs}
use Rattle.fr_sharp.proofs.files.files_are_steady.Goals as goal

pub returns-clause-flutter : goal.returns-clause-flutter
returns-clause-flutter c = files_flutter

pub returns-clause-setting : goal.returns-clause-setting
returns-clause-setting c = files_are_steady_lem

pub returns-clause-arbitrary : goal.returns-clause-arbitrary
returns-clause-arbitrary c = arbitrary_is_told

pub returns-clause-run : goal.returns-clause-run
returns-clause-run c = files_give_steady_runs
