use Rattle.fr_worked.specs.JoinedFiles.{joined_files, uneven_files}
use Rattle.fr_worked.proofs.FilesTraced.{are_traced}
use Rattle.fr_worked.proofs.JoinedFilesAre.{joined_files_are}
use Rattle.fr_worked.proofs.UnevenFilesAre.{uneven_files_are}
use Rattle.fr_worked.proofs.joined_files.joined_files_are_traced.Goals as goal

pub returns-clause-joined : goal.returns-clause-joined
returns-clause-joined c =
    are_traced c.covered_files_are_stated.ensures c.files_are_read_back.ensures.ranges c.files_are_read_back.ensures.read c.a_covered_run_passes.ensures.arrivals c.a_covered_run_passes.ensures.passes joined_files joined_files_are
    c.joined_files_keep_their_precision.ensures.keep

pub returns-clause-uneven : goal.returns-clause-uneven
returns-clause-uneven c =
    are_traced c.covered_files_are_stated.ensures c.files_are_read_back.ensures.ranges c.files_are_read_back.ensures.read c.a_covered_run_passes.ensures.arrivals c.a_covered_run_passes.ensures.passes uneven_files uneven_files_are
    c.uneven_files_keep_their_precision.ensures.keep
