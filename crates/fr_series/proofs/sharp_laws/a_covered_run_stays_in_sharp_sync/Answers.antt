use Rattle.fr_series.proofs.SharpStaying.{stays_sharp}
use Rattle.fr_series.proofs.sharp_laws.a_covered_run_stays_in_sharp_sync.Goals as goal

pub returns : goal.returns
returns c = λ p d s h first sane fits covered lawful whole at.
    let finds = c.found_gap_from_is_first.ensures.found p d s first sane in
    stays_sharp c.covered_files_keep_sharply.ensures.keep c.covered_files_keep_sharply_joined.ensures p d s h first sane fits finds covered lawful whole at
