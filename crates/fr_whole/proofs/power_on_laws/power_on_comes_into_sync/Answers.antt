use Rattle.fr_whole.proofs.LedRuns.{power_on_is_in_sync}
use Rattle.fr_whole.proofs.power_on_laws.power_on_comes_into_sync.Goals as goal

pub returns : goal.returns
returns c = power_on_is_in_sync c.covered_files_keep_sharply_joined.ensures c.the_first_leads.ensures c.switched_on_once.ensures.starters c.switched_on_once.ensures.once
