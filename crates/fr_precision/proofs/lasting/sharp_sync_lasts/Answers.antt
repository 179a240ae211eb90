use Rattle.fr_precision.proofs.LastingLemmas.{sharp_doubles_draw, sharp_spreads_keep, sharp_sync_is_reached, sharp_sync_lasts_lem}
use Rattle.fr_precision.proofs.OlderLemmas.{older_sync_settles}
use Rattle.fr_precision.proofs.lasting.sharp_sync_lasts.Goals as goal

pub returns-clause-draw : goal.returns-clause-draw
returns-clause-draw c = sharp_doubles_draw

pub returns-clause-lasts : goal.returns-clause-lasts
returns-clause-lasts c = sharp_sync_lasts_lem

pub returns-clause-older : goal.returns-clause-older
returns-clause-older c = older_sync_settles

pub returns-clause-reached : goal.returns-clause-reached
returns-clause-reached c = sharp_sync_is_reached

pub returns-clause-spreads : goal.returns-clause-spreads
returns-clause-spreads c = sharp_spreads_keep
