use Rattle.fr_sharp.proofs.StrayFits.{limit_follows, stray_fits_is_told}
use Rattle.fr_sharp.proofs.strays.strays_are_told.Goals as goal

pub returns-clause-fits : goal.returns-clause-fits
returns-clause-fits c = stray_fits_is_told

pub returns-clause-follows : goal.returns-clause-follows
returns-clause-follows c = limit_follows
