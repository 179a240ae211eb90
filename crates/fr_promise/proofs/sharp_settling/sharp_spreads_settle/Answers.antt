use Rattle.fr_precision.proofs.SettlingLemmas.{alone_settles_soon, beside_settles_soon, next_spread_draws, next_starts_fit, older_way_fits, settled_stays}
use Rattle.fr_promise.proofs.sharp_settling.sharp_spreads_settle.Goals as goal

pub returns-clause-draws : goal.returns-clause-draws
returns-clause-draws c = next_spread_draws

pub returns-clause-fit : goal.returns-clause-fit
returns-clause-fit c = next_starts_fit

pub returns-clause-stays : goal.returns-clause-stays
returns-clause-stays c = settled_stays

pub returns-clause-alone : goal.returns-clause-alone
returns-clause-alone c = alone_settles_soon

pub returns-clause-beside : goal.returns-clause-beside
returns-clause-beside c = beside_settles_soon

pub returns-clause-older : goal.returns-clause-older
returns-clause-older c = older_way_fits
