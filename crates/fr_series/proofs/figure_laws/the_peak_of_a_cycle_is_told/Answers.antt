use Rattle.std.proofs.Common.{◌<◌, rules}
use Rattle.fr_cluster.specs.Values.{amount}
use Rattle.fr_cluster.specs.declared.names.ParamName.TheVariants as name
use Rattle.fr_series.proofs.CyclePeaks.{peak_found}
use Rattle.fr_series.proofs.figure_laws.the_peak_of_a_cycle_is_told.Goals as goal

pub returns : goal.returns
returns c = λ p cycle rows sane. let some : 0 < amount p name.gMacroPerCycle = search rules in peak_found p cycle rows some
