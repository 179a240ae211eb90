-- The limits of operation control that the parameters of a cluster give (chapter 2).
use Rattle.std.specs.Prelude.{◌==◌}
use Rattle.fr_cluster.specs.Values.{Values, amount}
use Rattle.fr_cluster.specs.declared.names.ParamName.TheVariants as name
use Rattle.fr_poc.specs.declared.control.PocLimits.{PocLimits}

abbrev pub limits_of : Values → PocLimits
limits_of p = record {
  passive = amount p name.gMaxWithoutClockCorrectionPassive;
  fatal = amount p name.gMaxWithoutClockCorrectionFatal;
  halt_allowed = amount p name.pAllowHaltDueToClock == 1;
  to_active = amount p name.pAllowPassiveToActive;
}
