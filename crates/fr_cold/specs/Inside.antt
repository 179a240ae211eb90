-- The fields of a power file, as contracts see them.
use Rattle.fr_cold.specs.View.{PowerView}
use Rattle.fr_cold.specs.declared.power.Power.TheInside.{Inside}

-- the list has the entries of the table: nothing is left out
abbrev pub power_view_of : Inside → PowerView
power_view_of a = record { cycles = a.cycles; switches = a.switches.entries }
