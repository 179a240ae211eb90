-- What a power file says of a run.
use Rattle.std.specs.Prelude.{◌≢◌, ℕ, ◌≡◌, ◌*◌, Some, None, if◌then◌else◌}
use Rattle.fr_cluster.specs.Values.{Values}
use Rattle.fr_cluster.specs.Questions.{is_coldstart}
use Rattle.fr_cold.specs.Cluster.{Switches, macroticks_of_cycle}
use Rattle.fr_cold.specs.StartupLaws.{IsNumber}
use Rattle.fr_cold.specs.declared.state.Switch.TheVariants as switch
use Rattle.fr_cold.specs.View.{PowerView, switch_rows}

-- how many cycles it has
unfoldable pub cycles_of_power : PowerView → ℕ
cycles_of_power v = v.cycles

-- the macroticks of the run
unfoldable pub macroticks_of_run : Values → PowerView → ℕ
macroticks_of_run p v = v.cycles * macroticks_of_cycle p

-- how each coldstart node is switched at each macrotick
unfoldable pub switches_of : Values → PowerView → Switches
switches_of p v t node = if is_coldstart p node then switch_rows v t node else None

-- no node is switched at a macrotick
abbrev pub IsUnswitched : PowerView → ℕ → Type 0
IsUnswitched v t = (node : ℕ) → IsNumber node → switch_rows v t node ≡ None

-- no node is ever switched off
abbrev pub IsNeverOff : PowerView → Type 0
IsNeverOff v = (t node : ℕ) → switch_rows v t node ≢ Some switch.Off
