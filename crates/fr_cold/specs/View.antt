-- What contracts see of a power file.
use Rattle.std.specs.Prelude.{ℕ, ◌≡◌, Bool, true, false, refl, Option, List}
use Rattle.std.specs.Coded.{Coded, code_by, coded×, coded_bool, coded_list, coded_ℕ}
use Rattle.fr_cold.specs.declared.state.Switch.{Switch}
use Rattle.fr_cold.specs.declared.state.Switch.TheVariants as switch
use Rattle.fr_cold.specs.Keys.{coded_key, power_cmp, power_key}
use Rattle.fr_text.specs.Keys.{found_at}
use Rattle.fr_cold.specs.Rows.{IsProperCycles}
use Rattle.fr_cold.specs.declared.keys.PowerKey.{PowerKey}

-- the cycles of the run, and the switches in the order of their keys
pub record PowerView : Type 0 where
  pub cycles : ℕ
  pub switches : List (PowerKey × Switch)

-- a switch as a truth value: whether it switches on
abbrev pub switches_on : Switch → Bool
switches_on switch.On = true
switches_on switch.Off = false

abbrev pub switch_by : Bool → Switch
switch_by true = switch.On
switch_by false = switch.Off

abbrev pub on_back : (how : Switch) → switch_by (switches_on how) ≡ how
on_back switch.On = refl
on_back switch.Off = refl

abbrev pub coded_switch : Coded Switch
coded_switch = code_by Bool coded_bool switches_on switch_by on_back

-- a view as a pair
abbrev pub coded_power_view : Coded PowerView
coded_power_view =
    code_by (ℕ × List (PowerKey × Switch)) (coded× coded_ℕ (coded_list (coded× coded_key coded_switch)))
    (λ v. (v.cycles, v.switches))
    (λ t. record { cycles = t.0; switches = t.1 })
    (λ _. refl)

-- how a node is switched at a macrotick, if it is
abbrev pub switch_rows : PowerView → ℕ → ℕ → Option Switch
switch_rows v at node = found_at power_cmp v.switches (power_key at node)

-- what holds of every power file
pub record IsPower (v : PowerView) : Type 0 where
  pub cycles : IsProperCycles v.cycles
