-- The numbers of the cycles of a log, by the cycle counts of its frames; and whether frames come when the schedule has them.
use Rattle.std.specs.Prelude.{ℕ, ℤ, pos, ◌+ℤ◌, ◌-ℤ◌, ◌*ℤ◌, Bool}
use Rattle.fr_base.specs.Within.{lies_within}
use Rattle.fr_cluster.specs.Values.{Values, amount}
use Rattle.fr_cluster.specs.declared.names.ParamName.TheVariants as name
use Rattle.fr_time.specs.Position.{floor_of}
use Rattle.fr_bound.specs.Bounds.{nominal}

-- the number with this count that lies from 32 cycles before another one to 31 behind it
abbrev pub next_number : ℤ → ℕ → ℤ
next_number last count = pos count +ℤ (pos 64 *ℤ floor_of ((last +ℤ pos 31) -ℤ pos count) (pos 64))

-- the ticks of a cycle at the nominal microtick
abbrev pub nominal_cycle : Values → ℤ
nominal_cycle p = pos (amount p name.pMicroPerCycle) *ℤ pos nominal

-- how much later the schedule has one action point than another, so many cycles and macroticks behind it: in ticks, rounded
-- down. So many are at most 64 cycles; then no product passes 63 bits
abbrev pub scheduled : Values → ℤ → ℤ → ℤ
scheduled p cycles macroticks = floor_of (((cycles *ℤ p.macros) +ℤ macroticks) *ℤ nominal_cycle p) p.macros

-- frames that come so many ticks of the observer's clock apart come within half a cycle of it
abbrev pub is_timely : Values → ℤ → ℤ → ℤ → Bool
is_timely p apart cycles macroticks = lies_within (floor_of (nominal_cycle p) (pos 2)) (apart -ℤ scheduled p cycles macroticks)

-- the longest silence behind which a log goes on, in ticks of the observer's clock
abbrev pub longest_silence : Values → ℤ
longest_silence p = pos 30 *ℤ nominal_cycle p
