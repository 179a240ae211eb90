-- What the questions to a drift file answer.
use Rattle.std.specs.Prelude.{ℕ, ℤ, pos, ◌*ℤ◌, ◌≡◌, ◌<◌, ◌≤◌, Option, Some, None, unwrap_or}
use Rattle.std.specs.Option.{option_map_or}
use Rattle.fr_base.specs.declared.channel.Channel.{Channel}
use Rattle.fr_drift.specs.Held.{held}
use Rattle.fr_drift.specs.View.{DriftView, compensation_on, delay_rows, length_rows, start_rows}

-- how many double cycles the run has
unfoldable pub doubles_of : DriftView → ℕ
doubles_of d = d.doubles

-- the tick at which a node's first cycle starts, 0 where no row says it
unfoldable pub start_of : DriftView → ℕ → ℤ
start_of d node = option_map_or (λ s. s.ticks) (start_rows d node) (pos 0)

-- its first rate term in microticks, 0 where no row says it
unfoldable pub rate_of : DriftView → ℕ → ℤ
rate_of d node = option_map_or (λ s. s.rate) (start_rows d node) (pos 0)

-- how many ticks a node's microtick lasts in a cycle: by the row that holds, and nominal where none does
unfoldable pub length_of : DriftView → ℕ → ℕ → ℤ
length_of d node cycle = unwrap_or (held (length_rows d node) cycle) (pos 1_000_000)

-- how many ticks a frame travels over a link in a cycle: by the row that holds, and where none does the
-- compensation of the channel
unfoldable pub delay_of : DriftView → ℕ → ℕ → Channel → ℕ → ℤ
delay_of d sender receiver ch cycle = unwrap_or (held (delay_rows d sender receiver ch) cycle) (compensation_on d ch *ℤ pos 1_000_000)

-- the value of each cycle is that of the last row at that cycle or before it, and this one where there is none
pub record FollowsRows (rows : ℕ → Option ℤ) (value : ℕ → ℤ) (otherwise : ℤ) : Type 0 where
  pub held : (from cycle : ℕ) (ticks : ℤ) → rows from ≡ Some ticks → from ≤ cycle → ((c : ℕ) → from < c → c ≤ cycle → rows c ≡ None) → value cycle ≡ ticks
  pub none : (cycle : ℕ) → ((c : ℕ) → c ≤ cycle → rows c ≡ None) → value cycle ≡ otherwise
