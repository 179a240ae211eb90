-- What the deviations of a slot may be at a receiver.
use Rattle.std.specs.Prelude.{◌≡◌, ◌≢◌, ℕ, ◌||◌, ◌+ℤ◌, ◌-ℤ◌, pos, int_lt, Bool, Option, Some, None, if◌then◌else◌}
use Rattle.fr_base.specs.Timed.{IsLength}
use Rattle.fr_base.specs.Within.{IsWithin}
use Rattle.fr_base.specs.declared.dev.Dev.{Dev}
use Rattle.fr_base.specs.declared.node_row.NodeRow.{NodeRow}
use Rattle.fr_base.specs.declared.state.State.{State}
use Rattle.fr_bound.specs.Bounds.{arrival_error}
use Rattle.fr_cluster.specs.Values.{Values}
use Rattle.fr_history.specs.History.{Record}
use Rattle.fr_precision.specs.Instants.{gap_of}
use Rattle.fr_time.specs.Position.{floor_of}
use Rattle.fr_time.specs.Slots.{action_point_of}
use Rattle.fr_trace.specs.Trace.{TraceView}
use Rattle.fr_verdict.specs.Breach.{sender_is_away, sender_row, silent_state}
use Rattle.fr_verdict.specs.declared.unlawful.Unlawful.{Unlawful}
use Rattle.fr_verdict.specs.declared.unlawful.Unlawful.TheVariants as unlawful
use Rattle.fr_check.specs.declared.deviations.Allowed.{Allowed}
use Rattle.fr_check.specs.declared.deviations.Limits.{Limits}

-- their limits in ticks, where both the sender and the receiver have a row
abbrev pub dev_limits_of : Values → Bool → ℕ → NodeRow → NodeRow → Limits
dev_limits_of p odd slot sender receiver = record {
  least = gap_of p odd (pos (action_point_of p slot)) sender receiver -ℤ pos (arrival_error p);
  most = gap_of p odd (pos (action_point_of p slot)) sender receiver +ℤ pos (arrival_error p);
  length = receiver.length;
}

-- how far two action points lie apart at most, and a limit from the receiver's, in ticks
abbrev pub most_gap : ℕ
most_gap = 1_111_000_000_000_000_000

abbrev pub most_limit : ℕ
most_limit = 1_112_000_000_000_000_000

-- limits with which can be computed
pub record AreTicks (limits : Limits) : Type 0 where
  pub least : IsWithin (pos most_limit) limits.least
  pub most : IsWithin (pos most_limit) limits.most
  pub lasts : IsLength limits.length

abbrev pub limits_by : Values → Bool → ℕ → Option NodeRow → Option NodeRow → Option Limits
limits_by p odd slot None receiver = None
limits_by p odd slot (Some sender) None = None
limits_by p odd slot (Some sender) (Some receiver) = Some (dev_limits_of p odd slot sender receiver)

-- of a sender that is away no state is told
abbrev pub silent_by : Bool → Option NodeRow → Option NodeRow → Option State
silent_by away sender receiver = if away then None else silent_state sender receiver

-- what they may be in a record of a trace, at a receiver with this row
abbrev pub allowed_by : Values → TraceView → Bool → Record → Option NodeRow → ℕ → Allowed
allowed_by p t odd r receiver slot = record {
  slot = slot;
  away = sender_is_away p t r slot;
  silent = silent_by (sender_is_away p t r slot) (sender_row p r slot) receiver;
  limits = limits_by p odd slot (sender_row p r slot) receiver;
}

-- what is kept is that of no slot, or right for its own
abbrev pub IsAllowedFor : Values → TraceView → Bool → Record → Option NodeRow → Allowed → Type 0
IsAllowedFor p t odd r receiver kept = (kept.slot ≢ 0) → kept ≡ allowed_by p t odd r receiver kept.slot

-- the breach of a deviation outside of limits
abbrev pub outside_of : ℕ → Dev → Option Limits → Option Unlawful
outside_of n dev None = None
outside_of n dev (Some limits) =
    if int_lt dev.value (floor_of limits.least limits.length) || int_lt (floor_of limits.most limits.length) dev.value
    then Some (unlawful.Deviation n dev.value (floor_of limits.least limits.length) (floor_of limits.most limits.length)) else None
