-- What holds of every drift.
use Rattle.std.specs.Prelude.{ℕ, ℤ, pos, ◌≤ℤ◌, IfSome}
use Rattle.fr_base.specs.declared.channel.Channel.{Channel}
use Rattle.fr_drift.specs.Keys.{delay_cmp, length_cmp}
use Rattle.fr_text.specs.Keys.{found_at}
use Rattle.fr_drift.specs.Rows.{IsProperCount, IsProperDelay, IsMicrotickLength, IsProperStart}
use Rattle.fr_drift.specs.View.{DriftView, compensation_on, delays_on, start_rows}
use Rattle.fr_drift.specs.declared.keys.DelayKey.{DelayKey}
use Rattle.fr_drift.specs.declared.keys.LengthKey.{LengthKey}

-- a compensation is 0 to 200 microticks
pub record IsProperCompensation (micros : ℤ) : Type 0 where
  pub from : pos 0 ≤ℤ micros
  pub to : micros ≤ℤ pos 200

-- each number lies in its range
pub record IsDrift (d : DriftView) : Type 0 where
  pub count : IsProperCount d.doubles
  pub compensation : (ch : Channel) → IsProperCompensation (compensation_on d ch)
  pub starts : (node : ℕ) → IfSome (start_rows d node) IsProperStart
  pub lengths : (key : LengthKey) → IfSome (found_at length_cmp d.lengths key) IsMicrotickLength
  pub delays : (ch : Channel) (key : DelayKey) → IfSome (found_at delay_cmp (delays_on d ch) key) IsProperDelay
