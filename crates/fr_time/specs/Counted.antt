-- The two shares by which the macroticks of a cycle are counted.
use Rattle.std.specs.Prelude.{◌≡◌, ◌⊎◌, ℤ, pos, true, false, ◌≤ℤ◌, ◌+ℤ◌, ◌-ℤ◌}
use Rattle.fr_base.specs.Within.{IsBetween}
use Rattle.fr_time.specs.Position.{corrected_micros, even_position}
use Rattle.fr_time.specs.Walk.{Walk}
use Rattle.fr_time.specs.declared.shares.Share.{Share}

-- the first share is of the cycle without its offset, the second of what is left from the start of the offset
-- correction on; up to there, and all through an even cycle, the first one is at the next macrotick, and from there on
-- the second one is
pub record IsCounted (walk : Walk) (start : ℤ) (early late : Share) : Type 0 where
  pub start_is : start ≡ even_position walk.grid walk.rate walk.grid.correction
  pub start_within : IsBetween (pos 0) (pos 660_000) start
  pub early_length : pos early.length ≡ walk.grid.micros +ℤ walk.rate
  pub early_parts : pos early.parts ≡ walk.grid.macros
  pub late_length : pos late.length ≡ corrected_micros walk.grid walk.rate walk.offset
  pub late_parts : pos late.parts ≡ walk.grid.macros -ℤ walk.grid.correction
  pub early_count : (walk.odd ≡ false) ⊎ (walk.next ≤ℤ walk.grid.correction) → pos early.count ≡ walk.next
  pub late_none : walk.next ≤ℤ walk.grid.correction → late.count ≡ 0
  pub late_count : walk.odd ≡ true → walk.grid.correction ≤ℤ walk.next → pos late.count ≡ walk.next -ℤ walk.grid.correction
