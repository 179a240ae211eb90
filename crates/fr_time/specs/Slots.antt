-- The static slots of a cycle, numbered from 1, in macroticks from its start (chapter 5).
use Rattle.std.specs.Prelude.{ℕ, ◌+◌, ◌-◌, ◌*◌, ℤ, pos, ◌≤ℤ◌, ◌<ℤ◌}
use Rattle.fr_cluster.specs.Values.{Values, amount}
use Rattle.fr_cluster.specs.declared.names.ParamName.TheVariants as name

-- the macrotick at which a slot begins
abbrev pub slot_start_of : Values → ℕ → ℕ
slot_start_of p slot = (slot - 1) * amount p name.gdStaticSlot

-- the one at which it ends
abbrev pub slot_end_of : Values → ℕ → ℕ
slot_end_of p slot = slot * amount p name.gdStaticSlot

-- the one at which a node sends in it
abbrev pub action_point_of : Values → ℕ → ℕ
action_point_of p slot = slot_start_of p slot + amount p name.gdActionPointOffset

-- a macrotick that comes before the offset correction starts
pub record IsEarly (p : Values) (macrotick : ℤ) : Type 0 where
  pub from : pos 0 ≤ℤ macrotick
  pub to : macrotick ≤ℤ pos 16_000
  pub before_correction : macrotick <ℤ p.correction
