-- Macroticks one after the other.
use Rattle.std.specs.Prelude.{◌≡◌, ℤ, pos, Bool, ◌<ℤ◌, ◌+ℤ◌}
use Rattle.fr_base.specs.Within.{IsBetween}
use Rattle.fr_time.specs.declared.grid.Grid.{Grid}
use Rattle.fr_time.specs.Position.{IsPlaceable, position_of}

-- the macroticks of a cycle under its terms, and the next one
pub record Walk : Type 0 where
  pub grid : Grid
  pub rate : ℤ
  pub offset : ℤ
  pub odd : Bool
  pub next : ℤ

-- before macrotick 0
abbrev pub first_walk : Grid → ℤ → ℤ → Bool → Walk
first_walk grid rate offset odd = record { grid = grid; rate = rate; offset = offset; odd = odd; next = pos 0 }

-- the position of the next macrotick
abbrev pub next_position : Walk → ℤ
next_position walk = position_of walk.grid walk.rate walk.offset walk.odd walk.next

-- the macroticks can be placed, and the next one is one of them or their end
pub record IsWalk (walk : Walk) : Type 0 where
  pub is_placeable : IsPlaceable walk.grid walk.rate walk.offset
  pub next_within : IsBetween (pos 0) walk.grid.macros walk.next

-- there is a next macrotick, and it lies there
abbrev pub IsNextPosition : Walk → ℤ → Type 0
IsNextPosition walk at = (walk.next <ℤ walk.grid.macros) × (at ≡ next_position walk)

-- after it
abbrev pub moved_on : Walk → Walk
moved_on walk = record walk { next = walk.next +ℤ pos 1 }

-- at another macrotick of its cycle, or at their end
abbrev pub moved_to : Walk → ℤ → Walk
moved_to walk macrotick = record walk { next = macrotick }
