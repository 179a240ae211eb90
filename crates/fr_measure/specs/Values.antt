-- What a node's deviations come to at the end of an odd cycle (sections 8.6.2 and 8.6.3): two finite maps from key
-- indexes, as functions to a number or none.
use Rattle.std.specs.Prelude.{ℕ, Bool, true, false, ◌==◌, ℤ, pos, ◌-ℤ◌, if◌then◌else◌, Option, Some, None, List}
use Rattle.std.specs.Int.{int_min}
use Rattle.std.specs.List.{filter_map, range_with_len}
use Rattle.fr_base.specs.declared.Channel.{Channel}
use Rattle.fr_base.specs.declared.Channel.TheVariants.{A, B}
use Rattle.fr_midpoint.specs.Midpoint.{half_of_sum}

-- which deviation there is for a key index, in the odd or the even cycle, on a channel (section 8.5)
abbrev pub LookUp : Type 0
LookUp = ℕ → Bool → Channel → Option ℤ

-- a key index is the node's own
abbrev pub is_own : Option ℕ → ℕ → Bool
is_own None index = false
is_own (Some own) index = own == index

-- a sync node adds 0 for itself
abbrev pub own_value_or : Option ℕ → ℕ → Option ℤ → Option ℤ
own_value_or own index value = if is_own own index then Some (pos 0) else value

-- the least of the deviations of both channels
abbrev pub least_of : Option ℤ → Option ℤ → Option ℤ
least_of None b = b
least_of (Some a) None = Some a
least_of (Some a) (Some b) = Some (int_min a b)

-- the offset value at a key index (section 8.6.2): the least deviation of the odd cycle
abbrev pub offset_at : LookUp → Option ℕ → ℕ → Option ℤ
offset_at look own index = own_value_or own index (least_of (look index true A) (look index true B))

-- how far the odd cycle's deviation lies above the even one's, where both are there
abbrev pub change_of : Option ℤ → Option ℤ → Option ℤ
change_of None odd = None
change_of (Some even) None = None
change_of (Some even) (Some odd) = Some (odd -ℤ even)

-- the change on a channel at a key index
abbrev pub change_at : LookUp → ℕ → Channel → Option ℤ
change_at look index channel = change_of (look index false channel) (look index true channel)

-- of the changes on both channels half of the sum, truncated toward zero; of one, that one
abbrev pub mean_of : Option ℤ → Option ℤ → Option ℤ
mean_of None b = b
mean_of (Some a) None = Some a
mean_of (Some a) (Some b) = Some (half_of_sum a b)

-- the rate value at a key index (section 8.6.3): the mean change of its channels
abbrev pub rate_at : LookUp → Option ℕ → ℕ → Option ℤ
rate_at look own index = own_value_or own index (mean_of (change_at look index A) (change_at look index B))

-- the values of a map from the 15 key indexes, in ascending order of index (sections 8.6.2 and 8.6.3)
unfoldable pub values_of : (ℕ → Option ℤ) → List ℤ
values_of at = filter_map at (range_with_len 0 15)
