-- The deviations that a node has measured in a double cycle (section 8.5), for 15 key indexes.
use Rattle.std.specs.Prelude.{◌≡◌, ◌≢◌, ◌⊎◌, ℕ, Bool, true, false, ℤ, Option, Some, None, List, slice_index_or, slice_set, replicate}
use Rattle.fr_base.specs.declared.Channel.{Channel}
use Rattle.fr_base.specs.declared.Channel.TheVariants.{A, B}

-- the deviations by key index, of both cycles on both channels
pub record Readings : Type 0 where
  pub even_a : List (Option ℤ)
  pub even_b : List (Option ℤ)
  pub odd_a : List (Option ℤ)
  pub odd_b : List (Option ℤ)

-- the greatest deviation, in microticks
abbrev pub most_deviation : ℕ
most_deviation = 1_000_000

-- no deviation at any key index
abbrev pub no_readings : Readings
no_readings = record {
  even_a = replicate 15 None;
  even_b = replicate 15 None;
  odd_a = replicate 15 None;
  odd_b = replicate 15 None;
}

-- the deviations of the odd or the even cycle on a channel
abbrev pub column : Readings → Bool → Channel → List (Option ℤ)
column readings false A = readings.even_a
column readings false B = readings.even_b
column readings true A = readings.odd_a
column readings true B = readings.odd_b

-- the deviation at a key index, in the odd or the even cycle, on a channel
abbrev pub reading : Readings → ℕ → Bool → Channel → Option ℤ
reading readings index odd channel = slice_index_or (column readings odd channel) index None

-- one deviation put in
abbrev pub stored : Readings → ℕ → Bool → Channel → ℤ → Readings
stored readings index false A value = record readings { even_a = slice_set readings.even_a index (Some value) }
stored readings index false B value = record readings { even_b = slice_set readings.even_b index (Some value) }
stored readings index true A value = record readings { odd_a = slice_set readings.odd_a index (Some value) }
stored readings index true B value = record readings { odd_b = slice_set readings.odd_b index (Some value) }

-- nothing is stored
abbrev pub IsEmpty : Readings → Type 0
IsEmpty readings = (index : ℕ) (odd : Bool) (channel : Channel) → reading readings index odd channel ≡ None

-- the new readings have this deviation in its place, and all others as they were
pub record Stores (old new : Readings) (index : ℕ) (odd : Bool) (channel : Channel) (value : ℤ) : Type 0 where
  pub here : reading new index odd channel ≡ Some value
  pub others :
      (i : ℕ) (o : Bool) (c : Channel) → (i ≢ index) ⊎ ((o ≢ odd) ⊎ (c ≢ channel)) → reading new i o c ≡ reading old i o c
