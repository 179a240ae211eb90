-- How far the clocks of a history lie apart, in ticks (sections 8.2 and 8.3; the skew is this project's own).
use Rattle.std.specs.Prelude.{◌≡◌, ◌≢◌, ◌⊎◌, ℕ, ◌<◌, ℤ, pos, ◌≤ℤ◌, [], ◌∷◌, length, Option, None}
use Rattle.std.specs.Option.{option_map_or}
use Rattle.fr_cluster.specs.Values.{Values, amount}
use Rattle.fr_cluster.specs.declared.names.ParamName.TheVariants as name
use Rattle.fr_time.specs.Position.{grid_for}
use Rattle.fr_skew.specs.Spreads.{spread_at}
use Rattle.fr_skew.specs.Sweep.{greatest_within}
use Rattle.fr_skew.specs.declared.peak.Peak.{Peak}
use Rattle.fr_history.specs.History.{History, record_at}

-- the skew of a history at a cycle and a macrotick
abbrev pub skew_at : Values → History → ℕ → ℕ → ℤ
skew_at p h cycle macrotick = option_map_or (λ r. spread_at (grid_for p) cycle r.rows macrotick) (record_at h cycle) (pos 0)

-- a cycle and a macrotick come before others
abbrev pub IsEarlierPlace : ℕ → ℕ → ℕ → ℕ → Type 0
IsEarlierPlace cycle macrotick other_cycle other_macrotick =
    (cycle < other_cycle) ⊎ ((cycle ≡ other_cycle) × (macrotick < other_macrotick))

-- the greatest skew of a history over all its cycles and macroticks, and the first place at which it occurs
pub record IsGreatestSkew (p : Values) (h : History) (skew : ℤ) (cycle macrotick : ℕ) : Type 0 where
  pub cycle_in : cycle < length h
  pub macrotick_in : macrotick < amount p name.gMacroPerCycle
  pub reached : skew_at p h cycle macrotick ≡ skew
  pub greatest : (n m : ℕ) → n < length h → m < amount p name.gMacroPerCycle → skew_at p h n m ≤ℤ skew
  pub first : (n m : ℕ) → m < amount p name.gMacroPerCycle → IsEarlierPlace n m cycle macrotick → skew_at p h n m ≢ skew

-- ---- the same as a function

-- the greatest skew of a history and its first place; none where there is no cycle
unfoldable pub greatest_skew_of : Values → History → Option Peak
greatest_skew_of p [] = None
greatest_skew_of p (r ∷ h) =
    greatest_within (grid_for p) (length h) r.rows (greatest_skew_of p h) (amount p name.gMacroPerCycle)
