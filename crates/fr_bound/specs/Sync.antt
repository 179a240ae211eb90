-- When the clocks of a cluster are in sync in a double cycle, by the rows of its two cycles.
use Rattle.std.specs.Prelude.{◌≡◌, ◌≤ℤ◌, ◌+ℤ◌, ◌-ℤ◌, ◌*ℤ◌, ◌*◌, ℤ, pos, Bool, ◌&&◌, int_le, List, All, map}
use Rattle.std.specs.List.{list_all}
use Rattle.fr_base.specs.Within.{LieWithin}
use Rattle.fr_base.specs.States.{is_active}
use Rattle.fr_base.specs.declared.node_row.NodeRow.{NodeRow}
use Rattle.fr_base.specs.declared.state.State.TheVariants.{Active}
use Rattle.fr_cluster.specs.Values.{Values, amount}
use Rattle.fr_cluster.specs.declared.names.ParamName.TheVariants as name
use Rattle.fr_bound.specs.Bounds.{lambda_of, longest_micro, pi_of, shortest_micro}

-- the length of a row's cycle before its offset correction, in ticks
abbrev pub cycle_length_of : Values → NodeRow → ℤ
cycle_length_of p row = (p.micros +ℤ row.rate) *ℤ row.length

-- a cycle is as long as its nominal microticks are, each of a length within the bounds
abbrev pub IsCycleLength : Values → ℤ → Type 0
IsCycleLength p long =
    (pos (amount p name.pMicroPerCycle * shortest_micro p) ≤ℤ long)
    × (long ≤ℤ pos (amount p name.pMicroPerCycle * longest_micro p))

-- all nodes are active in both cycles, their starts of the even one lie close, and so do the lengths of both, which
-- are proper
pub record IsInSync (p : Values) (even odd : List NodeRow) : Type 0 where
  pub active_even : All (λ row. row.state ≡ Active) even
  pub active_odd : All (λ row. row.state ≡ Active) odd
  pub starts : LieWithin (pos (pi_of p)) (map (λ row. row.start) even)
  pub even_lengths : LieWithin (pos (lambda_of p)) (map (cycle_length_of p) even)
  pub odd_lengths : LieWithin (pos (lambda_of p)) (map (cycle_length_of p) odd)
  pub even_proper : All (λ row. IsCycleLength p (cycle_length_of p row)) even
  pub odd_proper : All (λ row. IsCycleLength p (cycle_length_of p row)) odd

-- ---- the same as a test

abbrev pub lie_within : ℤ → List ℤ → Bool
lie_within bound xs = list_all (λ a. list_all (λ b. int_le (a -ℤ b) bound) xs) xs

abbrev pub is_proper_length : Values → ℤ → Bool
is_proper_length p long =
    int_le (pos (amount p name.pMicroPerCycle * shortest_micro p)) long
    && int_le long (pos (amount p name.pMicroPerCycle * longest_micro p))

-- the rows of one cycle: all active, with proper lengths that lie close
abbrev pub has_synced_rates : Values → List NodeRow → Bool
has_synced_rates p rows =
    list_all (λ row. is_active row.state) rows
    && lie_within (pos (lambda_of p)) (map (cycle_length_of p) rows)
    && list_all (λ row. is_proper_length p (cycle_length_of p row)) rows

unfoldable pub is_in_sync : Values → List NodeRow → List NodeRow → Bool
is_in_sync p even odd =
    has_synced_rates p even
    && has_synced_rates p odd
    && lie_within (pos (pi_of p)) (map (λ row. row.start) even)
