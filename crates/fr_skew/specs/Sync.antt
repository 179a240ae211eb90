-- When clocks are in sync, by how far their starts and the lengths of their cycles lie apart.
use Rattle.std.specs.Prelude.{◌+ℤ◌, ◌*ℤ◌, ◌*◌, ℤ, pos, Bool, ◌&&◌, int_le, List, map}
use Rattle.std.specs.List.{list_all}
use Rattle.fr_base.specs.States.{is_active}
use Rattle.fr_base.specs.Within.{IsBetween}
use Rattle.fr_base.specs.declared.node_row.NodeRow.{NodeRow}
use Rattle.fr_cluster.specs.Values.{Values, amount}
use Rattle.fr_cluster.specs.declared.names.ParamName.TheVariants as name
use Rattle.fr_bound.specs.Bounds.{lambda_of, longest_micro, pi_of, shortest_micro}
use Rattle.fr_skew.specs.Spreads.{spread_of}
use Rattle.fr_skew.specs.declared.sync.SyncBounds.{SyncBounds}

-- the bounds of a cluster
abbrev pub sync_bounds_of : Values → SyncBounds
sync_bounds_of p = record {
  pi = pos (pi_of p);
  lambda = pos (lambda_of p);
  shortest = pos (amount p name.pMicroPerCycle * shortest_micro p);
  longest = pos (amount p name.pMicroPerCycle * longest_micro p);
  micros = p.micros;
}

-- the microticks of a cycle are in their range
abbrev pub IsSyncBounds : SyncBounds → Type 0
IsSyncBounds bounds = IsBetween (pos 0) (pos 640_000) bounds.micros

-- the length of a row's cycle before its offset correction, in ticks
abbrev pub cycle_length_by : SyncBounds → NodeRow → ℤ
cycle_length_by bounds row = (bounds.micros +ℤ row.rate) *ℤ row.length

-- an active row whose cycle has a proper length
abbrev pub is_synced_row : SyncBounds → NodeRow → Bool
is_synced_row bounds row =
    is_active row.state && (int_le bounds.shortest (cycle_length_by bounds row) && int_le (cycle_length_by bounds row) bounds.longest)

-- the rows of one cycle: all such, with lengths that lie close
abbrev pub are_synced : SyncBounds → List NodeRow → Bool
are_synced bounds rows =
    list_all (is_synced_row bounds) rows && int_le (spread_of (map (cycle_length_by bounds) rows)) bounds.lambda

-- those of an even and an odd cycle, and the starts of the even one lie close
unfoldable pub are_in_sync : SyncBounds → List NodeRow → List NodeRow → Bool
are_in_sync bounds even odd =
    are_synced bounds even && are_synced bounds odd && int_le (spread_of (map (λ row. row.start) even)) bounds.pi

-- the same by the even cycle alone: in the odd one they are active, however long it is
unfoldable pub are_in_sync_by_even : SyncBounds → List NodeRow → List NodeRow → Bool
are_in_sync_by_even bounds even odd =
    are_synced bounds even && list_all (λ row. is_active row.state) odd && int_le (spread_of (map (λ row. row.start) even)) bounds.pi
