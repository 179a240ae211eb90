-- The cycle that follows some cycles, as a function of the setting.
use Rattle.std.specs.Prelude.{ℕ, zero, suc, List, [], ◌∷◌, length, map}
use Rattle.fr_base.specs.declared.dev.Dev.{Dev}
use Rattle.fr_base.specs.declared.node_row.NodeRow.{NodeRow}
use Rattle.fr_history.specs.History.{Record}
use Rattle.fr_history.specs.Records.{ended_row, record_over, row_by}
use Rattle.fr_history.specs.Offers.{devs_between}
use Rattle.fr_cluster.specs.Setting.{Setting}
use Rattle.fr_history.specs.Cycles.{Cycle, Cycles, told_of}
use Rattle.fr_history.specs.Laws.{follower_cut, follower_laws, follower_offset, row_laws}
use Rattle.fr_history.specs.Standing.{following_nodes, row_nodes}

-- the row of a node in the next cycle, before its corrections, and that of a follower
unfoldable pub early_row : Setting → Cycles → ℕ → NodeRow
early_row x h node = row_by (row_laws x h) node

unfoldable pub early_follower : Setting → Cycles → ℕ → NodeRow
early_follower x h node = row_by (follower_laws x h) node

-- the rows of all nodes that have one, and of all that follow
abbrev pub early_rows : Setting → Cycles → List NodeRow
early_rows x h = map (λ node. early_row x h node.id) (row_nodes x h)

abbrev pub early_followers : Setting → Cycles → List NodeRow
early_followers x h = map (λ node. early_follower x h node.id) (following_nodes x h)

-- what is told of the cycle, before the corrections: followers are in no part of it
unfoldable pub early_told : Setting → Cycles → Record
early_told x h = record_over x (length h) (early_rows x h)

-- and with them
abbrev pub next_told : Setting → Cycles → Record
next_told x h =
    let early : Record = early_told x h in record early { rows = map (ended_row x (told_of h) early) early.rows }

-- what the followers store: the senders are those that have rows
unfoldable pub next_follower_devs : Setting → Cycles → List Dev
next_follower_devs x h = devs_between x (length h) (early_rows x h) (early_followers x h)

-- a follower's row with its corrections
abbrev pub ended_follower : Setting → Cycles → List Dev → NodeRow → NodeRow
ended_follower x h devs row =
    record row { offset = follower_offset x.params h devs row; cut = follower_cut x.params h devs row }

-- the cycle that follows some cycles
unfoldable pub next_cycle : Setting → Cycles → Cycle
next_cycle x h = record {
  told = next_told x h;
  followers = map (ended_follower x h (next_follower_devs x h)) (early_followers x h);
  follower_devs = next_follower_devs x h;
}

-- so many cycles, also beyond the end of the run
unfoldable pub cycles_of : Setting → ℕ → Cycles
cycles_of x zero = []
cycles_of x (suc n) = let h : Cycles = cycles_of x n in next_cycle x h ∷ h
