-- A lawful history of a run that no node joins, where the walk is held: from a double cycle in sharp sync on it stays so to the end
-- of the run.
use Rattle.std.specs.Prelude.{ℕ, ◌≡◌, ◌<◌, ◌≤◌, ◌+◌, pos, Bool, true, None}
use Rattle.fr_cluster.specs.Setting.{Setting}
use Rattle.fr_history.specs.Cycles.{Cycles}
use Rattle.fr_bound.specs.SharpBounds.{sharp_near, sharp_precision}
use Rattle.fr_bound.specs.SharpChecks.{SharpChecksHold}
use Rattle.fr_promise.specs.HeldWalks.{beyond_for_ever, sync_lasts, walk_is_held}
use Rattle.fr_runs.specs.SharpHistories.{IsInSharpSyncAt, IsSteadyRunFrom, KeepsApart, KeepsSharpPrecision}

-- each double cycle keeps within the sharper precision and ends well, and is in sharp sync, with lengths less than a microtick beyond
-- their range
pub record IsHeldAt (beside : Bool) (x : Setting) (flutter : ℕ) (h : Cycles) (double : ℕ) : Type 0 where
  pub synced : IsInSharpSyncAt beside x.params flutter (beyond_for_ever x.params flutter) h double
  pub keeps : KeepsApart x h double (sharp_precision beside x.params flutter)

abbrev pub HeldHistoriesKeepSharpSync : Type 0
HeldHistoriesKeepSharpSync =
    (beside : Bool) (x : Setting) (from flutter : ℕ) (h : Cycles) (double : ℕ)
    → IsSteadyRunFrom beside x from flutter h → from ≤ double → SharpChecksHold flutter (sharp_near beside x.params flutter) x.params
    → walk_is_held x.params flutter ≡ true → IsInSharpSyncAt beside x.params flutter (pos 0) h double
    → (passed : ℕ) → double + passed < x.doubles → IsHeldAt beside x flutter h (double + passed)

-- where sharp sync lasts without a number all that is so in each cycle to the end
abbrev pub HistoriesKeepForEver : Type 0
HistoriesKeepForEver =
    (beside : Bool) (x : Setting) (from flutter : ℕ) (h : Cycles) (double : ℕ)
    → IsSteadyRunFrom beside x from flutter h → from ≤ double → SharpChecksHold flutter (sharp_near beside x.params flutter) x.params
    → sync_lasts x.params flutter ≡ None → IsInSharpSyncAt beside x.params flutter (pos 0) h double
    → KeepsSharpPrecision beside x flutter (beyond_for_ever x.params flutter) h double
