-- What `covered yes` and `in sync DOUBLE` promise. The words of it, from the top: `IsLawful` (what a run is), `HasNoGap` (what is
-- asked of the files), `precision_of`, `skew_at`, `IsInSyncAt`.
use Rattle.std.specs.Prelude.{◌≡◌, ◌<◌, ◌≤◌, ◌≤ℤ◌, ◌*◌, ℕ, pos, true, ◌∷◌, List, All, length, Contains, IsSome, Some}
use Rattle.fr_base.specs.declared.state.Outcome.TheVariants.{Within}
use Rattle.fr_base.specs.declared.state.State.TheVariants.{Active}
use Rattle.fr_cluster.specs.Sane.{IsSane}
use Rattle.fr_cluster.specs.Setting.{Setting, correct_nodes}
use Rattle.fr_cluster.specs.Values.{Values, amount}
use Rattle.fr_cluster.specs.declared.join.Join.{Join}
use Rattle.fr_cluster.specs.declared.names.ParamName.TheVariants as name
use Rattle.fr_cluster.specs.declared.nodes.NodeSpec.{NodeSpec}
use Rattle.fr_bound.specs.Bounds.{precision_of}
use Rattle.fr_drift.specs.Files.{IsDriftFile}
use Rattle.fr_drift.specs.View.{DriftView}
use Rattle.fr_script.specs.Files.{IsScriptFile}
use Rattle.fr_script.specs.View.{ScriptView}
use Rattle.fr_coverage.specs.Decided.{setting_of}
use Rattle.fr_coverage.specs.Order.{HasNoGap}
use Rattle.fr_history.specs.History.{row_for, row_of}
use Rattle.fr_history.specs.Skew.{skew_at}
use Rattle.fr_history.specs.Sync.{IsInSyncAt}
use Rattle.fr_history.specs.Terms.{status_in}
use Rattle.fr_history.specs.Cycles.{Cycle, Cycles, cycle_at, told_of}
use Rattle.fr_history.specs.Lawful.{IsLawful}
use Rattle.fr_history.specs.Standing.{following_nodes, is_steady, row_nodes}
use Rattle.fr_history.specs.Unfollowed.{IsFirstUnfollowedSync}
use Rattle.fr_runs.specs.Numbers.{offset_term_told, rate_term_told}
use Rattle.fr_runs.specs.Rounds.{IsDoubleOf}
use Rattle.fr_runs.specs.Whole.{IsJoined}

-- the cycles that a run has: lawful, and all of them. There is one such list and no other (`one_lawful_run`)
pub record IsRunOf (x : Setting) (h : Cycles) : Type 0 where
  pub lawful : IsLawful x h
  pub whole : length h ≡ 2 * x.doubles

-- neither of the two correction terms is cut or missing that a node computes at the end of a double cycle, after some cycles: one
-- that takes part, or one that follows
pub record TermsAreWithin (x : Setting) (earlier : Cycles) (even odd : Cycle) : Type 0 where
  pub rows :
      (node : NodeSpec) → Contains (row_nodes x earlier) node
      → ((rate_term_told x even odd node).outcome ≡ Within) × ((offset_term_told x even odd node).outcome ≡ Within)
  pub followers :
      (node : NodeSpec) → Contains (following_nodes x earlier) node
      → is_steady x.params even.follower_devs odd.follower_devs (row_for odd.followers node.id) ≡ true

-- what is kept from a double cycle on, to the end of the run
pub record KeepsPrecision (x : Setting) (h : Cycles) (double : ℕ) : Type 0 where
  -- corresponding macroticks of the nodes that take part lie no further apart than the precision, in ticks
  pub skew :
      (cycle macrotick : ℕ) → 2 * double ≤ cycle → cycle < length h → macrotick < amount x.params name.gMacroPerCycle
      → skew_at x.params (told_of h) cycle macrotick ≤ℤ pos (precision_of x.params)
  -- they are in sync in each double cycle
  pub synced : (m : ℕ) → double ≤ m → m < x.doubles → IsInSyncAt x.params (told_of h) m
  -- each of them is active in each of these cycles
  pub active :
      (cycle : ℕ) (c : Cycle) → 2 * double ≤ cycle → cycle_at h cycle ≡ Some c → All (λ row. row.state ≡ Active) c.told.rows
  -- and after the last one
  pub after :
      (last : Cycle) (before : Cycles) (node : NodeSpec) → h ≡ last ∷ before → Contains (correct_nodes x) node
      → IsSome (row_of last.told.rows node.id) → (status_in x.params (told_of h) node.id).state ≡ Active
  -- no row tells a cut correction, of those that follow either
  pub uncut :
      (cycle : ℕ) (c : Cycle) → 2 * double ≤ cycle → cycle_at h cycle ≡ Some c
      → All (λ row. row.cut ≡ 0) c.told.rows × All (λ row. row.cut ≡ 0) c.followers
  -- and none is cut or missing
  pub within :
      (m : ℕ) (earlier : Cycles) (even odd : Cycle) → double ≤ m → m < x.doubles → IsDoubleOf h m earlier even odd
      → TermsAreWithin x earlier even odd
  -- whoever listens in a double cycle e from this one on follows in cycles 2 e + 2 to 2 e + 5, and takes part from 2 e + 6 on
  pub joins :
      (node : NodeSpec) (join : Join) → Contains (correct_nodes x) node → x.join node.id ≡ Some join → double ≤ join.double
      → IsJoined h node.id join

-- the promise: of three accepted files without a gap, from the first double cycle in sync on in which none follows
abbrev pub TheHeadline : Type 0
TheHeadline =
    (p : Values) (d : DriftView) (s : ScriptView) (drift script : List ℕ) (h : Cycles) (double : ℕ)
    → IsSane p → IsDriftFile p d drift → IsScriptFile p s script → HasNoGap p d s → IsRunOf (setting_of p d s) h
    → IsFirstUnfollowedSync p h double → KeepsPrecision (setting_of p d s) h double
