-- The precision of a whole run, from a double cycle in sync in which none follows to its end, whoever joins.
use Rattle.std.specs.Prelude.{◌≡◌, ◌≤ℤ◌, ◌<◌, ◌≤◌, ◌*◌, ℕ, pos, [], ◌∷◌, length, All, Some}
use Rattle.fr_base.specs.Within.{IsWithin}
use Rattle.fr_base.specs.declared.state.State.TheVariants.{Active}
use Rattle.fr_cluster.specs.Sane.{IsSane}
use Rattle.fr_cluster.specs.Values.{amount}
use Rattle.fr_cluster.specs.declared.names.ParamName.TheVariants as name
use Rattle.fr_bound.specs.Bounds.{precision_of}
use Rattle.fr_history.specs.Rows.{CutsRun}
use Rattle.fr_history.specs.Skew.{skew_at}
use Rattle.fr_cluster.specs.Setting.{Setting}
use Rattle.fr_history.specs.Cycles.{Cycle, Cycles, cycle_at, told_of}
use Rattle.fr_history.specs.Laws.{follower_cut}
use Rattle.fr_history.specs.Unfollowed.{IsUnfollowedSyncAt}
use Rattle.fr_runs.specs.Rounds.{AllClocksRun, IsFedFrom, IsRun, RatesBegin}

-- the rates of its nodes stay within their limit where they begin so, with a row and as followers
abbrev pub RatesStayWithin : Type 0
RatesStayWithin =
    (x : Setting) (h : Cycles) (c : Cycle) → IsSane x.params → RatesBegin x → AllClocksRun x (c ∷ h)
    → All (λ row. IsWithin x.params.rate_limit row.rate) c.told.rows
    × All (λ row. IsWithin x.params.rate_limit row.rate) c.followers

-- what each cycle tells of cut terms follows its law too, of its rows and of its followers
abbrev pub AllCutsRun : Setting → Cycles → Type 0
AllCutsRun x [] = Unit {0}
AllCutsRun x (c ∷ h) =
    CutsRun x (told_of h) c.told × All (λ row. row.cut ≡ follower_cut x.params h c.follower_devs row) c.followers
    × AllCutsRun x h

-- from a double cycle on corresponding macroticks of the nodes with rows lie no further apart than the precision, in ticks,
-- each of them is active, and no row tells a cut, of a node that has a row or of one that follows
pub record CyclesKeepPrecision (x : Setting) (h : Cycles) (double : ℕ) : Type 0 where
  pub skew :
      (cycle macrotick : ℕ) → 2 * double ≤ cycle → cycle < length h → macrotick < amount x.params name.gMacroPerCycle
      → skew_at x.params (told_of h) cycle macrotick ≤ℤ pos (precision_of x.params)
  pub active :
      (cycle : ℕ) (c : Cycle) → 2 * double ≤ cycle → cycle_at h cycle ≡ Some c → All (λ row. row.state ≡ Active) c.told.rows
  pub uncut :
      (cycle : ℕ) (c : Cycle) → 2 * double ≤ cycle → cycle_at h cycle ≡ Some c
      → All (λ row. row.cut ≡ 0) c.told.rows × All (λ row. row.cut ≡ 0) c.followers

-- so it is from a double cycle in sync on in which none follows, whoever joins later
abbrev pub UnfollowedRunsKeepPrecision : Type 0
UnfollowedRunsKeepPrecision =
    (x : Setting) (h : Cycles) (double : ℕ) → IsRun x h → RatesBegin x → AllCutsRun x h → IsFedFrom x h double
    → IsUnfollowedSyncAt x.params h double → CyclesKeepPrecision x h double
