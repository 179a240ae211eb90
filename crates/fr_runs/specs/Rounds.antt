-- A whole run: from a double cycle in sync in which no node follows on it is in sync, whoever joins.
use Rattle.std.specs.Prelude.{◌≡◌, ◌≤ℤ◌, ◌<◌, ◌≤◌, ◌*◌, ℕ, suc, pos, [], ◌∷◌, ◌++◌, length, Contains}
use Rattle.fr_base.specs.Within.{IsWithin}
use Rattle.fr_base.specs.declared.state.Outcome.TheVariants.{Within}
use Rattle.fr_cluster.specs.Values.{amount}
use Rattle.fr_cluster.specs.declared.names.ParamName.TheVariants as name
use Rattle.fr_cluster.specs.declared.nodes.NodeSpec.{NodeSpec}
use Rattle.fr_time.specs.Position.{grid_for}
use Rattle.fr_bound.specs.Bounds.{precision_of}
use Rattle.fr_bound.specs.Sync.{IsInSync}
use Rattle.fr_skew.specs.Spreads.{spread_at}
use Rattle.fr_cluster.specs.Setting.{Setting}
use Rattle.fr_history.specs.Cycles.{Cycle, Cycles}
use Rattle.fr_history.specs.Lawful.{IsLawful}
use Rattle.fr_history.specs.Standing.{row_nodes}
use Rattle.fr_history.specs.Unfollowed.{IsUnfollowedSyncAt}
use Rattle.fr_precision.specs.Round.{Hearer}
use Rattle.fr_history.specs.History.{row_for}
use Rattle.fr_runs.specs.Hearers.{IsOneOf, member_from}
use Rattle.fr_runs.specs.Gathered.{CycleRuns, IsHeardByAll, IsDoubleInSync, AreClocksCovered, hearers_of}

-- the clocks of each cycle run by their laws
abbrev pub AllClocksRun : Setting → Cycles → Type 0
AllClocksRun x [] = Unit {0}
AllClocksRun x (c ∷ h) = CycleRuns x h c × AllClocksRun x h

-- as in lawful cycles
abbrev pub LawfulCyclesRun : Type 0
LawfulCyclesRun = (x : Setting) (h : Cycles) → IsLawful x h → AllClocksRun x h

-- two cycles are a double cycle of this number among some cycles, behind earlier ones
pub record IsDoubleOf (h : Cycles) (double : ℕ) (earlier : Cycles) (even odd : Cycle) : Type 0 where
  pub later : Cycles
  pub parted : h ≡ later ++ odd ∷ even ∷ earlier
  pub counted : length earlier ≡ 2 * double

-- from a double cycle on each receiver is fed
abbrev pub IsFedFrom : Setting → Cycles → ℕ → Type 0
IsFedFrom x h double =
    (k : ℕ) (earlier : Cycles) (even odd : Cycle) → double ≤ k → IsDoubleOf h k earlier even odd
    → IsDoubleInSync x earlier even odd k → IsHeardByAll x earlier even odd k

-- a double cycle in sync without followers, with rates within their limit
pub record IsUnfollowedSync (x : Setting) (earlier : Cycles) (even odd : Cycle) : Type 0 where
  pub in_sync : IsInSync x.params even.told.rows odd.told.rows
  pub none : even.followers ≡ []
  pub rates :
      (node : NodeSpec) → Contains (row_nodes x earlier) node
      → IsWithin x.params.rate_limit (row_for even.told.rows node.id).rate

-- a whole run
pub record IsRun (x : Setting) (h : Cycles) : Type 0 where
  pub covered : AreClocksCovered x
  pub run : AllClocksRun x h
  pub whole : length h ≡ 2 * x.doubles

-- what a double cycle comes to
pub record KeepsUp (x : Setting) (earlier : Cycles) (even odd : Cycle) (double : ℕ) : Type 0 where
  pub gathered : IsDoubleInSync x earlier even odd double
  -- no macrotick of the nodes with rows lies further apart than the precision, in either cycle
  pub even_skew :
      (macrotick : ℕ) → macrotick < amount x.params name.gMacroPerCycle
      → spread_at (grid_for x.params) (length earlier) even.told.rows macrotick ≤ℤ pos (precision_of x.params)
  pub odd_skew :
      (macrotick : ℕ) → macrotick < amount x.params name.gMacroPerCycle
      → spread_at (grid_for x.params) (suc (length earlier)) odd.told.rows macrotick ≤ℤ pos (precision_of x.params)
  -- no term of a node with a row or of a follower is cut or missing
  pub offset_within :
      (n : Hearer) → IsOneOf (hearers_of x earlier even odd double) n → (member_from x.params n).offset_term.outcome ≡ Within
  pub rate_within :
      (n : Hearer) → IsOneOf (hearers_of x earlier even odd double) n → (member_from x.params n).rate_term.outcome ≡ Within

-- from such a double cycle on, where each receiver is fed, every double cycle keeps up
abbrev pub RunsKeepUp : Type 0
RunsKeepUp =
    (x : Setting) (h : Cycles) (double : ℕ) → IsRun x h → IsFedFrom x h double
    → ((earlier : Cycles) (even odd : Cycle) → IsDoubleOf h double earlier even odd → IsUnfollowedSync x earlier even odd)
    → (k : ℕ) (earlier : Cycles) (even odd : Cycle) → double ≤ k → k < x.doubles → IsDoubleOf h k earlier even odd
    → KeepsUp x earlier even odd k

-- rates begin within their limit
abbrev pub RatesBegin : Setting → Type 0
RatesBegin x = (node : NodeSpec) → Contains (row_nodes x []) node → IsWithin x.params.rate_limit (x.rate node.id)

-- then it is so from each double cycle in sync of the run on in which none follows
abbrev pub UnfollowedRunsKeepUp : Type 0
UnfollowedRunsKeepUp =
    (x : Setting) (h : Cycles) (double : ℕ)
    → IsRun x h → RatesBegin x → IsFedFrom x h double → IsUnfollowedSyncAt x.params h double
    → (k : ℕ) (earlier : Cycles) (even odd : Cycle) → double ≤ k → k < x.doubles → IsDoubleOf h k earlier even odd
    → KeepsUp x earlier even odd k
