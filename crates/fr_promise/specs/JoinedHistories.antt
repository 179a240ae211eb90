-- A lawful history of a run that nodes join and whose delays flutter little: from a double cycle in sharp sync in which no node
-- follows it stays so, for as many double cycles as the rate limit holds the walk and suffices for first rates.
use Rattle.std.specs.Prelude.{◌≡◌, ◌↔◌, ◌<◌, ◌≤◌, ◌+◌, ◌-◌, ◌*◌, ◌/◌, ◌≤ℤ◌, ℕ, suc, ℤ, pos, nat_abs, int_le, min, Bool, true, false, if◌then◌else◌, ◌∷◌, length, All, Contains, IfSome, IsSome, Option, Some, None}
use Rattle.fr_base.specs.declared.state.State.TheVariants.{Active}
use Rattle.fr_cluster.specs.Sane.{IsSane}
use Rattle.fr_cluster.specs.Setting.{Setting, correct_nodes}
use Rattle.fr_cluster.specs.Values.{Values, amount}
use Rattle.fr_cluster.specs.declared.join.Join.{Join}
use Rattle.fr_cluster.specs.declared.names.ParamName.TheVariants as name
use Rattle.fr_cluster.specs.declared.nodes.NodeSpec.{NodeSpec}
use Rattle.fr_history.specs.Cycles.{Cycle, Cycles, cycle_at, told_of}
use Rattle.fr_history.specs.History.{row_for, row_of}
use Rattle.fr_history.specs.Skew.{skew_at}
use Rattle.fr_history.specs.Terms.{status_in}
use Rattle.fr_promise.specs.Statement.{TermsAreWithin}
use Rattle.fr_runs.specs.Links.{cycle_in}
use Rattle.fr_runs.specs.Rounds.{IsDoubleOf}
use Rattle.fr_runs.specs.Whole.{IsJoined}
use Rattle.fr_precision.specs.Lengths.{walked_after}
use Rattle.fr_bound.specs.SharpBounds.{rate_room, rate_walk, sharp_precision}
use Rattle.fr_bound.specs.SharpChecks.{sharp_holds_of}
use Rattle.fr_runs.specs.SharpHistories.{IsInSharpSyncAt}
use Rattle.fr_promise.specs.SharpJoined.{IsJoinedDouble, IsSteadyJoinedFrom}
use Rattle.fr_promise.specs.SharpJoining.{counted_error, sharp_join_holds_of, SharpJoinChecksHold}
use Rattle.fr_promise.specs.SharpListening.{RateTakesIn}
use Rattle.fr_precision.specs.SharpRun.{WalkLastsAfter}
use Rattle.fr_promise.specs.SharpTested.{IsUnfollowedSharpSyncAt}

-- so many double cycles after one in sharp sync the rate limit still holds the walk, and suffices for the rate that a node begins
-- to follow with behind it
abbrev pub FirstRatesLast : Values → ℕ → ℕ → Type 0
FirstRatesLast p flutter passed = WalkLastsAfter p flutter passed × RateTakesIn p flutter (walked_after p flutter passed)

-- it does so from a double cycle on in each one to the end of the run
abbrev pub FirstRatesLastToEnd : Setting → ℕ → ℕ → Type 0
FirstRatesLastToEnd x flutter double = (m : ℕ) → double + m < x.doubles → FirstRatesLast x.params flutter m

-- for how many double cycles: for none where the sixth of the sharper checks fails, on and on without a number where lengths do not
-- walk, and else until the walk has used up the room of the rate limit, or all of it but what a first rate may be off
abbrev pub first_rates_of_walk : ℕ → ℕ → ℤ → Option ℕ
first_rates_of_walk room error walk =
    if int_le walk (pos 0) then None else Some (min (room / nat_abs walk) ((room - error) / nat_abs walk + 1))

abbrev pub first_rates_last : Values → ℕ → Option ℕ
first_rates_last p flutter =
    if sharp_join_holds_of 6 false flutter p
    then first_rates_of_walk (rate_room p) (counted_error p flutter) (rate_walk p flutter)
    else Some 0

abbrev pub FirstRatesLastSo : Type 0
FirstRatesLastSo =
    (p : Values) (flutter passed : ℕ)
    → FirstRatesLast p flutter passed ↔ IfSome (first_rates_last p flutter) (λ lasts. passed < lasts)

-- under the first of the sharper checks, and those of nodes that join, it does so for ever
abbrev pub FirstRatesLastOn : Type 0
FirstRatesLastOn =
    (beside : Bool) (p : Values) (flutter reach passed : ℕ)
    → IsSane p → sharp_holds_of 1 flutter reach p ≡ true → SharpJoinChecksHold beside flutter p → FirstRatesLast p flutter passed

-- how a double cycle ends, behind earlier cycles: no term of a node with a row or of one that follows is cut or missing, no row of
-- them tells a cut, and each correct node stands active behind it, one of which no term was told yet too, since it begins so
pub record NoneIsCut (x : Setting) (earlier : Cycles) (even odd : Cycle) : Type 0 where
  pub within : TermsAreWithin x earlier even odd
  pub uncut_even : All (λ row. row.cut ≡ 0) even.told.rows × All (λ row. row.cut ≡ 0) even.followers
  pub uncut_odd : All (λ row. row.cut ≡ 0) odd.told.rows × All (λ row. row.cut ≡ 0) odd.followers
  pub active :
      (node : NodeSpec) → Contains (correct_nodes x) node
      → (status_in x.params (told_of (odd ∷ even ∷ earlier)) node.id).state ≡ Active

-- in a double cycle no corresponding macroticks of nodes with rows lie further apart than this, in ticks, and it ends so
pub record KeepsJoined (x : Setting) (h : Cycles) (double apart : ℕ) : Type 0 where
  pub skew :
      (macrotick : ℕ) (is_odd : Bool) → macrotick < amount x.params name.gMacroPerCycle
      → skew_at x.params (told_of h) (cycle_in is_odd double) macrotick ≤ℤ pos apart
  pub ends : (earlier : Cycles) (even odd : Cycle) → IsDoubleOf h double earlier even odd → NoneIsCut x earlier even odd

-- the same by the cycle: from a double cycle on no corresponding macroticks of nodes with rows lie further apart than this, in
-- ticks; each of these nodes is active in each cycle, and each correct node behind the last one; and no row tells a cut, of a node
-- that follows either
pub record CyclesKeepJoined (x : Setting) (h : Cycles) (double apart : ℕ) : Type 0 where
  pub skew :
      (cycle macrotick : ℕ) → 2 * double ≤ cycle → cycle < length h → macrotick < amount x.params name.gMacroPerCycle
      → skew_at x.params (told_of h) cycle macrotick ≤ℤ pos apart
  pub active :
      (cycle : ℕ) (c : Cycle) → 2 * double ≤ cycle → cycle_at h cycle ≡ Some c → All (λ row. row.state ≡ Active) c.told.rows
  pub uncut :
      (cycle : ℕ) (c : Cycle) → 2 * double ≤ cycle → cycle_at h cycle ≡ Some c
      → All (λ row. row.cut ≡ 0) c.told.rows × All (λ row. row.cut ≡ 0) c.followers
  pub after : (node : NodeSpec) → Contains (correct_nodes x) node → (status_in x.params (told_of h) node.id).state ≡ Active

-- so many double cycles after one in sharp sync the nodes with rows are in sharp sync, and those that follow lie near them; and
-- where first rates still last, no macroticks lie further apart than the sharper precision
pub record StaysJoined (beside : Bool) (x : Setting) (flutter : ℕ) (h : Cycles) (double passed : ℕ) : Type 0 where
  pub synced : IsInSharpSyncAt beside x.params flutter (walked_after x.params flutter passed) h (double + passed)
  pub joined :
      (earlier : Cycles) (even odd : Cycle) → IsDoubleOf h (double + passed) earlier even odd
      → IsJoinedDouble beside x flutter (walked_after x.params flutter passed) earlier even odd (double + passed)
  pub keeps : FirstRatesLast x.params flutter passed → KeepsJoined x h (double + passed) (sharp_precision beside x.params flutter)

-- it is so as long as first rates have lasted
abbrev pub JoinedHistoriesKeepSharpSync : Type 0
JoinedHistoriesKeepSharpSync =
    (beside : Bool) (x : Setting) (from flutter : ℕ) (h : Cycles) (double : ℕ)
    → IsSteadyJoinedFrom beside x from flutter h → from ≤ double → IsUnfollowedSharpSyncAt beside x.params flutter h double
    → (passed : ℕ) → double + passed < x.doubles → ((m : ℕ) → m < passed → FirstRatesLast x.params flutter m)
    → StaysJoined beside x flutter h double passed

-- and where first rates last to the end of the run it is so by the cycle
abbrev pub JoinedHistoriesKeepSharpPrecision : Type 0
JoinedHistoriesKeepSharpPrecision =
    (beside : Bool) (x : Setting) (from flutter : ℕ) (h : Cycles) (double : ℕ)
    → IsSteadyJoinedFrom beside x from flutter h → from ≤ double → IsUnfollowedSharpSyncAt beside x.params flutter h double
    → FirstRatesLastToEnd x flutter double → CyclesKeepJoined x h double (sharp_precision beside x.params flutter)

-- in the cycles before one a node that listens follows in the four behind the double cycle in which it does, and has a row in those
-- behind these
abbrev pub IsJoinedUpTo : Cycles → ℕ → Join → ℕ → Type 0
IsJoinedUpTo h node join before =
    (cycle : ℕ) (c : Cycle) → cycle < before → cycle_at h cycle ≡ Some c
    → (2 * join.double + 2 ≤ cycle → cycle < 2 * join.double + 6 → IsSome (row_of c.followers node))
    × (2 * join.double + 6 ≤ cycle → IsSome (row_of c.told.rows node))

-- so a node that listens in that double cycle or in a later one joins, up to the last double cycle before which first rates have
-- lasted, where its reference's start is not below 0 where it listens
abbrev pub JoinedListenersJoinUpTo : Type 0
JoinedListenersJoinUpTo =
    (beside : Bool) (x : Setting) (from flutter : ℕ) (h : Cycles) (double passed : ℕ) (node : NodeSpec) (join : Join)
    → IsSteadyJoinedFrom beside x from flutter h → from ≤ double → IsUnfollowedSharpSyncAt beside x.params flutter h double
    → double + passed < x.doubles → ((m : ℕ) → m < passed → FirstRatesLast x.params flutter m)
    → Contains (correct_nodes x) node → x.join node.id ≡ Some join → double ≤ join.double
    → (
    (earlier : Cycles) (even odd : Cycle) → IsDoubleOf h join.double earlier even odd
    → pos 0 ≤ℤ (row_for even.told.rows join.reference).start
    )
    → IsJoinedUpTo h node.id join (2 * suc (double + passed))

-- and where first rates last to the end of the run it joins so: it follows in the next four cycles, and has a row in those behind
-- them
abbrev pub JoinedListenersJoin : Type 0
JoinedListenersJoin =
    (beside : Bool) (x : Setting) (from flutter : ℕ) (h : Cycles) (double : ℕ) (node : NodeSpec) (join : Join)
    → IsSteadyJoinedFrom beside x from flutter h → from ≤ double → IsUnfollowedSharpSyncAt beside x.params flutter h double
    → FirstRatesLastToEnd x flutter double
    → Contains (correct_nodes x) node → x.join node.id ≡ Some join → double ≤ join.double
    → (
    (earlier : Cycles) (even odd : Cycle) → IsDoubleOf h join.double earlier even odd
    → pos 0 ≤ℤ (row_for even.told.rows join.reference).start
    )
    → IsJoined h node.id join
