-- What holds in a double cycle that is judged, by what is known of it: its own numbers, which need not be those of sharp sync. Nothing
-- is asked of other double cycles.
use Rattle.std.specs.Prelude.{◌<◌, ◌≤◌, ◌-ℤ◌, ℕ, suc, ℤ, pos, Bool, false, true, List, Contains}
use Rattle.fr_base.specs.Within.{IsWithin}
use Rattle.fr_cluster.specs.Setting.{Setting}
use Rattle.fr_cluster.specs.Values.{Values}
use Rattle.fr_midpoint.specs.Midpoint.{IsMidpoint}
use Rattle.fr_bound.specs.Judged.{apart_through, known_after, met_of, IsJudgedDouble}
use Rattle.fr_bound.specs.SharpBounds.{last_action}
use Rattle.fr_bound.specs.SharpSpreads.{sharp_spread, sharply_near_in}
use Rattle.fr_bound.specs.declared.judging.Heard.{Heard}
use Rattle.fr_bound.specs.declared.judging.Heard.TheVariants as heard
use Rattle.fr_bound.specs.declared.judging.Known.{Known}
use Rattle.fr_precision.specs.Round.{Hearer, Round}
use Rattle.fr_precision.specs.Rows.{Sender}
use Rattle.fr_precision.specs.Step.{Member}
use Rattle.fr_history.specs.Cycles.{Cycle, Cycles}
use Rattle.fr_runs.specs.Gathered.{round_at}
use Rattle.fr_runs.specs.Rounds.{IsDoubleOf}
use Rattle.fr_precision.specs.Among.{ComputesOwn}
use Rattle.fr_traffic.specs.RoundsInPart.{IsRoundInPart}
use Rattle.fr_sharp.specs.SettlingHistories.{AreStatedNear}
use Rattle.fr_runs.specs.SharpHistories.{members_at, senders_at, EachHasRow, IsInSharpSyncAt, IsKnownAt, IsLawfulStatedRunFrom, IsStatedRun, IsStatedRunFrom, KeepsApart}
use Rattle.fr_precision.specs.SharpRound.{IsRoundInReach}
use Rattle.fr_precision.specs.SharpStep.{IsSharpDouble}
use Rattle.fr_runs.specs.SteadyRuns.{row_hearers, AreRowsInReach, IsWhole, MayHaveArbitrary, NoneIsDeaf}

-- what is heard in a double cycle of a run: of any two nodes one channel carries the frames of both cycles, without arbitrary sync
-- nodes or beside them; or, without them, no node is left without any value
abbrev pub IsHeardIn : Heard → Setting → ℕ → Type 0
IsHeardIn heard.Clean x double = MayHaveArbitrary false x × IsWhole x double
IsHeardIn heard.Meeting x double = IsWhole x double
IsHeardIn heard.Poor x double = MayHaveArbitrary false x × NoneIsDeaf x double

-- the round of the nodes with rows: action points lie within a reach, in ticks, and each is supplied with the deviations of all
-- senders, or of some, of which two on one channel are a steady pair
abbrev pub IsRoundBy : Heard → Round → ℕ → ℤ → List Hearer → Type 0
IsRoundBy heard.Clean r flutter reach rows = IsRoundInReach false r flutter reach rows
IsRoundBy heard.Meeting r flutter reach rows = IsRoundInReach true r flutter reach rows
IsRoundBy heard.Poor r flutter reach rows = IsRoundInPart r flutter rows

-- what the nodes with rows make of what they hear: each has one deviation of each sender, or of some, with the error of an arrival,
-- and rate values that place the lengths of their even cycles; and of nobody else more than it discards
abbrev pub ComputeBy : Heard → Values → ℕ → List Sender → List Member → ℤ → Type 0
ComputeBy heard.Clean p flutter senders nodes last = IsSharpDouble false p flutter senders nodes last
ComputeBy heard.Meeting p flutter senders nodes last = IsSharpDouble true p flutter senders nodes last
ComputeBy heard.Poor p flutter senders nodes last = (node : Member) → Contains nodes node → ComputesOwn p flutter nodes last node

-- a node applies the midpoint of its offset values, and its rate grows by that of its rate values, but for the damping
pub record AppliesMidpoints (p : Values) (node : Member) : Type 0 where
  pub offset : IsMidpoint node.offsets node.odd.offset
  pub middle : ℤ
  pub is_middle : IsMidpoint node.rates middle
  pub grown : IsWithin p.damping ((node.rate_term.value -ℤ node.odd.rate) -ℤ middle)

-- all of it: no macroticks of the double cycle lie further apart, in ticks, no term is cut or missing, and each node is active behind
-- it; action points lie within the reach; each has its values and applies their midpoints; and so much is known of the next one
pub record GoesOnJudged (what : Heard) (x : Setting) (flutter : ℕ) (h : Cycles) (double : ℕ) (known : Known) : Type 0 where
  pub keeps : KeepsApart x h double (apart_through what x.params flutter known)
  pub reached :
      (earlier : Cycles) (even odd : Cycle) → IsDoubleOf h double earlier even odd
      → AreRowsInReach x earlier even odd (pos (sharply_near_in x.params known.spread))
  pub round :
      (earlier : Cycles) (even odd : Cycle) → IsDoubleOf h double earlier even odd
      → IsRoundBy what (round_at x earlier even odd) flutter (pos (sharply_near_in x.params known.spread))
      (row_hearers x earlier even odd)
  pub computes : ComputeBy what x.params flutter (senders_at x h double) (members_at x h double) (pos (last_action x.params))
  pub applies : (node : Member) → Contains (members_at x h double) node → AppliesMidpoints x.params node
  pub next : suc double < x.doubles → IsKnownAt x h (suc double) (known_after what x.params flutter known)

-- a double cycle of a lawful history that is judged goes on so
abbrev pub JudgedGoesOn : Type 0
JudgedGoesOn =
    (what : Heard) (x : Setting) (from flutter : ℕ) (h : Cycles) (double : ℕ) (known : Known)
    → IsStatedRunFrom x from flutter h → from ≤ double → double < x.doubles → IsHeardIn what x double
    → IsKnownAt x h double known → IsJudgedDouble x.params flutter known → GoesOnJudged what x flutter h double known

-- ---- whoever joins

-- where each correct node has a row, a double cycle that is judged goes on in the same way, whoever has joined, and each has one in
-- the next one
abbrev pub UnfollowedGoesOn : Type 0
UnfollowedGoesOn =
    (what : Heard) (x : Setting) (from flutter : ℕ) (h : Cycles) (double : ℕ) (known : Known)
    → IsLawfulStatedRunFrom x from flutter h → from ≤ double → double < x.doubles → IsHeardIn what x double → EachHasRow x h double
    → IsKnownAt x h double known → IsJudgedDouble x.params flutter known
    → GoesOnJudged what x flutter h double known × (suc double < x.doubles → EachHasRow x h (suc double))

-- ---- what is known

-- what is known of a double cycle in two ways is known with the lesser of each two numbers
abbrev pub KnownIsMet : Type 0
KnownIsMet =
    (x : Setting) (h : Cycles) (double : ℕ) (known other : Known)
    → IsKnownAt x h double known → IsKnownAt x h double other → IsKnownAt x h double (met_of known other)

-- so much is known of one in sharp sync
abbrev pub synced_as : Bool → Values → ℕ → ℕ → Known
synced_as beside p flutter beyond = record { spread = sharp_spread beside p flutter; beyond = beyond }

abbrev pub SharpSyncIsKnown : Type 0
SharpSyncIsKnown =
    (beside : Bool) (x : Setting) (flutter beyond : ℕ) (h : Cycles) (double : ℕ)
    → IsInSharpSyncAt beside x.params flutter (pos beyond) h double → IsKnownAt x h double (synced_as beside x.params flutter beyond)

-- and of the first double cycle, by what is stated of its starts and first lengths, each of these in its range
abbrev pub StatedRunsAreKnown : Type 0
StatedRunsAreKnown =
    (x : Setting) (flutter start rate : ℕ) (h : Cycles)
    → IsStatedRun x flutter h → AreStatedNear x start rate → 1 ≤ x.doubles
    → IsKnownAt x h 0 (record { spread = record { starts = start; lengths = rate }; beyond = 0 })
