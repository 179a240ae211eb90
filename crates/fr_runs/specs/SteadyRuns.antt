-- A run whose delays flutter little: what is stated of it besides its checks, and that the nodes with rows in one of its
-- double cycles, whoever follows in it, have steady pairs of each other (section 8.5).
use Rattle.std.specs.Prelude.{◌≡◌, ◌≤ℤ◌, ◌-ℤ◌, ◌<◌, ◌≤◌, ◌*◌, ℕ, suc, ℤ, pos, Bool, true, false, ◌&&◌, List, length, map, All, Contains, ◌⊎◌, IsSome}
use Rattle.fr_base.specs.Within.{IsWithin}
use Rattle.fr_base.specs.declared.state.State.TheVariants.{Active}
use Rattle.fr_cluster.specs.Sane.{IsSane}
use Rattle.fr_cluster.specs.Setting.{Setting, correct_nodes, is_correct}
use Rattle.fr_cluster.specs.Values.{amount}
use Rattle.fr_cluster.specs.declared.names.ParamName.TheVariants as name
use Rattle.fr_cluster.specs.declared.nodes.NodeSpec.{NodeSpec}
use Rattle.fr_midpoint.specs.Receivers.{AreFew}
use Rattle.fr_bound.specs.Bounds.{longest_micro, shortest_micro}
use Rattle.fr_precision.specs.Offsets.{LimitSuffices}
use Rattle.fr_precision.specs.Reception.{LeavesRoom}
use Rattle.fr_precision.specs.Round.{senders_of, sync_count, Hearer}
use Rattle.fr_precision.specs.Step.{Member}
use Rattle.fr_history.specs.Cycles.{Cycle, Cycles}
use Rattle.fr_history.specs.Lawful.{IsLawful}
use Rattle.fr_history.specs.Standing.{row_nodes}
use Rattle.fr_runs.specs.Gathered.{round_at, row_hearer}
use Rattle.fr_runs.specs.Links.{IsCarried, IsLinked}
use Rattle.fr_runs.specs.Rounds.{IsDoubleOf}
use Rattle.fr_runs.specs.Supplied.{IsCoveredByFiles, stays_on}
use Rattle.fr_runs.specs.Flutter.{DelaysAreStated, FluttersWithin}
use Rattle.fr_bound.specs.SharpBounds.{last_action}
use Rattle.fr_precision.specs.SharpRound.{as_member, IsRoundInReach, IsSteadilySupplied}
use Rattle.fr_precision.specs.SharpStep.{ActInReach, IsSharpDouble}
use Rattle.fr_base.specs.Event.{Event}
use Rattle.fr_base.specs.Event as event

-- what is stated of a run besides its checks, whatever frames are lost in it: the correct sync nodes that do not join outweigh
-- the arbitrary ones; and from a double cycle on oscillators, their changes and delays keep within bounds, and delays flutter by no
-- more than this
pub record IsTimedFrom (x : Setting) (from flutter : ℕ) : Type 0 where
  pub sane : IsSane x.params
  pub few :
      AreFew (sync_count x.params (λ node. is_correct x node && stays_on x node))
      (sync_count x.params x.is_arbitrary)
  pub least :
      (node : NodeSpec) (cycle : ℕ) → Contains (correct_nodes x) node → 2 * from ≤ cycle → cycle < 2 * x.doubles
      → pos (shortest_micro x.params) ≤ℤ x.microtick node.id cycle
  pub most :
      (node : NodeSpec) (cycle : ℕ) → Contains (correct_nodes x) node → 2 * from ≤ cycle → cycle < 2 * x.doubles
      → x.microtick node.id cycle ≤ℤ pos (longest_micro x.params)
  pub changes :
      (node : NodeSpec) (cycle : ℕ) → Contains (correct_nodes x) node → 2 * from ≤ cycle → suc cycle < 2 * x.doubles
      → IsWithin (pos (amount x.params name.xChangeBound)) (x.microtick node.id (suc cycle) -ℤ x.microtick node.id cycle)
  pub delays : DelaysAreStated x from
  pub flutters : FluttersWithin x from flutter

abbrev pub IsTimedSetting : Setting → ℕ → Type 0
IsTimedSetting x flutter = IsTimedFrom x 0 flutter

-- of any two nodes one channel carries the frames of both cycles of a double cycle
abbrev pub IsWhole : Setting → ℕ → Type 0
IsWhole x double = (sender receiver : NodeSpec) (slot : ℕ) → IsLinked x sender receiver slot → IsCarried x sender receiver double

-- and where that is so in each double cycle from that one on
pub record IsSteadyFrom (x : Setting) (from flutter : ℕ) : Type 0 where
  pub timed : IsTimedFrom x from flutter
  pub links : (double : ℕ) → from ≤ double → double < x.doubles → IsWhole x double

abbrev pub IsSteadySetting : Setting → ℕ → Type 0
IsSteadySetting x flutter = IsSteadyFrom x 0 flutter

-- what is stated so from a double cycle on is so from a later one on
abbrev pub TimedRunsAreLater : Type 0
TimedRunsAreLater = (x : Setting) (from later flutter : ℕ) → from ≤ later → IsTimedFrom x from flutter → IsTimedFrom x later flutter

abbrev pub SteadyRunsAreLater : Type 0
SteadyRunsAreLater =
    (x : Setting) (from later flutter : ℕ) → from ≤ later → IsSteadyFrom x from flutter → IsSteadyFrom x later flutter

-- a run that is covered in the older sense is such a one, if its delays flutter no more
abbrev pub CoveredRunsAreSteady : Type 0
CoveredRunsAreSteady =
    (x : Setting) (from flutter : ℕ) → IsCoveredByFiles x → FluttersWithin x from flutter → IsSteadyFrom x from flutter

-- lawful cycles of a run in which frames may be lost, stated from a double cycle on: all that it has, or those up to one of them
pub record IsTimedPartFrom (x : Setting) (from flutter : ℕ) (h : Cycles) : Type 0 where
  pub covered : IsTimedFrom x from flutter
  pub lawful : IsLawful x h
  pub within : length h ≤ 2 * x.doubles

abbrev pub IsTimedPart : Setting → ℕ → Cycles → Type 0
IsTimedPart x flutter h = IsTimedPartFrom x 0 flutter h

-- and of a steady one
pub record IsSteadyPartFrom (x : Setting) (from flutter : ℕ) (h : Cycles) : Type 0 where
  pub covered : IsSteadyFrom x from flutter
  pub lawful : IsLawful x h
  pub within : length h ≤ 2 * x.doubles

abbrev pub IsSteadyPart : Setting → ℕ → Cycles → Type 0
IsSteadyPart x flutter h = IsSteadyPartFrom x 0 flutter h

-- the nodes with rows in a double cycle behind some cycles, as receivers and as nodes of the step
abbrev pub row_hearers : Setting → Cycles → Cycle → Cycle → List Hearer
row_hearers x h even odd = map (λ node. row_hearer x even odd node.id) (row_nodes x h)

abbrev pub row_members : Setting → Cycles → Cycle → Cycle → List Member
row_members x h even odd = map (as_member x.params) (row_hearers x h even odd)

-- they are active in it, with rates within their limit, in microticks, and the action points of any two of them lie within a
-- reach, in ticks, for which the offset limit suffices and slots leave room, whatever it is that says so
pub record AreRowsInReach (x : Setting) (h : Cycles) (even odd : Cycle) (reach : ℤ) : Type 0 where
  pub active_even : All (λ row. row.state ≡ Active) even.told.rows
  pub active_odd : All (λ row. row.state ≡ Active) odd.told.rows
  pub rates : All (λ row. IsWithin x.params.rate_limit row.rate) even.told.rows
  pub limit : LimitSuffices x.params reach
  pub room : LeavesRoom x.params reach
  pub acts : ActInReach x.params reach (pos (last_action x.params)) (row_members x h even odd)

-- then each of them has its deviations of every other sender among them, and those of one channel are a steady pair
abbrev pub RowsHearSteadily : Type 0
RowsHearSteadily =
    (x : Setting) (from flutter : ℕ) (h earlier : Cycles) (even odd : Cycle) (double : ℕ) (reach : ℤ) (node : NodeSpec)
    → IsSteadyPartFrom x from flutter h → from ≤ double → IsDoubleOf h double earlier even odd
    → AreRowsInReach x earlier even odd reach
    → Contains (row_nodes x earlier) node
    → IsSteadilySupplied (round_at x earlier even odd) flutter (row_hearer x even odd node.id)

-- whether a run may have arbitrary sync nodes
abbrev pub MayHaveArbitrary : Bool → Setting → Type 0
MayHaveArbitrary false x = sync_count x.params x.is_arbitrary ≡ 0
MayHaveArbitrary true x = Unit {0}

-- so their round is one in reach, and a double cycle as the sharper step asks for
abbrev pub RowsAreSharpDoubles : Type 0
RowsAreSharpDoubles =
    (beside : Bool) (x : Setting) (from flutter : ℕ) (h earlier : Cycles) (even odd : Cycle) (double : ℕ) (reach : ℤ)
    → MayHaveArbitrary beside x → IsSteadyPartFrom x from flutter h → from ≤ double → IsDoubleOf h double earlier even odd
    → AreRowsInReach x earlier even odd reach
    → IsRoundInReach beside (round_at x earlier even odd) flutter reach (row_hearers x earlier even odd)
    × IsSharpDouble beside x.params flutter (senders_of (round_at x earlier even odd)) (row_members x earlier even odd)
    (pos (last_action x.params))

-- in a double cycle a node has a value: its own if it has a key slot, or that of a node whose frames of both cycles one channel
-- carries to it
abbrev pub HearsSome : Setting → NodeSpec → ℕ → Type 0
HearsSome x node double =
    IsSome node.key ⊎ ((sender : NodeSpec) × ((slot : ℕ) × IsLinked x sender node slot × IsCarried x sender node double))

abbrev pub NoneIsDeaf : Setting → ℕ → Type 0
NoneIsDeaf x double = (node : NodeSpec) → Contains (correct_nodes x) node → HearsSome x node double

-- certainly nothing comes of a frame
abbrev pub is_silent : Event → Bool
is_silent event.Silent = true
is_silent other = false
