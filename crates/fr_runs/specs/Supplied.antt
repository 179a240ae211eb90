-- What a covered run supplies: deviations to its receivers, and frames of a reference to whoever listens.
use Rattle.std.specs.Prelude.{◌≡◌, ◌≤ℤ◌, ◌-ℤ◌, ◌<◌, ◌*◌, ℕ, suc, pos, Bool, true, ◌&&◌, ◌∷◌, length, All, Contains, IsSome, Some, is_none}
use Rattle.fr_base.specs.Within.{IsWithin}
use Rattle.fr_cluster.specs.Sane.{IsSane}
use Rattle.fr_cluster.specs.Setting.{Setting, correct_nodes, is_correct}
use Rattle.fr_cluster.specs.Values.{amount}
use Rattle.fr_cluster.specs.declared.names.ParamName.TheVariants as name
use Rattle.fr_cluster.specs.declared.nodes.NodeSpec.{NodeSpec}
use Rattle.fr_midpoint.specs.Receivers.{AreFew}
use Rattle.fr_bound.specs.Bounds.{longest_micro, shortest_micro}
use Rattle.fr_bound.specs.Checks.{AllChecksHold, AllJoinChecksHold}
use Rattle.fr_precision.specs.Reception.{LeavesRoom}
use Rattle.fr_history.specs.Catching.{begins_with}
use Rattle.fr_cluster.specs.declared.join.Join.{Join}
use Rattle.fr_history.specs.Cycles.{Cycle, Cycles, some_joins}
use Rattle.fr_history.specs.Lawful.{IsLawful, Obeys}
use Rattle.fr_precision.specs.Round.{sync_count}
use Rattle.fr_history.specs.History.{row_for}
use Rattle.fr_runs.specs.Links.{IsCarried, IsLinked}
use Rattle.fr_runs.specs.Gathered.{AreClocksCovered, IsDoubleInSync, IsHeardByAll, reach_in}
use Rattle.fr_runs.specs.References.{AreReferenced}
use Rattle.fr_runs.specs.Rounds.{AllClocksRun, IsFedFrom, RatesBegin}

-- besides its clocks each slot leaves room for whoever is within the reach of the run, each node that joins has a reference,
-- delays of correct nodes keep within what is stated, and of any two of them one channel carries the frames of both cycles of
-- each double cycle
pub record IsCovered (x : Setting) : Type 0 where
  pub clocks : AreClocksCovered x
  pub room : LeavesRoom x.params (pos (reach_in x))
  pub referenced : AreReferenced x
  pub links :
      (sender receiver : NodeSpec) (slot double : ℕ)
      → IsLinked x sender receiver slot → double < x.doubles → IsCarried x sender receiver double

-- a node that does not join, whatever the cycles: it has a row in all of them
abbrev pub stays_on : Setting → ℕ → Bool
stays_on x node = is_none (x.join node)

-- as it is stated of the run alone: the checks of each cluster hold, and where some node joins those of a cluster that nodes
-- join; the correct sync nodes that do not join outweigh the arbitrary ones, and oscillators, references, delays and links are
-- such
pub record IsCoveredByFiles (x : Setting) : Type 0 where
  pub sane : IsSane x.params
  pub checks : AllChecksHold x.params
  pub join_checks : some_joins x ≡ true → AllJoinChecksHold x.params
  pub few :
      AreFew (sync_count x.params (λ node. is_correct x node && stays_on x node))
      (sync_count x.params x.is_arbitrary)
  pub least :
      (node : NodeSpec) (cycle : ℕ) → Contains (correct_nodes x) node → cycle < 2 * x.doubles
      → pos (shortest_micro x.params) ≤ℤ x.microtick node.id cycle
  pub most :
      (node : NodeSpec) (cycle : ℕ) → Contains (correct_nodes x) node → cycle < 2 * x.doubles
      → x.microtick node.id cycle ≤ℤ pos (longest_micro x.params)
  pub changes :
      (node : NodeSpec) (cycle : ℕ) → Contains (correct_nodes x) node → suc cycle < 2 * x.doubles
      → IsWithin (pos (amount x.params name.xChangeBound)) (x.microtick node.id (suc cycle) -ℤ x.microtick node.id cycle)
  pub referenced : AreReferenced x
  pub links :
      (sender receiver : NodeSpec) (slot double : ℕ)
      → IsLinked x sender receiver slot → double < x.doubles → IsCarried x sender receiver double

-- that suffices
abbrev pub CoverageSuffices : Type 0
CoverageSuffices = (x : Setting) → IsCoveredByFiles x → IsCovered x

-- so each receiver of a double cycle in sync has its deviations of each sender, and what a node begins to follow with was
-- caught of its reference
abbrev pub GatheringsAreFed : Type 0
GatheringsAreFed =
    (x : Setting) (h : Cycles) (even odd : Cycle) (double : ℕ)
    → IsCovered x → Obeys x h even → Obeys x (even ∷ h) odd → IsDoubleInSync x h even odd double → IsHeardByAll x h even odd double

-- as in lawful cycles from any double cycle on
abbrev pub LawfulCyclesAreFed : Type 0
LawfulCyclesAreFed = (x : Setting) (h : Cycles) (double : ℕ) → IsCovered x → IsLawful x h → IsFedFrom x h double

-- a run starts no cycle 0 below 0
abbrev pub StartsBegin : Setting → Type 0
StartsBegin x = (node : NodeSpec) → Contains (correct_nodes x) node → pos 0 ≤ℤ x.start node.id

-- then it starts no cycle below 0, of a node that has a row or of one that follows
abbrev pub StartsStayNatural : Type 0
StartsStayNatural =
    (x : Setting) (h : Cycles) (c : Cycle) → AreClocksCovered x → RatesBegin x → StartsBegin x
    → AllClocksRun x (c ∷ h) → length h < 2 * x.doubles
    → All (λ row. pos 0 ≤ℤ row.start) c.told.rows × All (λ row. pos 0 ≤ℤ row.start) c.followers

-- and a node that listens in such a double cycle begins to follow behind it, where its reference's start is not negative
abbrev pub CoveredListenersBegin : Type 0
CoveredListenersBegin =
    (x : Setting) (h : Cycles) (even odd : Cycle) (double : ℕ) (node : NodeSpec) (join : Join)
    → IsCovered x → IsDoubleInSync x h even odd double → Contains (correct_nodes x) node → x.join node.id ≡ Some join
    → join.double ≡ double → pos 0 ≤ℤ (row_for even.told.rows join.reference).start
    → IsSome (begins_with x (odd ∷ even ∷ h) node.id join)
