-- From power-on to sharp sync: the node that leads a startup begins a run, and all others join it there. It is this program's profile
-- of startup and of joining, and not the standard's whole startup. The words of it, from the top: `IsFirstOn`, `LeadsAlone` (who
-- leads), `IsRunOf` (what a run is), `IsLedRun`, `IsSharplyCoveredToJoin` (what is asked of the files), `synced_ticks`.
use Rattle.std.specs.Prelude.{◌≡◌, ◌≢◌, ◌<◌, ◌≤◌, ◌+◌, ◌-◌, ◌*◌, ◌/◌, ◌≤ℤ◌, ◌+ℤ◌, ℕ, ℤ, pos, true, false, length, All, Contains, IsSome, Option, Some, None}
use Rattle.fr_base.specs.declared.state.State.TheVariants.{Active}
use Rattle.fr_bound.specs.SharpBounds.{sharp_pi, sharp_precision}
use Rattle.fr_bound.specs.SharpChecks.{sharp_holds_of}
use Rattle.fr_cluster.specs.Sane.{IsSane}
use Rattle.fr_cluster.specs.Setting.{Setting, correct_nodes}
use Rattle.fr_cluster.specs.Values.{Values, amount}
use Rattle.fr_cluster.specs.declared.join.Join.{Join}
use Rattle.fr_cluster.specs.declared.names.ParamName.TheVariants as name
use Rattle.fr_cluster.specs.declared.nodes.NodeSpec.{NodeSpec}
use Rattle.fr_cold.specs.Cluster.{Switches, begins_at, macroticks_of_cycle}
use Rattle.fr_cold.specs.Files.{PowerFits}
use Rattle.fr_cold.specs.Questions.{IsNeverOff, switches_of}
use Rattle.fr_cold.specs.StartupLaws.{AreConnected, IsFirstOn, LeadsAlone}
use Rattle.fr_cold.specs.View.{PowerView}
use Rattle.fr_coverage.specs.Decided.{setting_of}
use Rattle.fr_drift.specs.Files.{DriftFits}
use Rattle.fr_drift.specs.Questions.{start_of}
use Rattle.fr_drift.specs.View.{DriftView}
use Rattle.fr_history.specs.Cycles.{Cycle, Cycles, cycle_at, told_of}
use Rattle.fr_history.specs.History.{row_for, row_of}
use Rattle.fr_history.specs.Skew.{skew_at}
use Rattle.fr_precision.specs.Rows.{longest_cycle}
use Rattle.fr_promise.specs.Statement.{IsRunOf}
use Rattle.fr_script.specs.Files.{ScriptFits}
use Rattle.fr_script.specs.View.{ScriptView}
use Rattle.fr_sharp.specs.JoinedFiles.{IsSharplyCoveredToJoin}
use Rattle.fr_runs.specs.SharpHistories.{IsInSharpSyncAt}
use Rattle.fr_promise.specs.SharpJoining.{sharp_reach}

-- ---- numbers, in ticks

-- how long so many macroticks of a cycle without corrections may last, rounded up
abbrev pub longest_time : Values → ℕ → ℕ
longest_time p macroticks = (macroticks * longest_cycle p + (macroticks_of_cycle p - 1)) / macroticks_of_cycle p

-- from the first power-on to the leader's cycle 0: six cycles and a macrotick
abbrev pub leads_ticks : Values → ℕ
leads_ticks p = longest_time p (6 * macroticks_of_cycle p + 1)

-- to its cycle 6: twelve cycles and a macrotick
abbrev pub joined_ticks : Values → ℕ
joined_ticks p = leads_ticks p + 6 * longest_cycle p

-- and to that cycle of each node that takes part there
abbrev pub synced_ticks : Values → ℕ → ℕ
synced_ticks p flutter = joined_ticks p + sharp_pi false p flutter

-- ---- a run that a node leads

-- a node joins the leader, in whichever double cycle
abbrev pub JoinsLeader : Option Join → ℕ → Type 0
JoinsLeader None leader = ⊥
JoinsLeader (Some join) leader = join.reference ≡ leader

-- the leader is a correct node that takes part from cycle 0 on, with no rate correction in its first double cycle, and each other
-- correct node joins it
pub record IsLedRun (x : Setting) (leader : ℕ) : Type 0 where
  pub node : NodeSpec
  pub there : Contains (correct_nodes x) node
  pub number : node.id ≡ leader
  pub stays : x.join leader ≡ None
  pub uncorrected : x.rate leader ≡ pos 0
  pub others : (other : NodeSpec) → Contains (correct_nodes x) other → other.id ≢ leader → JoinsLeader (x.join other.id) leader

-- in the ticks of the run the first power-on is at an instant, and at macrotick `at` of the startup; the leader's cycle 0 starts no
-- later after it than it begins to lead after it, by macroticks that last as long as they may
abbrev pub StartsAsItLeads : Values → Switches → ℕ → ℕ → ℤ → ℤ → Type 0
StartsAsItLeads p switches at leader power_on start =
    (begin : ℕ) → begins_at p switches begin leader ≡ true → start ≤ℤ (power_on +ℤ pos (longest_time p (begin - at)))

-- from which cycle on a node takes part: one that listens in double cycle e from 2 e + 6 on
abbrev pub takes_part_from : Option Join → ℕ
takes_part_from None = 0
takes_part_from (Some join) = 2 * join.double + 6

-- ---- what it comes to

pub record IsInSyncFromPowerOn (x : Setting) (flutter : ℕ) (h : Cycles) (leader : ℕ) (power_on : ℤ) : Type 0 where
  -- each correct node takes part from its cycle on
  pub everyone :
      (node : NodeSpec) (cycle : ℕ) (c : Cycle) → Contains (correct_nodes x) node → cycle_at h cycle ≡ Some c
      → takes_part_from (x.join node.id) ≤ cycle → IsSome (row_of c.told.rows node.id)
  -- whoever does is active
  pub active : (cycle : ℕ) (c : Cycle) → cycle_at h cycle ≡ Some c → All (λ row. row.state ≡ Active) c.told.rows
  -- they are in sharp sync in each double cycle, and no corresponding macroticks of theirs lie further apart than the sharper
  -- precision, in ticks
  pub synced : (double : ℕ) → double < x.doubles → IsInSharpSyncAt false x.params flutter (pos 0) h double
  pub precise :
      (cycle macrotick : ℕ) → cycle < length h → macrotick < amount x.params name.gMacroPerCycle
      → skew_at x.params (told_of h) cycle macrotick ≤ℤ pos (sharp_precision false x.params flutter)
  -- cycle 6, in which whoever listened in double cycle 0 takes part, starts so soon after the first power-on: of the leader, and of
  -- all
  pub leader_soon :
      (c : Cycle) → cycle_at h 6 ≡ Some c → (row_for c.told.rows leader).start ≤ℤ (power_on +ℤ pos (joined_ticks x.params))
  pub all_soon :
      (c : Cycle) → cycle_at h 6 ≡ Some c
      → All (λ row. row.start ≤ℤ (power_on +ℤ pos (synced_ticks x.params flutter))) c.told.rows

-- the promise of some parameters and a flutter: where a power file switches no node off, the node that it switches on first leads the
-- startup and no other does; and where files are sharply covered to join, of which it leads the run, all of it so comes to
abbrev pub PowerOnIsInSync : Values → ℕ → Type 0
PowerOnIsInSync p flutter =
    (v : PowerView) (d : DriftView) (s : ScriptView) (at leader : ℕ) (power_on : ℤ) (h : Cycles)
    → IsSane p → AreConnected p → PowerFits p v → IsNeverOff v → IsFirstOn p (switches_of p v) at leader
    → DriftFits p d → ScriptFits p s → IsSharplyCoveredToJoin p d s 0 flutter
    → sharp_holds_of 1 flutter (sharp_reach false p flutter) p ≡ true
    → IsLedRun (setting_of p d s) leader → StartsAsItLeads p (switches_of p v) at leader power_on (start_of d leader)
    → IsRunOf (setting_of p d s) h
    → LeadsAlone p (switches_of p v) leader (at + 6 * macroticks_of_cycle p + 1)
    × IsInSyncFromPowerOn (setting_of p d s) flutter h leader power_on
