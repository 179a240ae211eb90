-- When a run can have given a log whole, and what the log may state of it.
use Rattle.std.specs.Prelude.{◌≡◌, ◌+◌, ◌-◌, ◌*◌, ◌/◌, ◌<◌, ◌≤◌, ℕ, true, List, length, Contains, Some, IfSome, IsSome, slice_get}
use Rattle.fr_base.specs.declared.channel.Channel.{Channel}
use Rattle.fr_base.specs.declared.node_row.NodeRow.{NodeRow}
use Rattle.fr_base.specs.declared.state.State.TheVariants.{Active}
use Rattle.fr_cluster.specs.Setting.{Setting, correct_nodes}
use Rattle.fr_cluster.specs.declared.nodes.NodeSpec.{NodeSpec}
use Rattle.fr_history.specs.Cycles.{Cycle, Cycles, cycle_at}
use Rattle.fr_history.specs.History.{row_of}
use Rattle.fr_history.specs.Offers.{is_on}
use Rattle.fr_runs.specs.Links.{IsCarried, IsLinked}
use Rattle.fr_log.specs.View.{IsLog, LogView, is_arbitrary_in}
use Rattle.fr_bound.specs.declared.judging.Heard.{Heard}
use Rattle.fr_bound.specs.declared.judging.Heard.TheVariants as heard
use Rattle.fr_observe.specs.Faults.{stated_flutter}
use Rattle.fr_judging.specs.Hearing.{log_heard, synced_with}
use Rattle.fr_runs.specs.SteadyRuns.{IsSteadySetting, IsTimedSetting, NoneIsDeaf}
use Rattle.fr_course.specs.declared.stamps.Delays.{Delays}
use Rattle.fr_sightings.specs.Senders.{first_stamp}
use Rattle.fr_sightings.specs.Sightings.{sightings_of}
use Rattle.fr_sightings.specs.declared.sighting.Sighting.{Sighting}
use Rattle.fr_seen.specs.Clocks.{StraightClock}
use Rattle.fr_seen.specs.LogSeen.{IsLogSeen, run_double}
use Rattle.fr_seen.specs.RunRows.{IsTimedRun}
use Rattle.fr_runs.specs.SharpHistories.{EachHasRow, IsKnownAt}

-- a whole run that the log is seen of
pub record IsObservedRun
    (x : Setting) (h : Cycles) (base : ℕ) (delays : ℕ → Channel → Delays) (clock : ℕ → StraightClock) (l : LogView)
    : Type 0 where
  pub timed : IsTimedRun x h
  pub whole : length h ≡ 2 * x.doubles
  pub log : IsLog l
  pub seen : IsLogSeen x h base delays clock l

-- the log names the arbitrary nodes of the run, and no other
abbrev pub NamesArbitrary : Setting → LogView → Type 0
NamesArbitrary x l =
    (node : NodeSpec) → Contains x.params.nodes node → x.is_arbitrary node.id ≡ is_arbitrary_in l node.id

-- a number lies strictly between those of the first and the last sighting
pub record IsInside (seen : List Sighting) (number : ℕ) : Type 0 where
  pub first : Sighting
  pub last : Sighting
  pub is_first : slice_get seen 0 ≡ Some first
  pub is_last : slice_get seen (length seen - 1) ≡ Some last
  pub behind : first.number < number
  pub before : number < last.number

-- the observer missed no frame of a key slot there
abbrev pub MissesNone : Setting → Cycles → ℕ → LogView → Type 0
MissesNone x h base l =
    (number : ℕ) (node : NodeSpec) (channel : Channel) (c : Cycle) (row : NodeRow)
    → IsInside (sightings_of x.params l) number → Contains (correct_nodes x) node → IsSome node.key
    → is_on x node.id channel ≡ true → cycle_at h (number + base) ≡ Some c → row_of c.told.rows node.id ≡ Some row
    → row.state ≡ Active → IsSome (first_stamp (sightings_of x.params l) node.id channel number)

-- a correct node misses at most so many of the correct sync nodes in a double cycle: of each other one a channel that both have
-- carries the frames of both cycles to it
pub record MissesFew (x : Setting) (double lost : ℕ) (receiver : NodeSpec) : Type 0 where
  pub missed : List ℕ
  pub few : length missed ≤ lost
  pub carried :
      (sender : NodeSpec) (slot : ℕ) → IsLinked x sender receiver slot → (Contains missed sender.id → ⊥)
      → IsCarried x sender receiver double

-- where the log states that the cluster is in sync in a double cycle, it is so by the sharper bounds, with lengths in their range, and
-- each correct node has a row in it
abbrev pub IsSyncedAsStated : Setting → Cycles → ℕ → LogView → Heard → ℕ → Type 0
IsSyncedAsStated x h base l what cycle =
    IsKnownAt x h (run_double base (cycle / 2)) (synced_with x.params l what) × EachHasRow x h (run_double base (cycle / 2))

-- what faults ask of the run and of what the log states, where it is told what nodes hear: the correct sync nodes that do not join
-- outweigh the arbitrary ones; oscillators, their changes and delays keep within what is stated; of each double cycle each correct node
-- misses at most so many correct sync nodes as the log says, and where frames may be lost, none is left without any value. What nodes
-- miss is asked of the double cycles of the run before one of them alone
pub record IsAsLogStatesBefore (x : Setting) (h : Cycles) (base : ℕ) (l : LogView) (until : ℕ) : Type 0 where
  pub named : NamesArbitrary x l
  pub timed : (what : Heard) → log_heard x.params l ≡ Some what → IsTimedSetting x (stated_flutter x.params l)
  pub missed :
      (what : Heard) (double : ℕ) (node : NodeSpec) → log_heard x.params l ≡ Some what → double < until
      → Contains (correct_nodes x) node → MissesFew x double l.lost node
  pub none_deaf : (double : ℕ) → log_heard x.params l ≡ Some heard.Poor → double < until → NoneIsDeaf x double
  pub since : (what : Heard) → log_heard x.params l ≡ Some what → IfSome l.since (IsSyncedAsStated x h base l what)
  pub unmissed : l.whole ≡ true → MissesNone x h base l

-- in all of them
abbrev pub IsAsLogStates : Setting → Cycles → ℕ → LogView → Type 0
IsAsLogStates x h base l = IsAsLogStatesBefore x h base l x.doubles

-- a run of which all frames are carried misses none
abbrev pub SteadyRunsMissNone : Type 0
SteadyRunsMissNone =
    (x : Setting) (flutter double lost : ℕ) (node : NodeSpec)
    → IsSteadySetting x flutter → double < x.doubles → Contains (correct_nodes x) node → MissesFew x double lost node
