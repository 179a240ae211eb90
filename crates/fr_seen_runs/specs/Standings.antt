-- Double cycles of a log that are judged by their own numbers: what is known of them is so, and nothing contradicts it.
use Rattle.std.specs.Prelude.{◌≡◌, ◌<◌, ◌≤◌, ℕ, suc, true, All, List, [], ◌∷◌, ◌++◌, map, Contains, Option, Some, None, IfSome}
use Rattle.std.specs.Option.{option_map, option_to_list}
use Rattle.fr_base.specs.declared.channel.Channel.{Channel}
use Rattle.fr_bound.specs.Judged.{apart_through}
use Rattle.fr_bound.specs.declared.judging.Heard.{Heard}
use Rattle.fr_bound.specs.declared.judging.Known.{Known}
use Rattle.fr_cluster.specs.Setting.{Setting, correct_nodes}
use Rattle.fr_cluster.specs.declared.nodes.NodeSpec.{NodeSpec}
use Rattle.fr_cluster.specs.Values.{Values}
use Rattle.fr_history.specs.Cycles.{Cycles}
use Rattle.fr_log.specs.View.{LogView}
use Rattle.fr_course.specs.Readings.{reading_scale}
use Rattle.fr_course.specs.declared.stamps.Delays.{Delays}
use Rattle.fr_sightings.specs.Senders.{sightings_in}
use Rattle.fr_sightings.specs.Sightings.{OffendingFrames, offending_frames_of, sightings_of}
use Rattle.fr_sightings.specs.declared.sighting.Sighting.{Sighting}
use Rattle.fr_observe.specs.Faults.{stated_flutter}
use Rattle.fr_judging.specs.Knowing.{judged_met, known_next, standing_faults, standing_of}
use Rattle.fr_observe.specs.Observing.{seen_doubles}
use Rattle.fr_observe.specs.declared.fault.Fault.{Fault}
use Rattle.fr_judging.specs.Missing.{all_missed}
use Rattle.fr_judging.specs.declared.knowing.Standing.{Standing}
use Rattle.fr_judging.specs.declared.missed.Missed.{Missed}
use Rattle.fr_judging.specs.Hearing.{log_heard}
use Rattle.fr_findings.specs.Verdict.{Basis, double_at, log_basis, log_span, no_progress, progress_behind, sightings_before, standing_told}
use Rattle.fr_findings.specs.declared.progress.Progress.{Progress}
use Rattle.fr_sharp.specs.JudgedSteps.{IsHeardIn}
use Rattle.fr_runs.specs.SharpHistories.{EachHasRow, IsKnownAt, KeepsApart}
use Rattle.fr_seen.specs.Clocks.{StraightClock}
use Rattle.fr_seen.specs.LogSeen.{log_senders, run_double}
use Rattle.fr_seen.specs.Contradictions.{IsAsLogStates, IsAsLogStatesBefore, IsObservedRun, MissesFew}

-- so much is known of a double cycle of the log, where the run has it: in the run each correct node has a row in it
abbrev pub IsKnownIn : Setting → Cycles → ℕ → ℕ → Known → Type 0
IsKnownIn x h base double known =
    run_double base double < x.doubles → IsKnownAt x h (run_double base double) known × EachHasRow x h (run_double base double)

abbrev pub IsKnownOfLog : Setting → Cycles → ℕ → ℕ → Option Known → Type 0
IsKnownOfLog x h base double known = IfSome known (IsKnownIn x h base double)

-- how a double cycle of the log stands
abbrev pub log_standing : Setting → LogView → Heard → ℕ → Option Known → Option Fault → Standing
log_standing x l what double known told =
    standing_of x.params (reading_scale l.drift x.params) l (sightings_in (sightings_of x.params l) double) double
    (log_senders x l double) (Some what) known told

abbrev pub log_standing_faults : Setting → LogView → ℕ → Standing → List Fault
log_standing_faults x l double st =
    standing_faults x.params (reading_scale l.drift x.params) l (log_span (sightings_of x.params l))
    (sightings_before (sightings_of x.params l) double) (sightings_in (sightings_of x.params l) double) double
    (log_senders x l double) st

-- a double cycle of the log, and the numbers that it is judged by, as its row of spread has them
pub record Spreading : Type 0 where
  pub number : ℕ
  pub met : Known

-- they are so in the run: its starts and even lengths lie no further apart, and these no further beyond their range; each correct
-- node has a row; and no macroticks of it lie further apart than the row says
pub record SpreadIsSo (x : Setting) (h : Cycles) (base : ℕ) (l : LogView) (what : Heard) (s : Spreading) : Type 0 where
  pub known : IsKnownAt x h (run_double base s.number) s.met
  pub each : EachHasRow x h (run_double base s.number)
  pub keeps : KeepsApart x h (run_double base s.number) (apart_through what x.params (stated_flutter x.params l) s.met)

-- in a log that is seen of a run, as it states, nothing contradicts what is known of a double cycle; what it is judged by is so, and
-- what is then known of the next one
pub record StandsSo (x : Setting) (h : Cycles) (base : ℕ) (l : LogView) (what : Heard) (double : ℕ) (st : Standing) : Type 0 where
  pub faults : log_standing_faults x l double st ≡ []
  pub spread : IfSome (judged_met st) (λ met. SpreadIsSo x h base l what (record { number = double; met = met }))
  pub next : IsKnownOfLog x h base (suc double) (known_next x.params l st true)

abbrev pub StandingsAreSo : Type 0
StandingsAreSo =
    (x : Setting) (h : Cycles) (base : ℕ) (delays : ℕ → Channel → Delays) (clock : ℕ → StraightClock) (l : LogView)
    (what : Heard) (double : ℕ) (known : Option Known) (told : Option Fault)
    → IsObservedRun x h base delays clock l → IsAsLogStates x h base l → log_heard x.params l ≡ Some what
    → Contains (seen_doubles (sightings_of x.params l)) double → IsKnownOfLog x h base double known
    → StandsSo x h base l what double (log_standing x l what double known told)

-- ---- the rows of spread

-- those of some double cycles, one after the other: each by what is known of it from the one before
abbrev pub spread_row_of : ℕ → Option Known → List Spreading
spread_row_of double judged = option_to_list (option_map (λ met. record { number = double; met = met }) judged)

unfoldable pub spreads_from : Basis → List Sighting → OffendingFrames → Progress → List ℕ → List Spreading
spreads_from b seen offending progress [] = []
spreads_from b seen offending progress (double ∷ doubles) =
    spread_row_of double (judged_met (standing_told b (double_at b seen offending double) progress.known))
    ++ spreads_from b seen offending (progress_behind b seen offending double progress) doubles

-- of all of a log
unfoldable pub log_spreads : Values → LogView → List Spreading
log_spreads p l =
    spreads_from (log_basis p l) (sightings_of p l) (offending_frames_of p l) no_progress (seen_doubles (sightings_of p l))

-- each is so in each run that the log is seen of, as it states
abbrev pub SpreadsAreSo : Type 0
SpreadsAreSo =
    (x : Setting) (h : Cycles) (base : ℕ) (delays : ℕ → Channel → Delays) (clock : ℕ → StraightClock) (l : LogView)
    (what : Heard)
    → IsObservedRun x h base delays clock l → IsAsLogStates x h base l → log_heard x.params l ≡ Some what
    → All (SpreadIsSo x h base l what) (log_spreads x.params l)

-- ---- what nodes missed

-- what the rows tell of some double cycles: the double cycle, and how many senders a node must have missed in it
pub record Missing : Type 0 where
  pub number : ℕ
  pub missed : Missed

abbrev pub missed_rows_of : Basis → List Sighting → OffendingFrames → Progress → ℕ → List Missing
missed_rows_of b seen offending progress double =
    map (λ missed. record { number = double; missed = missed })
    (
    all_missed b.params b.log b.scale double (double_at b seen offending double).senders
    (judged_met (standing_told b (double_at b seen offending double) progress.known))
    )

unfoldable pub missed_rows_from : Basis → List Sighting → OffendingFrames → Progress → List ℕ → List Missing
missed_rows_from b seen offending progress [] = []
missed_rows_from b seen offending progress (double ∷ doubles) =
    missed_rows_of b seen offending progress double
    ++ missed_rows_from b seen offending (progress_behind b seen offending double progress) doubles

unfoldable pub log_missing : Values → LogView → List Missing
log_missing p l =
    missed_rows_from (log_basis p l) (sightings_of p l) (offending_frames_of p l) no_progress (seen_doubles (sightings_of p l))

-- in the run the node missed no fewer; where none is told, there is no such run
abbrev pub IsNoLess : Option ℕ → ℕ → Type 0
IsNoLess None lost = ⊥
IsNoLess (Some least) lost = least ≤ lost

abbrev pub MissingIsSo : Setting → ℕ → Missing → Type 0
MissingIsSo x base m =
    (node : NodeSpec) (lost : ℕ) → Contains (correct_nodes x) node → node.id ≡ m.missed.node
    → MissesFew x (run_double base m.number) lost node → IsNoLess m.missed.least lost

-- each row is so in each run that the log is seen of, as it states in the double cycles before that of the row, and in which all nodes
-- hear all in that one, also beside arbitrary sync nodes, or none is deaf in it, without these; how many its nodes may miss in that one
-- is not asked
abbrev pub MissingsAreSo : Type 0
MissingsAreSo =
    (x : Setting) (h : Cycles) (base : ℕ) (delays : ℕ → Channel → Delays) (clock : ℕ → StraightClock) (l : LogView)
    (m : Missing) (hearing : Heard)
    → IsObservedRun x h base delays clock l → IsAsLogStatesBefore x h base l (run_double base m.number)
    → IsHeardIn hearing x (run_double base m.number)
    → Contains (log_missing x.params l) m → MissingIsSo x base m
