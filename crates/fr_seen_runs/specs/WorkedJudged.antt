-- The worked log, read of a cluster whose offset limit is too small for its own precision: a classical check fails. How its double cycles
-- stand, and what a node must have missed.
use Rattle.std.specs.Prelude.{◌≡◌, ℕ, codes, pos, neg_ℤ, true, false, [], ◌∷◌, None, Option, Some}
use Rattle.fr_base.specs.declared.channel.Channel.{Channel}
use Rattle.fr_bound.specs.declared.judging.Heard.TheVariants.{Clean, Poor}
use Rattle.fr_bound.specs.declared.judging.Known.{Known}
use Rattle.fr_cluster.specs.Setting.{Setting}
use Rattle.fr_cluster.specs.Values.{Values}
use Rattle.fr_history.specs.Cycles.{Cycles}
use Rattle.fr_history.specs.Next.{cycles_of}
use Rattle.fr_log.specs.View.{LogView}
use Rattle.fr_course.specs.declared.stamps.Delays.{Delays}
use Rattle.fr_course.specs.Readings.{reading_scale}
use Rattle.fr_observe.specs.Observing.{senders_of}
use Rattle.fr_sightings.specs.Sightings.{offending_frames_of, sightings_of}
use Rattle.fr_observe.specs.declared.fault.Fault.{Fault}
use Rattle.fr_observe.specs.declared.fault.Fault.TheVariants as fault
use Rattle.fr_judging.specs.Knowing.{spread_told}
use Rattle.fr_judging.specs.declared.knowing.Standing.{Standing}
use Rattle.fr_bound.specs.Checks.{holds_of}
use Rattle.fr_judging.specs.Hearing.{log_heard}
use Rattle.fr_judging.specs.Missing.{missed_told}
use Rattle.fr_findings.specs.Verdict.{Basis, double_at, known_next_told, log_basis, standing_told, verdict_of}
use Rattle.fr_findings.specs.declared.verdict.Verdict.{Verdict}
use Rattle.fr_findings.specs.declared.verdict.Verdict.TheVariants as verdict
use Rattle.fr_seen.specs.Clocks.{StraightClock}
use Rattle.fr_seen.specs.Contradictions.{IsAsLogStates, IsObservedRun}
use Rattle.fr_seen_runs.specs.WorkedFaults.{late_log, offset_told}
use Rattle.fr_seen_runs.specs.WorkedLog.{no_delays, seen_cluster, seen_cycles, seen_entry, seen_log, seen_run, true_clock}

-- ---- the cluster

-- its offset terms are cut to 20 microticks; the third check asks for 254
abbrev pub judged_cluster : Values
judged_cluster = let values : Values = seen_cluster in record values { offset_limit = pos 20 }

-- the worked log, which states nothing of sync
abbrev pub judged_log : LogView
judged_log = seen_log None false

-- ---- its double cycles

abbrev pub known_from : ℕ → ℕ → ℕ → Known
known_from starts lengths beyond = record { spread = record { starts = starts; lengths = lengths }; beyond = beyond }

-- what is seen of the first one, in ticks: starts lie at most 3.6 microticks apart, lengths at most the breadth of two stamps.
-- What is known by this of the second one, and that met with what is seen of it
abbrev pub first_met : Known
first_met = known_from 3_520_552 80_000 0

abbrev pub second_known : Known
second_known = known_from 4_080_600 13_002_198 0

abbrev pub second_met : Known
second_met = known_from 1_520_552 80_000 0

-- a double cycle that is judged by its own numbers
abbrev pub judged_by_numbers : Option Known → Known → Standing
judged_by_numbers known met =
    record { heard = Some Clean; known = known; met = Some met; is_judged = true; obstacle = None }

-- how a double cycle of a log stands, by what is known of it; and what is known of the next one, where nothing contradicts this
abbrev pub log_stands : Values → LogView → ℕ → Option Known → Standing
log_stands p l double known =
    let b : Basis = log_basis p l in
    standing_told b (double_at b (sightings_of p l) (offending_frames_of p l) double) known

abbrev pub log_tells_next : Values → LogView → ℕ → Option Known → Option Known
log_tells_next p l double known =
    let b : Basis = log_basis p l in
    known_next_told b (double_at b (sightings_of p l) (offending_frames_of p l) double) known

-- ---- what is computed

-- a classical check fails, and none is asked for: both double cycles are judged by their own numbers, and the senders are within the
-- precision in cycles 0 to 2
pub record JudgedLog : Type 0 where
  pub check : holds_of 3 judged_cluster ≡ false
  pub heard : log_heard judged_cluster judged_log ≡ Some Clean
  pub first : log_stands judged_cluster judged_log 0 None ≡ judged_by_numbers None first_met
  pub next : log_tells_next judged_cluster judged_log 0 None ≡ Some second_known
  pub second : log_stands judged_cluster judged_log 1 (Some second_known) ≡ judged_by_numbers (Some second_known) second_met
  pub first_row :
      spread_told judged_cluster judged_log 0 (log_stands judged_cluster judged_log 0 None)
      ≡ codes "spread,0,3520552,80000,0,5680952,,\n"
  pub second_row :
      spread_told judged_cluster judged_log 1 (log_stands judged_cluster judged_log 1 (Some second_known))
      ≡ codes "spread,1,1520552,80000,0,5080800,,\n"
  pub verdict : verdict_of judged_cluster judged_log ≡ verdict.Within (record { from = 0; to = 2 })

-- where the frame of node 1 in cycle 2 was missed, the second double cycle is judged by what is known of it from the first one
abbrev pub missed_log : LogView
missed_log =
    let log : LogView = judged_log in
    record log {
      entries =
          seen_entry 1 0 ∷ seen_entry 2 0 ∷ seen_entry 1 1 ∷ seen_entry 2 1 ∷ seen_entry 2 2 ∷ seen_entry 1 3 ∷ seen_entry 2 3 ∷ [];
    }

-- both are judged; but where the frame is missed, stamps leave the skew open
abbrev pub missed_partly : Verdict
missed_partly = verdict.Partly (record { span = record { from = 0; to = 3 }; within = 1; neither = 3; judged = 2; doubles = 2 })

pub record MissedLog : Type 0 where
  pub next : log_tells_next judged_cluster missed_log 0 None ≡ Some second_known
  pub second : log_stands judged_cluster missed_log 1 (Some second_known) ≡ judged_by_numbers (Some second_known) second_known
  pub second_row :
      spread_told judged_cluster missed_log 1 (log_stands judged_cluster missed_log 1 (Some second_known))
      ≡ codes "spread,1,4080600,13002198,0,32085396,,\n"
  pub verdict : verdict_of judged_cluster missed_log ≡ missed_partly

-- where the frames of node 2 come ten microticks later from cycle 2 on, its offset term contradicts the first double cycle, unless it
-- missed so many senders as the row says
pub record JudgedOffsetIsTold : Type 0 where
  pub verdict : verdict_of judged_cluster (late_log 250) ≡ verdict.No offset_told
  pub missed_row :
      missed_told judged_cluster (late_log 250) (reading_scale 0 judged_cluster) 0
      (senders_of (reading_scale 0 judged_cluster) judged_cluster (late_log 250) (sightings_of judged_cluster (late_log 250)) 0)
      (log_stands judged_cluster (late_log 250) 0 None)
      ≡ codes "missed,1,2,offset,-,,,\n"

-- where the log says that a node may miss a sender, less is known of that term, but not so little
abbrev pub lost_log : LogView
lost_log = let log : LogView = late_log 250 in record log { lost = 1 }

abbrev pub lost_offset_told : Fault
lost_offset_told = fault.Offset 1 2 (record { low = pos 8; high = pos 10 }) (record { low = neg_ℤ (pos 5); high = pos 0 })

pub record LostLog : Type 0 where
  pub heard : log_heard judged_cluster lost_log ≡ Some Poor
  pub verdict : verdict_of judged_cluster lost_log ≡ verdict.No lost_offset_told
  pub missed_row :
      missed_told judged_cluster lost_log (reading_scale 0 judged_cluster) 0
      (senders_of (reading_scale 0 judged_cluster) judged_cluster lost_log (sightings_of judged_cluster lost_log) 0)
      (log_stands judged_cluster lost_log 0 None)
      ≡ codes "missed,1,2,offset,-,,,\n"

-- a log is seen of no run of the cluster that is as it states
abbrev pub IsSeenOfNoneAsStated : LogView → Type 0
IsSeenOfNoneAsStated l =
    (x : Setting) (h : Cycles) (base : ℕ) (delays : ℕ → Channel → Delays) (clock : ℕ → StraightClock)
    → x.params ≡ judged_cluster → IsObservedRun x h base delays clock l → IsAsLogStates x h base l → ⊥

-- ---- the run

-- of the same clocks
abbrev pub judged_run : Setting
judged_run = let run : Setting = seen_run in record run { params = judged_cluster }

-- the cycles of the run are those of the worked one; the log is seen of them, and they are as it states
pub record JudgedRun : Type 0 where
  pub cycles : cycles_of judged_run 4 ≡ seen_cycles
  pub observed : IsObservedRun judged_run seen_cycles 0 no_delays true_clock judged_log
  pub stated : IsAsLogStates judged_run seen_cycles 0 judged_log
