-- Worked contradictions: the worked log, where from cycle 2 on the frames of node 2 come later than its rows have them, or where
-- its last frame is one that it does not send.
use Rattle.std.specs.Prelude.{◌≡◌, ℕ, ◌+◌, ◌==◌, pos, neg_ℤ, false, [], ◌∷◌, if◌then◌else◌, None}
use Rattle.fr_base.specs.declared.channel.Channel.{Channel}
use Rattle.fr_base.specs.declared.channel.Channel.TheVariants.{A, B}
use Rattle.fr_cluster.specs.Setting.{Setting}
use Rattle.fr_history.specs.Cycles.{Cycles}
use Rattle.fr_log.specs.View.{IsLog, LogView}
use Rattle.fr_log.specs.declared.entry.Entry.{Entry}
use Rattle.fr_course.specs.declared.stamps.Delays.{Delays}
use Rattle.fr_observe.specs.declared.fault.Fault.{Fault}
use Rattle.fr_observe.specs.declared.fault.Fault.TheVariants as fault
use Rattle.fr_findings.specs.Verdict.{verdict_of}
use Rattle.fr_findings.specs.declared.verdict.Verdict.TheVariants as verdict
use Rattle.fr_seen.specs.Clocks.{StraightClock}
use Rattle.fr_seen.specs.OwnSlots.{SlotsAreOwn}
use Rattle.fr_seen.specs.Contradictions.{IsAsLogStates, IsObservedRun}
use Rattle.fr_seen_runs.specs.WorkedLog.{by_double, no_delays, of_each, of_node, seen_cluster, seen_cycles, seen_entry, seen_log, seen_run, true_clock}

-- an entry, so many units later where it is one of these
abbrev pub late_entry : ℕ → ℕ → ℕ → Entry
late_entry later node cycle =
    let entry : Entry = seen_entry node cycle in
    record entry { stamp = entry.stamp + by_double cycle 0 (of_node node 0 later) }

abbrev pub late_log : ℕ → LogView
late_log later = let log : LogView = seen_log None false in record log { entries = of_each (late_entry later) }

-- by ten microticks: node 2 has applied an offset term of 8 to 10 microticks, and has to have computed another one
abbrev pub offset_told : Fault
offset_told = fault.Offset 1 2 (record { low = pos 8; high = pos 10 }) (record { low = neg_ℤ (pos 2); high = pos 0 })

-- by 300 microticks: more than the limit of its offset term
abbrev pub correction_told : Fault
correction_told =
    fault.Correction 1 2 (record { low = pos 298; high = pos 300 }) (record { low = neg_ℤ (pos 254); high = pos 254 })

-- the last frame of node 2 is another one
abbrev pub last_entry : Entry → ℕ → ℕ → Entry
last_entry last node cycle =
    let entry : Entry = seen_entry node cycle in if cycle == 3 then of_node node entry last else entry

abbrev pub last_log : Entry → LogView
last_log last = let log : LogView = seen_log None false in record log { entries = of_each (last_entry last) }

-- on a channel that no node has
abbrev pub stranger_entry : Entry
stranger_entry = let entry : Entry = seen_entry 2 3 in record entry { channel = B }

abbrev pub stranger_told : Fault
stranger_told = fault.Stranger 3 2 B (pos 15_037_037) 2

-- without the indicators of sync and startup
abbrev pub form_entry : Entry
form_entry = let entry : Entry = seen_entry 2 3 in record entry { bytes = 32 ∷ 2 ∷ 1 ∷ 32 ∷ 3 ∷ [] }

abbrev pub form_told : Fault
form_told = fault.Form 3 2 A (pos 15_037_037) 2

-- a log is seen of no run of its cluster at all, of none whose nodes send each whole frame in their slots, or of none that is as it
-- states
abbrev pub IsSeenOfNone : LogView → Type 0
IsSeenOfNone l =
    (x : Setting) (h : Cycles) (base : ℕ) (delays : ℕ → Channel → Delays) (clock : ℕ → StraightClock)
    → x.params ≡ seen_cluster → IsObservedRun x h base delays clock l → ⊥

abbrev pub IsSeenOfNoneWithOwnSlots : LogView → Type 0
IsSeenOfNoneWithOwnSlots l =
    (x : Setting) (h : Cycles) (base : ℕ) (delays : ℕ → Channel → Delays) (clock : ℕ → StraightClock)
    → x.params ≡ seen_cluster → IsObservedRun x h base delays clock l → SlotsAreOwn x h l → ⊥

abbrev pub IsSeenOfNoneStated : LogView → Type 0
IsSeenOfNoneStated l =
    (x : Setting) (h : Cycles) (base : ℕ) (delays : ℕ → Channel → Delays) (clock : ℕ → StraightClock)
    → x.params ≡ seen_cluster → IsObservedRun x h base delays clock l → IsAsLogStates x h base l → ⊥

-- a log is seen of the worked run
abbrev pub IsSeenOfWorkedRun : LogView → Type 0
IsSeenOfWorkedRun l = IsObservedRun seen_run seen_cycles 0 no_delays true_clock l

-- a log whose verdict is no, by this fault
pub record TellsFault (l : LogView) (fault : Fault) : Type 0 where
  pub log : IsLog l
  pub verdict : verdict_of seen_cluster l ≡ verdict.No fault
