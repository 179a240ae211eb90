-- Which correction terms the senders of a log must have computed by the courses of the others: those that they applied, where at most
-- so many of these are missed, and delays flutter as the log states.
use Rattle.std.specs.Prelude.{◌-ℤ◌, ℕ, List, IfSome}
use Rattle.fr_base.specs.Within.{IsBetween}
use Rattle.fr_base.specs.declared.channel.Channel.{Channel}
use Rattle.fr_cluster.specs.Setting.{Setting}
use Rattle.fr_history.specs.Cycles.{Cycle, Cycles}
use Rattle.fr_history.specs.History.{row_for}
use Rattle.fr_log.specs.View.{IsLog, LogView}
use Rattle.fr_course.specs.Readings.{reading_scale}
use Rattle.fr_course.specs.declared.stamps.Delays.{Delays}
use Rattle.fr_sightings.specs.declared.sender.Sender.{Sender}
use Rattle.fr_observe.specs.Faults.{offset_due, rate_due}
use Rattle.fr_seen.specs.Clocks.{StraightClock}
use Rattle.fr_seen.specs.LogSeen.{IsLogSeen}
use Rattle.fr_seen.specs.RunRows.{IsTimedRun}
use Rattle.fr_seen.specs.Contradictions.{NamesArbitrary}

-- the offset term of a sender is one that the courses of the others allow, and so is what its rate term grows by
abbrev pub OffsetIsComputed : Setting → LogView → Cycle → List Sender → ℕ → Sender → Type 0
OffsetIsComputed x l odd senders lost s =
    IfSome (offset_due x.params l (reading_scale l.drift x.params) senders lost s)
    (λ term. IsBetween term.low term.high (row_for odd.told.rows s.node).offset)

abbrev pub RateIsComputed : Setting → LogView → Cycle → Cycle → List Sender → ℕ → Sender → Type 0
RateIsComputed x l odd next senders lost s =
    IfSome (rate_due x.params l (reading_scale l.drift x.params) senders lost s)
    (λ step. IsBetween step.low step.high ((row_for next.told.rows s.node).rate -ℤ (row_for odd.told.rows s.node).rate))

-- a log seen of a run, of which it names the arbitrary nodes
pub record IsNamedLog
    (x : Setting) (h : Cycles) (base : ℕ) (delays : ℕ → Channel → Delays) (clock : ℕ → StraightClock) (l : LogView)
    : Type 0 where
  pub timed : IsTimedRun x h
  pub log : IsLog l
  pub seen : IsLogSeen x h base delays clock l
  pub named : NamesArbitrary x l
