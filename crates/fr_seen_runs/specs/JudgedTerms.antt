-- Which correction terms the senders of a log must have computed by the courses of the others in a double cycle that is judged by what
-- is known of it, whoever has joined the run by then, where the node of a sender misses at most so many of the others.
use Rattle.std.specs.Prelude.{◌≡◌, ℕ, suc, Contains, Some}
use Rattle.fr_base.specs.declared.channel.Channel.{Channel}
use Rattle.fr_cluster.specs.Setting.{Setting, correct_nodes}
use Rattle.fr_cluster.specs.declared.nodes.NodeSpec.{NodeSpec}
use Rattle.fr_bound.specs.Judged.{IsJudgedDouble}
use Rattle.fr_bound.specs.declared.judging.Heard.{Heard}
use Rattle.fr_bound.specs.declared.judging.Known.{Known}
use Rattle.fr_history.specs.Cycles.{Cycle, Cycles}
use Rattle.fr_runs.specs.Numbers.{HasDouble}
use Rattle.fr_sharp.specs.JudgedSteps.{IsHeardIn}
use Rattle.fr_runs.specs.SharpHistories.{IsLawfulStatedRun}
use Rattle.fr_log.specs.View.{LogView}
use Rattle.fr_course.specs.Readings.{reading_scale}
use Rattle.fr_course.specs.declared.stamps.Delays.{Delays}
use Rattle.fr_observe.specs.Faults.{stated_flutter}
use Rattle.fr_observe.specs.declared.fault.Fault.{Fault}
use Rattle.fr_judging.specs.Missing.{unlike_term}
use Rattle.fr_observe.specs.declared.term.Term.{Term}
use Rattle.fr_sightings.specs.declared.sender.Sender.{Sender}
use Rattle.fr_seen.specs.Clocks.{StraightClock}
use Rattle.fr_seen.specs.LogSeen.{log_senders, run_double}
use Rattle.fr_seen_runs.specs.ComputedTerms.{IsNamedLog, OffsetIsComputed, RateIsComputed}
use Rattle.fr_seen.specs.Contradictions.{MissesFew}
use Rattle.fr_runs.specs.SharpHistories.{EachHasRow, IsKnownAt}

-- a double cycle of a lawful run, whoever joins it, that is judged by what is known of it: each correct node has a row
pub record IsJudgedRun (what : Heard) (x : Setting) (flutter : ℕ) (h : Cycles) (double : ℕ) (known : Known) : Type 0 where
  pub run : IsLawfulStatedRun x flutter h
  pub hears : IsHeardIn what x double
  pub each : EachHasRow x h double
  pub is : IsKnownAt x h double known
  pub judged : IsJudgedDouble x.params flutter known

-- the offset term of a sender whose node misses at most so many others is one that the courses of the others allow, and so is what its
-- rate term grows by
abbrev pub OffsetsAreComputed : Type 0
OffsetsAreComputed =
    (what : Heard) (x : Setting) (h : Cycles) (base : ℕ) (delays : ℕ → Channel → Delays) (clock : ℕ → StraightClock) (l : LogView)
    (double lost : ℕ) (known : Known) (even odd : Cycle) (s : Sender) (node : NodeSpec)
    → IsNamedLog x h base delays clock l
    → IsJudgedRun what x (stated_flutter x.params l) h (run_double base double) known
    → HasDouble h (run_double base double) even odd
    → Contains (log_senders x l double) s → Contains (correct_nodes x) node → node.id ≡ s.node
    → MissesFew x (run_double base double) lost node → OffsetIsComputed x l odd (log_senders x l double) lost s

abbrev pub RatesAreComputed : Type 0
RatesAreComputed =
    (what : Heard) (x : Setting) (h : Cycles) (base : ℕ) (delays : ℕ → Channel → Delays) (clock : ℕ → StraightClock) (l : LogView)
    (double lost : ℕ) (known : Known) (even odd next_even next_odd : Cycle) (s : Sender) (node : NodeSpec)
    → IsNamedLog x h base delays clock l
    → IsJudgedRun what x (stated_flutter x.params l) h (run_double base double) known
    → HasDouble h (run_double base double) even odd → HasDouble h (suc (run_double base double)) next_even next_odd
    → Contains (log_senders x l double) s → Contains (correct_nodes x) node → node.id ≡ s.node
    → MissesFew x (run_double base double) lost node → RateIsComputed x l odd next_even (log_senders x l double) lost s

-- where what was seen of a term of a sender, and what it must have computed if it missed at most so many of the others, have no number
-- in common, its node misses more there in each such run
abbrev pub MissedIsSo : Type 0
MissedIsSo =
    (what : Heard) (kind : Term) (x : Setting) (h : Cycles) (base : ℕ) (delays : ℕ → Channel → Delays) (clock : ℕ → StraightClock)
    (l : LogView) (double lost : ℕ) (known : Known) (s : Sender) (node : NodeSpec) (fault : Fault)
    → IsNamedLog x h base delays clock l
    → IsJudgedRun what x (stated_flutter x.params l) h (run_double base double) known
    → Contains (log_senders x l double) s → Contains (correct_nodes x) node → node.id ≡ s.node
    → unlike_term kind x.params l (reading_scale l.drift x.params) double (log_senders x l double) s lost ≡ Some fault
    → MissesFew x (run_double base double) lost node → ⊥
