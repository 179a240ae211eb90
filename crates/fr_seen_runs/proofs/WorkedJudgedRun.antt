-- The run that the worked log is seen of, in the cluster whose offset limit is too small: as the log states.
use Rattle.std.proofs.Common.{◌≡◌, ℕ, pos, true, false, None, List, [], ◌∷◌, refl, sym, inl, lit≤, subst}
use Rattle.std.specs.List.{AllZip}
use Rattle.std.proofs.lemmas.List.Elements.{All-weaker}
use Rattle.fr_base.specs.declared.channel.Channel.{Channel}
use Rattle.fr_base.specs.declared.channel.Channel.TheVariants.{A, B}
use Rattle.fr_cluster.specs.Ranges.{InRange}
use Rattle.fr_cluster.specs.Sane.{IsSane}
use Rattle.fr_cluster.specs.Setting.{IsSetting, Setting}
use Rattle.fr_cluster.specs.Values.{figure}
use Rattle.fr_cluster.specs.declared.names.ParamName.{ParamName}
use Rattle.fr_cluster.specs.declared.names.ParamName.TheVariants as name
use Rattle.fr_cluster.specs.declared.nodes.NodeSpec.{NodeSpec}
use Rattle.fr_precision.specs.Reception.{IsDelay}
use Rattle.fr_history.specs.Lawful.{IsLawful}
use Rattle.fr_history.specs.Next.{cycles_of, next_cycle}
use Rattle.fr_history.proofs.Computing.{on_cycles, on_frames}
use Rattle.fr_runs.specs.Links.{IsCarried, IsLinked}
use Rattle.fr_log.specs.View.{is_arbitrary_in}
use Rattle.fr_runs.specs.SteadyRuns.{IsSteadySetting}
use Rattle.fr_sightings.specs.Judging.{judgement_of}
use Rattle.fr_sightings.specs.Senders.{observer_of}
use Rattle.fr_sightings.specs.Sightings.{fate_of}
use Rattle.fr_sightings.specs.declared.sighting.Sighting.{Sighting}
use Rattle.fr_observe.specs.Faults.{stated_flutter}
use Rattle.fr_seen.specs.LogSeen.{IsLogSeen, IsToldOf, judged_of}
use Rattle.fr_seen.specs.Observed.{IsSeenOf, IsSentIn, SentFrame}
use Rattle.fr_seen.specs.RunRows.{IsTimedRun}
use Rattle.fr_seen.specs.Contradictions.{IsAsLogStates}
use Rattle.fr_seen_runs.specs.WorkedJudged.{JudgedRun, judged_cluster, judged_log, judged_run}
use Rattle.fr_seen_runs.specs.WorkedLog.{no_delays, seen_cycle, seen_cycles, seen_run, seen_sent, seen_sightings, true_clock}
use Rattle.fr_seen_runs.proofs.SteadyRuns.{steady_runs_miss_none}
use Rattle.fr_seen_runs.proofs.WorkedCycles.{cluster_is_sane, has_key, on_channel}
use Rattle.fr_seen_runs.proofs.WorkedSeen.{are_sent, log_is, log_is_seen, seen_of_run, told_of_sent}
use Rattle.fr_seen_runs.proofs.WorkedVerdict.{named_none}

-- ---- its cycles

in_range : (n : ParamName) → InRange n (figure judged_cluster n)
in_range name.gMacroPerCycle = cluster_is_sane.ranges name.gMacroPerCycle
in_range name.pMicroPerCycle = cluster_is_sane.ranges name.pMicroPerCycle
in_range name.gNumberOfStaticSlots = cluster_is_sane.ranges name.gNumberOfStaticSlots
in_range name.gdStaticSlot = cluster_is_sane.ranges name.gdStaticSlot
in_range name.gdActionPointOffset = cluster_is_sane.ranges name.gdActionPointOffset
in_range name.gdNIT = cluster_is_sane.ranges name.gdNIT
in_range name.gPayloadLengthStatic = cluster_is_sane.ranges name.gPayloadLengthStatic
in_range name.gOffsetCorrectionStart = cluster_is_sane.ranges name.gOffsetCorrectionStart
in_range name.gMaxWithoutClockCorrectionPassive = cluster_is_sane.ranges name.gMaxWithoutClockCorrectionPassive
in_range name.gMaxWithoutClockCorrectionFatal = cluster_is_sane.ranges name.gMaxWithoutClockCorrectionFatal
in_range name.pAllowHaltDueToClock = cluster_is_sane.ranges name.pAllowHaltDueToClock
in_range name.pAllowPassiveToActive = cluster_is_sane.ranges name.pAllowPassiveToActive
in_range name.pClusterDriftDamping = cluster_is_sane.ranges name.pClusterDriftDamping
in_range name.pOffsetCorrectionOut = (record { le = tt }, record { le = tt })
in_range name.pRateCorrectionOut = cluster_is_sane.ranges name.pRateCorrectionOut
in_range name.pDelayCompensation = cluster_is_sane.ranges name.pDelayCompensation
in_range name.pDelayCompensationA = cluster_is_sane.ranges name.pDelayCompensationA
in_range name.pDelayCompensationB = cluster_is_sane.ranges name.pDelayCompensationB
in_range name.xRateBound = cluster_is_sane.ranges name.xRateBound
in_range name.xChangeBound = cluster_is_sane.ranges name.xChangeBound
in_range name.xDelayError = cluster_is_sane.ranges name.xDelayError

judged_is_sane : IsSane judged_cluster
judged_is_sane = record {
  ranges = in_range;
  constraints = record {
    whole_cycle = cluster_is_sane.constraints.whole_cycle;
    acts_in_slot = cluster_is_sane.constraints.acts_in_slot;
    corrects_after = cluster_is_sane.constraints.corrects_after;
    leaves_microticks = lit≤ tt;
    passive_first = cluster_is_sane.constraints.passive_first;
    sync_nodes = cluster_is_sane.constraints.sync_nodes;
    own_slots = cluster_is_sane.constraints.own_slots;
    free_slots = cluster_is_sane.constraints.free_slots;
  };
  lists = cluster_is_sane.lists;
}

run_is_setting : IsSetting judged_run
run_is_setting = record { sane = judged_is_sane; bytes = λ cycle sender receiver channel. tt }

cycle_0_is : next_cycle judged_run [] ≡ seen_cycle 0
unfolding on_cycles
cycle_0_is = refl

cycle_1_is : next_cycle judged_run (seen_cycle 0 ∷ []) ≡ seen_cycle 1
unfolding on_cycles
cycle_1_is = refl

cycle_2_is : next_cycle judged_run (seen_cycle 1 ∷ seen_cycle 0 ∷ []) ≡ seen_cycle 2
unfolding on_cycles
cycle_2_is = refl

cycle_3_is : next_cycle judged_run (seen_cycle 2 ∷ seen_cycle 1 ∷ seen_cycle 0 ∷ []) ≡ seen_cycle 3
unfolding on_cycles
cycle_3_is = refl

cycles_are : cycles_of judged_run 4 ≡ seen_cycles
unfolding cycles_of
cycles_are = Prim.rw (cycle_0_is, cycle_1_is, cycle_2_is, cycle_3_is) refl

run_is_timed : IsLawful judged_run seen_cycles → IsTimedRun judged_run seen_cycles
run_is_timed lawful = record {
  sane = judged_is_sane;
  rates = λ node among. record { low = record { le = tt }; high = record { le = tt } };
  lawful = lawful;
  within = lit≤ tt;
  least = λ node cycle among less. record { le = tt };
  most = λ node cycle among less. record { le = tt };
  changes = λ node cycle among less. record { low = record { le = tt }; high = record { le = tt } };
}

-- ---- the log is seen of it

sent_alike : (sent : SentFrame) → IsSentIn seen_run seen_cycles 0 sent → IsSentIn judged_run seen_cycles 0 sent
sent_alike sent is = record {
  numbered = is.numbered;
  counted = is.counted;
  told = is.told;
  has_cycle = is.has_cycle;
  slot_from = is.slot_from;
  slot_to = is.slot_to;
  sending = is.sending;
  sends = is.sends;
  by_node = is.by_node;
  correct = is.correct;
  has_row = is.has_row;
  active = is.active;
  on_channel = is.on_channel;
}

seen_of_judged : IsSeenOf judged_run seen_cycles 0 (observer_of judged_log) no_delays true_clock seen_sent
seen_of_judged =
    let seen : IsSeenOf seen_run seen_cycles 0 (observer_of judged_log) no_delays true_clock seen_sent = seen_of_run None false in
    record {
      whole_base = seen.whole_base;
      within_drift = seen.within_drift;
      sent = All-weaker (IsSentIn seen_run seen_cycles 0) (IsSentIn judged_run seen_cycles 0) sent_alike seen_sent are_sent;
      read = seen.read;
      jitter = seen.jitter;
      once = seen.once;
      timely = seen.timely;
    }

judged_is : judged_of judged_cluster judged_log ≡ seen_sightings
unfolding judged_of fate_of judgement_of is_arbitrary_in on_frames
judged_is = refl

log_is_seen_judged : IsLogSeen judged_run seen_cycles 0 no_delays true_clock judged_log
log_is_seen_judged = record {
  sent = seen_sent;
  seen = seen_of_judged;
  told = subst (λ (judged : List Sighting). AllZip IsToldOf judged seen_sent) (sym judged_is) told_of_sent;
  limits = (log_is_seen None false).limits;
  first = refl;
}

-- ---- as it states

is_carried : (sender receiver : NodeSpec) (slot double : ℕ) → IsLinked judged_run sender receiver slot → IsCarried judged_run sender receiver double
is_carried sender receiver slot double link = record {
  channel = A;
  share = record { by_sender = on_channel sender link.sends; by_receiver = on_channel receiver link.hears };
  even = refl;
  odd = refl;
}

no_delay : (channel : Channel) → IsDelay judged_cluster channel (pos 0)
no_delay A = record { low = record { le = tt }; high = record { le = tt } }
no_delay B = record { low = record { le = tt }; high = record { le = tt } }

run_is_steady : IsSteadySetting judged_run (stated_flutter judged_cluster judged_log)
run_is_steady = record {
  timed = record {
    sane = judged_is_sane;
    few = inl (refl, lit≤ tt);
    least = λ node cycle among late less. record { le = tt };
    most = λ node cycle among late less. record { le = tt };
    changes = λ node cycle among late less. record { low = record { le = tt }; high = record { le = tt } };
    delays = λ sender receiver slot channel cycle link share late less. no_delay channel;
    flutters = λ sender receiver slot channel double link share late less. record { low = record { le = tt }; high = record { le = tt } };
  };
  links = λ double late less sender receiver slot link. is_carried sender receiver slot double link;
}

as_states : IsAsLogStates judged_run seen_cycles 0 judged_log
as_states = record {
  named = λ node among. named_none None false node.id;
  timed = λ what heard. run_is_steady.timed;
  missed = λ what double node heard less correct. steady_runs_miss_none judged_run (stated_flutter judged_cluster judged_log) double 0 node run_is_steady less correct;
  none_deaf = λ double heard less node correct. inl (has_key node correct);
  since = λ what heard. tt;
  unmissed = λ all. absurd (let e : false ≡ true = all in cc e);
}

-- ---- the whole

pub judged_run_is : ((x : Setting) (n : ℕ) → IsSetting x → IsLawful x (cycles_of x n)) → JudgedRun
judged_run_is lawful = record {
  cycles = cycles_are;
  observed = record {
    timed = run_is_timed (subst (λ h. IsLawful judged_run h) cycles_are (lawful judged_run 4 run_is_setting));
    whole = refl;
    log = log_is None false tt;
    seen = log_is_seen_judged;
  };
  stated = as_states;
}
