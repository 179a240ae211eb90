-- The worked log whose last frame is one that its node does not send is seen of the worked run all the same.
use Rattle.std.proofs.Common.{◌≡◌, ℕ, None, List, [], ◌∷◌, false, refl, sym, subst}
use Rattle.std.specs.Prelude.{Contains}
use Rattle.std.specs.List.{AllZip}
use Rattle.std.proofs.lemmas.List.Elements.{All-contains, All-contains_itself, All-weaker, Contains-append_left}
use Rattle.fr_history.proofs.Computing.{on_frames}
use Rattle.fr_log.specs.View.{IsLog, delay_limits_of, is_arbitrary_in, jitter_of, own_limits}
use Rattle.fr_log.specs.declared.entry.Entry.{Entry}
use Rattle.fr_sightings.specs.Judging.{judgement_of}
use Rattle.fr_sightings.specs.Senders.{delays_in, observer_of}
use Rattle.fr_sightings.specs.Sightings.{fate_of}
use Rattle.fr_sightings.specs.declared.sighting.Sighting.{Sighting}
use Rattle.fr_seen.specs.LogSeen.{IsToldOf, judged_of}
use Rattle.fr_seen.specs.Observed.{IsSeenOf, IsSentIn, SentFrame}
use Rattle.fr_seen_runs.specs.WorkedFaults.{IsSeenOfWorkedRun, form_entry, last_log, stranger_entry}
use Rattle.fr_seen_runs.specs.WorkedLog.{WorkedLog, entry_sighting, no_delays, seen_cluster, seen_cycles, seen_log, seen_run, seen_sent, sent_frame, true_clock}
use Rattle.fr_seen_runs.proofs.WorkedFaults.{first_sightings, form_is_told, stranger_is_told}
use Rattle.fr_seen_runs.proofs.WorkedSeen.{seen_of_run}

-- ---- some of the frames that were sent

abbrev first_sent : List SentFrame
first_sent = sent_frame 1 0 ∷ sent_frame 2 0 ∷ sent_frame 1 1 ∷ sent_frame 2 1 ∷ sent_frame 1 2 ∷ sent_frame 2 2 ∷ sent_frame 1 3 ∷ []

is_one : (frame : SentFrame) → Contains first_sent frame → Contains seen_sent frame
is_one frame among = Contains-append_left first_sent (sent_frame 2 3 ∷ []) frame among

first_are_seen : IsSeenOf seen_run seen_cycles 0 (observer_of (seen_log None false)) no_delays true_clock first_sent
first_are_seen =
    let seen = seen_of_run None false in
    record {
      whole_base = seen.whole_base;
      within_drift = seen.within_drift;
      sent =
          All-weaker (Contains first_sent) (IsSentIn seen_run seen_cycles 0)
          (λ frame among. All-contains (IsSentIn seen_run seen_cycles 0) seen_sent frame seen.sent (is_one frame among)) first_sent (All-contains_itself first_sent);
      read = λ frame double among window. seen.read frame double (is_one frame among) window;
      jitter = λ frame later double among is window other node channel.
          seen.jitter frame later double (is_one frame among) (is_one later is) window other node channel;
      once = λ frame other among is cycle slot channel. seen.once frame other (is_one frame among) (is_one other is) cycle slot channel;
      timely = λ frame later among is between. seen.timely frame later (is_one frame among) (is_one later is) between;
    }

-- ---- as they are judged

stranger_judged : judged_of seen_cluster (last_log stranger_entry) ≡ first_sightings
unfolding judged_of fate_of judgement_of is_arbitrary_in on_frames
stranger_judged = refl

form_judged : judged_of seen_cluster (last_log form_entry) ≡ first_sightings
unfolding judged_of fate_of judgement_of is_arbitrary_in on_frames
form_judged = refl

told_of_first : AllZip IsToldOf first_sightings first_sent
told_of_first = (told 1 0, (told 2 0, (told 1 1, (told 2 1, (told 1 2, (told 2 2, (told 1 3, tt)))))))
  where
    told : (node cycle : ℕ) → IsToldOf (entry_sighting node cycle) (sent_frame node cycle)
    told node cycle = record { by_node = refl; slot = refl; channel = refl; count = refl; stamp = refl }

-- ---- the whole

seen_with : WorkedLog None false → (last : Entry) → IsLog (last_log last) → judged_of seen_cluster (last_log last) ≡ first_sightings → IsSeenOfWorkedRun (last_log last)
unfolding delays_in delay_limits_of jitter_of own_limits
seen_with worked last log judged = record {
  timed = worked.observed.timed;
  whole = refl;
  log = log;
  seen = record {
    sent = first_sent;
    seen = first_are_seen;
    told = subst (λ (seen : List Sighting). AllZip IsToldOf seen first_sent) (sym judged) told_of_first;
    limits = worked.observed.seen.limits;
    first = refl;
  };
}

pub stranger_is_seen : WorkedLog None false → IsSeenOfWorkedRun (last_log stranger_entry)
stranger_is_seen worked = seen_with worked stranger_entry stranger_is_told.log stranger_judged

pub form_is_seen : WorkedLog None false → IsSeenOfWorkedRun (last_log form_entry)
form_is_seen worked = seen_with worked form_entry form_is_told.log form_judged
