-- The worked log is a log, and is seen of its run, whatever it states of sync.
use Rattle.std.proofs.Common.{◌≡◌, ◌∙◌, ◌<◌, ◌≤◌, ◌+◌, ℕ, zero, suc, pos, true, false, Bool, Option, None, Some, List, [], ◌∷◌, All, refl, sym, lit≤, lit<, arith, subst}
use Rattle.std.specs.Prelude.{Contains, IfSome, replicate, slice_index_or, ◌-ℤ◌, ◌+ℤ◌}
use Rattle.std.specs.List.{AllZip}
use Rattle.std.specs.List.Sorted.{IsNonDecreasingBy}
use Rattle.std.proofs.lemmas.List.Elements.{All-cons, All-nil, All-contains}
use Rattle.std.proofs.lemmas.List.Sorted.{IsNonDecreasingBy-from_all_adjacent}
use Rattle.fr_base.specs.Within.{IsBetween}
use Rattle.fr_base.specs.declared.channel.Channel.{Channel}
use Rattle.fr_base.specs.declared.channel.Channel.TheVariants.{A, B}
use Rattle.fr_time.specs.Cycles.{cycle_count}
use Rattle.fr_time.specs.Instant.{action_instant}
use Rattle.fr_time.specs.Senders.{sender_of}
use Rattle.fr_history.specs.History.{row_of}
use Rattle.fr_history.specs.Offers.{is_on}
use Rattle.fr_time.specs.declared.senders.Kind.TheVariants.{SyncFrame}
use Rattle.fr_history.specs.Cycles.{cycle_at}
use Rattle.fr_history.proofs.Computing.{on_frames}
use Rattle.fr_log.specs.Rows.{AreEntryBytes}
use Rattle.fr_log.specs.View.{AreDelayLimits, IsEntry, IsEvenCycle, IsLog, LogView, delay_limits_of, is_arbitrary_in, jitter_of, own_limits}
use Rattle.fr_log.specs.declared.entry.Entry.{Entry}
use Rattle.fr_log.specs.declared.rows.DelayLimits.{DelayLimits}
use Rattle.fr_course.specs.Numbering.{is_timely}
use Rattle.fr_course.specs.declared.stamps.Delays.{Delays}
use Rattle.fr_sightings.specs.Judging.{judgement_of}
use Rattle.fr_sightings.specs.Senders.{delays_in, observer_of}
use Rattle.fr_sightings.specs.Sightings.{fate_of}
use Rattle.fr_sightings.specs.declared.sighting.Sighting.{Sighting}
use Rattle.fr_seen.specs.Clocks.{IsStamped, IsWithinDrift}
use Rattle.fr_seen.specs.LogSeen.{IsLogSeen, IsToldOf, judged_of}
use Rattle.fr_seen.specs.Observed.{IsSeenOf, IsSentIn, SentFrame, sent_macrotick, stamped_apart}
use Rattle.fr_seen.specs.WorkedStamps.{worked_delays}
use Rattle.fr_seen_runs.specs.WorkedLog.{seen_entry, seen_header, no_delays, of_each, seen_row, seen_cluster, seen_cycle, seen_cycles, seen_log, seen_run, seen_sent, seen_sightings, sent_frame, entry_sighting, true_clock}

-- ---- lists

four : {X : Type 0} (P : X → Type 0) (a b c d : X) (rest : List X) → P a → P b → P c → P d → All P rest → All P (a ∷ b ∷ c ∷ d ∷ rest)
four P a b c d rest one two three last others =
    All-cons P a (b ∷ c ∷ d ∷ rest) one (All-cons P b (c ∷ d ∷ rest) two (All-cons P c (d ∷ rest) three (All-cons P d rest last others)))

-- what holds of each node in each cycle
pub all_of : {X : Type 0} (P : X → Type 0) (is : ℕ → ℕ → X)
    → P (is 1 0) → P (is 2 0) → P (is 1 1) → P (is 2 1) → P (is 1 2) → P (is 2 2) → P (is 1 3) → P (is 2 3) → All P (of_each is)
all_of P is a b c d e f g h =
    four P (is 1 0) (is 2 0) (is 1 1) (is 2 1) (is 1 2 ∷ is 2 2 ∷ is 1 3 ∷ is 2 3 ∷ []) a b c d
    (four P (is 1 2) (is 2 2) (is 1 3) (is 2 3) [] e f g h (All-nil P))

each_frame : (P : SentFrame → Type 0)
    → P (sent_frame 1 0) → P (sent_frame 2 0) → P (sent_frame 1 1) → P (sent_frame 2 1) → P (sent_frame 1 2) → P (sent_frame 2 2) → P (sent_frame 1 3) → P (sent_frame 2 3)
    → (frame : SentFrame) → Contains seen_sent frame → P frame
each_frame P a b c d e f g h frame among =
    All-contains P seen_sent frame (all_of P sent_frame a b c d e f g h) among

-- ---- the log

abbrev no_limits_said : Option DelayLimits
no_limits_said = None

none_said : (count node : ℕ) → slice_index_or (replicate count no_limits_said) node no_limits_said ≡ no_limits_said
none_said zero node = refl
none_said (suc count) zero = refl
none_said (suc count) (suc node) = none_said count node

pub none_named : (count node : ℕ) → slice_index_or (replicate count false) node false ≡ false
none_named zero node = refl
none_named (suc count) zero = refl
none_named (suc count) (suc node) = none_named count node

no_limits : (node : ℕ) → IfSome (slice_index_or (replicate 65 no_limits_said) node no_limits_said) AreDelayLimits
no_limits node = subst (λ (o : Option DelayLimits). IfSome o AreDelayLimits) (sym (none_said 65 node)) tt

-- the stamp of each entry is no greater than that of the next one
pub record Ascend (is : ℕ → ℕ → Entry) : Type 0 where
  pub first : (is 1 0).stamp ≤ (is 2 0).stamp
  pub second : (is 2 0).stamp ≤ (is 1 1).stamp
  pub third : (is 1 1).stamp ≤ (is 2 1).stamp
  pub fourth : (is 2 1).stamp ≤ (is 1 2).stamp
  pub fifth : (is 1 2).stamp ≤ (is 2 2).stamp
  pub sixth : (is 2 2).stamp ≤ (is 1 3).stamp
  pub last : (is 1 3).stamp ≤ (is 2 3).stamp

stamps_ascend : (is : ℕ → ℕ → Entry) → Ascend is → IsNonDecreasingBy (λ (e : Entry). e.stamp) (of_each is)
stamps_ascend is ascend = IsNonDecreasingBy-from_all_adjacent (λ (e : Entry). e.stamp) (of_each is) by_place
  where
    by_place : (k : ℕ) (d : Entry) → k + 1 < 8 → (slice_index_or (of_each is) k d).stamp ≤ (slice_index_or (of_each is) (k + 1) d).stamp
    by_place zero d less = ascend.first
    by_place (suc zero) d less = ascend.second
    by_place (suc (suc zero)) d less = ascend.third
    by_place (suc (suc (suc zero))) d less = ascend.fourth
    by_place (suc (suc (suc (suc zero)))) d less = ascend.fifth
    by_place (suc (suc (suc (suc (suc zero))))) d less = ascend.sixth
    by_place (suc (suc (suc (suc (suc (suc zero)))))) d less = ascend.last
    by_place (suc (suc (suc (suc (suc (suc (suc k))))))) d less = absurd (omega (arith, less))

bytes_are : (second fourth last : ℕ) → second < 256 → fourth < 256 → last < 256 → AreEntryBytes (56 ∷ second ∷ 0 ∷ fourth ∷ last ∷ [])
bytes_are second fourth last second_fits fourth_fits fits = record {
  few = lit≤ tt;
  small = four (λ b. b < 256) 56 second 0 fourth (last ∷ []) (lit< tt) second_fits (lit< tt) fourth_fits (All-cons (λ b. b < 256) last [] fits (All-nil (λ b. b < 256)));
}

pub bytes_of_1 : (cycle : ℕ) → cycle < 256 → AreEntryBytes (seen_header 1 cycle)
bytes_of_1 cycle less = bytes_are 1 111 cycle (lit< tt) (lit< tt) less

pub bytes_of_2 : (last : ℕ) → last < 256 → AreEntryBytes (56 ∷ 2 ∷ 0 ∷ 232 ∷ last ∷ [])
bytes_of_2 last less = bytes_are 2 232 last (lit< tt) (lit< tt) less

-- one of such entries
pub log_with :
    (since : Option ℕ) (whole : Bool) (is : ℕ → ℕ → Entry) → IfSome since IsEvenCycle → All (IsEntry 40_000) (of_each is) → Ascend is
    → IsLog (let log : LogView = seen_log since whole in record log { entries = of_each is })
log_with since whole is even entries ascend = record {
  unit = record { from = lit≤ tt; to = lit≤ tt };
  drift = record { from = lit≤ tt; to = lit≤ tt };
  error = record { from = lit≤ tt; to = lit≤ tt };
  jitter = tt;
  flutter = tt;
  lost = record { from = lit≤ tt; to = lit≤ tt };
  since = even;
  arbitrary_long = refl;
  on_a_long = refl;
  on_b_long = refl;
  on_a = no_limits;
  on_b = no_limits;
  each = record { ordered = lit≤ tt; most = lit≤ tt };
  entries = entries;
  ascending = stamps_ascend is ascend;
}

pub log_is : (since : Option ℕ) (whole : Bool) → IfSome since IsEvenCycle → IsLog (seen_log since whole)
log_is since whole even =
    log_with since whole seen_entry even
    (
    all_of (IsEntry 40_000) seen_entry
    (record { stamp = lit≤ tt; bytes = bytes_of_1 0 (lit< tt) })
    (record { stamp = lit≤ tt; bytes = bytes_of_2 192 (lit< tt) })
    (record { stamp = lit≤ tt; bytes = bytes_of_1 1 (lit< tt) })
    (record { stamp = lit≤ tt; bytes = bytes_of_2 193 (lit< tt) })
    (record { stamp = lit≤ tt; bytes = bytes_of_1 2 (lit< tt) })
    (record { stamp = lit≤ tt; bytes = bytes_of_2 194 (lit< tt) })
    (record { stamp = lit≤ tt; bytes = bytes_of_1 3 (lit< tt) })
    (record { stamp = lit≤ tt; bytes = bytes_of_2 195 (lit< tt) })
    )
    (record { first = lit≤ tt; second = lit≤ tt; third = lit≤ tt; fourth = lit≤ tt; fifth = lit≤ tt; sixth = lit≤ tt; last = lit≤ tt })

-- ---- its frames are sent

-- as what is computed of each of them says
pub record SendsIn (node cycle : ℕ) : Type 0 where
  pub numbered : pos cycle ≡ pos cycle +ℤ pos 0
  pub counted : cycle ≡ cycle_count cycle
  pub has_cycle : cycle_at seen_cycles cycle ≡ Some (seen_cycle cycle)
  pub slot_from : 1 ≤ node
  pub slot_to : node ≤ 140
  pub sends : sender_of seen_cluster node cycle ≡ Some (record { node = node; kind = SyncFrame })
  pub has_row : row_of (seen_cycle cycle).told.rows node ≡ Some (seen_row node cycle)
  pub on_channel : is_on seen_run node A ≡ true

sent_is : (node cycle : ℕ) → SendsIn node cycle → IsSentIn seen_run seen_cycles 0 (sent_frame node cycle)
sent_is node cycle is = record {
  numbered = is.numbered;
  counted = is.counted;
  told = seen_cycle cycle;
  has_cycle = is.has_cycle;
  slot_from = is.slot_from;
  slot_to = is.slot_to;
  sending = record { node = node; kind = SyncFrame };
  sends = is.sends;
  by_node = refl;
  correct = refl;
  has_row = is.has_row;
  active = refl;
  on_channel = is.on_channel;
}

pub are_sent : All (IsSentIn seen_run seen_cycles 0) seen_sent
unfolding cycle_at
are_sent =
    all_of (IsSentIn seen_run seen_cycles 0) sent_frame
    (sent_is 1 0 (record { numbered = refl; counted = refl; has_cycle = refl; slot_from = lit≤ tt; slot_to = lit≤ tt; sends = refl; has_row = refl; on_channel = refl }))
    (sent_is 2 0 (record { numbered = refl; counted = refl; has_cycle = refl; slot_from = lit≤ tt; slot_to = lit≤ tt; sends = refl; has_row = refl; on_channel = refl }))
    (sent_is 1 1 (record { numbered = refl; counted = refl; has_cycle = refl; slot_from = lit≤ tt; slot_to = lit≤ tt; sends = refl; has_row = refl; on_channel = refl }))
    (sent_is 2 1 (record { numbered = refl; counted = refl; has_cycle = refl; slot_from = lit≤ tt; slot_to = lit≤ tt; sends = refl; has_row = refl; on_channel = refl }))
    (sent_is 1 2 (record { numbered = refl; counted = refl; has_cycle = refl; slot_from = lit≤ tt; slot_to = lit≤ tt; sends = refl; has_row = refl; on_channel = refl }))
    (sent_is 2 2 (record { numbered = refl; counted = refl; has_cycle = refl; slot_from = lit≤ tt; slot_to = lit≤ tt; sends = refl; has_row = refl; on_channel = refl }))
    (sent_is 1 3 (record { numbered = refl; counted = refl; has_cycle = refl; slot_from = lit≤ tt; slot_to = lit≤ tt; sends = refl; has_row = refl; on_channel = refl }))
    (sent_is 2 3 (record { numbered = refl; counted = refl; has_cycle = refl; slot_from = lit≤ tt; slot_to = lit≤ tt; sends = refl; has_row = refl; on_channel = refl }))

-- ---- and stamped

IsRead : SentFrame → Type 0
IsRead s = IsStamped (observer_of (seen_log None false)) worked_delays (true_clock 0) (action_instant seen_cluster s.row s.frame.slot) s.delay s.frame.stamp

none_under_way : IsBetween (pos 0) (pos 0) (pos 0)
none_under_way = record { low = record { le = tt }; high = record { le = tt } }

are_read : (frame : SentFrame) → Contains seen_sent frame → IsRead frame
unfolding IsRead
are_read frame among =
    each_frame IsRead
    (record { within = none_under_way; from = record { le = tt }; to = record { le = tt } })
    (record { within = none_under_way; from = record { le = tt }; to = record { le = tt } })
    (record { within = none_under_way; from = record { le = tt }; to = record { le = tt } })
    (record { within = none_under_way; from = record { le = tt }; to = record { le = tt } })
    (record { within = none_under_way; from = record { le = tt }; to = record { le = tt } })
    (record { within = none_under_way; from = record { le = tt }; to = record { le = tt } })
    (record { within = none_under_way; from = record { le = tt }; to = record { le = tt } })
    (record { within = none_under_way; from = record { le = tt }; to = record { le = tt } })
    frame among

-- without delays
no_delay_of : (frame : SentFrame) → Contains seen_sent frame → frame.delay ≡ pos 0
no_delay_of frame among = each_frame (λ s. s.delay ≡ pos 0) refl refl refl refl refl refl refl refl frame among

-- each frame is that of its slot and cycle
frame_is : (frame : SentFrame) → Contains seen_sent frame → frame.frame ≡ (sent_frame frame.frame.slot frame.cycle).frame
frame_is frame among = each_frame (λ s. s.frame ≡ (sent_frame s.frame.slot s.cycle).frame) refl refl refl refl refl refl refl refl frame among

-- each two come in time
IsInTime : SentFrame → SentFrame → Type 0
IsInTime frame later =
    is_timely seen_cluster (stamped_apart (observer_of (seen_log None false)) frame later) (later.frame.number -ℤ frame.frame.number)
    (sent_macrotick seen_run later -ℤ sent_macrotick seen_run frame)
    ≡ true

are_in_time : (frame later : SentFrame) → Contains seen_sent frame → Contains seen_sent later → IsInTime frame later
unfolding IsInTime
are_in_time frame later among is =
    each_frame (λ s. IsInTime s later)
    (each_frame (IsInTime (sent_frame 1 0)) refl refl refl refl refl refl refl refl later is)
    (each_frame (IsInTime (sent_frame 2 0)) refl refl refl refl refl refl refl refl later is)
    (each_frame (IsInTime (sent_frame 1 1)) refl refl refl refl refl refl refl refl later is)
    (each_frame (IsInTime (sent_frame 2 1)) refl refl refl refl refl refl refl refl later is)
    (each_frame (IsInTime (sent_frame 1 2)) refl refl refl refl refl refl refl refl later is)
    (each_frame (IsInTime (sent_frame 2 2)) refl refl refl refl refl refl refl refl later is)
    (each_frame (IsInTime (sent_frame 1 3)) refl refl refl refl refl refl refl refl later is)
    (each_frame (IsInTime (sent_frame 2 3)) refl refl refl refl refl refl refl refl later is)
    frame among

is_within_drift : IsWithinDrift 0 (true_clock 0)
is_within_drift = record {
  drift_to = lit≤ tt;
  ticks_from = record { lt = tt };
  counts_from = record { lt = tt };
  slow = record { le = tt };
  fast = record { le = tt };
}

pub seen_of_run : (since : Option ℕ) (whole : Bool) → IsSeenOf seen_run seen_cycles 0 (observer_of (seen_log since whole)) no_delays true_clock seen_sent
unfolding IsRead IsInTime
seen_of_run since whole = record {
  whole_base = refl;
  within_drift = λ double. is_within_drift;
  sent = are_sent;
  read = λ frame double among window. are_read frame among;
  jitter = λ frame later double among is window other node channel.
      rw (no_delay_of frame among, no_delay_of later is) (record { low = record { le = tt }; high = record { le = tt } });
  once = λ frame other among is cycle slot channel.
      frame_is other is ∙ (λ i. (sent_frame (slot i) (cycle i)).frame) ∙ sym (frame_is frame among);
  timely = λ frame later among is between. are_in_time frame later among is;
}

-- ---- as it is judged

judged_is : (since : Option ℕ) (whole : Bool) → judged_of seen_cluster (seen_log since whole) ≡ seen_sightings
unfolding judged_of fate_of judgement_of is_arbitrary_in on_frames
judged_is since whole = refl

pub told_of_sent : AllZip IsToldOf seen_sightings seen_sent
told_of_sent = (told 1 0, (told 2 0, (told 1 1, (told 2 1, (told 1 2, (told 2 2, (told 1 3, (told 2 3, tt))))))))
  where
    told : (node cycle : ℕ) → IsToldOf (entry_sighting node cycle) (sent_frame node cycle)
    told node cycle = record { by_node = refl; slot = refl; channel = refl; count = refl; stamp = refl }

pub none_own : (since : Option ℕ) (whole : Bool) (node : ℕ) (channel : Channel) → own_limits (seen_log since whole) node channel ≡ None
unfolding own_limits
none_own since whole node A = none_said 65 node
none_own since whole node B = none_said 65 node

delays_are : (since : Option ℕ) (whole : Bool) (node : ℕ) (channel : Channel) → delays_in (seen_log since whole) node channel ≡ Some worked_delays
unfolding delays_in delay_limits_of jitter_of
delays_are since whole node channel = Prim.rw (none_own since whole node channel) refl

pub log_is_seen : (since : Option ℕ) (whole : Bool) → IsLogSeen seen_run seen_cycles 0 no_delays true_clock (seen_log since whole)
log_is_seen since whole = record {
  sent = seen_sent;
  seen = seen_of_run since whole;
  told = subst (λ (judged : List Sighting). AllZip IsToldOf judged seen_sent) (sym (judged_is since whole)) told_of_sent;
  limits = λ node channel. subst (λ (o : Option Delays). IfSome o (λ limits. no_delays node channel ≡ limits)) (sym (delays_are since whole node channel)) refl;
  first = refl;
}
