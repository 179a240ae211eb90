-- The sightings of the worked log and its verdict, computed; and that its run is as it states.
use Rattle.std.proofs.Common.{◌≡◌, ◌∙◌, ◌⊎◌, ◌<◌, ℕ, pos, Bool, true, false, Option, None, Some, List, [], refl, sym, ap, subst, inl, inr, lit≤, arith}
use Rattle.std.specs.Prelude.{⊤, Contains, IfSome, IsSome, length, ◌-◌, slice_get}
use Rattle.fr_cluster.specs.Setting.{IsSetting, Setting}
use Rattle.fr_history.specs.Lawful.{IsLawful}
use Rattle.fr_history.specs.Next.{cycles_of}
use Rattle.fr_history.proofs.Computing.{on_frames}
use Rattle.fr_log.specs.View.{IsEvenCycle, delay_limits_of, is_arbitrary_in, jitter_of, own_limits}
use Rattle.fr_bound.specs.SharpBounds.{last_of}
use Rattle.fr_bound.specs.declared.judging.Heard.{Heard}
use Rattle.fr_bound.specs.declared.judging.Heard.TheVariants.{Clean}
use Rattle.fr_course.specs.Middles.{middle, middle_missing}
use Rattle.fr_course.specs.Readings.{meet_all, reading_scale}
use Rattle.fr_course.specs.Spread.{least_from, least_spread, most_from, most_spread}
use Rattle.fr_observe.specs.Faults.{clock_faults, own_faults, slot_faults}
use Rattle.fr_observe.specs.Observing.{both_say, even_high, even_low, odd_high, odd_low, seen_doubles, terms_of}
use Rattle.fr_sightings.specs.Senders.{course_in, delays_in, first_stamp, seen_box, seen_sender, seen_senders, seen_span}
use Rattle.fr_sightings.specs.Judging.{judgement_of}
use Rattle.fr_sightings.specs.Sightings.{OffendingFrames, fate_of, fates_from, irregular_of, offending_frames_of, sightings_of, untimely_of}
use Rattle.fr_sightings.specs.declared.sighting.Sighting.{Sighting}
use Rattle.fr_findings.specs.Verdict.{Basis, double_at, faults_told, known_told, log_basis, log_progress, moving_told, own_told, progress_of, progress_told, standing_told, verdict_by, verdict_of}
use Rattle.fr_judging.specs.Hearing.{log_heard}
use Rattle.fr_judging.specs.Knowing.{judged_skews, judged_terms, known_apart, known_missing, known_next, known_seen, most_beyond, moving_faults, standing_faults, standing_of, term_faults}
use Rattle.fr_judging.specs.Obstacles.{first_unseen}
use Rattle.fr_findings.specs.declared.verdict.Verdict.{Verdict}
use Rattle.fr_findings.specs.declared.verdict.Verdict.TheVariants as verdict
use Rattle.fr_seen.specs.Contradictions.{IsAsLogStates, IsInside, IsObservedRun, IsSyncedAsStated, MissesNone}
use Rattle.fr_base.specs.declared.channel.Channel.{Channel}
use Rattle.fr_base.specs.declared.channel.Channel.TheVariants.{A, B}
use Rattle.fr_cluster.specs.declared.nodes.NodeSpec.{NodeSpec}
use Rattle.fr_history.specs.Offers.{is_on}
use Rattle.fr_seen_runs.specs.WorkedLog.{WorkedLog, no_delays, seen_cluster, seen_cycles, seen_log, seen_run, seen_sightings, true_clock}
use Rattle.fr_seen_runs.proofs.SteadyRuns.{steady_runs_miss_none}
use Rattle.fr_seen_runs.proofs.WorkedCycles.{cycles_are, each_node, first_has_rows, first_is_known, has_key, run_is_setting, run_is_steady, run_is_timed, seen_flutter}
use Rattle.fr_seen_runs.proofs.WorkedSeen.{log_is, log_is_seen, none_named}
use Rattle.fr_seen_runs.proofs.WorkedSlots.{slots_are_own}

-- ---- what is computed with

-- the senders of a double cycle
unfoldable pub on_senders : ⊤
unfolding first_stamp delays_in delay_limits_of own_limits jitter_of is_arbitrary_in seen_box seen_span course_in seen_sender seen_senders meet_all seen_doubles
on_senders = tt

-- the faults of a double cycle
unfoldable pub on_faults : ⊤
unfolding own_faults slot_faults clock_faults terms_of middle middle_missing
on_faults = tt

-- the rows of its cycles
unfoldable pub on_rows : ⊤
unfolding even_low even_high odd_low odd_high both_say least_from most_from least_spread most_spread
on_rows = tt

-- how a double cycle stands, by what is known of it
unfoldable pub on_numbers : ⊤
unfolding standing_told standing_of standing_faults moving_faults term_faults known_seen known_next known_apart known_missing judged_skews judged_terms most_beyond first_unseen last_of
on_numbers = tt

-- and the whole of it
unfoldable pub on_doubles : ⊤
unfolding verdict_by progress_of progress_told own_told faults_told known_told moving_told double_at
on_doubles = tt

-- ---- its sightings

sightings_are : (since : Option ℕ) (whole : Bool) → sightings_of seen_cluster (seen_log since whole) ≡ seen_sightings
unfolding sightings_of fates_from fate_of judgement_of is_arbitrary_in on_frames
sightings_are since whole = refl

abbrev pub none_offending : OffendingFrames
none_offending = record { untimely = []; irregular = [] }

none_offend : (since : Option ℕ) (whole : Bool) → offending_frames_of seen_cluster (seen_log since whole) ≡ none_offending
unfolding untimely_of irregular_of fates_from fate_of judgement_of is_arbitrary_in on_frames
none_offend since whole = refl

-- ---- its verdict

-- what its verdict rests on besides its sightings
abbrev seen_basis : Option ℕ → Bool → Basis
seen_basis since whole = record {
  precision = pos 45_007_594;
  scale = reading_scale 0 seen_cluster;
  params = seen_cluster;
  log = seen_log since whole;
  span = record { first = 0; last = 3 };
  heard = Some Clean;
}

basis_is : (since : Option ℕ) (whole : Bool) → log_basis seen_cluster (seen_log since whole) ≡ seen_basis since whole
unfolding log_heard is_arbitrary_in
basis_is since whole = Prim.rw (sightings_are since whole) refl

abbrev within_to_2 : Verdict
within_to_2 = verdict.Within (record { from = 0; to = 2 })

plain_progress : verdict_by (log_progress (seen_basis None false) seen_sightings none_offending) ≡ within_to_2
unfolding on_numbers on_doubles on_senders on_faults on_rows
plain_progress = refl

stated_progress : verdict_by (log_progress (seen_basis (Some 0) true) seen_sightings none_offending) ≡ within_to_2
unfolding on_numbers on_doubles on_senders on_faults on_rows
stated_progress = refl

verdict_is :
    (since : Option ℕ) (whole : Bool) → verdict_by (log_progress (seen_basis since whole) seen_sightings none_offending) ≡ within_to_2
    → verdict_of seen_cluster (seen_log since whole) ≡ within_to_2
unfolding verdict_of
verdict_is since whole progress = Prim.rw (basis_is since whole, sightings_are since whole, none_offend since whole) progress

-- ---- as stated

pub named_none : (since : Option ℕ) (whole : Bool) (node : ℕ) → false ≡ is_arbitrary_in (seen_log since whole) node
unfolding is_arbitrary_in
named_none since whole node = sym (none_named 65 node)

-- between the cycles of the first frame and of the last one lie 1 and 2
inside_is : (number : ℕ) → IsInside seen_sightings number → (number ≡ 1) ⊎ (number ≡ 2)
inside_is number inside =
    let first : 0 ≡ inside.first.number = by_first inside.first inside.is_first in
    let last : 3 ≡ inside.last.number = by_last inside.last inside.is_last in
    let from : 0 < number = omega (arith, first, inside.behind) in
    let to : number < 3 = omega (arith, last, inside.before) in
    grind (arith, from, to)
  where
    number_in : Option Sighting → ℕ
    number_in None = 0
    number_in (Some s) = s.number

    by_first : (s : Sighting) → slice_get seen_sightings 0 ≡ Some s → 0 ≡ s.number
    by_first s is = ap number_in is

    by_last : (s : Sighting) → slice_get seen_sightings (length seen_sightings - 1) ≡ Some s → 3 ≡ s.number
    by_last s is = ap number_in is

-- in both of them each node was seen
IsThere : ℕ → ℕ → Channel → Type 0
IsThere node number channel = is_on seen_run node channel ≡ true → IsSome (first_stamp seen_sightings node channel number)

there_1 : (number : ℕ) (channel : Channel) → (number ≡ 1) ⊎ (number ≡ 2) → IsThere 1 number channel
unfolding IsThere first_stamp
there_1 number A (inl one) on = rw one refl
there_1 number A (inr two) on = rw two refl
there_1 number B at on = absurd (let e : false ≡ true = on in cc)

there_2 : (number : ℕ) (channel : Channel) → (number ≡ 1) ⊎ (number ≡ 2) → IsThere 2 number channel
unfolding IsThere first_stamp
there_2 number A (inl one) on = rw one refl
there_2 number A (inr two) on = rw two refl
there_2 number B at on = absurd (let e : false ≡ true = on in cc)

are_there : (number : ℕ) (channel : Channel) (node : NodeSpec) → (number ≡ 1) ⊎ (number ≡ 2) → Contains seen_cluster.nodes node → IsThere node.id number channel
are_there number channel node at among =
    each_node (λ (n : NodeSpec). IsThere n.id number channel) (there_1 number channel at) (there_2 number channel at) node among

misses_none : (since : Option ℕ) (whole : Bool) → MissesNone seen_run seen_cycles 0 (seen_log since whole)
unfolding IsThere
misses_none since whole number node channel c row inside correct key on has is active =
    let seen_inside : IsInside seen_sightings number = subst (λ (seen : List Sighting). IsInside seen number) (sightings_are since whole) inside in
    subst (λ (seen : List Sighting). IsSome (first_stamp seen node.id channel number)) (sym (sightings_are since whole))
    (are_there number channel node (inside_is number seen_inside) correct on)

pub hears_all : (since : Option ℕ) (whole : Bool) → log_heard seen_cluster (seen_log since whole) ≡ Some Clean
unfolding log_heard is_arbitrary_in
hears_all since whole = refl

-- it is in sync in cycle 0
synced_first : (since : Option ℕ) (whole : Bool) (what : Heard) → log_heard seen_cluster (seen_log since whole) ≡ Some what
    → IsSyncedAsStated seen_run seen_cycles 0 (seen_log since whole) what 0
synced_first since whole what heard =
    subst (λ w. IsSyncedAsStated seen_run seen_cycles 0 (seen_log since whole) w 0) (same what (sym (hears_all since whole) ∙ heard)) (first_is_known, first_has_rows)
  where
    same : (what : Heard) → Some Clean ≡ Some what → Clean ≡ what
    same what is = cc is

as_stated : (since : Option ℕ) (whole : Bool)
    → ((what : Heard) → log_heard seen_cluster (seen_log since whole) ≡ Some what → IfSome since (IsSyncedAsStated seen_run seen_cycles 0 (seen_log since whole) what))
    → IsAsLogStates seen_run seen_cycles 0 (seen_log since whole)
as_stated since whole synced = record {
  named = λ node among. named_none since whole node.id;
  timed = λ what heard. run_is_steady.timed;
  missed = λ what double node heard less correct. steady_runs_miss_none seen_run seen_flutter double 0 node run_is_steady less correct;
  none_deaf = λ double heard less node correct. inl (has_key node correct);
  since = synced;
  unmissed = λ all. misses_none since whole;
}

-- ---- the whole

AreLawful : Type 0
AreLawful = (x : Setting) (n : ℕ) → IsSetting x → IsLawful x (cycles_of x n)

observed : AreLawful → (since : Option ℕ) (whole : Bool) → IfSome since IsEvenCycle → IsObservedRun seen_run seen_cycles 0 no_delays true_clock (seen_log since whole)
unfolding AreLawful
observed lawful since whole even = record {
  timed = run_is_timed (subst (λ h. IsLawful seen_run h) cycles_are (lawful seen_run 4 run_is_setting));
  whole = refl;
  log = log_is since whole even;
  seen = log_is_seen since whole;
}

pub plain_log_is : ((x : Setting) (n : ℕ) → IsSetting x → IsLawful x (cycles_of x n)) → WorkedLog None false
unfolding AreLawful
plain_log_is lawful = record {
  cycles = cycles_are;
  observed = observed lawful None false tt;
  stated = as_stated None false (λ what heard. tt);
  slots = slots_are_own None false;
  sightings = sightings_are None false;
  verdict = verdict_is None false plain_progress;
}

pub stated_log_is : ((x : Setting) (n : ℕ) → IsSetting x → IsLawful x (cycles_of x n)) → WorkedLog (Some 0) true
unfolding AreLawful
stated_log_is lawful = record {
  cycles = cycles_are;
  observed = observed lawful (Some 0) true (record { even = refl; most = lit≤ tt });
  stated = as_stated (Some 0) true (synced_first (Some 0) true);
  slots = slots_are_own (Some 0) true;
  sightings = sightings_are (Some 0) true;
  verdict = verdict_is (Some 0) true stated_progress;
}
