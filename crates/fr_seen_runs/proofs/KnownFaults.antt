-- Nothing in a double cycle of a log contradicts what is known of it in a run that the log is seen of.
use Rattle.std.proofs.Common.{◌≡◌, ◌∙◌, ℕ, suc, ◌+◌, ◌*◌, true, false, ℤ, pos, Option, Some, None, IsSome, List, [], ◌++◌, All, refl, ap, subst, arith}
use Rattle.std.specs.Prelude.{◌≤ℤ◌, ◌+ℤ◌, ◌-ℤ◌, Contains, filter_map}
use Rattle.std.specs.Option.{option_map, option_map_or, option_to_list}
use Rattle.std.proofs.lemmas.List.Elements.{All-contains}
use Rattle.fr_base.specs.declared.channel.Channel.{Channel}
use Rattle.fr_base.specs.declared.node_row.NodeRow.{NodeRow}
use Rattle.fr_bound.specs.Sync.{cycle_length_of}
use Rattle.fr_bound.specs.declared.judging.Known.{Known}
use Rattle.fr_cluster.specs.Setting.{Setting}
use Rattle.fr_cluster.specs.Values.{Values}
use Rattle.fr_cluster.specs.declared.nodes.NodeSpec.{NodeSpec}
use Rattle.fr_time.specs.Position.{grid_for}
use Rattle.fr_skew.specs.Spreads.{spread_at}
use Rattle.fr_history.specs.Cycles.{Cycle, Cycles, cycle_at, told_of}
use Rattle.fr_history.specs.History.{Record, record_at, row_for}
use Rattle.fr_history.specs.Skew.{skew_at}
use Rattle.fr_runs.specs.Numbers.{HasDouble}
use Rattle.fr_runs.proofs.Doubles.{even_length, odd_length}
use Rattle.fr_runs.proofs.Parts.{told_at}
use Rattle.fr_log.specs.View.{LogView}
use Rattle.fr_course.specs.Computed.{length_ticks}
use Rattle.fr_course.specs.Readings.{reading_scale}
use Rattle.fr_course.specs.Spread.{lengths_apart, starts_apart}
use Rattle.fr_course.specs.Scales.{Scale}
use Rattle.fr_course.specs.declared.stamps.Delays.{Delays}
use Rattle.fr_sightings.specs.Senders.{own_slot, sightings_in}
use Rattle.fr_sightings.specs.Sightings.{sightings_of}
use Rattle.fr_sightings.specs.declared.sender.Sender.{Sender}
use Rattle.fr_sightings.specs.declared.sighting.Sighting.{Sighting}
use Rattle.fr_observe.specs.Faults.{beyond_fault, length_beyond, longest_cycle_of, missing_frames, shortest_cycle_of}
use Rattle.fr_judging.specs.Knowing.{known_apart, known_missing}
use Rattle.fr_observe.specs.Observing.{courses_of, even_low, odd_low}
use Rattle.fr_observe.specs.declared.fault.Fault.{Fault}
use Rattle.fr_observe.specs.declared.apart_faults.Apart.TheVariants.{Lengths, Starts}
use Rattle.fr_findings.specs.Verdict.{log_span}
use Rattle.fr_seen.specs.Clocks.{StraightClock}
use Rattle.fr_seen.specs.LogSeen.{HasBoth, RowsHold, log_senders, run_double, sender_rows}
use Rattle.fr_seen.proofs.RowLaws.{observed_rows_hold}
use Rattle.fr_seen.proofs.RunLaws.{cut_at, nodes_have_both_rows}
use Rattle.fr_seen.proofs.SenderLaws.{senders_are_on_course}
use Rattle.fr_precision.specs.Lengths.{IsAboutCycle}
use Rattle.fr_runs.specs.SharpHistories.{EachHasRow, IsKnownAt, KeepsApart}
use Rattle.fr_seen.specs.Contradictions.{IsObservedRun, MissesNone, NamesArbitrary}
use Rattle.fr_seen.specs.LogDoubles.{IsAsLong, LieAsSeen}
use Rattle.fr_seen_runs.specs.KnownDoubles.{HasNoFaultBeyond, HasNoSkewAbove, NoFaultBeyond, NoKnownFault, NoKnownFrameMissing, NoSkewFaultWithin}
use Rattle.fr_seen_runs.proofs.ComputedLists.{none_given}
use Rattle.fr_seen_runs.proofs.MissingFrames.{none_missing, none_of, not_less}
use Rattle.fr_seen_runs.proofs.KeyFrames.{correct_by, frames_by, is_sync}
use Rattle.fr_seen.proofs.SendersApart.{lie_as_seen}
use Rattle.fr_seen.proofs.SenderRows.{natural, run_among, sender_row, senders_among, skew_by, some_within, trans}

-- what is told of a cycle at a macrotick is the skew there
told_skew : (p : Values) (h : Cycles) (cycle macrotick : ℕ) (c : Cycle) (bound : ℤ) → cycle_at h cycle ≡ Some c → skew_at p (told_of h) cycle macrotick ≤ℤ bound
    → spread_at (grid_for p) cycle c.told.rows macrotick ≤ℤ bound
told_skew p h cycle macrotick c bound is most =
    let told : record_at (told_of h) cycle ≡ Some c.told = told_at h cycle ∙ ap (option_map (λ (d : Cycle). d.told)) is in
    subst (λ (o : Option Record). option_map_or (λ (r : Record). spread_at (grid_for p) cycle r.rows macrotick) o (pos 0) ≤ℤ bound) told most

module _
    (x : Setting) (h : Cycles) (base : ℕ) (delays : ℕ → Channel → Delays) (clock : ℕ → StraightClock) (l : LogView) (double : ℕ) (known : Known)
    (o : IsObservedRun x h base delays clock l) (at : IsKnownAt x h (run_double base double) known)
  where
    abbrev Scaled : Scale
    Scaled = reading_scale l.drift x.params

    abbrev Senders : List Sender
    Senders = log_senders x l double

    abbrev K : ℕ
    K = run_double base double

    has : HasDouble h (run_double base double) at.even at.odd
    has = record { has_even = at.has_even; has_odd = subst (λ n. cycle_at h n ≡ Some at.odd) (later (2 * K)) at.has_odd }
      where
        later : (n : ℕ) → n + 1 ≡ suc n
        later n = omega arith

    lie : LieAsSeen x l.drift at.even at.odd (log_senders x l double)
    lie =
        lie_as_seen x l.drift (clock K) at.even at.odd o.timed.sane (o.seen.seen.within_drift K) Senders
        (senders_are_on_course x h base delays clock l double at.even at.odd o.timed o.log o.seen has)

    rows : RowsHold x l.drift (clock (run_double base double)) at.even at.odd (log_senders x l double)
    rows = observed_rows_hold x h base delays clock l double at.even at.odd o.timed o.log o.seen has

    among : All (Contains at.even.told.rows) (sender_rows at.even (log_senders x l double)) × All (Contains at.odd.told.rows) (sender_rows at.odd (log_senders x l double))
    among = senders_among at.even at.odd Senders rows.rows

    -- ---- starts and lengths

    starts_none : beyond_fault Starts (2 * double) (pos known.spread.starts) (starts_apart (reading_scale l.drift x.params) (courses_of (log_senders x l double))) ≡ None
    starts_none =
        let bound = pos known.spread.starts in
        let near = some_within bound (λ (row : NodeRow). row.start) at.even.told.rows (sender_rows at.even Senders) at.rows.starts_lie among.0 in
        rw (not_less bound (starts_apart Scaled (courses_of Senders)).low (lie.starts_from bound (natural known.spread.starts) near)) refl

    lengths_none : beyond_fault Lengths (2 * double) (pos known.spread.lengths) (lengths_apart (reading_scale l.drift x.params) (courses_of (log_senders x l double))) ≡ None
    lengths_none =
        let bound = pos known.spread.lengths in
        let near = some_within bound (cycle_length_of x.params) at.even.told.rows (sender_rows at.even Senders) at.rows.lengths_lie among.0 in
        rw (not_less bound (lengths_apart Scaled (courses_of Senders)).low (lie.lengths_from bound (natural known.spread.lengths) near)) refl

    long_none : (s : Sender) → Contains (log_senders x l double) s → length_beyond x.params (reading_scale l.drift x.params) known.beyond double s ≡ None
    long_none s there =
        let p = x.params in
        let seen = length_ticks Scaled s.course in
        let long = All-contains (IsAsLong x l.drift at.even at.odd) Senders s lie.long there in
        let both = All-contains (λ (s : Sender). HasBoth at.even at.odd s.node) Senders s rows.rows there in
        let ticks = cycle_length_of p (row_for at.even.told.rows s.node) in
        let about =
        All-contains (λ (row : NodeRow). IsAboutCycle p (pos known.beyond) (cycle_length_of p row)) at.even.told.rows (row_for at.even.told.rows s.node) at.rows.about
        (sender_row at.even s.node both.in_even) in
        let least = shortest_cycle_of p -ℤ pos known.beyond in
        let most = longest_cycle_of p +ℤ pos known.beyond in
        let above = not_less most seen.low (trans seen.low ticks most long.even_long.low about.high) in
        let below = not_less seen.high least (trans least ticks seen.high about.low long.even_long.high) in
        rw (above, below) refl

    beyond_none : HasNoFaultBeyond x l double known
    beyond_none = record { starts = starts_none; lengths = lengths_none; long = none_given (length_beyond x.params Scaled known.beyond double) Senders long_none }

    -- ---- missing

    has_both : (node : NodeSpec) → NamesArbitrary x l → EachHasRow x h (run_double base double) → Contains x.params.nodes node → IsSome (own_slot l node) → HasBoth at.even at.odd node.id
    has_both node named each there own =
        let cut = cut_at h K at.even at.odd has in
        let correct = correct_by x h base delays clock l o node named there (is_sync l node own).correct in
        let early = each node correct cut.earlier at.even at.odd cut.is in
        record { in_even = early; in_odd = (nodes_have_both_rows x h K at.even at.odd node.id o.timed has).0 early }

    missing_none : (before : List Sighting) → NamesArbitrary x l → (l.whole ≡ true → MissesNone x h base l) → EachHasRow x h (run_double base double)
        → missing_frames x.params l (log_span (sightings_of x.params l)) before (sightings_in (sightings_of x.params l) double) double ≡ []
    missing_none before named unmissed each =
        none_missing x.params l (log_span (sightings_of x.params l)) before (sightings_in (sightings_of x.params l) double) double
        (λ node whole there own.
        none_of (sightings_of x.params l) double node
        (λ number channel of inside on.
        frames_by x h base delays clock l o double number node channel at.even at.odd named (unmissed whole) there own has (has_both node named each there own) at.active_even
        at.active_odd of inside on))

    -- ---- skew

    skews_none : (apart : ℕ) → KeepsApart x h (run_double base double) apart → HasNoSkewAbove x l double apart
    skews_none apart keeps =
        let p = x.params in
        let even_low = even_low Scaled Senders in
        let odd_low = odd_low Scaled Senders in
        let even =
        skew_by p (2 * K) false at.even.told.rows (sender_rows at.even Senders) (pos apart) even_low (even_length (2 * K) K refl) (natural apart)
        (λ macrotick less. told_skew p h (2 * K) macrotick at.even (pos apart) has.has_even (keeps.skew macrotick false less))
        (run_among at.even.told.rows (sender_rows at.even Senders) at.active_even among.0) rows.cycles.even_from in
        let odd =
        skew_by p (suc (2 * K)) true at.odd.told.rows (sender_rows at.odd Senders) (pos apart) odd_low (odd_length (2 * K) K refl) (natural apart)
        (λ macrotick less. told_skew p h (suc (2 * K)) macrotick at.odd (pos apart) has.has_odd (keeps.skew macrotick true less))
        (run_among at.odd.told.rows (sender_rows at.odd Senders) at.active_odd among.1) rows.cycles.odd_from in
        record { even = rw (not_less (pos apart) even_low even) refl; odd = rw (not_less (pos apart) odd_low odd) refl }

pub no_fault_beyond : NoFaultBeyond
no_fault_beyond x h base delays clock l double known o at = beyond_none x h base delays clock l double known o at

pub no_known_frame_missing : NoKnownFrameMissing
no_known_frame_missing x h base delays clock l before double known o named unmissed at each = missing_none x h base delays clock l double known o at before named unmissed each

none_of_three : (a b c : List Fault) → a ≡ [] → b ≡ [] → c ≡ [] → a ++ b ++ c ≡ []
none_of_three a b c d e f = ap (λ z. z ++ b ++ c) d ∙ ap (λ z. z ++ c) e ∙ f

pub no_known_fault : NoKnownFault
unfolding known_apart known_missing
no_known_fault x h base delays clock l before double known o named unmissed at each =
    let p = x.params in
    let scale = reading_scale l.drift p in
    let senders = log_senders x l double in
    let beyond = beyond_none x h base delays clock l double known o at in (
      none_of_three (option_to_list (beyond_fault Starts (2 * double) (pos known.spread.starts) (starts_apart scale (courses_of senders))))
          (option_to_list (beyond_fault Lengths (2 * double) (pos known.spread.lengths) (lengths_apart scale (courses_of senders))))
          (filter_map (length_beyond p scale known.beyond double) senders)
          (ap (λ (f : Option Fault). option_to_list f) beyond.starts) (ap (λ (f : Option Fault). option_to_list f) beyond.lengths) beyond.long,
      missing_none x h base delays clock l double known o at before named unmissed each,
    )

pub no_skew_fault_within : NoSkewFaultWithin
no_skew_fault_within x h base delays clock l double apart known o at keeps = skews_none x h base delays clock l double known o at apart keeps
