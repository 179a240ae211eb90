-- The trace of a run fits its cluster, whoever joins.
use Rattle.std.proofs.Common.{◌≡◌, ◌⊎◌, inl, inr, ℕ, suc, ◌+◌, ◌*◌, ◌<◌, ◌≤◌, ◌==◌, ℤ, pos, negsuc, ◌+ℤ◌, ◌-ℤ◌, ◌*ℤ◌, ◌≤ℤ◌, ◌<ℤ◌, Bool, true, false, not, ◌&&◌, ◌||◌, List, [], ◌∷◌, length, map, get_or, Option, Some, None, refl, ap, sym, ◌∙◌, subst, arith}
use Rattle.std.specs.Prelude.{All, AllPairs, Contains, IsSome, filter, int_le, int_lt, is_some, nat_abs, nat_lt, neg_ℤ, option_and_then, if◌then◌else◌}
use Rattle.std.specs.Option.{option_map}
use Rattle.std.proofs.lemmas.Bool.{and_from, and_parts, and_right, or_parts}
use Rattle.std.proofs.lemmas.Bool.Decides.{nat_tests}
use Rattle.std.proofs.lemmas.Int.{by_lt_z, ints}
use Rattle.std.proofs.lemmas.List.{length-map}
use Rattle.std.proofs.lemmas.List.Elements.{All-contains, All-contains_itself, All-cons, All-head, All-map, All-nil, All-tail, All-weaker}
use Rattle.std.proofs.lemmas.List.Kept.{AllPairs-cons, AllPairs-filter}
use Rattle.fr_base.specs.Timed.{IsLength}
use Rattle.fr_base.specs.Within.{IsBetween, IsWithin}
use Rattle.fr_base.specs.declared.channel.Channel.{Channel}
use Rattle.fr_base.specs.declared.channel.Channel.TheVariants as channel
use Rattle.fr_base.specs.declared.dev.Dev.{Dev}
use Rattle.fr_base.specs.declared.node_row.NodeRow.{NodeRow}
use Rattle.fr_cluster.proofs.Elements.{filtered, found, kept_filtered}
use Rattle.fr_cluster.specs.Questions.{compensation_of, is_common, node_of, own_key}
use Rattle.fr_cluster.specs.Setting.{Setting, correct_nodes, is_correct}
use Rattle.fr_cluster.specs.Values.{Values, amount}
use Rattle.fr_cluster.specs.declared.join.Join.{Join}
use Rattle.fr_cluster.specs.declared.names.ParamName.TheVariants as name
use Rattle.fr_cluster.specs.declared.nodes.NodeSpec.{NodeSpec}
use Rattle.fr_frame.specs.Reading.{read_as}
use Rattle.fr_correct.proofs.There.{term_lies_within}
use Rattle.fr_midpoint.proofs.Products.{mulz-lez, mulz-lez_left, mulz_from}
use Rattle.fr_measure.specs.Deviations.{offset_values_by}
use Rattle.fr_precision.proofs.PlacementLaws.{share_from}
use Rattle.fr_reception.specs.Answers.{answer_by, answer_of}
use Rattle.fr_reception.specs.Listening.{Caught, caught_by, caught_position, first_or, first_rate_of, first_start_of, good_arrival, is_sync_of, kept_if, suffices}
use Rattle.fr_reception.specs.Offers.{Offer}
use Rattle.fr_reception.specs.Regular.{regular_frame}
use Rattle.fr_history.specs.Catching.{begins_with, caught_arrival, caught_by_slot, caught_in_run, caught_of, listener_offer, listening_row, sender_offers}
use Rattle.fr_base.specs.States.{is_active}
use Rattle.fr_base.specs.declared.state.State.TheVariants.{Passive}
use Rattle.fr_reception.specs.declared.heard.Heard.TheVariants.{Ignored}
use Rattle.fr_reception.specs.declared.heard.Ignored.TheVariants as reason
use Rattle.fr_time.proofs.Floors.{share_le}
use Rattle.fr_time.proofs.Placing.{can_place}
use Rattle.fr_time.specs.Instant.{next_start_of, slot_begins, slot_ends}
use Rattle.fr_time.specs.Cycles.{is_odd}
use Rattle.fr_time.specs.Senders.{sender_of}
use Rattle.fr_time.specs.declared.senders.Sending.{Sending}
use Rattle.fr_time.specs.Position.{floor_of, grid_for}
use Rattle.fr_history.proofs.Standing.{stand_in_time}
use Rattle.fr_history.specs.Cycles.{Cycle, Cycles, follower_devs_after, told_of}
use Rattle.fr_history.specs.History.{row_of}
use Rattle.fr_history.specs.Lawful.{FollowersObey, IsLawful, ToldObeys}
use Rattle.fr_history.specs.Laws.{begun_by, caught_start, start_by_rows}
use Rattle.fr_history.specs.Rows.{is_corrected, uncorrected}
use Rattle.fr_history.specs.Standing.{followed_well, has_joined_after, has_row, has_row_by, row_nodes}
use Rattle.fr_history.specs.Terms.{latest_devs}
use Rattle.fr_cluster.specs.Questions.{own_index}
use Rattle.fr_trace.specs.Bare.{bare_history, bare_record, bare_row}
use Rattle.fr_trace.specs.Lasting.{IsTrace, IsTracedRecord, IsTracedRow}
use Rattle.fr_history.specs.Terms.{offset_term_by, offset_term_in}
use Rattle.fr_midpoint.specs.Midpoint.{midpoint_of}
use Rattle.fr_correct.specs.Terms.{offset_term_at}
use Rattle.fr_runs.proofs.Lawful.{lawful_cycles_run}
use Rattle.fr_runs.proofs.Rates.{begun_suffices, rates_stay_within}
use Rattle.fr_precision.proofs.RoundLemmas.{contains_map}
use Rattle.fr_runs.proofs.Standing.{told_has}
use Rattle.fr_precision.proofs.RoundSenders.{and_then_some}
use Rattle.fr_trace.specs.Text.{joining_in}
use Rattle.fr_cluster.specs.Questions.{key_in}
use Rattle.fr_cluster.proofs.KeyNodes.{AllPairs-rest}
use Rattle.fr_history.proofs.Lists.{map-map}
use Rattle.fr_history.proofs.Told.{told_length}
use Rattle.fr_precision.proofs.DeviationLaws.{compensation_within}
use Rattle.fr_history.specs.Offers.{active_offer, arrived_of, is_on, sent_offer, value_of}
use Rattle.fr_runs.proofs.Known.{stored_value}
use Rattle.fr_runs.proofs.Nodes.{IsKeySlot, key_slot_there, node_there}
use Rattle.fr_time.proofs.Placing.{action_point_lt, slot_end_lt, slot_start_lt}
use Rattle.fr_time.specs.Slots.{action_point_of, slot_end_of, slot_start_of}
use Rattle.fr_time.specs.Instant.{action_instant, early_position}
use Rattle.fr_trace.proofs.Baring.{texts-bare}
use Rattle.fr_trace.proofs.Walking.{texts-read-back}
use Rattle.fr_trace.specs.Bare.{bare_trace}
use Rattle.fr_trace.specs.Fits.{FitsRecord, HistoryFits, IsAboutOther, IsProperJoin, TraceFits}
use Rattle.fr_trace.specs.Joins.{first_cycle, join_among, latest_rows, stands_in}
use Rattle.fr_trace.specs.ReadBack.{IsReadBack}
use Rattle.fr_trace.specs.Trace.{TraceView, has_row_in, is_named}
use Rattle.fr_trace.specs.Text.{trace_in}
use Rattle.fr_verdict.proofs.Ordering.{cycle-order}
use Rattle.fr_verdict.proofs.Proper.{not-above, not-below}
use Rattle.fr_verdict.proofs.Stored.{IsSaidBy, IsSentBy}
use Rattle.fr_verdict.proofs.Tracing.{IsHeard, all-heard, ascending, bare_row-of, eq-is, long, named-is, rows-ascend, some-same}
use Rattle.fr_verdict.specs.Runs.{trace_of_run}
use Rattle.fr_verdict.proofs.JoinsTold.{all-joined, join-is, joined-ascend, joined-few}
use Rattle.fr_verdict.specs.RunFits.{JoinsInRange, KeepsRanges, RunsAreReadBack, RunsFit}

-- ---- starts

-- where a cycle ends that begins no later than this: no later than one cycle more
cycle-most : (start micros rate offset length bound : ℤ) → pos 0 ≤ℤ start → start ≤ℤ bound → pos 0 ≤ℤ (micros +ℤ rate +ℤ offset) → (micros +ℤ rate +ℤ offset) ≤ℤ pos 660_000 → pos 500_000 ≤ℤ length
    → length ≤ℤ pos 1_500_000 → IsBetween (pos 0) (bound +ℤ pos 1_000_000_000_000) (start +ℤ ((micros +ℤ rate +ℤ offset) *ℤ length))
cycle-most start micros rate offset length bound from to low high short long =
    let some : pos 0 ≤ℤ length = least length short in
    let below = mulz_from (micros +ℤ rate +ℤ offset) length low some in
    let one = mulz-lez (micros +ℤ rate +ℤ offset) (pos 660_000) length high some in
    let two = mulz-lez_left length (pos 1_500_000) (pos 660_000) long (big 660_000) in
    step start ((micros +ℤ rate +ℤ offset) *ℤ length) (pos 660_000 *ℤ length) bound from to below one two
  where
    least : (l : ℤ) → pos 500_000 ≤ℤ l → pos 0 ≤ℤ l
    least l h = omega (arith, ints)

    big : (n : ℕ) → pos 0 ≤ℤ pos n
    big n = omega (arith, ints)

    step : (start way wide bound : ℤ) → pos 0 ≤ℤ start → start ≤ℤ bound → pos 0 ≤ℤ way → way ≤ℤ wide → wide ≤ℤ pos 990_000_000_000 → IsBetween (pos 0) (bound +ℤ pos 1_000_000_000_000) (start +ℤ way)
    step start way wide bound a b c d e = record { low = omega (arith, ints); high = omega (arith, ints) }

or-none : (b : Bool) → (b || false) ≡ b
or-none true = refl
or-none false = refl

some-bare : (o : Option NodeRow) → is_some (option_map bare_row o) ≡ is_some o
some-bare None = refl
some-bare (Some row) = refl

filter-twice : {X : Type 0} (p q : X → Bool) (xs : List X) → filter q (filter p xs) ≡ filter (λ x. p x && q x) xs
filter-twice p q [] = refl
filter-twice {X} p q (x ∷ xs) = by (p x) (q x) refl (filter-twice p q xs)
  where
    by : (a b : Bool) → q x ≡ b → filter q (filter p xs) ≡ filter (λ y. p y && q y) xs
        → filter q (if a then x ∷ filter p xs else filter p xs) ≡ (if a && b then x ∷ filter (λ y. p y && q y) xs else filter (λ y. p y && q y) xs)
    by true true is e = ap (λ (b : Bool). if b then x ∷ filter q (filter p xs) else filter q (filter p xs)) is ∙ ap (λ (l : List X). x ∷ l) e
    by true false is e = ap (λ (b : Bool). if b then x ∷ filter q (filter p xs) else filter q (filter p xs)) is ∙ e
    by false b is e = e

no-begin : (x : Setting) (e : Cycle) (n : ℕ) (join : Join) (c : Caught) → begins_with x (e ∷ []) n join ≡ Some c → ⊥
unfolding begins_with
no-begin x e n join c is = cc is

length-filter : {X : Type 0} (q : X → Bool) (xs : List X) → length (filter q xs) ≤ length xs
length-filter q [] = omega arith
length-filter q (x ∷ xs) = by (q x) (length-filter q xs)
  where
    by : (b : Bool) → length (filter q xs) ≤ length xs → length (if b then x ∷ filter q xs else filter q xs) ≤ suc (length xs)
    by true le = omega (arith, le)
    by false le = omega (arith, le)

filter-same : {X : Type 0} (q r : X → Bool) (xs : List X) → All (λ x. q x ≡ r x) xs → filter q xs ≡ filter r xs
filter-same q r [] same = refl
filter-same {X} q r (x ∷ xs) same =
    let rest = filter-same q r xs (All-tail (λ (y : X). q y ≡ r y) x xs same) in
    let here = All-head (λ (y : X). q y ≡ r y) x xs same in
    λ i. if here i then x ∷ rest i else rest i

module _ (x : Setting) (k : KeepsRanges x) where
  -- ---- the numbers of rows

  micros-sum : (rate offset : ℤ) → IsWithin x.params.rate_limit rate → IsWithin x.params.offset_limit offset
      → (pos 0 ≤ℤ (x.params.micros +ℤ rate +ℤ offset)) × ((x.params.micros +ℤ rate +ℤ offset) ≤ℤ pos 660_000)
  micros-sum rate offset a b =
      let can = (can_place x.params k.sane).terms rate offset a b in
      let grid = can.is_grid in
      let length : ℤ = x.params.micros +ℤ rate in
      let most = can.micros_from in
      let from = grid.correction_from in
      let to = grid.correction_to in
      let share = share_from x.params.correction length x.params.macros (first x.params.correction from) (second x.params.correction x.params.macros length from to most) (third x.params.correction x.params.macros from to) in
      step (floor_of (x.params.correction *ℤ length) x.params.macros) x.params.micros rate offset share can.reaches_correction grid.micros_to can.rate_to can.offset_to
    where
      first : (c : ℤ) → pos 1 ≤ℤ c → pos 0 ≤ℤ c
      first c h = omega (arith, ints)

      second : (c m l : ℤ) → pos 1 ≤ℤ c → c <ℤ m → m ≤ℤ l → pos 0 ≤ℤ l
      second c m l a b d = omega (arith, ints)

      third : (c m : ℤ) → pos 1 ≤ℤ c → c <ℤ m → pos 0 <ℤ m
      third c m a b = omega (arith, ints)

      step : (f n r o : ℤ) → pos 0 ≤ℤ f → f ≤ℤ (n +ℤ r +ℤ o) → n ≤ℤ pos 640_000 → r ≤ℤ pos 2000 → o ≤ℤ pos 16_000 → (pos 0 ≤ℤ (n +ℤ r +ℤ o)) × ((n +ℤ r +ℤ o) ≤ℤ pos 660_000)
      step f n r o a b c d e = (omega (arith, ints), omega (arith, ints))

  rates-in : (c : Cycle) (g : Cycles) → IsLawful x (c ∷ g) → All (λ row. IsWithin x.params.rate_limit row.rate) c.told.rows × All (λ row. IsWithin x.params.rate_limit row.rate) c.followers
  rates-in c g lawful = rates_stay_within x g c k.sane (λ node there. k.rates node.id) (lawful_cycles_run x (c ∷ g) lawful)

  mid-in : (mid : Option ℤ) → IsWithin x.params.offset_limit (offset_term_at x.params.offset_limit mid).value
  mid-in None = let range = k.sane.ranges name.pOffsetCorrectionOut in let from = range.0 in record { low = omega (arith, ints, from); high = omega (arith, ints, from) }
  mid-in (Some mid) = let range = k.sane.ranges name.pOffsetCorrectionOut in let from = range.0 in term_lies_within x.params.offset_limit mid (omega (arith, ints, from))

  none-in : IsWithin x.params.offset_limit (pos 0)
  none-in = let range = k.sane.ranges name.pOffsetCorrectionOut in let from = range.0 in record { low = omega (arith, ints, from); high = omega (arith, ints, from) }

  offset-in : (g : Cycles) (c : Cycle) (row : NodeRow) (b : Bool) → IsWithin x.params.offset_limit (if b then (offset_term_in x.params (told_of g) c.told.devs row.node).value else pos 0)
  offset-in g c row true = mid-in (midpoint_of (offset_values_by x.params (latest_devs (told_of g)) c.told.devs row.node (own_index x.params row.node)))
  offset-in g c row false = none-in

  followed-in : (g : Cycles) (devs : List Dev) (row : NodeRow) (b : Bool) → IsWithin x.params.offset_limit (if b then (offset_term_by x.params (follower_devs_after g) devs row.node None).value else pos 0)
  followed-in g devs row true = mid-in (midpoint_of (offset_values_by x.params (follower_devs_after g) devs row.node None))
  followed-in g devs row false = none-in

  offsets-in : (c : Cycle) (g : Cycles) → ToldObeys x g c → All (λ row. IsWithin x.params.offset_limit row.offset) c.told.rows
  offsets-in c g obeys = λ i d lt. subst (IsWithin x.params.offset_limit) (sym (obeys.clocks.offsets i d lt)) (offset-in g c (get_or c.told.rows i d) (is_corrected (told_of g) (get_or c.told.rows i d)))

  lengths-in : (c : Cycle) (g : Cycles) → ToldObeys x g c → All (λ row. IsLength row.length) c.told.rows
  lengths-in c g obeys = λ i d lt. subst IsLength (sym (obeys.clocks.lengths i d lt)) (k.lengths (get_or c.told.rows i d).node (length g))

  follower-offsets : (c : Cycle) (g : Cycles) → FollowersObey x g c → All (λ row. IsWithin x.params.offset_limit row.offset) c.followers
  follower-offsets c g obeys =
      λ i d lt. subst (IsWithin x.params.offset_limit) (sym (obeys.clocks.offsets i d lt)) (followed-in g c.follower_devs (get_or c.followers i d) (is_odd (length g)))

  follower-lengths : (c : Cycle) (g : Cycles) → FollowersObey x g c → All (λ row. IsLength row.length) c.followers
  follower-lengths c g obeys = λ i d lt. subst IsLength (sym (obeys.clocks.lengths i d lt)) (k.lengths (get_or c.followers i d).node (length g))

  -- ---- how large a position is

  early-range : (row : NodeRow) (macrotick : ℕ) → IsWithin x.params.rate_limit row.rate → macrotick < amount x.params name.gOffsetCorrectionStart
      → (pos 0 ≤ℤ early_position x.params row macrotick) × (early_position x.params row macrotick ≤ℤ pos 642_000)
  early-range row macrotick rate before =
      let can = (can_place x.params k.sane).early row.rate rate in
      let grid = can.is_grid in
      let from = grid.correction_from in
      let to = grid.correction_to in
      let length : ℤ = x.params.micros +ℤ row.rate in
      let some = positive x.params.macros x.params.correction from to in
      let short = least length x.params.macros some can.micros_from in
      let low = share_from (pos macrotick) length x.params.macros (natural macrotick) short some in
      let high = share_le (pos macrotick) length x.params.macros (natural macrotick) (within x.params.correction x.params.macros macrotick (correction-is x.params.correction from) to before) short in
      (low, most (floor_of (pos macrotick *ℤ length) x.params.macros) x.params.micros row.rate high grid.micros_to can.rate_to)
    where
      natural : (n : ℕ) → pos 0 ≤ℤ pos n
      natural n = omega (arith, ints)

      positive : (m c : ℤ) → pos 1 ≤ℤ c → c <ℤ m → pos 0 <ℤ m
      positive m c a b = omega (arith, ints)

      least : (l m : ℤ) → pos 0 <ℤ m → m ≤ℤ l → pos 0 ≤ℤ l
      least l m a b = omega (arith, ints)

      correction-is : (c : ℤ) → pos 1 ≤ℤ c → pos (nat_abs c) ≤ℤ c
      correction-is (pos n) a = omega (arith, ints)
      correction-is (negsuc n) a = absurd (omega (arith, ints, a))

      within : (c m : ℤ) (n : ℕ) → pos (nat_abs c) ≤ℤ c → c <ℤ m → n < nat_abs c → pos n ≤ℤ m
      within c m n a b lt = omega (arith, ints)

      most : (f n r : ℤ) → f ≤ℤ (n +ℤ r) → n ≤ℤ pos 640_000 → r ≤ℤ pos 2000 → f ≤ℤ pos 642_000
      most f n r a b c = omega (arith, ints)

  -- ---- what a node that listens has caught

  -- the frame of a row, so late as a file lets it
  record IsCaughtOf (rows : List NodeRow) (node cycle : ℕ) (c : Caught) : Type 0 where
    from : NodeRow
    there : Contains rows from
    key : IsKeySlot x.params c.slot
    delay : ℤ
    short : delay ≤ℤ pos 1_000_000_000
    late : c.late ≡ action_instant x.params from c.slot +ℤ delay
    odd : c.odd_length ≡ x.microtick node cycle

  -- of the offer of one of them
  record IsOfferOf (rows : List NodeRow) (node slot : ℕ) (at : ℤ) : Type 0 where
    from : NodeRow
    there : Contains rows from
    delay : ℤ
    short : delay ≤ℤ pos 1_000_000_000
    late : at ≡ action_instant x.params from slot +ℤ delay

  module _ (node : ℕ) (join : Join) (joins : x.join node ≡ Some join) where
    sent-of : (cycle slot : ℕ) (ch : Channel) (sending : Sending) (from : NodeRow) (offer : Offer) → sent_offer x cycle sending from (listening_row node) slot ch ≡ Some offer
        → offer.arrival ≡ action_instant x.params from slot +ℤ x.delay from.node node ch cycle
    sent-of cycle slot ch sending from offer is = by (arrived_of (x.event cycle from.node node ch) (regular_frame x.params sending slot cycle ch)) is
      where
        by : (o : Option (List ℕ))
            → option_map (λ (bytes : List ℕ). let o : Offer = record { slot = slot; channel = ch; arrival = action_instant x.params from slot +ℤ x.delay from.node node ch cycle; bytes = bytes } in o) o ≡ Some offer
            → offer.arrival ≡ action_instant x.params from slot +ℤ x.delay from.node node ch cycle
        by None e = absurd (cc e)
        by (Some bytes) e =
            let own : Offer = record { slot = slot; channel = ch; arrival = action_instant x.params from slot +ℤ x.delay from.node node ch cycle; bytes = bytes } in
            sym (ap (λ (o : Offer). o.arrival) (some-same own offer e))

    active-of : (cycle slot : ℕ) (rows : List NodeRow) (ch : Channel) (sending : Sending) (offer : Offer) (o : Option NodeRow) → row_of rows sending.node ≡ o
        → active_offer x cycle sending o (listening_row node) slot ch ≡ Some offer → IsOfferOf rows node slot offer.arrival
    active-of cycle slot rows ch sending offer None at is = absurd (cc is)
    active-of cycle slot rows ch sending offer (Some from) at is = by (is_active from.state && is_on x sending.node ch) is
      where
        by : (b : Bool) → (if b then sent_offer x cycle sending from (listening_row node) slot ch else None) ≡ Some offer → IsOfferOf rows node slot offer.arrival
        by false e = absurd (cc e)
        by true e = record {
          from = from;
          there = (found (λ (r : NodeRow). r.node == sending.node) rows from at).1;
          delay = x.delay from.node node ch cycle;
          short = (k.joins node join joins).delays from.node cycle ch;
          late = sent-of cycle slot ch sending from offer e;
        }

    arrival-of : (cycle slot : ℕ) (rows : List NodeRow) (ch : Channel) (at : ℤ) → caught_arrival x cycle rows node slot ch ≡ Some at → IsOfferOf rows node slot at
    unfolding caught_arrival
    arrival-of cycle slot rows ch at is =
        let offer = and_then_some (good_arrival slot) (listener_offer x cycle rows node slot ch) at is in
        let same = good (is_sync_of slot (read_as offer.0.channel offer.0.bytes)) offer.0.arrival at offer.2 in
        subst (IsOfferOf rows node slot) same (by_ear (not (is_on x node ch)) offer.0 offer.1)
      where
        good : (b : Bool) (arrival at : ℤ) → (if b then Some arrival else None) ≡ Some at → arrival ≡ at
        good true arrival at e = some-same arrival at e
        good false arrival at e = absurd (cc e)

        by_other : (sending : Sending) (offer : Offer) (b : Bool) → (if b then None else active_offer x cycle sending (row_of rows sending.node) (listening_row node) slot ch) ≡ Some offer → IsOfferOf rows node slot offer.arrival
        by_other sending offer true e = absurd (cc e)
        by_other sending offer false e = active-of cycle slot rows ch sending offer (row_of rows sending.node) refl e

        by_ear : (b : Bool) (offer : Offer) → (if b then None else option_and_then (sender_offers x cycle rows node slot ch) (sender_of x.params slot cycle)) ≡ Some offer → IsOfferOf rows node slot offer.arrival
        by_ear true offer e = absurd (cc e)
        by_ear false offer e =
            let sending = and_then_some (sender_offers x cycle rows node slot ch) (sender_of x.params slot cycle) offer e in
            by_other sending.0 offer ((sending.0.node == node) || x.is_arbitrary sending.0.node) sending.2

    key-of : (slot : ℕ) → own_key x.params join.reference ≡ Some slot → IsKeySlot x.params slot
    key-of slot is = by (node_of x.params join.reference) refl is
      where
        by : (o : Option NodeSpec) → node_of x.params join.reference ≡ o → key_in o ≡ Some slot → IsKeySlot x.params slot
        by None at e = absurd (cc e)
        by (Some spec) at e = key_slot_there x.params spec slot k.sane (found (λ (n : NodeSpec). n.id == join.reference) x.params.nodes spec at).1 e

    caught-by : (slot : ℕ) (ch : Channel) (even_length odd_length : ℤ) (early late : Option ℤ) (c : Caught) → caught_by slot ch even_length odd_length early late ≡ Some c
        → (late ≡ Some c.late) × (slot ≡ c.slot) × (odd_length ≡ c.odd_length)
    caught-by slot ch even_length odd_length None late c e = absurd (cc e)
    caught-by slot ch even_length odd_length (Some early) None c e = absurd (cc e)
    caught-by slot ch even_length odd_length (Some early) (Some late) c e =
        let own : Caught = record { slot = slot; channel = ch; early = early; late = late; even_length = even_length; odd_length = odd_length } in
        let same : own ≡ c = some-same own c e in
        (ap (λ (d : Caught). Some d.late) same, ap (λ (d : Caught). d.slot) same, ap (λ (d : Caught). d.odd_length) same)

    caught-in : (cycle slot : ℕ) (even odd : Cycle) (ch : Channel) (c : Caught) → own_key x.params join.reference ≡ Some slot → caught_in_run x cycle even odd node slot ch ≡ Some c
        → IsCaughtOf odd.told.rows node (suc cycle) c
    unfolding caught_in_run
    caught-in cycle slot even odd ch c key is =
        let parts =
        caught-by slot ch (x.microtick node cycle) (x.microtick node (suc cycle)) (caught_arrival x cycle even.told.rows node slot ch) (caught_arrival x (suc cycle) odd.told.rows node slot ch) c is
        in
        let offer = arrival-of (suc cycle) slot odd.told.rows ch c.late parts.0 in
        record {
          from = offer.from;
          there = offer.there;
          key = subst (IsKeySlot x.params) parts.1 (key-of slot key);
          delay = offer.delay;
          short = offer.short;
          late = offer.late ∙ ap (λ (n : ℕ). action_instant x.params offer.from n +ℤ offer.delay) parts.1;
          odd = sym parts.2;
        }

    caught-late : (h : Cycles) (even odd : Cycle) (c : Caught) → begins_with x (odd ∷ even ∷ h) node join ≡ Some c → IsCaughtOf odd.told.rows node (suc (length h)) c
    unfolding begins_with
    caught-late h even odd c is = by_test (length h == 2 * join.double) is
      where
        first : (a b : Option Caught) (d : Caught) → first_or a b ≡ Some d → (a ≡ Some d) ⊎ (b ≡ Some d)
        first None b d e = inr e
        first (Some a) b d e = inl e

        kept : (d : Caught) (b : Bool) → (if b then Some d else None) ≡ Some c → d ≡ c
        kept d true e = some-same d c e
        kept d false e = absurd (cc e)

        by_channel : (slot : ℕ) (d : Caught) → own_key x.params join.reference ≡ Some slot
            → (caught_in_run x (length h) even odd node slot channel.A ≡ Some d) ⊎ (caught_in_run x (length h) even odd node slot channel.B ≡ Some d) → IsCaughtOf odd.told.rows node (suc (length h)) d
        by_channel slot d key (inl a) = caught-in (length h) slot even odd channel.A d key a
        by_channel slot d key (inr b) = caught-in (length h) slot even odd channel.B d key b

        by_test : (b : Bool) → (if b then option_and_then (caught_by_slot x (length h) even odd node) (own_key x.params join.reference) else None) ≡ Some c → IsCaughtOf odd.told.rows node (suc (length h)) c
        by_test false e = absurd (cc e)
        by_test true e =
            let slot = and_then_some (caught_by_slot x (length h) even odd node) (own_key x.params join.reference) c e in
            let caught = and_then_some (kept_if x.params) (caught_of x (length h) even odd node slot.0) c slot.2 in
            let same = kept caught.0 (suffices x.params caught.0) caught.2 in
            subst (IsCaughtOf odd.told.rows node (suc (length h))) same
            (by_channel slot.0 caught.0 slot.1 (first (caught_in_run x (length h) even odd node slot.0 channel.A) (caught_in_run x (length h) even odd node slot.0 channel.B) caught.0 caught.1))

  -- ---- starts

  -- the bound of starts grows with the cycles
  bound : ℕ → ℤ
  bound n = pos (2_000_000_000_000 * (n + 1))

  nothing-in : (n : ℕ) → IsBetween (pos 0) (bound n) (pos 0)
  unfolding bound
  nothing-in n = record { low = omega (arith, ints); high = omega (arith, ints) }

  -- where the cycle of a row ends
  next-in : (n : ℕ) (last : NodeRow) → IsBetween (pos 0) (bound n) last.start → IsWithin x.params.rate_limit last.rate → IsWithin x.params.offset_limit last.offset → IsLength last.length
      → IsBetween (pos 0) (bound (suc n)) (next_start_of (grid_for x.params) last)
  unfolding bound
  next-in n last start rate offset long =
      let sum = micros-sum last.rate last.offset rate offset in
      let next = cycle-most last.start x.params.micros last.rate last.offset last.length (pos (2_000_000_000_000 * (n + 1))) start.low start.high sum.0 sum.1 long.low long.high in
      more n (next_start_of (grid_for x.params) last) next
    where
      more : (n : ℕ) (z : ℤ) → IsBetween (pos 0) (pos (2_000_000_000_000 * (n + 1)) +ℤ pos 1_000_000_000_000) z → IsBetween (pos 0) (pos (2_000_000_000_000 * (suc n + 1))) z
      more n z b = let low = b.low in let high = b.high in record { low = low; high = omega (arith, ints, high) }

  -- where a node begins to follow
  first-in : (n node cycle : ℕ) (rows : List NodeRow) (c : Caught) → All (λ row. IsBetween (pos 0) (bound n) row.start) rows → All (λ row. IsWithin x.params.rate_limit row.rate) rows → All (λ row. IsLength row.length) rows
      → suffices x.params c ≡ true → IsCaughtOf rows node cycle c → IsBetween (pos 0) (bound (suc n)) (first_start_of x.params c)
  unfolding bound
  first-in n node cycle rows c starts rates lengths enough w =
      let p : Values = x.params in
      let both = and_parts (int_le (neg_ℤ p.rate_limit) (first_rate_of p c) && int_le (first_rate_of p c) p.rate_limit) (int_le (pos 0) (first_start_of p c)) enough in
      let rate = and_parts (int_le (neg_ℤ p.rate_limit) (first_rate_of p c)) (int_le (first_rate_of p c) p.rate_limit) both.0 in
      let within : IsWithin p.rate_limit (first_rate_of p c) = record { low = le-of (neg_ℤ p.rate_limit) (first_rate_of p c) rate.0; high = le-of (first_rate_of p c) p.rate_limit rate.1 } in
      let ends = slot_end_lt p c.slot k.sane w.key.to in
      let acts = action_point_lt p c.slot k.sane w.key.from in
      let own : NodeRow = record { node = node; start = pos 0; length = pos 0; rate = first_rate_of p c; offset = pos 0; state = Passive; cut = 0 } in
      let position = early-range own (action_point_of p c.slot) within (omega (arith, ends, acts)) in
      let from_start = All-contains (λ (r : NodeRow). IsBetween (pos 0) (pos (2_000_000_000_000 * (n + 1))) r.start) rows w.from starts w.there in
      let from_rate = All-contains (λ (r : NodeRow). IsWithin p.rate_limit r.rate) rows w.from rates w.there in
      let from_length = All-contains (λ (r : NodeRow). IsLength r.length) rows w.from lengths w.there in
      let action = early-range w.from (action_point_of p c.slot) from_rate (omega (arith, ends, acts)) in
      let sent = way-most (early_position p w.from (action_point_of p c.slot)) w.from.length action.1 from_length in
      let long : IsLength c.odd_length = subst IsLength (sym w.odd) (k.lengths node cycle) in
      let can = (can_place p k.sane).early (first_rate_of p c) within in
      let u = compensation_within p c.channel k.sane in
      let left : ℤ = (p.micros +ℤ first_rate_of p c) -ℤ caught_position p c -ℤ compensation_of p c.channel in
      let few = left-most p.micros (first_rate_of p c) (caught_position p c) (compensation_of p c.channel) can.is_grid.micros_to can.rate_to position.0 u.0 in
      let rest = way-most left c.odd_length few long in
      record {
        low = le-of (pos 0) (first_start_of p c) both.1;
        high = whole n w.from.start (early_position p w.from (action_point_of p c.slot) *ℤ w.from.length) w.delay (left *ℤ c.odd_length) c.late w.late from_start.high sent w.short rest;
      }
    where
      le-of : (a b : ℤ) → int_le a b ≡ true → a ≤ℤ b
      le-of a b e = grind (arith, ints, e)

      left-most : (n r f u : ℤ) → n ≤ℤ pos 640_000 → r ≤ℤ pos 2000 → pos 0 ≤ℤ f → pos 0 ≤ℤ u → ((n +ℤ r) -ℤ f -ℤ u) ≤ℤ pos 642_000
      left-most n r f u a b c d = omega (arith, ints)

      way-most : (f l : ℤ) → f ≤ℤ pos 642_000 → IsLength l → (f *ℤ l) ≤ℤ pos 963_000_000_000
      way-most f l few long =
          let one = mulz-lez f (pos 642_000) l few (least l long.low) in
          let two = mulz-lez_left l (pos 1_500_000) (pos 642_000) long.high (omega (arith, ints)) in
          both (f *ℤ l) (pos 642_000 *ℤ l) one two
        where
          least : (l : ℤ) → pos 500_000 ≤ℤ l → pos 0 ≤ℤ l
          least l h = omega (arith, ints)

          both : (a b : ℤ) → a ≤ℤ b → b ≤ℤ pos 963_000_000_000 → a ≤ℤ pos 963_000_000_000
          both a b one two = omega (arith, ints)

      whole : (n : ℕ) (start sent delay rest late : ℤ) → late ≡ (start +ℤ sent) +ℤ delay → start ≤ℤ pos (2_000_000_000_000 * (n + 1)) → sent ≤ℤ pos 963_000_000_000 → delay ≤ℤ pos 1_000_000_000
          → rest ≤ℤ pos 963_000_000_000 → (late +ℤ rest) ≤ℤ pos (2_000_000_000_000 * (suc n + 1))
      whole n start sent delay rest late is a b c d = omega (arith, ints)

  -- what is kept of the cycles up to one
  record Bounded (c : Cycle) (g : Cycles) : Type 0 where
    rows : All (λ row. IsBetween (pos 0) (bound (length g)) row.start) c.told.rows
    followers : All (λ row. IsBetween (pos 0) (bound (length g)) row.start) c.followers

  -- where the next cycle of a node begins
  behind-by : (e : Cycle) (g : Cycles) (n : ℕ) → IsLawful x (e ∷ g) → Bounded e g → (o f : Option NodeRow) → row_of e.told.rows n ≡ o → row_of e.followers n ≡ f
      → IsBetween (pos 0) (bound (suc (length g))) (start_by_rows x (e ∷ g) n o f)
  behind-by e g n lawful before (Some last) f has follows =
      let there = (found (λ (r : NodeRow). r.node == n) e.told.rows last has).1 in
      let rates = rates-in e g lawful in
      next-in (length g) last (All-contains (λ (r : NodeRow). IsBetween (pos 0) (bound (length g)) r.start) e.told.rows last before.rows there)
      (All-contains (λ (r : NodeRow). IsWithin x.params.rate_limit r.rate) e.told.rows last rates.0 there)
      (All-contains (λ (r : NodeRow). IsWithin x.params.offset_limit r.offset) e.told.rows last (offsets-in e g lawful.0.told) there)
      (All-contains (λ (r : NodeRow). IsLength r.length) e.told.rows last (lengths-in e g lawful.0.told) there)
  behind-by e g n lawful before None (Some last) has follows =
      let there = (found (λ (r : NodeRow). r.node == n) e.followers last follows).1 in
      let rates = rates-in e g lawful in
      next-in (length g) last (All-contains (λ (r : NodeRow). IsBetween (pos 0) (bound (length g)) r.start) e.followers last before.followers there)
      (All-contains (λ (r : NodeRow). IsWithin x.params.rate_limit r.rate) e.followers last rates.1 there)
      (All-contains (λ (r : NodeRow). IsWithin x.params.offset_limit r.offset) e.followers last (follower-offsets e g lawful.0.followers) there)
      (All-contains (λ (r : NodeRow). IsLength r.length) e.followers last (follower-lengths e g lawful.0.followers) there)
  behind-by e g n lawful before None None has follows = by_join (x.join n) refl
    where
      by_cycles : (g : Cycles) (join : Join) (c : Caught) → x.join n ≡ Some join → begins_with x (e ∷ g) n join ≡ Some c → IsLawful x (e ∷ g) → Bounded e g
          → IsBetween (pos 0) (bound (suc (length g))) (first_start_of x.params c)
      by_cycles [] join c at is lawful before = absurd (no-begin x e n join c is)
      by_cycles (even ∷ h) join c at is lawful before =
          first-in (suc (length h)) n (suc (length h)) e.told.rows c before.rows (rates-in e (even ∷ h) lawful).0 (lengths-in e (even ∷ h) lawful.0.told)
          (begun_suffices x (e ∷ even ∷ h) n join c is) (caught-late n join at h even e c is)

      by_caught : (join : Join) → x.join n ≡ Some join → (o : Option Caught) → begins_with x (e ∷ g) n join ≡ o → IsBetween (pos 0) (bound (suc (length g))) (caught_start x.params o)
      by_caught join at None is = nothing-in (suc (length g))
      by_caught join at (Some c) is = by_cycles g join c at is lawful before

      by_join : (o : Option Join) → x.join n ≡ o → IsBetween (pos 0) (bound (suc (length g))) (caught_start x.params (begun_by x (e ∷ g) n (x.join n)))
      by_join None at = subst (λ (o : Option Join). IsBetween (pos 0) (bound (suc (length g))) (caught_start x.params (begun_by x (e ∷ g) n o))) (sym at) (nothing-in (suc (length g)))
      by_join (Some join) at =
          subst (λ (o : Option Join). IsBetween (pos 0) (bound (suc (length g))) (caught_start x.params (begun_by x (e ∷ g) n o))) (sym at) (by_caught join at (begins_with x (e ∷ g) n join) refl)

  bounded : (c : Cycle) (g : Cycles) → IsLawful x (c ∷ g) → Bounded c g
  unfolding bound
  bounded c [] lawful = record {
    rows = λ i d lt. subst (IsBetween (pos 0) (pos 2_000_000_000_000)) (sym (lawful.0.told.clocks.starts i d lt)) (early (x.start (get_or c.told.rows i d).node) (k.starts (get_or c.told.rows i d).node));
    followers = λ i d lt. subst (IsBetween (pos 0) (pos 2_000_000_000_000)) (sym (lawful.0.followers.clocks.starts i d lt)) (early (x.start (get_or c.followers i d).node) (k.starts (get_or c.followers i d).node));
  }
    where
      early : (z : ℤ) → IsBetween (pos 0) (pos 1_000_000_000_000) z → IsBetween (pos 0) (pos 2_000_000_000_000) z
      early z b = let low = b.low in let high = b.high in record { low = low; high = omega (arith, ints, high) }
  bounded c (e ∷ g) lawful =
      let before = bounded e g lawful.1 in
      let behind = λ (n : ℕ). behind-by e g n lawful.1 before (row_of e.told.rows n) (row_of e.followers n) refl refl in
      record {
        rows = λ i d lt. subst (IsBetween (pos 0) (bound (suc (length g)))) (sym (lawful.0.told.clocks.starts i d lt)) (behind (get_or c.told.rows i d).node);
        followers = λ i d lt. subst (IsBetween (pos 0) (bound (suc (length g)))) (sym (lawful.0.followers.clocks.starts i d lt)) (behind (get_or c.followers i d).node);
      }

  -- so each row is one of a trace
  rows-in : (c : Cycle) (g : Cycles) → IsLawful x (c ∷ g) → length g < 200_000 → All IsTracedRow (map bare_row c.told.rows)
  unfolding bound
  rows-in c g lawful few =
      let starts = (bounded c g lawful).rows in
      let lengths = lengths-in c g lawful.0.told in
      All-map IsTracedRow bare_row c.told.rows
      (λ i d lt.
      let start = starts i d lt in
      let high = start.high in
      (record { start = record { low = start.low; high = wide (length g) (get_or c.told.rows i d).start few high }; length = lengths i d lt }, refl, early (length g) (get_or c.told.rows i d).start few high))
    where
      wide : (n : ℕ) (z : ℤ) → n < 200_000 → z ≤ℤ pos (2_000_000_000_000 * (n + 1)) → z ≤ℤ pos 1_110_000_000_000_000_000
      wide n z few le = omega (arith, ints)

      early : (n : ℕ) (z : ℤ) → n < 200_000 → z ≤ℤ pos (2_000_000_000_000 * (n + 1)) → z ≤ℤ pos 900_000_000_000_000_000
      early n z few le = omega (arith, ints)

  -- ---- how large a deviation is

  arrives : (cycle : ℕ) (row : NodeRow) (offer : Offer) (value : ℤ) → value_of (answer_of x.params cycle row offer) ≡ Some value
      → (int_lt offer.arrival (slot_begins x.params row offer.slot) ≡ false) × (int_le (slot_ends x.params row offer.slot) offer.arrival ≡ false)
  unfolding answer_of
  arrives cycle row offer value is =
      or_parts (int_lt offer.arrival (slot_begins x.params row offer.slot)) (int_le (slot_ends x.params row offer.slot) offer.arrival)
      (by (int_lt offer.arrival (slot_begins x.params row offer.slot) || int_le (slot_ends x.params row offer.slot) offer.arrival) refl is)
    where
      by : (b : Bool) → (int_lt offer.arrival (slot_begins x.params row offer.slot) || int_le (slot_ends x.params row offer.slot) offer.arrival) ≡ b
          → value_of (if b then Ignored (reason.Outside offer.arrival (slot_begins x.params row offer.slot) (slot_ends x.params row offer.slot)) else answer_by x.params cycle row offer (read_as offer.channel offer.bytes)) ≡ Some value
          → (int_lt offer.arrival (slot_begins x.params row offer.slot) || int_le (slot_ends x.params row offer.slot) offer.arrival) ≡ false
      by true e f = absurd (cc f)
      by false e f = e

  value-range : (cycle : ℕ) (row : NodeRow) (offer : Offer) (value : ℤ) → IsLength row.length → IsWithin x.params.rate_limit row.rate → IsKeySlot x.params offer.slot
      → value_of (answer_of x.params cycle row offer) ≡ Some value → IsWithin (pos 1_000_000) value
  value-range cycle row offer value long rate key is =
      let p : Values = x.params in
      let at = arrives cycle row offer value is in
      let ends = slot_end_lt p offer.slot k.sane key.to in
      let starts = slot_start_lt p offer.slot k.sane key.from in
      let acts = action_point_lt p offer.slot k.sane key.from in
      let first = early-range row (slot_start_of p offer.slot) rate (omega (arith, ends, starts, acts)) in
      let action = early-range row (action_point_of p offer.slot) rate (omega (arith, ends, acts)) in
      let last = early-range row (slot_end_of p offer.slot) rate ends in
      let t : ℤ = row.length in
      let some : pos 0 <ℤ t = positive t long.low in
      let n : ℤ = offer.arrival -ℤ row.start in
      let b : ℤ = early_position p row (slot_start_of p offer.slot) in
      let e : ℤ = early_position p row (slot_end_of p offer.slot) in
      let begun : (b *ℤ t) ≤ℤ n = moved offer.arrival row.start (b *ℤ t) (no-less offer.arrival (row.start +ℤ (b *ℤ t)) at.0) in
      let ended : n <ℤ (e *ℤ t) = before offer.arrival row.start (e *ℤ t) (no-more (row.start +ℤ (e *ℤ t)) offer.arrival at.1) in
      let f : ℤ = floor_of n t in
      let low : b ≤ℤ f = unless f b (λ lt. not-above n t b some begun lt) in
      let high : f ≤ℤ e = unless e f (λ lt. not-below n t e some (less n t (e *ℤ t) ended some) lt) in
      let u = compensation_within p offer.channel k.sane in
      subst (IsWithin (pos 1_000_000)) (sym (stored_value p cycle row offer value is))
      (step f b e (compensation_of p offer.channel) (early_position p row (action_point_of p offer.slot)) low high first.0 last.1 u.0 (compensation-most offer.channel) action.0 action.1)
    where
      positive : (t : ℤ) → pos 500_000 ≤ℤ t → pos 0 <ℤ t
      positive t h = omega (arith, ints)

      no-less : (a b : ℤ) → int_lt a b ≡ false → b ≤ℤ a
      no-less a b e = grind (arith, ints)

      no-more : (a b : ℤ) → int_le a b ≡ false → b <ℤ a
      no-more a b e = grind (arith, ints)

      moved : (a s w : ℤ) → (s +ℤ w) ≤ℤ a → w ≤ℤ (a -ℤ s)
      moved a s w h = omega (arith, ints)

      before : (a s w : ℤ) → a <ℤ (s +ℤ w) → (a -ℤ s) <ℤ w
      before a s w h = omega (arith, ints)

      less : (n t w : ℤ) → n <ℤ w → pos 0 <ℤ t → (n -ℤ t) <ℤ w
      less n t w a b = omega (arith, ints)

      unless : (a b : ℤ) → ((a <ℤ b) → ⊥) → b ≤ℤ a
      unless a b never = by_lt_z a b (λ lt. absurd (never lt)) (λ ge. ge)

      compensation-most : (ch : Channel) → compensation_of x.params ch ≤ℤ pos 200
      compensation-most channel.A = (k.sane.ranges name.pDelayCompensationA).1
      compensation-most channel.B = (k.sane.ranges name.pDelayCompensationB).1

      step : (f b e u a : ℤ) → b ≤ℤ f → f ≤ℤ e → pos 0 ≤ℤ b → e ≤ℤ pos 642_000 → pos 0 ≤ℤ u → u ≤ℤ pos 200 → pos 0 ≤ℤ a → a ≤ℤ pos 642_000 → IsWithin (pos 1_000_000) ((f -ℤ u) -ℤ a)
      step f b e u a h1 h2 h3 h4 h5 h6 h7 h8 = record { low = omega (arith, ints); high = omega (arith, ints) }

  -- ---- the deviations of a cycle

  module _ (g : Cycles) (c : Cycle) (lawful : IsLawful x (c ∷ g)) where
    dev-range : (dev : Dev) → IsHeard x k.sane g c lawful.0.told dev → IsWithin (pos 1_000_000) dev.value
    dev-range dev heard =
        let key = key_slot_there x.params heard.sent.key.sender dev.slot k.sane heard.sent.key.there heard.sent.key.own in
        value-range (length g) (uncorrected heard.row) heard.sent.offer dev.value (All-contains (λ (r : NodeRow). IsLength r.length) c.told.rows heard.row (lengths-in c g lawful.0.told) heard.among)
        (All-contains (λ (r : NodeRow). IsWithin x.params.rate_limit r.rate) c.told.rows heard.row (rates-in c g lawful).0 heard.among)
        (subst (IsKeySlot x.params) (sym heard.sent.slot_is) key) heard.sent.answered

    dev-about : (dev : Dev) → IsHeard x k.sane g c lawful.0.told dev → IsAboutOther x.params dev
    dev-about dev heard = record {
      sender = heard.sent.key.sender;
      key = heard.sent.key.found;
      other = λ same. heard.sent.other (same ∙ heard.receiver);
      common = by heard.sent.by;
    }
      where
        by : IsSaidBy x (length g) (uncorrected heard.row) heard.sent.key.sender dev ⊎ IsSentBy x (length g) (map uncorrected c.told.rows) (uncorrected heard.row) heard.sent.key.sender dev
            → is_common x.params heard.sent.key.sender.id dev.receiver dev.channel ≡ true
        by (inl said) =
            ap (λ (n : ℕ). is_common x.params heard.sent.key.sender.id n dev.channel) heard.receiver
            ∙ k.heard (length g) heard.sent.key.sender.id heard.row.node dev.channel said.shift said.bytes said.arbitrary said.says
        by (inr is) =
            ap (λ (n : ℕ). is_common x.params heard.sent.key.sender.id n dev.channel) heard.receiver
            ∙ (λ i. is.on i && heard.sent.on i)

    same-nodes : map (λ row. row.node) (map bare_row c.told.rows) ≡ map (λ node. node.id) (row_nodes x g)
    same-nodes = map-map (λ (row : NodeRow). row.node) bare_row c.told.rows ∙ lawful.0.told.clocks.nodes

    few-nodes : length (row_nodes x g) ≤ 64
    few-nodes =
        let one = length-filter (λ (n : NodeSpec). has_row x g n.id) (correct_nodes x) in
        let two = length-filter (λ (n : NodeSpec). is_correct x n.id) x.params.nodes in
        let few = k.sane.lists.few_nodes in
        omega (arith, one, two, few)

    -- a correct node that joins has a row by the trace where it has one in the run
    stands : (node : NodeSpec) → Contains (correct_nodes x) node → (o : Option Join) → x.join node.id ≡ o → has_row_by x g node.id o ≡ stands_in o (bare_history (told_of g)) (bare_record c.told) node.id
    stands node there None at = refl
    stands node there (Some join) at = by_test (length g == first_cycle join) refl
      where
        long-is : length (bare_history (told_of g)) ≡ length g
        long-is = long (told_of g) ∙ told_length g

        here : is_some (row_of (map bare_row c.told.rows) node.id) ≡ has_row_by x g node.id (Some join)
        here =
            ap (λ (o : Option NodeRow). is_some o) (bare_row-of c.told.rows node.id) ∙ some-bare (row_of c.told.rows node.id)
            ∙ told_has x g c node (lawful_cycles_run x (c ∷ g) lawful).0 there ∙ ap (has_row_by x g node.id) at

        earlier : (g : Cycles) → IsLawful x g → (length g == first_cycle join) ≡ false
            → has_row_by x g node.id (Some join) ≡ (nat_lt (first_cycle join) (length g) && is_some (row_of (latest_rows (bare_history (told_of g))) node.id))
        earlier [] lawful other = sym (and_right (nat_lt (first_cycle join) 0) false refl)
        earlier (e ∷ g) lawful other =
            let last : is_some (row_of (map bare_row e.told.rows) node.id) ≡ is_some (row_of e.told.rows node.id) =
            ap (λ (o : Option NodeRow). is_some o) (bare_row-of e.told.rows node.id) ∙ some-bare (row_of e.told.rows node.id)
            in
            let well : Bool = followed_well x.params e g (row_of e.followers node.id) in
            let own : has_joined_after x (e ∷ g) node.id join ≡ is_some (row_of e.told.rows node.id) =
            ap (λ (b : Bool). is_some (row_of e.told.rows node.id) || (b && well)) other ∙ or-none (is_some (row_of e.told.rows node.id))
            in
            own
            ∙ by (is_some (row_of e.told.rows node.id)) refl own
            ∙ ap (λ (b : Bool). nat_lt (first_cycle join) (suc (length g)) && b) (sym last)
          where
            by : (b : Bool) → is_some (row_of e.told.rows node.id) ≡ b → has_joined_after x (e ∷ g) node.id join ≡ is_some (row_of e.told.rows node.id)
                → is_some (row_of e.told.rows node.id) ≡ (nat_lt (first_cycle join) (suc (length g)) && is_some (row_of e.told.rows node.id))
            by false is own = is ∙ sym (and_right (nat_lt (first_cycle join) (suc (length g))) (is_some (row_of e.told.rows node.id)) is)
            by true is own =
                let has : has_row x (e ∷ g) node.id ≡ true = ap (has_row_by x (e ∷ g) node.id) at ∙ own ∙ is in
                let from = (stand_in_time x (e ∷ g) node.id join lawful at).row_from has in
                let lt : nat_lt (first_cycle join) (suc (length g)) ≡ true = behind (first_cycle join) (suc (length g)) from other in
                is ∙ sym (and_from (nat_lt (first_cycle join) (suc (length g))) (is_some (row_of e.told.rows node.id)) lt is)
              where
                behind : (a b : ℕ) → a ≤ b → (b == a) ≡ false → nat_lt a b ≡ true
                behind a b le ne = grind (arith, nat_tests, le, ne)

        by_test : (b : Bool) → (length g == first_cycle join) ≡ b → has_row_by x g node.id (Some join) ≡ stands_in (Some join) (bare_history (told_of g)) (bare_record c.told) node.id
        by_test true is =
            sym here
            ∙ sym (ap (λ (n : ℕ). if n == first_cycle join then is_some (row_of (map bare_row c.told.rows) node.id) else nat_lt (first_cycle join) n && is_some (row_of (latest_rows (bare_history (told_of g))) node.id)) long-is
            ∙ ap (λ (b : Bool). if b then is_some (row_of (map bare_row c.told.rows) node.id) else nat_lt (first_cycle join) (length g) && is_some (row_of (latest_rows (bare_history (told_of g))) node.id)) is)
        by_test false is =
            earlier g lawful.1 is
            ∙ sym (ap (λ (n : ℕ). if n == first_cycle join then is_some (row_of (map bare_row c.told.rows) node.id) else nat_lt (first_cycle join) n && is_some (row_of (latest_rows (bare_history (told_of g))) node.id)) long-is
            ∙ ap (λ (b : Bool). if b then is_some (row_of (map bare_row c.told.rows) node.id) else nat_lt (first_cycle join) (length g) && is_some (row_of (latest_rows (bare_history (told_of g))) node.id)) is)

    record-in : length g < 200_000 → IsTracedRecord (bare_record c.told)
    record-in few =
        let rows = length-map (map bare_row c.told.rows) (λ (row : NodeRow). row.node) in
        let ids = length-map (row_nodes x g) (λ (node : NodeSpec). node.id) in
        let same = ap (λ (l : List ℕ). length l) same-nodes in
        let most = few-nodes in
        let order = cycle-order x (length g) c.told.rows lawful.0.told.receptions c.told.devs lawful.0.told.received lawful.0.told.devs (ascending x k.sane g c lawful.0.told) in
        record {
          few = omega (arith, rows, ids, same, most);
          rows_ascend = rows-ascend (row_nodes x g) (map bare_row c.told.rows)
              (AllPairs-filter (λ (a b : NodeSpec). a.id < b.id) _ (correct_nodes x) (AllPairs-filter (λ (a b : NodeSpec). a.id < b.id) _ x.params.nodes k.sane.lists.nodes_ascend)) same-nodes;
          rows_proper = rows-in c g lawful few;
          devs_ascend = order;
          devs_proper = All-weaker (IsHeard x k.sane g c lawful.0.told) (λ dev. IsWithin (pos 1_000_000) dev.value) dev-range c.told.devs (all-heard x k.sane g c lawful.0.told);
          devs_heard = All-weaker (IsHeard x k.sane g c lawful.0.told) (λ dev. Contains (map (λ row. row.node) (map bare_row c.told.rows)) dev.receiver)
              (λ dev heard.
              let there = contains_map (λ (row : NodeRow). row.node) c.told.rows heard.row heard.among in
              subst (λ (n : ℕ). Contains (map (λ row. row.node) (map bare_row c.told.rows)) n) (sym heard.receiver)
              (subst (λ (l : List ℕ). Contains l heard.row.node) (sym (map-map (λ (row : NodeRow). row.node) bare_row c.told.rows)) there)) c.told.devs (all-heard x k.sane g c lawful.0.told);
          uncounted = refl;
        }

    fits-in : (h : Cycles) → FitsRecord x.params (trace_of_run x h) (bare_history (told_of g)) (bare_record c.told)
    fits-in h = record {
      nodes = same-nodes
          ∙ ap (λ (l : List NodeSpec). map (λ node. node.id) l)
          (filter-twice (λ (n : NodeSpec). is_correct x n.id) (λ (n : NodeSpec). has_row x g n.id) x.params.nodes
          ∙ filter-same (λ (n : NodeSpec). is_correct x n.id && has_row x g n.id) (λ (n : NodeSpec). has_row_in (trace_of_run x h) (bare_history (told_of g)) (bare_record c.told) n.id) x.params.nodes
          (All-weaker (Contains x.params.nodes) (λ n. (is_correct x n.id && has_row x g n.id) ≡ has_row_in (trace_of_run x h) (bare_history (told_of g)) (bare_record c.told) n.id) has-same x.params.nodes (All-contains_itself x.params.nodes)));
      rates = All-map (λ row. IsWithin x.params.rate_limit row.rate) bare_row c.told.rows (rates-in c g lawful).0;
      offsets = All-map (λ row. IsWithin x.params.offset_limit row.offset) bare_row c.told.rows (offsets-in c g lawful.0.told);
      devs = All-weaker (IsHeard x k.sane g c lawful.0.told) (IsAboutOther x.params) dev-about c.told.devs (all-heard x k.sane g c lawful.0.told);
    }
      where
        by : (n : NodeSpec) → Contains x.params.nodes n → (b : Bool) → x.is_arbitrary n.id ≡ b
            → (is_correct x n.id && has_row x g n.id) ≡ (is_correct x n.id && stands_in (x.join n.id) (bare_history (told_of g)) (bare_record c.told) n.id)
        by n there true is =
            ap (λ (b : Bool). not b && has_row x g n.id) is ∙ sym (ap (λ (b : Bool). not b && stands_in (x.join n.id) (bare_history (told_of g)) (bare_record c.told) n.id) is)
        by n there false is =
            ap (λ (b : Bool). is_correct x n.id && b) (stands n (kept_filtered (λ (m : NodeSpec). is_correct x m.id) x.params.nodes n there (ap not is)) (x.join n.id) refl)

        has-same : (n : NodeSpec) → Contains x.params.nodes n → (is_correct x n.id && has_row x g n.id) ≡ has_row_in (trace_of_run x h) (bare_history (told_of g)) (bare_record c.told) n.id
        has-same n there =
            let named : is_named (trace_of_run x h) n.id ≡ x.is_arbitrary n.id = named-is x h n k.sane there in
            let joins : join_among (joining_in x) n.id ≡ x.join n.id = join-is x h n k.sane there in
            by n there (x.is_arbitrary n.id) refl ∙ sym (λ i. not (named i) && stands_in (joins i) (bare_history (told_of g)) (bare_record c.told) n.id)

  -- ---- the whole trace

  all-records : (h : Cycles) → IsLawful x h → length h ≤ 200_000 → All IsTracedRecord (bare_history (told_of h))
  all-records [] lawful few = All-nil IsTracedRecord
  all-records (c ∷ g) lawful few =
      All-cons IsTracedRecord (bare_record c.told) (bare_history (told_of g)) (record-in g c lawful (omega (arith, few))) (all-records g lawful.1 (omega (arith, few)))

  all-fit : (whole h : Cycles) → IsLawful x h → HistoryFits x.params (trace_of_run x whole) (bare_history (told_of h))
  unfolding HistoryFits
  all-fit whole [] lawful = tt
  all-fit whole (c ∷ g) lawful = (fits-in g c lawful whole, all-fit whole g lawful.1)

  ids-ascend : (nodes : List NodeSpec) → AllPairs (λ a b. a.id < b.id) nodes → AllPairs (λ a b. a < b) (map (λ (node : NodeSpec). node.id) nodes)
  ids-ascend [] asc = λ i j d lt le. absurd (omega (arith, le))
  ids-ascend (node ∷ nodes) asc =
      AllPairs-cons (λ a b. a < b) node.id (map (λ (n : NodeSpec). n.id) nodes)
      (All-map (λ (m : ℕ). node.id < m) (λ (n : NodeSpec). n.id) nodes (λ i d lt. asc 0 (suc i) d (omega arith) (omega (arith, lt))))
      (ids-ascend nodes (AllPairs-rest (λ (a b : NodeSpec). a.id < b.id) node nodes asc))

  run-trace : (h : Cycles) → IsLawful x h → length h ≡ 2 * x.doubles → IsTrace (trace_of_run x h)
  run-trace h lawful whole =
      let named : List NodeSpec = filter (λ node. x.is_arbitrary node.id) x.params.nodes in
      let ids = length-map named (λ (node : NodeSpec). node.id) in
      let le = length-filter (λ (n : NodeSpec). x.is_arbitrary n.id) x.params.nodes in
      let few = k.sane.lists.few_nodes in
      let to = k.doubles_to in
      let long = length-map (told_of h) bare_record in
      let told = told_length h in
      let joined = joined-few x x.params.nodes in
      record {
        doubles_from = k.doubles_from;
        doubles_to = k.doubles_to;
        whole = long ∙ told ∙ whole;
        arbitrary_few = omega (arith, ids, le, few);
        arbitrary_ascend = ids-ascend named (AllPairs-filter (λ (a b : NodeSpec). a.id < b.id) _ x.params.nodes k.sane.lists.nodes_ascend);
        joins_few = omega (arith, joined, few);
        joins_ascend = joined-ascend x x.params.nodes k.sane.lists.nodes_ascend;
        records = all-records h lawful (omega (arith, whole, to));
      }

  -- a node that joins does so properly by the trace
  proper-join : (h : Cycles) (node : NodeSpec) (join : Join) → Contains x.params.nodes node → x.join node.id ≡ Some join → IsProperJoin x.params (trace_of_run x h) (record { node = node.id; join = join })
  proper-join h node join there at = by (node_of x.params join.reference) refl w.known_reference
    where
      w : JoinsInRange x node.id join
      w = k.joins node.id join at

      by : (o : Option NodeSpec) → node_of x.params join.reference ≡ o → IsSome o → IsProperJoin x.params (trace_of_run x h) (record { node = node.id; join = join })
      by None is some = absurd (cc some)
      by (Some spec) is some =
          let own = found (λ (n : NodeSpec). n.id == join.reference) x.params.nodes spec is in
          let same : spec.id ≡ join.reference = eq-is spec.id join.reference own.0 in
          record {
            known = w.known;
            correct = named-is x h node k.sane there ∙ w.correct;
            known_reference = w.known_reference;
            correct_reference = sym (ap (is_named (trace_of_run x h)) same) ∙ named-is x h spec k.sane own.1 ∙ ap x.is_arbitrary same ∙ w.correct_reference;
            key = w.key;
            other = w.other;
            stays = sym (ap (join_among (joining_in x)) same) ∙ join-is x h spec k.sane own.1 ∙ ap x.join same ∙ w.stays;
            channel = w.channel;
            common = w.common;
            double = w.double;
          }

  run-fits : (h : Cycles) → IsLawful x h → TraceFits x.params (trace_of_run x h)
  run-fits h lawful = record {
    arbitrary = All-map (λ node. IsSome (own_key x.params node)) (λ (node : NodeSpec). node.id) (filter (λ node. x.is_arbitrary node.id) x.params.nodes)
        (All-weaker (Contains (filter (λ node. x.is_arbitrary node.id) x.params.nodes)) (λ n. IsSome (own_key x.params n.id))
        (λ n there.
        let both = filtered (λ (node : NodeSpec). x.is_arbitrary node.id) x.params.nodes n there in
        subst (λ (o : Option NodeSpec). IsSome (key_in o)) (sym (node_there x.params n k.sane both.0)) (k.keyed n both.0 both.1))
        (filter (λ node. x.is_arbitrary node.id) x.params.nodes) (All-contains_itself (filter (λ node. x.is_arbitrary node.id) x.params.nodes)));
    joins = all-joined x (IsProperJoin x.params (trace_of_run x h)) x.params.nodes (proper-join h);
    joins_ascend = joined-ascend x x.params.nodes k.sane.lists.nodes_ascend;
    records = all-fit h h lawful;
  }

pub runs-fit : RunsFit
runs-fit x h k lawful whole = record { trace = run-trace x k h lawful whole; fits = run-fits x k h lawful }

pub runs-are-read-back : RunsAreReadBack
runs-are-read-back x h k lawful whole =
    let fit = runs-fit x h k lawful whole in
    let t : TraceView = trace_in x (told_of h) in
    subst (λ (text : List ℕ). IsReadBack x.params (bare_trace t) text) (texts-bare t) (texts-read-back x.params (bare_trace t) k.sane fit.trace fit.fits)
