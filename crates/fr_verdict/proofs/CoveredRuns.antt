-- The trace of a covered run passes, whoever joins.
use Rattle.std.proofs.Common.{◌≡◌, ◌≢◌, ◌⊎◌, inl, inr, ℕ, suc, ◌+◌, ◌*◌, ◌<◌, ◌≤◌, ◌==◌, ℤ, pos, ◌+ℤ◌, ◌-ℤ◌, ◌≤ℤ◌, Bool, true, false, not, ◌&&◌, ◌||◌, List, [], ◌∷◌, ◌++◌, length, Option, Some, None, refl, ap, sym, ◌∙◌, subst, arith, add-one, length-append}
use Rattle.std.specs.Prelude.{All, Contains, IsSome, count_by, filter, int_lt, is_none, is_some, nat_le, nat_lt, option_and_then, if◌then◌else◌}
use Rattle.std.specs.List.{flat_map, list_any}
use Rattle.std.specs.Option.{option_map}
use Rattle.std.proofs.lemmas.Bool.{and_parts, eqb-true, or_parts}
use Rattle.std.proofs.lemmas.Bool.Decides.{nat_tests}
use Rattle.std.proofs.lemmas.Int.{ints}
use Rattle.std.proofs.lemmas.List.Elements.{All-append, All-contains, All-nil}
use Rattle.std.proofs.lemmas.List.Folds.{list_any-append}
use Rattle.fr_base.specs.Rows.{dev_in}
use Rattle.fr_base.specs.Within.{IsWithin}
use Rattle.fr_base.specs.declared.channel.Channel.{Channel}
use Rattle.fr_base.specs.declared.channel.Channel.TheVariants as channel
use Rattle.fr_base.specs.declared.node_row.NodeRow.{NodeRow}
use Rattle.fr_bound.specs.Bounds.{longest_micro, shortest_micro}
use Rattle.fr_cluster.proofs.Elements.{Contains-here, Contains-none, Contains-there, filtered, found, kept_filtered}
use Rattle.fr_cluster.proofs.KeyNodes.{Contains-cons_cases}
use Rattle.fr_cluster.specs.Sane.{IsSane}
use Rattle.fr_cluster.specs.Setting.{Setting, correct_nodes, is_correct}
use Rattle.fr_cluster.specs.Values.{amount}
use Rattle.fr_cluster.specs.declared.join.Join.{Join}
use Rattle.fr_cluster.specs.declared.names.ParamName.TheVariants as name
use Rattle.fr_cluster.specs.declared.nodes.NodeSpec.{NodeSpec}
use Rattle.fr_coverage.specs.Coverage.{has_jumped, is_off}
use Rattle.fr_coverage.specs.declared.gap.Gap.{Gap}
use Rattle.fr_midpoint.specs.Receivers.{AreFew}
use Rattle.fr_bound.specs.Outweighing.{outweighs}
use Rattle.fr_precision.proofs.Counting.{count_cons, one_if}
use Rattle.fr_precision.specs.Round.{sync_count}
use Rattle.fr_time.specs.Cycles.{even_cycle, odd_cycle}
use Rattle.fr_history.proofs.Standing.{stand_in_time}
use Rattle.fr_history.proofs.Synced.{record_at-lt}
use Rattle.fr_history.proofs.Told.{told_length}
use Rattle.fr_history.specs.Cycles.{Cycle, Cycles, cycle_at, told_of}
use Rattle.fr_history.specs.History.{AreRowsOf, History, Record, record_at, row_of}
use Rattle.fr_history.specs.Lawful.{IsLawful, ToldObeys}
use Rattle.fr_history.specs.Standing.{follows, follows_by, row_nodes}
use Rattle.fr_history.specs.Sync.{IsInSyncAt}
use Rattle.fr_history.specs.Unfollowed.{IsUnfollowedSyncAt, RowsAreInSyncAt}
use Rattle.fr_runs.proofs.Covers.{coverage_suffices}
use Rattle.fr_runs.proofs.Exchanged.{on_channel}
use Rattle.fr_runs.proofs.Fed.{lawful_part}
use Rattle.fr_runs.proofs.Nodes.{correct_node, node_there}
use Rattle.fr_runs.proofs.Parts.{double_at, even_is, odd_is, told_at}
use Rattle.fr_runs.proofs.RowsNumbers.{joined_runs_keep_offsets}
use Rattle.fr_runs.proofs.Together.{unfollowed_runs_keep_together}
use Rattle.fr_runs.specs.Links.{IsLinked}
use Rattle.fr_runs.specs.Numbers.{HasRowIn, IsSyncedRun, StoresSyncFrames}
use Rattle.fr_runs.specs.Supplied.{IsCovered, stays_on}
use Rattle.fr_runs.specs.Whole.{KeepsTogether}
use Rattle.fr_trace.specs.Bare.{bare_record, bare_row}
use Rattle.fr_trace.specs.Items.{Item, items_by, items_in}
use Rattle.fr_trace.specs.Items.Item.{Clock, Heard}
use Rattle.fr_trace.specs.Text.{joined_by}
use Rattle.fr_trace.specs.Trace.{TraceView, is_named, row_at}
use Rattle.fr_trace.specs.declared.trace.TracedJoin.{TracedJoin}
use Rattle.fr_verdict.proofs.JoinsTold.{join-is}
use Rattle.fr_verdict.proofs.BareRows.{bare-at, sync-bare}
use Rattle.fr_verdict.proofs.Proper.{node-of-row, proper-runs-break-no-other}
use Rattle.fr_verdict.proofs.Syncing.{is_in_sync_at, to_is_sync_at}
use Rattle.fr_verdict.proofs.Tracing.{bare_row-of, eq-is, item-of, items-all, long, named-is, some-same}
use Rattle.fr_verdict.specs.Breach.{IsBreach}
use Rattle.fr_verdict.specs.CoveredRuns.{AreCyclesOfCovered, CoveredRunsKeepArrivals, CoveredRunsPass}
use Rattle.fr_verdict.specs.Gaps.{IsTraceGap, IsTracedChangeGap, IsTracedCheckGap, IsTracedCountGap, IsTracedLengthGap, IsTracedLinkGap, has_dev, is_heard, is_heard_on, is_lasting, is_unnamed}
use Rattle.fr_verdict.specs.Runs.{KeepsArrivals, trace_of_run}
use Rattle.fr_verdict.specs.Sync.{IsSyncedAt, may_follow}
use Rattle.fr_verdict.specs.declared.unlawful.Unlawful.{Unlawful}

-- ---- who joins, by the trace

covers : ℕ → TracedJoin → Bool
covers double joining = nat_lt joining.join.double double && nat_lt double (joining.join.double + 3)

-- a node that joins is told, so none of them may follow where none is said to
none-covers : (x : Setting) (double : ℕ) (nodes : List NodeSpec) (node : NodeSpec) (join : Join) → list_any (covers double) (flat_map (λ n. joined_by n.id (x.join n.id)) nodes) ≡ false
    → Contains nodes node → x.join node.id ≡ Some join → (nat_lt join.double double && nat_lt double (join.double + 3)) ≡ false
unfolding covers
none-covers x double [] node join none there at = absurd (Contains-none node there)
none-covers x double (n ∷ nodes) node join none there at =
    let own : List TracedJoin = joined_by n.id (x.join n.id) in
    let rest : List TracedJoin = flat_map (λ m. joined_by m.id (x.join m.id)) nodes in
    let parts = or_parts (list_any (covers double) own) (list_any (covers double) rest) (sym (list_any-append (covers double) own rest) ∙ none) in
    by (Contains-cons_cases n nodes node there) parts.0 (none-covers x double nodes node join parts.1)
  where
    by : (n ≡ node) ⊎ Contains nodes node → list_any (covers double) (joined_by n.id (x.join n.id)) ≡ false
        → (Contains nodes node → x.join node.id ≡ Some join → (nat_lt join.double double && nat_lt double (join.double + 3)) ≡ false)
        → (nat_lt join.double double && nat_lt double (join.double + 3)) ≡ false
    by (inl same) mine later =
        let e : list_any (covers double) (joined_by node.id (Some join)) ≡ false =
        sym (ap (λ (o : Option Join). list_any (covers double) (joined_by node.id o)) at) ∙ ap (λ (m : NodeSpec). list_any (covers double) (joined_by m.id (x.join m.id))) (sym same) ∙ mine
        in
        (or_parts (nat_lt join.double double && nat_lt double (join.double + 3)) false e).0
    by (inr there) mine later = later there at

-- ---- where none may follow, none follows

filter-none : {X : Type 0} (q : X → Bool) (xs : List X) → ((x : X) → Contains xs x → q x ≡ false) → filter q xs ≡ []
filter-none q [] none = refl
filter-none {X} q (x ∷ xs) none =
    ap (λ (b : Bool). if b then x ∷ filter q xs else filter q xs) (none x (Contains-here x xs)) ∙ filter-none q xs (λ y there. none y (Contains-there x xs y there))

no-rows : (rows : List NodeRow) → AreRowsOf [] rows → rows ≡ []
no-rows [] are = refl
no-rows (row ∷ rows) are = absurd (cc are)

none-follow : (x : Setting) (h g : Cycles) (c : Cycle) (double : ℕ) → IsLawful x (c ∷ g) → may_follow (trace_of_run x h) double ≡ false → 2 * double ≤ length g → length g ≤ suc (2 * double)
    → c.followers ≡ []
unfolding covers
none-follow x h g c double lawful clear from to =
    no-rows c.followers (subst (λ (nodes : List NodeSpec). AreRowsOf nodes c.followers) (filter-none (λ (node : NodeSpec). follows x g node.id) (correct_nodes x) none) lawful.0.followers.clocks.nodes)
  where
    outside : (d n k : ℕ) → 2 * k ≤ n → n ≤ suc (2 * k) → 2 * d + 2 ≤ n → n ≤ 2 * d + 5 → (nat_lt d k && nat_lt k (d + 3)) ≡ true
    outside d n k a b e f =
        let one : nat_lt d k ≡ true = let lt : d < k = omega (arith, a, b, e, f) in grind (arith, nat_tests, lt) in
        let two : nat_lt k (d + 3) ≡ true = let lt : k < d + 3 = omega (arith, a, b, e, f) in grind (arith, nat_tests, lt) in
        rw (one, two) refl

    none : (node : NodeSpec) → Contains (correct_nodes x) node → follows x g node.id ≡ false
    none node there = by_join (x.join node.id) refl
      where
        by_test : (join : Join) → x.join node.id ≡ Some join → (b : Bool) → follows x g node.id ≡ b → b ≡ false
        by_test join at false is = refl
        by_test join at true is =
            let stands = stand_in_time x g node.id join lawful.1 at in
            let within = outside join.double (length g) double from to (stands.follows_from is) (stands.follows_to is) in
            let among : Contains x.params.nodes node = (filtered (λ (n : NodeSpec). is_correct x n.id) x.params.nodes node there).0 in
            let not_so = none-covers x double x.params.nodes node join clear among at in
            absurd (cc (within, not_so))

        by_join : (o : Option Join) → x.join node.id ≡ o → follows x g node.id ≡ false
        by_join None at = ap (follows_by x g node.id) at
        by_join (Some join) at = by_test join at (follows x g node.id) refl

-- so a double cycle that is in sync by the trace, in which none may follow, is one of the run
told-is : (h : Cycles) (n : ℕ) (c : Cycle) → cycle_at h n ≡ Some c → record_at (told_of h) n ≡ Some c.told
told-is h n c is = told_at h n ∙ ap (option_map (λ (d : Cycle). d.told)) is

pub synced-in-run : (x : Setting) (h : Cycles) (double : ℕ) → IsLawful x h → IsSyncedAt x.params (trace_of_run x h) double → IsUnfollowedSyncAt x.params h double
synced-in-run x h double lawful s =
    let told : IsInSyncAt x.params (told_of h) double = is_in_sync_at x.params (told_of h) double (sym (sync-bare x.params (told_of h) double) ∙ to_is_sync_at x.params (trace_of_run x h).history double s.in_sync) in
    let below = record_at-lt (told_of h) (odd_cycle double) told.odd told.has_odd in
    let whole = told_length h in
    let at = double_at h double (omega (arith, below, whole)) in
    let has_even : cycle_at h (even_cycle double) ≡ Some at.even = even_is h double at.earlier at.even at.odd at.is in
    let has_odd : cycle_at h (odd_cycle double) ≡ Some at.odd = ap (cycle_at h) (add-one (2 * double)) ∙ odd_is h double at.earlier at.even at.odd at.is in
    let even : at.even.told ≡ told.even = some-same at.even.told told.even (sym (told-is h (even_cycle double) at.even has_even) ∙ told.has_even) in
    let odd : at.odd.told ≡ told.odd = some-same at.odd.told told.odd (sym (told-is h (odd_cycle double) at.odd has_odd) ∙ told.has_odd) in
    let here : IsLawful x (at.odd ∷ at.even ∷ at.earlier) = lawful_part x at.is.later (at.odd ∷ at.even ∷ at.earlier) (subst (IsLawful x) at.is.parted lawful) in
    let counted = at.is.counted in
    record {
      synced = record {
        even = at.even;
        odd = at.odd;
        has_even = has_even;
        has_odd = has_odd;
        in_sync = rw (even, odd) told.in_sync;
      };
      none_early = none-follow x h at.earlier at.even double here.1 s.none_follows (omega (arith, counted)) (omega (arith, counted));
      none_late = none-follow x h (at.even ∷ at.earlier) at.odd double here s.none_follows (omega (arith, counted)) (omega (arith, counted));
    }

-- and one of the run is in sync by the trace
pub sync-in-trace : (x : Setting) (h : Cycles) (double : ℕ) → RowsAreInSyncAt x.params h double → IsInSyncAt x.params (trace_of_run x h).history double
sync-in-trace x h double s =
    is_in_sync_at x.params (trace_of_run x h).history double
    (sync-bare x.params (told_of h) double
    ∙ to_is_sync_at x.params (told_of h) double (record {
      even = s.even.told;
      odd = s.odd.told;
      has_even = told-is h (even_cycle double) s.even s.has_even;
      has_odd = told-is h (odd_cycle double) s.odd s.has_odd;
      in_sync = s.in_sync;
    }))

-- ---- cycles, counts and lengths

record Cut (h : Cycles) (n : ℕ) (c : Cycle) : Type 0 where
  later : Cycles
  earlier : Cycles
  parted : h ≡ later ++ c ∷ earlier
  counted : length earlier ≡ n

cut-of : (h : Cycles) (n : ℕ) (c : Cycle) → cycle_at h n ≡ Some c → Cut h n c
unfolding cycle_at
cut-of [] n c is = absurd (cc is)
cut-of (d ∷ h) n c is = by (length h == n) refl is (cut-of h n c)
  where
    by : (b : Bool) → (length h == n) ≡ b → (if b then Some d else cycle_at h n) ≡ Some c → (cycle_at h n ≡ Some c → Cut h n c) → Cut (d ∷ h) n c
    by true here f rest = record { later = []; earlier = h; parted = ap (λ (e : Cycle). e ∷ h) (some-same d c f); counted = eq-is (length h) n here }
    by false other f rest = let cut = rest f in record { later = d ∷ cut.later; earlier = cut.earlier; parted = ap (λ (t : Cycles). d ∷ t) cut.parted; counted = cut.counted }

count-same : (f g : NodeSpec → Bool) (nodes : List NodeSpec) → ((node : NodeSpec) → Contains nodes node → f node ≡ g node) → count_by f nodes ≡ count_by g nodes
count-same f g [] same = refl
count-same f g (node ∷ nodes) same =
    let rest = count-same f g nodes (λ other there. same other (Contains-there node nodes other there)) in
    count_cons f node nodes ∙ (λ i. one_if (same node (Contains-here node nodes) i) + rest i) ∙ sym (count_cons g node nodes)

few-outweigh : (correct arbitrary : ℕ) → AreFew correct arbitrary → outweighs correct arbitrary ≡ true
few-outweigh correct arbitrary (inl few) =
    let enough : nat_le 1 correct ≡ true = let le = few.1 in grind (arith, le) in
    subst (λ (n : ℕ). outweighs correct n ≡ true) (sym few.0) (ap (λ (b : Bool). ((0 == 0) && b) || ((0 == 1) && nat_le 3 correct) || ((0 == 2) && nat_le 6 correct)) enough)
few-outweigh correct arbitrary (inr (inl few)) =
    let enough : nat_le 3 correct ≡ true = let le = few.1 in grind (arith, le) in
    subst (λ (n : ℕ). outweighs correct n ≡ true) (sym few.0) (ap (λ (b : Bool). ((1 == 0) && nat_le 1 correct) || ((1 == 1) && b) || ((1 == 2) && nat_le 6 correct)) enough)
few-outweigh correct arbitrary (inr (inr few)) =
    let enough : nat_le 6 correct ≡ true = let le = few.1 in grind (arith, le) in
    subst (λ (n : ℕ). outweighs correct n ≡ true) (sym few.0) (ap (λ (b : Bool). ((2 == 0) && nat_le 1 correct) || ((2 == 1) && nat_le 3 correct) || ((2 == 2) && b)) enough)

not-off : (least most ticks : ℤ) → least ≤ℤ ticks → ticks ≤ℤ most → (int_lt ticks least || int_lt most ticks) ≡ false
not-off least most ticks from to =
    let low : int_lt ticks least ≡ false = grind (arith, ints, from) in
    let high : int_lt most ticks ≡ false = grind (arith, ints, to) in
    rw (low, high) refl

not-jumped : (bound before ticks : ℤ) → IsWithin bound (ticks -ℤ before) → (int_lt (before +ℤ bound) ticks || int_lt (ticks +ℤ bound) before) ≡ false
not-jumped bound before ticks near =
    let up : ticks ≤ℤ (before +ℤ bound) = let le = near.high in omega (arith, ints, le) in
    let down : before ≤ℤ (ticks +ℤ bound) = let le = near.low in omega (arith, ints, le) in
    let high : int_lt (before +ℤ bound) ticks ≡ false = no-less (before +ℤ bound) ticks up in
    let low : int_lt (ticks +ℤ bound) before ≡ false = no-less (ticks +ℤ bound) before down in
    rw (high, low) refl
  where
    no-less : (a b : ℤ) → b ≤ℤ a → int_lt a b ≡ false
    no-less a b le = grind (arith, ints)

-- ---- the items of a history stand before its end

abbrev IsBefore : ℕ → Item → Type 0
IsBefore n (Clock h r row) = length h < n
IsBefore n (Heard h r dev) = Unit {0}

all-before : (h : History) (n : ℕ) → length h ≤ n → All (IsBefore n) (items_in h)
unfolding items_in
all-before [] n few = All-nil (IsBefore n)
all-before (r ∷ h) n few =
    All-append (IsBefore n) (items_in h) (items_by h r r.rows) (all-before h n (omega (arith, few)))
    (items-all (IsBefore n) h r r.rows (λ k d lt. omega (arith, few)) (λ k d lt. tt))

module _ (x : Setting) (h : Cycles) (w : AreCyclesOfCovered x h) where
  abbrev T : TraceView
  T = trace_of_run x h

  sane : IsSane x.params
  sane = w.stated.covered.sane

  covered : IsCovered x
  covered = coverage_suffices x w.stated.covered

  -- the cycles of the run obey its laws
  lawful-at : (later g : Cycles) (c : Cycle) → h ≡ later ++ c ∷ g → IsLawful x (c ∷ g)
  lawful-at later g c parted = lawful_part x later (c ∷ g) (subst (IsLawful x) parted w.lawful)

  shorter : (later g : Cycles) (c : Cycle) → h ≡ later ++ c ∷ g → length g < 2 * x.doubles
  shorter later g c parted =
      let a = ap (λ (l : Cycles). length l) parted in
      let b = length-append later (c ∷ g) in
      let whole = w.whole in
      omega (arith, a, b, whole)

  -- the row of a node in one of them
  record RunsIn (g : Cycles) (row : NodeRow) : Type 0 where
    node : NodeSpec
    correct : Contains (correct_nodes x) node
    same : row.node ≡ node.id
    lasts : row.length ≡ x.microtick node.id (length g)

  runs-in : (later g : Cycles) (c : Cycle) (row : NodeRow) → h ≡ later ++ c ∷ g → Contains c.told.rows row → RunsIn g row
  runs-in later g c row parted there =
      let told : ToldObeys x g c = (lawful-at later g c parted).0.told in
      let own = node-of-row (row_nodes x g) c.told.rows row told.clocks.nodes there in
      record {
        node = own.node;
        correct = (filtered _ (correct_nodes x) own.node own.there).0;
        same = own.same;
        lasts = All-contains (λ (r : NodeRow). r.length ≡ x.microtick r.node (length g)) c.told.rows row told.clocks.lengths there ∙ ap (λ (n : ℕ). x.microtick n (length g)) own.same;
      }

  -- ---- arrivals

  keeps-arrivals : KeepsArrivals x h
  keeps-arrivals = record {
    micros = λ later g c row parted there.
        let own = runs-in later g c row parted there in
        let lt = shorter later g c parted in
        record {
          least = subst (λ (z : ℤ). pos (shortest_micro x.params) ≤ℤ z) (sym own.lasts) (w.stated.covered.least own.node (length g) own.correct lt);
          most = subst (λ (z : ℤ). z ≤ℤ pos (longest_micro x.params)) (sym own.lasts) (w.stated.covered.most own.node (length g) own.correct lt);
        };
    delays = λ cycle slot sender receiver ch within linked share.
        let whole = w.whole in
        let on = λ (node : NodeSpec) (is : Contains (correct_nodes x) node). on_channel x node ch (node_there x.params node sane (correct_node x node is).there) in
        w.stated.covered.referenced.delays sender receiver slot ch cycle linked.sends linked.hears linked.key linked.other
        (on sender linked.sends ∙ share.by_sender) (on receiver linked.hears ∙ share.by_receiver) (omega (arith, within, whole));
  }

  -- ---- it keeps together behind each double cycle in sync by the trace

  pub kept : (double : ℕ) → IsUnfollowedSyncAt x.params h double → KeepsTogether x h double
  kept double s =
      unfollowed_runs_keep_together x h double (record {
        covered = covered;
        rates = w.stated.rates;
        starts = w.stated.starts;
        lawful = w.lawful;
        whole = w.whole;
        unfollowed = s;
      })

  together : (double : ℕ) → IsSyncedAt x.params T double → KeepsTogether x h double
  together double s = kept double (synced-in-run x h double w.lawful s)

  -- ---- no law is broken

  lawful-trace : (u : Unlawful) → IsBreach x.params T u → ⊥
  lawful-trace u b =
      let apart = proper-runs-break-no-other x h u sane w.lawful keeps-arrivals b in
      let before : length apart.h < length T.history = item-of (IsBefore (length T.history)) (items_in T.history) apart.at.place (Clock apart.h apart.r apart.row) apart.at.found (all-before T.history (length T.history) (omega arith)) in
      let whole = w.whole in
      let same = long (told_of h) in
      let told = told_length h in
      let double = apart.apart.told in
      let there = (together apart.apart.synced apart.apart.first.synced).synced apart.double apart.apart.from (omega (arith, before, whole, same, told, double)) in
      apart.apart.apart (sync-in-trace x h apart.double there)

  -- ---- the rows of the trace

  -- a row of the trace lasts as the run says
  record IsTraced (cycle id : ℕ) (row : NodeRow) : Type 0 where
    node : NodeSpec
    correct : Contains (correct_nodes x) node
    same : node.id ≡ id
    within : cycle < 2 * x.doubles
    lasts : row.length ≡ x.microtick node.id cycle

  traced : (cycle id : ℕ) (row : NodeRow) → row_at T.history cycle id ≡ Some row → IsTraced cycle id row
  unfolding row_at
  traced cycle id row at = by (cycle_at h cycle) refl
    where
      told : row_at T.history cycle id ≡ option_and_then (λ (r : Record). row_of r.rows id) (option_map bare_record (option_map (λ (d : Cycle). d.told) (cycle_at h cycle)))
      told = ap (option_and_then (λ (r : Record). row_of r.rows id)) (bare-at (told_of h) cycle ∙ ap (option_map bare_record) (told_at h cycle))

      by_row : (c : Cycle) → cycle_at h cycle ≡ Some c → (o : Option NodeRow) → row_of c.told.rows id ≡ o → option_map bare_row o ≡ Some row → IsTraced cycle id row
      by_row c here None none e = absurd (cc e)
      by_row c here (Some q) there e =
          let cut = cut-of h cycle c here in
          let is = found (λ (r : NodeRow). r.node == id) c.told.rows q there in
          let own = runs-in cut.later cut.earlier c q cut.parted is.1 in
          let lt = shorter cut.later cut.earlier c cut.parted in
          let counted = cut.counted in
          record {
            node = own.node;
            correct = own.correct;
            same = sym own.same ∙ eqb-true q.node id is.0;
            within = omega (arith, lt, counted);
            lasts = sym (ap (λ (r : NodeRow). r.length) (some-same (bare_row q) row e)) ∙ own.lasts ∙ ap (x.microtick own.node.id) counted;
          }

      by : (o : Option Cycle) → cycle_at h cycle ≡ o → IsTraced cycle id row
      by None none =
          let no = sym (told ∙ ap (λ (o : Option Cycle). option_and_then (λ (r : Record). row_of r.rows id) (option_map bare_record (option_map (λ (d : Cycle). d.told) o))) none) ∙ at in
          absurd (cc no)
      by (Some c) here =
          by_row c here (row_of c.told.rows id) refl
          (sym (bare_row-of c.told.rows id)
          ∙ sym (told ∙ ap (λ (o : Option Cycle). option_and_then (λ (r : Record). row_of r.rows id) (option_map bare_record (option_map (λ (d : Cycle). d.told) o))) here)
          ∙ at)

  -- ---- no gap of checks, of counts, or of clocks

  no-check : (g : Gap) → IsTracedCheckGap x.params g → ⊥
  no-check g is = let holds = w.stated.covered.checks is.number is.from is.to in let fails = is.fails in absurd (cc (holds, fails))

  named : (node : NodeSpec) → Contains x.params.nodes node → is_named T node.id ≡ x.is_arbitrary node.id
  named node there = named-is x h node sane there

  no-count : (g : Gap) → IsTracedCountGap x.params T g → ⊥
  no-count g is =
      let arbitrary : sync_count x.params (is_named T) ≡ sync_count x.params x.is_arbitrary =
      count-same (λ (node : NodeSpec). is_some node.key && is_named T node.id) (λ (node : NodeSpec). is_some node.key && x.is_arbitrary node.id) x.params.nodes
      (λ node there. ap (λ (b : Bool). is_some node.key && b) (named node there))
      in
      let lasting : sync_count x.params (is_lasting T) ≡ sync_count x.params (λ node. is_correct x node && stays_on x node) =
      count-same (λ (node : NodeSpec). is_some node.key && is_lasting T node.id) (λ (node : NodeSpec). is_some node.key && (is_correct x node.id && stays_on x node.id)) x.params.nodes
      (λ node there. λ i. is_some node.key && (not (named node there i) && (ap (λ (o : Option Join). not (is_some o)) (join-is x h node sane there) ∙ not-some (x.join node.id)) i))
      in
      let yes : outweighs (sync_count x.params (is_lasting T)) (sync_count x.params (is_named T)) ≡ true =
      (λ i. outweighs (lasting i) (arbitrary i)) ∙ few-outweigh (sync_count x.params (λ node. is_correct x node && stays_on x node)) (sync_count x.params x.is_arbitrary) w.stated.covered.few
      in
      let no = is.few in
      absurd (cc (yes, no))
    where
      not-some : (o : Option Join) → not (is_some o) ≡ is_none o
      not-some None = refl
      not-some (Some join) = refl

  no-length : (g : Gap) → IsTracedLengthGap x.params T g → ⊥
  no-length g is =
      let own = traced is.cycle is.node.id is.row is.there in
      let fits : is_off x.params is.row.length ≡ false =
      ap (is_off x.params) own.lasts
      ∙ not-off (pos (shortest_micro x.params)) (pos (longest_micro x.params)) (x.microtick own.node.id is.cycle)
      (w.stated.covered.least own.node is.cycle own.correct own.within) (w.stated.covered.most own.node is.cycle own.correct own.within)
      in
      let off = is.off in
      absurd (cc (fits, off))

  no-change : (g : Gap) → IsTracedChangeGap x.params T g → ⊥
  no-change g is =
      let early = traced is.cycle is.node.id is.before is.earlier in
      let late = traced (suc is.cycle) is.node.id is.row is.there in
      let same : early.node.id ≡ late.node.id = early.same ∙ sym late.same in
      let before : is.before.length ≡ x.microtick late.node.id is.cycle = early.lasts ∙ ap (λ (n : ℕ). x.microtick n is.cycle) same in
      let steady : has_jumped x.params is.before.length is.row.length ≡ false =
      (λ i. has_jumped x.params (before i) (late.lasts i))
      ∙ not-jumped (pos (amount x.params name.xChangeBound)) (x.microtick late.node.id is.cycle) (x.microtick late.node.id (suc is.cycle)) (w.stated.covered.changes late.node is.cycle late.correct late.within)
      in
      let jumped = is.jumped in
      absurd (cc (steady, jumped))

  -- ---- and none of links

  -- a node with a recorded row in a cycle of a double cycle in sync has one there in the run
  has-row : (double cycle : ℕ) (c : Cycle) (node : NodeSpec) → Contains (correct_nodes x) node → cycle_at h cycle ≡ Some c → is_some (row_at T.history cycle node.id) ≡ true → HasRowIn x c node
  unfolding row_at
  has-row double cycle c node correct here has = record {
    correct = correct;
    row = some-bare (row_of c.told.rows node.id)
        (sym (ap (λ (o : Option NodeRow). is_some o)
        (ap (option_and_then (λ (r : Record). row_of r.rows node.id)) (bare-at (told_of h) cycle ∙ ap (option_map bare_record) (told-is h cycle c here)) ∙ bare_row-of c.told.rows node.id)) ∙ has);
  }
    where
      some-bare : (o : Option NodeRow) → is_some (option_map bare_row o) ≡ true → is_some o ≡ true
      some-bare None e = e
      some-bare (Some row) e = refl

  -- what is stored of a sender in a cycle is recorded
  recorded : (cycle slot : ℕ) (c : Cycle) (sender receiver : NodeSpec) (ch : Channel) → cycle_at h cycle ≡ Some c → sender.key ≡ Some slot → IsSome (dev_in c.told.devs receiver.id slot ch)
      → has_dev T.history cycle sender receiver ch ≡ true
  recorded cycle slot c sender receiver ch here key stored =
      ap (λ (o : Option Record). is_some (option_and_then (λ (r : Record). option_and_then (λ (s : ℕ). dev_in r.devs receiver.id s ch) sender.key) o)) (bare-at (told_of h) cycle ∙ ap (option_map bare_record) (told-is h cycle c here))
      ∙ ap (λ (o : Option ℕ). is_some (option_and_then (λ (s : ℕ). dev_in c.told.devs receiver.id s ch) o)) key
      ∙ stored

  no-link : (g : Gap) → IsTracedLinkGap x.params T g → ⊥
  no-link g is = by_key is.sender.key refl
    where
      sender : NodeSpec
      sender = is.sender

      receiver : NodeSpec
      receiver = is.receiver

      pair : ((is_some is.sender.key && is_unnamed T is.sender.id && is_unnamed T is.receiver.id) ≡ true) × (not (is.sender.id == is.receiver.id) ≡ true)
      pair = and_parts (is_some is.sender.key && is_unnamed T is.sender.id && is_unnamed T is.receiver.id) (not (is.sender.id == is.receiver.id)) is.pair

      unnamed : ((is_some is.sender.key && is_unnamed T is.sender.id) ≡ true) × (is_unnamed T is.receiver.id ≡ true)
      unnamed = and_parts (is_some is.sender.key && is_unnamed T is.sender.id) (is_unnamed T is.receiver.id) pair.0

      first : (is_some is.sender.key ≡ true) × (is_unnamed T is.sender.id ≡ true)
      first = and_parts (is_some is.sender.key) (is_unnamed T is.sender.id) unnamed.0

      sends : Contains (correct_nodes x) is.sender
      sends = kept_filtered (λ (n : NodeSpec). is_correct x n.id) x.params.nodes is.sender is.sender_there (sym (ap (λ (b : Bool). not b) (named is.sender is.sender_there)) ∙ first.1)

      hears : Contains (correct_nodes x) is.receiver
      hears = kept_filtered (λ (n : NodeSpec). is_correct x n.id) x.params.nodes is.receiver is.receiver_there (sym (ap (λ (b : Bool). not b) (named is.receiver is.receiver_there)) ∙ unnamed.1)

      apart : is.sender.id ≢ is.receiver.id
      apart same = let yes : (is.sender.id == is.receiver.id) ≡ true = grind (arith, nat_tests, same) in let no = pair.1 in cc (yes, no)

      by_channel : (ch : Channel) → is_heard_on T is.sender is.receiver is.double ch ≡ true → is_heard T is.sender is.receiver is.double ≡ true
      by_channel channel.A on = ap (λ (b : Bool). b || is_heard_on T is.sender is.receiver is.double channel.B) on
      by_channel channel.B on = second (is_heard_on T is.sender is.receiver is.double channel.A) (is_heard_on T is.sender is.receiver is.double channel.B) on
        where
          second : (a b : Bool) → b ≡ true → (a || b) ≡ true
          second true b e = refl
          second false b e = e

      by_key : (o : Option ℕ) → is.sender.key ≡ o → ⊥
      by_key None key = let some = first.0 in let none = ap (λ (o : Option ℕ). is_some o) key in cc (some, none)
      by_key (Some slot) key =
          let linked : IsLinked x is.sender is.receiver slot = record { sends = sends; hears = hears; key = key; other = apart } in
          let rows = (together is.synced is.first.synced).synced is.double is.from is.within in
          let whole = w.whole in
          let run : IsSyncedRun x h is.double = record { covered = covered; rates = w.stated.rates; lawful = w.lawful; within = omega (arith, whole); synced = rows } in
          let stored : StoresSyncFrames x rows.even rows.odd is.double = (joined_runs_keep_offsets x h is.double run).stored in
          let carried = covered.links is.sender is.receiver slot is.double linked is.within in
          let from = and_parts (is_some (row_at T.history (2 * is.double) is.sender.id)) (is_some (row_at T.history (suc (2 * is.double)) is.sender.id)) is.sends in
          let at = and_parts (is_some (row_at T.history (2 * is.double) is.receiver.id)) (is_some (row_at T.history (suc (2 * is.double)) is.receiver.id)) is.hears in
          let sender_has = has-row is.double (2 * is.double) rows.even is.sender sends rows.has_even from.0 in
          let receiver_has = has-row is.double (2 * is.double) rows.even is.receiver hears rows.has_even at.0 in
          let late : cycle_at h (suc (2 * is.double)) ≡ Some rows.odd = ap (cycle_at h) (sym (add-one (2 * is.double))) ∙ rows.has_odd in
          let even = recorded (2 * is.double) slot rows.even is.sender is.receiver carried.channel rows.has_even key (stored false is.sender is.receiver slot carried.channel linked sender_has receiver_has carried.share carried.even) in
          let odd = recorded (suc (2 * is.double)) slot rows.odd is.sender is.receiver carried.channel late key (stored true is.sender is.receiver slot carried.channel linked sender_has receiver_has carried.share carried.odd) in
          let on : is_heard_on T is.sender is.receiver is.double carried.channel ≡ true = rw (carried.share.by_sender, carried.share.by_receiver, even, odd) refl in
          let heard = by_channel carried.channel on in
          let broken = is.broken in
          cc (heard, broken)

  covered-trace : (g : Gap) → IsTraceGap x.params T g → ⊥
  covered-trace g (inl is) = no-check g is
  covered-trace g (inr (inl is)) = no-count g is
  covered-trace g (inr (inr (inl is))) = no-length g is
  covered-trace g (inr (inr (inr (inl is)))) = no-change g is
  covered-trace g (inr (inr (inr (inr is)))) = no-link g is

pub covered-runs-keep-arrivals : CoveredRunsKeepArrivals
covered-runs-keep-arrivals x h w = keeps-arrivals x h w

pub covered-runs-pass : CoveredRunsPass
covered-runs-pass x h w = record { lawful = lawful-trace x h w; covered = covered-trace x h w }
