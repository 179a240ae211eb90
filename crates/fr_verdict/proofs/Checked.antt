-- The clocks of a trace that passes keep together, whoever joins.
use Rattle.std.proofs.Common.{◌≡◌, ◌⊎◌, ℕ, zero, suc, ◌+◌, ◌*◌, ◌/◌, ◌-◌, ◌<◌, ◌≤◌, Bool, true, false, not, ◌&&◌, pos, Option, Some, None, IsSome, List, [], ◌∷◌, ◌++◌, All, length, map, refl, ap, sym, ◌∙◌, subst, inl, inr, arith}
use Rattle.std.specs.Prelude.{◌≤ℤ◌, Contains, count_by, is_some}
use Rattle.std.specs.Option.{option_map_or}
use Rattle.std.proofs.lemmas.Bool.{and_parts}
use Rattle.std.proofs.lemmas.Int.{ints}
use Rattle.std.proofs.lemmas.List.Kept.{AllPairs-filter}
use Rattle.fr_base.specs.Within.{IsWithin}
use Rattle.fr_base.specs.declared.node_row.NodeRow.{NodeRow}
use Rattle.fr_base.specs.declared.state.Outcome.TheVariants.{Within}
use Rattle.fr_base.specs.declared.state.State.TheVariants.{Active}
use Rattle.fr_bound.specs.Bounds.{precision_of}
use Rattle.fr_bound.specs.Checks.{holds_of, left_of, right_of}
use Rattle.fr_bound.specs.Sync.{IsInSync}
use Rattle.fr_cluster.specs.Sane.{IsSane}
use Rattle.fr_cluster.specs.Setting.{is_correct}
use Rattle.fr_cluster.specs.Values.{Values, amount}
use Rattle.fr_cluster.specs.declared.names.ParamName.TheVariants as name
use Rattle.fr_cluster.specs.declared.nodes.NodeSpec.{NodeSpec}
use Rattle.fr_history.specs.History.{AreRowsOf, History, Record, record_at, row_for, row_of}
use Rattle.fr_runs.proofs.Doubles.{even_length, odd_length}
use Rattle.fr_runs.proofs.Moved.{next_rows_hold}
use Rattle.fr_runs.proofs.Receivers.{no_less}
use Rattle.fr_precision.proofs.RoundLemmas.{contains_map, map_contains}
use Rattle.fr_runs.proofs.Rows.{Ascend, HasRow, all_rows, has_row as row_there, rows_are}
use Rattle.fr_runs.proofs.Spread.{RowsLie, macrotick_within, spread_within}
use Rattle.fr_correct.specs.declared.term.Term.{Term}
use Rattle.fr_coverage.specs.declared.gap.Gap.{Gap}
use Rattle.fr_coverage.specs.declared.gap.Gap.TheVariants as gap
use Rattle.fr_runs.specs.Hearers.{FollowsIn, Hearers, IsOneOf, IsRoundSynced, IsSupplied, group_of, member_from}
use Rattle.fr_runs.proofs.Rounds.{rounds_are_kept_lem}
use Rattle.fr_history.specs.Sync.{IsInSyncAt, is_sync_at}
use Rattle.fr_history.specs.Terms.{offset_term_in, rate_term_in, status_in}
use Rattle.fr_history.proofs.Lists.{map-map}
use Rattle.fr_history.proofs.Synced.{record_at-lt, record_at-some}
use Rattle.fr_runs.specs.Group.{IsGroupKept}
use Rattle.fr_midpoint.specs.Receivers.{AreFew}
use Rattle.fr_precision.specs.Instants.{gap_of}
use Rattle.fr_precision.specs.Step.{IsFollowed, Member}
use Rattle.fr_precision.proofs.OffsetLaws.{third_check_suffices}
use Rattle.fr_precision.specs.Round.{Hearer, senders_of, sync_count}
use Rattle.fr_precision.proofs.Counting.{count_cons, one_if}
use Rattle.fr_cluster.proofs.Elements.{Contains-here, Contains-none, Contains-there, kept_filtered}
use Rattle.fr_bound.specs.Outweighing.{outweighs}
use Rattle.fr_skew.specs.Spreads.{spread_at}
use Rattle.fr_time.specs.Cycles.{odd_cycle}
use Rattle.fr_time.specs.Position.{grid_for}
use Rattle.fr_trace.specs.Fits.{TraceFits}
use Rattle.fr_trace.specs.Items.Item.{Clock}
use Rattle.fr_trace.specs.Lasting.{IsTrace}
use Rattle.fr_trace.specs.Trace.{TraceView, is_named, traced_join_in}
use Rattle.fr_verdict.specs.Answer.{IsSyncedFrom}
use Rattle.fr_verdict.specs.Breach.{IsLawfulTrace, is_first_row}
use Rattle.fr_verdict.specs.Gaps.{IsCoveredTrace, IsTracedCountGap, is_lasting, is_unnamed}
use Rattle.fr_verdict.specs.Precision.{AreTermsWithin, CheckedTracesKeepPrecision, KeepsRecordedClocks}
use Rattle.fr_verdict.specs.Search.{breach_by, is_apart, whenever}
use Rattle.fr_verdict.specs.Sync.{IsFirstSynced, first_synced_of, is_early}
use Rattle.fr_verdict.specs.declared.unlawful.Unlawful.TheVariants as unlawful
use Rattle.fr_verdict.proofs.Heard.{double_within, heard_in, pairs_heard, hearer_in, round_in, sends_in}
use Rattle.fr_verdict.proofs.Items.{Unbroken, row_there as row_item, unbroken}
use Rattle.fr_verdict.proofs.Doubles.{Part, each_record, part_at}
use Rattle.fr_verdict.proofs.Recorded.{prior_of, IsDouble, Passes, Rows, even_at, even_parted, node_two, odd_at, regular_in, rows_in, window}
use Rattle.fr_verdict.proofs.Standing.{AreTwo, Comes, comes_or_stays, has_row, lasting_has, nodes_in, nodes_stay}
use Rattle.fr_verdict.proofs.Syncing.{early_not, is_in_sync_at}
use Rattle.fr_verdict.proofs.Turning.{behind_active, goes_on, late_active, offset_applied, offset_told, rate_told}
use Rattle.fr_precision.proofs.RoundSenders.{few_by_test, few_more as more_are_few}

-- ---- what coverage says of the cluster

pub check_holds : (p : Values) (t : TraceView) (number : ℕ) → IsCoveredTrace p t → 1 ≤ number → number ≤ 5 → holds_of number p ≡ true
check_holds p t number covered from to = by_test (holds_of number p) refl
  where
    by_test : (b : Bool) → holds_of number p ≡ b → b ≡ true
    by_test true holds = refl
    by_test false fails = absurd (covered (gap.Check number (pos (left_of number p)) (pos (right_of number p))) (inl (record { number = number; from = from; to = to; fails = fails; told = refl })))

pub few_nodes : (p : Values) (t : TraceView) → ((g : Gap) → IsTracedCountGap p t g → ⊥) → AreFew (sync_count p (is_lasting t)) (sync_count p (is_named t))
few_nodes p t counts = few_by_test (sync_count p (is_lasting t)) (sync_count p (is_named t)) (by_test (outweighs (sync_count p (is_lasting t)) (sync_count p (is_named t))) refl)
  where
    by_test : (b : Bool) → outweighs (sync_count p (is_lasting t)) (sync_count p (is_named t)) ≡ b → b ≡ true
    by_test true holds = refl
    by_test false fails = absurd (counts (gap.Count (sync_count p (is_lasting t)) (sync_count p (is_named t))) (record { few = fails; told = refl }))

-- where of the nodes of a list each that passes one test passes another, no fewer pass that
count_along : (f g : NodeSpec → Bool) (nodes : List NodeSpec) → ((node : NodeSpec) → Contains nodes node → f node ≡ true → g node ≡ true) → count_by f nodes ≤ count_by g nodes
count_along f g [] implies = omega arith
count_along f g (node ∷ nodes) implies =
    let rest : count_by f nodes ≤ count_by g nodes = count_along f g nodes (λ other among. implies other (Contains-there node nodes other among)) in
    let one : one_if (f node) ≤ one_if (g node) = at_most (f node) (g node) (implies node (Contains-here node nodes)) in
    let a = count_cons f node nodes in
    let b = count_cons g node nodes in
    omega (arith, rest, one, a, b)
  where
    at_most : (a b : Bool) → (a ≡ true → b ≡ true) → one_if a ≤ one_if b
    at_most true b implies = let e : one_if b ≡ 1 = ap one_if (implies refl) in omega (arith, e)
    at_most false b implies = omega arith

-- the nodes that do not join outweigh the arbitrary ones, so those with rows do
pub few_rows : (p : Values) (t : TraceView) (h : History) (even odd : Record) (k : ℕ) → Passes p t → AreFew (sync_count p (is_lasting t)) (sync_count p (is_named t)) → IsDouble t h even odd k
    → AreFew (sync_count p (is_correct (window p t even))) (sync_count p (is_named t))
few_rows p t h even odd k w few d =
    more_are_few (sync_count p (is_lasting t)) (sync_count p (is_correct (window p t even))) (sync_count p (is_named t))
    (count_along (λ node. is_some node.key && is_lasting t node.id) (λ node. is_some node.key && is_correct (window p t even) node.id) p.nodes (λ node there is. counts node there is)) few
  where
    by_not : (b : Bool) → not b ≡ true → b ≡ false
    by_not true e = cc e
    by_not false e = refl

    counts : (node : NodeSpec) → Contains p.nodes node → (is_some node.key && is_lasting t node.id) ≡ true → (is_some node.key && is_correct (window p t even) node.id) ≡ true
    counts node there is =
        let parts : (is_some node.key ≡ true) × (is_lasting t node.id ≡ true) = and_parts (is_some node.key) (is_lasting t node.id) is in
        let lasts : (is_unnamed t node.id ≡ true) × (not (is_some (traced_join_in t node.id)) ≡ true) = and_parts (is_unnamed t node.id) (not (is_some (traced_join_in t node.id))) parts.1 in
        let has : has_row even node.id ≡ true =
        lasting_has p t h even node (rows_in p t h even odd k w d).two.early there (by_not (is_named t node.id) lasts.0) (by_not (is_some (traced_join_in t node.id)) lasts.1) in
        rw (parts.0, has) refl

-- ---- the round of a double cycle in sync is kept

-- a double cycle in sync of a trace that passes, from its first one on
pub record IsSynced (p : Values) (t : TraceView) (h : History) (even odd : Record) (double k : ℕ) : Type 0 where
  pub passes : Passes p t
  pub covered : IsCoveredTrace p t
  pub first : IsFirstSynced p t double
  pub is_double : IsDouble t h even odd k
  pub from : double ≤ k
  pub in_sync : IsInSync p even.rows odd.rows

pub ascend_in : (p : Values) (r : Record) → IsSane p → Ascend (nodes_in p r)
ascend_in p r sane = AllPairs-filter (λ (a : NodeSpec) (b : NodeSpec). a.id < b.id) (λ (n : NodeSpec). has_row r n.id) p.nodes sane.lists.nodes_ascend

hearers : Values → TraceView → Record → Record → Hearers
hearers p t even odd = record { rows = map (hearer_in p t even odd) (nodes_in p even); seconds = []; firsts = [] }

odd_active : (p : Values) (t : TraceView) (h : History) (even odd : Record) (double k : ℕ) (node : NodeSpec) → IsSynced p t h even odd double k → Contains (nodes_in p even) node
    → (row_for odd.rows node.id).state ≡ Active
odd_active p t h even odd double k node s among = late_active p t h even odd k s.passes s.is_double node s.in_sync.active_odd among

supplied : (p : Values) (t : TraceView) (h : History) (even odd : Record) (double k : ℕ) (node : NodeSpec) → IsSynced p t h even odd double k → Contains (nodes_in p even) node
    → IsSupplied (round_in p t even odd) (hearer_in p t even odd node)
supplied p t h even odd double k node s among =
    let w = s.passes in
    let d = s.is_double in
    record {
      regular = regular_in p t h even odd node (node_two p t h even odd k node w d among);
      applied = offset_applied p t h even odd k w d node (odd_active p t h even odd double k node s among) among;
      hears =
          heard_in p t h even odd k node w
          (pairs_heard p t double k (λ g is. s.covered g (inr (inr (inr (inr is))))) s.first s.from (double_within t h even odd k w.trace d)) d among;
    }

rows_in_sync : (p : Values) (t : TraceView) (h : History) (even odd : Record) (double k : ℕ) → IsSynced p t h even odd double k
    → IsInSync p (map (λ (n : Hearer). n.even) (hearers p t even odd).rows) (map (λ (n : Hearer). n.odd) (hearers p t even odd).rows)
unfolding hearers
rows_in_sync p t h even odd double k s =
    let nodes = nodes_in p even in
    let at : NodeSpec → Hearer = hearer_in p t even odd in
    let rows = rows_in p t h even odd k s.passes s.is_double in
    let ascend = ascend_in p even s.passes.sane in
    let evens = map-map (λ (n : Hearer). n.even) at nodes ∙ rows_are nodes even.rows ascend rows.even_rows in
    let odds = map-map (λ (n : Hearer). n.odd) at nodes ∙ rows_are nodes odd.rows ascend rows.odd_rows in
    let Even : List NodeRow → Type 0 = λ rows. IsInSync p rows odd.rows in
    let Odd : List NodeRow → Type 0 = λ rows. IsInSync p (map (λ (n : Hearer). n.even) (map at nodes)) rows in
    subst Odd (sym odds) (subst Even (sym evens) s.in_sync)

round_synced : (p : Values) (t : TraceView) (h : History) (even odd : Record) (double k : ℕ) → IsSynced p t h even odd double k
    → IsRoundSynced (round_in p t even odd) (hearers p t even odd) (pos (precision_of p))
unfolding hearers
round_synced p t h even odd double k s = record {
  round = record {
    sane = w.sane;
    few = few_rows p t h even odd k w (few_nodes p t (λ g is. s.covered g (inr (inl is)))) d;
    regular = λ node there has. regular_in p t h even odd node (node_two p t h even odd k node w d (sends_in p t even node there has));
  };
  first = check_holds p t 1 s.covered (omega arith) (omega arith);
  second = check_holds p t 2 s.covered (omega arith) (omega arith);
  limit = third_check_suffices p (check_holds p t 3 s.covered (omega arith) (omega arith));
  fits = same_number (precision_of p);
  fits_followers = λ n follows. absurd (no_follower n follows);
  supplied = λ n is. each n is;
  among =
      λ node slot sender.
      (at node, contains_map at (nodes_in p even) node (sends_in p t even node sender.there sender.rows), refl, refl);
  in_sync = rows_in_sync p t h even odd double k s;
  seconds_near = λ n among. absurd (Contains-none n among);
  firsts_near = λ n among. absurd (Contains-none n among);
}
  where
    w : Passes p t
    w = s.passes

    d : IsDouble t h even odd k
    d = s.is_double

    at : NodeSpec → Hearer
    at = hearer_in p t even odd

    same_number : (n : ℕ) → pos n ≤ℤ pos n
    same_number n = omega (arith, ints)

    no_follower : (n : Hearer) → FollowsIn (record { rows = map (hearer_in p t even odd) (nodes_in p even); seconds = []; firsts = [] }) n → ⊥
    no_follower n (inl among) = Contains-none n among
    no_follower n (inr among) = Contains-none n among

    each : (n : Hearer) → IsOneOf (record { rows = map (hearer_in p t even odd) (nodes_in p even); seconds = []; firsts = [] }) n → IsSupplied (round_in p t even odd) n
    each n (inl (inl among)) =
        let found = map_contains (hearer_in p t even odd) (nodes_in p even) n among in
        subst (IsSupplied (round_in p t even odd)) found.2 (supplied p t h even odd double k found.0 s found.1)
    each n (inl (inr among)) = absurd (Contains-none n among)
    each n (inr among) = absurd (Contains-none n among)

kept : (p : Values) (t : TraceView) (h : History) (even odd : Record) (double k : ℕ) → IsSynced p t h even odd double k
    → IsGroupKept p (senders_of (round_in p t even odd)) (group_of p (hearers p t even odd)) (pos (precision_of p))
kept p t h even odd double k s = rounds_are_kept_lem (round_in p t even odd) (hearers p t even odd) (pos (precision_of p)) (round_synced p t h even odd double k s)

member_in : Values → TraceView → Record → Record → NodeSpec → Member
member_in p t even odd node = member_from p (hearer_in p t even odd node)

is_member : (p : Values) (t : TraceView) (even odd : Record) (node : NodeSpec) → Contains (nodes_in p even) node → Contains (group_of p (hearers p t even odd)).rows (member_in p t even odd node)
unfolding hearers member_in
is_member p t even odd node among =
    contains_map (member_from p) (map (hearer_in p t even odd) (nodes_in p even)) (hearer_in p t even odd node) (contains_map (hearer_in p t even odd) (nodes_in p even) node among)

-- ---- what it comes to at a node

offset_within : (p : Values) (t : TraceView) (h : History) (even odd : Record) (double k : ℕ) (node : NodeSpec) → IsSynced p t h even odd double k → Contains (nodes_in p even) node
    → (offset_term_in p (even ∷ h) odd.devs (row_for odd.rows node.id).node).outcome ≡ Within
unfolding member_in
offset_within p t h even odd double k node s among =
    ap (λ (term : Term). term.outcome) (offset_told p t h even odd k s.passes s.is_double node among)
    ∙ (kept p t h even odd double k s).uncut (member_in p t even odd node) (inl (inl (is_member p t even odd node among)))

rate_is : (p : Values) (t : TraceView) (h : History) (even odd : Record) (double k : ℕ) (node : NodeSpec) → IsSynced p t h even odd double k → Contains (nodes_in p even) node
    → rate_term_in p (even ∷ h) odd.devs (row_for odd.rows node.id) ≡ (member_in p t even odd node).rate_term
unfolding member_in
rate_is p t h even odd double k node s among = rate_told p t h even odd k s.passes s.is_double node among

rate_within : (p : Values) (t : TraceView) (h : History) (even odd : Record) (double k : ℕ) (node : NodeSpec) → IsSynced p t h even odd double k → Contains (nodes_in p even) node
    → (rate_term_in p (even ∷ h) odd.devs (row_for odd.rows node.id)).outcome ≡ Within
rate_within p t h even odd double k node s among =
    ap (λ (term : Term). term.outcome) (rate_is p t h even odd double k node s among)
    ∙ ((kept p t h even odd double k s).range (member_in p t even odd node) (inl (inl (is_member p t even odd node among)))).uncut

active_behind : (p : Values) (t : TraceView) (h : History) (even odd : Record) (double k : ℕ) (node : NodeSpec) → IsSynced p t h even odd double k → Contains (nodes_in p even) node
    → (status_in p (odd ∷ even ∷ h) node.id).state ≡ Active
active_behind p t h even odd double k node s among =
    behind_active p t h even odd k s.passes s.is_double node s.in_sync.active_even (offset_within p t h even odd double k node s among) (rate_within p t h even odd double k node s among) among

-- ---- how far apart its clocks lie

rows_lie : (p : Values) (t : TraceView) (h : History) (even odd : Record) (double k macrotick : ℕ) → IsSynced p t h even odd double k → macrotick < amount p name.gMacroPerCycle
    → RowsLie p false (pos (precision_of p)) even.rows macrotick × RowsLie p true (pos (precision_of p)) odd.rows macrotick
unfolding member_in
rows_lie p t h even odd double k macrotick s less =
    let bound = pos (precision_of p) in
    let m = pos macrotick in
    let nodes : List NodeSpec = nodes_in p even in
    let rows = rows_in p t h even odd k s.passes s.is_double in
    let ascend = ascend_in p even s.passes.sane in
    let to = macrotick_within p macrotick s.passes.sane less in
    let whole = kept p t h even odd double k s in
    let member = λ (node : NodeSpec) (here : Contains nodes node). is_member p t even odd node here in (
      all_rows nodes even.rows (λ one. All (λ other. IsWithin bound (gap_of p false m one other)) even.rows) ascend rows.even_rows
          (λ one here.
          all_rows nodes even.rows (λ other. IsWithin bound (gap_of p false m (row_for even.rows one.id) other)) ascend rows.even_rows
          (λ other there. whole.precise (member_in p t even odd one) (member_in p t even odd other) m false (member one here) (member other there) (no_less macrotick) to)),
      all_rows nodes odd.rows (λ one. All (λ other. IsWithin bound (gap_of p true m one other)) odd.rows) ascend rows.odd_rows
          (λ one here.
          all_rows nodes odd.rows (λ other. IsWithin bound (gap_of p true m (row_for odd.rows one.id) other)) ascend rows.odd_rows
          (λ other there. whole.precise (member_in p t even odd one) (member_in p t even odd other) m true (member one here) (member other there) (no_less macrotick) to)),
    )

-- ---- the next double cycle, where no node comes

-- a double cycle in sync, and the next one
record IsStep (p : Values) (t : TraceView) (h : History) (even odd even2 odd2 : Record) (double k : ℕ) : Type 0 where
  synced : IsSynced p t h even odd double k
  next : IsDouble t (odd ∷ even ∷ h) even2 odd2 (suc k)

followed : (p : Values) (t : TraceView) (h : History) (even odd even2 odd2 : Record) (double k : ℕ) (node : NodeSpec) → IsStep p t h even odd even2 odd2 double k
    → Contains (nodes_in p even) node → Contains (nodes_in p even2) node → IsFollowed p (member_in p t even odd node) (row_for even2.rows node.id) (row_for odd2.rows node.id)
unfolding member_in
followed p t h even odd even2 odd2 double k node step among among2 =
    let s = step.synced in
    goes_on p t h even odd k s.passes s.is_double node even2 odd2 step.next (odd_active p t h even odd double k node s among) (active_behind p t h even odd double k node s among) among among2

next_where_all_stay : (p : Values) (t : TraceView) (h : History) (even odd even2 odd2 : Record) (double k : ℕ) → IsStep p t h even odd even2 odd2 double k → nodes_in p even2 ≡ nodes_in p even
    → IsInSync p even2.rows odd2.rows
unfolding member_in
next_where_all_stay p t h even odd even2 odd2 double k step stay =
    let s = step.synced in
    let rows = rows_in p t (odd ∷ even ∷ h) even2 odd2 (suc k) s.passes step.next in
    let Are : List NodeRow → List NodeSpec → Type 0 = λ rs specs. AreRowsOf specs rs in
    next_rows_hold p (group_of p (hearers p t even odd)) (nodes_in p even) (member_in p t even odd) even2.rows odd2.rows (ascend_in p even s.passes.sane)
    (subst (Are even2.rows) stay rows.even_rows) (subst (Are odd2.rows) stay rows.odd_rows)
    (λ node among.
    let Among : List NodeSpec → Type 0 = λ specs. Contains specs node in (
      (node_two p t h even odd k node s.passes s.is_double among).has_even.number,
      inl (is_member p t even odd node among),
      followed p t h even odd even2 odd2 double k node step among (subst Among (sym stay) among),
    ))
    (IsInSync p) (kept p t h even odd double k s).next_rows

-- ---- and where one comes

-- the records of a double cycle that is in sync
pub at_double : (p : Values) (t : TraceView) (h : History) (even odd : Record) (k : ℕ) → IsDouble t h even odd k → IsInSyncAt p t.history k → IsInSync p even.rows odd.rows
at_double p t h even odd k d sync =
    let early : ◌≡◌ {A = Option Record} (Some sync.even) (Some even) = sym sync.has_even ∙ even_at t h even odd k d in
    let next : 2 * k + 1 ≡ suc (2 * k) = omega arith in
    let late : ◌≡◌ {A = Option Record} (Some sync.odd) (Some odd) = sym sync.has_odd ∙ ap (record_at t.history) next ∙ odd_at t h even odd k d in
    let even_is : sync.even ≡ even = cc early in
    let odd_is : sync.odd ≡ odd = cc late in
    let Even : Record → Type 0 = λ r. IsInSync p r.rows sync.odd.rows in
    let Odd : Record → Type 0 = λ r. IsInSync p even.rows r.rows in
    subst Odd odd_is (subst Even even_is sync.in_sync)

next_where_one_comes : (p : Values) (t : TraceView) (h : History) (even odd even2 odd2 : Record) (double k : ℕ) → IsStep p t h even odd even2 odd2 double k → Comes p odd even2
    → IsInSync p even2.rows odd2.rows
unfolding breach_by has_row
next_where_one_comes p t h even odd even2 odd2 double k step comes =
    at_double p t after even2 odd2 (suc k) step.next (subst (IsInSyncAt p t.history) half (is_in_sync_at p t.history (length after / 2) sync))
  where
    after : History
    after = odd ∷ even ∷ h

    w : Passes p t
    w = step.synced.passes

    half : length (odd ∷ even ∷ h) / 2 ≡ suc k
    half = let counted = step.next.counted in omega arith

    among : Contains (nodes_in p even2) comes.node
    among = kept_filtered (λ (n : NodeSpec). has_row even2 n.id) p.nodes comes.node comes.there comes.has

    row : NodeRow
    row = row_for even2.rows comes.node.id

    rows : Rows p t (odd ∷ even ∷ h) even2 odd2
    rows = rows_in p t (odd ∷ even ∷ h) even2 odd2 (suc k) w step.next

    here : HasRow even2.rows comes.node.id
    here = row_there (nodes_in p even2) even2.rows comes.node rows.even_rows among

    is_first : is_first_row (odd ∷ even ∷ h) row ≡ true
    is_first = ap (λ n. not (is_some (row_of odd.rows n))) here.number ∙ ap (λ b. not b) comes.had_none

    unbroken_row : Unbroken p t (Clock (odd ∷ even ∷ h) even2 row)
    unbroken_row =
        unbroken p t (step.next.later ++ odd2 ∷ []) (odd ∷ even ∷ h) even2 (Clock (odd ∷ even ∷ h) even2 row) w.lawful (even_parted t (odd ∷ even ∷ h) even2 odd2 (suc k) step.next)
        (row_item (odd ∷ even ∷ h) even2 even2.rows row here.there)

    passed : (b : Bool) (n m : ℕ) → whenever b (unlawful.Apart n m) ≡ None → b ≡ false
    passed true n m e = cc e
    passed false n m e = refl

    not_apart : (is_first_row (odd ∷ even ∷ h) row && is_apart p t (length (odd ∷ even ∷ h) / 2)) ≡ false
    not_apart = passed (is_first_row (odd ∷ even ∷ h) row && is_apart p t (length (odd ∷ even ∷ h) / 2)) unbroken_row.number (length (odd ∷ even ∷ h) / 2) (unbroken_row.none 6 (omega arith))

    early : is_early (first_synced_of p t) (length (odd ∷ even ∷ h) / 2) ≡ false
    early = early_not p t (length (odd ∷ even ∷ h) / 2) double step.synced.first (let from = step.synced.from in omega arith)

    by_tests : (a b c : Bool) → (a && (not b && not c)) ≡ false → a ≡ true → b ≡ false → c ≡ true
    by_tests true false true e one other = refl
    by_tests true false false e one other = sym e
    by_tests true true c e one other = cc other
    by_tests false b c e one other = cc one

    sync : is_sync_at p t.history (length (odd ∷ even ∷ h) / 2) ≡ true
    sync =
        by_tests (is_first_row (odd ∷ even ∷ h) row) (is_early (first_synced_of p t) (length (odd ∷ even ∷ h) / 2)) (is_sync_at p t.history (length (odd ∷ even ∷ h) / 2)) not_apart is_first early

-- ---- so each is in sync

next_in_sync : (p : Values) (t : TraceView) (h : History) (even odd even2 odd2 : Record) (double k : ℕ) → IsStep p t h even odd even2 odd2 double k → IsInSync p even2.rows odd2.rows
next_in_sync p t h even odd even2 odd2 double k step =
    let s = step.synced in
    let before = (rows_in p t h even odd k s.passes s.is_double).two in
    let after = (rows_in p t (odd ∷ even ∷ h) even2 odd2 (suc k) s.passes step.next).two in
    let two : AreTwo p t (even ∷ h) odd even2 = record { early = before.late; late = after.early } in
    elim (comes_or_stays p t (even ∷ h) odd even2 two) [
      | inl comes ↦ next_where_one_comes p t h even odd even2 odd2 double k step comes
      | inr stay ↦ next_where_all_stay p t h even odd even2 odd2 double k step (stay ∙ nodes_stay p t h even odd k before s.is_double.counted)
    ]

splits : (a b : ℕ) → a ≤ suc b → (a ≤ b) ⊎ (a ≡ suc b)
splits a b le = grind arith

in_sync_from : (p : Values) (t : TraceView) (double : ℕ) → Passes p t → IsCoveredTrace p t → IsFirstSynced p t double → (k : ℕ) (h : History) (even odd : Record) → IsDouble t h even odd k → double ≤ k
    → IsInSync p even.rows odd.rows
in_sync_from p t double w covered first zero h even odd d from =
    let same : double ≡ 0 = omega arith in
    at_double p t h even odd 0 d (subst (IsInSyncAt p t.history) same first.synced.in_sync)
in_sync_from p t double w covered first (suc k) [] even odd d from = let counted = d.counted in absurd (omega arith)
in_sync_from p t double w covered first (suc k) (o ∷ []) even odd d from = let counted = d.counted in absurd (omega arith)
in_sync_from p t double w covered first (suc k) (o ∷ e ∷ g) even odd d from = elim (splits double k from) [
  | inr same ↦ at_double p t (o ∷ e ∷ g) even odd (suc k) d (subst (IsInSyncAt p t.history) same first.synced.in_sync)
  | inl less ↦
      let before = prior_of t g e o even odd k d in
      let s : IsSynced p t g e o double k = record { passes = w; covered = covered; first = first; is_double = before; from = less; in_sync = in_sync_from p t double w covered first k g e o before less } in
      next_in_sync p t g e o even odd double k (record { synced = s; next = d })
]

synced_from : (p : Values) (t : TraceView) (double k : ℕ) (h : History) (even odd : Record) → Passes p t → IsCoveredTrace p t → IsFirstSynced p t double → IsDouble t h even odd k → double ≤ k → IsSynced p t h even odd double k
synced_from p t double k h even odd w covered first d from = record { passes = w; covered = covered; first = first; is_double = d; from = from; in_sync = in_sync_from p t double w covered first k h even odd d from }

-- ---- and the whole trace keeps its precision

pub of_part : (t : TraceView) (k : ℕ) (part : Part t.history k) → IsDouble t part.earlier part.even part.odd k
of_part t k part = record { later = part.later; parted = part.parted; counted = part.counted }

synced_at : (p : Values) (t : TraceView) (double : ℕ) → Passes p t → IsCoveredTrace p t → IsFirstSynced p t double → (k : ℕ) → Part t.history k → double ≤ k → IsInSyncAt p t.history k
synced_at p t double w covered first k part from =
    let d : IsDouble t part.earlier part.even part.odd k = of_part t k part in
    let late : 2 * k + 1 ≡ suc (2 * k) = omega arith in
    record {
      even = part.even;
      odd = part.odd;
      has_even = even_at t part.earlier part.even part.odd k d;
      has_odd = ap (record_at t.history) late ∙ odd_at t part.earlier part.even part.odd k d;
      in_sync = in_sync_from p t double w covered first k part.earlier part.even part.odd d from;
    }

abbrev SkewsIn : Values → ℕ → Record → Type 0
SkewsIn p n r = (macrotick : ℕ) → macrotick < amount p name.gMacroPerCycle → spread_at (grid_for p) n r.rows macrotick ≤ℤ pos (precision_of p)

abbrev ActiveIn : ℕ → Record → Type 0
ActiveIn n r = All (λ (row : NodeRow). row.state ≡ Active) r.rows

skews : (p : Values) (t : TraceView) (double : ℕ) → Passes p t → IsCoveredTrace p t → IsFirstSynced p t double → (k : ℕ) (part : Part t.history k) → double ≤ k → SkewsIn p (2 * k) part.even × SkewsIn p (suc (2 * k)) part.odd
skews p t double w covered first k part from =
    let s = synced_from p t double k part.earlier part.even part.odd w covered first (of_part t k part) from in
    let bound = precision_of p in
    let lie = λ (macrotick : ℕ) (less : macrotick < amount p name.gMacroPerCycle). rows_lie p t part.earlier part.even part.odd double k macrotick s less in (
      λ macrotick less. spread_within p (2 * k) (pos bound) part.even.rows macrotick false (even_length (2 * k) k refl) (no_less bound) (lie macrotick less).0,
      λ macrotick less. spread_within p (suc (2 * k)) (pos bound) part.odd.rows macrotick true (odd_length (2 * k) k refl) (no_less bound) (lie macrotick less).1,
    )

pub there_is : {A : Type 0} (o : Option A) → IsSome o → (x : A) × (o ≡ Some x)
there_is None is = absurd (cc)
there_is (Some x) is = (x, refl)

terms_within : (p : Values) (t : TraceView) (double k : ℕ) (h : History) (even odd : Record) → IsSynced p t h even odd double k → All (AreTermsWithin p (even ∷ h) odd) odd.rows
terms_within p t double k h even odd s =
    let rows = rows_in p t h even odd k s.passes s.is_double in
    all_rows (nodes_in p even) odd.rows (AreTermsWithin p (even ∷ h) odd) (ascend_in p even s.passes.sane) rows.odd_rows
    (λ node among. record { offset = offset_within p t h even odd double k node s among; rate = rate_within p t h even odd double k node s among })

-- every node with a row in the last cycle is active behind it
active_after : (p : Values) (t : TraceView) (double : ℕ) → Passes p t → IsCoveredTrace p t → IsFirstSynced p t double → (last : Record) (h : History) → t.history ≡ last ∷ h
    → All (λ row. (status_in p t.history row.node).state ≡ Active) last.rows
active_after p t double w covered first last [] parted = let whole = w.trace.whole in let long = ap (λ (g : History). length g) parted in let some = w.trace.doubles_from in absurd (omega arith)
active_after p t double w covered first last (even ∷ h) parted =
    let whole = w.trace.whole in
    let long = ap (λ (g : History). length g) parted in
    let some = w.trace.doubles_from in
    let lt = record_at-lt t.history (odd_cycle double) first.synced.in_sync.odd first.synced.in_sync.has_odd in
    let k : ℕ = t.doubles - 1 in
    let d : IsDouble t h even last (t.doubles - 1) = record { later = []; parted = parted; counted = omega arith } in
    let s = synced_from p t double (t.doubles - 1) h even last w covered first d (omega arith) in
    let rows = rows_in p t h even last (t.doubles - 1) w d in
    all_rows (nodes_in p even) last.rows (λ row. (status_in p t.history row.node).state ≡ Active) (ascend_in p even w.sane) rows.odd_rows
    (λ node among.
    ap (λ n. (status_in p t.history n).state) (node_two p t h even last (t.doubles - 1) node w d among).has_odd.number
    ∙ ap (λ (g : History). (status_in p g node.id).state) parted
    ∙ active_behind p t h even last double (t.doubles - 1) node s among)

keeps : (p : Values) (t : TraceView) (double : ℕ) → Passes p t → IsCoveredTrace p t → IsFirstSynced p t double → KeepsRecordedClocks p t double
keeps p t double w covered first = record {
  synced = λ k from less. synced_at p t double w covered first k (part_at t.history k less) from;
  skew =
      λ cycle macrotick from less lt.
      let r = there_is (record_at t.history cycle) (record_at-some t.history cycle less) in
      let spread = each_record t.doubles t.history double (SkewsIn p) w.trace.whole (λ k part from within. skews p t double w covered first k part from) cycle r.0 from r.1 macrotick lt in
      let Most : Option Record → Type 0 = λ o. option_map_or (λ s. spread_at (grid_for p) cycle s.rows macrotick) o (pos 0) ≤ℤ pos (precision_of p) in
      subst Most (sym r.1) spread;
  active =
      each_record t.doubles t.history double ActiveIn w.trace.whole
      (λ k part from within.
      let is = in_sync_from p t double w covered first k part.earlier part.even part.odd (of_part t k part) from in
      (is.active_even, is.active_odd));
  within =
      λ k later h even odd from parted counted.
      terms_within p t double k h even odd (synced_from p t double k h even odd w covered first (record { later = later; parted = parted; counted = counted }) from);
  after = λ last h parted. active_after p t double w covered first last h parted;
}

-- a lawful and covered trace
pub passes_covered : (p : Values) (t : TraceView) → IsSane p → IsTrace t → TraceFits p t → IsLawfulTrace p t → IsCoveredTrace p t → Passes p t
passes_covered p t sane trace fits lawful covered = record {
  sane = sane;
  trace = trace;
  fits = fits;
  lawful = lawful;
  lengths = λ g is. covered g (inr (inr (inl is)));
  changes = λ g is. covered g (inr (inr (inr (inl is))));
}

pub checked_traces_keep_precision : CheckedTracesKeepPrecision
checked_traces_keep_precision p t v sane trace fits verdict double is =
    keeps p t double (passes_covered p t sane trace fits verdict.lawful verdict.covered) verdict.covered
    (let Synced : Option ℕ → Type 0 = IsSyncedFrom p t in subst Synced is verdict.synced)
