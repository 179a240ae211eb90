-- The worked traces: they are lawful traces of their clusters, and meet what the laws of recorded traces ask for.
use Rattle.std.proofs.Common.{◌≡◌, ◌<◌, ◌≤◌, ℕ, zero, suc, true, false, ℤ, pos, [], ◌∷◌, All, Some, None, refl, sym, ◌∙◌, subst, lit≤, lit<, arith, IsSome}
use Rattle.std.specs.Prelude.{◌≤ℤ◌, ◌-ℤ◌, AllPairs}
use Rattle.std.proofs.lemmas.List.Elements.{All-cons, All-nil}
use Rattle.fr_base.specs.Within.{LieWithin}
use Rattle.fr_base.specs.declared.node_row.NodeRow.{NodeRow}
use Rattle.fr_base.specs.declared.state.State.TheVariants.{Active}
use Rattle.fr_bound.specs.Sync.{cycle_length_of, is_in_sync}
use Rattle.fr_cluster.specs.Questions.{own_key}
use Rattle.fr_cluster.specs.Sane.{IsSane}
use Rattle.fr_coverage.specs.First.{first_in}
use Rattle.fr_history.specs.History.{record_at}
use Rattle.fr_history.specs.Skew.{greatest_skew_of}
use Rattle.fr_precision.proofs.Worked.{two}
use Rattle.fr_skew.specs.Spreads.{spread_at}
use Rattle.fr_skew.specs.Sweep.{greatest_within}
use Rattle.fr_skew.specs.Sync.{are_in_sync_by_even}
use Rattle.fr_skew.specs.declared.peak.Peak.{Peak}
use Rattle.fr_trace.specs.Fits.{HistoryFits, IsProperJoin, TraceFits}
use Rattle.fr_trace.specs.Lasting.{IsTrace, IsTracedRecord}
use Rattle.fr_trace.specs.declared.trace.TracedJoin.{TracedJoin}
use Rattle.fr_verdict.specs.Answer.{IsVerdict}
use Rattle.fr_verdict.specs.FirstGap.{first_gap_of}
use Rattle.fr_verdict.specs.Search.{first_breach_of}
use Rattle.fr_verdict.specs.Sync.{first_synced_of}
use Rattle.fr_verdict.proofs.Answering.{found_verdict}
use Rattle.fr_verdict.proofs.Finding.{none_found_is_lawful}
use Rattle.fr_verdict.proofs.Gaps.{no_gap_found_is_covered}
use Rattle.fr_verdict.proofs.Syncing.{first_synced_is}
use Rattle.fr_verdict.proofs.Worked.{on_traces}
use Rattle.fr_precision.specs.Lengths.{IsAboutCycle}
use Rattle.fr_bound.specs.SharpBounds.{last_of, sharp_near}
use Rattle.fr_bound.specs.SharpChecks.{sharp_holds_of}
use Rattle.fr_bound.specs.SharpSpreads.{sharply_near_in}
use Rattle.fr_precision.specs.SharpSettling.{sharp_spread_after}
use Rattle.fr_promise.specs.SharpTested.{is_in_sharp_sync}
use Rattle.fr_verdict.specs.SharpTraces.{IsRecordedInSharpSync, IsRecordedNear, IsSteadyTrace, PassingTracesComeSharp, TracedChecksHold, TracedWayHolds, TracesKeepSharpPrecision, TracesSettleSharply, recorded_flutter}
use Rattle.fr_promise.proofs.TestedLemmas.{sharp_sync_from, to_sharp_sync}
use Rattle.fr_verdict.proofs.TraceSync.{checked_traces_are_steady}
use Rattle.fr_worked.specs.Traces.{KeepsSharplyBeside, PassesAndComesSharp, SettlesFromFarStarts, coming_cycles, coming_reach, coming_trace, coming_verdict, four_nodes, named_cycle, named_cycles, named_trace, record_told, two_devs, two_nodes, two_rows}
use Rattle.fr_worked.proofs.Sane.{cluster_sane, nodes_from}
use Rattle.fr_worked.proofs.TracesFit.{fitting_record, no_pairs, pairs_if, pairs_pass, traced_records}

two_sane : IsSane two_nodes
unfolding nodes_from
two_sane = cluster_sane false 2 (lit≤ tt) (lit≤ tt)

four_sane : IsSane four_nodes
unfolding nodes_from
four_sane = cluster_sane false 4 (lit≤ tt) (lit≤ tt)

none_join : AllPairs (λ (a b : TracedJoin). a.node < b.node) []
none_join = no_pairs (λ (a b : TracedJoin). a.node < b.node)

-- ---- the trace of two nodes

coming_records : All IsTracedRecord coming_trace.history
unfolding pairs_pass
coming_records = traced_records coming_cycles refl

coming_is_trace : IsTrace coming_trace
coming_is_trace = record {
  doubles_from = lit≤ tt;
  doubles_to = lit≤ tt;
  whole = refl;
  arbitrary_few = lit≤ tt;
  arbitrary_ascend = no_pairs (λ (a b : ℕ). a < b);
  joins_few = lit≤ tt;
  joins_ascend = none_join;
  records = coming_records;
}

coming_fits : TraceFits two_nodes coming_trace
unfolding HistoryFits
coming_fits = record {
  arbitrary = All-nil (λ node. IsSome (own_key two_nodes node));
  joins = All-nil (IsProperJoin two_nodes coming_trace);
  joins_ascend = none_join;
  records = (fitting_record two_nodes coming_trace _ _ refl refl refl, (fitting_record two_nodes coming_trace _ _ refl refl refl, (fitting_record two_nodes coming_trace _ _ refl refl refl, (fitting_record two_nodes coming_trace _ _ refl refl refl, (fitting_record two_nodes coming_trace _ _ refl refl refl, (fitting_record two_nodes coming_trace _ _ refl refl refl, (fitting_record two_nodes coming_trace _ _ refl refl refl, (fitting_record two_nodes coming_trace _ _ refl refl refl, tt))))))));
}

coming_is_lawful : first_breach_of two_nodes coming_trace ≡ None
unfolding on_traces
coming_is_lawful = refl

coming_has_no_gap : first_gap_of two_nodes coming_trace ≡ None
unfolding on_traces is_in_sync first_synced_of first_gap_of first_in
coming_has_no_gap = refl

coming_synced : first_synced_of two_nodes coming_trace ≡ Some 0
unfolding on_traces is_in_sync first_synced_of
coming_synced = refl

abbrev coming_peak : Peak
coming_peak = record { skew = pos 60_000_000; cycle = 0; macrotick = 0 }

coming_skew : greatest_skew_of two_nodes coming_trace.history ≡ Some coming_peak
unfolding on_traces greatest_skew_of greatest_within spread_at
coming_skew = refl

coming_passes : IsVerdict two_nodes coming_trace coming_verdict
coming_passes =
    let found = found_verdict two_nodes coming_trace coming_peak two_sane coming_is_lawful coming_has_no_gap coming_skew in
    subst (IsVerdict two_nodes coming_trace) (λ i. record { synced = coming_synced i; skew = pos 60_000_000; cycle = 0; macrotick = pos 0 }) found

-- it is not in sharp sync at first
coming_apart : IsRecordedInSharpSync false two_nodes (pos 0) coming_trace.history 0 → ⊥
unfolding record_at are_in_sync_by_even
coming_apart sync =
    let even : record_told (two_rows (pos 0) (pos 60_000_000) (pos 0), two_devs (pos 60)) ≡ sync.even = let is = sync.has_even in cc in
    let odd : record_told (two_rows (pos 200_000_000_000) (pos 200_060_000_000) (pos 30), two_devs (pos 60)) ≡ sync.odd = let is = sync.has_odd in cc in
    let passes = to_sharp_sync false two_nodes (recorded_flutter two_nodes) sync.even.rows sync.odd.rows sync.in_sync in
    let told : is_in_sharp_sync false two_nodes (recorded_flutter two_nodes) (two_rows (pos 0) (pos 60_000_000) (pos 0)) (two_rows (pos 200_000_000_000) (pos 200_060_000_000) (pos 30)) ≡ true =
    (λ i. is_in_sharp_sync false two_nodes (recorded_flutter two_nodes) (even i).rows (odd i).rows) ∙ passes in
    let no : is_in_sharp_sync false two_nodes (recorded_flutter two_nodes) (two_rows (pos 0) (pos 60_000_000) (pos 0)) (two_rows (pos 200_000_000_000) (pos 200_060_000_000) (pos 30)) ≡ false = refl in
    absurd (let e = sym no ∙ told in cc)

pub passes_and_comes_sharp : PassingTracesComeSharp → PassesAndComesSharp
unfolding sharp_spread_after
passes_and_comes_sharp passing = record {
  sane = two_sane;
  trace = coming_is_trace;
  fits = coming_fits;
  verdict = coming_passes;
  settled = (refl, refl);
  apart = coming_apart;
  keeps = passing false two_nodes coming_trace coming_verdict 0 2 two_sane coming_is_trace coming_fits refl refl coming_passes refl (refl, refl) (lit< tt);
}

-- ---- from stated numbers

coming_steady : IsSteadyTrace false two_nodes coming_trace 0
coming_steady =
    checked_traces_are_steady false two_nodes coming_trace 0 0 two_sane coming_is_trace coming_fits refl refl (none_found_is_lawful two_nodes coming_trace coming_is_lawful)
    (λ g is. absurd (no_gap_found_is_covered two_nodes coming_trace two_sane coming_has_no_gap g is)) (first_synced_is two_nodes coming_trace 0 coming_synced) (lit≤ tt)

coming_near : IsRecordedNear two_nodes 60_000_000 0 (pos 0) coming_trace.history 0
unfolding record_at
coming_near = record {
  even = record_told (two_rows (pos 0) (pos 60_000_000) (pos 0), two_devs (pos 60));
  odd = record_told (two_rows (pos 200_000_000_000) (pos 200_060_000_000) (pos 30), two_devs (pos 60));
  has_even = refl;
  has_odd = refl;
  active_even = two (λ (row : NodeRow). row.state ≡ Active) _ _ refl refl;
  active_odd = two (λ (row : NodeRow). row.state ≡ Active) _ _ refl refl;
  near = record {
    starts_lie = near (pos 60_000_000) (pos 0) (pos 60_000_000) (record { le = tt }) (record { le = tt }) (record { le = tt }) (record { le = tt });
    lengths_lie = near (pos 0) (pos 200_000_000_000) (pos 200_000_000_000) (record { le = tt }) (record { le = tt }) (record { le = tt }) (record { le = tt });
    about =
        two (λ (row : NodeRow). IsAboutCycle two_nodes (pos 0) (cycle_length_of two_nodes row)) _ _ (record { low = record { le = tt }; high = record { le = tt } })
        (record { low = record { le = tt }; high = record { le = tt } });
  };
}
  where
    near : (bound one other : ℤ) → (one -ℤ one) ≤ℤ bound → (one -ℤ other) ≤ℤ bound → (other -ℤ one) ≤ℤ bound → (other -ℤ other) ≤ℤ bound → LieWithin bound (one ∷ other ∷ [])
    near bound one other a b c d =
        two (λ x. All (λ y. (x -ℤ y) ≤ℤ bound) (one ∷ other ∷ [])) one other (two (λ y. (one -ℤ y) ≤ℤ bound) one other a b) (two (λ y. (other -ℤ y) ≤ℤ bound) one other c d)

-- the lengths are at rest at once, and the starts behind the first double cycle
at_rest : (k : ℕ) → (sharp_spread_after false two_nodes 1_000_000 60_000_000 0 k).lengths ≡ 13_002_198
unfolding sharp_spread_after
at_rest zero = refl
at_rest (suc k) = refl

starts_at_rest : (k : ℕ) → (sharp_spread_after false two_nodes 1_000_000 60_000_000 0 (suc k)).starts ≡ 17_002_798
unfolding sharp_spread_after
starts_at_rest zero = refl
starts_at_rest (suc k) = refl

first_starts : (sharp_spread_after false two_nodes 1_000_000 60_000_000 0 0).starts ≡ 60_000_000
unfolding sharp_spread_after
first_starts = refl

coming_way : TracedWayHolds false two_nodes 60_000_000 0 coming_reach
unfolding last_of
coming_way = record { second = refl; third = refl; fits = fits }
  where
    fits : (k : ℕ) → sharply_near_in two_nodes (sharp_spread_after false two_nodes (recorded_flutter two_nodes) 60_000_000 0 k) ≤ coming_reach
    fits zero = rw (at_rest 0, first_starts) (lit≤ tt)
    fits (suc k) = rw (at_rest (suc k), starts_at_rest k) (lit≤ tt)

pub settles_from_far_starts : TracesSettleSharply → SettlesFromFarStarts
unfolding sharp_spread_after
settles_from_far_starts settle = record {
  steady = coming_steady;
  way = coming_way;
  near = coming_near;
  rest = (refl, refl);
  settles = λ passed less. settle false two_nodes coming_trace 60_000_000 0 coming_reach 0 coming_steady coming_way coming_near passed (omega (arith, less));
}

-- ---- the trace that names node 4

named_records : All IsTracedRecord named_trace.history
unfolding pairs_pass
named_records = traced_records named_cycles refl

one_alone : AllPairs (λ (a b : ℕ). a < b) (4 ∷ [])
unfolding pairs_pass
one_alone = pairs_if (λ (a b : ℕ). a < b) (λ a b. false) (λ a b is. absurd (cc)) (4 ∷ []) refl

named_is_trace : IsTrace named_trace
named_is_trace = record {
  doubles_from = lit≤ tt;
  doubles_to = lit≤ tt;
  whole = refl;
  arbitrary_few = lit≤ tt;
  arbitrary_ascend = one_alone;
  joins_few = lit≤ tt;
  joins_ascend = none_join;
  records = named_records;
}

named_fits : TraceFits four_nodes named_trace
unfolding HistoryFits
named_fits = record {
  arbitrary = All-cons (λ node. IsSome (own_key four_nodes node)) 4 [] refl (All-nil (λ node. IsSome (own_key four_nodes node)));
  joins = All-nil (IsProperJoin four_nodes named_trace);
  joins_ascend = none_join;
  records = (fitting_record four_nodes named_trace _ _ refl refl refl, (fitting_record four_nodes named_trace _ _ refl refl refl, tt));
}

named_is_lawful : first_breach_of four_nodes named_trace ≡ None
unfolding on_traces
named_is_lawful = refl

named_has_no_gap : first_gap_of four_nodes named_trace ≡ None
unfolding on_traces is_in_sync first_synced_of first_gap_of first_in
named_has_no_gap = refl

named_synced : first_synced_of four_nodes named_trace ≡ Some 0
unfolding on_traces is_in_sync first_synced_of
named_synced = refl

named_steady : IsSteadyTrace true four_nodes named_trace 0
named_steady =
    checked_traces_are_steady true four_nodes named_trace 0 0 four_sane named_is_trace named_fits refl tt (none_found_is_lawful four_nodes named_trace named_is_lawful)
    (λ g is. absurd (no_gap_found_is_covered four_nodes named_trace four_sane named_has_no_gap g is)) (first_synced_is four_nodes named_trace 0 named_synced) (lit≤ tt)

named_sync : IsRecordedInSharpSync true four_nodes (pos 0) named_trace.history 0
unfolding record_at are_in_sync_by_even
named_sync = record {
  even = record_told (named_cycle (pos 0));
  odd = record_told (named_cycle (pos 200_000_000_000));
  has_even = refl;
  has_odd = refl;
  in_sync = sharp_sync_from true four_nodes (recorded_flutter four_nodes) _ _ refl;
}

named_first : sharp_holds_of 1 (recorded_flutter four_nodes) (sharp_near true four_nodes (recorded_flutter four_nodes)) four_nodes ≡ true
unfolding last_of
named_first = refl

named_checks : TracedChecksHold true four_nodes
unfolding last_of
named_checks = record { second = refl; third = refl }

pub keeps_sharply_beside : TracesKeepSharpPrecision → KeepsSharplyBeside
keeps_sharply_beside keep = record {
  steady = named_steady;
  first = named_first;
  checks = named_checks;
  synced = named_sync;
  keeps = keep true four_nodes named_trace 0 named_steady named_first named_checks named_sync;
}
