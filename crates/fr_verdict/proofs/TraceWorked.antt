-- The premises of the laws of recorded traces are met by the worked trace of two nodes.
use Rattle.std.proofs.Common.{◌≡◌, ℕ, ◌<◌, true, false, ℤ, pos, negsuc, [], ◌∷◌, All, refl, subst, inl, lit≤, lit<, rules, arith, IsSome}
use Rattle.std.specs.Prelude.{◌≤ℤ◌, ◌-ℤ◌, neg_ℤ, AllPairs, Contains}
use Rattle.std.proofs.lemmas.Int.{ints}
use Rattle.std.proofs.lemmas.List.Elements.{All-cons, All-nil}
use Rattle.std.proofs.lemmas.List.Kept.{AllPairs-cons}
use Rattle.fr_base.specs.Rows.{dev_with, AreAscendingDevs, IsEarlierDev}
use Rattle.fr_base.specs.Within.{IsWithin, LieWithin}
use Rattle.fr_base.specs.declared.channel.Channel.TheVariants.{A}
use Rattle.fr_base.specs.declared.dev.Dev.{Dev}
use Rattle.fr_base.specs.declared.node_row.NodeRow.{NodeRow}
use Rattle.fr_base.specs.declared.state.State.TheVariants.{Active}
use Rattle.fr_bound.specs.Sync.{cycle_length_of}
use Rattle.fr_cluster.specs.Questions.{own_key}
use Rattle.fr_cluster.specs.Sane.{IsSane}
use Rattle.fr_cluster.proofs.Elements.{Contains-here, Contains-there}
use Rattle.fr_history.specs.History.{record_at}
use Rattle.fr_precision.proofs.Worked as step
use Rattle.fr_precision.proofs.Worked.{two}
use Rattle.fr_trace.specs.Fits.{HistoryFits, IsAboutOther, IsProperJoin, TraceFits}
use Rattle.fr_trace.specs.Lasting.{IsTrace, IsTracedRecord, IsTracedRow}
use Rattle.fr_verdict.specs.Worked.{active_row, both_heard, cluster, even_rows, odd_row, odd_rows, record_with, worked}
use Rattle.fr_verdict.proofs.Finding.{none_found_is_lawful}
use Rattle.fr_verdict.proofs.Gaps.{no_gap_found_is_covered}
use Rattle.fr_verdict.proofs.Syncing.{first_synced_is}
use Rattle.fr_verdict.proofs.Worked.{gaps_are_found, worked_is_lawful}
use Rattle.fr_precision.specs.Lengths.{IsAboutCycle}
use Rattle.fr_bound.specs.SharpBounds.{last_of, sharp_near}
use Rattle.fr_bound.specs.SharpChecks.{sharp_holds_of}
use Rattle.fr_verdict.specs.SharpTraces.{recorded_flutter, IsRecordedInSharpSync, IsSteadyTrace, TracedChecksHold}
use Rattle.fr_verdict.specs.WorkedTrace.{WorkedTraceKeepsPrecision, WorkedTraceMeetsPremises}
use Rattle.fr_verdict.proofs.TraceCycles.{traces_keep_sharp_precision}
use Rattle.fr_verdict.proofs.TraceSync.{checked_traces_are_steady}

sane : IsSane cluster
sane = step.is_sane

pair : {X : Type 0} (R : X → X → Type 0) (one other : X) → R one other → AllPairs R (one ∷ other ∷ [])
pair R one other is = AllPairs-cons R one (other ∷ []) (All-cons (R one) other [] is (All-nil (R one))) (AllPairs-cons R other [] (All-nil (R other)) (search rules))

-- ---- it is a trace that fits

-- a number that is compared lies within
within : {bound z : ℤ} → neg_ℤ bound ≤ℤ z → z ≤ℤ bound → IsWithin bound z
within low high = record { low = low; high = high }

devs_ascend : AreAscendingDevs both_heard
devs_ascend = pair IsEarlierDev (dev_with 1 2 A (pos 2)) (dev_with 2 1 A (negsuc 2)) (inl (lit< tt))

record_is : (one other : NodeRow) → one.node ≡ 1 → other.node ≡ 2 → IsTracedRow one → IsTracedRow other → IsTracedRecord (record_with (one ∷ other ∷ []) both_heard)
record_is one other first second here there = record {
  few = lit≤ tt;
  rows_ascend = pair (λ (a b : NodeRow). a.node < b.node) one other (rw (first, second) (lit< tt));
  rows_proper = two IsTracedRow one other here there;
  devs_ascend = devs_ascend;
  devs_proper =
      two (λ (dev : Dev). IsWithin (pos 1_000_000) dev.value) (dev_with 1 2 A (pos 2)) (dev_with 2 1 A (negsuc 2))
      (within (record { le = tt }) (record { le = tt })) (within (record { le = tt }) (record { le = tt }));
  devs_heard =
      two (λ (dev : Dev). Contains (one.node ∷ other.node ∷ []) dev.receiver) (dev_with 1 2 A (pos 2)) (dev_with 2 1 A (negsuc 2))
      (subst (λ (n : ℕ). Contains (one.node ∷ other.node ∷ []) n) first (Contains-here one.node (other.node ∷ [])))
      (subst (λ (n : ℕ). Contains (one.node ∷ other.node ∷ []) n) second (Contains-there one.node (other.node ∷ []) other.node (Contains-here other.node [])));
  uncounted = refl;
}

no-later : (z : ℤ) → z ≤ℤ pos 900_000_000_000_000_000 → z ≤ℤ pos 1_110_000_000_000_000_000
no-later z to = omega (arith, ints, to)

row_is : (row : NodeRow) → pos 0 ≤ℤ row.start → row.start ≤ℤ pos 900_000_000_000_000_000 → row.length ≡ pos 1_000_000 → row.cut ≡ 0 → IsTracedRow row
row_is row from to length cut =
    (record { start = record { low = from; high = no-later row.start to }; length = rw (length) (record { low = record { le = tt }; high = record { le = tt } }) }, cut, to)

is_trace : IsTrace worked
is_trace = record {
  doubles_from = lit≤ tt;
  doubles_to = lit≤ tt;
  whole = refl;
  arbitrary_few = lit≤ tt;
  arbitrary_ascend = search rules;
  joins_few = lit≤ tt;
  joins_ascend = search rules;
  records =
      two IsTracedRecord (record_with (odd_rows odd_row) both_heard) (record_with even_rows both_heard)
      (record_is odd_row (active_row 2 (pos 200_002_500_000) (negsuc 0)) refl refl (row_is odd_row (record { le = tt }) (record { le = tt }) refl refl)
      (row_is (active_row 2 (pos 200_002_500_000) (negsuc 0)) (record { le = tt }) (record { le = tt }) refl refl))
      (record_is (active_row 1 (pos 0) (pos 0)) (active_row 2 (pos 2_500_000) (pos 0)) refl refl (row_is (active_row 1 (pos 0) (pos 0)) (record { le = tt }) (record { le = tt }) refl refl)
      (row_is (active_row 2 (pos 2_500_000) (pos 0)) (record { le = tt }) (record { le = tt }) refl refl));
}

devs_about : All (IsAboutOther cluster) both_heard
devs_about =
    two (IsAboutOther cluster) (dev_with 1 2 A (pos 2)) (dev_with 2 1 A (negsuc 2))
    (record { sender = step.node 2; key = refl; other = λ e. absurd (omega (arith, e)); common = refl })
    (record { sender = step.node 1; key = refl; other = λ e. absurd (omega (arith, e)); common = refl })

fits : TraceFits cluster worked
unfolding HistoryFits
fits = record {
  arbitrary = All-nil (λ node. IsSome (own_key cluster node));
  joins = All-nil (IsProperJoin cluster worked);
  joins_ascend = search rules;
  records = (
    record {
      nodes = refl;
      rates = two (λ (row : NodeRow). IsWithin cluster.rate_limit row.rate) odd_row (active_row 2 (pos 200_002_500_000) (negsuc 0)) (within (record { le = tt }) (record { le = tt })) (within (record { le = tt }) (record { le = tt }));
      offsets = two (λ (row : NodeRow). IsWithin cluster.offset_limit row.offset) odd_row (active_row 2 (pos 200_002_500_000) (negsuc 0)) (within (record { le = tt }) (record { le = tt })) (within (record { le = tt }) (record { le = tt }));
      devs = devs_about;
    },
    (
      record {
        nodes = refl;
        rates = two (λ (row : NodeRow). IsWithin cluster.rate_limit row.rate) (active_row 1 (pos 0) (pos 0)) (active_row 2 (pos 2_500_000) (pos 0)) (within (record { le = tt }) (record { le = tt })) (within (record { le = tt }) (record { le = tt }));
        offsets = two (λ (row : NodeRow). IsWithin cluster.offset_limit row.offset) (active_row 1 (pos 0) (pos 0)) (active_row 2 (pos 2_500_000) (pos 0)) (within (record { le = tt }) (record { le = tt })) (within (record { le = tt }) (record { le = tt }));
        devs = devs_about;
      },
      tt,
    ),
  );
}

-- ---- it is in sharp sync, and the checks hold

in_sync : IsRecordedInSharpSync false cluster (pos 0) worked.history 0
unfolding record_at
in_sync = record {
  even = record_with even_rows both_heard;
  odd = record_with (odd_rows odd_row) both_heard;
  has_even = refl;
  has_odd = refl;
  in_sync = record {
    active_even = two (λ (row : NodeRow). row.state ≡ Active) (active_row 1 (pos 0) (pos 0)) (active_row 2 (pos 2_500_000) (pos 0)) refl refl;
    active_odd = two (λ (row : NodeRow). row.state ≡ Active) odd_row (active_row 2 (pos 200_002_500_000) (negsuc 0)) refl refl;
    rows = record {
      starts_lie =
          near (pos 17_002_798) (pos 0) (pos 2_500_000) (record { le = tt }) (record { le = tt }) (record { le = tt }) (record { le = tt });
      lengths_lie =
          near (pos 13_002_198) (pos 200_000_000_000) (pos 200_000_000_000) (record { le = tt }) (record { le = tt }) (record { le = tt }) (record { le = tt });
      about =
          two (λ (row : NodeRow). IsAboutCycle cluster (pos 0) (cycle_length_of cluster row)) (active_row 1 (pos 0) (pos 0)) (active_row 2 (pos 2_500_000) (pos 0))
          (record { low = record { le = tt }; high = record { le = tt } }) (record { low = record { le = tt }; high = record { le = tt } });
    };
  };
}
  where
    near : (bound one other : ℤ) → (one -ℤ one) ≤ℤ bound → (one -ℤ other) ≤ℤ bound → (other -ℤ one) ≤ℤ bound → (other -ℤ other) ≤ℤ bound → LieWithin bound (one ∷ other ∷ [])
    near bound one other a b c d =
        two (λ x. All (λ y. (x -ℤ y) ≤ℤ bound) (one ∷ other ∷ [])) one other (two (λ y. (one -ℤ y) ≤ℤ bound) one other a b) (two (λ y. (other -ℤ y) ≤ℤ bound) one other c d)

checks : TracedChecksHold false cluster
unfolding last_of
checks = record { second = refl; third = refl }

steady : IsSteadyTrace false cluster worked 0
steady =
    checked_traces_are_steady false cluster worked 0 0 sane is_trace fits refl refl (none_found_is_lawful cluster worked worked_is_lawful.0)
    (λ g is. absurd (no_gap_found_is_covered cluster worked sane gaps_are_found.0 g is)) (first_synced_is cluster worked 0 worked_is_lawful.1) (lit≤ tt)

first_holds : sharp_holds_of 1 (recorded_flutter cluster) (sharp_near false cluster (recorded_flutter cluster)) cluster ≡ true
unfolding last_of
first_holds = refl

pub worked_trace_meets_premises : WorkedTraceMeetsPremises
worked_trace_meets_premises = record { steady = steady; first = first_holds; checks = checks; synced = in_sync }

pub worked_trace_keeps_precision : WorkedTraceKeepsPrecision
worked_trace_keeps_precision =
    let is = worked_trace_meets_premises in
    record {
      keeps = traces_keep_sharp_precision false cluster worked 0 is.steady is.first is.checks is.synced;
      flutter = refl;
      sharper = refl;
      older = refl;
    }
