-- A steady trace in sharp sync keeps the sharper precision in each cycle to its end, where lengths do not walk.
use Rattle.std.proofs.Common.{◌≡◌, ℕ, suc, ◌+◌, ◌-◌, ◌*◌, ◌<◌, ◌≤◌, Bool, true, false, All, Some, ◌∷◌, ◌++◌, length, ℤ, pos, subst, arith}
use Rattle.std.specs.Prelude.{◌≤ℤ◌}
use Rattle.fr_base.specs.declared.node_row.NodeRow.{NodeRow}
use Rattle.fr_base.specs.declared.state.State.TheVariants.{Active}
use Rattle.fr_cluster.specs.Values.{Values, amount}
use Rattle.fr_cluster.specs.declared.names.ParamName.TheVariants as name
use Rattle.fr_history.specs.History.{History, Record, record_at}
use Rattle.fr_history.specs.Skew.{skew_at}
use Rattle.fr_history.proofs.Synced.{record_at-lt, record_at-some}
use Rattle.fr_trace.specs.Trace.{TraceView}
use Rattle.fr_verdict.proofs.Checked.{of_part, there_is}
use Rattle.fr_verdict.proofs.Doubles.{each_record}
use Rattle.fr_verdict.proofs.Recorded.{IsDouble, odd_at}
use Rattle.fr_bound.specs.SharpBounds.{rate_walk, sharp_near, sharp_precision}
use Rattle.fr_bound.specs.SharpChecks.{sharp_holds_of}
use Rattle.fr_precision.specs.SharpRun.{WalkLastsAfter}
use Rattle.fr_verdict.specs.Alike.{AlikeTracesKeepPrecision}
use Rattle.fr_verdict.specs.SharpTraces.{recorded_flutter, IsRecordedInSharpSync, KeepsSharpClocks, RecordsEndWell, RecordsKeepApart, StaysRecordedInSharpSync, TracedChecksHold, TracesKeepSharpPrecision}
use Rattle.fr_precision.proofs.BoundLemmas.{first_check_stops_walk}
use Rattle.fr_precision.proofs.LastingLemmas.{up_to}
use Rattle.fr_precision.proofs.OlderLemmas.{does_not_walk, lasts_on, stays_in_range}
use Rattle.fr_verdict.proofs.TraceAlike.{as_said, IsSteadySaid}
use Rattle.fr_verdict.proofs.TraceSync.{at_double, said_traces_keep}

module _ (beside : Bool) (p : Values) (t : TraceView) (double : ℕ) (s : IsSteadySaid beside p t double)
    (first : sharp_holds_of 1 (recorded_flutter p) (sharp_near beside p (recorded_flutter p)) p ≡ true) (checks : TracedChecksHold beside p) (begins : IsRecordedInSharpSync beside p (pos 0) t.history double) where
  still : rate_walk p (recorded_flutter p) ≤ℤ pos 0
  still = (first_check_stops_walk p (recorded_flutter p) (sharp_near beside p (recorded_flutter p)) s.steady.sane).0 first

  lasts : (passed : ℕ) → WalkLastsAfter p (recorded_flutter p) passed
  lasts passed = lasts_on p (recorded_flutter p) passed (does_not_walk p (recorded_flutter p) still)

  stays : (k : ℕ) → double ≤ k → k < t.doubles → StaysRecordedInSharpSync beside p t double (k - double)
  stays k from within = said_traces_keep beside p t double s checks begins (k - double) (omega (arith, from, within))

  synced_at : (k : ℕ) → double ≤ k → k < t.doubles → IsRecordedInSharpSync beside p (pos 0) t.history k
  synced_at k from within =
      let same : double + (k - double) ≡ k = omega (arith, from) in
      let At : ℕ → Type 0 = λ m. IsRecordedInSharpSync beside p (pos 0) t.history m in
      let Beyond : ℤ → Type 0 = λ beyond. IsRecordedInSharpSync beside p beyond t.history (double + (k - double)) in
      subst At same (subst Beyond (stays_in_range p (recorded_flutter p) (k - double) still) ((stays k from within).synced (up_to p (recorded_flutter p) (k - double) (lasts (k - double)))))

  keeps_at : (k : ℕ) → double ≤ k → k < t.doubles → RecordsKeepApart p t k (sharp_precision beside p (recorded_flutter p))
  keeps_at k from within =
      let same : double + (k - double) ≡ k = omega (arith, from) in
      let At : ℕ → Type 0 = λ m. RecordsKeepApart p t m (sharp_precision beside p (recorded_flutter p)) in
      subst At same ((stays k from within).keeps (lasts (k - double)))

  Near : ℕ → Record → Type 0
  Near n r = (macrotick : ℕ) → macrotick < amount p name.gMacroPerCycle → skew_at p t.history n macrotick ≤ℤ pos (sharp_precision beside p (recorded_flutter p))

  Active_in : ℕ → Record → Type 0
  Active_in n r = All (λ (row : NodeRow). row.state ≡ Active) r.rows

  skew_in : (cycle macrotick : ℕ) → 2 * double ≤ cycle → cycle < length t.history → macrotick < amount p name.gMacroPerCycle
      → skew_at p t.history cycle macrotick ≤ℤ pos (sharp_precision beside p (recorded_flutter p))
  unfolding Near
  skew_in cycle macrotick from less lt =
      let r = there_is (record_at t.history cycle) (record_at-some t.history cycle less) in
      each_record t.doubles t.history double Near s.steady.trace.whole
      (λ k part after within. (λ m below. (keeps_at k after within).skew m false below, λ m below. (keeps_at k after within).skew m true below)) cycle r.0 from r.1 macrotick lt

  active_in : (cycle : ℕ) (r : Record) → 2 * double ≤ cycle → record_at t.history cycle ≡ Some r → All (λ row. row.state ≡ Active) r.rows
  unfolding Active_in
  active_in =
      each_record t.doubles t.history double Active_in s.steady.trace.whole
      (λ k part after within.
      let is = at_double beside p t k (pos 0) part.earlier part.even part.odd (of_part t k part) (synced_at k after within) in
      (is.active_even, is.active_odd))

  ends_in : (k : ℕ) (later h : History) (even odd : Record) → double ≤ k → t.history ≡ later ++ odd ∷ even ∷ h → length h ≡ 2 * k → RecordsEndWell p h even odd
  ends_in k later h even odd from parted counted =
      let d : IsDouble t h even odd k = record { later = later; parted = parted; counted = counted } in
      let lt = record_at-lt t.history (suc (2 * k)) odd (odd_at t h even odd k d) in
      let whole = s.steady.trace.whole in
      (keeps_at k from (omega (arith, lt, whole))).ends later h even odd parted counted

pub said_traces_keep_precision : (beside : Bool) (p : Values) (t : TraceView) (double : ℕ) → IsSteadySaid beside p t double
    → sharp_holds_of 1 (recorded_flutter p) (sharp_near beside p (recorded_flutter p)) p ≡ true → TracedChecksHold beside p → IsRecordedInSharpSync beside p (pos 0) t.history double → KeepsSharpClocks beside p t double
said_traces_keep_precision beside p t double s first checks begins = record {
  synced = synced_at beside p t double s first checks begins;
  skew = skew_in beside p t double s first checks begins;
  active = active_in beside p t double s first checks begins;
  ends = ends_in beside p t double s first checks begins;
}

pub traces_keep_sharp_precision : TracesKeepSharpPrecision
traces_keep_sharp_precision beside p t double s = said_traces_keep_precision beside p t double (as_said beside p t double s)

pub alike_traces_keep_precision : AlikeTracesKeepPrecision
alike_traces_keep_precision p t double s = said_traces_keep_precision false p t double (record { steady = s.steady; alike = s.alike })
