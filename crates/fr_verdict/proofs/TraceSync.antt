-- What is judged of a trace suffices, and a steady trace in sharp sync stays so, for as many double cycles as the rate limit holds
-- the walk.
use Rattle.std.proofs.Common.{max, ◌≡◌, ℕ, suc, ◌+◌, ◌*◌, ◌<◌, ◌≤◌, Bool, false, Option, Some, ℤ, pos, ap, sym, ◌∙◌, subst, inl, inr, arith, ap₂}
use Rattle.fr_cluster.specs.Values.{Values}
use Rattle.fr_coverage.specs.declared.gap.Gap.TheVariants as gap
use Rattle.fr_history.specs.History.{History, Record, record_at}
use Rattle.fr_time.specs.Cycles.{odd_cycle}
use Rattle.fr_trace.specs.Trace.{TraceView}
use Rattle.fr_verdict.proofs.Heard.{pairs_heard}
use Rattle.fr_verdict.proofs.Recorded.{IsDouble, even_at, odd_at}
use Rattle.fr_precision.specs.SharpStep.{IsInSharpSync}
use Rattle.fr_verdict.specs.Alike.{AlikeTracesKeepSharpSync}
use Rattle.fr_verdict.specs.SharpTraces.{recorded_flutter, CheckedTracesAreSteady, IsRecordedInSharpSync, StaysRecordedInSharpSync, TracedChecksHold, TracesKeepSharpSync}
use Rattle.fr_bound.specs.SharpBounds.{near_by, sharp_lambda, sharp_near, sharp_pi}
use Rattle.fr_bound.specs.SharpSpreads.{sharply_near_in}
use Rattle.fr_bound.specs.SharpSpreads.{IsSharplySettled}
use Rattle.fr_precision.specs.SharpSettling.{sharp_spread_after}
use Rattle.fr_precision.proofs.LastingLemmas.{settled_after}
use Rattle.fr_verdict.proofs.TraceAlike.{as_said, IsSteadySaid}
use Rattle.fr_verdict.proofs.TraceSpreads.{said_traces_settle}

-- ---- what is judged suffices

pub checked_traces_are_steady : CheckedTracesAreSteady
checked_traces_are_steady beside p t synced double sane trace fits none may lawful gaps first from = record {
  sane = sane;
  trace = trace;
  fits = fits;
  none_joins = none;
  arbitrary = may;
  lawful = lawful;
  counts = λ g is. let check = gaps g (inr (inl is)) in other (sym check.told ∙ is.told);
  lengths = λ g is. let check = gaps g (inr (inr (inl is))) in other_length (sym check.told ∙ is.told);
  changes = λ g is. let check = gaps g (inr (inr (inr (inl is)))) in other_change (sym check.told ∙ is.told);
  heard = λ k after within.
      pairs_heard p t synced k (λ g is. let check = gaps g (inr (inr (inr (inr is)))) in other_link (sym check.told ∙ is.told)) first (later synced double k from after) within;
}
  where
    later : (a b c : ℕ) → a ≤ b → b ≤ c → a ≤ c
    later a b c x y = omega (arith, x, y)

    other : {n a b : ℕ} {l r : ℤ} → gap.Check n l r ≡ gap.Count a b → ⊥
    other e = cc e

    other_length : {n a b : ℕ} {l r z : ℤ} → gap.Check n l r ≡ gap.Length a b z → ⊥
    other_length e = cc e

    other_change : {n a b : ℕ} {l r z : ℤ} → gap.Check n l r ≡ gap.Change a b z → ⊥
    other_change e = cc e

    other_link : {n a b c : ℕ} {l r : ℤ} → gap.Check n l r ≡ gap.Link a b c → ⊥
    other_link e = cc e

-- ---- in sharp sync

-- the records of a double cycle in sync are those that are found
pub at_double : (beside : Bool) (p : Values) (t : TraceView) (k : ℕ) (beyond : ℤ) (h : History) (even odd : Record) → IsDouble t h even odd k → IsRecordedInSharpSync beside p beyond t.history k
    → IsInSharpSync beside p (recorded_flutter p) beyond even.rows odd.rows
at_double beside p t k beyond h even odd d sync =
    let next : odd_cycle k ≡ suc (2 * k) = omega arith in
    let early : ◌≡◌ {A = Option Record} (Some sync.even) (Some even) = sym sync.has_even ∙ even_at t h even odd k d in
    let late : ◌≡◌ {A = Option Record} (Some sync.odd) (Some odd) = sym sync.has_odd ∙ ap (record_at t.history) next ∙ odd_at t h even odd k d in
    let even_is : sync.even ≡ even = cc early in
    let odd_is : sync.odd ≡ odd = cc late in
    let Even : Record → Type 0 = λ r. IsInSharpSync beside p (recorded_flutter p) beyond r.rows sync.odd.rows in
    let Odd : Record → Type 0 = λ r. IsInSharpSync beside p (recorded_flutter p) beyond even.rows r.rows in
    subst Odd odd_is (subst Even even_is sync.in_sync)

-- the sharper pi and lambda are spreads at rest, and action points lie as near as in sharp sync
at_rest : (beside : Bool) (p : Values) (flutter : ℕ) → IsSharplySettled beside p flutter (sharp_spread_after beside p flutter (sharp_pi beside p flutter) (sharp_lambda beside p flutter) 0)
unfolding sharp_spread_after
at_rest beside p flutter = (same (sharp_lambda beside p flutter), same (sharp_pi beside p flutter))
  where
    same : (n : ℕ) → max n n ≡ n
    same n = grind arith

near_at_rest : (beside : Bool) (p : Values) (flutter k : ℕ) → sharply_near_in p (sharp_spread_after beside p flutter (sharp_pi beside p flutter) (sharp_lambda beside p flutter) k) ≤ sharp_near beside p flutter
near_at_rest beside p flutter k =
    let now = settled_after beside p flutter (sharp_pi beside p flutter) (sharp_lambda beside p flutter) 0 k (at_rest beside p flutter) (from_none k) in
    itself (sharply_near_in p (sharp_spread_after beside p flutter (sharp_pi beside p flutter) (sharp_lambda beside p flutter) k)) (sharp_near beside p flutter)
    (ap₂ (λ (lengths starts : ℕ). near_by p starts lengths) now.0 now.1)
  where
    from_none : (n : ℕ) → 0 ≤ n
    from_none n = omega arith

    itself : (a b : ℕ) → a ≡ b → a ≤ b
    itself a b e = omega (arith, e)

-- so to begin in sharp sync is a case of beginning with stated numbers
pub said_traces_keep : (beside : Bool) (p : Values) (t : TraceView) (double : ℕ) → IsSteadySaid beside p t double → TracedChecksHold beside p → IsRecordedInSharpSync beside p (pos 0) t.history double
    → (passed : ℕ) → double + passed < t.doubles → StaysRecordedInSharpSync beside p t double passed
said_traces_keep beside p t double s checks begins passed within =
    let flutter : ℕ = recorded_flutter p in
    (
    said_traces_settle beside p t (sharp_pi beside p flutter) (sharp_lambda beside p flutter) (sharp_near beside p flutter) double s
    (record { second = checks.second; third = checks.third; fits = near_at_rest beside p flutter })
    (record {
      even = begins.even;
      odd = begins.odd;
      has_even = begins.has_even;
      has_odd = begins.has_odd;
      active_even = begins.in_sync.active_even;
      active_odd = begins.in_sync.active_odd;
      near = begins.in_sync.rows;
    })
    passed within
    ).reached
    0 (from_none passed) (at_rest beside p flutter)
  where
    from_none : (n : ℕ) → 0 ≤ n
    from_none n = omega arith

pub traces_keep_sharp_sync_lem : TracesKeepSharpSync
traces_keep_sharp_sync_lem beside p t double s = said_traces_keep beside p t double (as_said beside p t double s)

pub alike_traces_keep_sharp_sync : AlikeTracesKeepSharpSync
alike_traces_keep_sharp_sync p t double s = said_traces_keep false p t double (record { steady = s.steady; alike = s.alike })
