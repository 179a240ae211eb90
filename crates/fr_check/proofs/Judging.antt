-- What is told of a trace without a breach.
use Rattle.std.proofs.Common.{◌≡◌, ◌*◌, ◌<◌, ◌≤◌, pos, length, Some, None, Err, inl, inr, ap, sym, ◌∙◌, subst, arith}
use Rattle.std.specs.Prelude.{nat_abs}
use Rattle.fr_cluster.specs.Sane.{IsSane}
use Rattle.fr_cluster.specs.Values.{Values}
use Rattle.fr_coverage.specs.declared.gap.Gap.{Gap}
use Rattle.fr_skew.specs.Gauge.{GaugeView}
use Rattle.fr_skew.specs.declared.peak.Peak.{Peak}
use Rattle.fr_history.specs.Gauged.{GaugeHolds}
use Rattle.fr_history.specs.Skew.{greatest_skew_of}
use Rattle.fr_history.proofs.Greatest.{greatest_is_found}
use Rattle.fr_trace.specs.Fits.{TraceFits}
use Rattle.fr_trace.specs.Lasting.{IsTrace}
use Rattle.fr_trace.specs.Trace.{TraceView}
use Rattle.fr_verdict.specs.Answer.{IsJudgement, IsSyncedFrom, IsVerdict}
use Rattle.fr_verdict.specs.FirstGap.{first_gap_of}
use Rattle.fr_verdict.specs.Precision.{KeepsItsPrecision}
use Rattle.fr_verdict.specs.Search.{first_breach_of}
use Rattle.fr_verdict.specs.declared.unlawful.Unlawful.{Unlawful}
use Rattle.fr_verdict.specs.declared.unlawful.Unlawful.TheVariants as unlawful
use Rattle.fr_verdict.specs.declared.unlawful.Verdict.{Verdict}
use Rattle.fr_verdict.proofs.Answering.{found_uncovered, synced_from}
use Rattle.fr_verdict.proofs.Checked.{checked_traces_keep_precision}
use Rattle.fr_verdict.proofs.Finding.{found_breach_is_first, none_found_is_lawful}
use Rattle.fr_verdict.proofs.Gaps.{no_gap_found_is_covered}
use Rattle.fr_check.specs.Followed.{followed_by}
use Rattle.fr_check.proofs.Followed.{followed_length, records_followed, synced_whole}

-- the first breach is the answer
pub breach_told : (p : Values) (t : TraceView) (u : Unlawful) → first_breach_of p t ≡ Some u → IsJudgement p t (Err u)
breach_told p t u found = inl (found_breach_is_first p t u found)

-- and so is the first gap where there is none
pub gap_told : (p : Values) (t : TraceView) (g : Gap) → IsSane p → first_breach_of p t ≡ None → first_gap_of p t ≡ Some g → IsJudgement p t (Err (unlawful.Uncovered g))
gap_told p t g sane none found = inr (found_uncovered p t g sane none found)

-- a trace has cycles
pub some_added : (p : Values) (t : TraceView) (g : GaugeView) → IsTrace t → GaugeHolds p g (followed_by t t.history) → 0 < g.added
some_added p t g trace held =
    let counted : g.added ≡ length (followed_by t t.history) = held.counted in
    let long = followed_length t t.history in
    let whole : length t.history ≡ 2 * t.doubles = trace.whole in
    let some : 1 ≤ t.doubles = trace.doubles_from in
    omega arith

peak_of : Verdict → Peak
peak_of v = record { skew = v.skew; cycle = v.cycle; macrotick = nat_abs v.macrotick }

-- what the gauge tells is the verdict
pub verdict_told : (p : Values) (t : TraceView) (g : GaugeView) (v : Verdict) → IsSane p → first_breach_of p t ≡ None → first_gap_of p t ≡ None → GaugeHolds p g (followed_by t t.history)
    → v.synced ≡ g.synced → g.greatest ≡ Some (record { skew = v.skew; cycle = v.cycle; macrotick = nat_abs v.macrotick }) → v.macrotick ≡ pos (nat_abs v.macrotick) → IsVerdict p t v
unfolding peak_of
verdict_told p t g v sane no_breach no_gap held synced peak macrotick = record {
  lawful = none_found_is_lawful p t no_breach;
  covered = no_gap_found_is_covered p t sane no_gap;
  synced = subst (IsSyncedFrom p t) (sym (synced ∙ held.synced ∙ synced_whole p t)) (synced_from p t);
  macrotick = nat_abs v.macrotick;
  is_macrotick = macrotick;
  skew = greatest_is_found p t.history (peak_of v) (sym (held.greatest ∙ ap (greatest_skew_of p) (records_followed t t.history)) ∙ peak);
}

pub precision_told : (p : Values) (t : TraceView) (v : Verdict) → IsSane p → IsTrace t → TraceFits p t → IsVerdict p t v → KeepsItsPrecision p t v
precision_told p t v sane trace fits is = checked_traces_keep_precision p t v sane trace fits is
