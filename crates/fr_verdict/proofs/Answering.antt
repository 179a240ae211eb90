-- A trace has one answer.
use Rattle.std.proofs.Common.{◌≡◌, ℕ, ℤ, ◌<◌, ◌≤ℤ◌, pos, Option, Some, None, Result, Ok, Err, ap, sym, ◌∙◌, refl, arith, ◌⊎◌, inl, inr}
use Rattle.std.specs.Prelude.{nat_abs}
use Rattle.std.proofs.lemmas.Int.{ints}
use Rattle.fr_cluster.specs.Sane.{IsSane}
use Rattle.fr_cluster.specs.Values.{Values, amount}
use Rattle.fr_cluster.specs.declared.names.ParamName.TheVariants as name
use Rattle.fr_coverage.specs.declared.gap.Gap.{Gap}
use Rattle.fr_skew.specs.declared.peak.Peak.{Peak}
use Rattle.fr_history.specs.Skew.{greatest_skew_of}
use Rattle.fr_history.proofs.Greatest.{greatest_is_found, greatest_is_one, greatest_is_there}
use Rattle.fr_trace.specs.Lasting.{IsTrace}
use Rattle.fr_trace.specs.Trace.{TraceView}
use Rattle.fr_verdict.specs.Answer.{IsJudgement, IsSyncedFrom, IsUncovered, IsVerdict, OneAnswer, SomeAnswer}
use Rattle.fr_verdict.specs.Breach.{IsFirstBreach}
use Rattle.fr_verdict.specs.FirstGap.{first_gap_of}
use Rattle.fr_verdict.specs.Search.{first_breach_of}
use Rattle.fr_verdict.specs.Sync.{first_synced_of}
use Rattle.fr_verdict.specs.declared.unlawful.Unlawful.{Unlawful}
use Rattle.fr_verdict.specs.declared.unlawful.Unlawful.TheVariants as unlawful
use Rattle.fr_verdict.specs.declared.unlawful.Verdict.{Verdict}
use Rattle.fr_verdict.proofs.Finding.{found_breach_is_first, none_found_is_lawful, one_first_breach}
use Rattle.fr_verdict.proofs.Gaps.{found_gap_is_first, no_gap_found_is_covered}
use Rattle.fr_verdict.proofs.OneGap.{one_first_gap}
use Rattle.fr_verdict.proofs.Syncing.{first_synced_is, first_synced_is_one, never_synced}

-- ---- one at most

verdict_of : Option ℕ → ℤ → ℕ → ℤ → Verdict
verdict_of synced skew cycle macrotick = record { synced = synced; skew = skew; cycle = cycle; macrotick = macrotick }

one_sync : (p : Values) (t : TraceView) (a b : Option ℕ) → IsSyncedFrom p t a → IsSyncedFrom p t b → a ≡ b
one_sync p t None None v w = refl
one_sync p t None (Some l) v w = absurd (v l w.synced)
one_sync p t (Some k) None v w = absurd (w k v.synced)
one_sync p t (Some k) (Some l) v w = ap (λ (n : ℕ). Some n) (first_synced_is_one p t k l v w)

same_verdict : (a b : Option ℕ) (g f : ℤ) (n m : ℕ) (i j : ℤ) → a ≡ b → g ≡ f → n ≡ m → i ≡ j → verdict_of a g n i ≡ verdict_of b f m j
same_verdict a b g f n m i j x y z u = cc

one_verdict : (p : Values) (t : TraceView) (v w : Verdict) → IsVerdict p t v → IsVerdict p t w → v ≡ w
unfolding verdict_of
one_verdict p t v w a b =
    let skews = greatest_is_one p t.history v.skew w.skew v.cycle a.macrotick w.cycle b.macrotick a.skew b.skew in
    let macroticks : v.macrotick ≡ w.macrotick = a.is_macrotick ∙ ap pos skews.2 ∙ sym b.is_macrotick in
    let same : verdict_of v.synced v.skew v.cycle v.macrotick ≡ verdict_of w.synced w.skew w.cycle w.macrotick =
    same_verdict v.synced w.synced v.skew w.skew v.cycle w.cycle v.macrotick w.macrotick (one_sync p t v.synced w.synced a.synced b.synced) skews.0 skews.1 macroticks in
    same

refused : (p : Values) (t : TraceView) (v : Verdict) (u : Unlawful) → IsVerdict p t v → IsFirstBreach p t u ⊎ IsUncovered p t u → ⊥
refused p t v u a (inl b) = a.lawful u b.is_breach
refused p t v u a (inr b) = a.covered b.gap b.first.is_gap

one_refusal : (p : Values) (t : TraceView) (u v : Unlawful) → IsFirstBreach p t u ⊎ IsUncovered p t u → IsFirstBreach p t v ⊎ IsUncovered p t v → u ≡ v
one_refusal p t u v (inl a) (inl b) = one_first_breach p t u v a b
one_refusal p t u v (inl a) (inr b) = absurd (b.lawful u a.is_breach)
one_refusal p t u v (inr a) (inl b) = absurd (a.lawful v b.is_breach)
one_refusal p t u v (inr a) (inr b) = a.told ∙ ap unlawful.Uncovered (one_first_gap p t a.gap b.gap a.first b.first) ∙ sym b.told

pub one_answer : OneAnswer
one_answer p t (Ok v) (Ok w) a b = ap (λ (x : Verdict). Ok x) (one_verdict p t v w a b)
one_answer p t (Ok v) (Err u) a b = absurd (refused p t v u a b)
one_answer p t (Err u) (Ok v) a b = absurd (refused p t v u b a)
one_answer p t (Err u) (Err v) a b = ap (λ (x : Unlawful). Err x) (one_refusal p t u v a b)

-- ---- what is found is an answer

pub synced_from : (p : Values) (t : TraceView) → IsSyncedFrom p t (first_synced_of p t)
synced_from p t = by_found (first_synced_of p t) refl
  where
    by_found : (o : Option ℕ) → first_synced_of p t ≡ o → IsSyncedFrom p t o
    by_found None e = never_synced p t e
    by_found (Some k) e = first_synced_is p t k e

-- a verdict of what is gathered of the clocks
pub found_verdict : (p : Values) (t : TraceView) (peak : Peak) → IsSane p → first_breach_of p t ≡ None → first_gap_of p t ≡ None → greatest_skew_of p t.history ≡ Some peak
    → IsVerdict p t (record { synced = first_synced_of p t; skew = peak.skew; cycle = peak.cycle; macrotick = pos peak.macrotick })
found_verdict p t peak sane no_breach no_gap greatest = record {
  lawful = none_found_is_lawful p t no_breach;
  covered = no_gap_found_is_covered p t sane no_gap;
  synced = synced_from p t;
  macrotick = peak.macrotick;
  is_macrotick = refl;
  skew = greatest_is_found p t.history peak greatest;
}

pub found_uncovered : (p : Values) (t : TraceView) (g : Gap) → IsSane p → first_breach_of p t ≡ None → first_gap_of p t ≡ Some g → IsUncovered p t (unlawful.Uncovered g)
found_uncovered p t g sane no_breach e = record { lawful = none_found_is_lawful p t no_breach; gap = g; first = found_gap_is_first p t g sane e; told = refl }

has_cycles : (p : Values) (t : TraceView) → 0 < amount p name.gMacroPerCycle → IsTrace t → greatest_skew_of p t.history ≡ None → ⊥
has_cycles p t macros trace e =
    let none = greatest_is_there p t.history macros e in
    let whole = trace.whole in
    let some = trace.doubles_from in
    omega arith

pub some_answer : SomeAnswer
some_answer p t sane trace = by_breach (first_breach_of p t) refl
  where
    macros : 0 < amount p name.gMacroPerCycle
    macros =
        let from = (sane.ranges name.gMacroPerCycle).0 in
        some_of p.macros from
      where
        some_of : (n : ℤ) → pos 10 ≤ℤ n → 0 < nat_abs n
        some_of n from = grind (arith, ints)

    by_peak : (o : Option Peak) → first_breach_of p t ≡ None → first_gap_of p t ≡ None → greatest_skew_of p t.history ≡ o → (a : Result Verdict Unlawful) × IsJudgement p t a
    by_peak None no_breach no_gap e = absurd (has_cycles p t macros trace e)
    by_peak (Some peak) no_breach no_gap e =
        (Ok (record { synced = first_synced_of p t; skew = peak.skew; cycle = peak.cycle; macrotick = pos peak.macrotick }), found_verdict p t peak sane no_breach no_gap e)

    by_gap : (o : Option Gap) → first_breach_of p t ≡ None → first_gap_of p t ≡ o → (a : Result Verdict Unlawful) × IsJudgement p t a
    by_gap (Some g) no_breach e = (Err (unlawful.Uncovered g), inr (found_uncovered p t g sane no_breach e))
    by_gap None no_breach e = by_peak (greatest_skew_of p t.history) no_breach e refl

    by_breach : (o : Option Unlawful) → first_breach_of p t ≡ o → (a : Result Verdict Unlawful) × IsJudgement p t a
    by_breach (Some u) e = (Err u, inl (found_breach_is_first p t u e))
    by_breach None e = by_gap (first_gap_of p t) e refl
