-- A search along numbers, one more at a time.
use Rattle.std.proofs.Common.{◌≡◌, ℕ, ◌+◌, ◌<◌, Option, Some, None, ap, ap₂, refl, sym, ◌∙◌, add-one}
use Rattle.std.specs.Option.{option_or}
use Rattle.fr_cluster.specs.Values.{Values}
use Rattle.fr_coverage.specs.First.{first_below, first_in}
use Rattle.fr_coverage.specs.declared.gap.Gap.{Gap}
use Rattle.fr_trace.specs.Trace.{TraceView}
use Rattle.fr_verdict.specs.FirstGap.{first_gap_of, traced_changes_gap, traced_count_gap, traced_lengths_gap, traced_pairs_gap}
use Rattle.fr_coverage.specs.Coverage.{checks_gap}
use Rattle.fr_verdict.specs.OtherGaps.{first_other_gap_of}
use Rattle.fr_verdict.specs.Sync.{first_synced_of}
use Rattle.fr_coverage.proofs.First.{below-found, below-next, below-zero}

pub below_none : {A : Type 0} (f : ℕ → Option A) → first_below f 0 ≡ None
below_none f = below-zero f

pub below_more : {A : Type 0} (f : ℕ → Option A) (n : ℕ) (o : Option A) → first_below f n ≡ None → o ≡ f n → o ≡ None → first_below f (n + 1) ≡ None
below_more f n o none told is = ap (first_below f) (add-one n) ∙ below-next f n none (sym told ∙ is)

pub below_hit : {A : Type 0} (f : ℕ → Option A) (n m : ℕ) (x : A) (o : Option A) → first_below f n ≡ None → n < m → o ≡ f n → o ≡ Some x → Some x ≡ first_below f m
below_hit f n m x o none lt told is = sym (below-found f n m x none (sym told ∙ is) lt)

-- the last of the gaps other than a failed check, where those before it are none
pub last_of_gaps : (p : Values) (t : TraceView) (synced : Option ℕ) (o : Option Gap) → traced_count_gap p t ≡ None → first_in (traced_lengths_gap p t) p.nodes ≡ None
    → first_in (traced_changes_gap p t) p.nodes ≡ None → synced ≡ first_synced_of p t → o ≡ traced_pairs_gap p t synced → o ≡ first_other_gap_of p t
unfolding first_other_gap_of
last_of_gaps p t synced o count lengths changes same told =
    let rest : option_or (first_in (traced_changes_gap p t) p.nodes) (traced_pairs_gap p t (first_synced_of p t)) ≡ traced_pairs_gap p t (first_synced_of p t) =
    ap (λ (a : Option Gap). option_or a (traced_pairs_gap p t (first_synced_of p t))) changes in
    told ∙ ap (traced_pairs_gap p t) same
    ∙ sym (ap₂ (λ (a b : Option Gap). option_or a (option_or b (option_or (first_in (traced_changes_gap p t) p.nodes) (traced_pairs_gap p t (first_synced_of p t))))) count lengths ∙ rest)

-- the first gap is a failed check, or the first other one
pub first_gap-parts : (p : Values) (t : TraceView) → first_gap_of p t ≡ option_or (checks_gap p) (first_other_gap_of p t)
unfolding first_gap_of first_other_gap_of
first_gap-parts p t = refl

pub first_gap-check : (p : Values) (t : TraceView) (g : Gap) (o : Option Gap) → o ≡ checks_gap p → o ≡ Some g → Some g ≡ first_gap_of p t
first_gap-check p t g o told is = sym (first_gap-parts p t ∙ ap (λ (a : Option Gap). option_or a (first_other_gap_of p t)) (sym told ∙ is))

pub first_gap-other : (p : Values) (t : TraceView) (found o : Option Gap) → o ≡ checks_gap p → o ≡ None → found ≡ first_other_gap_of p t → found ≡ first_gap_of p t
first_gap-other p t found o told is other = other ∙ sym (first_gap-parts p t ∙ ap (λ (a : Option Gap). option_or a (first_other_gap_of p t)) (sym told ∙ is))
