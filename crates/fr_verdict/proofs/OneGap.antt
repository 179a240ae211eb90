-- One gap of a trace stands at a place, so the first is the one that is found, and a trace has one answer.
use Rattle.std.proofs.Common.{◌≡◌, Option, Some, None, ap, sym, ◌∙◌, refl, arith, inl, inr}
use Rattle.std.specs.declared.cmp.Ordering.{Ordering}
use Rattle.std.specs.declared.cmp.Ordering.TheVariants.{Equal, Greater, Less}
use Rattle.std.specs.Ordering.{nat_cmp, ordering_reverse}
use Rattle.std.specs.Cmp.Lexicographic.{slice_cmp}
use Rattle.std.proofs.lemmas.Cmp.{nat_list_cmp_total}
use Rattle.std.proofs.lemmas.Map.Lookups.{exact_bytes}
use Rattle.fr_cluster.specs.Values.{Values}
use Rattle.fr_coverage.specs.Order.{place_of_gap}
use Rattle.fr_coverage.specs.declared.gap.Gap.{Gap}
use Rattle.fr_coverage.proofs.GapParts.{kind_of, place-split}
use Rattle.fr_coverage.proofs.Least.{IsLeast}
use Rattle.fr_trace.specs.Trace.{TraceView}
use Rattle.fr_verdict.specs.FirstGap.{FirstGapIsFound, first_gap_of}
use Rattle.fr_verdict.specs.Gaps.{IsFirstTraceGap, IsTraceGap, IsTracedChangeGap, IsTracedCheckGap, IsTracedLengthGap, IsTracedLinkGap}
use Rattle.fr_verdict.specs.OtherGaps.{IsFirstOtherGap}
use Rattle.fr_verdict.proofs.Gaps.{FromChange, FromCount, FromLength, from_change, from_count, from_length, gaps_least}

one_check : (p : Values) (g h : Gap) → place_of_gap g ≡ place_of_gap h → IsTracedCheckGap p g → IsTracedCheckGap p h → g ≡ h
one_check p g h same r q = let places = sym (ap place_of_gap r.told) ∙ same ∙ ap place_of_gap q.told in let a = r.told in let b = q.told in cc

one_length : (p : Values) (t : TraceView) (g h : Gap) → place_of_gap g ≡ place_of_gap h → IsTracedLengthGap p t g → IsTracedLengthGap p t h → g ≡ h
one_length p t g h same r q =
    let places = sym (ap place_of_gap r.told) ∙ same ∙ ap place_of_gap q.told in
    let a = r.told in let b = q.told in let c = r.there in let d = q.there in cc

one_change : (p : Values) (t : TraceView) (g h : Gap) → place_of_gap g ≡ place_of_gap h → IsTracedChangeGap p t g → IsTracedChangeGap p t h → g ≡ h
one_change p t g h same r q =
    let places = sym (ap place_of_gap r.told) ∙ same ∙ ap place_of_gap q.told in
    let a = r.told in let b = q.told in let c = r.there in let d = q.there in let e = r.earlier in let f = q.earlier in cc

one_link : (p : Values) (t : TraceView) (g h : Gap) → place_of_gap g ≡ place_of_gap h → IsTracedLinkGap p t g → IsTracedLinkGap p t h → g ≡ h
one_link p t g h same r q = let places = sym (ap place_of_gap r.told) ∙ same ∙ ap place_of_gap q.told in let a = r.told in let b = q.told in cc

one_kind : (g h : Gap) → place_of_gap g ≡ place_of_gap h → kind_of g ≡ kind_of h
one_kind g h same = let places = sym (place-split g) ∙ same ∙ place-split h in cc

among_changes : (p : Values) (t : TraceView) (g h : Gap) → place_of_gap g ≡ place_of_gap h → FromChange p t g → FromChange p t h → g ≡ h
among_changes p t g h same (inl r) (inl q) = one_change p t g h same r q
among_changes p t g h same (inr r) (inr q) = one_link p t g h same r q
among_changes p t g h same (inl r) (inr q) = let a = ap kind_of r.told in let b = ap kind_of q.told in let c = one_kind g h same in absurd (omega arith)
among_changes p t g h same (inr r) (inl q) = let a = ap kind_of r.told in let b = ap kind_of q.told in let c = one_kind g h same in absurd (omega arith)

among_lengths : (p : Values) (t : TraceView) (g h : Gap) → place_of_gap g ≡ place_of_gap h → FromLength p t g → FromLength p t h → g ≡ h
among_lengths p t g h same (inl r) (inl q) = one_length p t g h same r q
among_lengths p t g h same (inr r) (inr q) = among_changes p t g h same r q
among_lengths p t g h same (inl r) (inr q) = let a = ap kind_of r.told in let b = from_change p t h q in let c = one_kind g h same in absurd (omega arith)
among_lengths p t g h same (inr r) (inl q) = let a = from_change p t g r in let b = ap kind_of q.told in let c = one_kind g h same in absurd (omega arith)

among_counts : (p : Values) (t : TraceView) (g h : Gap) → place_of_gap g ≡ place_of_gap h → FromCount p t g → FromCount p t h → g ≡ h
among_counts p t g h same (inl r) (inl q) = r.told ∙ sym q.told
among_counts p t g h same (inr r) (inr q) = among_lengths p t g h same r q
among_counts p t g h same (inl r) (inr q) = let a = ap kind_of r.told in let b = from_length p t h q in let c = one_kind g h same in absurd (omega arith)
among_counts p t g h same (inr r) (inl q) = let a = from_length p t g r in let b = ap kind_of q.told in let c = one_kind g h same in absurd (omega arith)

-- gaps of one trace at one place are one
one_gap : (p : Values) (t : TraceView) (g h : Gap) → place_of_gap g ≡ place_of_gap h → IsTraceGap p t g → IsTraceGap p t h → g ≡ h
one_gap p t g h same (inl r) (inl q) = one_check p g h same r q
one_gap p t g h same (inr r) (inr q) = among_counts p t g h same r q
one_gap p t g h same (inl r) (inr q) = let a = ap kind_of r.told in let b = from_count p t h q in let c = one_kind g h same in absurd (omega arith)
one_gap p t g h same (inr r) (inl q) = let a = from_count p t g r in let b = ap kind_of q.told in let c = one_kind g h same in absurd (omega arith)

pub one_first_gap : (p : Values) (t : TraceView) (g h : Gap) → IsFirstTraceGap p t g → IsFirstTraceGap p t h → g ≡ h
one_first_gap p t g h a b = tied (slice_cmp nat_cmp (place_of_gap g) (place_of_gap h)) refl
  where
    tied : (o : Ordering) → slice_cmp nat_cmp (place_of_gap g) (place_of_gap h) ≡ o → g ≡ h
    tied Less e = absurd (b.first g a.is_gap e)
    tied Equal e = one_gap p t g h (exact_bytes (place_of_gap g) (place_of_gap h) e) a.is_gap b.is_gap
    tied Greater e = absurd (a.first h b.is_gap (nat_list_cmp_total.antisymm (place_of_gap h) (place_of_gap g) ∙ ap ordering_reverse e))

pub one_first_other_gap : (p : Values) (t : TraceView) (g h : Gap) → IsFirstOtherGap p t g → IsFirstOtherGap p t h → g ≡ h
one_first_other_gap p t g h a b = tied (slice_cmp nat_cmp (place_of_gap g) (place_of_gap h)) refl
  where
    tied : (o : Ordering) → slice_cmp nat_cmp (place_of_gap g) (place_of_gap h) ≡ o → g ≡ h
    tied Less e = absurd (b.first g a.is_gap e)
    tied Equal e = among_counts p t g h (exact_bytes (place_of_gap g) (place_of_gap h) e) a.is_gap b.is_gap
    tied Greater e = absurd (a.first h b.is_gap (nat_list_cmp_total.antisymm (place_of_gap h) (place_of_gap g) ∙ ap ordering_reverse e))

pub first_gap_is_found : FirstGapIsFound
first_gap_is_found p t g sane f = by_found (first_gap_of p t) refl
  where
    least : IsLeast (IsTraceGap p t) (first_gap_of p t)
    least = gaps_least p t sane.lists.nodes_ascend

    by_found : (o : Option Gap) → first_gap_of p t ≡ o → first_gap_of p t ≡ Some g
    by_found None e = absurd (least.none e g f.is_gap)
    by_found (Some k) e = e ∙ ap (λ (x : Gap). Some x) (one_first_gap p t k g (record { is_gap = least.some k e; first = λ h w before. least.least k h e w before }) f)
