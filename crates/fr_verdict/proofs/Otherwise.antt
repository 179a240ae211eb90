-- A trace is refused for its first breach, or else for its first gap other than a failed check, and for nothing else.
use Rattle.std.proofs.Common.{◌≡◌, ◌⊎◌, Option, Some, None, ap, sym, ◌∙◌, refl, inl, inr}
use Rattle.fr_cluster.specs.Sane.{IsSane}
use Rattle.fr_cluster.specs.Values.{Values}
use Rattle.fr_coverage.specs.declared.gap.Gap.{Gap}
use Rattle.fr_trace.specs.Trace.{TraceView}
use Rattle.fr_verdict.specs.OtherGaps.{first_other_gap_of, IsOtherwiseCovered, IsRefusedOtherwise, OneOtherwise, SomeOtherwise}
use Rattle.fr_verdict.specs.Search.{first_breach_of}
use Rattle.fr_verdict.specs.declared.unlawful.Unlawful.{Unlawful}
use Rattle.fr_verdict.specs.declared.unlawful.Unlawful.TheVariants as unlawful
use Rattle.fr_verdict.proofs.Finding.{found_breach_is_first, none_found_is_lawful, one_first_breach}
use Rattle.fr_verdict.proofs.Gaps.{other_gap_is_found}
use Rattle.fr_verdict.proofs.OneGap.{one_first_other_gap}

one_reason : (p : Values) (t : TraceView) (u v : Unlawful) → IsRefusedOtherwise p t u → IsRefusedOtherwise p t v → u ≡ v
one_reason p t u v (inl a) (inl b) = one_first_breach p t u v a b
one_reason p t u v (inl a) (inr b) = absurd (b.lawful u a.is_breach)
one_reason p t u v (inr a) (inl b) = absurd (a.lawful v b.is_breach)
one_reason p t u v (inr a) (inr b) = a.told ∙ ap unlawful.Uncovered (one_first_other_gap p t a.gap b.gap a.first b.first) ∙ sym b.told

not_both : (p : Values) (t : TraceView) (u : Unlawful) → IsRefusedOtherwise p t u → IsOtherwiseCovered p t → ⊥
not_both p t u (inl a) covered = covered.lawful u a.is_breach
not_both p t u (inr a) covered = covered.covered a.gap a.first.is_gap

pub one_otherwise : OneOtherwise
one_otherwise p t = (one_reason p t, not_both p t)

-- what is found is a reason, and where nothing is there is none
pub other_gap_told : (p : Values) (t : TraceView) (g : Gap) → IsSane p → first_breach_of p t ≡ None → first_other_gap_of p t ≡ Some g → IsRefusedOtherwise p t (unlawful.Uncovered g)
other_gap_told p t g sane none found =
    inr (record { lawful = none_found_is_lawful p t none; gap = g; first = (other_gap_is_found p t sane).0 g found; told = refl })

pub nothing_told : (p : Values) (t : TraceView) → IsSane p → first_breach_of p t ≡ None → first_other_gap_of p t ≡ None → IsOtherwiseCovered p t
nothing_told p t sane none no_gap = record { lawful = none_found_is_lawful p t none; covered = (other_gap_is_found p t sane).1 no_gap }

pub some_otherwise : SomeOtherwise
some_otherwise p t sane = by_breach (first_breach_of p t) refl
  where
    by_gap : (o : Option Gap) → first_breach_of p t ≡ None → first_other_gap_of p t ≡ o → ((u : Unlawful) × IsRefusedOtherwise p t u) ⊎ IsOtherwiseCovered p t
    by_gap (Some g) none e = inl (unlawful.Uncovered g, other_gap_told p t g sane none e)
    by_gap None none e = inr (nothing_told p t sane none e)

    by_breach : (o : Option Unlawful) → first_breach_of p t ≡ o → ((u : Unlawful) × IsRefusedOtherwise p t u) ⊎ IsOtherwiseCovered p t
    by_breach (Some u) e = inl (u, inl (found_breach_is_first p t u e))
    by_breach None e = by_gap (first_other_gap_of p t) e refl
