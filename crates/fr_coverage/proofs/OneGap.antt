-- One gap stands at a place, so the first is the one that is found.
use Rattle.std.proofs.Common.{◌≡◌, ℕ, Option, Some, None, ap, sym, ◌∙◌, refl, arith, inl, inr}
use Rattle.std.specs.declared.cmp.Ordering.{Ordering}
use Rattle.std.specs.declared.cmp.Ordering.TheVariants.{Less, Equal, Greater}
use Rattle.std.specs.Ordering.{nat_cmp, ordering_reverse}
use Rattle.std.specs.Cmp.Lexicographic.{slice_cmp}
use Rattle.std.proofs.lemmas.Cmp.{nat_list_cmp_total}
use Rattle.std.proofs.lemmas.Map.Lookups.{exact_bytes}
use Rattle.fr_base.specs.Rows.{channel_rank}
use Rattle.fr_base.specs.declared.channel.Channel.{Channel}
use Rattle.fr_base.specs.declared.channel.Channel.TheVariants as channel
use Rattle.fr_cluster.specs.Values.{Values}
use Rattle.fr_cluster.specs.Sane.{IsSane}
use Rattle.fr_drift.specs.View.{DriftView}
use Rattle.fr_script.specs.View.{ScriptView}
use Rattle.fr_coverage.specs.Coverage.{asked_checks, first_gap}
use Rattle.fr_coverage.specs.Order.{place_of_gap, IsFailingCheck, IsLengthGap, IsChangeGap, IsDelayGap, IsLinkGap, IsGap, IsFirstGap}
use Rattle.fr_coverage.specs.declared.gap.Gap.{Gap}
use Rattle.fr_coverage.proofs.Least.{IsLeast}
use Rattle.fr_coverage.proofs.GapParts.{gaps-least, kind_of, place-split, FromCount, FromLength, FromChange, FromDelay, from_count, from_length, from_change, from_delay}

one-channel : (a b : Channel) → channel_rank a ≡ channel_rank b → a ≡ b
one-channel channel.A channel.A e = refl
one-channel channel.A channel.B e = absurd (omega arith)
one-channel channel.B channel.A e = absurd (omega arith)
one-channel channel.B channel.B e = refl

one-check : (p : Values) (asked : ℕ) (g h : Gap) → place_of_gap g ≡ place_of_gap h → IsFailingCheck asked p g → IsFailingCheck asked p h → g ≡ h
one-check p asked g h same r q = let places = sym (ap place_of_gap r.told) ∙ same ∙ ap place_of_gap q.told in let a = r.told in let b = q.told in cc

one-length : (p : Values) (d : DriftView) (s : ScriptView) (g h : Gap) → place_of_gap g ≡ place_of_gap h → IsLengthGap p d s g → IsLengthGap p d s h → g ≡ h
one-length p d s g h same r q = let places = sym (ap place_of_gap r.told) ∙ same ∙ ap place_of_gap q.told in let a = r.told in let b = q.told in cc

one-change : (p : Values) (d : DriftView) (s : ScriptView) (g h : Gap) → place_of_gap g ≡ place_of_gap h → IsChangeGap p d s g → IsChangeGap p d s h → g ≡ h
one-change p d s g h same r q = let places = sym (ap place_of_gap r.told) ∙ same ∙ ap place_of_gap q.told in let a = r.told in let b = q.told in cc

one-delay : (p : Values) (d : DriftView) (s : ScriptView) (g h : Gap) → place_of_gap g ≡ place_of_gap h → IsDelayGap p d s g → IsDelayGap p d s h → g ≡ h
one-delay p d s g h same r q =
    let places = sym (ap place_of_gap r.told) ∙ same ∙ ap place_of_gap q.told in
    let ranks : channel_rank r.ch ≡ channel_rank q.ch = cc in
    let on = one-channel r.ch q.ch ranks in
    let a = r.told in let b = q.told in cc

one-link : (p : Values) (d : DriftView) (s : ScriptView) (g h : Gap) → place_of_gap g ≡ place_of_gap h → IsLinkGap p d s g → IsLinkGap p d s h → g ≡ h
one-link p d s g h same r q = let places = sym (ap place_of_gap r.told) ∙ same ∙ ap place_of_gap q.told in let a = r.told in let b = q.told in cc

one-kind : (g h : Gap) → place_of_gap g ≡ place_of_gap h → kind_of g ≡ kind_of h
one-kind g h same = let places = sym (place-split g) ∙ same ∙ place-split h in cc

from-delay : (p : Values) (d : DriftView) (s : ScriptView) (g h : Gap) → place_of_gap g ≡ place_of_gap h → FromDelay p d s g → FromDelay p d s h → g ≡ h
from-delay p d s g h same (inl r) (inl q) = one-delay p d s g h same r q
from-delay p d s g h same (inr r) (inr q) = one-link p d s g h same r q
from-delay p d s g h same (inl r) (inr q) = let a = ap kind_of r.told in let b = ap kind_of q.told in let c = one-kind g h same in absurd (omega arith)
from-delay p d s g h same (inr r) (inl q) = let a = ap kind_of r.told in let b = ap kind_of q.told in let c = one-kind g h same in absurd (omega arith)

from-change : (p : Values) (d : DriftView) (s : ScriptView) (g h : Gap) → place_of_gap g ≡ place_of_gap h → FromChange p d s g → FromChange p d s h → g ≡ h
from-change p d s g h same (inl r) (inl q) = one-change p d s g h same r q
from-change p d s g h same (inr r) (inr q) = from-delay p d s g h same r q
from-change p d s g h same (inl r) (inr q) = let a = ap kind_of r.told in let b = from_delay p d s h q in let c = one-kind g h same in absurd (omega arith)
from-change p d s g h same (inr r) (inl q) = let a = from_delay p d s g r in let b = ap kind_of q.told in let c = one-kind g h same in absurd (omega arith)

from-length : (p : Values) (d : DriftView) (s : ScriptView) (g h : Gap) → place_of_gap g ≡ place_of_gap h → FromLength p d s g → FromLength p d s h → g ≡ h
from-length p d s g h same (inl r) (inl q) = one-length p d s g h same r q
from-length p d s g h same (inr r) (inr q) = from-change p d s g h same r q
from-length p d s g h same (inl r) (inr q) = let a = ap kind_of r.told in let b = from_change p d s h q in let c = one-kind g h same in absurd (omega arith)
from-length p d s g h same (inr r) (inl q) = let a = from_change p d s g r in let b = ap kind_of q.told in let c = one-kind g h same in absurd (omega arith)

from-count : (p : Values) (d : DriftView) (s : ScriptView) (g h : Gap) → place_of_gap g ≡ place_of_gap h → FromCount p d s g → FromCount p d s h → g ≡ h
from-count p d s g h same (inl r) (inl q) = r.told ∙ sym q.told
from-count p d s g h same (inr r) (inr q) = from-length p d s g h same r q
from-count p d s g h same (inl r) (inr q) = let a = ap kind_of r.told in let b = from_length p d s h q in let c = one-kind g h same in absurd (omega arith)
from-count p d s g h same (inr r) (inl q) = let a = from_length p d s g r in let b = ap kind_of q.told in let c = one-kind g h same in absurd (omega arith)

-- gaps of one run at one place are one
one-gap : (p : Values) (d : DriftView) (s : ScriptView) (g h : Gap) → place_of_gap g ≡ place_of_gap h → IsGap p d s g → IsGap p d s h → g ≡ h
one-gap p d s g h same (inl r) (inl q) = one-check p (asked_checks p s) g h same r q
one-gap p d s g h same (inr r) (inr q) = from-count p d s g h same r q
one-gap p d s g h same (inl r) (inr q) = let a = ap kind_of r.told in let b = from_count p d s h q in let c = one-kind g h same in absurd (omega arith)
one-gap p d s g h same (inr r) (inl q) = let a = from_count p d s g r in let b = ap kind_of q.told in let c = one-kind g h same in absurd (omega arith)

-- the first gap is the one that is found
pub first-found : (p : Values) (d : DriftView) (s : ScriptView) (g : Gap) → IsSane p → IsFirstGap p d s g → first_gap p d s ≡ Some g
first-found p d s g sane f = by (first_gap p d s) refl
  where
    least : IsLeast (IsGap p d s) (first_gap p d s)
    least = gaps-least p d s sane.lists.nodes_ascend

    tied : (k : Gap) → first_gap p d s ≡ Some k → (o : Ordering) → slice_cmp nat_cmp (place_of_gap k) (place_of_gap g) ≡ o → k ≡ g
    tied k e Less h = absurd (f.first k (least.some k e) h)
    tied k e Equal h = one-gap p d s k g (exact_bytes (place_of_gap k) (place_of_gap g) h) (least.some k e) f.is_gap
    tied k e Greater h = absurd (least.least k g e f.is_gap (nat_list_cmp_total.antisymm (place_of_gap g) (place_of_gap k) ∙ ap ordering_reverse h))

    by : (o : Option Gap) → first_gap p d s ≡ o → first_gap p d s ≡ Some g
    by None e = absurd (least.none e g f.is_gap)
    by (Some k) e = e ∙ ap (λ (x : Gap). Some x) (tied k e (slice_cmp nat_cmp (place_of_gap k) (place_of_gap g)) refl)
