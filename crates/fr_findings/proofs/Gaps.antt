-- Within is said of judged double cycles alone: one that is not judged, behind one that is, is a gap.
use Rattle.std.proofs.Common.{◌≡◌, ◌∙◌, ℕ, zero, suc, ◌+◌, ◌-◌, ◌*◌, ◌/◌, ◌≤◌, Bool, true, false, List, [], ◌∷◌, ◌++◌, drop, get_or, length, slice_get, Option, Some, None, IfSome, refl, sym, ap, subst, arith}
use Rattle.std.specs.Prelude.{if◌then◌else◌}
use Rattle.std.specs.List.{range_with_len}
use Rattle.std.proofs.lemmas.Bool.Decides.{nat_tests}
use Rattle.fr_observe.specs.Observing.{both_say, doubles_between, seen_doubles}
use Rattle.fr_observe.specs.declared.fault.Fault.{Fault}
use Rattle.fr_observe.specs.declared.says.Says.{Says}
use Rattle.fr_sightings.specs.Sightings.{OffendingFrames, offending_frames_of, sightings_of}
use Rattle.fr_sightings.specs.declared.sighting.Sighting.{Sighting}
use Rattle.fr_findings.specs.Judged.{WithinIsJudged}
use Rattle.fr_findings.specs.Verdict.{Basis, DoubleCycle, double_at, even_says, judged_by, log_basis, log_progress, no_progress, odd_says, partly_of, progress_behind, progress_of, progress_told, reaches_end, reach_where, span_to, standing_told, verdict_by, verdict_of, verdict_unless_over, verdict_where, verdict_with, verdict_within}
use Rattle.fr_findings.specs.declared.progress.Judged.{Judged}
use Rattle.fr_findings.specs.declared.progress.OverRow.{OverRow}
use Rattle.fr_findings.specs.declared.progress.Progress.{Progress}
use Rattle.fr_findings.specs.declared.progress.Reach.{Reach}
use Rattle.fr_findings.specs.declared.verdict.Verdict.{Verdict}
use Rattle.fr_findings.specs.declared.verdict.Verdict.TheVariants as verdict

-- ---- double cycles come in ascending order

-- none of some is below a number
abbrev AreFrom : ℕ → List ℕ → Type 0
AreFrom least [] = Unit {0}
AreFrom least (double ∷ doubles) = (least ≤ double) × AreFrom least doubles

range-from : (least first n : ℕ) → least ≤ first → AreFrom least (range_with_len first n)
range-from least first zero le = tt
range-from least first (suc n) le = (le, range-from least (first + 1) n (omega (arith, le)))

module _ (double : ℕ) (rest : List ℕ) where
  none-split : (front : List ℕ) → [] ≡ front ++ (double ∷ rest) → ⊥
  none-split [] is = cc is
  none-split (first ∷ front) is = cc is

  range-split : (first n : ℕ) (front : List ℕ) → range_with_len first n ≡ front ++ (double ∷ rest) → AreFrom (double + 1) rest
  range-split first zero front is = absurd (none-split front is)
  range-split first (suc n) [] is =
      let head : first ≡ double = ap (λ (l : List ℕ). get_or l 0 0) is in
      subst (AreFrom (double + 1)) (ap (drop 1) is) (range-from (double + 1) (first + 1) n (omega (arith, head)))
  range-split first (suc n) (other ∷ front) is = range-split (first + 1) n front (ap (drop 1) is)

  between-split : (front : List ℕ) (first last : Option Sighting) → doubles_between first last ≡ front ++ (double ∷ rest) → AreFrom (double + 1) rest
  between-split front None last is = absurd (none-split front is)
  between-split front (Some first) None is = absurd (none-split front is)
  between-split front (Some first) (Some last) is = range-split _ _ front is

-- ---- behind some double cycles

abbrev reach_in : Progress → (Option Reach × Bool)
reach_in q = (q.reach, q.is_ended)

abbrev gap : Option Reach × Bool
gap = (None, true)

gap-passed : (judged : Bool) (span : Option Reach) (double : ℕ) (even odd : Says) → reach_where judged span double even odd gap ≡ gap
gap-passed true span double even odd = refl
gap-passed false None double even odd = refl
gap-passed false (Some s) double even odd = refl

-- the first judged cycle is no earlier than that of a double cycle
abbrev IsFrom : ℕ → Option Reach → Type 0
IsFrom least span = IfSome span (λ s. 2 * least ≤ s.from)

span-passed : (least double : ℕ) (judged : Bool) (before : Judged) (said : List Says) → least ≤ double → IsFrom least before.span → IsFrom least (judged_by judged before double said).span
span-passed least double false before said le from = from
span-passed least double true before said le from = by before.span from
  where
    by : (o : Option Reach) → IsFrom least o → 2 * least ≤ (span_to o double).from
    by None none = omega (arith, le)
    by (Some s) some = some

module _ (b : Basis) (seen : List Sighting) (frames : OffendingFrames) where
  abbrev judged_at : Progress → ℕ → Bool
  judged_at q double = (standing_told b (double_at b seen frames double) q.known).is_judged

  progress-append : (q : Progress) (front rest : List ℕ) → progress_of b seen frames q (front ++ rest) ≡ progress_of b seen frames (progress_of b seen frames q front) rest
  unfolding progress_of
  progress-append q [] rest = refl
  progress-append q (double ∷ front) rest = progress-append (progress_behind b seen frames double q) front rest

  progress-first : (q : Progress) (double : ℕ) (rest : List ℕ) → progress_of b seen frames q (double ∷ rest) ≡ progress_of b seen frames (progress_behind b seen frames double q) rest
  unfolding progress_of
  progress-first q double rest = refl

  -- behind a gap no row says within any more
  gap-behind : (q : Progress) (double : ℕ) → reach_in q ≡ gap → reach_in (progress_behind b seen frames double q) ≡ gap
  unfolding progress_told
  gap-behind q double is =
      let d : DoubleCycle = double_at b seen frames double in
      ap (reach_where (judged_at q double) q.judged.span d.number (even_says b d) (odd_says b d)) is
      ∙ gap-passed (judged_at q double) q.judged.span d.number (even_says b d) (odd_says b d)

  gap-stays : (q : Progress) (doubles : List ℕ) → reach_in q ≡ gap → reach_in (progress_of b seen frames q doubles) ≡ gap
  unfolding progress_of
  gap-stays q [] is = is
  gap-stays q (double ∷ doubles) is = gap-stays (progress_behind b seen frames double q) doubles (gap-behind q double is)

  -- one that is not judged is such a gap where one before it is judged
  gap-here : (q : Progress) (double : ℕ) (span : Reach) → judged_at q double ≡ false → q.judged.span ≡ Some span → reach_in (progress_behind b seen frames double q) ≡ gap
  unfolding progress_told
  gap-here q double span unjudged is =
      let d : DoubleCycle = double_at b seen frames double in λ i.
      reach_where (unjudged i) (is i) d.number (even_says b d) (odd_says b d) (reach_in q)

  -- and where none is, the first judged cycle comes behind it
  span-here : (q : Progress) (double least : ℕ) → judged_at q double ≡ false → q.judged.span ≡ None → IsFrom least (progress_behind b seen frames double q).judged.span
  unfolding progress_told
  span-here q double least unjudged is =
      let d : DoubleCycle = double_at b seen frames double in
      let none : (progress_behind b seen frames double q).judged.span ≡ None =
      ap (λ (judged : Bool). (judged_by judged q.judged d.number (both_say b.precision b.scale d.senders)).span) unjudged ∙ is in
      subst (IsFrom least) (sym none) tt

  span-behind : (q : Progress) (double least : ℕ) → least ≤ double → IsFrom least q.judged.span → IsFrom least (progress_behind b seen frames double q).judged.span
  unfolding progress_told double_at
  span-behind q double least le from =
      span-passed least double (judged_at q double) q.judged (both_say b.precision b.scale (double_at b seen frames double).senders) le from

  span-stays : (q : Progress) (doubles : List ℕ) (least : ℕ) → AreFrom least doubles → IsFrom least q.judged.span → IsFrom least (progress_of b seen frames q doubles).judged.span
  unfolding progress_of
  span-stays q [] least later from = from
  span-stays q (double ∷ doubles) least later from =
      span-stays (progress_behind b seen frames double q) doubles least later.1 (span-behind q double least later.0 from)

-- ---- a verdict of within

-- rows say within from the first judged cycle on
pub record Reaches (q : Progress) (reach : Reach) : Type 0 where
  pub span : Reach
  pub spans : q.judged.span ≡ Some span
  pub reaches : q.reach ≡ Some reach
  pub from : reach.from ≡ span.from
  pub to : reach.to + 1 ≡ span.to

abbrev reach_or : Verdict → Reach → Reach
reach_or (verdict.Within reach) other = reach
reach_or (verdict.No fault) other = other
reach_or (verdict.Over first count) other = other
reach_or (verdict.Open why) other = other
reach_or (verdict.Partly part) other = other

same-from : (reach span : Reach) → reaches_end reach span ≡ true → reach.from ≡ span.from
same-from reach span is = grind (arith, nat_tests, is)

same-to : (reach span : Reach) → reaches_end reach span ≡ true → reach.to + 1 ≡ span.to
same-to reach span is = grind (arith, nat_tests, is)

module _ (q : Progress) (reach : Reach) where
  by-end : (span whole : Reach) (ends : Bool) → q.judged.span ≡ Some span → q.reach ≡ Some whole → reaches_end whole span ≡ ends
      → (if ends then verdict.Within whole else verdict.Partly (partly_of span q)) ≡ verdict.Within reach → Reaches q reach
  by-end span whole true spans reaches ends is =
      let same : whole ≡ reach = ap (λ (v : Verdict). reach_or v reach) is in
      record {
        span = span;
        spans = spans;
        reaches = reaches ∙ ap Some same;
        from = sym (ap (λ (r : Reach). r.from) same) ∙ same-from whole span ends;
        to = sym (ap (λ (r : Reach). r.to + 1) same) ∙ same-to whole span ends;
      }
  by-end span whole false spans reaches ends is = absurd (cc is)

  by-reach : (span : Reach) (o : Option Reach) → q.judged.span ≡ Some span → q.reach ≡ o → verdict_within o span q ≡ verdict.Within reach → Reaches q reach
  by-reach span None spans reaches is = absurd (cc is)
  by-reach span (Some whole) spans reaches is = by-end span whole (reaches_end whole span) spans reaches refl is

  by-span : (o : Option Reach) → q.judged.span ≡ o → verdict_where o q ≡ verdict.Within reach → Reaches q reach
  by-span None spans is = absurd (cc is)
  by-span (Some span) spans is = by-reach span q.reach spans refl is

  by-over : (o : Option OverRow) → verdict_unless_over o q ≡ verdict.Within reach → Reaches q reach
  by-over None is = by-span q.judged.span refl is
  by-over (Some first) is = absurd (cc is)

  by-first : (o : Option Fault) → verdict_with o q ≡ verdict.Within reach → Reaches q reach
  by-first None is = by-over q.over is
  by-first (Some fault) is = absurd (cc is)

  pub within-reaches : verdict_by q ≡ verdict.Within reach → Reaches q reach
  unfolding verdict_by
  within-reaches is = by-first q.first is

-- ---- the law

module _ (b : Basis) (seen : List Sighting) (frames : OffendingFrames) (q final : Progress) (double : ℕ) (rest : List ℕ) (reach : Reach) where
  by-judged : final ≡ progress_of b seen frames (progress_behind b seen frames double q) rest → AreFrom (double + 1) rest → Reaches final reach → reach.from / 2 ≤ double
      → (judged : Bool) (span : Option Reach) → judged_at b seen frames q double ≡ judged → q.judged.span ≡ span → judged_at b seen frames q double ≡ true
  by-judged all later within le true span is spans = is
  by-judged all later within le false None is spans =
      absurd (
      let from : IsFrom (double + 1) final.judged.span =
      subst (λ (p : Progress). IsFrom (double + 1) p.judged.span) (sym all)
      (span-stays b seen frames (progress_behind b seen frames double q) rest (double + 1) later (span-here b seen frames q double (double + 1) is spans)) in
      let first : 2 * (double + 1) ≤ within.span.from = subst (IsFrom (double + 1)) within.spans from in
      omega (arith, first, within.from, le)
      )
  by-judged all later within le false (Some span) is spans =
      absurd (
      let ended : reach_in final ≡ gap = ap reach_in all ∙ gap-stays b seen frames (progress_behind b seen frames double q) rest (gap-here b seen frames q double span is spans) in
      let none : None ≡ Some reach = sym (ap (λ (r : Option Reach × Bool). r.0) ended) ∙ within.reaches in
      cc none
      )

pub within_is_judged_lem : WithinIsJudged
unfolding verdict_of seen_doubles
within_is_judged_lem p l reach front rest double says parts le =
    let b : Basis = log_basis p l in
    let seen : List Sighting = sightings_of p l in
    let frames : OffendingFrames = offending_frames_of p l in
    let q : Progress = progress_of b seen frames no_progress front in
    let all : log_progress b seen frames ≡ progress_of b seen frames (progress_behind b seen frames double q) rest =
    ap (progress_of b seen frames no_progress) parts ∙ progress-append b seen frames no_progress front (double ∷ rest) ∙ progress-first b seen frames q double rest in
    by-judged b seen frames q (log_progress b seen frames) double rest reach all (between-split double rest front (slice_get seen 0) (slice_get seen (length seen - 1)) parts)
    (within-reaches (log_progress b seen frames) reach says) le (judged_at b seen frames q double) q.judged.span refl refl
