-- What a verdict tells of what is known behind the last double cycle.
use Rattle.std.proofs.Common.{◌≡◌, ◌∙◌, ℕ, ◌+◌, ◌==◌, Bool, true, false, Option, Some, None, refl, ap, sym, arith}
use Rattle.std.specs.Prelude.{if◌then◌else◌}
use Rattle.std.proofs.lemmas.Bool.{and_parts}
use Rattle.std.proofs.lemmas.Bool.Decides.{nat_tests}
use Rattle.fr_observe.specs.declared.fault.Fault.{Fault}
use Rattle.fr_findings.specs.Verdict.{partly_of, reaches_end, verdict_by, verdict_unless_over, verdict_where, verdict_with, verdict_within}
use Rattle.fr_findings.specs.declared.progress.OverRow.{OverRow}
use Rattle.fr_findings.specs.declared.progress.Progress.{Progress}
use Rattle.fr_findings.specs.declared.progress.Reach.{Reach}
use Rattle.fr_findings.specs.declared.verdict.Verdict.TheVariants as verdict

same-number : (a b : ℕ) → (a == b) ≡ true → a ≡ b
same-number a b is = grind (arith, nat_tests, is)

module _ (progress : Progress) where
  -- ---- no: the first fault

  module _ (fault : Fault) where
    no_within : (reach : Option Reach) (span : Reach) → verdict_within reach span progress ≡ verdict.No fault → ⊥
    no_within None span is = cc is
    no_within (Some reach) span is = by (reaches_end reach span) is
      where
        by : (b : Bool) → (if b then verdict.Within reach else verdict.Partly (partly_of span progress)) ≡ verdict.No fault → ⊥
        by true is = cc is
        by false is = cc is

    no_where : (span : Option Reach) → verdict_where span progress ≡ verdict.No fault → ⊥
    no_where None is = cc is
    no_where (Some span) is = no_within progress.reach span is

    no_over : (over : Option OverRow) → verdict_unless_over over progress ≡ verdict.No fault → ⊥
    no_over None is = no_where progress.judged.span is
    no_over (Some first) is = cc is

    pub fault_is_first : (first : Option Fault) → verdict_with first progress ≡ verdict.No fault → first ≡ Some fault
    fault_is_first None is = absurd (no_over progress.over is)
    fault_is_first (Some other) is = ap Some (same other fault is)
      where
        same : (a b : Fault) → verdict.No a ≡ verdict.No b → a ≡ b
        same a b is = cc is

  -- ---- over: the first row that says so, and how many do

  module _ (row : OverRow) (count : ℕ) where
    pub record IsToldOver (over : Option OverRow) : Type 0 where
      pub first : over ≡ Some row
      pub counted : count ≡ progress.counts.over

    over_within : (reach : Option Reach) (span : Reach) → verdict_within reach span progress ≡ verdict.Over row count → ⊥
    over_within None span is = cc is
    over_within (Some reach) span is = by (reaches_end reach span) is
      where
        by : (b : Bool) → (if b then verdict.Within reach else verdict.Partly (partly_of span progress)) ≡ verdict.Over row count → ⊥
        by true is = cc is
        by false is = cc is

    over_where : (span : Option Reach) → verdict_where span progress ≡ verdict.Over row count → ⊥
    over_where None is = cc is
    over_where (Some span) is = over_within progress.reach span is

    over_by : (over : Option OverRow) → verdict_unless_over over progress ≡ verdict.Over row count → IsToldOver over
    over_by None is = absurd (over_where progress.judged.span is)
    over_by (Some first) is = record { first = ap Some (same first row progress.counts.over count is); counted = many first row progress.counts.over count is }
      where
        same : (a b : OverRow) (n m : ℕ) → verdict.Over a n ≡ verdict.Over b m → a ≡ b
        same a b n m is = cc is

        many : (a b : OverRow) (n m : ℕ) → verdict.Over a n ≡ verdict.Over b m → m ≡ n
        many a b n m is = cc is

    over_with : (first : Option Fault) → verdict_with first progress ≡ verdict.Over row count → IsToldOver progress.over
    over_with None is = over_by progress.over is
    over_with (Some fault) is = absurd (cc is)

    pub over_told_by : verdict_by progress ≡ verdict.Over row count → IsToldOver progress.over
    unfolding verdict_by
    over_told_by is = over_with progress.first is

  -- ---- within: how far rows say so, which is up to the last judged cycle but one

  pub record IsToldWithin (told : Reach) : Type 0 where
    pub reached : progress.reach ≡ Some told
    pub span : Reach
    pub spans : progress.judged.span ≡ Some span
    pub ends : told.to + 1 ≡ span.to

  module _ (told : Reach) where
    same : (a b : Reach) → verdict.Within a ≡ verdict.Within b → a ≡ b
    same a b is = cc is

    to_end : (reach span : Reach) → reaches_end reach span ≡ true → reach.to + 1 ≡ span.to
    to_end reach span is = same-number (reach.to + 1) span.to (and_parts (reach.from == span.from) (reach.to + 1 == span.to) is).1

    within_end : (b : Bool) (reach span : Reach) → progress.reach ≡ Some reach → progress.judged.span ≡ Some span → reaches_end reach span ≡ b
        → (if b then verdict.Within reach else verdict.Partly (partly_of span progress)) ≡ verdict.Within told → IsToldWithin told
    within_end true reach span reached spans end is =
        let alike = same reach told is in
        record { reached = reached ∙ ap Some alike; span = span; spans = spans; ends = ap (λ (r : Reach). r.to + 1) (sym alike) ∙ to_end reach span end }
    within_end false reach span reached spans end is = absurd (cc is)

    within_reach : (reach : Option Reach) (span : Reach) → progress.reach ≡ reach → progress.judged.span ≡ Some span
        → verdict_within reach span progress ≡ verdict.Within told → IsToldWithin told
    within_reach None span reached spans is = absurd (cc is)
    within_reach (Some reach) span reached spans is = within_end (reaches_end reach span) reach span reached spans refl is

    within_where : (span : Option Reach) → progress.judged.span ≡ span → verdict_where span progress ≡ verdict.Within told → IsToldWithin told
    within_where None spans is = absurd (cc is)
    within_where (Some span) spans is = within_reach progress.reach span refl spans is

    within_over : (over : Option OverRow) → verdict_unless_over over progress ≡ verdict.Within told → IsToldWithin told
    within_over None is = within_where progress.judged.span refl is
    within_over (Some first) is = absurd (cc is)

    within_with : (first : Option Fault) → verdict_with first progress ≡ verdict.Within told → IsToldWithin told
    within_with None is = within_over progress.over is
    within_with (Some fault) is = absurd (cc is)

    pub told_within : verdict_by progress ≡ verdict.Within told → IsToldWithin told
    unfolding verdict_by
    told_within is = within_with progress.first is

    pub within_told : verdict_by progress ≡ verdict.Within told → progress.reach ≡ Some told
    within_told is = (told_within is).reached
