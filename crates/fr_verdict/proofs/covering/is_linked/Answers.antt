use Rattle.std.proofs.Common.{◌≡◌, ◌<◌, ◌∙◌, ℕ, None, inl, inr, subst, sym, arith}
use Rattle.std.proofs.lemmas.Bool.{cases_lt}
use Rattle.fr_verdict.specs.Doubles.{double_gap}
use Rattle.fr_verdict.proofs.Whole.{pairs_none}
use Rattle.fr_verdict.proofs.covering.is_linked.Goals as goal

pub loop-double-init : goal.loop-double-init
loop-double-init c = λ d lt. absurd (omega arith)

pub loop-double-preserved : goal.loop-double-preserved
loop-double-preserved c = λ d lt.
    let p = c.args.params.now in
    let t = c.args.trace.now in
    elim (cases_lt d c.loop-double.double) [
      | inl less ↦ c.loop-double.invariant d less
      | inr from ↦
          let same : c.loop-double.double ≡ d = omega arith in
          subst (λ (n : ℕ). double_gap p t c.args.synced n ≡ None) same (sym c.broken_in.ensures ∙ c.in-None.is)
    ]

pub returns : goal.returns
returns c = λ yes.
    let p = c.args.params.now in
    let t = c.args.trace.now in
    pairs_none p t c.args.synced
    (λ d lt. let less : d < c.doubles-double-end.result = subst (λ (n : ℕ). d < n) (sym c.doubles-double-end.ensures.value) lt in c.loop-double.invariant d (omega arith))
