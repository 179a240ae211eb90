-- A state of what is known that is carried through double cycles is so in each.
use Rattle.std.proofs.Common.{◌≡◌, ℕ, zero, suc, ◌+◌, ◌<◌, ◌≤◌, Option, Some, None, refl, sym, subst, arith}
use Rattle.fr_cluster.specs.Setting.{Setting}
use Rattle.fr_bound.specs.Judged.{met_of, met_with, IsJudgedDouble}
use Rattle.fr_bound.specs.declared.judging.Heard.{Heard}
use Rattle.fr_bound.specs.declared.judging.Known.{Known}
use Rattle.fr_history.specs.Cycles.{Cycles}
use Rattle.fr_sharp.specs.JudgedStates.{AreKnownFrom, CarriedIsKnown, CarriesKnown}
use Rattle.fr_sharp.specs.JudgedSteps.{GoesOnJudged}
use Rattle.fr_runs.specs.SharpHistories.{IsKnownAt, IsStatedRunFrom}
use Rattle.fr_sharp.proofs.JudgedLaws.{judged_goes_on_lem, known_is_met_lem}

module _ (x : Setting) (from flutter : ℕ) (h : Cycles) (double : ℕ) (what : ℕ → Heard) (seen known : ℕ → Option Known) (w : IsStatedRunFrom x from flutter h) (late : from ≤ double) (carries : CarriesKnown x.params flutter what seen known)
    (s : AreKnownFrom x h double what seen known) where
  met_by : (at : ℕ) (one other : Option Known) (met : Known) → ((some : Known) → one ≡ Some some → IsKnownAt x h at some) → ((some : Known) → other ≡ Some some → IsKnownAt x h at some)
      → met_with one other ≡ Some met → IsKnownAt x h at met
  met_by at None other met first second is = second met is
  met_by at (Some one) None met first second is = first met is
  met_by at (Some one) (Some other) met first second is =
      let same : met_of one other ≡ met = cc is in
      subst (IsKnownAt x h at) same (known_is_met_lem x h at one other (first one refl) (second other refl))

  goes_on : (k : ℕ) (met : Known) → double + k < x.doubles → IsKnownAt x h (double + k) met → IsJudgedDouble x.params flutter met → GoesOnJudged (what k) x flutter h (double + k) met
  goes_on k met short at judged = judged_goes_on_lem (what k) x from flutter h (double + k) met w (omega (arith, late)) short (s.heard k short) at judged

  known_at : (k : ℕ) (some : Known) → double + k < x.doubles → known k ≡ Some some → IsKnownAt x h (double + k) some
  known_at zero some short is =
      let same : double ≡ double + 0 = omega arith in
      subst (λ (m : ℕ). IsKnownAt x h m some) same (s.first some is)
  known_at (suc k) some short is =
      let before : double + k < x.doubles = omega (arith, short) in
      let later : suc (double + k) < x.doubles = omega (arith, short) in
      let same : suc (double + k) ≡ double + suc k = omega arith in
      let step = carries k some is in
      let at = met_by (double + k) (known k) (seen k) step.met (λ some is. known_at k some before is) (λ some is. s.each k some before is) step.is in
      let next = (goes_on k step.met before at step.judged).next later in
      subst (λ (m : ℕ). IsKnownAt x h m some) same (subst (IsKnownAt x h (suc (double + k))) (sym step.stepped) next)

  pub met_at : (k : ℕ) (met : Known) → double + k < x.doubles → met_with (known k) (seen k) ≡ Some met → IsKnownAt x h (double + k) met
  met_at k met short is = met_by (double + k) (known k) (seen k) met (λ some is. known_at k some short is) (λ some is. s.each k some short is) is

  pub carried_at : (k : ℕ) (met : Known) → double + k < x.doubles → met_with (known k) (seen k) ≡ Some met
      → IsKnownAt x h (double + k) met × (IsJudgedDouble x.params flutter met → GoesOnJudged (what k) x flutter h (double + k) met)
  carried_at k met short is =
      let at = met_at k met short is in
      (at, goes_on k met short at)

pub carried_is_known_lem : CarriedIsKnown
carried_is_known_lem x from flutter h double what seen known w late carries s k met short is = carried_at x from flutter h double what seen known w late carries s k met short is
