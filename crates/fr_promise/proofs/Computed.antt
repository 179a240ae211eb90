-- What the checks of nodes that join are computed by.
use Rattle.std.proofs.Common.{◌≡◌, ℕ, zero, suc, ◌-◌, ◌≤◌, Bool, refl, subst, arith}
use Rattle.fr_cluster.specs.Values.{Values}
use Rattle.fr_bound.specs.declared.checking.CheckSides.{CheckSides}
use Rattle.fr_bound.specs.Settling.{IsSettleCheckOf}
use Rattle.fr_promise.specs.SharpJoining.{sharp_reach, IsSharpJoinCheckOf}

pub later_join_check : (p : Values) (beside : Bool) (flutter reach number : ℕ) (sides : CheckSides) → (number ≡ 6 → ⊥) → 6 ≤ number → number ≤ 9
    → reach ≡ sharp_reach beside p flutter → IsSettleCheckOf (number - 4) reach p sides → IsSharpJoinCheckOf number beside flutter p sides
later_join_check p beside flutter reach number sides other from to is check =
    let At : ℕ → Type 0 = λ r. IsSettleCheckOf (number - 4) r p sides in
    by number (number - 4) refl other from to (subst At is check)
  where
    by : (number less : ℕ) → less ≡ number - 4 → (number ≡ 6 → ⊥) → 6 ≤ number → number ≤ 9 → IsSettleCheckOf less (sharp_reach beside p flutter) p sides → IsSharpJoinCheckOf number beside flutter p sides
    by zero less same other from to is = absurd (omega (arith, from))
    by (suc zero) less same other from to is = absurd (omega (arith, from))
    by (suc (suc zero)) less same other from to is = absurd (omega (arith, from))
    by (suc (suc (suc zero))) less same other from to is = absurd (omega (arith, from))
    by (suc (suc (suc (suc zero)))) less same other from to is = absurd (omega (arith, from))
    by (suc (suc (suc (suc (suc zero))))) less same other from to is = absurd (omega (arith, from))
    by (suc (suc (suc (suc (suc (suc zero)))))) less same other from to is = absurd (other refl)
    by (suc (suc (suc (suc (suc (suc (suc zero))))))) less same other from to is =
        let three : less ≡ 3 = omega (arith, same) in
        let At : ℕ → Type 0 = λ k. IsSettleCheckOf k (sharp_reach beside p flutter) p sides in
        let s = subst At three is in
        record { left = s.left; right = s.right; holds = s.holds }
    by (suc (suc (suc (suc (suc (suc (suc (suc zero)))))))) less same other from to is =
        let four : less ≡ 4 = omega (arith, same) in
        let At : ℕ → Type 0 = λ k. IsSettleCheckOf k (sharp_reach beside p flutter) p sides in
        let s = subst At four is in
        record { left = s.left; right = s.right; holds = s.holds }
    by (suc (suc (suc (suc (suc (suc (suc (suc (suc zero))))))))) less same other from to is =
        let five : less ≡ 5 = omega (arith, same) in
        let At : ℕ → Type 0 = λ k. IsSettleCheckOf k (sharp_reach beside p flutter) p sides in
        let s = subst At five is in
        record { left = s.left; right = s.right; holds = s.holds }
    by (suc (suc (suc (suc (suc (suc (suc (suc (suc (suc number)))))))))) less same other from to is = absurd (omega (arith, to))
