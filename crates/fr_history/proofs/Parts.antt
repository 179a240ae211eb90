-- The cycles of a shorter run are a part of those of a longer one.
use Rattle.std.proofs.Common.{◌≡◌, ◌⊎◌, ℕ, zero, suc, ◌+◌, ◌<◌, ◌==◌, true, false, Some, drop, length, refl, sym, ◌∙◌, ap, inl, inr, arith, ◌∷◌}
use Rattle.std.proofs.lemmas.Bool.{ne_eqb}
use Rattle.fr_cluster.specs.Setting.{Setting}
use Rattle.fr_history.specs.Cycles.{Cycle, Cycles, cycle_at}
use Rattle.fr_history.specs.Next.{cycles_of, next_cycle}
use Rattle.fr_history.proofs.RunsExist.{length-cycles_of}

cycle_here : (c : Cycle) (h : Cycles) → cycle_at (c ∷ h) (length h) ≡ Some c
unfolding cycle_at
cycle_here c h = let e : (length h == length h) ≡ true = grind arith in rw e refl

cycle_before : (c : Cycle) (h : Cycles) (n : ℕ) → n < length h → cycle_at (c ∷ h) n ≡ cycle_at h n
unfolding cycle_at
cycle_before c h n below = let e : (length h == n) ≡ false = ne_eqb (length h) n (λ (same : length h ≡ n). omega arith) in rw e refl

cycles_of-suc : (x : Setting) (n : ℕ) → cycles_of x (suc n) ≡ next_cycle x (cycles_of x n) ∷ cycles_of x n
unfolding cycles_of
cycles_of-suc x n = refl

pub drop-cycles_of : (x : Setting) (more n : ℕ) → drop more (cycles_of x (more + n)) ≡ cycles_of x n
drop-cycles_of x zero n = let e : zero + n ≡ n = omega arith in ap (cycles_of x) e
drop-cycles_of x (suc more) n =
    let e : suc more + n ≡ suc (more + n) = omega arith in
    ap (λ (k : ℕ). drop (suc more) (cycles_of x k)) e ∙ ap (drop (suc more)) (cycles_of-suc x (more + n)) ∙ drop-cycles_of x more n

pub cycle_at-cycles_of : (x : Setting) (cycle n : ℕ) → cycle < n → cycle_at (cycles_of x n) cycle ≡ Some (next_cycle x (cycles_of x cycle))
cycle_at-cycles_of x cycle zero below = absurd (omega arith)
cycle_at-cycles_of x cycle (suc n) below = by_place (cycle_at-cycles_of x cycle n) (grind arith)
  where
    by_place : (cycle < n → cycle_at (cycles_of x n) cycle ≡ Some (next_cycle x (cycles_of x cycle))) → (cycle ≡ n) ⊎ (cycle < n) → cycle_at (cycles_of x (suc n)) cycle ≡ Some (next_cycle x (cycles_of x cycle))
    by_place after (inl same) =
        let long : length (cycles_of x n) ≡ n = length-cycles_of x n in
        rw (cycles_of-suc x n, same) (ap (cycle_at (next_cycle x (cycles_of x n) ∷ cycles_of x n)) (sym long) ∙ cycle_here (next_cycle x (cycles_of x n)) (cycles_of x n))
    by_place after (inr less) =
        let long : length (cycles_of x n) ≡ n = length-cycles_of x n in
        rw (cycles_of-suc x n) (cycle_before (next_cycle x (cycles_of x n)) (cycles_of x n) cycle (omega (arith, long)) ∙ after less)
