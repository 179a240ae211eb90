-- The first check that fails, as a gap of a trace.
use Rattle.std.proofs.Common.{◌≡◌, ℕ, zero, suc, true, false, Bool, Some, None, arith, ap}
use Rattle.std.specs.Prelude.{pos, if◌then◌else◌}
use Rattle.fr_cluster.specs.Values.{Values}
use Rattle.fr_bound.specs.Checks.{left_of, right_of, holds_of, FirstFailing, AllChecksHold}
use Rattle.fr_coverage.specs.declared.gap.Gap.TheVariants as gap
use Rattle.fr_coverage.proofs.First.{below-zero, below-skip, below-found}
use Rattle.fr_coverage.specs.Coverage.{check_gap, checks_gap}

fails : (p : Values) (k : ℕ) → holds_of (suc k) p ≡ false → check_gap p k ≡ Some (gap.Check (suc k) (pos (left_of (suc k) p)) (pos (right_of (suc k) p)))
fails p k h = ap (λ (b : Bool). if b then None else Some (gap.Check (suc k) (pos (left_of (suc k) p)) (pos (right_of (suc k) p)))) h

passes : (p : Values) (k : ℕ) → holds_of (suc k) p ≡ true → check_gap p k ≡ None
passes p k h = ap (λ (b : Bool). if b then None else Some (gap.Check (suc k) (pos (left_of (suc k) p)) (pos (right_of (suc k) p)))) h

pub checks-none : (p : Values) → AllChecksHold p → checks_gap p ≡ None
checks-none p h = below-skip (check_gap p) 0 5 (below-zero (check_gap p)) (omega arith) (λ k from to. passes p k (h (suc k) (omega arith) (omega arith)))

pub checks-some : (p : Values) (number : ℕ) → FirstFailing number p → checks_gap p ≡ Some (gap.Check number (pos (left_of number p)) (pos (right_of number p)))
checks-some p zero f = let from = f.from in absurd (omega arith)
checks-some p (suc k) f =
    let to = f.to in
    let before = below-skip (check_gap p) 0 k (below-zero (check_gap p)) (omega arith) (λ j from below. passes p j (f.earlier (suc j) (omega arith) (omega arith))) in
    below-found (check_gap p) k 5 _ before (fails p k f.fails) (omega arith)
