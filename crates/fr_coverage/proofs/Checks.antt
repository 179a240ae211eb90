-- The first check that fails, as a gap.
use Rattle.std.proofs.Common.{◌≡◌, ℕ, zero, suc, ◌≤◌, true, false, Bool, Some, None, arith, ap}
use Rattle.std.specs.Prelude.{pos, if◌then◌else◌}
use Rattle.fr_cluster.specs.Values.{Values}
use Rattle.fr_bound.specs.Checks.{left_of, right_of, holds_of, FirstFailing, FirstFailingToJoin, AllChecksHold, AllJoinChecksHold}
use Rattle.fr_coverage.specs.Coverage.{asked_where, check_gap}
use Rattle.fr_coverage.specs.declared.gap.Gap.TheVariants as gap
use Rattle.fr_coverage.specs.First.{first_below}
use Rattle.fr_coverage.proofs.First.{below-zero, below-skip, below-found}

fails : (p : Values) (k : ℕ) → holds_of (suc k) p ≡ false → check_gap p k ≡ Some (gap.Check (suc k) (pos (left_of (suc k) p)) (pos (right_of (suc k) p)))
fails p k h = ap (λ (b : Bool). if b then None else Some (gap.Check (suc k) (pos (left_of (suc k) p)) (pos (right_of (suc k) p)))) h

passes : (p : Values) (k : ℕ) → holds_of (suc k) p ≡ true → check_gap p k ≡ None
passes p k h = ap (λ (b : Bool). if b then None else Some (gap.Check (suc k) (pos (left_of (suc k) p)) (pos (right_of (suc k) p)))) h

pub checks-none : (p : Values) → AllChecksHold p → first_below (check_gap p) 5 ≡ None
checks-none p h = below-skip (check_gap p) 0 5 (below-zero (check_gap p)) (omega arith) (λ k from to. passes p k (h (suc k) (omega arith) (omega arith)))

pub all-none : (p : Values) → AllChecksHold p → AllJoinChecksHold p → first_below (check_gap p) 9 ≡ None
all-none p h j = below-skip (check_gap p) 5 9 (checks-none p h) (omega arith) (λ k from to. passes p k (j (suc k) (omega arith) (omega arith)))

-- the first that fails stays the first, however many more are asked
pub asked-some : (p : Values) (number asked : ℕ) → FirstFailing number p → 5 ≤ asked → first_below (check_gap p) asked ≡ Some (gap.Check number (pos (left_of number p)) (pos (right_of number p)))
asked-some p zero asked f more = let from = f.from in absurd (omega arith)
asked-some p (suc k) asked f more =
    let to = f.to in
    let before = below-skip (check_gap p) 0 k (below-zero (check_gap p)) (omega arith) (λ j from below. passes p j (f.earlier (suc j) (omega arith) (omega arith))) in
    below-found (check_gap p) k asked _ before (fails p k f.fails) (omega arith)

pub checks-some : (p : Values) (number : ℕ) → FirstFailing number p → first_below (check_gap p) 5 ≡ Some (gap.Check number (pos (left_of number p)) (pos (right_of number p)))
checks-some p number f = asked-some p number 5 f (omega arith)

pub join-some : (p : Values) (number : ℕ) → AllChecksHold p → FirstFailingToJoin number p → first_below (check_gap p) 9 ≡ Some (gap.Check number (pos (left_of number p)) (pos (right_of number p)))
join-some p zero h f = let from = f.from in absurd (omega arith)
join-some p (suc k) h f =
    let from = f.from in
    let to = f.to in
    let before = below-skip (check_gap p) 5 k (checks-none p h) (omega arith) (λ j low below. passes p j (f.earlier (suc j) (omega arith) (omega arith))) in
    below-found (check_gap p) k 9 _ before (fails p k f.fails) (omega arith)

pub five-asked : (joins : Bool) → 5 ≤ asked_where joins
five-asked true = omega arith
five-asked false = omega arith
