use Rattle.std.proofs.Common.{◌≡◌, ◌≤◌, true, length, take}
use Rattle.std.specs.Prelude.{All}
use Rattle.fr_pool.proofs.pool.first_free.Given as goal

-- each cell so far is out
abbrev pub invariant-loop-place : goal.invariant-loop-place
invariant-loop-place l = (l.place ≤ length l.out) × All (λ out. out ≡ true) (take l.place l.out)
