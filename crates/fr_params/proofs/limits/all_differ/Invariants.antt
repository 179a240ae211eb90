use Rattle.std.proofs.Common.{◌≡◌, ◌<◌, ℕ, get_or}
use Rattle.fr_params.proofs.limits.all_differ.Given as goal

-- the keys so far are all different
abbrev pub invariant-loop-place : goal.invariant-loop-place
invariant-loop-place l = (i j : ℕ) (d : ℕ) → i < j → j < l.place → get_or l.keys i d ≡ get_or l.keys j d → ⊥
