use Rattle.std.proofs.Common.{◌≡◌}
use Rattle.fr_air.proofs.kept.KeptDrift.keep_all.Given as goal

-- what is kept is not seen
abbrev pub invariant-loop-place : goal.invariant-loop-place
invariant-loop-place l = l.self ≡ l.initial.self
