use Rattle.std.proofs.Common.{ℕ, ◌<◌, ◌≤◌, ◌-◌, length}
use Rattle.std.specs.Prelude.{slice_index_or}
use Rattle.fr_base.specs.declared.dev.Dev.{Dev}
use Rattle.fr_verdict.proofs.ordered.first_place.Given as goal

-- the receivers of the deviations so far have smaller numbers
abbrev pub invariant-loop-place : goal.invariant-loop-place
invariant-loop-place l = (l.place ≤ length l.devs) × ((k : ℕ) (d : Dev) → k < l.place → (slice_index_or l.devs k d).receiver < l.receiver)

abbrev pub decreases-loop-place : goal.decreases-loop-place
decreases-loop-place l = length l.devs - l.place
