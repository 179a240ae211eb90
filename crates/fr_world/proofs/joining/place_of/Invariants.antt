use Rattle.std.proofs.Common.{◌≡◌, ℕ, ◌<◌, nat_lt, false, get_or}
use Rattle.fr_node.specs.View.{NodeView}
use Rattle.fr_world.proofs.joining.place_of.Given as goal

-- no node so far has a greater number
abbrev pub invariant-loop-place : goal.invariant-loop-place
invariant-loop-place l = (k : ℕ) (d : NodeView) → k < l.place → nat_lt l.fn.id (get_or l.nodes k d).id ≡ false
