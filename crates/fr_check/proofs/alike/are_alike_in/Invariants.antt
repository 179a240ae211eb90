use Rattle.std.proofs.Common.{◌≡◌, take}
use Rattle.std.specs.List.{list_all}
use Rattle.fr_trace.specs.Cycles.{kept_of}
use Rattle.fr_verdict.specs.Alike.{is_node_alike}
use Rattle.fr_check.proofs.alike.are_alike_in.Given as goal

-- each so far
abbrev pub invariant-loop-place : goal.invariant-loop-place
invariant-loop-place l = l.all ≡ list_all (is_node_alike l.params l.trace (kept_of l.even) (kept_of l.odd)) (take l.place l.nodes)
