use Rattle.std.proofs.Common.{◌≡◌, ◌||◌, not, true, take}
use Rattle.std.specs.List.{list_all}
use Rattle.fr_script.specs.View.{is_arbitrary}
use Rattle.fr_traffic.specs.Traffic.{lacks_values, traffic_with}
use Rattle.fr_traffic.proofs.bearing.none_lacks_in.Given as goal

-- none so far
abbrev pub invariant-loop-place : goal.invariant-loop-place
invariant-loop-place l =
    list_all (λ b. is_arbitrary l.script b.id || not (lacks_values (traffic_with l.nodes l.script) l.double b)) (take l.place l.nodes) ≡ true
