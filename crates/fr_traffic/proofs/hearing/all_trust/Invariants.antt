use Rattle.std.proofs.Common.{◌≡◌, ◌||◌, not, true, take}
use Rattle.std.specs.List.{list_all}
use Rattle.fr_traffic.specs.Traffic.{is_trusted, may_receive, traffic_with}
use Rattle.fr_traffic.proofs.hearing.all_trust.Given as goal

-- each so far
abbrev pub invariant-loop-place : goal.invariant-loop-place
invariant-loop-place l =
    list_all
    (λ b. not (may_receive (traffic_with l.nodes l.script) l.double b) || is_trusted l.rate (traffic_with l.nodes l.script) l.double b)
    (take l.place l.nodes)
    ≡ true
