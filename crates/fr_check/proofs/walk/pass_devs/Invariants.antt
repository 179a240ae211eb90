use Rattle.std.proofs.Common.{◌≡◌, ◌+◌, length, map, take, None}
use Rattle.std.specs.Prelude.{IfSome}
use Rattle.std.specs.Option.{option_copied}
use Rattle.fr_trace.specs.Cycles.{history_by, kept_of}
use Rattle.fr_trace.specs.Items.Item.{Heard}
use Rattle.fr_verdict.specs.Search.{first_from}
use Rattle.fr_check.specs.Allowed.{AreTicks, IsAllowedFor}
use Rattle.fr_check.proofs.walk.pass_devs.Given as goal

-- no breach so far, and what is kept is right for its slot
abbrev pub invariant-loop-dev : goal.invariant-loop-dev
invariant-loop-dev l =
    (first_from l.params l.trace l.number (map (Heard (history_by l.behind) (kept_of l.cycle)) (take l.dev-index l.own)) ≡ None)
    × (l.next ≡ l.number + length (map (Heard (history_by l.behind) (kept_of l.cycle)) (take l.dev-index l.own)))
    × (l.next ≡ l.number + l.dev-index)
    × IsAllowedFor l.params l.trace l.odd (kept_of l.cycle) (option_copied l.receiver) l.allowed
    × IfSome l.allowed.limits AreTicks
