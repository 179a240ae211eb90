use Rattle.std.proofs.Common.{◌≡◌, ◌*◌}
use Rattle.fr_air.specs.Files.{setting_in}
use Rattle.fr_air.specs.Reaching.{IsReach}
use Rattle.fr_world.specs.Stage.{heard_after, IsStage}
use Rattle.fr_world.proofs.stage.Stage.hear_slots.Given as goal

-- the slots so far were heard
abbrev pub invariant-loop-earlier : goal.invariant-loop-earlier
invariant-loop-earlier l =
    (l.self ≡ heard_after (setting_in l.files) l.cycle l.earlier l.initial.self)
    × IsStage l.files l.cycle (130 * l.earlier) l.self
    × IsReach l.files l.cycle l.self.rows l.reach
