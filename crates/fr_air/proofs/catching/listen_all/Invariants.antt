use Rattle.std.proofs.Common.{◌≡◌, ◌++◌, map, take, drop}
use Rattle.std.specs.Prelude.{All}
use Rattle.fr_air.specs.Files.{setting_in}
use Rattle.fr_air.specs.Listening.{after_listening, IsListener}
use Rattle.fr_air.proofs.catching.listen_all.Given as goal

-- the listeners so far have caught what comes to them, and the others are as they were
abbrev pub invariant-loop-listener : goal.invariant-loop-listener
invariant-loop-listener l =
    (l.listeners ≡ map (after_listening (setting_in l.files) l.cycle l.rows) (take l.listener-index l.initial.listeners) ++ drop l.listener-index l.initial.listeners)
    × All (IsListener l.files) l.listeners
    × (l.memory ≡ l.initial.memory)
