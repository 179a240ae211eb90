use Rattle.std.proofs.Common.{◌≡◌}
use Rattle.std.specs.Prelude.{filter, is_some}
use Rattle.std.specs.List.{range_with_len}
use Rattle.fr_cluster.specs.Questions.{key_index_of}
use Rattle.fr_world.proofs.building.key_slots_of.Given as goal

-- the key slots among the slots so far
abbrev pub invariant-loop-earlier : goal.invariant-loop-earlier
invariant-loop-earlier l = l.keys.items ≡ filter (λ slot. is_some (key_index_of l.params slot)) (range_with_len 1 l.earlier)
