use Rattle.std.proofs.Common.{◌≡◌, take}
use Rattle.std.specs.List.{list_all}
use Rattle.fr_verdict.specs.Alike.{alike_offsets, is_near_all, offset_place_in}
use Rattle.fr_verdict.proofs.places.lie_offsets_alike.Given as goal

-- each so far
abbrev pub invariant-loop-one : goal.invariant-loop-one
invariant-loop-one l = l.all ≡ list_all (is_near_all (alike_offsets l.params) (offset_place_in l.odds l.slot l.params) l.rows) (take l.one-index l.rows)
