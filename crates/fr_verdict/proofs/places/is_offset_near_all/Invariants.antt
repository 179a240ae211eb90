use Rattle.std.proofs.Common.{◌≡◌, take}
use Rattle.fr_verdict.specs.Alike.{alike_offsets, is_near_all, offset_place_in}
use Rattle.fr_verdict.proofs.places.is_offset_near_all.Given as goal

-- each so far
abbrev pub invariant-loop-other : goal.invariant-loop-other
invariant-loop-other l = l.all ≡ is_near_all (alike_offsets l.params) (offset_place_in l.odds l.slot l.params) (take l.other-index l.rows) l.one
