use Rattle.std.proofs.Common.{◌≡◌, ◌≤◌, take}
use Rattle.fr_cluster.specs.Constraints.{key_slots}
use Rattle.fr_bound.specs.SharpBounds.{last_of}
use Rattle.fr_bound.proofs.sharp_bounding.last_key.Given as goal

-- that of the nodes before this place
abbrev pub invariant-loop-place : goal.invariant-loop-place
invariant-loop-place l = record {
  value : l.last ≡ last_of (key_slots (take l.place l.nodes));
  most : l.last ≤ 65_535;
}
