-- That the checks under which the sharper bounds hold suffice for a reach: how far action points may lie apart.
use Rattle.std.specs.Prelude.{ℕ, pos, ◌≡◌, ◌↔◌, true, None}
use Rattle.fr_cluster.specs.Values.{Values}
use Rattle.fr_cluster.specs.Sane.{IsSane}
use Rattle.fr_bound.specs.SharpChecks.{sharp_holds_of, SharpChecksHold}
use Rattle.fr_precision.specs.Offsets.{LimitSuffices}
use Rattle.fr_precision.specs.Reception.{LeavesRoom}
use Rattle.fr_bound.specs.SharpBounds.{walk_lasts}

-- where the checks hold with a reach, the offset limit suffices for it, and slots leave room for it
abbrev pub SharpChecksSuffice : Type 0
SharpChecksSuffice =
    (p : Values) (flutter reach : ℕ) → IsSane p → SharpChecksHold flutter reach p
    → LimitSuffices p (pos reach) × LeavesRoom p (pos reach)

-- the walk lasts on and on exactly where the first of the sharper checks holds
abbrev pub FirstCheckLastsOn : Type 0
FirstCheckLastsOn =
    (p : Values) (flutter reach : ℕ) → IsSane p → (sharp_holds_of 1 flutter reach p ≡ true) ↔ (walk_lasts p flutter ≡ None)
