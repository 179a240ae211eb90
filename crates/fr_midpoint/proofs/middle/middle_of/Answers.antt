use Rattle.std.proofs.Common.{◌-◌, ◌*◌, ◌+◌, ◌≤◌, pos, length, arith}
use Rattle.std.proofs.lemmas.List.Sorted.{All-permutation}
use Rattle.fr_base.specs.Within.{IsWithin}
use Rattle.fr_midpoint.proofs.ReadBack.{IsWithin-read, IsMidpoint-read}
use Rattle.fr_midpoint.proofs.middle.middle_of.Goals as goal

pub half_sum-requires-clause-low : goal.half_sum-requires-clause-low
half_sum-requires-clause-low c =
    let all = All-permutation (IsWithin (pos 2000000)) _ _ c.sort_unstable.ensures.permutation c.requires.within in
    let some : 2 * c.discarded_of-ends.result + 1 ≤ length c.sort_unstable.new.self = omega arith in
    IsWithin-read _ (all c.discarded_of-ends.result (pos 0) (omega arith))

pub half_sum-requires-clause-high : goal.half_sum-requires-clause-high
half_sum-requires-clause-high c =
    let all = All-permutation (IsWithin (pos 2000000)) _ _ c.sort_unstable.ensures.permutation c.requires.within in
    let some : 2 * c.discarded_of-ends.result + 1 ≤ length c.sort_unstable.new.self = omega arith in
    IsWithin-read _ (all (length c.sort_unstable.new.self - 1 - c.discarded_of-ends.result) (pos 0) (omega arith))

pub returns-clause-midpoint : goal.returns-clause-midpoint
returns-clause-midpoint c =
    IsMidpoint-read
    _
    _
    c.discarded_of-ends.result
    c.half_sum.result
    c.sort_unstable.ensures.permutation
    c.sort_unstable.ensures.sorted
    (All-permutation (IsWithin (pos 2000000)) _ _ c.sort_unstable.ensures.permutation c.requires.within)
    c.discarded_of-ends.ensures.value
    (omega arith)
    c.half_sum.ensures.within
    c.half_sum.ensures.value
