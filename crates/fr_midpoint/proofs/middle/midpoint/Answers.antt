use Rattle.std.proofs.Common.{rules, pos, sym}
use Rattle.std.proofs.lemmas.List.{take_at}
use Rattle.std.proofs.lemmas.List.Elements.{All-same}
use Rattle.std.proofs.lemmas.List.Sorted.{All-permutation}
use Rattle.fr_base.specs.Within.{IsWithin}
use Rattle.fr_midpoint.specs.Midpoint.{IsMidpoint}
use Rattle.fr_midpoint.proofs.Found.{midpoint_of-is}
use Rattle.fr_midpoint.proofs.ReadBack.{to_z-of_z-within}
use Rattle.fr_midpoint.proofs.middle.midpoint.Goals as goal

-- the values are those that were there, in another order
pub invariant_of-values : goal.invariant_of-values
invariant_of-values c = (
  search rules,
  All-same
      (IsWithin (pos 2000000))
      _
      _
      (take_at c.middle_of.new.values _ c.values.inside.len (search rules))
      (All-permutation (IsWithin (pos 2000000)) _ _ c.middle_of.ensures.permutation c.values.invariant.1),
)

pub returns-clause-value : goal.returns-clause-value
returns-clause-value c =
    let is : IsMidpoint c.args.values.now c.middle_of.result = search rules in
    rw (to_z-of_z-within c.middle_of.result c.middle_of.ensures.within) (sym (midpoint_of-is c.args.values.now c.middle_of.result is))
