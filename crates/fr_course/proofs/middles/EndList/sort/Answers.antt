use Rattle.std.proofs.Common.{pos, rules}
use Rattle.std.proofs.lemmas.List.{take_at}
use Rattle.std.proofs.lemmas.List.Elements.{All-same}
use Rattle.std.proofs.lemmas.List.Sorted.{All-permutation}
use Rattle.fr_base.specs.Within.{IsWithin}
use Rattle.fr_course.proofs.middles.EndList.sort.Goals as goal

-- the ends are those that were there, in another order
pub invariant_of-self : goal.invariant_of-self
invariant_of-self c = (
  search rules,
  All-same
      (IsWithin (pos 21_000_000_000_000))
      _
      _
      (take_at c.sort_unstable.new.self _ c.self.inside.used (search rules))
      (All-permutation (IsWithin (pos 21_000_000_000_000)) _ _ c.sort_unstable.ensures.permutation c.self.invariant.1),
)
