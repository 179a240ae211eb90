use Rattle.std.proofs.Common.{◌≡◌, to_z, of_z, w32, arith, inr}
use Rattle.std.proofs.lemmas.Int.{ints, to_z-of_z}
use Rattle.std.proofs.lemmas.Grind.{common_steps}
use Rattle.fr_correct.proofs.term.rate_term.Goals as goal

pub returns-in-Some-clause-term : goal.returns-in-Some-clause-term
returns-in-Some-clause-term c =
    inr (c.in-Some.mid, c.in-Some.ensures.midpoint, grind (arith, ints, to_z-of_z, c.cut.ensures.term, c.rate_before.ensures))

pub returns-in-Some-clause-tells : goal.returns-in-Some-clause-tells
returns-in-Some-clause-tells c =
    let back : to_z w32 (of_z w32 c.args.limit) ≡ c.args.limit = omega (arith, ints) in
    record {
      missing = grind (arith, common_steps);
      exceeded = rw back at c.cut.ensures.exceeded;
      within = rw back at c.cut.ensures.within;
    }
