use Rattle.std.proofs.Common.{◌≡◌, List, length, ap, arith}
use Rattle.fr_trace.specs.declared.trace.TracedJoin.{TracedJoin}
use Rattle.fr_check.proofs.checking.first_number.Goals as goal

pub returns-clause-most : goal.returns-clause-most
returns-clause-most c =
    let few = c.doubles-doubles.ensures.sane.joins_few in
    let named = c.arbitrary.ensures.most in
    let count = c.from.ensures in
    let joins : length c.joins.result.now ≡ length c.args.trace.now.joins = ap (λ (l : List TracedJoin). length l) c.joins.ensures in
    omega arith
