use Rattle.fr_time.proofs.Counting.{share-le, over_next}
use Rattle.std.proofs.Common.{◌≡◌, ◌≤◌, ◌+◌, ◌*◌, ◌/◌, arith}
use Rattle.fr_time.proofs.shares.Share.over.Goals as goal

pub invariant_of-result-clause-at_is : goal.invariant_of-result-clause-at_is
invariant_of-result-clause-at_is c =
    let s = c.args.self in
    (over_next s.count s.length s.parts s.whole s.part s.at s.rest c.args.rest s.some s.whole_is s.part_is s.at_is s.rest_is c.requires.rest c.requires.over).0

pub invariant_of-result-clause-rest_is : goal.invariant_of-result-clause-rest_is
invariant_of-result-clause-rest_is c =
    let s = c.args.self in
    (over_next s.count s.length s.parts s.whole s.part s.at s.rest c.args.rest s.some s.whole_is s.part_is s.at_is s.rest_is c.requires.rest c.requires.over).1

pub invariant_of-result-clause-at_to : goal.invariant_of-result-clause-at_to
invariant_of-result-clause-at_to c =
    let s = c.args.self in
    let at : s.at + s.whole + 1 ≡ (s.count + 1) * s.length / s.parts =
    (over_next s.count s.length s.parts s.whole s.part s.at s.rest c.args.rest s.some s.whole_is s.part_is s.at_is s.rest_is c.requires.rest c.requires.over).0 in
    let more : s.count + 1 ≤ s.parts = omega (arith, c.requires.more) in
    omega (arith, at, share-le (s.count + 1) s.length s.parts more)
