use Rattle.fr_time.proofs.Counting.{share-le, within_next}
use Rattle.std.proofs.Common.{◌≡◌, ◌≤◌, ◌+◌, ◌*◌, ◌/◌, arith}
use Rattle.fr_time.proofs.shares.Share.within.Goals as goal

pub invariant_of-result-clause-at_is : goal.invariant_of-result-clause-at_is
invariant_of-result-clause-at_is c =
    let s = c.args.self in
    (within_next s.count s.length s.parts s.whole s.part s.at s.rest c.args.rest s.some s.whole_is s.part_is s.at_is s.rest_is c.requires.rest c.requires.fits).0

pub invariant_of-result-clause-rest_is : goal.invariant_of-result-clause-rest_is
invariant_of-result-clause-rest_is c =
    let s = c.args.self in
    (within_next s.count s.length s.parts s.whole s.part s.at s.rest c.args.rest s.some s.whole_is s.part_is s.at_is s.rest_is c.requires.rest c.requires.fits).1

pub invariant_of-result-clause-at_to : goal.invariant_of-result-clause-at_to
invariant_of-result-clause-at_to c =
    let s = c.args.self in
    let at : s.at + s.whole ≡ (s.count + 1) * s.length / s.parts =
    (within_next s.count s.length s.parts s.whole s.part s.at s.rest c.args.rest s.some s.whole_is s.part_is s.at_is s.rest_is c.requires.rest c.requires.fits).0 in
    let more : s.count + 1 ≤ s.parts = omega (arith, c.requires.more) in
    omega (arith, at, share-le (s.count + 1) s.length s.parts more)
