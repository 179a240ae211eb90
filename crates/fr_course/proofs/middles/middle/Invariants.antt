use Rattle.std.proofs.Common.{◌≡◌, IfSome, pos}
use Rattle.fr_course.specs.Middles.{middle}
use Rattle.fr_course.specs.Near.{EndWithin}
use Rattle.fr_course.proofs.middles.middle.Given as goal

-- with those that are missed so far
abbrev pub invariant-loop-missed : goal.invariant-loop-missed
invariant-loop-missed l = (l.all ≡ middle l.further l.missed l.known) × IfSome l.all (EndWithin (pos 21_000_000_000_000))
