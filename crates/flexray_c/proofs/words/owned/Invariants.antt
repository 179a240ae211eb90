use Rattle.std.proofs.Common.{◌≡◌, map, take, string_bytes}
use Rattle.fr_program.specs.Program.{texts}
use Rattle.flexray_c.proofs.words.owned.Given as goal

abbrev pub invariant-part : goal.invariant-part
invariant-part l = texts l.words.items ≡ map (λ part. part.now) (take l.part-index l.parts)
