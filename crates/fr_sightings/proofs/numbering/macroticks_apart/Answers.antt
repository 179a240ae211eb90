use Rattle.std.proofs.Common.{◌≡◌, ℤ, pos, sym, subst, FitsSigned, w64, arith}
use Rattle.std.specs.Prelude.{◌+ℤ◌, ◌*ℤ◌}
use Rattle.std.proofs.lemmas.Int.{ints, to_z-of_z}
use Rattle.fr_base.specs.Within.{IsWithin}
use Rattle.fr_sightings.proofs.Quotients.{product_within}
use Rattle.fr_sightings.proofs.numbering.macroticks_apart.Goals as goal

pub returns-clause-value : goal.returns-clause-value
returns-clause-value c =
    let cycles : FitsSigned w64 c.args.cycles = c.ranges.cycles in
    let macros : FitsSigned w64 c.args.macros = c.ranges.macros in
    let near : IsWithin (pos 512000) (c.args.cycles *ℤ c.args.macros) =
    product_within c.args.cycles c.args.macros (pos 32) (pos 16000) c.requires.cycles (omega (arith, ints, c.requires.macros.low)) c.requires.macros.high in
    rw (to_z-of_z w64 c.args.cycles cycles, to_z-of_z w64 c.args.macros macros)
    (omega (arith, ints, near.low, near.high, c.requires.macroticks.low, c.requires.macroticks.high))

pub returns-clause-within : goal.returns-clause-within
returns-clause-within c =
    let near : IsWithin (pos 512000) (c.args.cycles *ℤ c.args.macros) =
    product_within c.args.cycles c.args.macros (pos 32) (pos 16000) c.requires.cycles (omega (arith, ints, c.requires.macros.low)) c.requires.macros.high in
    let within : IsWithin (pos 600000) ((c.args.cycles *ℤ c.args.macros) +ℤ c.args.macroticks) =
    record {
      low = omega (arith, ints, near.low, near.high, c.requires.macroticks.low, c.requires.macroticks.high);
      high = omega (arith, ints, near.low, near.high, c.requires.macroticks.low, c.requires.macroticks.high);
    } in
    subst (IsWithin (pos 600000)) (sym (returns-clause-value c)) within
