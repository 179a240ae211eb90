use Rattle.std.proofs.Common.{◌≡◌, ℕ, ℤ, pos, ◌*◌, ◌≤◌, ap, sym, ◌∙◌, w64, to_z, of_z, arith}
use Rattle.std.specs.Prelude.{◌-ℤ◌, ◌*ℤ◌}
use Rattle.std.proofs.lemmas.Int.{ints}
use Rattle.fr_midpoint.proofs.Products.{mulz-subz}
use Rattle.fr_sightings.proofs.placing.stamped_behind.Goals as goal

apart_is : (unit stamp last : ℕ) → unit * stamp ≤ 900000000000000000 → unit * last ≤ 900000000000000000
    → to_z w64 (of_z w64 (to_z w64 (unit * stamp) -ℤ to_z w64 (unit * last))) ≡ pos (unit * stamp) -ℤ pos (unit * last)
apart_is unit stamp last one other = omega (arith, ints, one, other)

pub returns-clause-value : goal.returns-clause-value
returns-clause-value c =
    let unit = c.unit-unit.result in
    let judged : unit * c.args.judged.now.stamp ≤ 900000000000000000 = rw c.unit-unit.ensures.value c.requires.judged in
    let last : unit * c.args.last.now.stamp ≤ 900000000000000000 = rw c.unit-unit.ensures.value c.requires.last in
    apart_is unit c.args.judged.now.stamp c.args.last.now.stamp judged last
    ∙ sym (mulz-subz (pos c.args.judged.now.stamp) (pos c.args.last.now.stamp) (pos unit))
    ∙ ap (λ (n : ℕ). pos n *ℤ (pos c.args.judged.now.stamp -ℤ pos c.args.last.now.stamp)) c.unit-unit.ensures.value
