use Rattle.std.proofs.Common.{◌≡◌, ℕ, ℤ, ◌<◌, ◌≤◌, FitsSigned, Option, w64, inl, sym, subst, arith, rules}
use Rattle.std.specs.Prelude.{nat_abs, IsSome}
use Rattle.std.proofs.lemmas.Int.{ints, to_z-of_z}
use Rattle.fr_skew.specs.Sweep.{greatest_within}
use Rattle.fr_skew.specs.declared.peak.Peak.{Peak}
use Rattle.fr_skew.proofs.Agreeing.{agree-stretch, agree-whole, Agree}
use Rattle.fr_skew.proofs.Sweep.{greatest_there, greatest_within-none}
use Rattle.fr_skew.proofs.stretches.swept_along.Goals as goal

pub loop-from-init : goal.loop-from-init
loop-from-init c = (omega arith, inl (sym (greatest_within-none c.args.grid.now c.args.cycle c.args.rows.now c.args.before)), c.requires.courses)

pub loop-from-preserved : goal.loop-from-preserved
loop-from-preserved c =
    let grid = c.args.grid.now in
    let cycle = c.args.cycle in
    let rows = c.args.rows.now in
    let known : ℤ = c.known_skew-known.result in
    let fits : FitsSigned w64 known = search rules in
    let same = to_z-of_z w64 known fits in
    let to : ℕ = c.next_end-to.result in
    let macros = c.macroticks-macros.ensures.number in
    let order : c.loop-from.from < to = c.next_end-to.ensures.order in
    let agree : Agree known c.loop-from.peak (greatest_within grid cycle rows c.args.before c.loop-from.from) =
    subst (λ (k : ℤ). Agree k c.loop-from.peak (greatest_within grid cycle rows c.args.before c.loop-from.from)) same c.loop-from.invariant.1 in (
      omega (arith, ints, macros, c.next_end-to.ensures.within),
      rw same
          (agree-stretch known grid cycle rows c.args.before c.loop-from.peak c.swept_or_left-peak.result c.loop-from.from to (omega (arith, order)) agree (simp to_z-of_z at c.swept_or_left-peak.ensures.skew)),
      c.swept_or_left-peak.ensures.courses,
    )

pub returns-clause-value : goal.returns-clause-value
returns-clause-value c =
    let grid = c.args.grid.now in
    let cycle = c.args.cycle in
    let rows = c.args.rows.now in
    let known : ℤ = c.known_skew-known.result in
    let fits : FitsSigned w64 known = search rules in
    let reached = c.known_skew-known.ensures in
    let value : c.macroticks-macros.result ≡ nat_abs grid.macros = c.macroticks-macros.ensures.value in
    let end : c.loop-from.from ≡ nat_abs grid.macros = omega (arith, value, c.loop-from.invariant.0, c.loop-from-test.false) in
    let agree : Agree known c.loop-from.peak (greatest_within grid cycle rows c.args.before (nat_abs grid.macros)) =
    subst (λ (m : ℕ). Agree known c.loop-from.peak (greatest_within grid cycle rows c.args.before m)) end
    (subst (λ (k : ℤ). Agree k c.loop-from.peak (greatest_within grid cycle rows c.args.before c.loop-from.from)) (to_z-of_z w64 known fits) c.loop-from.invariant.1) in
    agree-whole known grid cycle rows c.args.before c.loop-from.peak (nat_abs grid.macros) reached.macrotick reached.within reached.reached agree

pub returns-clause-there : goal.returns-clause-there
returns-clause-there c =
    let grid = c.args.grid.now in
    let P : Option Peak → Type 0 = IsSome in
    let some : 1 ≤ nat_abs grid.macros = omega (arith, c.macroticks-macros.ensures.value, c.macroticks-macros.ensures.some) in
    subst P (sym (returns-clause-value c)) (greatest_there grid c.args.cycle c.args.rows.now c.args.before (nat_abs grid.macros) some)
