use Rattle.std.proofs.Common.{◌≡◌, FitsSigned, ℤ, pos, to_z, of_z, w64, ap, sym, subst, arith}
use Rattle.std.specs.Prelude.{◌≤ℤ◌, ◌-ℤ◌}
use Rattle.std.proofs.lemmas.Int.{ints, to_z-of_z}
use Rattle.fr_time.specs.Counted.{IsCounted}
use Rattle.fr_time.specs.Walk.{IsWalk, Walk}
use Rattle.fr_time.proofs.Walking.{placed_anew}
use Rattle.fr_time.proofs.macroticks.Macro.go.Goals as goal

pub early_count-requires-clause-grid : goal.early_count-requires-clause-grid
early_count-requires-clause-grid c = c.self.invariant.0.is_placeable.is_grid

pub early_count-requires-clause-macrotick : goal.early_count-requires-clause-macrotick
early_count-requires-clause-macrotick c =
    let fits : FitsSigned w64 c.args.macrotick = c.ranges.macrotick in
    let Within : Walk → Type 0 = λ w. c.args.macrotick ≤ℤ w.grid.macros in
    rw (to_z-of_z w64 c.args.macrotick fits) (record { low = c.requires.low; high = subst Within (sym c.self.view_is) c.requires.high })

pub late_count-requires-clause-grid : goal.late_count-requires-clause-grid
late_count-requires-clause-grid c = c.self.invariant.0.is_placeable.is_grid

pub late_count-requires-clause-macrotick : goal.late_count-requires-clause-macrotick
late_count-requires-clause-macrotick c =
    let fits : FitsSigned w64 c.args.macrotick = c.ranges.macrotick in
    let Within : Walk → Type 0 = λ w. c.args.macrotick ≤ℤ w.grid.macros in
    rw (to_z-of_z w64 c.args.macrotick fits) (record { low = c.requires.low; high = subst Within (sym c.self.view_is) c.requires.high })

pub placed-self-inside-requires : goal.placed-self-inside-requires
placed-self-inside-requires c = omega (arith, ints, c.early_count.ensures.within, c.self.invariant.1.early_parts)

pub placed-self-inside-requires-2 : goal.placed-self-inside-requires-2
placed-self-inside-requires-2 c = omega (arith, ints, c.late_count.ensures.within, c.self.invariant.1.late_parts)

pub invariant_of-self : goal.invariant_of-self
invariant_of-self c =
    let s = c.self.inside in
    let m : ℤ = c.args.macrotick in
    let fits : FitsSigned w64 m = c.ranges.macrotick in
    let same : to_z w64 (of_z w64 m) ≡ m = to_z-of_z w64 m fits in
    let walk : Walk = record { grid = s.grid; rate = s.rate; offset = s.offset; odd = s.odd; next = s.next } in
    let walks : IsWalk walk = c.self.invariant.0 in
    let counted : IsCounted walk s.start s.early s.late = c.self.invariant.1 in
    let early = c.placed-self-inside.ensures in
    let late = c.placed-self-inside-2.ensures in
    let early_is : pos c.early_count.result ≡ m = simp to_z-of_z at c.early_count.ensures.number in
    let none : m ≤ℤ s.grid.correction → c.late_count.result ≡ 0 = simp to_z-of_z at c.late_count.ensures.none in
    let some : s.grid.correction ≤ℤ m → pos c.late_count.result ≡ m -ℤ s.grid.correction = simp to_z-of_z at c.late_count.ensures.some in
    let Within : Walk → Type 0 = λ w. m ≤ℤ w.grid.macros in
    let to : m ≤ℤ s.grid.macros = subst Within (sym c.self.view_is) c.requires.high in
    rw same
    (placed_anew walk s.start m s.early s.late c.placed-self-inside.result c.placed-self-inside-2.result walks counted c.requires.low to
    early.length early.parts (rw early.count early_is) late.length late.parts
    (λ below. rw late.count (none below)) (λ above. rw late.count (some above)))

pub returns : goal.returns
returns c =
    let s = c.self.inside in
    let fits : FitsSigned w64 c.args.macrotick = c.ranges.macrotick in
    let moved : ℤ → Walk = λ at. record { grid = s.grid; rate = s.rate; offset = s.offset; odd = s.odd; next = at } in
    rw (← c.self.view_is) (ap moved (to_z-of_z w64 c.args.macrotick fits))
