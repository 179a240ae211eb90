use Rattle.std.proofs.Common.{◌≡◌, ◌∙◌, ℕ, ℤ, pos, ◌+◌, ◌-◌, ◌≤◌, FitsSigned, List, Option, Some, w64, to_z, of_z, inl, map, ap, sym, subst, arith, rules}
use Rattle.std.proofs.lemmas.Int.{ints, to_z-of_z}
use Rattle.fr_skew.specs.Courses.{courses_at, gone_on, gone_to, next_instant}
use Rattle.fr_skew.specs.Spreads.{spread_at, spread_of}
use Rattle.fr_skew.specs.Stretches.{IsNoGreater}
use Rattle.fr_skew.specs.Sweep.{greater_of, greatest_after}
use Rattle.fr_skew.specs.declared.courses.Course.{Course}
use Rattle.fr_skew.specs.declared.peak.Peak.{Peak}
use Rattle.fr_skew.proofs.Agreeing.{after-kept, after-next, after-none}
use Rattle.fr_skew.proofs.Coursing.{all_can_go, all_can_go_on, all_gone_on, all_gone_to, spread_along}
use Rattle.fr_skew.proofs.stretches.swept_or_left.Goals as goal

pub returns-then-is_no_greater-clause-skew : goal.returns-then-is_no_greater-clause-skew
returns-then-is_no_greater-clause-skew c =
    let bound : ℤ = c.stretch_bound-bound.result in
    let fits : FitsSigned w64 bound = search rules in
    let same : to_z w64 (of_z w64 bound) ≡ bound = to_z-of_z w64 bound fits in
    let no_greater : IsNoGreater bound c.args.before = subst (λ (x : ℤ). IsNoGreater x c.args.before) same (c.is_no_greater.ensures c.if-is_no_greater.true) in
    inl (after-kept c.args.grid.now c.args.cycle c.args.rows.now bound c.args.before c.args.from c.args.to (omega (arith, c.requires.stretch.order)) no_greater c.stretch_bound-bound.ensures)

pub go_all-requires : goal.go_all-requires
go_all-requires c =
    let grid = c.args.grid.now in
    all_can_go grid c.args.cycle c.args.rows.now c.args.courses.now (pos c.args.from) c.requires.rows
    (omega (arith, ints, c.requires.stretch.order, c.requires.stretch.within)) c.requires.courses

pub loop-macrotick-init : goal.loop-macrotick-init
loop-macrotick-init c =
    let grid = c.args.grid.now in
    let cycle = c.args.cycle in
    let rows = c.args.rows.now in
    let from = c.args.from in
    let known = c.requires.courses in
    let none : from - from ≡ 0 = omega arith in (
      omega arith,
      sym (ap (greatest_after grid cycle rows c.args.before from) none ∙ after-none grid cycle rows c.args.before from),
      c.go_all.ensures ∙ ap (map (gone_to (pos from))) known.are ∙ all_gone_to grid cycle rows known.macrotick (pos from),
    )

pub next_spread-skew-requires : goal.next_spread-skew-requires
next_spread-skew-requires c =
    all_can_go_on c.args.grid.now c.args.cycle c.args.rows.now c.loop-macrotick.courses (pos c.loop-macrotick.macrotick) c.requires.rows
    (omega (arith, ints, c.requires.stretch.within)) c.loop-macrotick.invariant.2

pub loop-macrotick-preserved : goal.loop-macrotick-preserved
loop-macrotick-preserved c =
    let grid = c.args.grid.now in
    let cycle = c.args.cycle in
    let rows = c.args.rows.now in
    let before = c.args.before in
    let from = c.args.from in
    let macrotick = c.loop-macrotick.macrotick in
    let count : ℕ = macrotick - from in
    let above : from ≤ macrotick = c.loop-macrotick.invariant.0 in
    let more : macrotick + 1 - from ≡ count + 1 = omega (arith, above) in
    let here : from + count ≡ macrotick = omega (arith, above) in
    let are : c.loop-macrotick.courses ≡ courses_at grid cycle rows (pos macrotick) = c.loop-macrotick.invariant.2 in
    let fits : FitsSigned w64 c.next_spread-skew.result = search rules in
    let skew : c.next_spread-skew.result ≡ spread_at grid cycle rows macrotick =
    c.next_spread-skew.ensures.value ∙ ap (λ (courses : List Course). spread_of (map next_instant courses)) are ∙ spread_along grid cycle rows macrotick in
    let best : c.greater.result ≡ greater_of c.loop-macrotick.peak (record { skew = c.next_spread-skew.result; cycle = cycle; macrotick = macrotick }) =
    simp to_z-of_z at c.greater.ensures in (
      omega (arith, above),
      ap Some best
          ∙ ap (λ (o : Option Peak). Some (greater_of o (record { skew = c.next_spread-skew.result; cycle = cycle; macrotick = macrotick }))) c.loop-macrotick.invariant.1
          ∙ ap (λ (x : ℤ). Some (greater_of (greatest_after grid cycle rows before from count) (record { skew = x; cycle = cycle; macrotick = macrotick }))) skew
          ∙ ap (λ (k : ℕ). Some (greater_of (greatest_after grid cycle rows before from count) (record { skew = spread_at grid cycle rows k; cycle = cycle; macrotick = k }))) (sym here)
          ∙ sym (after-next grid cycle rows before from count)
          ∙ ap (greatest_after grid cycle rows before from) (sym more),
      c.next_spread-skew.ensures.after ∙ ap (map gone_on) are ∙ all_gone_on grid cycle rows macrotick,
    )
