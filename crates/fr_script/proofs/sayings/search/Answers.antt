use Rattle.std.proofs.Common.{◌<◌, ◌≤◌, ◌+◌, ◌-◌, ◌/◌, ◌∙◌, ℕ, ap, sym, length, arith, Some}
use Rattle.fr_script.specs.Sayings.{is_before}
use Rattle.fr_script.specs.declared.deed.Deed.{Deed}
use Rattle.fr_script.specs.declared.deeds.Passage.{Passage}
use Rattle.fr_script.proofs.InTurn.{all-after, all-before, found-nowhere, found-there}
use Rattle.fr_script.proofs.sayings.search.Goals as goal

pub loop-low-preserved-then-is_before : goal.loop-low-preserved-then-is_before
loop-low-preserved-then-is_before c =
    let middle : ℕ = c.loop-low.low + (c.loop-low.high - c.loop-low.low) / 2 in
    let within : middle < length c.args.rows.now = omega (arith, c.loop-low.invariant.0, c.loop-low-test.true) in
    let comes = ap (λ (e : Passage × Deed). is_before e.0 c.args.passage.now) (sym c.index-rows-middle.is) ∙ sym c.is_before.ensures ∙ c.if-is_before.true in (
      c.loop-low.invariant.0,
      (all-before c.args.rows.now middle c.args.passage.now c.index-rows-middle.result c.requires.turn within comes, c.loop-low.invariant.1.1),
    )

pub loop-low-preserved : goal.loop-low-preserved
loop-low-preserved c =
    let middle : ℕ = c.loop-low.low + (c.loop-low.high - c.loop-low.low) / 2 in
    let within : middle < length c.args.rows.now = omega (arith, c.loop-low.invariant.0, c.loop-low-test.true) in
    let comes = ap (λ (e : Passage × Deed). is_before c.args.passage.now e.0) (sym c.index-rows-middle.is) ∙ sym c.is_before-else-is_before.ensures ∙ c.if-is_before-2.true in (
      omega (arith, within),
      (c.loop-low.invariant.1.0, all-after c.args.rows.now middle c.args.passage.now c.index-rows-middle.result c.requires.turn within comes),
    )

pub returns-else-is_before-2 : goal.returns-else-is_before-2
returns-else-is_before-2 c =
    let middle : ℕ = c.loop-low.low + (c.loop-low.high - c.loop-low.low) / 2 in
    let within : middle < length c.args.rows.now = omega (arith, c.loop-low.invariant.0, c.loop-low-test.true) in
    let low = ap (λ (e : Passage × Deed). is_before e.0 c.args.passage.now) (sym c.index-rows-middle.is) ∙ sym c.is_before.ensures ∙ c.if-is_before.false in
    let high = ap (λ (e : Passage × Deed). is_before c.args.passage.now e.0) (sym c.index-rows-middle.is) ∙ sym c.is_before-else-is_before.ensures ∙ c.if-is_before-2.false in
    ap (λ (e : Passage × Deed). Some e.1) c.index-rows-middle.is
    ∙ sym (found-there c.args.passage.now c.args.rows.now middle c.index-rows-middle.result c.requires.turn within low high)

pub returns : goal.returns
returns c =
    let cross : c.loop-low.high ≤ c.loop-low.low = omega (arith, c.loop-low-test.false) in
    sym (found-nowhere c.args.passage.now c.args.rows.now c.loop-low.low c.loop-low.high cross c.loop-low.invariant.1.0 c.loop-low.invariant.1.1)
