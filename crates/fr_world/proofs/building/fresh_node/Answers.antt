use Rattle.std.proofs.Common.{◌≡◌, ◌∙◌, ℤ, FitsSigned, w32, w64, pos, ap, sym, subst, arith}
use Rattle.std.proofs.lemmas.Int.{ints, to_z-of_z}
use Rattle.fr_base.specs.Within.{IsBetween}
use Rattle.fr_drift.specs.Questions.{rate_of, start_of}
use Rattle.fr_drift.specs.View.{DriftView}
use Rattle.fr_node.specs.Cycle.{fresh}
use Rattle.fr_node.specs.View.{NodeView}
use Rattle.fr_history.specs.Terms.{outcomes_in}
use Rattle.fr_air.specs.Nodes.{outcomes_after, readings_after}
use Rattle.fr_world.proofs.building.fresh_node.Goals as goal

pub returns-clause-node : goal.returns-clause-node
unfolding readings_after outcomes_in outcomes_after
returns-clause-node c =
    let p = c.args.files.now.params in
    let id = c.args.spec.now.id in
    let start : FitsSigned w64 c.start-start.result = omega (arith, ints) in
    let rate : FitsSigned w32 c.rate-rate.result = omega (arith, ints) in
    let made : c.new.result ≡ fresh p id c.start-start.result c.rate-rate.result = simp to_z-of_z at c.new.ensures.value in
    made
    ∙ ap (λ (start : ℤ). fresh p id start c.rate-rate.result) (c.start-start.ensures.value ∙ ap (λ (d : DriftView). start_of d id) c.drift.ensures)
    ∙ ap (λ (rate : ℤ). fresh p id (start_of c.args.files.now.drift id) rate) (c.rate-rate.ensures.value ∙ ap (λ (d : DriftView). rate_of d id) c.drift-2.ensures)

pub returns-clause-early : goal.returns-clause-early
returns-clause-early c = λ none.
    let p = c.args.files.now.params in
    let id = c.args.spec.now.id in
    let start : FitsSigned w64 c.start-start.result = omega (arith, ints) in
    let rate : FitsSigned w32 c.rate-rate.result = omega (arith, ints) in
    let made : c.new.result ≡ fresh p id c.start-start.result c.rate-rate.result = simp to_z-of_z at c.new.ensures.value in
    let P : ℤ → Type 0 = λ start. IsBetween (pos 0) (pos 1_000_000_000_000) start in
    let from = c.start-start.ensures.from in
    let to = c.start-start.ensures.to in
    subst P (sym (ap (λ (n : NodeView). n.start) made)) (record { low = omega (arith, ints, from); high = omega (arith, ints, to) })
