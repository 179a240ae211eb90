use Rattle.std.proofs.Common.{◌≡◌, ◌∙◌, ℕ, ◌-◌, ℤ, FitsSigned, w64, ap, arith}
use Rattle.std.proofs.lemmas.Int.{ints, to_z-of_z}
use Rattle.fr_drift.specs.Questions.{length_of}
use Rattle.fr_drift.specs.View.{DriftView}
use Rattle.fr_node.specs.Listening.{first_of}
use Rattle.fr_air.proofs.Caught.{own-indexed}
use Rattle.fr_world.proofs.beginning.first.Goals as goal

pub first-requires-clause-reference : goal.first-requires-clause-reference
first-requires-clause-reference c =
    let l = c.requires.heard.listens in
    own-indexed c.args.files.now.params l.node c.args.listener.now.reference l.key

pub returns-clause-value : goal.returns-clause-value
returns-clause-value c =
    let a = c.args in
    let p = a.files.now.params in
    let l = a.listener.now in
    let even_fits : FitsSigned w64 c.length-even_length.result = omega (arith, ints, c.length-even_length.ensures.from, c.length-even_length.ensures.to) in
    let odd_fits : FitsSigned w64 c.length-odd_length.result = omega (arith, ints, c.length-odd_length.ensures.from, c.length-odd_length.ensures.to) in
    let made : c.first.result ≡ first_of p l a.cycle c.length-even_length.result c.length-odd_length.result = simp to_z-of_z at c.first.ensures.value in
    let even_is : c.length-even_length.result ≡ length_of a.files.now.drift l.id (a.cycle - 2) =
    c.length-even_length.ensures.value
    ∙ ap (λ (d : DriftView). length_of d c.id-id.result (a.cycle - 2)) c.drift.ensures
    ∙ ap (λ (id : ℕ). length_of a.files.now.drift id (a.cycle - 2)) c.id-id.ensures in
    let odd_is : c.length-odd_length.result ≡ length_of a.files.now.drift l.id (a.cycle - 1) =
    c.length-odd_length.ensures.value
    ∙ ap (λ (d : DriftView). length_of d c.id-id.result (a.cycle - 1)) c.drift-2.ensures
    ∙ ap (λ (id : ℕ). length_of a.files.now.drift id (a.cycle - 1)) c.id-id.ensures in
    made
    ∙ ap (λ (length : ℤ). first_of p l a.cycle length c.length-odd_length.result) even_is
    ∙ ap (first_of p l a.cycle (length_of a.files.now.drift l.id (a.cycle - 2))) odd_is
