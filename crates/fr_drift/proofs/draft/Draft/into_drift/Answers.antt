use Rattle.std.proofs.Common.{◌≡◌, ◌∙◌, rules}
use mir.Val.{to_z, of_z}
use mir.Syntax.{w64}
use Rattle.std.proofs.lemmas.Int.{to_z-of_z}
use Rattle.fr_drift.proofs.Making.{made, sane-made, stands-made}
use Rattle.fr_drift.proofs.draft.Draft.into_drift.Goals as goal

pub invariant_of-result : goal.invariant_of-result
unfolding made
invariant_of-result c =
    let a : to_z w64 (of_z w64 c.compensation.result) ≡ c.compensation.result = to_z-of_z w64 c.compensation.result (search rules) in
    let b : to_z w64 (of_z w64 c.compensation-2.result) ≡ c.compensation-2.result = to_z-of_z w64 c.compensation-2.result (search rules) in
    sane-made c.args.doubles _ _ c.args.self c.requires.proper c.requires.told
    (rw a (record { from = c.compensation.ensures.from; to = c.compensation.ensures.to }))
    (rw b (record { from = c.compensation-2.ensures.from; to = c.compensation-2.ensures.to }))

pub returns : goal.returns
unfolding made
returns c = λ records h.
    let a : to_z w64 (of_z w64 c.compensation.result) ≡ c.compensation.result = to_z-of_z w64 c.compensation.result (search rules) in
    let b : to_z w64 (of_z w64 c.compensation-2.result) ≡ c.compensation-2.result = to_z-of_z w64 c.compensation-2.result (search rules) in
    stands-made c.args.params.now c.args.doubles _ _ c.args.self records h c.requires.told (a ∙ c.compensation.ensures.value) (b ∙ c.compensation-2.ensures.value)
