use Rattle.std.proofs.Common.{◌≡◌, ◌∙◌, Bool, true, false, List, None, refl, sym}
use Rattle.std.specs.Prelude.{◌||◌}
use Rattle.fr_text.specs.Fields.{or_else}
use Rattle.fr_script.specs.Deeds.{deed_in, passage_of}
use Rattle.fr_script.specs.declared.deed.Deed.{Deed}
use Rattle.fr_script.specs.declared.deeds.Passage.{Passage}
use Rattle.fr_script.proofs.Asked.{both-deed}
use Rattle.fr_script.proofs.deeds.DeedTable.may_have.Goals as goal

neither : (a b : Bool) → (a || b) ≡ false → (a ≡ false) × (b ≡ false)
neither true b e = absurd (cc e)
neither false b e = (refl, e)

pub returns : goal.returns
returns c = λ off receiver cycle.
    let rows : List (Passage × Deed) = c.self.inside.rows.entries in
    let said : List (Passage × Deed) = c.self.inside.said in
    let passage : Passage = passage_of c.args.sender receiver cycle in
    let marks = neither _ _ (sym c.either_of.ensures ∙ off) in
    let row : deed_in rows passage ≡ None = c.self.invariant.0.silent passage (sym c.is_marked.ensures ∙ marks.0) in
    let saying : deed_in said passage ≡ None = c.self.invariant.1.silent passage (sym c.is_marked-2.ensures ∙ marks.1) in
    rw (← c.self.view_is) (both-deed rows said passage ∙ (λ i. or_else (row i) (saying i)))
