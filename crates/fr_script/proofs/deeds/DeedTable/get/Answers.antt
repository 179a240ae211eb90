use Rattle.std.proofs.Common.{◌≡◌, ◌∙◌, List, Option, None, Some, ap, sym}
use Rattle.std.specs.Option.{option_copied}
use Rattle.fr_text.specs.Fields.{or_else}
use Rattle.fr_script.specs.Deeds.{deed_in}
use Rattle.fr_script.specs.declared.deed.Deed.{Deed}
use Rattle.fr_script.specs.declared.deeds.Passage.{Passage}
use Rattle.fr_script.proofs.Asked.{both-deed}
use Rattle.fr_script.proofs.deeds.DeedTable.get.Goals as goal

pub returns-in-Some : goal.returns-in-Some
returns-in-Some c =
    let rows : List (Passage × Deed) = c.self.inside.rows.entries in
    let said : List (Passage × Deed) = c.self.inside.said in
    let own : deed_in rows c.args.passage.now ≡ Some c.in-Some.deed.now = sym c.row_at.ensures ∙ ap option_copied c.in-Some.is in
    rw (← c.self.view_is) (sym (both-deed rows said c.args.passage.now ∙ ap (λ (o : Option Deed). or_else o (deed_in said c.args.passage.now)) own))

pub returns-in-None : goal.returns-in-None
returns-in-None c =
    let rows : List (Passage × Deed) = c.self.inside.rows.entries in
    let said : List (Passage × Deed) = c.self.inside.said in
    let none : deed_in rows c.args.passage.now ≡ None = sym c.row_at.ensures ∙ ap option_copied c.in-None.is in
    rw (← c.self.view_is) (c.saying_at.ensures ∙ sym (both-deed rows said c.args.passage.now ∙ ap (λ (o : Option Deed). or_else o (deed_in said c.args.passage.now)) none))
