use Rattle.std.proofs.Common.{◌∙◌, ◌++◌, ap, List}
use Rattle.fr_script.specs.Deeds.{in_order}
use Rattle.fr_script.specs.declared.deed.Deed.{Deed}
use Rattle.fr_script.specs.declared.deeds.Passage.{Passage}
use Rattle.fr_script.proofs.Asked.{ordered-nil}
use Rattle.fr_script.proofs.Marks.{marks-none}
use Rattle.fr_script.proofs.deeds.DeedTable.new.Goals as goal

pub returns : goal.returns
returns c =
    ap (λ (es : List (Passage × Deed)). in_order (es ++ c.new.result)) c.new-2.ensures.empty
    ∙ ap (λ (es : List (Passage × Deed)). in_order es) c.new.ensures
    ∙ ordered-nil

pub invariant_of-result : goal.invariant_of-result
invariant_of-result c = (rw c.new-2.ensures.empty marks-none, rw c.new.ensures marks-none)
