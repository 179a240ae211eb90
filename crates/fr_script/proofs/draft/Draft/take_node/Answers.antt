use Rattle.std.proofs.Common.{rules, ◌++◌, ◌∷◌, [], Bool, List, subst, sym}
use Rattle.fr_script.specs.Draft.{IsScriptDraft}
use Rattle.fr_script.proofs.Tables.{draft-node}
use Rattle.fr_script.proofs.draft.Draft.take_node.Goals as goal

pub returns : goal.returns
returns c = record {
  params = search rules;
  takes = record {
    why = search rules;
    adds = λ done r h e none.
        let P : List Bool → Type 0 = λ marks. IsScriptDraft (record c.args.self.now { arbitrary = marks }) (done ++ r ∷ []) in
        subst P (sym c.mark.ensures.marks) (draft-node c.args.self.now done r c.args.node h c.mark.ensures.low e);
  };
}
