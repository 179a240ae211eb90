use Rattle.std.proofs.Common.{rules, ◌++◌, ◌∷◌, [], Bool, List, subst, sym}
use Rattle.fr_log.specs.Draft.{IsLogDraft}
use Rattle.fr_log.proofs.Tables.{draft-more, with-node}
use Rattle.fr_log.proofs.draft.Draft.take_node.Goals as goal

pub returns : goal.returns
returns c = record {
  params = search rules;
  takes = record {
    why = search rules;
    adds = λ done r h e none.
        let P : List Bool → Type 0 = λ marks. IsLogDraft (record c.args.self.now { arbitrary = marks }) (done ++ r ∷ []) in
        subst P (sym c.mark.ensures.marks) (draft-more c.args.self.now _ done r _ h e (with-node c.args.self.now done c.args.node h c.mark.ensures.low));
  };
}
