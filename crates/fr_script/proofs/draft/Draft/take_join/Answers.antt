use Rattle.std.proofs.Common.{◌≡◌, rules, ◌++◌, ◌∷◌, [], Bool, true, List, Option, None, Some, slice_set, subst, sym}
use Rattle.fr_cluster.specs.declared.join.Join.{Join}
use Rattle.fr_text.specs.Records.{FileRecord}
use Rattle.fr_script.specs.Draft.{IsScriptDraft}
use Rattle.fr_script.specs.Reasons.{join_reason}
use Rattle.fr_script.proofs.Joining.{joins-first}
use Rattle.fr_script.proofs.Tables.{draft-join}
use Rattle.fr_script.proofs.draft.Draft.take_join.Goals as goal

pub returns : goal.returns
returns c =
    let p = c.args.self.now.params.now in
    let why : (done : List FileRecord) → IsScriptDraft c.args.self.now done → None ≡ join_reason p done c.args.row.now = search rules in
    record {
      params = search rules;
      takes = record {
        why = why;
        adds = λ done r h e none.
            let P : List (Option Join) → Type 0 = λ joins. IsScriptDraft (record c.args.self.now { joins = joins; references = c.mark.new.marks; acted = true }) (done ++ r ∷ []) in
            let Q : List Bool → Type 0 = λ marks. IsScriptDraft (record c.args.self.now { joins = slice_set c.args.self.now.joins c.args.row.now.node (Some c.args.row.now.join); references = marks; acted = true }) (done ++ r ∷ []) in
            subst P (sym c.note.ensures.noted)
            (subst Q (sym c.mark.ensures.marks)
            (draft-join c.args.self.now done r c.args.row.now h c.note.ensures.low c.mark.ensures.low e (joins-first p done c.args.row.now (why done h))));
      };
    }
