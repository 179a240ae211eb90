use Rattle.std.proofs.Common.{◌≡◌, rules, ◌∙◌, ap, sym, Ok, List}
use Rattle.fr_text.specs.Records.{FileRecord}
use Rattle.fr_script.specs.Draft.{repeated, IsScriptDraft}
use Rattle.fr_script.specs.Reasons.{deed_by}
use Rattle.fr_script.specs.declared.rows.DeedRow.{DeedRow}
use Rattle.fr_script.specs.declared.rows.Row.TheVariants as said
use Rattle.fr_script.proofs.Tables.{free_where, repeated_by}
use Rattle.fr_script.proofs.draft.Draft.take_deed.Goals as goal

pub returns-in_ok-put-in-Ok : goal.returns-in_ok-put-in-Ok
returns-in_ok-put-in-Ok c =
    let is : (done : List FileRecord) → IsScriptDraft c.args.self.now done → c.unless_free.result ≡ repeated (deed_by c.in-Ok.act.channel c.in-Ok.act.passage done) =
    λ done h. c.unless_free.ensures ∙ repeated_by c.in_ok-put-in-Ok.field-0 (deed_by c.in-Ok.act.channel c.in-Ok.act.passage done) (c.in_ok-put-in-Ok.ensures.free done h) in
    record {
      params = search rules;
      takes = record {
        why = λ done h. is done h ∙ sym (c.in-Ok.ensures.act.why done h);
        adds = λ done r h e none.
            c.in_ok-put-in-Ok.ensures.adds done r h (e ∙ ap (λ (d : DeedRow). Ok (said.Deed d)) c.in-Ok.ensures.act.same)
            (free_where (deed_by c.in-Ok.act.channel c.in-Ok.act.passage done) (sym (is done h) ∙ none));
      };
    }
