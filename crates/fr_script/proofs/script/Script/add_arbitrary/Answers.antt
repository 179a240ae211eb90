use Rattle.std.proofs.Common.{sym, subst}
use Rattle.fr_script.specs.View.{ScriptView}
use Rattle.fr_script.specs.Fields.{seen_of}
use Rattle.fr_script.specs.Written.{arbitrary_record}
use Rattle.fr_script.specs.Adding.{HasScriptRecord, TakesScriptRecord}
use Rattle.fr_script.proofs.Adding.{adds-arbitrary}
use Rattle.fr_script.proofs.script.Script.add_arbitrary.Goals as goal

pub returns-clause-adds : goal.returns-clause-adds
returns-clause-adds c =
    let taken : TakesScriptRecord c.args.params.now (seen_of c.self.inside) (arbitrary_record c.args.node) =
    subst (λ (s : ScriptView). TakesScriptRecord c.args.params.now s (arbitrary_record c.args.node)) (sym c.self.view_is) c.requires
    in
    subst (λ (s : ScriptView). HasScriptRecord c.args.params.now s (record (seen_of c.self.inside) { arbitrary = c.mark.new.marks }) (arbitrary_record c.args.node)) c.self.view_is
    (adds-arbitrary c.args.params.now (seen_of c.self.inside) c.args.node c.mark.new.marks c.mark.ensures.low c.mark.ensures.from c.mark.ensures.marks taken)
