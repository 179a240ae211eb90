use Rattle.std.proofs.Common.{◌≡◌, List, ℕ, ◌++◌, ap, sym, ◌∙◌, subst}
use Rattle.std.specs.List.{flat_map}
use Rattle.fr_base.specs.Device.{Puts}
use Rattle.fr_base.proofs.Putting.{cut, then}
use Rattle.fr_cluster.specs.Values.{Values}
use Rattle.fr_coverage.specs.Decided.{setting_of}
use Rattle.fr_drift.specs.Questions.{doubles_of}
use Rattle.fr_script.specs.View.{is_arbitrary, join_of}
use Rattle.fr_text.specs.Pieces.{line}
use Rattle.fr_trace.specs.Text.{arbitrary_in, arbitrary_text, head_text, join_text, joining_in, joins_text, named_text, doubles_text}
use Rattle.fr_trace.specs.declared.trace.TracedJoin.{TracedJoin}
use Rattle.fr_trace.proofs.Lines.{joins-filter, named-filter}
use Rattle.fr_trace.proofs.writing.write_head.Goals as goal

pub returns-in_err-put_line : goal.returns-in_err-put_line
unfolding head_text
returns-in_err-put_line g c =
    let x = setting_of c.args.params.now c.args.drift.now c.args.script.now in
    let text : c.spell_run.new.spelt ≡ line (doubles_text (doubles_of c.args.drift.now)) = c.spell_run.ensures ∙ ap (λ (n : ℕ). line (doubles_text n)) c.doubles.ensures.value in
    let rest = flat_map (λ (node : ℕ). line (arbitrary_text node)) (arbitrary_in x) ++ flat_map (λ (j : TracedJoin). line (join_text j)) (joining_in x) in
    let P : List ℕ → Type 0 = λ l. Puts c.from_residual.result (g.O.Sink.state c.args.out.now) (g.O.Sink.state c.put_line.new.out) (l ++ rest) in
    subst P text (cut c.from_residual.result rest c.in_err-put_line.ensures c.from_residual.ensures.0)

pub returns : goal.returns
unfolding head_text
returns g c =
    let x = setting_of c.args.params.now c.args.drift.now c.args.script.now in
    let text : c.spell_run.new.spelt ≡ line (doubles_text (doubles_of c.args.drift.now)) = c.spell_run.ensures ∙ ap (λ (n : ℕ). line (doubles_text n)) c.doubles.ensures.value in
    let nodes = c.params.inside.nodes in
    let are : nodes ≡ c.args.params.now.nodes = ap (λ (p : Values). p.nodes) c.params.view_is in
    let named : named_text (is_arbitrary c.args.script.now) nodes ≡ flat_map (λ (node : ℕ). line (arbitrary_text node)) (arbitrary_in x) =
    ap (named_text (is_arbitrary c.args.script.now)) are ∙ sym (named-filter (is_arbitrary c.args.script.now) c.args.params.now.nodes)
    in
    let joins : joins_text (join_of c.args.script.now) nodes ≡ flat_map (λ (j : TracedJoin). line (join_text j)) (joining_in x) =
    ap (joins_text (join_of c.args.script.now)) are ∙ sym (joins-filter (join_of c.args.script.now) c.args.params.now.nodes)
    in
    let P : List ℕ → List ℕ → Type 0 = λ l m. Puts c.put_members.result (g.O.Sink.state c.args.out.now) (g.O.Sink.state c.put_members.new.out) (l ++ m) in
    subst (λ m. P (line (doubles_text (doubles_of c.args.drift.now))) m) (λ i. named i ++ joins i)
    (subst (λ l. P l (named_text (is_arbitrary c.args.script.now) nodes ++ joins_text (join_of c.args.script.now) nodes)) text (then c.put_members.result c.in_ok-put_line.ensures c.put_members.ensures))
