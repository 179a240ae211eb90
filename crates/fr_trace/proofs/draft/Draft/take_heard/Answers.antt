use Rattle.std.proofs.Common.{◌≡◌, Option, Some, None, ap, sym, ◌∙◌, subst, refl}
use Rattle.fr_base.specs.declared.reason.Reason.{Reason}
use Rattle.fr_cluster.specs.Sane.{IsSane}
use Rattle.fr_trace.specs.Reasons.{heard_reason}
use Rattle.fr_trace.specs.declared.rows.Row.{Row}
use Rattle.fr_trace.specs.declared.rows.Row.TheVariants as row
use Rattle.fr_trace.proofs.Taking.{fine-for, may_next, row-taken, why-same, why_next}
use Rattle.fr_trace.proofs.draft.Draft.take_heard.Goals as goal

pub returns-in-Some : goal.returns-in-Some
returns-in-Some c =
    let p = c.args.params.now in
    let d = c.args.self.now in
    let said : Row = row.Heard c.args.heard in
    let sane : IsSane p = subst IsSane c.params.view_is c.params.invariant in
    let comes = c.goes_on.ensures p _ _ _ _ _ in
    let told : why_next p d said ≡ Some c.in-Some.why = sym (c.heard_reason.ensures ∙ ap (heard_reason p c.args.heard) comes) ∙ c.in-Some.is in
    record {
      why = λ done h. sym told ∙ why-same p d done said (h p sane refl);
      adds = λ done r h says none. absurd (cc none);
    }

pub returns-in_ok-put_heard-in-None : goal.returns-in_ok-put_heard-in-None
returns-in_ok-put_heard-in-None c =
    let p = c.args.params.now in
    let d = c.args.self.now in
    let said : Row = row.Heard c.args.heard in
    let sane : IsSane p = subst IsSane c.params.view_is c.params.invariant in
    let comes = c.goes_on.ensures p _ _ _ _ _ in
    let fine : why_next p d said ≡ None = sym (c.heard_reason.ensures ∙ ap (heard_reason p c.args.heard) comes) ∙ c.in-None.is in
    record {
      why = λ done h. sym fine ∙ why-same p d done said (h p sane refl);
      adds = λ done r h says none. λ q good same.
          row-taken q d c.put_heard.new.self done r said good (h q good same) says
          (fine-for p q d done r said (h p sane refl) (h q good same) same says fine) c.requires c.in_ok-put_heard-in-None.ensures;
    }
