use Rattle.std.proofs.Common.{◌≡◌, Some, None, sym, ◌∙◌, subst, refl}
use Rattle.fr_cluster.specs.Sane.{IsSane}
use Rattle.fr_trace.proofs.Taking.{fine-for, row-taken, why-same, why_next}
use Rattle.fr_trace.proofs.draft.Draft.take.Goals as goal

pub returns-in-Some : goal.returns-in-Some
returns-in-Some c =
    let p = c.args.params.now in
    let d = c.args.self.now in
    let sane : IsSane p = subst IsSane c.params.view_is c.params.invariant in
    let told : why_next p d c.args.row ≡ Some c.in-Some.why = sym c.reason.ensures ∙ c.in-Some.is in
    record {
      why = λ done h. sym told ∙ why-same p d done c.args.row (h p sane refl);
      adds = λ done r h says none. absurd (cc none);
    }

pub returns-in_ok-put-in-None : goal.returns-in_ok-put-in-None
returns-in_ok-put-in-None c =
    let p = c.args.params.now in
    let d = c.args.self.now in
    let sane : IsSane p = subst IsSane c.params.view_is c.params.invariant in
    let fine : why_next p d c.args.row ≡ None = sym c.reason.ensures ∙ c.in-None.is in
    record {
      why = λ done h. sym fine ∙ why-same p d done c.args.row (h p sane refl);
      adds = λ done r h says none. λ q good same.
          row-taken q d c.put.new.self done r c.args.row good (h q good same) says
          (fine-for p q d done r c.args.row (h p sane refl) (h q good same) same says fine) c.requires c.in_ok-put-in-None.ensures;
    }
