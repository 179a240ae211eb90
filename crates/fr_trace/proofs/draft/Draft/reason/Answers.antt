use Rattle.std.proofs.Common.{◌∙◌}
use Rattle.fr_trace.specs.Order.{may_come_next}
use Rattle.fr_trace.specs.Reasons.{row_reason}
use Rattle.fr_trace.proofs.draft.Draft.reason.Goals as goal

pub returns : goal.returns
returns c =
    let p = c.args.params.now in
    let d = c.args.self.now in
    let said = c.args.row.now in
    let far = c.so_far-so_far.ensures in
    let comes = c.may_follow-comes.ensures ∙ (λ i. may_come_next p (far.doubles i) (far.named i) (far.joins i) (far.before i) (far.here i) d.last said) in
    c.row_reason.ensures ∙ (λ i. row_reason p (far.named i) (far.joins i) said (comes i))
