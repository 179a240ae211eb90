use Rattle.std.proofs.Common.{◌∙◌, refl}
use Rattle.std.specs.BTreeMap.{get}
use Rattle.fr_drift.specs.Keys.{length_cmp, length_key}
use Rattle.fr_drift.specs.Rows.{IsMicrotickLength}
use Rattle.fr_drift.specs.View.{length_rows}
use Rattle.fr_drift.proofs.Lines.{held-proper, held-same}
use Rattle.fr_drift.proofs.drift.Drift.length_row.Goals as goal

pub returns-clause-told : goal.returns-clause-told
returns-clause-told c =
    c.held_length.ensures
    ∙ held-same (λ from. get length_cmp c.self.inside.lengths (length_key c.args.node from)) (length_rows c.args.self.now c.args.node) c.args.cycle
    (λ from. rw (← c.self.view_is) refl)

pub returns-clause-proper : goal.returns-clause-proper
returns-clause-proper c =
    rw c.held_length.ensures
    (held-proper IsMicrotickLength (λ from. get length_cmp c.self.inside.lengths (length_key c.args.node from)) c.args.cycle
    (λ from. c.self.invariant.lengths (length_key c.args.node from)))
