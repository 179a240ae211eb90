use Rattle.std.specs.BTreeMap.{get}
use Rattle.fr_drift.specs.Keys.{delay_cmp, delay_key}
use Rattle.fr_drift.specs.Rows.{IsProperDelay}
use Rattle.fr_drift.proofs.Lines.{held-proper}
use Rattle.fr_drift.proofs.drift.Drift.delay_row.Goals as goal

pub returns-clause-proper : goal.returns-clause-proper
returns-clause-proper c =
    rw c.held_delay.ensures
    (held-proper IsProperDelay (λ from. get delay_cmp c.delays.result.now (delay_key c.args.sender c.args.receiver from)) c.args.cycle
    (λ from. c.delays.ensures.proper (delay_key c.args.sender c.args.receiver from)))
