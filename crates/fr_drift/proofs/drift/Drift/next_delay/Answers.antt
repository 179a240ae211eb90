use Rattle.std.proofs.Common.{ℤ, pos, Option, ap}
use Rattle.std.specs.Prelude.{◌*ℤ◌, unwrap_or}
use Rattle.std.specs.BTreeMap.{get}
use Rattle.fr_drift.specs.Keys.{delay_cmp, delay_key}
use Rattle.fr_drift.specs.View.{compensation_on, delay_rows}
use Rattle.fr_drift.specs.Held.{IsNextRow}
use Rattle.fr_drift.specs.Questions.{delay_of}
use Rattle.fr_drift.proofs.Lines.{next-same, next-stays}
use Rattle.fr_drift.proofs.drift.Drift.next_delay.Goals as goal

next : (c : goal.After-next_delay_row) → IsNextRow (delay_rows c.args.self.now c.args.sender c.args.receiver c.args.channel) c.args.cycle c.args.end c.next_delay_row.result
next c =
    next-same (λ from. get delay_cmp c.delays.result.now (delay_key c.args.sender c.args.receiver from))
    (delay_rows c.args.self.now c.args.sender c.args.receiver c.args.channel) c.args.cycle c.args.end c.next_delay_row.result
    (λ from. c.delays.ensures.same c.args.sender c.args.receiver from) c.next_delay_row.ensures

pub returns : goal.returns
unfolding delay_of
returns c = record {
  next = next c;
  stays = λ k low high. ap (λ (o : Option ℤ). unwrap_or o (compensation_on c.args.self.now c.args.channel *ℤ pos 1_000_000))
      (next-stays (delay_rows c.args.self.now c.args.sender c.args.receiver c.args.channel) c.args.cycle c.args.end c.next_delay_row.result k (next c) low high);
}
