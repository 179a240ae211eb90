use Rattle.std.proofs.Common.{◌≡◌, ℕ, ap, sym, subst}
use Rattle.std.specs.BTreeMap.{get}
use Rattle.fr_drift.specs.Keys.{delay_cmp, delay_key}
use Rattle.fr_drift.specs.Held.{IsNextRow}
use Rattle.fr_drift.specs.declared.keys.DelayKey.{DelayKey}
use Rattle.fr_drift.proofs.Lines.{delay-line, first-next, first-none}
use Rattle.fr_drift.proofs.spans.next_delay_row.Goals as goal

pub returns-in-Some : goal.returns-in-Some
returns-in-Some c =
    let next = first-next (delay-line c.args.sender c.args.receiver) (get delay_cmp c.args.rows.now) c.args.cycle c.args.end c.in-Some.key c.in-Some.ensures in
    let same : next.0 ≡ c.in-Some.key.from = sym (ap (λ (k : DelayKey). k.from) next.1) in
    let P : ℕ → Type 0 = λ found. IsNextRow (λ from. get delay_cmp c.args.rows.now (delay_key c.args.sender c.args.receiver from)) c.args.cycle c.args.end found in
    subst P same next.2

pub returns-in-None : goal.returns-in-None
returns-in-None c = first-none (delay-line c.args.sender c.args.receiver) (get delay_cmp c.args.rows.now) c.args.cycle c.args.end c.requires (λ key h. c.in-None.ensures key h)
