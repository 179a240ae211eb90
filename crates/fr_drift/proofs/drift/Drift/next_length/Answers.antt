use Rattle.std.proofs.Common.{ℤ, pos, Option, ap, refl}
use Rattle.std.specs.Prelude.{unwrap_or}
use Rattle.std.specs.BTreeMap.{get}
use Rattle.fr_drift.specs.Keys.{length_cmp, length_key}
use Rattle.fr_drift.specs.View.{length_rows}
use Rattle.fr_drift.specs.Held.{IsNextRow}
use Rattle.fr_drift.specs.Questions.{length_of}
use Rattle.fr_drift.proofs.Lines.{next-same, next-stays}
use Rattle.fr_drift.proofs.drift.Drift.next_length.Goals as goal

next : (c : goal.After-next_length_row) → IsNextRow (length_rows c.args.self.now c.args.node) c.args.cycle c.args.end c.next_length_row.result
next c =
    next-same (λ from. get length_cmp c.self.inside.lengths (length_key c.args.node from)) (length_rows c.args.self.now c.args.node) c.args.cycle c.args.end c.next_length_row.result
    (λ from. rw (← c.self.view_is) refl)
    c.next_length_row.ensures

pub returns : goal.returns
unfolding length_of
returns c = record {
  next = next c;
  stays = λ k low high. ap (λ (o : Option ℤ). unwrap_or o (pos 1_000_000)) (next-stays (length_rows c.args.self.now c.args.node) c.args.cycle c.args.end c.next_length_row.result k (next c) low high);
}
