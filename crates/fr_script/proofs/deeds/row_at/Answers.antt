use Rattle.std.proofs.Common.{◌∙◌}
use Rattle.fr_script.proofs.Asked.{asked-deed}
use Rattle.fr_script.proofs.deeds.row_at.Goals as goal

pub returns-then-senders-place : goal.returns-then-senders-place
returns-then-senders-place c = c.get.ensures.value ∙ asked-deed c.args.passage.now c.args.rows.now.entries
