use Rattle.std.proofs.Common.{◌∙◌}
use Rattle.fr_lines.proofs.KeySlots.{length-key_slots}
use Rattle.fr_lines.proofs.counting.sync_count.Goals as goal

pub returns : goal.returns
returns c = c.keyed_count.ensures ∙ length-key_slots c.args.nodes.now
