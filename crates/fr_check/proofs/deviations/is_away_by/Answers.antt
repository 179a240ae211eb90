use Rattle.std.proofs.Common.{◌∙◌, Bor, Option, ap, sym}
use Rattle.std.specs.Option.{option_copied}
use Rattle.fr_base.specs.declared.node_row.NodeRow.{NodeRow}
use Rattle.fr_trace.specs.Cycles.{kept_of}
use Rattle.fr_check.proofs.Ranks.{not_away}
use Rattle.fr_check.proofs.deviations.is_away_by.Goals as goal

pub returns-in-Some : goal.returns-in-Some
returns-in-Some c = sym (not_away c.args.params.now c.args.trace.now (kept_of c.args.cycle.now) c.args.slot _ (sym c.requires ∙ ap (λ (o : Option (Bor NodeRow)). option_copied o) c.in-Some.is))
