use Rattle.std.proofs.Common.{ap, sym, ◌∙◌}
use Rattle.fr_trace.specs.Rows.{is_heard_record}
use Rattle.fr_trace.proofs.rows.read_row.Goals as goal

pub read_kind-requires : goal.read_kind-requires
read_kind-requires c = ap is_heard_record (sym c.in-Some.ensures.found) ∙ c.requires
