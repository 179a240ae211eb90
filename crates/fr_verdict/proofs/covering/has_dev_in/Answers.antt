use Rattle.std.proofs.Common.{subst, sym}
use Rattle.fr_base.specs.Rows.{AreAscendingDevs}
use Rattle.fr_verdict.proofs.covering.has_dev_in.Goals as goal

pub dev_in-requires : goal.dev_in-requires
dev_in-requires c = subst AreAscendingDevs (sym c.deref.ensures.value) c.requires
