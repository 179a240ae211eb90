use Rattle.std.proofs.Common.{◌/◌, ℕ, ap, sym}
use Rattle.fr_verdict.proofs.Parts.{history_length}
use Rattle.fr_check.proofs.apart.double_behind.Goals as goal

pub returns-clause-value : goal.returns-clause-value
returns-clause-value c = ap (λ (n : ℕ). n / 2) (sym (history_length c.args.behind.now))
