use Rattle.fr_verdict.proofs.Hearing.{heard_suffices}
use Rattle.fr_verdict.proofs.laws.hearing_suffices.Goals as goal

pub returns : goal.returns
returns c = heard_suffices
