use Rattle.fr_seen.proofs.OddLaws.{odd_skew_is_kept}
use Rattle.fr_seen.proofs.skews.odd_skews_are_kept.Goals as goal

pub returns : goal.returns
returns c = odd_skew_is_kept
