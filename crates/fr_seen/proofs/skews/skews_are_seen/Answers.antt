use Rattle.fr_seen.proofs.SkewLaws.{even_skew_is_seen, odd_skew_is_reached}
use Rattle.fr_seen.proofs.skews.skews_are_seen.Goals as goal

pub returns-clause-even : goal.returns-clause-even
returns-clause-even c = even_skew_is_seen

pub returns-clause-odd : goal.returns-clause-odd
returns-clause-odd c = odd_skew_is_reached
