use Rattle.fr_seen.proofs.WordLaws.{even_words_hold, odd_words_hold}
use Rattle.fr_seen.proofs.logs.cycle_words_hold.Goals as goal

pub returns-clause-even : goal.returns-clause-even
returns-clause-even c = even_words_hold

pub returns-clause-odd : goal.returns-clause-odd
returns-clause-odd c = odd_words_hold
