use Rattle.fr_program.proofs.Words.{behind_first, collected}
use Rattle.fr_program.proofs.system.request_words.Goals as goal

pub returns-in-Ok-clause-words : goal.returns-in-Ok-clause-words
returns-in-Ok-clause-words c =
    rw (c.ok.ensures.value, c.in-Ok.is)
    (collected c.collect.result c.next-name.new.self _ c.collect.ensures.ran (behind_first c.in-Ok.given c.next-name.new.self c.next-name.result c.next-name.ensures.cases))
