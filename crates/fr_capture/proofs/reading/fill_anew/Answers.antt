use Rattle.fr_capture.proofs.Beginning.{begun_filled}
use Rattle.fr_capture.proofs.reading.fill_anew.Goals as goal

pub returns-clause-short : goal.returns-clause-short
returns-clause-short c =
    (begun_filled c.args.kept.now c.append.new.self c.args.piece.now c.begun-count.result c.requires.none c.append.ensures
    c.begun-count.ensures.least c.begun-count.ensures.within c.begun-count.ensures.most c.begun-count.ensures.enough).0

pub returns-clause-enough : goal.returns-clause-enough
returns-clause-enough c =
    (begun_filled c.args.kept.now c.append.new.self c.args.piece.now c.begun-count.result c.requires.none c.append.ensures
    c.begun-count.ensures.least c.begun-count.ensures.within c.begun-count.ensures.most c.begun-count.ensures.enough).1
