use Rattle.fr_cluster.proofs.Figures.{stored, figure-stored, sane-of}
use Rattle.fr_cluster.proofs.params.Params.new.Goals as goal

pub invariant_of-result : goal.invariant_of-result
invariant_of-result c =
    sane-of (stored c.args.numbers.now c.args.nodes c.args.slots) c.args.numbers.now
    (figure-stored c.args.numbers.now c.args.nodes c.args.slots c.requires.ranged)
    c.requires.ranged c.requires.constraints c.requires.lists

pub returns-clause-figures : goal.returns-clause-figures
returns-clause-figures c = figure-stored c.args.numbers.now c.args.nodes c.args.slots c.requires.ranged

pub returns-clause-sane : goal.returns-clause-sane
returns-clause-sane c =
    sane-of (stored c.args.numbers.now c.args.nodes c.args.slots) c.args.numbers.now
    (figure-stored c.args.numbers.now c.args.nodes c.args.slots c.requires.ranged)
    c.requires.ranged c.requires.constraints c.requires.lists
