use Rattle.std.proofs.Common.{◌∙◌, ℤ, ◌+ℤ◌, ap}
use Rattle.fr_air.proofs.Fitting.{said-back, said-fits, said-within}
use Rattle.fr_air.proofs.instants.said_at.Goals as goal

pub expected_at-requires : goal.expected_at-requires
expected_at-requires c = c.requires.row

pub overflow_add-result : goal.overflow_add-result
overflow_add-result c = said-fits c.expected_at.result c.args.shift c.expected_at.ensures.within c.requires.shift

pub returns-clause-value : goal.returns-clause-value
returns-clause-value c =
    said-back c.expected_at.result c.args.shift c.expected_at.ensures.within c.requires.shift
    ∙ ap (λ (at : ℤ). at +ℤ c.args.shift) c.expected_at.ensures.value

pub returns-clause-within : goal.returns-clause-within
returns-clause-within c = said-within c.expected_at.result c.args.shift c.expected_at.ensures.within c.requires.shift
