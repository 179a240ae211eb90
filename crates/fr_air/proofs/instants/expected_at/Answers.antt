use Rattle.std.proofs.Common.{◌∙◌, ℤ, ◌+ℤ◌, ◌*ℤ◌, ap, ap₂}
use Rattle.fr_air.proofs.Fitting.{expected-back, expected-fits, expected-within, few, few-within, length-back, ticks-back}
use Rattle.fr_air.proofs.instants.expected_at.Goals as goal

pub action_instant-requires : goal.action_instant-requires
action_instant-requires c = c.requires

pub ticks_of-requires-clause-microticks : goal.ticks_of-requires-clause-microticks
ticks_of-requires-clause-microticks c = few-within c.compensation.result c.args.receiver.now.length c.compensation.ensures.from (few c.compensation.result c.compensation.ensures.to) c.requires.timed.length

pub ticks_of-requires-clause-length : goal.ticks_of-requires-clause-length
ticks_of-requires-clause-length c = length-back c.compensation.result c.args.receiver.now.length c.compensation.ensures.from (few c.compensation.result c.compensation.ensures.to) c.requires.timed.length

pub overflow_add-result : goal.overflow_add-result
overflow_add-result c = expected-fits c.action_instant.result c.ticks_of.result c.action_instant.ensures.within c.ticks_of.ensures.within

pub returns-clause-value : goal.returns-clause-value
returns-clause-value c =
    let length = c.args.receiver.now.length in
    expected-back c.action_instant.result c.ticks_of.result c.action_instant.ensures.within c.ticks_of.ensures.within
    ∙ ap₂ (λ (x y : ℤ). x +ℤ y) c.action_instant.ensures.value
    (c.ticks_of.ensures.value ∙ ticks-back c.compensation.result length c.compensation.ensures.from (few c.compensation.result c.compensation.ensures.to) c.requires.timed.length
    ∙ ap (λ (microticks : ℤ). microticks *ℤ length) c.compensation.ensures.value)

pub returns-clause-within : goal.returns-clause-within
returns-clause-within c = expected-within c.action_instant.result c.ticks_of.result c.action_instant.ensures.within c.ticks_of.ensures.within
