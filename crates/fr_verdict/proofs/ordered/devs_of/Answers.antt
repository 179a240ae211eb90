use Rattle.std.proofs.Common.{ℕ, ◌-◌, ◌==◌, ◌∙◌, length, take, drop, ap, subst, sym}
use Rattle.std.specs.Prelude.{filter}
use Rattle.std.proofs.lemmas.List.{take_rest}
use Rattle.fr_base.specs.Rows.{AreAscendingDevs}
use Rattle.fr_base.specs.declared.dev.Dev.{Dev}
use Rattle.fr_verdict.proofs.Receivers.{ascend_behind, parts_of_receiver}
use Rattle.fr_verdict.proofs.ordered.devs_of.Goals as goal

pub first_place-count-requires : goal.first_place-count-requires
first_place-count-requires c =
    subst AreAscendingDevs (sym (take_rest c.args.devs.now c.first_place-from.result)) (ascend_behind c.args.devs.now c.first_place-from.result c.requires)

pub returns : goal.returns
returns c =
    let devs = c.args.devs.now in
    let from = c.first_place-from.result in
    parts_of_receiver devs (take (length devs - from) (drop from devs)) c.receiver.inside.0 from c.first_place-count.result (take_rest devs from)
    c.first_place-from.ensures.below c.first_place-from.ensures.above c.first_place-count.ensures.below c.first_place-count.ensures.above c.first_place-count.ensures.within
    ∙ ap (λ (n : ℕ). filter (λ (dev : Dev). dev.receiver == n) devs) c.receiver.view_is
