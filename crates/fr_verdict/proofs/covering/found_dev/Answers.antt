use Rattle.std.proofs.Common.{◌∙◌, ap}
use Rattle.std.specs.Prelude.{find, slice_index_or}
use Rattle.std.proofs.lemmas.List.{take_rest}
use Rattle.fr_base.specs.Rows.{is_dev_of}
use Rattle.fr_verdict.proofs.Receivers.{found_behind_place, not_of}
use Rattle.fr_verdict.proofs.covering.found_dev.Goals as goal

pub returns : goal.returns
returns c =
    let devs = c.args.devs.now in
    let test = is_dev_of c.args.receiver c.args.slot c.args.channel in
    c.found_among.ensures
    ∙ ap (find test) (take_rest devs c.first_place-place.result)
    ∙ found_behind_place test devs c.first_place-place.result
    (λ k d lt. not_of (slice_index_or devs k d) c.args.receiver c.args.slot c.args.channel (c.first_place-place.ensures.below k d lt))
