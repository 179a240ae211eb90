use Rattle.std.proofs.Common.{◌∙◌, Some, ap, sym}
use Rattle.fr_script.specs.View.{join_of}
use Rattle.fr_air.proofs.Caught.{own-static, reference-caught, reference-sends, reference-there}
use Rattle.fr_air.proofs.catching.catch_in.Goals as goal

pub catch_from-requires-clause-slot : goal.catch_from-requires-clause-slot
catch_from-requires-clause-slot c =
    let a = c.args in
    let is = c.requires.listener in
    own-static a.files.now.params is.node a.turn.now.slot c.sane.ensures (is.key ∙ ap Some (sym c.requires.slot))

pub catch_from-requires-clause-joins : goal.catch_from-requires-clause-joins
catch_from-requires-clause-joins c =
    let a = c.args in
    let is = c.requires.listener in
    ap (join_of a.files.now.script) (reference-sends a.files.now a.turn.now a.listener.now c.in-Some.sending c.sane.ensures is c.requires.slot (sym c.sender.ensures.value ∙ c.in-Some.is)) ∙ is.stays

pub returns-in-Some-clause-caught : goal.returns-in-Some-clause-caught
returns-in-Some-clause-caught c =
    let a = c.args in
    c.catch_from.ensures.caught
    ∙ reference-caught a.files.now a.turn.now a.rows.now a.listener.now c.in-Some.sending c.sane.ensures c.requires.listener c.requires.slot c.requires.on (sym c.sender.ensures.value ∙ c.in-Some.is)

pub returns-in_default-clause-caught : goal.returns-in_default-clause-caught
returns-in_default-clause-caught c =
    let a = c.args in
    absurd (reference-there a.files.now a.turn.now a.listener.now c.sane.ensures c.requires.listener c.requires.slot (sym c.sender.ensures.value ∙ c.in_default.is))
