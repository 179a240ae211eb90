use Rattle.std.proofs.Common.{◌≡◌, false}
use Rattle.fr_history.specs.Offers.{is_on}
use Rattle.fr_air.proofs.Caught.{catches, nothing-caught, off-channel}
use Rattle.fr_air.specs.Files.{setting_in}
use Rattle.fr_air.proofs.catching.catch_on.Goals as goal

pub returns-then-common-clause-caught : goal.returns-then-common-clause-caught
returns-then-common-clause-caught c =
    let a = c.args in
    catches a.files.now a.turn.now a.rows.now a.listener.now c.catch_in.new.listener c.requires.listener c.catch_in.ensures.caught

pub returns-else-common-clause-caught : goal.returns-else-common-clause-caught
returns-else-common-clause-caught c =
    let a = c.args in
    let off : is_on (setting_in a.files.now) a.listener.now.id a.turn.now.channel ≡ false = off-channel (is_on (setting_in a.files.now) a.listener.now.id a.turn.now.channel) (cc) in
    catches a.files.now a.turn.now a.rows.now a.listener.now a.listener.now c.requires.listener
    (nothing-caught (setting_in a.files.now) a.turn.now.cycle a.rows.now a.turn.now.channel a.listener.now off)
