use Rattle.std.proofs.Common.{◌≡◌, All, true}
use Rattle.fr_base.specs.declared.channel.Channel.{Channel}
use Rattle.fr_base.specs.declared.channel.Channel.TheVariants.{A, B}
use Rattle.fr_air.specs.Files.{setting_in}
use Rattle.fr_air.specs.Reaching.{can_send, Reaches}
use Rattle.fr_air.proofs.reach.reaches_all.Goals as goal

pub returns-then-reaches_each : goal.returns-then-reaches_each
returns-then-reaches_each c is = by
  where
    by : (channel : Channel) → can_send (setting_in c.args.files.now) channel c.args.sender.now ≡ true → All (Reaches c.args.files.now c.args.cycle c.args.sender.now channel) c.args.rows.now
    by A = c.reaches_each.ensures c.if-reaches_each.true
    by B = c.reaches_each-then-reaches_each.ensures is
