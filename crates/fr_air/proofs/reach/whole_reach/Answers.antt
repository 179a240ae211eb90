use Rattle.fr_base.specs.declared.channel.Channel.TheVariants.{A, B}
use Rattle.fr_air.proofs.reach.whole_reach.Goals as goal

pub returns : goal.returns
returns c A = c.count_listening.ensures
returns c B = c.count_listening-2.ensures
