use Rattle.fr_sharp.proofs.JoinedInPart.{followed_doubles_hear_in_part}
use Rattle.fr_sharp.proofs.JoinedThrough.{joined_histories_keep_through_losses}
use Rattle.fr_sharp.proofs.losing.joined_histories_keep_through_losses.Goals as goal

pub returns : goal.returns
returns c = joined_histories_keep_through_losses followed_doubles_hear_in_part
