use Rattle.fr_damage.proofs.Unstored.{flip_uncaught, flip_unfollowed, flip_unlisted, flip_unstored}
use Rattle.fr_damage.proofs.flips.no_run_stores_a_flipped_frame.Goals as goal

pub returns : goal.returns
returns c = record { stored = flip_unstored; listed = flip_unlisted; followed = flip_unfollowed; caught = flip_uncaught }
