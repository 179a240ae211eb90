use Rattle.fr_damage.proofs.Unstored.{files_uncaught, files_unfollowed, files_unlisted, files_unstored}
use Rattle.fr_damage.proofs.flips.no_files_store_a_flipped_frame.Goals as goal

pub returns : goal.returns
returns c = record { stored = files_unstored; listed = files_unlisted; followed = files_unfollowed; caught = files_uncaught }
