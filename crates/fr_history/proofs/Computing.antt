-- What a proof opens to compute a run.
use Rattle.std.specs.Prelude.{⊤}
use Rattle.fr_bound.specs.Sync.{is_in_sync}
use Rattle.fr_crc.specs.Bits.{bits}
use Rattle.fr_crc.specs.Computed.{frame_crc_of, header_crc_of}
use Rattle.fr_frame.specs.Reading.{frame_of, read_as}
use Rattle.fr_history.specs.Gauged.{first_free_sync_of, followed_at}
use Rattle.fr_history.specs.Offers.{frame_in, offer_in}
use Rattle.fr_history.specs.Skew.{greatest_skew_of}
use Rattle.fr_history.specs.Terms.{outcomes_in}
use Rattle.fr_measure.specs.Values.{values_of}
use Rattle.fr_midpoint.specs.Midpoint.{midpoint_by_ranks}
use Rattle.fr_reception.specs.Answers.{answer_of}
use Rattle.fr_reception.specs.Offers.{flipped}
use Rattle.fr_reception.specs.Regular.{carried_crc, regular_frame}
use Rattle.fr_skew.specs.Spreads.{spread_at}
use Rattle.fr_skew.specs.Sweep.{greatest_within}
use Rattle.fr_history.specs.Catching.{begins_with, caught_arrival, caught_in_run}
use Rattle.fr_history.specs.Cycles.{cycle_at}
use Rattle.fr_history.specs.Next.{early_follower, early_row, early_told, next_cycle, next_follower_devs}
use Rattle.fr_history.specs.Unfollowed.{first_unfollowed_sync_of}

-- the bytes of frames, and what is made of them
unfoldable pub on_frames : ⊤
unfolding frame_in offer_in regular_frame carried_crc answer_of flipped frame_of read_as header_crc_of frame_crc_of bits
on_frames = tt

-- the next cycle of a run
unfoldable pub on_cycles : ⊤
unfolding on_frames next_cycle early_row early_follower early_told next_follower_devs begins_with caught_in_run caught_arrival outcomes_in values_of midpoint_by_ranks
on_cycles = tt

-- the greatest skew of what is told, and the first double cycle in sync in which no node follows
unfoldable pub on_told : ⊤
unfolding greatest_skew_of greatest_within spread_at first_unfollowed_sync_of first_free_sync_of followed_at is_in_sync cycle_at
on_told = tt
