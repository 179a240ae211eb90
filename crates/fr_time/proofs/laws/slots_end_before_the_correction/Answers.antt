use Rattle.fr_time.proofs.Placing.{slot_start_lt, action_point_lt, slot_end_lt}
use Rattle.fr_time.proofs.laws.slots_end_before_the_correction.Goals as goal

pub returns : goal.returns
returns c p slot sane = record {
  starts = slot_start_lt p slot sane;
  acts = action_point_lt p slot sane;
  ends = slot_end_lt p slot sane;
}
