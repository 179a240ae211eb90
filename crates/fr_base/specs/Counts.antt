-- Counts of frames and answers: none, sums, and the greatest of their numbers.
use Rattle.std.specs.Prelude.{ℕ, ◌+◌, ◌≤◌, bit_xor}
use Rattle.fr_base.specs.declared.cycle_row.Counts.{Counts}

-- nothing counted
abbrev pub no_counts : Counts
no_counts = record {
  sent_a = 0;
  sent_b = 0;
  xor_a = 0;
  xor_b = 0;
  stored = 0;
  outside = 0;
  damaged = 0;
  wrong_id = 0;
  wrong_cycle = 0;
  wrong_length = 0;
  plain = 0;
}

-- the counts of some cycles and of one more
abbrev pub sum_of : Counts → Counts → Counts
sum_of sums counts = record {
  sent_a = sums.sent_a + counts.sent_a;
  sent_b = sums.sent_b + counts.sent_b;
  xor_a = bit_xor sums.xor_a counts.xor_a;
  xor_b = bit_xor sums.xor_b counts.xor_b;
  stored = sums.stored + counts.stored;
  outside = sums.outside + counts.outside;
  damaged = sums.damaged + counts.damaged;
  wrong_id = sums.wrong_id + counts.wrong_id;
  wrong_cycle = sums.wrong_cycle + counts.wrong_cycle;
  wrong_length = sums.wrong_length + counts.wrong_length;
  plain = sums.plain + counts.plain;
}

-- no number of frames or answers is above this one
pub record AreAtMost (most : ℕ) (counts : Counts) : Type 0 where
  pub sent_a : counts.sent_a ≤ most
  pub sent_b : counts.sent_b ≤ most
  pub stored : counts.stored ≤ most
  pub outside : counts.outside ≤ most
  pub damaged : counts.damaged ≤ most
  pub wrong_id : counts.wrong_id ≤ most
  pub wrong_cycle : counts.wrong_cycle ≤ most
  pub wrong_length : counts.wrong_length ≤ most
  pub plain : counts.plain ≤ most
