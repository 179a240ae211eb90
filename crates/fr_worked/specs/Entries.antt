-- The entries of the records of a run, in short.
use Rattle.std.specs.Prelude.{ℕ, ℤ, pos, List, map}
use Rattle.fr_base.specs.Rows.{dev_with}
use Rattle.fr_base.specs.declared.channel.Channel.TheVariants.{A}
use Rattle.fr_base.specs.declared.cycle_row.Counts.{Counts}
use Rattle.fr_base.specs.declared.dev.Dev.{Dev}
use Rattle.fr_base.specs.declared.node_row.NodeRow.{NodeRow}
use Rattle.fr_base.specs.declared.state.State.TheVariants.{Active}

-- the row of an active node none of whose terms was cut: its start and the length of its microtick in ticks, its rate and
-- offset terms in microticks
abbrev pub row_with : ℕ → ℤ → ℤ → ℤ → ℤ → NodeRow
row_with node start length rate offset =
    record { node = node; start = start; length = length; rate = rate; offset = offset; state = Active; cut = 0 }

-- the rows of nodes that all start at an instant, with nominal microticks and no corrections
abbrev pub steady_rows : ℤ → List ℕ → List NodeRow
steady_rows start nodes = map (λ node. row_with node start (pos 1_000_000) (pos 0) (pos 0)) nodes

-- the deviations of a receiver on channel A, by slot
abbrev pub measured : ℕ → List (ℕ × ℤ) → List Dev
measured receiver values = map (λ pair. dev_with receiver pair.0 A pair.1) values

-- the counts of a cycle in which each frame was stored that came: how many were sent on each channel, and the sums of
-- their frame CRCs
abbrev pub all_stored : ℕ → ℕ → ℕ → ℕ → ℕ → Counts
all_stored sent_a xor_a sent_b xor_b stored = record {
  sent_a = sent_a;
  sent_b = sent_b;
  xor_a = xor_a;
  xor_b = xor_b;
  stored = stored;
  outside = 0;
  damaged = 0;
  wrong_id = 0;
  wrong_cycle = 0;
  wrong_length = 0;
  plain = 0;
}
