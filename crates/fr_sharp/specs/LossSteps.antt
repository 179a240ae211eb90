-- How far clocks may lie apart through losses, from one double cycle to the next, in ticks.
use Rattle.std.specs.Prelude.{ℕ, ◌+◌, ◌*◌, ◌≤◌, max}
use Rattle.fr_cluster.specs.Values.{Values}
use Rattle.fr_bound.specs.Bounds.{longest_micro}
use Rattle.fr_bound.specs.declared.settling.Spread.{Spread}
use Rattle.fr_precision.specs.Among.{kinds_spread}
use Rattle.fr_precision.specs.declared.kinds.Kinds.{Kinds}
use Rattle.fr_bound.specs.SharpBounds.{precision_by}
use Rattle.fr_promise.specs.SharpJoining.{GroupSpread}

-- how far starts and lengths come apart at most in a run, whatever is lost of it, in ticks
abbrev pub most_lost_starts : ℕ
most_lost_starts = 30_000_100_000_000_000_000_000

abbrev pub most_lost_lengths : ℕ
most_lost_lengths = 14_000_000_000_000_000

-- how far starts and even lengths may lie apart
abbrev pub spread_with : ℕ → ℕ → Spread
spread_with starts lengths = record { starts = starts; lengths = lengths }

-- so far in a double cycle, and how many passed before it since one in sharp sync
pub record LossDouble : Type 0 where
  pub spread : Spread
  pub passed : ℕ

-- the same of nodes that follow too
pub record LossGroup : Type 0 where
  pub spread : GroupSpread
  pub passed : ℕ

-- no more may pass
abbrev pub most_passed : ℕ
most_passed = 1_000_000

-- in so many the numbers grow no further than so
pub record IsReckoned (starts lengths passed : ℕ) : Type 0 where
  pub few : passed ≤ 1_000_000
  pub starts_fit : starts ≤ 43_000_000_000 + passed * 30_000_000_000_000_000
  pub lengths_fit : lengths ≤ 13_000_000_000 + passed * 13_000_000_000

-- nor those of nodes that follow
pub record AreReckoned (seconds starts lengths passed : ℕ) : Type 0 where
  pub seconds_fit : seconds ≤ 200_000_000_000 + passed * 30_000_000_000_000_000
  pub starts_fit : starts ≤ 200_000_000_000 + passed * 30_000_000_000_000_000
  pub lengths_fit : lengths ≤ 100_000_000_000 + passed * 13_000_000_000

-- nothing lies further apart than this, in ticks, and no reach may be greater
abbrev pub most_lost : ℕ
most_lost = 100_000_000_000_000_000_000_000

-- how far macroticks may lie apart in a double cycle, by what is heard in it: as far as its starts and lengths say, or as the
-- next starts do
abbrev pub heard_apart : Kinds → Values → ℕ → Spread → ℕ
heard_apart what p flutter s = max (precision_by p s.starts s.lengths) ((kinds_spread what p flutter s).starts + longest_micro p)
