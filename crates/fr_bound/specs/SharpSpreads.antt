-- How far clocks may lie apart from one double cycle to the next, in ticks, by what is heard: all of all, without arbitrary sync
-- nodes or beside them, or whatever is not lost.
use Rattle.std.specs.Prelude.{ℕ, ◌≡◌, ◌+◌, ◌*◌, ◌/◌, max, Bool, true, false}
use Rattle.fr_cluster.specs.Values.{Values, amount}
use Rattle.fr_cluster.specs.declared.names.ParamName.TheVariants as name
use Rattle.fr_bound.specs.declared.settling.Spread.{Spread}
use Rattle.fr_bound.specs.Bounds.{arrival_error, cycle_change, longest_micro}
use Rattle.fr_bound.specs.SharpBounds.{near_by, odd_spread, precision_by, sharp_lambda, sharp_pi, steady_error}

-- how far starts and even lengths may lie apart in sharp sync
abbrev pub sharp_spread : Bool → Values → ℕ → Spread
sharp_spread beside p flutter = record { starts = sharp_pi beside p flutter; lengths = sharp_lambda beside p flutter }

-- how far starts and even lengths may lie apart in the first double cycle: as is stated, and no less than in sharp sync
abbrev pub first_sharp_spread : Bool → Values → ℕ → ℕ → ℕ → Spread
first_sharp_spread beside p flutter start rate = record {
  starts = max start (sharp_pi beside p flutter);
  lengths = max rate (sharp_lambda beside p flutter);
}

-- in the double cycle after one: half as far, and some, rounded down; without arbitrary nodes the lengths by lambda, and the
-- starts by the odd lengths alone
abbrev pub next_sharp_spread : Bool → Values → ℕ → Spread → Spread
next_sharp_spread false p flutter s = record {
  starts = odd_spread p s.lengths + 2 * arrival_error p + 3 * longest_micro p;
  lengths = sharp_lambda false p flutter;
}
next_sharp_spread true p flutter s = record {
  starts = (s.starts + s.lengths + 2 * odd_spread p s.lengths + 4 * arrival_error p + 7 * longest_micro p) / 2;
  lengths = (s.lengths + sharp_lambda true p flutter) / 2;
}

-- no further than in sharp sync
abbrev pub IsSharplySettled : Bool → Values → ℕ → Spread → Type 0
IsSharplySettled beside p flutter s = (s.lengths ≡ sharp_lambda beside p flutter) × (s.starts ≡ sharp_pi beside p flutter)

-- how far macroticks may lie apart, and how far action points
abbrev pub sharply_apart_in : Values → Spread → ℕ
sharply_apart_in p s = precision_by p s.starts s.lengths

abbrev pub sharply_near_in : Values → Spread → ℕ
sharply_near_in p s = near_by p s.starts s.lengths

-- ---- where anything may be lost in a double cycle

-- how far starts and even lengths may lie apart behind it
abbrev pub lost_starts : Values → ℕ → ℕ → ℕ
lost_starts p starts lengths = starts + lengths + odd_spread p lengths + 2 * arrival_error p + 3 * longest_micro p

abbrev pub lost_lengths : Values → ℕ → ℕ → ℕ
lost_lengths p flutter lengths =
    lengths + (2 * steady_error p flutter + 2 * (amount p name.pClusterDriftDamping * longest_micro p) + 2 * cycle_change p)

-- the same by whether all is heard, without arbitrary nodes
abbrev pub next_lost_spread : Bool → Values → ℕ → Spread → Spread
next_lost_spread true p flutter s = next_sharp_spread false p flutter s
next_lost_spread false p flutter s = record { starts = lost_starts p s.starts s.lengths; lengths = lost_lengths p flutter s.lengths }
