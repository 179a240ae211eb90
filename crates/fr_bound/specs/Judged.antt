-- What is known of the clocks of a cluster in a double cycle, in ticks; when such a double cycle is judged; and what is then known of
-- the next one. None of it asks whether the numbers are those of sharp sync: smaller ones give smaller ones.
use Rattle.std.specs.Prelude.{ℕ, ℤ, pos, ◌+◌, ◌≤◌, ◌+ℤ◌, int_le, nat_abs, max, min, nat_le, Bool, true, false, ◌&&◌, Option, Some, None, if◌then◌else◌}
use Rattle.fr_cluster.specs.Values.{Values}
use Rattle.fr_bound.specs.declared.judging.Heard.{Heard}
use Rattle.fr_bound.specs.declared.judging.Heard.TheVariants as heard
use Rattle.fr_bound.specs.declared.judging.Known.{Known}
use Rattle.fr_bound.specs.declared.settling.Spread.{Spread}
use Rattle.fr_bound.specs.Bounds.{longest_micro}
use Rattle.fr_bound.specs.Checks.{left_of}
use Rattle.fr_bound.specs.Greatest.{most_judged}
use Rattle.fr_bound.specs.SharpBounds.{rate_room, rate_walk}
use Rattle.fr_bound.specs.SharpChecks.{sharp_holds_of, SharpChecksHold}
use Rattle.fr_bound.specs.SharpSpreads.{next_lost_spread, next_sharp_spread, sharply_apart_in, sharply_near_in}

-- a number, or 0 for one below 0
abbrev pub from_none : ℤ → ℕ
from_none z = if int_le z (pos 0) then 0 else nat_abs z

-- how far beyond their range lengths may lie in the next double cycle, where they lie so far beyond it in this one
abbrev pub walked_on : Values → ℕ → ℕ → ℕ
walked_on p flutter beyond = from_none (pos beyond +ℤ rate_walk p flutter)

-- by what is heard, how far starts and even lengths may lie apart in the next double cycle
abbrev pub heard_spread : Heard → Values → ℕ → Spread → Spread
heard_spread heard.Clean p flutter s = next_sharp_spread false p flutter s
heard_spread heard.Meeting p flutter s = next_sharp_spread true p flutter s
heard_spread heard.Poor p flutter s = next_lost_spread false p flutter s

-- what is known of it, by what is known of this one
abbrev pub known_after : Heard → Values → ℕ → Known → Known
known_after what p flutter known = record {
  spread = heard_spread what p flutter known.spread;
  beyond = walked_on p flutter known.beyond;
}

-- what is known of one double cycle in two ways: the lesser of each two numbers
abbrev pub met_of : Known → Known → Known
met_of known other = record {
  spread = record {
    starts = min known.spread.starts other.spread.starts;
    lengths = min known.spread.lengths other.spread.lengths;
  };
  beyond = min known.beyond other.beyond;
}

-- by the one before it, and by what is seen of it, where each of these is there
abbrev pub met_with : Option Known → Option Known → Option Known
met_with None seen = seen
met_with (Some known) None = Some known
met_with (Some known) (Some seen) = Some (met_of known seen)

-- how far macroticks may lie apart in this one: as far as its starts and lengths say, or as the next starts do
abbrev pub apart_through : Heard → Values → ℕ → Known → ℕ
apart_through what p flutter known =
    max (sharply_apart_in p known.spread) ((heard_spread what p flutter known.spread).starts + longest_micro p)

-- it is judged: the checks but the first hold with its own reach, how far action points may lie apart in it, and the rate limit can
-- follow its lengths, also by the walk further
pub record IsJudgedDouble (p : Values) (flutter : ℕ) (known : Known) : Type 0 where
  pub checks : SharpChecksHold flutter (sharply_near_in p known.spread) p
  pub room : known.beyond + from_none (rate_walk p flutter) ≤ rate_room p

-- the same as a test
abbrev pub all_but_first_hold : ℕ → ℕ → Values → Bool
all_but_first_hold flutter reach p =
    sharp_holds_of 2 flutter reach p && (sharp_holds_of 3 flutter reach p && (sharp_holds_of 4 flutter reach p && sharp_holds_of 5 flutter reach p))

abbrev pub is_judged_double : Values → ℕ → Known → Bool
is_judged_double p flutter known =
    all_but_first_hold flutter (sharply_near_in p known.spread) p && nat_le (known.beyond + from_none (rate_walk p flutter)) (rate_room p)

-- the limits can take in its numbers at all: else it is not judged
abbrev pub is_taken_in : Values → Known → Bool
is_taken_in p known =
    nat_le known.spread.starts (left_of 3 p) && (nat_le known.spread.lengths (left_of 3 p) && nat_le known.beyond (rate_room p))

-- the numbers are no greater than so, in ticks: those of a judged one are
pub record IsSmall (known : Known) : Type 0 where
  pub starts : known.spread.starts ≤ most_judged
  pub lengths : known.spread.lengths ≤ most_judged
  pub beyond : known.beyond ≤ most_judged
