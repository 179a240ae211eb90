-- The double cycles of a log are there in each run that it is seen of.
use Rattle.std.proofs.Common.{◌≡◌, ℕ, suc, ◌+◌, ◌-◌, ◌*◌, ◌/◌, ◌%◌, ◌<◌, ◌≤◌, Option, Some, None, ℤ, pos, List, length, refl, subst, arith}
use Rattle.std.specs.Prelude.{◌+ℤ◌, Contains, slice_get}
use Rattle.std.specs.List.{range_with_len}
use Rattle.std.proofs.lemmas.Int.{ints}
use Rattle.std.proofs.lemmas.List.Elements.{All-contains}
use Rattle.std.proofs.lemmas.Option.{get_or_from_slice_get, slice_get_within}
use Rattle.fr_base.specs.declared.channel.Channel.{Channel}
use Rattle.fr_cluster.specs.Setting.{Setting}
use Rattle.fr_history.specs.Cycles.{Cycle, Cycles, cycle_at}
use Rattle.fr_history.proofs.Flat.{range_from, range_to}
use Rattle.fr_runs.proofs.Nodes.{among_from}
use Rattle.fr_runs.proofs.Parts.{cycle_found, cycle_within}
use Rattle.fr_log.specs.View.{LogView}
use Rattle.fr_course.specs.declared.stamps.Delays.{Delays}
use Rattle.fr_observe.specs.Observing.{doubles_between, seen_doubles}
use Rattle.fr_sightings.specs.Senders.{double_of}
use Rattle.fr_sightings.specs.Sightings.{sightings_of}
use Rattle.fr_sightings.specs.declared.sighting.Sighting.{Sighting}
use Rattle.fr_seen.specs.Clocks.{StraightClock}
use Rattle.fr_seen.specs.Observed.{IsSentIn, SentFrame}
use Rattle.fr_seen.specs.LogSeen.{IsAmongSent, run_double}
use Rattle.fr_seen.proofs.SightingLaws.{sightings_are_sent}
use Rattle.fr_seen.specs.Contradictions.{IsObservedRun}
use Rattle.fr_seen.specs.LogDoubles.{DoublesAreThere, IsDoubleThere}

-- ---- lists

pub got_contains : {X : Type 0} (xs : List X) (i : ℕ) (x : X) → slice_get xs i ≡ Some x → Contains xs x
got_contains xs i x is = (i, slice_get_within xs i x is, get_or_from_slice_get xs i x x is)

-- ---- cycles

pub double_there : (h : Cycles) (double : ℕ) → suc (2 * double) < length h → IsDoubleThere h double
double_there h double less =
    let even = cycle_found h (2 * double) (before (2 * double) (length h) less) in
    let odd = cycle_found h (suc (2 * double)) less in
    record { even = even.0; odd = odd.0; has = record { has_even = even.1; has_odd = odd.1 } }
  where
    before : (a b : ℕ) → suc a < b → a < b
    before a b less = omega (arith, less)

-- a run of whole double cycles has each of them
pub doubles_to : (h : Cycles) (doubles double : ℕ) → length h ≡ 2 * doubles → double < doubles → IsDoubleThere h double
doubles_to h doubles double whole below = double_there h double (less (length h) doubles double whole below)
  where
    less : (n d k : ℕ) → n ≡ 2 * d → k < d → suc (2 * k) < n
    less n d k a b = omega (arith, a, b)

-- and both cycles of that of each of its cycles
whole_double : (cycle double long doubles : ℕ) → cycle < long → long ≡ 2 * doubles → double ≤ cycle / 2 → suc (2 * double) < long
whole_double cycle double long doubles less whole before = omega (arith, less, whole, before)

pub double_of_cycle : (h : Cycles) (cycle double doubles : ℕ) (c : Cycle) → length h ≡ 2 * doubles → cycle_at h cycle ≡ Some c → double ≤ cycle / 2 → IsDoubleThere h double
double_of_cycle h cycle double doubles c whole is before =
    double_there h double (whole_double cycle double (length h) doubles (cycle_within h cycle c is) whole before)

-- ---- sightings

last_double : (seen : List Sighting) (double : ℕ) → Contains (seen_doubles seen) double → (last : Sighting) × (Contains seen last × (double ≤ double_of last))
unfolding seen_doubles
last_double seen double among = by (slice_get seen 0) (slice_get seen (length seen - 1)) refl among
  where
    before : (a d e : ℕ) → a ≤ d → d < a + (e + 1 - a) → d ≤ e
    before a d e from to = omega (arith, from, to)

    by : (first last : Option Sighting) → slice_get seen (length seen - 1) ≡ last → Contains (doubles_between first last) double
        → (last : Sighting) × (Contains seen last × (double ≤ double_of last))
    by None last is among = absurd (omega (arith, among.1))
    by (Some first) None is among = absurd (omega (arith, among.1))
    by (Some first) (Some last) is among =
        let from = range_from (double_of first) (double_of last + 1 - double_of first) double (among_from (range_with_len (double_of first) (double_of last + 1 - double_of first)) double among) in
        let to = range_to (double_of first) (double_of last + 1 - double_of first) double (among_from (range_with_len (double_of first) (double_of last + 1 - double_of first)) double among) in
        (last, (got_contains seen (length seen - 1) last is, before (double_of first) double (double_of last) from to))

module _ (x : Setting) (h : Cycles) (base : ℕ) (delays : ℕ → Channel → Delays) (clock : ℕ → StraightClock) (l : LogView) (run : IsObservedRun x h base delays clock l) where
  -- the frame that a sighting is
  pub sighting_sent : (s : Sighting) → Contains (sightings_of x.params l) s → IsAmongSent run.seen.sent s
  sighting_sent s there =
      All-contains (IsAmongSent run.seen.sent) (sightings_of x.params l) s (sightings_are_sent x h base delays clock l run.timed.sane run.log run.seen) there

  pub frame_sent : (f : SentFrame) → Contains run.seen.sent f → IsSentIn x h base f
  frame_sent f there = All-contains (IsSentIn x h base) run.seen.sent f run.seen.seen.sent there

  pub sighting_cycle : (s : Sighting) (of : IsAmongSent run.seen.sent s) → of.sent.cycle ≡ s.number + base
  sighting_cycle s of = counted of.sent.cycle s.number base of.sent.frame.number (frame_sent of.sent of.there).numbered of.is.number
    where
      counted : (c n b : ℕ) (number : ℤ) → pos c ≡ number +ℤ pos b → number ≡ pos n → c ≡ n + b
      counted c n b number is same = omega (arith, ints)

  -- a sighting is one of a cycle of the run
  pub sighting_within : (s : Sighting) → Contains (sightings_of x.params l) s → s.number + base < length h
  sighting_within s there =
      let of = sighting_sent s there in
      let sent = frame_sent of.sent of.there in
      subst (λ n. n < length h) (sighting_cycle s of) (cycle_within h of.sent.cycle sent.told sent.has_cycle)

  -- the double cycles up to that of a sighting are there
  pub double_up_to : (s : Sighting) (double : ℕ) → Contains (sightings_of x.params l) s → double ≤ double_of s → IsDoubleThere h (run_double base double)
  double_up_to s double there before =
      let of = sighting_sent s there in
      let sent = frame_sent of.sent of.there in
      double_of_cycle h of.sent.cycle (run_double base double) x.doubles sent.told run.whole sent.has_cycle
      (later of.sent.cycle s.number base double run.seen.seen.whole_base (sighting_cycle s of) before)
    where
      later : (c n b d : ℕ) → b % 64 ≡ 0 → c ≡ n + b → d ≤ n / 2 → d + b / 2 ≤ c / 2
      later c n b d whole is before = omega (arith, whole, is, before)

  pub seen_double_there : (double : ℕ) → Contains (seen_doubles (sightings_of x.params l)) double → IsDoubleThere h (run_double base double)
  seen_double_there double among =
      let last = last_double (sightings_of x.params l) double among in
      double_up_to last.0 double last.1.0 last.1.1

pub doubles_are_there : DoublesAreThere
doubles_are_there x h base delays clock l double run among = seen_double_there x h base delays clock l run double among
