-- What is seen of a double cycle is known of it in each run that the log is seen of.
use Rattle.std.proofs.Common.{◌≡◌, ◌∙◌, ℕ, suc, ◌+◌, ◌*◌, ◌≤◌, Bool, true, false, ℤ, pos, negsuc, Option, Some, None, if◌then◌else◌, List, [], ◌∷◌, refl, ap, sym, subst, inl, inr, arith}
use Rattle.std.specs.Prelude.{◌≤ℤ◌, ◌+ℤ◌, ◌-ℤ◌, ◌&&◌, max, Contains, is_none, is_some, int_le, nat_abs}
use Rattle.std.specs.Int.{int_max}
use Rattle.std.specs.List.{fold, list_all}
use Rattle.std.proofs.lemmas.Int.{ints}
use Rattle.fr_base.specs.Within.{IsBetween}
use Rattle.fr_bound.specs.Judged.{from_none}
use Rattle.fr_bound.specs.declared.judging.Known.{Known}
use Rattle.fr_cluster.specs.Setting.{Setting}
use Rattle.fr_cluster.specs.Values.{Values}
use Rattle.fr_cluster.specs.declared.nodes.NodeSpec.{NodeSpec}
use Rattle.fr_cluster.proofs.Elements.{Contains-none}
use Rattle.fr_cluster.proofs.KeyNodes.{Contains-cons_cases}
use Rattle.fr_history.specs.Cycles.{Cycle, Cycles, cycle_at}
use Rattle.fr_history.specs.History.{row_of}
use Rattle.fr_runs.proofs.Parts.{even_is}
use Rattle.fr_log.specs.View.{LogView}
use Rattle.fr_course.specs.Computed.{length_ticks}
use Rattle.fr_course.specs.Readings.{reading_scale}
use Rattle.fr_course.specs.Spread.{lengths_apart, starts_apart}
use Rattle.fr_course.specs.Scales.{Scale}
use Rattle.fr_sightings.specs.Senders.{sightings_in}
use Rattle.fr_sightings.specs.Sightings.{sightings_of}
use Rattle.fr_sightings.specs.declared.sender.Sender.{Sender}
use Rattle.fr_sightings.specs.declared.sighting.Sighting.{Sighting}
use Rattle.fr_sightings.proofs.Proper.{both}
use Rattle.fr_observe.specs.Faults.{is_seen_whole, longest_cycle_of, shortest_cycle_of}
use Rattle.fr_judging.specs.Knowing.{beyond_of, known_by, known_seen, most_beyond}
use Rattle.fr_judging.specs.Obstacles.{first_unseen, or_unseen, unseen_cycle}
use Rattle.fr_observe.specs.Observing.{courses_of}
use Rattle.fr_observe.specs.declared.fault.Fault.{Fault}
use Rattle.fr_judging.specs.declared.obstacle.Obstacle.{Obstacle}
use Rattle.fr_judging.specs.declared.obstacle.ObstacleKind.TheVariants as obstacle
use Rattle.fr_seen.specs.LogSeen.{log_senders, run_double}
use Rattle.fr_precision.specs.Lengths.{IsAboutCycle}
use Rattle.fr_seen.specs.LogDoubles.{IsDoubleThere}
use Rattle.fr_seen_runs.specs.KnownDoubles.{SeenIsKnown}
use Rattle.fr_seen.proofs.SeenDoubles.{seen_double_there}
use Rattle.fr_seen.proofs.SeenNodes.{AreRowsSeen, even_long, lengths_near, rows_seen, starts_near}
use Rattle.fr_runs.specs.SharpHistories.{EachHasRow, IsKnownAt}

-- ---- numbers

up_to : (z : ℤ) → z ≤ℤ pos (from_none z)
up_to z = by (int_le z (pos 0)) refl
  where
    nat : (z : ℤ) → int_le z (pos 0) ≡ false → z ≤ℤ pos (nat_abs z)
    nat (pos n) above = omega (arith, ints)
    nat (negsuc n) above = omega (arith, ints)

    none : (z : ℤ) → int_le z (pos 0) ≡ true → z ≤ℤ pos 0
    none z is = grind (arith, ints)

    by : (b : Bool) → int_le z (pos 0) ≡ b → z ≤ℤ pos (if b then 0 else nat_abs z)
    by true is = none z is
    by false is = nat z is

to_most : (p : Values) (scale : Scale) (senders : List Sender) (s : Sender) → Contains senders s → from_none (beyond_of p scale s) ≤ most_beyond p scale senders
unfolding most_beyond
to_most p scale [] s among = absurd (Contains-none s among)
to_most p scale (other ∷ senders) s among = elim (Contains-cons_cases other senders s among) [
  | inl same ↦
      subst (λ (o : Sender). from_none (beyond_of p scale o) ≤ max (from_none (beyond_of p scale other)) (most_beyond p scale senders)) same
      (first (from_none (beyond_of p scale other)) (most_beyond p scale senders))
  | inr more ↦ second (from_none (beyond_of p scale s)) (from_none (beyond_of p scale other)) (most_beyond p scale senders) (to_most p scale senders s more)
] where
  first : (a b : ℕ) → a ≤ max a b
  first a b = omega arith

  second : (a b c : ℕ) → a ≤ c → a ≤ max b c
  second a b c le = omega (arith, le)

-- a length that the course of a sender allows lies no further beyond the range than the most of all
about_by : (p : Values) (scale : Scale) (senders : List Sender) (s : Sender) → Contains senders s → (ticks : ℤ)
    → IsBetween (length_ticks scale s.course).low (length_ticks scale s.course).high ticks → IsAboutCycle p (pos (most_beyond p scale senders)) ticks
about_by p scale senders s among ticks between =
    let shortest = shortest_cycle_of p in
    let longest = longest_cycle_of p in
    let long = length_ticks scale s.course in
    let beyond = from_none (beyond_of p scale s) in
    let most = most_beyond p scale senders in
    let below = up_to (beyond_of p scale s) in
    let le = to_most p scale senders s among in
    record {
      low = under shortest long.low long.high longest ticks beyond most below le between.low;
      high = over shortest long.low long.high longest ticks beyond most below le between.high;
    }
  where
    under : (s l h g t : ℤ) (b m : ℕ) → int_max (s -ℤ l) (h -ℤ g) ≤ℤ pos b → b ≤ m → l ≤ℤ t → (s -ℤ pos m) ≤ℤ t
    under s l h g t b m below le from = grind (arith, ints)

    over : (s l h g t : ℤ) (b m : ℕ) → int_max (s -ℤ l) (h -ℤ g) ≤ℤ pos b → b ≤ m → t ≤ℤ h → t ≤ℤ (g +ℤ pos m)
    over s l h g t b m below le to = grind (arith, ints)

-- ---- all were seen

-- where no node is the first unseen one, all were seen in both cycles
all_whole : (l : LogView) (here : List Sighting) (double : ℕ) (nodes : List NodeSpec) → is_none (fold (or_unseen l here double) None nodes) ≡ true
    → list_all (is_seen_whole l here double) nodes ≡ true
all_whole l here double [] none = refl
all_whole l here double (node ∷ nodes) none = by (is_seen_whole l here double node) (λ rest. all_whole l here double nodes rest) none
  where
    unseen : Obstacle
    unseen = record { kind = obstacle.Unseen; cycle = Some (unseen_cycle l here double node); node = Some node.id }

    stays : (first : Obstacle) (others : List NodeSpec) → is_none (fold (or_unseen l here double) (Some first) others) ≡ true → ⊥
    stays first [] is = absurd (cc is)
    stays first (other ∷ others) is = stays first others is

    by : (b : Bool) → (is_none (fold (or_unseen l here double) None nodes) ≡ true → list_all (is_seen_whole l here double) nodes ≡ true)
        → is_none (fold (or_unseen l here double) (if b then None else Some unseen) nodes) ≡ true → (b && list_all (is_seen_whole l here double) nodes) ≡ true
    by true more none = more none
    by false more none = absurd (stays unseen nodes none)

-- what is told there
record IsSeenAs (p : Values) (scale : Scale) (l : LogView) (here : List Sighting) (double : ℕ) (senders : List Sender) (known : Known) : Type 0 where
  whole : list_all (is_seen_whole l here double) p.nodes ≡ true
  is : known_by p scale senders ≡ known

seen_as : (p : Values) (scale : Scale) (l : LogView) (here : List Sighting) (double : ℕ) (senders : List Sender) (told : Option Fault) (known : Known)
    → known_seen p scale l here double senders told ≡ Some known → IsSeenAs p scale l here double senders known
unfolding known_seen first_unseen
seen_as p scale l here double senders told known seen = by (is_none told && is_none (first_unseen l here double p.nodes)) refl seen
  where
    same : (one other : Known) → Some one ≡ Some other → one ≡ other
    same one other is = cc is

    by : (b : Bool) → (is_none told && is_none (first_unseen l here double p.nodes)) ≡ b → (if b then Some (known_by p scale senders) else None) ≡ Some known
        → IsSeenAs p scale l here double senders known
    by true is some =
        record {
          whole = all_whole l here double p.nodes (both (is_none told) (is_none (first_unseen l here double p.nodes)) is).1;
          is = same (known_by p scale senders) known some;
        }
    by false is some = absurd (cc some)

-- ---- a double cycle

module _ (x : Setting) (h : Cycles) (drift k : ℕ) (senders : List Sender) (there : IsDoubleThere h k) (seen : AreRowsSeen x drift there.even there.odd senders) where
  abbrev Scaled : Scale
  Scaled = reading_scale drift x.params

  known_at : IsKnownAt x h k (known_by x.params (reading_scale drift x.params) senders)
  known_at =
      let starts = (starts_apart Scaled (courses_of senders)).high in
      let lengths = (lengths_apart Scaled (courses_of senders)).high in
      record {
        even = there.even;
        odd = there.odd;
        has_even = there.has.has_even;
        has_odd = subst (λ n. cycle_at h n ≡ Some there.odd) (later (2 * k)) there.has.has_odd;
        active_even = seen.active_even;
        active_odd = seen.active_odd;
        rows = record {
          starts_lie = starts_near x drift there.even there.odd senders seen (pos (from_none starts)) (up_to starts);
          lengths_lie = lengths_near x drift there.even there.odd senders seen (pos (from_none lengths)) (up_to lengths);
          about =
              even_long x drift there.even there.odd senders seen (IsAboutCycle x.params (pos (most_beyond x.params Scaled senders)))
              (about_by x.params Scaled senders);
        };
      }
    where
      later : (n : ℕ) → suc n ≡ n + 1
      later n = omega arith

  each_has_row : EachHasRow x h k
  each_has_row node correct earlier even odd is =
      let active = seen.each_active node correct in
      let same : even ≡ there.even = some_same even there.even (sym (even_is h k earlier even odd is) ∙ there.has.has_even) in
      ap is_some (ap (λ (c : Cycle). row_of c.told.rows node.id) same ∙ active.has_row)
    where
      some_same : (one other : Cycle) → Some one ≡ Some other → one ≡ other
      some_same one other is = cc is

pub seen_is_known : SeenIsKnown
seen_is_known x h base delays clock l double told known run named among seen =
    let scale = reading_scale l.drift x.params in
    let senders = log_senders x l double in
    let k = run_double base double in
    let there = seen_double_there x h base delays clock l run double among in
    let parts = seen_as x.params scale l (sightings_in (sightings_of x.params l) double) double senders told known seen in
    let rows = rows_seen x h base delays clock l run double named there parts.whole in
    (subst (IsKnownAt x h k) parts.is (known_at x h l.drift k senders there rows), each_has_row x h l.drift k senders there rows)
