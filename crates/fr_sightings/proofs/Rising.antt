-- The sightings of a log: each is proper, and their double cycles do not fall.
use Rattle.std.proofs.Common.{◌≡◌, ℕ, zero, suc, ◌<◌, ◌≤◌, List, [], ◌∷◌, length, Option, Some, None, refl, ap, sym, ◌∙◌, subst, arith}
use Rattle.std.specs.Prelude.{All, IfSome, slice_index_or}
use Rattle.std.specs.List.{filter_map}
use Rattle.std.specs.List.Sorted.{IsNonDecreasingBy}
use Rattle.std.specs.Option.{option_map_or}
use Rattle.std.proofs.lemmas.List.Elements.{All-cons, All-head, All-tail, All-weaker}
use Rattle.fr_cluster.specs.Sane.{IsSane}
use Rattle.fr_cluster.specs.Values.{Values}
use Rattle.fr_time.specs.Cycles.{double_cycle_of}
use Rattle.fr_log.specs.View.{LogView, IsEntry}
use Rattle.fr_log.specs.declared.entry.Entry.{Entry}
use Rattle.fr_sightings.specs.Sightings.{IsSighting, fate_of, fates_from, last_behind, sighting_in, sightings_of}
use Rattle.fr_sightings.specs.declared.sighting.Fate.{Fate}
use Rattle.fr_sightings.specs.declared.sighting.Fate.TheVariants as fate
use Rattle.fr_sightings.specs.declared.sighting.Sighting.{Sighting}
use Rattle.fr_sightings.proofs.Proper.{Follows, seen_follows}

abbrev pub double : Sighting → ℕ
double sighting = double_cycle_of sighting.number

abbrev pub Comes : ℕ → Sighting → Type 0
Comes low sighting = low ≤ double sighting

-- sightings that are proper and rise from a double cycle on
pub record AreRising (p : Values) (l : LogView) (low : ℕ) (sightings : List Sighting) : Type 0 where
  pub proper : All (IsSighting p l) sightings
  pub from : All (Comes low) sightings
  pub ascending : IsNonDecreasingBy double sightings

rising_none : (p : Values) (l : LogView) (low : ℕ) → AreRising p l low []
rising_none p l low =
    record {
      proper = λ i d within. absurd (omega (arith, within));
      from = λ i d within. absurd (omega (arith, within));
      ascending = λ i j d before within. absurd (omega (arith, within));
    }

pub ascending_more : (x : Sighting) (xs : List Sighting) → All (Comes (double x)) xs → IsNonDecreasingBy double xs → IsNonDecreasingBy double (x ∷ xs)
ascending_more x xs from ascending zero zero d before within = omega arith
ascending_more x xs from ascending zero (suc j) d before within = from j d (omega (arith, within))
ascending_more x xs from ascending (suc i) zero d before within = absurd (omega (arith, before))
ascending_more x xs from ascending (suc i) (suc j) d before within = ascending i j d (omega (arith, before)) (omega (arith, within))

rising_more : (p : Values) (l : LogView) (low : ℕ) (x : Sighting) (xs : List Sighting) → IsSighting p l x → low ≤ double x
    → AreRising p l (double x) xs → AreRising p l low (x ∷ xs)
rising_more p l low x xs proper least rest =
    record {
      proper = All-cons (IsSighting p l) x xs proper rest.proper;
      from = All-cons (Comes low) x xs least (All-weaker (Comes (double x)) (Comes low) (λ y h. omega (arith, h, least)) xs rest.from);
      ascending = ascending_more x xs rest.from rest.ascending;
    }

-- the double cycle of the last sighting
abbrev pub reached : Option Sighting → ℕ
reached last = option_map_or double last 0

pub reached_by : (last : Option Sighting) (n : ℕ) → IfSome last (λ before. double before ≤ n) → reached last ≤ n
reached_by None n later = omega arith
reached_by (Some before) n later = later

module _ (p : Values) (l : LogView) (sane : IsSane p) where
  rising_from : (entries : List Entry) (last : Option Sighting) → All (IsEntry l.unit) entries
      → AreRising p l (reached last) (filter_map sighting_in (fates_from p l last entries))
  unfolding fates_from
  rising_from [] last proper = rising_none p l (reached last)
  rising_from (e ∷ entries) last proper =
      by (fate_of p l last e) refl (λ after. rising_from entries after (All-tail (IsEntry l.unit) e entries proper))
    where
      by : (found : Fate) → fate_of p l last e ≡ found
          → ((after : Option Sighting) → AreRising p l (reached after) (filter_map sighting_in (fates_from p l after entries)))
          → AreRising p l (reached last) (filter_map sighting_in (found ∷ fates_from p l (last_behind last found) entries))
      by fate.Damaged is rest = rest last
      by fate.Arbitrary is rest = rest last
      by fate.Other is rest = rest last
      by (fate.Irregular frame) is rest = rest last
      by (fate.Untimely frame) is rest = rest last
      by fate.Stray is rest = rest last
      by fate.Behind is rest = rest last
      by (fate.Seen sighting) is rest =
          let follows = seen_follows p l last e sighting sane (All-head (IsEntry l.unit) e entries proper) is in
          rising_more p l (reached last) sighting (filter_map sighting_in (fates_from p l (Some sighting) entries)) follows.proper
          (reached_by last (double sighting) follows.later) (rest (Some sighting))

pub sightings_are_rising : (p : Values) (l : LogView) (entries : List Entry) → IsSane p → All (IsEntry l.unit) entries
    → AreRising p l 0 (filter_map sighting_in (fates_from p l None entries))
sightings_are_rising p l entries sane proper = rising_from p l sane entries None proper
