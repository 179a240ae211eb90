-- A run that is sharply covered keeps the sharper precision from its first double cycle in sharp sync on, and its series says so.
use Rattle.std.proofs.Common.{◌≡◌, ◌⊎◌, inl, inr, List, ℕ, zero, suc, ◌+◌, ◌-◌, ◌*◌, ◌/◌, ◌%◌, ◌==◌, ◌<◌, ◌≤◌, ℤ, pos, Bool, true, false, [], ◌∷◌, length, Option, Some, None, refl, ap, sym, ◌∙◌, subst, arith}
use Rattle.std.specs.Prelude.{◌≤ℤ◌, nat_lt, int_lt, is_none, unwrap_or, IfSome, if◌then◌else◌, unwrap_or}
use Rattle.std.specs.Option.{option_map, option_or}
use Rattle.std.proofs.lemmas.List.{length-map}
use Rattle.fr_cluster.specs.Sane.{IsSane}
use Rattle.fr_cluster.specs.Values.{Values, amount}
use Rattle.fr_cluster.specs.declared.names.ParamName.TheVariants as name
use Rattle.fr_coverage.specs.Coverage.{some_join}
use Rattle.fr_coverage.specs.Decided.{setting_of}
use Rattle.fr_coverage.specs.Flutter.{flutter_from}
use Rattle.fr_coverage.specs.Order.{FindsGapFrom}
use Rattle.fr_coverage.specs.declared.gap.Gap.{Gap}
use Rattle.fr_drift.specs.Questions.{doubles_of}
use Rattle.fr_drift.specs.View.{DriftView}
use Rattle.fr_script.specs.View.{ScriptView}
use Rattle.fr_history.specs.History.{History, Record}
use Rattle.fr_history.specs.Skew.{skew_at}
use Rattle.fr_history.proofs.Greatest.{record_after, record_here}
use Rattle.fr_history.specs.Cycles.{Cycle, Cycles, told_of}
use Rattle.fr_history.specs.Lawful.{IsLawful}
use Rattle.fr_time.specs.Position.{grid_for}
use Rattle.fr_time.specs.declared.grid.Grid.{Grid}
use Rattle.fr_base.specs.declared.node_row.NodeRow.{NodeRow}
use Rattle.fr_skew.specs.Spreads.{spread_at}
use Rattle.fr_skew.specs.declared.peak.Peak.{Peak}
use Rattle.fr_skew.specs.declared.sync.SyncBounds.{SyncBounds}
use Rattle.fr_promise.specs.HeldWalks.{sync_lasts}
use Rattle.fr_sharp.specs.JoinedFiles.{CoveredFilesKeepSharplyJoined, KeepsSharplyJoined}
use Rattle.fr_promise.specs.JoinedHistories.{first_rates_last}
use Rattle.fr_bound.specs.SharpBounds.{sharp_precision}
use Rattle.fr_sharp.specs.SharpFiles.{CoveredFilesKeepSharply}
use Rattle.fr_sharp.specs.SharpStatement.{has_arbitrary, KeepsSharply}
use Rattle.fr_promise.specs.SharpTested.{IsFirstSharpSyncBy, first_sharp_sync_by, sharp_sync_bounds_of}
use Rattle.fr_promise.proofs.FirstRates.{first_rates_last_so}
use Rattle.fr_promise.proofs.FreeLemmas.{first_sharp_sync_by_is, first_sharp_sync_is_one, never_sharp_sync}
use Rattle.fr_series.specs.Basis.{basis_of, first_sharp_of, scale_from, sharp_figures_of, sharp_held}
use Rattle.fr_series.specs.Figures.{above_from, above_since, greatest_since}
use Rattle.fr_series.specs.Scale.{above_at, first_above}
use Rattle.fr_series.specs.SharpAnswer.{FitsToJoin, KeepsAndTells, TellsSharply}
use Rattle.fr_sharp.specs.SharpCovered.{first_sharp_gap, IsCoveredSharply}
use Rattle.fr_series.specs.SharpText.{sharp_within_text}
use Rattle.fr_series.specs.declared.scale.Scale.{Scale}
use Rattle.fr_series.specs.declared.tally.SharpFigures.{SharpFigures}
use Rattle.fr_series.proofs.Above.{none_above}
use Rattle.fr_sharp.proofs.SharpCovering.{no_sharp_gap}

-- ---- where the skew is above a limit

-- the numbers of a cluster with any bounds and any limit
abbrev scale_by : Values → SyncBounds → ℤ → Scale
scale_by p bounds limit = record { grid = grid_for p; bounds = bounds; precision = limit }

-- from a cycle on, and up to another, it is not
abbrev pub IsBelow : Values → ℤ → ℕ → ℕ → History → Type 0
IsBelow p limit from upto h =
    (cycle macrotick : ℕ) → from ≤ cycle → cycle < upto → cycle < length h → macrotick < amount p name.gMacroPerCycle → skew_at p h cycle macrotick ≤ℤ limit

below_before : (p : Values) (limit : ℤ) (from upto : ℕ) (r : Record) (h : History) → IsBelow p limit from upto (r ∷ h) → IsBelow p limit from upto h
below_before p limit from upto r h below = λ cycle macrotick low high in_h in_cycle.
    let same : skew_at p (r ∷ h) cycle macrotick ≡ skew_at p h cycle macrotick = rw (record_after r h cycle in_h) refl in
    subst (λ (x : ℤ). x ≤ℤ limit) same (below cycle macrotick low high (omega (arith, in_h)) in_cycle)

below_here : (p : Values) (limit : ℤ) (from upto : ℕ) (r : Record) (h : History) → IsBelow p limit from upto (r ∷ h) → from ≤ length h → length h < upto
    → first_above (grid_for p) (length h) r.rows limit (amount p name.gMacroPerCycle) ≡ None
below_here p limit from upto r h below low high =
    none_above (grid_for p) (length h) r.rows limit (amount p name.gMacroPerCycle)
    (λ macrotick in_cycle.
    (
    let same : skew_at p (r ∷ h) (length h) macrotick ≡ spread_at (grid_for p) (length h) r.rows macrotick = rw (record_here r h) refl in
    subst (λ (x : ℤ). x ≤ℤ limit) same (below (length h) macrotick low high (omega arith) in_cycle)
    ))

-- a place at which it is above is one of the cycle that was asked
above_place : (limit : ℤ) (peak found : Peak) → above_at limit peak ≡ Some found → found.cycle ≡ peak.cycle
above_place limit peak found is = by (int_lt limit peak.skew) is
  where
    by : (above : Bool) → (if above then Some peak else None) ≡ Some found → found.cycle ≡ peak.cycle
    by true same = sym (ap (λ (o : Option Peak). unwrap_or (option_map (λ p. p.cycle) o) 0) same)
    by false same = absurd (cc)

or_found : (a b : Option Peak) (x : Peak) → option_or a b ≡ Some x → (a ≡ Some x) ⊎ (b ≡ Some x)
or_found None b x is = inr is
or_found (Some y) b x is = inl is

first_above_cycle : (grid : Grid) (cycle : ℕ) (rows : List NodeRow) (limit : ℤ) (count : ℕ) (found : Peak) → first_above grid cycle rows limit count ≡ Some found → found.cycle ≡ cycle
unfolding first_above
first_above_cycle grid cycle rows limit zero found is = absurd (cc)
first_above_cycle grid cycle rows limit (suc count) found is =
    let later : Peak = record { skew = spread_at grid cycle rows count; cycle = cycle; macrotick = count } in
    by (or_found (first_above grid cycle rows limit count) (above_at limit later) found is) (first_above_cycle grid cycle rows limit count found)
  where
    by : (first_above grid cycle rows limit count ≡ Some found) ⊎ (above_at limit (record { skew = spread_at grid cycle rows count; cycle = cycle; macrotick = count }) ≡ Some found)
        → (first_above grid cycle rows limit count ≡ Some found → found.cycle ≡ cycle) → found.cycle ≡ cycle
    by (inl before) earlier = earlier before
    by (inr here) earlier = above_place limit (record { skew = spread_at grid cycle rows count; cycle = cycle; macrotick = count }) found here

-- the first place from a cycle on at which it is above is not up to the other, and in the history
abbrev pub IsLate : ℕ → ℕ → Peak → Type 0
IsLate upto long peak = (upto ≤ peak.cycle) × (peak.cycle < long)

not_less : (a b : ℕ) → nat_lt a b ≡ false → b ≤ a
not_less a b is = grind arith

is_less : (a b : ℕ) → nat_lt a b ≡ true → a < b
is_less a b is = grind arith

late_here : (p : Values) (limit : ℤ) (from upto : ℕ) (r : Record) (h : History) (peak : Peak) (early : Bool) → nat_lt (length h) upto ≡ early → IsBelow p limit from upto (r ∷ h) → from ≤ length h
    → first_above (grid_for p) (length h) r.rows limit (amount p name.gMacroPerCycle) ≡ Some peak → IsLate upto (suc (length h)) peak
late_here p limit from upto r h peak true is below low found =
    let none = below_here p limit from upto r h below low (is_less (length h) upto is) in
    let e : None ≡ Some peak = sym none ∙ found in
    absurd (cc)
late_here p limit from upto r h peak false is below low found =
    let at : peak.cycle ≡ length h = first_above_cycle (grid_for p) (length h) r.rows limit (amount p name.gMacroPerCycle) peak found in
    let far : upto ≤ length h = not_less (length h) upto is in
    (omega (arith, at, far), omega (arith, at))

late_by : (p : Values) (bounds : SyncBounds) (limit : ℤ) (from upto : ℕ) (r : Record) (h : History) (peak : Peak) (early : Bool) → nat_lt (length h) from ≡ early → IsBelow p limit from upto (r ∷ h)
    → (above_from (scale_by p bounds limit) from h ≡ Some peak → IsLate upto (length h) peak)
    → above_from (scale_by p bounds limit) from (r ∷ h) ≡ Some peak → IsLate upto (suc (length h)) peak
unfolding above_from
late_by p bounds limit from upto r h peak true is below before found =
    let none : above_from (scale_by p bounds limit) from (r ∷ h) ≡ None = rw is refl in
    let e : None ≡ Some peak = sym none ∙ found in
    absurd (cc)
late_by p bounds limit from upto r h peak false is below before found =
    let here : Option Peak = first_above (grid_for p) (length h) r.rows limit (amount p name.gMacroPerCycle) in
    let same : above_from (scale_by p bounds limit) from (r ∷ h) ≡ option_or (above_from (scale_by p bounds limit) from h) here = rw is refl in
    either (or_found (above_from (scale_by p bounds limit) from h) here peak (sym same ∙ found))
  where
    either : (above_from (scale_by p bounds limit) from h ≡ Some peak) ⊎ (first_above (grid_for p) (length h) r.rows limit (amount p name.gMacroPerCycle) ≡ Some peak) → IsLate upto (suc (length h)) peak
    either (inl earlier) = let late = before earlier in (late.0, let less = late.1 in omega (arith, less))
    either (inr now) = late_here p limit from upto r h peak (nat_lt (length h) upto) refl below (not_less (length h) from is) now

above_late : (p : Values) (bounds : SyncBounds) (limit : ℤ) (from upto : ℕ) (h : History) (peak : Peak) → IsBelow p limit from upto h → above_from (scale_by p bounds limit) from h ≡ Some peak
    → IsLate upto (length h) peak
unfolding above_from
above_late p bounds limit from upto [] peak below found = absurd (cc)
above_late p bounds limit from upto (r ∷ h) peak below found =
    late_by p bounds limit from upto r h peak (nat_lt (length h) from) refl below (above_late p bounds limit from upto h peak (below_before p limit from upto r h below)) found

-- ---- by double cycles

-- in a double cycle it is not
pub record IsApart (p : Values) (limit : ℤ) (h : Cycles) (k : ℕ) : Type 0 where
  pub even : (macrotick : ℕ) → macrotick < amount p name.gMacroPerCycle → skew_at p (told_of h) (2 * k) macrotick ≤ℤ limit
  pub odd : (macrotick : ℕ) → macrotick < amount p name.gMacroPerCycle → skew_at p (told_of h) (suc (2 * k)) macrotick ≤ℤ limit

below_by : (p : Values) (limit : ℤ) (first upto : ℕ) (h : Cycles) → ((k : ℕ) → first ≤ k → 2 * k < upto → 2 * k < length h → IsApart p limit h k) → IsBelow p limit (2 * first) upto (told_of h)
below_by p limit first upto h apart = λ cycle macrotick low high in_h in_cycle.
    let long : length (told_of h) ≡ length h = length-map h (λ (c : Cycle). c.told) in
    let k : ℕ = cycle / 2 in
    let near : IsApart p limit h k = apart k (omega (arith, low)) (omega (arith, high)) (omega (arith, in_h, long)) in
    by cycle macrotick near in_cycle (cycle % 2 == 0) refl
  where
    by : (cycle macrotick : ℕ) → IsApart p limit h (cycle / 2) → macrotick < amount p name.gMacroPerCycle → (even : Bool) → (cycle % 2 == 0) ≡ even → skew_at p (told_of h) cycle macrotick ≤ℤ limit
    by cycle macrotick near in_cycle true is =
        let parity : cycle % 2 ≡ 0 = grind arith in
        let same : 2 * (cycle / 2) ≡ cycle = omega (arith, parity) in
        subst (λ (n : ℕ). skew_at p (told_of h) n macrotick ≤ℤ limit) same (near.even macrotick in_cycle)
    by cycle macrotick near in_cycle false is =
        let parity : (cycle % 2 ≡ 0) → ⊥ = λ zero. absurd (grind arith) in
        let same : suc (2 * (cycle / 2)) ≡ cycle = omega (arith, parity) in
        subst (λ (n : ℕ). skew_at p (told_of h) n macrotick ≤ℤ limit) same (near.odd macrotick in_cycle)

-- ---- what is told

-- none is above where the first place would lie behind the run
none_late : (upto long : ℕ) (above : Option Peak) → long ≤ upto → ((peak : Peak) → above ≡ Some peak → IsLate upto long peak) → above ≡ None
none_late upto long None all late = refl
none_late upto long (Some peak) all late = let is = late peak refl in let far = is.0 in let less = is.1 in absurd (omega (arith, all, far, less))

-- the figures, where a double cycle is the first one in sharp sync
abbrev told_at : Scale → Option Peak → ℕ → Cycles → SharpFigures
told_at scale greatest first h = record { synced = Some first; greatest = greatest; above = above_since scale (told_of h) (Some first) }

abbrev figures_at : Values → DriftView → ScriptView → Cycles → Option ℕ → SharpFigures
figures_at p d s h found = record {
  synced = found;
  greatest = greatest_since (grid_for p) (told_of h) found;
  above = above_since (scale_from p d s (unwrap_or found 0)) (told_of h) found;
}

tells_by : (p : Values) (bounds : SyncBounds) (limit : ℤ) (greatest : Option Peak) (lasts : Option ℕ) (doubles first : ℕ) (h : Cycles) → length h ≡ 2 * doubles
    → ((k : ℕ) → first ≤ k → k < doubles → IfSome lasts (λ held. k - first < held) → IsApart p limit h k) → TellsSharply lasts doubles first (told_at (scale_by p bounds limit) greatest first h)
tells_by p bounds limit greatest None doubles first h whole apart =
    let upto : ℕ = length h in
    let below : IsBelow p limit (2 * first) upto (told_of h) = below_by p limit first upto h (λ k low high in_h. apart k low (omega (arith, in_h, whole)) tt) in
    let long : length (told_of h) ≡ length h = length-map h (λ (c : Cycle). c.told) in
    let above : Option Peak = above_from (scale_by p bounds limit) (2 * first) (told_of h) in
    let late : (peak : Peak) → above ≡ Some peak → IsLate upto (length (told_of h)) peak = λ peak found. above_late p bounds limit (2 * first) upto (told_of h) peak below found in
    let none : above ≡ None = none_late upto (length (told_of h)) above (omega (arith, long)) late in
    record { within = λ all. ap (sharp_within_text (Some first)) none; late = λ peak found. tt }
tells_by p bounds limit greatest (Some lasts) doubles first h whole apart =
    let upto : ℕ = 2 * (first + lasts) in
    let below : IsBelow p limit (2 * first) upto (told_of h) = below_by p limit first upto h (λ k low high in_h. apart k low (omega (arith, in_h, whole)) (omega (arith, high, low))) in
    let long : length (told_of h) ≡ length h = length-map h (λ (c : Cycle). c.told) in
    let above : Option Peak = above_from (scale_by p bounds limit) (2 * first) (told_of h) in
    let late : (peak : Peak) → above ≡ Some peak → IsLate upto (length (told_of h)) peak = λ peak found. above_late p bounds limit (2 * first) upto (told_of h) peak below found in record {
      within = λ all. ap (sharp_within_text (Some first)) (none_late upto (length (told_of h)) above (omega (arith, long, whole, all)) late);
      late = λ peak found. (late peak found).0;
    }

-- the first double cycle in sharp sync is the one that is found
found_is : (beside : Bool) (p : Values) (flutter : ℕ → ℕ) (h : Cycles) (first : ℕ) → IsFirstSharpSyncBy beside p flutter h first → (found : Option ℕ) → first_sharp_sync_by beside p flutter h ≡ found
    → first_sharp_sync_by beside p flutter h ≡ Some first
found_is beside p flutter h first at None is = absurd (never_sharp_sync beside p flutter h is first at.unfollowed)
found_is beside p flutter h first at (Some other) is =
    is ∙ ap (λ (k : ℕ). Some k) (first_sharp_sync_is_one beside p flutter h other first (first_sharp_sync_by_is beside p flutter h other is) at)

-- in which double cycles since then the skew is not above the sharper precision, where no node joins and where one does
apart_alone : (p : Values) (d : DriftView) (s : ScriptView) (h : Cycles) (first : ℕ) → KeepsSharply (has_arbitrary p s) (setting_of p d s) (flutter_from p d s first) h first
    → (k : ℕ) → first ≤ k → k < doubles_of d → IfSome (sync_lasts p (flutter_from p d s first)) (λ held. k - first < held) → IsApart p (pos (sharp_precision (has_arbitrary p s) p (flutter_from p d s first))) h k
apart_alone p d s h first kept k low high held =
    let near = kept.keeps k low high held in
    record { even = λ macrotick in_cycle. near.skew macrotick false in_cycle; odd = λ macrotick in_cycle. near.skew macrotick true in_cycle }

-- whoever lasts so long has lasted before
earlier_lasts : (lasts : Option ℕ) (m n : ℕ) → m ≤ n → IfSome lasts (λ held. n < held) → IfSome lasts (λ held. m < held)
earlier_lasts None m n less held = tt
earlier_lasts (Some many) m n less held = omega (arith, less, held)

apart_joined : (p : Values) (d : DriftView) (s : ScriptView) (h : Cycles) (first : ℕ) → KeepsSharplyJoined (has_arbitrary p s) (setting_of p d s) (flutter_from p d s first) h first
    → (k : ℕ) → first ≤ k → k < doubles_of d → IfSome (first_rates_last p (flutter_from p d s first)) (λ held. k - first < held) → IsApart p (pos (sharp_precision (has_arbitrary p s) p (flutter_from p d s first))) h k
apart_joined p d s h first kept k low high held =
    let flutter : ℕ = flutter_from p d s first in
    let passed : ℕ = k - first in
    let same : first + passed ≡ k = omega (arith, low) in
    let last = λ (m : ℕ) (most : m ≤ passed). (first_rates_last_so p flutter m).1 (earlier_lasts (first_rates_last p flutter) m passed most held) in
    let stays = kept.keeps passed (omega (arith, same, high)) (λ m less. last m (omega (arith, less))) in
    let near = stays.keeps (last passed (omega arith)) in
    let At : ℕ → Type 0 = λ n. IsApart p (pos (sharp_precision (has_arbitrary p s) p flutter)) h n in
    subst At same (record { even = λ macrotick in_cycle. near.skew macrotick false in_cycle; odd = λ macrotick in_cycle. near.skew macrotick true in_cycle })

-- what is told, for any number of double cycles for which it is so
told_for : (p : Values) (d : DriftView) (s : ScriptView) (h : Cycles) (first : ℕ) (lasts : Option ℕ) → length h ≡ 2 * doubles_of d
    → IsFirstSharpSyncBy (has_arbitrary p s) p (flutter_from p d s) h first
    → ((k : ℕ) → first ≤ k → k < doubles_of d → IfSome lasts (λ held. k - first < held) → IsApart p (pos (sharp_precision (has_arbitrary p s) p (flutter_from p d s first))) h k)
    → TellsSharply lasts (doubles_of d) first (sharp_figures_of p d s h)
told_for p d s h first lasts whole at apart =
    let beside : Bool = has_arbitrary p s in
    let flutter : ℕ = flutter_from p d s first in
    let limit : ℤ = pos (sharp_precision beside p flutter) in
    let bounds : SyncBounds = sharp_sync_bounds_of beside p flutter in
    let P : Option ℕ → Type 0 = λ found. TellsSharply lasts (doubles_of d) first (figures_at p d s h found) in
    let is : first_sharp_of p d s h ≡ Some first = found_is beside p (flutter_from p d s) h first at (first_sharp_of p d s h) refl in
    subst P (sym is) (tells_by p bounds limit (greatest_since (grid_for p) (told_of h) (Some first)) lasts (doubles_of d) first h whole apart)

pub stays_sharp : CoveredFilesKeepSharply → CoveredFilesKeepSharplyJoined → (p : Values) (d : DriftView) (s : ScriptView) (h : Cycles) (first : ℕ) → IsSane p → FitsToJoin p d s
    → FindsGapFrom p d s first → IsCoveredSharply p d s first (flutter_from p d s first)
    → IsLawful (setting_of p d s) h → length h ≡ 2 * doubles_of d → IsFirstSharpSyncBy (has_arbitrary p s) p (flutter_from p d s) h first → KeepsAndTells p d s h first
stays_sharp keeps joined p d s h first sane fits finds covered lawful whole at =
    record { keeps = alone_keeps; joined = joined_keeps; tells = by (some_join p s) refl }
  where
    alone_keeps : some_join p s ≡ false → KeepsSharply (has_arbitrary p s) (setting_of p d s) (flutter_from p d s first) h first
    alone_keeps none = keeps p d s first (flutter_from p d s first) h first sane (covered.alone none) (record { lawful = lawful; whole = whole }) (omega arith) at.unfollowed.synced

    joined_keeps : some_join p s ≡ true → KeepsSharplyJoined (has_arbitrary p s) (setting_of p d s) (flutter_from p d s first) h first
    joined_keeps some = joined p d s first (flutter_from p d s first) h first sane (fits some).0 (fits some).1 (covered.joined some) (record { lawful = lawful; whole = whole }) (omega arith) at.unfollowed

    found : is_none (first_sharp_gap p d s first (flutter_from p d s first)) ≡ true
    found = ap (λ (gap : Option Gap). is_none gap) (no_sharp_gap p d s first (flutter_from p d s first) sane finds covered)

    by : (joins : Bool) → some_join p s ≡ joins → TellsSharply (basis_of p d s first).lasts (doubles_of d) first (sharp_figures_of p d s h)
    by false none =
        let beside : Bool = has_arbitrary p s in
        let flutter : ℕ = flutter_from p d s first in
        let T : Option ℕ → Type 0 = λ lasts. TellsSharply lasts (doubles_of d) first (sharp_figures_of p d s h) in
        let held : (basis_of p d s first).lasts ≡ sync_lasts p flutter =
        ap (λ (b : Bool). sharp_held b (is_none (first_sharp_gap p d s first flutter)) beside p flutter) none
        ∙ ap (λ (b : Bool). sharp_held false b beside p flutter) found
        ∙ ap (λ (holds : Bool). if holds then sync_lasts p flutter else Some 0) ((covered.alone none).checks 2 (omega arith) (omega arith)) in
        subst T (sym held) (told_for p d s h first (sync_lasts p flutter) whole at (apart_alone p d s h first (alone_keeps none)))
    by true some =
        let beside : Bool = has_arbitrary p s in
        let flutter : ℕ = flutter_from p d s first in
        let T : Option ℕ → Type 0 = λ lasts. TellsSharply lasts (doubles_of d) first (sharp_figures_of p d s h) in
        let held : (basis_of p d s first).lasts ≡ first_rates_last p flutter = ap (λ (b : Bool). sharp_held b (is_none (first_sharp_gap p d s first flutter)) beside p flutter) some in
        subst T (sym held) (told_for p d s h first (first_rates_last p flutter) whole at (apart_joined p d s h first (joined_keeps some)))
