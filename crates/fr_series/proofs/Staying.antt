-- A covered run that comes into sync stays in sync, and within its precision.
use Rattle.std.proofs.Common.{◌≡◌, ℕ, zero, suc, ◌+◌, ◌*◌, ◌/◌, ◌<◌, ◌≤◌, ℤ, pos, Bool, true, false, [], ◌∷◌, length, Option, Some, None, refl, ap, sym, ◌∙◌, subst, arith}
use Rattle.std.specs.Prelude.{◌≤ℤ◌, nat_lt}
use Rattle.std.proofs.lemmas.List.{length-map}
use Rattle.fr_bound.specs.Bounds.{precision_of}
use Rattle.fr_bound.specs.Sync.{IsInSync, is_in_sync}
use Rattle.fr_bound.proofs.Sync.{to_in_sync}
use Rattle.fr_cluster.specs.Sane.{IsSane}
use Rattle.fr_cluster.specs.Values.{Values, amount}
use Rattle.fr_cluster.specs.declared.names.ParamName.TheVariants as name
use Rattle.fr_coverage.specs.Coverage.{first_gap}
use Rattle.fr_coverage.specs.Decided.{setting_of}
use Rattle.fr_coverage.proofs.GapParts.{found-none}
use Rattle.fr_drift.specs.Files.{DriftFits}
use Rattle.fr_drift.specs.Questions.{doubles_of}
use Rattle.fr_drift.specs.View.{DriftView}
use Rattle.fr_script.specs.Files.{ScriptFits}
use Rattle.fr_script.specs.View.{ScriptView}
use Rattle.fr_history.specs.History.{History, Record, record_at}
use Rattle.fr_history.specs.Skew.{skew_at}
use Rattle.fr_history.specs.Sync.{IsInSyncAt}
use Rattle.fr_history.proofs.Greatest.{record_after, record_here}
use Rattle.fr_history.specs.Cycles.{Cycle, Cycles, told_of}
use Rattle.fr_history.specs.Lawful.{IsLawful}
use Rattle.fr_history.specs.Unfollowed.{IsFirstUnfollowedSync, IsUnfollowedSyncAt, first_unfollowed_sync_of}
use Rattle.fr_history.proofs.UnfollowedSync.{first_unfollowed_sync_is, never_unfollowed_sync, unfollowed_sync_within}
use Rattle.fr_promise.specs.Files.{FilesKeepPrecision}
use Rattle.fr_promise.specs.Statement.{KeepsPrecision}
use Rattle.fr_time.specs.Position.{grid_for}
use Rattle.fr_skew.specs.Spreads.{spread_at}
use Rattle.fr_series.specs.Figures.{above_from, figures_of, lost_by}
use Rattle.fr_series.specs.Scale.{first_above, scale_of}
use Rattle.fr_series.proofs.Above.{none_above}
use Rattle.fr_series.specs.SeriesAnswer.{TellsInSync}

-- ---- within the precision

IsBelow : Values → ℕ → History → Type 0
IsBelow p from h =
    (cycle macrotick : ℕ) → from ≤ cycle → cycle < length h → macrotick < amount p name.gMacroPerCycle → skew_at p h cycle macrotick ≤ℤ pos (precision_of p)

below_before : (p : Values) (from : ℕ) (r : Record) (h : History) → IsBelow p from (r ∷ h) → IsBelow p from h
unfolding IsBelow
below_before p from r h below = λ cycle macrotick low high in_cycle.
    let same : skew_at p (r ∷ h) cycle macrotick ≡ skew_at p h cycle macrotick = rw (record_after r h cycle high) refl in
    subst (λ (x : ℤ). x ≤ℤ pos (precision_of p)) same (below cycle macrotick low (omega (arith, high)) in_cycle)

below_here : (p : Values) (from : ℕ) (r : Record) (h : History) → IsBelow p from (r ∷ h) → from ≤ length h
    → first_above (grid_for p) (length h) r.rows (pos (precision_of p)) (amount p name.gMacroPerCycle) ≡ None
unfolding IsBelow
below_here p from r h below low =
    none_above (grid_for p) (length h) r.rows (pos (precision_of p)) (amount p name.gMacroPerCycle)
    (λ macrotick in_cycle.
    (
    let same : skew_at p (r ∷ h) (length h) macrotick ≡ spread_at (grid_for p) (length h) r.rows macrotick = rw (record_here r h) refl in
    subst (λ (x : ℤ). x ≤ℤ pos (precision_of p)) same (below (length h) macrotick low (omega arith) in_cycle)
    ))

not_less : (a b : ℕ) → nat_lt a b ≡ false → b ≤ a
not_less a b is = grind arith

below_by : (p : Values) (from : ℕ) (r : Record) (h : History) (early : Bool) → nat_lt (length h) from ≡ early → IsBelow p from (r ∷ h) → above_from (scale_of p) from h ≡ None
    → above_from (scale_of p) from (r ∷ h) ≡ None
unfolding above_from
below_by p from r h true is below before = rw is refl
below_by p from r h false is below before = rw (is, before, below_here p from r h below (not_less (length h) from is)) refl

all_below : (p : Values) (from : ℕ) (h : History) → IsBelow p from h → above_from (scale_of p) from h ≡ None
unfolding above_from
all_below p from [] below = refl
all_below p from (r ∷ h) below = below_by p from r h (nat_lt (length h) from) refl below (all_below p from h (below_before p from r h below))

-- ---- in sync to the end

some_is : (r q : Record) → Some r ≡ Some q → r ≡ q
some_is r q is = cc

-- where the last double cycle is in sync, none is lost
last_synced : (p : Values) (h : History) (last : ℕ) → length h ≡ 2 * suc last → IsInSyncAt p h last → lost_by (is_in_sync p) h ≡ None
unfolding lost_by
last_synced p [] last whole sync = refl
last_synced p (r ∷ []) last whole sync = absurd (omega (arith, whole))
last_synced p (odd ∷ even ∷ t) last whole sync =
    let long : length t ≡ 2 * last = omega (arith, whole) in
    let late : 2 * last + 1 ≡ length (even ∷ t) = omega (arith, long) in
    let one : sync.odd ≡ odd = some_is sync.odd odd (sym sync.has_odd ∙ ap (record_at (odd ∷ even ∷ t)) late ∙ record_here odd (even ∷ t)) in
    let other : sync.even ≡ even =
    some_is sync.even even (sym sync.has_even ∙ record_after odd (even ∷ t) (2 * last) (omega (arith, long)) ∙ ap (record_at (even ∷ t)) (sym long) ∙ record_here even t) in
    let early : IsInSync p even.rows sync.odd.rows = subst (λ (r : Record). IsInSync p r.rows sync.odd.rows) other sync.in_sync in
    let both : IsInSync p even.rows odd.rows = subst (λ (r : Record). IsInSync p even.rows r.rows) one early in
    rw (to_in_sync p even.rows odd.rows both) refl

-- ---- both

-- the number of the last double cycle
last_of : (doubles : ℕ) → 0 < doubles → (k : ℕ) × (doubles ≡ suc k)
last_of zero some = absurd (omega (arith, some))
last_of (suc k) some = (k, refl)

stays_by : FilesKeepPrecision → (p : Values) (d : DriftView) (s : ScriptView) (h : Cycles) (double : ℕ)
    → IsSane p → DriftFits p d → ScriptFits p s → first_gap p d s ≡ None → IsLawful (setting_of p d s) h → length h ≡ 2 * doubles_of d → IsUnfollowedSyncAt p h double
    → (found : Option ℕ) → first_unfollowed_sync_of p h ≡ found → TellsInSync p h
unfolding figures_of IsBelow
stays_by keeps p d s h double sane fits script none lawful whole sync None is = absurd (never_unfollowed_sync p h is double sync)
stays_by keeps p d s h double sane fits script none lawful whole sync (Some first) is =
    let at : IsFirstUnfollowedSync p h first = first_unfollowed_sync_is p h first is in
    let kept : KeepsPrecision (setting_of p d s) h first =
    keeps p d s h first sane fits script (λ gap. found-none p d s gap sane none) (record { lawful = lawful; whole = whole }) at.unfollowed in
    let less : first < length h / 2 = unfollowed_sync_within p h first at.unfollowed in
    let last = last_of (doubles_of d) (omega (arith, less, whole)) in
    let long : length (told_of h) ≡ length h = length-map h (λ (c : Cycle). c.told) in
    let whole_by : length (told_of h) ≡ 2 * suc last.0 = long ∙ whole ∙ ap (λ (n : ℕ). 2 * n) last.1 in
    let synced : IsInSyncAt p (told_of h) last.0 = (let e = last.1 in kept.synced last.0 (omega (arith, less, whole, e)) (omega (arith, e))) in
    let lost : lost_by (is_in_sync p) (told_of h) ≡ None = last_synced p (told_of h) last.0 whole_by synced in
    let above : above_from (scale_of p) (2 * first) (told_of h) ≡ None =
    all_below p (2 * first) (told_of h) (λ cycle macrotick low high in_cycle. kept.skew cycle macrotick low (omega (arith, high, long)) in_cycle) in
    record { synced = rw lost refl; within = rw (is, above) refl }

pub stays_in_sync : FilesKeepPrecision → (p : Values) (d : DriftView) (s : ScriptView) (h : Cycles) (double : ℕ)
    → IsSane p → DriftFits p d → ScriptFits p s → first_gap p d s ≡ None → IsLawful (setting_of p d s) h → length h ≡ 2 * doubles_of d → IsUnfollowedSyncAt p h double
    → TellsInSync p h
stays_in_sync keeps p d s h double sane fits script none lawful whole sync =
    stays_by keeps p d s h double sane fits script none lawful whole sync (first_unfollowed_sync_of p h) refl
