-- What the figures of a series mean, from the laws of those that compute them.
use Rattle.std.proofs.Common.{◌≡◌, ◌∙◌, ◌⊎◌, inl, inr, ℕ, zero, suc, ◌*◌, ◌/◌, ◌<◌, ◌≤◌, Bool, true, false, Option, Some, None, [], ◌∷◌, length, refl, ap, sym, subst, arith}
use Rattle.std.specs.Prelude.{unwrap_or, if◌then◌else◌}
use Rattle.std.proofs.lemmas.List.{length-map}
use Rattle.fr_bound.specs.Sync.{IsInSync, is_in_sync}
use Rattle.fr_bound.proofs.Sync.{in_sync_from, to_in_sync}
use Rattle.fr_cluster.specs.Values.{Values, amount}
use Rattle.fr_cluster.specs.declared.names.ParamName.TheVariants as name
use Rattle.fr_time.specs.Cycles.{even_cycle, odd_cycle}
use Rattle.fr_history.specs.Cycles.{Cycle, Cycles, told_of}
use Rattle.fr_history.specs.History.{History, Record, record_at}
use Rattle.fr_history.specs.Sync.{IsInSyncAt}
use Rattle.fr_history.specs.Unfollowed.{IsFirstUnfollowedSync, IsUnfollowedSyncAt, first_unfollowed_sync_of}
use Rattle.fr_history.proofs.Greatest.{record_after, record_here}
use Rattle.fr_history.proofs.Synced.{record_at-lt}
use Rattle.fr_history.proofs.UnfollowedSync.{unfollowed_sync_within}
use Rattle.fr_report.proofs.ReportFigures.{sync_found}
use Rattle.fr_series.specs.Figures.{figures_of, lost_by}
use Rattle.fr_series.specs.Scale.{scale_of}
use Rattle.fr_series.specs.SeriesMeaning.{AreFiguresOf, IsLostFound}
use Rattle.fr_series.proofs.SharpPlaces.{above_since_is, greatest_since_is}

-- ---- a history with one double cycle more

module _ (p : Values) (odd even : Record) (h : History) where
  -- what it says of a cycle before them
  same_record : (cycle : ℕ) → cycle < length h → record_at (odd ∷ even ∷ h) cycle ≡ record_at h cycle
  same_record cycle less = record_after odd (even ∷ h) cycle (omega (arith, less)) ∙ record_after even h cycle less

  -- a double cycle that is in sync lies in it
  sync_inside : (k : ℕ) (g : History) → IsInSyncAt p g k → suc (2 * k) < length g
  sync_inside k g sync = let less = record_at-lt g (odd_cycle k) sync.odd sync.has_odd in omega (arith, less)

  -- it is in sync in the same double cycles as before
  still_synced : (k : ℕ) → IsInSyncAt p h k → IsInSyncAt p (odd ∷ even ∷ h) k
  still_synced k sync =
      let less = sync_inside k h sync in
      record {
        even = sync.even;
        odd = sync.odd;
        has_even = same_record (even_cycle k) (omega (arith, less)) ∙ sync.has_even;
        has_odd = same_record (odd_cycle k) (omega (arith, less)) ∙ sync.has_odd;
        in_sync = sync.in_sync;
      }

  was_synced : (k : ℕ) → suc (2 * k) < length h → IsInSyncAt p (odd ∷ even ∷ h) k → IsInSyncAt p h k
  was_synced k less sync = record {
    even = sync.even;
    odd = sync.odd;
    has_even = sym (same_record (even_cycle k) (omega (arith, less))) ∙ sync.has_even;
    has_odd = sym (same_record (odd_cycle k) (omega (arith, less))) ∙ sync.has_odd;
    in_sync = sync.in_sync;
  }

  module _ (m : ℕ) (long : length h ≡ 2 * m) where
    has_last_odd : record_at (odd ∷ even ∷ h) (odd_cycle m) ≡ Some odd
    has_last_odd = let late : odd_cycle m ≡ length (even ∷ h) = omega (arith, long) in ap (record_at (odd ∷ even ∷ h)) late ∙ record_here odd (even ∷ h)

    has_last_even : record_at (odd ∷ even ∷ h) (even_cycle m) ≡ Some even
    has_last_even =
        record_after odd (even ∷ h) (even_cycle m) (omega (arith, long)) ∙ ap (record_at (even ∷ h)) (sym long) ∙ record_here even h

    -- and in the last one where its rows are
    last_synced : is_in_sync p even.rows odd.rows ≡ true → IsInSyncAt p (odd ∷ even ∷ h) m
    last_synced test = record { even = even; odd = odd; has_even = has_last_even; has_odd = has_last_odd; in_sync = in_sync_from p even.rows odd.rows test }

    last_not : is_in_sync p even.rows odd.rows ≡ false → IsInSyncAt p (odd ∷ even ∷ h) m → ⊥
    last_not test sync =
        let first : sync.even ≡ even = some_is sync.even even (sym sync.has_even ∙ has_last_even) in
        let second : sync.odd ≡ odd = some_is sync.odd odd (sym sync.has_odd ∙ has_last_odd) in
        let early : IsInSync p even.rows sync.odd.rows = subst (λ (r : Record). IsInSync p r.rows sync.odd.rows) first sync.in_sync in
        let both : IsInSync p even.rows odd.rows = subst (λ (r : Record). IsInSync p even.rows r.rows) second early in
        cc (sym test ∙ to_in_sync p even.rows odd.rows both)
      where
        some_is : (r q : Record) → Some r ≡ Some q → r ≡ q
        some_is r q is = cc is

    -- from when on it is out of sync
    lost_by_last : (test : Bool) → is_in_sync p even.rows odd.rows ≡ test → (lost : Option ℕ) → IsLostFound p h lost
        → IsLostFound p (odd ∷ even ∷ h) (if test then None else Some (unwrap_or lost m))
    lost_by_last true is lost before = λ last whole.
        let same : m ≡ last = omega (arith, long, whole) in
        subst (λ (k : ℕ). IsInSyncAt p (odd ∷ even ∷ h) k) same (last_synced is)
    lost_by_last false is None before = record {
      inside = omega (arith, long);
      none = λ later from sync.
          let less = sync_inside later (odd ∷ even ∷ h) sync in
          let same : later ≡ m = omega (arith, long, from, less) in
          last_not is (subst (λ (k : ℕ). IsInSyncAt p (odd ∷ even ∷ h) k) same sync);
      before = λ earlier next. still_synced earlier (before earlier (long ∙ ap (λ (k : ℕ). 2 * k) next));
    }
    lost_by_last false is (Some double) before = record {
      inside = let less = before.inside in omega (arith, less);
      none = λ later from sync. by_place later from sync (place later (sync_inside later (odd ∷ even ∷ h) sync));
      before = λ earlier next. still_synced earlier (before.before earlier next);
    }
      where
        place : (later : ℕ) → suc (2 * later) < suc (suc (length h)) → (later ≡ m) ⊎ (suc (2 * later) < length h)
        place later less = grind (arith, long)

        by_place : (later : ℕ) → double ≤ later → IsInSyncAt p (odd ∷ even ∷ h) later → (later ≡ m) ⊎ (suc (2 * later) < length h) → ⊥
        by_place later from sync (inl same) = last_not is (subst (λ (k : ℕ). IsInSyncAt p (odd ∷ even ∷ h) k) same sync)
        by_place later from sync (inr less) = before.none later from (was_synced later less sync)

-- ---- from when on a history is out of sync

lost_is : (p : Values) (h : History) (doubles : ℕ) → length h ≡ 2 * doubles → IsLostFound p h (lost_by (is_in_sync p) h)
unfolding lost_by
lost_is p [] doubles long = λ last whole. absurd (omega (arith, whole))
lost_is p (r ∷ []) doubles long = absurd (omega (arith, long))
lost_is p (odd ∷ even ∷ h) zero long = absurd (omega (arith, long))
lost_is p (odd ∷ even ∷ h) (suc m) long =
    let before : length h ≡ 2 * m = omega (arith, long) in
    let half : length h / 2 ≡ m = omega (arith, before) in
    let P : ℕ → Type 0 = λ k. IsLostFound p (odd ∷ even ∷ h) (if is_in_sync p even.rows odd.rows then None else Some (unwrap_or (lost_by (is_in_sync p) h) k)) in
    subst P (sym half) (lost_by_last p odd even h m before (is_in_sync p even.rows odd.rows) refl (lost_by (is_in_sync p) h) (lost_is p h m before))

-- ---- all figures

pub figures_are : (p : Values) (h : Cycles) (doubles : ℕ) → 0 < amount p name.gMacroPerCycle → length h ≡ 2 * doubles
    → ((double : ℕ) → first_unfollowed_sync_of p h ≡ Some double → IsFirstUnfollowedSync p h double)
    → (first_unfollowed_sync_of p h ≡ None → (double : ℕ) → IsUnfollowedSyncAt p h double → ⊥) → AreFiguresOf p h (figures_of p h)
unfolding figures_of
figures_are p h doubles some whole one none =
    let first : Option ℕ = first_unfollowed_sync_of p h in
    let long : length (told_of h) ≡ length h = length-map h (λ (c : Cycle). c.told) in
    record {
      synced = sync_found p h first refl one none;
      greatest =
          greatest_since_is p (told_of h) first some
          (λ double is. let within = unfollowed_sync_within p h double (one double is).unfollowed in omega (arith, within, long));
      lost = lost_is p (told_of h) doubles (long ∙ whole);
      above = above_since_is p (told_of h) (scale_of p) first refl;
    }
