-- The first double cycle in sync in which no node follows: the function finds it, and there is no other.
use Rattle.std.proofs.Common.{◌≡◌, ◌⊎◌, ℕ, suc, ◌/◌, ◌<◌, Bool, true, false, not, Option, Some, None, List, [], ◌∷◌, length, refl, ap, sym, ◌∙◌, inl, inr, arith, ◌==◌, ◌&&◌}
use Rattle.std.proofs.lemmas.Bool.{and_parts}
use Rattle.fr_base.specs.declared.node_row.NodeRow.{NodeRow}
use Rattle.fr_bound.specs.Sync.{is_in_sync}
use Rattle.fr_bound.proofs.Sync.{in_sync_from, to_in_sync}
use Rattle.fr_cluster.specs.Values.{Values}
use Rattle.fr_time.specs.Cycles.{even_cycle, odd_cycle}
use Rattle.fr_history.proofs.Synced.{IsFirstOf, found_first, none_passes}
use Rattle.fr_history.specs.Cycles.{Cycle, Cycles, cycle_at}
use Rattle.fr_history.specs.Gauged.{FollowedRecord, first_free_sync_of, followed_at, is_free_sync_at, is_free_sync_by}
use Rattle.fr_history.specs.Unfollowed.{IsFirstUnfollowedSync, IsUnfollowedSyncAt, first_unfollowed_sync_of, followed_of, is_none}
use Rattle.fr_history.proofs.FollowedSync.{followed_at_is, followed_length, seen}

-- ---- the record of a cycle

cycle_at-lt_by : (c : Cycle) (h : Cycles) (n : ℕ) (d : Cycle) (b : Bool) → (length h == n) ≡ b → (cycle_at h n ≡ Some d → n < length h) → cycle_at (c ∷ h) n ≡ Some d → n < suc (length h)
unfolding cycle_at
cycle_at-lt_by c h n d true same after is = let e : length h ≡ n = grind arith in omega arith
cycle_at-lt_by c h n d false other after is =
    let moved : cycle_at (c ∷ h) n ≡ cycle_at h n = rw other refl in
    let below : n < length h = after (sym moved ∙ is) in
    omega arith

cycle_at-lt : (h : Cycles) (n : ℕ) (d : Cycle) → cycle_at h n ≡ Some d → n < length h
unfolding cycle_at
cycle_at-lt [] n d is = absurd (cc)
cycle_at-lt (c ∷ h) n d is = cycle_at-lt_by c h n d (length h == n) refl (cycle_at-lt h n d) is

-- ---- in sync, and none follows

none_from : (rows : List NodeRow) → not (not (is_none rows)) ≡ true → rows ≡ []
none_from [] is = refl
none_from (row ∷ rows) is = absurd (cc)

-- the test of a double cycle, by its cycles
test_is : (p : Values) (h : Cycles) (k : ℕ) → is_free_sync_at p (followed_of h) k ≡ is_free_sync_by p (seen (cycle_at h (even_cycle k))) (seen (cycle_at h (odd_cycle k)))
test_is p h k =
    ap (λ (o : Option FollowedRecord). is_free_sync_by p o (followed_at (followed_of h) (odd_cycle k))) (followed_at_is h (even_cycle k))
    ∙ ap (λ (o : Option FollowedRecord). is_free_sync_by p (seen (cycle_at h (even_cycle k))) o) (followed_at_is h (odd_cycle k))

unfollowed_sync_from : (p : Values) (h : Cycles) (k : ℕ) (even odd : Option Cycle) → cycle_at h (even_cycle k) ≡ even → cycle_at h (odd_cycle k) ≡ odd → is_free_sync_by p (seen even) (seen odd) ≡ true → IsUnfollowedSyncAt p h k
unfollowed_sync_from p h k None odd has_even has_odd is = absurd (cc)
unfollowed_sync_from p h k (Some even) None has_even has_odd is = absurd (cc)
unfollowed_sync_from p h k (Some even) (Some odd) has_even has_odd is =
    let both = and_parts (is_in_sync p even.told.rows odd.told.rows && not (not (is_none even.followers))) (not (not (is_none odd.followers))) is in
    let one = and_parts (is_in_sync p even.told.rows odd.told.rows) (not (not (is_none even.followers))) both.0 in
    record {
      synced = record { even = even; odd = odd; has_even = has_even; has_odd = has_odd; in_sync = in_sync_from p even.told.rows odd.told.rows one.0 };
      none_early = none_from even.followers one.1;
      none_late = none_from odd.followers both.1;
    }

is_unfollowed_sync : (p : Values) (h : Cycles) (k : ℕ) → is_free_sync_at p (followed_of h) k ≡ true → IsUnfollowedSyncAt p h k
is_unfollowed_sync p h k is = unfollowed_sync_from p h k (cycle_at h (even_cycle k)) (cycle_at h (odd_cycle k)) refl refl (sym (test_is p h k) ∙ is)

to_unfollowed_sync : (p : Values) (h : Cycles) (k : ℕ) → IsUnfollowedSyncAt p h k → is_free_sync_at p (followed_of h) k ≡ true
to_unfollowed_sync p h k is =
    let s = is.synced in
    test_is p h k ∙ rw (s.has_even, s.has_odd) (rw (to_in_sync p s.even.told.rows s.odd.told.rows s.in_sync, is.none_early, is.none_late) refl)

-- such a double cycle is a complete one
pub unfollowed_sync_within : (p : Values) (h : Cycles) (k : ℕ) → IsUnfollowedSyncAt p h k → k < length h / 2
unfollowed_sync_within p h k is = let below : odd_cycle k < length h = cycle_at-lt h (odd_cycle k) is.synced.odd is.synced.has_odd in omega (arith, below)

no_test : (p : Values) (h : Cycles) (k : ℕ) → is_free_sync_at p (followed_of h) k ≡ false → IsUnfollowedSyncAt p h k → ⊥
no_test p h k fails is = let passes : is_free_sync_at p (followed_of h) k ≡ true = to_unfollowed_sync p h k is in let e : false ≡ true = sym fails ∙ passes in cc

pub first_unfollowed_sync_is : (p : Values) (h : Cycles) (k : ℕ) → first_unfollowed_sync_of p h ≡ Some k → IsFirstUnfollowedSync p h k
unfolding first_unfollowed_sync_of first_free_sync_of
first_unfollowed_sync_is p h k is =
    let first : IsFirstOf (is_free_sync_at p (followed_of h)) 0 (length (followed_of h) / 2) k = found_first (is_free_sync_at p (followed_of h)) 0 (length (followed_of h) / 2) k is in
    record {
      unfollowed = is_unfollowed_sync p h k first.passes;
      first = λ j below unfollowed. no_test p h j (first.earlier j (omega arith) below) unfollowed;
    }

pub never_unfollowed_sync : (p : Values) (h : Cycles) → first_unfollowed_sync_of p h ≡ None → (k : ℕ) → IsUnfollowedSyncAt p h k → ⊥
unfolding first_unfollowed_sync_of first_free_sync_of
never_unfollowed_sync p h is k unfollowed =
    no_test p h k (none_passes (is_free_sync_at p (followed_of h)) 0 (length (followed_of h) / 2) is k (omega arith) (let w : k < length h / 2 = unfollowed_sync_within p h k unfollowed in let long = followed_length h in omega (arith, w, long))) unfollowed

pub first_unfollowed_sync_is_one : (p : Values) (h : Cycles) (k l : ℕ) → IsFirstUnfollowedSync p h k → IsFirstUnfollowedSync p h l → k ≡ l
first_unfollowed_sync_is_one p h k l one other = by_order (grind arith)
  where
    by_order : ((k < l) ⊎ (l < k)) ⊎ (k ≡ l) → k ≡ l
    by_order (inl (inl less)) = absurd (other.first k less one.unfollowed)
    by_order (inl (inr more)) = absurd (one.first l more other.unfollowed)
    by_order (inr same) = same
