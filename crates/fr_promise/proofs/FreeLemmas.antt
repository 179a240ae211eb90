-- The first double cycle that passes a test and in which no node follows: the function finds it, and it is kept by two more
-- cycles. So it is with the first one in sharp sync.
use Rattle.std.proofs.Common.{◌≡◌, ◌⊎◌, ℕ, zero, suc, ◌+◌, ◌*◌, ◌/◌, ◌<◌, ◌++◌, Bool, true, false, Option, Some, None, List, [], ◌∷◌, length, refl, ap, sym, ◌∙◌, inl, inr, arith, ◌==◌, ◌&&◌}
use Rattle.std.specs.Prelude.{find, if◌then◌else◌}
use Rattle.std.specs.List.{range_with_len}
use Rattle.std.specs.Option.{option_or}
use Rattle.std.proofs.lemmas.Bool.{and_parts, ne_eqb}
use Rattle.std.proofs.lemmas.List.Folds.{find-append}
use Rattle.fr_base.specs.declared.node_row.NodeRow.{NodeRow}
use Rattle.fr_cluster.specs.Values.{Values}
use Rattle.fr_time.specs.Cycles.{even_cycle, odd_cycle}
use Rattle.fr_history.specs.Cycles.{Cycle, Cycles, cycle_at}
use Rattle.fr_history.specs.Unfollowed.{is_none}
use Rattle.fr_history.proofs.Gauged.{find-same}
use Rattle.fr_history.proofs.Synced.{IsFirstOf, found_first, none_passes}
use Rattle.fr_runs.proofs.Parts.{cycle_within}
use Rattle.fr_promise.specs.SharpTested.{IsFirstSharpSync, IsFirstSharpSyncBy, IsUnfollowedSharpSyncAt, are_free_at, are_free_by, first_free_of, first_sharp_sync_by, first_sharp_sync_of, is_in_sharp_sync}
use Rattle.fr_promise.proofs.TestedLemmas.{sharp_sync_from, to_sharp_sync}

-- ---- two more cycles

range-more : (from count : ℕ) → range_with_len from (count + 1) ≡ range_with_len from count ++ (from + count) ∷ []
range-more from zero = let same : from + 0 ≡ from = omega arith in rw same refl
range-more from (suc count) =
    let next : suc count + 1 ≡ suc (count + 1) = omega arith in
    let same : from + 1 + count ≡ from + suc count = omega arith in
    ap (λ (n : ℕ). range_with_len from n) next ∙ ap (λ (rest : List ℕ). from ∷ rest) (range-more (from + 1) count ∙ ap (λ (last : ℕ). range_with_len (from + 1) count ++ last ∷ []) same)

cycle_here : (c : Cycle) (h : Cycles) → cycle_at (c ∷ h) (length h) ≡ Some c
unfolding cycle_at
cycle_here c h = let e : (length h == length h) ≡ true = grind arith in rw e refl

cycle_after : (c : Cycle) (h : Cycles) (n : ℕ) → n < length h → cycle_at (c ∷ h) n ≡ cycle_at h n
unfolding cycle_at
cycle_after c h n below = let e : (length h == n) ≡ false = ne_eqb (length h) n (λ (same : length h ≡ n). omega arith) in rw e refl

-- the cycles of a double cycle before two others
two_after : (odd even : Cycle) (h : Cycles) (n : ℕ) → n < length h → cycle_at (odd ∷ even ∷ h) n ≡ cycle_at h n
two_after odd even h n below = cycle_after odd (even ∷ h) n (omega (arith, below)) ∙ cycle_after even h n below

free_before : (test : ℕ → List NodeRow → List NodeRow → Bool) (odd even : Cycle) (h : Cycles) (k : ℕ) → k < length h / 2 → are_free_at test (odd ∷ even ∷ h) k ≡ are_free_at test h k
free_before test odd even h k below =
    let early : cycle_at (odd ∷ even ∷ h) (even_cycle k) ≡ cycle_at h (even_cycle k) = two_after odd even h (even_cycle k) (omega (arith, below)) in
    let late : cycle_at (odd ∷ even ∷ h) (odd_cycle k) ≡ cycle_at h (odd_cycle k) = two_after odd even h (odd_cycle k) (omega (arith, below)) in
    ap (λ (o : Option Cycle). are_free_by (test k) o (cycle_at (odd ∷ even ∷ h) (odd_cycle k))) early
    ∙ ap (λ (o : Option Cycle). are_free_by (test k) (cycle_at h (even_cycle k)) o) late

free_here : (test : ℕ → List NodeRow → List NodeRow → Bool) (odd even : Cycle) (h : Cycles) (double : ℕ) → length h ≡ 2 * double
    → are_free_at test (odd ∷ even ∷ h) double ≡ are_free_by (test double) (Some even) (Some odd)
free_here test odd even h double long =
    let is_even : even_cycle double ≡ length h = omega (arith, long) in
    let is_odd : odd_cycle double ≡ length (even ∷ h) = omega (arith, long) in
    let below : length h < length (even ∷ h) = omega arith in
    let early : cycle_at (odd ∷ even ∷ h) (even_cycle double) ≡ Some even =
    ap (cycle_at (odd ∷ even ∷ h)) is_even ∙ cycle_after odd (even ∷ h) (length h) below ∙ cycle_here even h in
    let late : cycle_at (odd ∷ even ∷ h) (odd_cycle double) ≡ Some odd = ap (cycle_at (odd ∷ even ∷ h)) is_odd ∙ cycle_here odd (even ∷ h) in
    ap (λ (o : Option Cycle). are_free_by (test double) o (cycle_at (odd ∷ even ∷ h) (odd_cycle double))) early
    ∙ ap (λ (o : Option Cycle). are_free_by (test double) (Some even) o) late

pub first_free-none : (test : ℕ → List NodeRow → List NodeRow → Bool) → first_free_of test [] ≡ None
unfolding first_free_of
first_free-none test = refl

pub first_free-next : (test : ℕ → List NodeRow → List NodeRow → Bool) (h : Cycles) (even odd : Cycle) (double : ℕ) → length h ≡ 2 * double
    → first_free_of test (odd ∷ even ∷ h) ≡ option_or (first_free_of test h) (if are_free_by (test double) (Some even) (Some odd) then Some double else None)
unfolding first_free_of
first_free-next test h even odd double long =
    let longer : Cycles = odd ∷ even ∷ h in
    let half : length h / 2 ≡ double = omega (arith, long) in
    let more : length longer / 2 ≡ double + 1 = omega (arith, long) in
    let start : 0 + double ≡ double = omega arith in
    let before : find (are_free_at test longer) (range_with_len 0 double) ≡ find (are_free_at test h) (range_with_len 0 double) =
    find-same (are_free_at test longer) (are_free_at test h) 0 double (λ k low high. free_before test odd even h k (omega (arith, high, half))) in
    ap (λ (n : ℕ). find (are_free_at test longer) (range_with_len 0 n)) more
    ∙ ap (find (are_free_at test longer)) (range-more 0 double ∙ ap (λ (n : ℕ). range_with_len 0 double ++ n ∷ []) start)
    ∙ find-append (are_free_at test longer) (range_with_len 0 double) (double ∷ [])
    ∙ ap (λ (o : Option ℕ). option_or o (find (are_free_at test longer) (double ∷ []))) (before ∙ ap (λ (n : ℕ). find (are_free_at test h) (range_with_len 0 n)) (sym half))
    ∙ ap (λ (b : Bool). option_or (find (are_free_at test h) (range_with_len 0 (length h / 2))) (if b then Some double else None)) (free_here test odd even h double long)

-- ---- the first one in sharp sync

none_from : (rows : List NodeRow) → is_none rows ≡ true → rows ≡ []
none_from [] is = refl
none_from (row ∷ rows) is = absurd (cc)

free_from : (beside : Bool) (p : Values) (flutter : ℕ) (h : Cycles) (k : ℕ) (even odd : Option Cycle) → cycle_at h (even_cycle k) ≡ even → cycle_at h (odd_cycle k) ≡ odd
    → are_free_by (is_in_sharp_sync beside p flutter) even odd ≡ true → IsUnfollowedSharpSyncAt beside p flutter h k
free_from beside p flutter h k None odd has_even has_odd is = absurd (cc)
free_from beside p flutter h k (Some even) None has_even has_odd is = absurd (cc)
free_from beside p flutter h k (Some even) (Some odd) has_even has_odd is =
    let test : Bool = is_in_sharp_sync beside p flutter even.told.rows odd.told.rows in
    let both = and_parts (test && is_none even.followers) (is_none odd.followers) is in
    let one = and_parts test (is_none even.followers) both.0 in
    record {
      synced = record { even = even; odd = odd; has_even = has_even; has_odd = has_odd; in_sync = sharp_sync_from beside p flutter even.told.rows odd.told.rows one.0 };
      none_early = none_from even.followers one.1;
      none_late = none_from odd.followers both.1;
    }

-- the test of each double cycle, with the numbers for its own flutter
abbrev tested : Bool → Values → (ℕ → ℕ) → ℕ → List NodeRow → List NodeRow → Bool
tested beside p flutter k = is_in_sharp_sync beside p (flutter k)

is_free : (beside : Bool) (p : Values) (flutter : ℕ → ℕ) (h : Cycles) (k : ℕ) → are_free_at (tested beside p flutter) h k ≡ true → IsUnfollowedSharpSyncAt beside p (flutter k) h k
is_free beside p flutter h k is = free_from beside p (flutter k) h k (cycle_at h (even_cycle k)) (cycle_at h (odd_cycle k)) refl refl is

to_free : (beside : Bool) (p : Values) (flutter : ℕ → ℕ) (h : Cycles) (k : ℕ) → IsUnfollowedSharpSyncAt beside p (flutter k) h k → are_free_at (tested beside p flutter) h k ≡ true
to_free beside p flutter h k is =
    let s = is.synced in
    rw (s.has_even, s.has_odd) (rw (to_sharp_sync beside p (flutter k) s.even.told.rows s.odd.told.rows s.in_sync, is.none_early, is.none_late) refl)

-- such a double cycle is a complete one
pub sharp_sync_within : (beside : Bool) (p : Values) (flutter : ℕ) (h : Cycles) (k : ℕ) → IsUnfollowedSharpSyncAt beside p flutter h k → k < length h / 2
sharp_sync_within beside p flutter h k is = let below : odd_cycle k < length h = cycle_within h (odd_cycle k) is.synced.odd is.synced.has_odd in omega (arith, below)

not_free : (beside : Bool) (p : Values) (flutter : ℕ → ℕ) (h : Cycles) (k : ℕ) → are_free_at (tested beside p flutter) h k ≡ false → IsUnfollowedSharpSyncAt beside p (flutter k) h k → ⊥
not_free beside p flutter h k fails is = let passes = to_free beside p flutter h k is in let e : false ≡ true = sym fails ∙ passes in cc

pub first_sharp_sync_by_is : (beside : Bool) (p : Values) (flutter : ℕ → ℕ) (h : Cycles) (k : ℕ) → first_sharp_sync_by beside p flutter h ≡ Some k → IsFirstSharpSyncBy beside p flutter h k
unfolding first_free_of
first_sharp_sync_by_is beside p flutter h k is =
    let test : ℕ → Bool = are_free_at (tested beside p flutter) h in
    let first : IsFirstOf test 0 (length h / 2) k = found_first test 0 (length h / 2) k is in
    record {
      unfollowed = is_free beside p flutter h k first.passes;
      first = λ j below unfollowed. not_free beside p flutter h j (first.earlier j (omega arith) below) unfollowed;
    }

pub first_sharp_sync_is : (beside : Bool) (p : Values) (flutter : ℕ) (h : Cycles) (k : ℕ) → first_sharp_sync_of beside p flutter h ≡ Some k → IsFirstSharpSync beside p flutter h k
first_sharp_sync_is beside p flutter h k is = first_sharp_sync_by_is beside p (λ n. flutter) h k is

pub never_sharp_sync : (beside : Bool) (p : Values) (flutter : ℕ → ℕ) (h : Cycles) → first_sharp_sync_by beside p flutter h ≡ None → (k : ℕ) → IsUnfollowedSharpSyncAt beside p (flutter k) h k → ⊥
unfolding first_free_of
never_sharp_sync beside p flutter h is k unfollowed =
    let test : ℕ → Bool = are_free_at (tested beside p flutter) h in
    let within : k < length h / 2 = sharp_sync_within beside p (flutter k) h k unfollowed in
    not_free beside p flutter h k (none_passes test 0 (length h / 2) is k (omega arith) (omega (arith, within))) unfollowed

pub first_sharp_sync_is_one : (beside : Bool) (p : Values) (flutter : ℕ → ℕ) (h : Cycles) (k l : ℕ) → IsFirstSharpSyncBy beside p flutter h k → IsFirstSharpSyncBy beside p flutter h l → k ≡ l
first_sharp_sync_is_one beside p flutter h k l one other = by_order (grind arith)
  where
    by_order : ((k < l) ⊎ (l < k)) ⊎ (k ≡ l) → k ≡ l
    by_order (inl (inl less)) = absurd (other.first k less one.unfollowed)
    by_order (inl (inr more)) = absurd (one.first l more other.unfollowed)
    by_order (inr same) = same
