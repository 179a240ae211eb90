-- A gauge that held a history holds it and one more cycle.
use Rattle.std.proofs.Common.{◌≡◌, ℕ, zero, suc, ◌+◌, ◌/◌, ◌%◌, ◌<◌, ◌≤◌, ◌==◌, Bool, true, false, not, ◌&&◌, List, [], ◌∷◌, ◌++◌, length, Option, Some, None, refl, sym, ap, ◌∙◌, arith, add-one}
use Rattle.std.proofs.lemmas.Bool.{ne_eqb}
use Rattle.std.specs.Prelude.{cond, find, if◌then◌else◌}
use Rattle.std.specs.List.{range_with_len}
use Rattle.std.specs.Option.{option_or}
use Rattle.std.proofs.lemmas.List.Folds.{find-append}
use Rattle.fr_base.specs.declared.node_row.NodeRow.{NodeRow}
use Rattle.fr_bound.specs.Sync.{is_in_sync}
use Rattle.fr_cluster.specs.Values.{Values}
use Rattle.fr_skew.specs.Gauge.{GaugeView, are_free_in_sync, fresh_gauge, gauged, next_sync}
use Rattle.fr_skew.specs.Sync.{sync_bounds_of}
use Rattle.fr_skew.proofs.Closeness.{in_sync_is}
use Rattle.fr_time.specs.Cycles.{double_cycle_of, even_cycle, is_odd, odd_cycle}
use Rattle.fr_history.specs.Gauged.{FollowedHistory, FollowedRecord, GaugeHolds, first_free_sync_of, followed_at, is_free_sync_at, is_free_sync_by, last_even_followed, last_even_of, told_only}
use Rattle.fr_history.specs.Skew.{greatest_skew_of}

-- ---- the first of a range

pub find-same : (f g : ℕ → Bool) (from count : ℕ) → ((k : ℕ) → from ≤ k → k < from + count → f k ≡ g k) → find f (range_with_len from count) ≡ find g (range_with_len from count)
find-same f g from zero same = refl
find-same f g from (suc count) same =
    rw (same from (omega arith) (omega arith))
    (ap (λ (rest : Option ℕ). cond (g from) (Some from) rest) (find-same f g (from + 1) count (λ k low high. same k (omega arith) (omega arith))))

range-more : (from count : ℕ) → range_with_len from (count + 1) ≡ range_with_len from count ++ (from + count) ∷ []
range-more from zero = let same : from + 0 ≡ from = omega arith in rw same refl
range-more from (suc count) =
    let next : suc count + 1 ≡ suc (count + 1) = omega arith in
    let same : from + 1 + count ≡ from + suc count = omega arith in
    ap (λ (n : ℕ). range_with_len from n) next ∙ ap (λ (rest : List ℕ). from ∷ rest) (range-more (from + 1) count ∙ ap (λ (last : ℕ). range_with_len (from + 1) count ++ last ∷ []) same)

option_or-none : (o : Option ℕ) → option_or o None ≡ o
option_or-none None = refl
option_or-none (Some x) = refl

-- ---- the record of a cycle

followed_here : (r : FollowedRecord) (h : FollowedHistory) → followed_at (r ∷ h) (length h) ≡ Some r
unfolding followed_at
followed_here r h = let e : (length h == length h) ≡ true = grind arith in rw e refl

followed_after : (r : FollowedRecord) (h : FollowedHistory) (n : ℕ) → n < length h → followed_at (r ∷ h) n ≡ followed_at h n
unfolding followed_at
followed_after r h n below = let e : (length h == n) ≡ false = ne_eqb (length h) n (λ (same : length h ≡ n). omega arith) in rw e refl

-- ---- the double cycles of a history and of one more cycle

pub is_odd-suc : (n : ℕ) → is_odd (suc n) ≡ true → is_odd n ≡ false
is_odd-suc n odd = grind arith

-- the even cycle before an odd one is the latest
pub record IsLatestEven (h : FollowedHistory) (n : ℕ) : Type 0 where
  pub even : FollowedRecord
  pub there : followed_at h n ≡ Some even
  pub rows : even.told.rows ≡ last_even_of h
  pub following : even.following ≡ last_even_followed h

latest_even : (h : FollowedHistory) → is_odd (length h) ≡ true → (n : ℕ) → suc n ≡ length h → IsLatestEven h n
unfolding last_even_of last_even_followed
latest_even [] odd n last = absurd (omega arith)
latest_even (e ∷ h) odd n last =
    let even : is_odd (length h) ≡ false = is_odd-suc (length h) odd in
    let here : n ≡ length h = omega (arith, last) in
    record {
      even = e;
      there = ap (λ (k : ℕ). followed_at (e ∷ h) k) here ∙ followed_here e h;
      rows = rw even refl;
      following = rw even refl;
    }

same_before : (p : Values) (r : FollowedRecord) (h : FollowedHistory) (k : ℕ) → k < length h / 2 → is_free_sync_at p (r ∷ h) k ≡ is_free_sync_at p h k
same_before p r h k below =
    let even : followed_at (r ∷ h) (even_cycle k) ≡ followed_at h (even_cycle k) = followed_after r h (even_cycle k) (omega arith) in
    let odd : followed_at (r ∷ h) (odd_cycle k) ≡ followed_at h (odd_cycle k) = followed_after r h (odd_cycle k) (omega arith) in
    ap (λ (o : Option FollowedRecord). is_free_sync_by p o (followed_at (r ∷ h) (odd_cycle k))) even
    ∙ ap (λ (o : Option FollowedRecord). is_free_sync_by p (followed_at h (even_cycle k)) o) odd

same_found : (p : Values) (r : FollowedRecord) (h : FollowedHistory) → find (is_free_sync_at p (r ∷ h)) (range_with_len 0 (length h / 2)) ≡ first_free_sync_of p h
unfolding first_free_sync_of
same_found p r h = find-same (is_free_sync_at p (r ∷ h)) (is_free_sync_at p h) 0 (length h / 2) (λ k low high. same_before p r h k (omega arith))

-- whether the latest two cycles are in sync, and none follows in them
free_by : Values → List NodeRow → Bool → FollowedRecord → Bool
free_by p even followed r = is_in_sync p even r.told.rows && not followed && not r.following

sync_here : (p : Values) (r : FollowedRecord) (h : FollowedHistory) → is_odd (length h) ≡ true → is_free_sync_at p (r ∷ h) (length h / 2) ≡ free_by p (last_even_of h) (last_even_followed h) r
unfolding free_by
sync_here p r h odd =
    let parity : length h % 2 ≡ 1 = grind arith in
    let k : ℕ = length h / 2 in
    let last : suc (even_cycle k) ≡ length h = omega (arith, parity) in
    let now : odd_cycle k ≡ length h = omega (arith, parity) in
    let latest = latest_even h odd (even_cycle k) last in
    let one : followed_at (r ∷ h) (even_cycle k) ≡ Some latest.even = followed_after r h (even_cycle k) (omega (arith, last)) ∙ latest.there in
    let other : followed_at (r ∷ h) (odd_cycle k) ≡ Some r = ap (λ (n : ℕ). followed_at (r ∷ h) n) now ∙ followed_here r h in
    ap (λ (o : Option FollowedRecord). is_free_sync_by p o (followed_at (r ∷ h) (odd_cycle k))) one
    ∙ ap (λ (o : Option FollowedRecord). is_free_sync_by p (Some latest.even) o) other
    ∙ ap (λ (rows : List NodeRow). free_by p rows latest.even.following r) latest.rows
    ∙ ap (λ (followed : Bool). free_by p (last_even_of h) followed r) latest.following

first_free-next_by : (p : Values) (r : FollowedRecord) (h : FollowedHistory) (odd : Bool) → is_odd (length h) ≡ odd
    → first_free_sync_of p (r ∷ h) ≡ next_sync (sync_bounds_of p) (length h) (last_even_of h) (last_even_followed h) r.told.rows r.following (first_free_sync_of p h)
unfolding first_free_sync_of free_by
first_free-next_by p r h false even =
    let parity : (length h % 2 ≡ 1) → ⊥ = λ one. absurd (grind arith) in
    let same : suc (length h) / 2 ≡ length h / 2 = omega (arith, parity) in
    ap (λ (n : ℕ). find (is_free_sync_at p (r ∷ h)) (range_with_len 0 n)) same ∙ same_found p r h ∙ sym (rw even (option_or-none (first_free_sync_of p h)))
first_free-next_by p r h true odd =
    let parity : length h % 2 ≡ 1 = grind arith in
    let more : suc (length h) / 2 ≡ length h / 2 + 1 = omega (arith, parity) in
    ap (λ (n : ℕ). find (is_free_sync_at p (r ∷ h)) (range_with_len 0 n)) more
    ∙ ap (find (is_free_sync_at p (r ∷ h))) (range-more 0 (length h / 2))
    ∙ find-append (is_free_sync_at p (r ∷ h)) (range_with_len 0 (length h / 2)) ((0 + length h / 2) ∷ [])
    ∙ ap (λ (o : Option ℕ). option_or o (find (is_free_sync_at p (r ∷ h)) ((0 + length h / 2) ∷ []))) (same_found p r h)
    ∙ ap (option_or (first_free_sync_of p h)) last
  where
    last : find (is_free_sync_at p (r ∷ h)) ((0 + length h / 2) ∷ [])
        ≡ (if is_odd (length h) && are_free_in_sync (sync_bounds_of p) (last_even_of h) (last_even_followed h) r.told.rows r.following then Some (double_cycle_of (length h)) else None)
    last =
        let here : 0 + length h / 2 ≡ length h / 2 = omega arith in
        rw (here, odd, sync_here p r h odd, ← in_sync_is p (last_even_of h) r.told.rows) refl

pub first_free-next : (p : Values) (r : FollowedRecord) (h : FollowedHistory)
    → first_free_sync_of p (r ∷ h) ≡ next_sync (sync_bounds_of p) (length h) (last_even_of h) (last_even_followed h) r.told.rows r.following (first_free_sync_of p h)
first_free-next p r h = first_free-next_by p r h (is_odd (length h)) refl

-- ---- all that a gauge holds

records_length : (h : FollowedHistory) → length (told_only h) ≡ length h
records_length [] = refl
records_length (r ∷ h) = ap suc (records_length h)

pub gauge_holds_none : (p : Values) → GaugeHolds p (fresh_gauge p) []
unfolding greatest_skew_of first_free_sync_of last_even_of last_even_followed
gauge_holds_none p = record { grid = refl; bounds = refl; counted = refl; greatest = refl; synced = refl; even = refl; followed = refl }

pub gauge_holds_more : (p : Values) (g : GaugeView) (h : FollowedHistory) (r : FollowedRecord) → GaugeHolds p g h → GaugeHolds p (gauged g r.told.rows r.following) (r ∷ h)
unfolding greatest_skew_of last_even_of last_even_followed
gauge_holds_more p g h r held = record {
  grid = held.grid;
  bounds = held.bounds;
  counted = rw held.counted (add-one (length h));
  greatest = rw (held.grid, held.counted, held.greatest, records_length h) refl;
  synced = rw (held.bounds, held.counted, held.even, held.followed, held.synced) (sym (first_free-next p r h));
  even = rw (held.counted, held.even) refl;
  followed = rw (held.counted, held.followed) refl;
}
