-- The first double cycle in sync of a trace, and of a part of it.
use Rattle.std.proofs.Common.{◌≡◌, ℕ, suc, ◌/◌, ◌<◌, ◌≤◌, ◌==◌, Bool, true, false, not, ◌&&◌, List, [], ◌∷◌, length, take, drop, take-append-drop, Option, Some, None, refl, ap, ap₂, sym, ◌∙◌, inl, inr, ◌⊎◌, arith}
use Rattle.std.specs.Prelude.{find, fold, is_some}
use Rattle.std.specs.List.{range_with_len}
use Rattle.std.proofs.lemmas.Bool.{and_parts, cases_lt}
use Rattle.std.proofs.lemmas.List.Sums.{fold-append}
use Rattle.fr_cluster.specs.Values.{Values}
use Rattle.fr_time.specs.Cycles.{even_cycle, odd_cycle}
use Rattle.fr_history.specs.Gauged.{FollowedRecord, first_free_sync_of, followed_at, is_free_sync_at, is_free_sync_by, told_only}
use Rattle.fr_history.specs.History.{History, Record, record_at}
use Rattle.fr_history.specs.Sync.{is_sync_at, is_sync_by}
use Rattle.fr_history.proofs.Gauged.{find-same}
use Rattle.fr_history.proofs.Synced.{IsFirstOf, found_first, none_passes}
use Rattle.fr_bound.specs.Sync.{is_in_sync}
use Rattle.fr_trace.specs.Cycles.{and_then, history_by}
use Rattle.fr_trace.specs.Trace.{TraceView}
use Rattle.fr_trace.specs.declared.trace.TracedCycle.{TracedCycle}
use Rattle.fr_verdict.proofs.Records.{record_stays}
use Rattle.fr_verdict.specs.Sync.{IsFirstSynced, IsSyncedAt, first_synced_of, is_early, is_synced_at, may_follow}
use Rattle.fr_verdict.proofs.Syncing.{behind_early, by_synced, early_not, first_synced_is, never_synced, synced_by}
use Rattle.fr_check.specs.Followed.{Foretells, followed_by}

-- ---- the records of a part

pub records_followed : (t : TraceView) (h : History) → told_only (followed_by t h) ≡ h
unfolding followed_by
records_followed t [] = refl
records_followed t (r ∷ h) = ap (λ (g : History). r ∷ g) (records_followed t h)

pub followed_length : (t : TraceView) (h : History) → length (followed_by t h) ≡ length h
unfolding followed_by
followed_length t [] = refl
followed_length t (r ∷ h) = ap suc (followed_length t h)

-- the record of a cycle, with whether a node may follow in it
marked : TraceView → ℕ → Option Record → Option FollowedRecord
marked t cycle None = None
marked t cycle (Some r) = Some (record { told = r; following = may_follow t (cycle / 2) })

same_number : (a b : ℕ) → (a == b) ≡ true → a ≡ b
same_number a b e = grind arith

followed_is : (t : TraceView) (h : History) (n : ℕ) → followed_at (followed_by t h) n ≡ marked t n (record_at h n)
unfolding followed_by followed_at record_at marked
followed_is t [] n = refl
followed_is t (r ∷ h) n = by_test (length h == n) refl (followed_is t h n)
  where
    by_test : (b : Bool) → (length h == n) ≡ b → followed_at (followed_by t h) n ≡ marked t n (record_at h n) → followed_at (followed_by t (r ∷ h)) n ≡ marked t n (record_at (r ∷ h) n)
    by_test true here rest =
        rw (followed_length t h, here) (ap (λ (k : ℕ). let own : FollowedRecord = record { told = r; following = may_follow t (k / 2) } in Some own) (same_number (length h) n here))
    by_test false other rest = rw (followed_length t h, other) rest

-- ---- whether a double cycle of it is in sync

-- in sync in a part, and none may follow
is_synced_in : Values → TraceView → History → ℕ → Bool
is_synced_in p t h double = is_sync_at p h double && not (may_follow t double)

-- none is in sync that is not whole
pub not_there : (p : Values) (o : Option Record) → is_sync_by p o None ≡ false
not_there p None = refl
not_there p (Some r) = refl

twice : (a f : Bool) → (a && not f && not f) ≡ (a && not f)
twice true true = refl
twice true false = refl
twice false true = refl
twice false false = refl

free_is : (p : Values) (t : TraceView) (h : History) (k : ℕ) → is_free_sync_at p (followed_by t h) k ≡ is_synced_in p t h k
unfolding marked is_synced_in
free_is p t h k =
    ap₂ (is_free_sync_by p) (followed_is t h (even_cycle k)) (followed_is t h (odd_cycle k)) ∙ by_records (record_at h (even_cycle k)) (record_at h (odd_cycle k))
  where
    half_even : even_cycle k / 2 ≡ k
    half_even = omega arith

    half_odd : odd_cycle k / 2 ≡ k
    half_odd = omega arith

    by_records : (even odd : Option Record) → is_free_sync_by p (marked t (even_cycle k) even) (marked t (odd_cycle k) odd) ≡ (is_sync_by p even odd && not (may_follow t k))
    by_records None odd = refl
    by_records (Some even) None = refl
    by_records (Some even) (Some odd) =
        ap₂ (λ (m n : ℕ). is_in_sync p even.rows odd.rows && not (may_follow t m) && not (may_follow t n)) half_even half_odd
        ∙ twice (is_in_sync p even.rows odd.rows) (may_follow t k)

first_is : (p : Values) (t : TraceView) (h : History) → first_free_sync_of p (followed_by t h) ≡ find (is_synced_in p t h) (range_with_len 0 (length h / 2))
unfolding first_free_sync_of
first_is p t h =
    ap (λ (n : ℕ). find (is_free_sync_at p (followed_by t h)) (range_with_len 0 (n / 2))) (followed_length t h)
    ∙ find-same (is_free_sync_at p (followed_by t h)) (is_synced_in p t h) 0 (length h / 2) (λ k low high. free_is p t h k)

-- of the whole trace
pub synced_whole : (p : Values) (t : TraceView) → first_free_sync_of p (followed_by t t.history) ≡ first_synced_of p t
unfolding first_synced_of is_synced_in
synced_whole p t = first_is p t t.history

-- ---- what a part foretells

-- a part has the same records as the whole
abbrev IsPart : TraceView → History → Type 0
IsPart t h = (k : ℕ) → k < length h → record_at t.history k ≡ record_at h k

sync_same : (p : Values) (t : TraceView) (h : History) (k : ℕ) → IsPart t h → k < length h / 2 → is_synced_at p t k ≡ is_synced_in p t h k
unfolding is_synced_in
sync_same p t h k part lt =
    ap (λ (b : Bool). b && not (may_follow t k)) (ap₂ (is_sync_by p) (part (even_cycle k) (omega arith)) (part (odd_cycle k) (omega arith)))

-- a double cycle in sync among those of a part is not behind the next one
not_early : (p : Values) (t : TraceView) (h : History) (k : ℕ) → k < length h / 2 → IsSyncedAt p t k → is_early (first_synced_of p t) (length h / 2) ≡ false
not_early p t h k lt synced = by_first (first_synced_of p t) refl
  where
    by_first : (o : Option ℕ) → first_synced_of p t ≡ o → is_early (first_synced_of p t) (length h / 2) ≡ false
    by_first None none = absurd (never_synced p t none k synced)
    by_first (Some first) is =
        let w : IsFirstSynced p t first = first_synced_is p t first is in
        early_not p t (length h / 2) first w (by_order (cases_lt k first))
      where
        by_order : (k < first) ⊎ (first ≤ k) → first ≤ length h / 2
        by_order (inl less) = absurd ((first_synced_is p t first is).first k less synced)
        by_order (inr other) = omega arith

-- and where there is none, the next one is that or it comes before
early_or_sync : (p : Values) (t : TraceView) (h : History) → IsPart t h → find (is_synced_in p t h) (range_with_len 0 (length h / 2)) ≡ None → is_sync_at p t.history (length h / 2) ≡ false
    → is_early (first_synced_of p t) (length h / 2) ≡ true
early_or_sync p t h part none lost = by_early (is_early (first_synced_of p t) (length h / 2)) refl
  where
    by_early : (b : Bool) → is_early (first_synced_of p t) (length h / 2) ≡ b → b ≡ true
    by_early true e = refl
    by_early false e = absurd (never (behind_early p t (length h / 2) e).synced (behind_early p t (length h / 2) e).first.synced (behind_early p t (length h / 2) e).from)
      where
        never : (k : ℕ) → IsSyncedAt p t k → k ≤ length h / 2 → ⊥
        never k synced to = by_order (cases_lt k (length h / 2))
          where
            passes : is_synced_at p t k ≡ true
            passes = by_synced p t k synced

            by_order : (k < length h / 2) ⊎ (length h / 2 ≤ k) → ⊥
            by_order (inl less) =
                let fails : is_synced_in p t h k ≡ false = none_passes (is_synced_in p t h) 0 (length h / 2) none k (omega arith) (omega arith) in
                let both : true ≡ false = sym passes ∙ sync_same p t h k part less ∙ fails in
                cc both
            by_order (inr other) =
                let same : k ≡ length h / 2 = omega arith in
                let parts : (is_sync_at p t.history k ≡ true) × (not (may_follow t k) ≡ true) = and_parts (is_sync_at p t.history k) (not (may_follow t k)) passes in
                let both : true ≡ false = sym parts.0 ∙ ap (is_sync_at p t.history) same ∙ lost in
                cc both

pub foretold : (p : Values) (t : TraceView) (h : History) → IsPart t h → Foretells p t h (first_free_sync_of p (followed_by t h))
foretold p t h part = by_sync (is_sync_at p t.history (length h / 2)) refl
  where
    ends : (a : Bool) → (a && false) ≡ false
    ends true = refl
    ends false = refl

    with_true : (a : Bool) → (a && true) ≡ a
    with_true true = refl
    with_true false = refl

    by_first : (o : Option ℕ) → find (is_synced_in p t h) (range_with_len 0 (length h / 2)) ≡ o → is_sync_at p t.history (length h / 2) ≡ false → not (is_early (first_synced_of p t) (length h / 2)) ≡ is_some o
    by_first None none lost = ap not (early_or_sync p t h part none lost)
    by_first (Some k) is lost =
        let w : IsFirstOf (is_synced_in p t h) 0 (length h / 2) k = found_first (is_synced_in p t h) 0 (length h / 2) k is in
        let below : k < length h / 2 = (let lt = w.within in omega arith) in
        ap not (not_early p t h k below (synced_by p t k (sync_same p t h k part below ∙ w.passes)))

    by_sync : (b : Bool) → is_sync_at p t.history (length h / 2) ≡ b → Foretells p t h (first_free_sync_of p (followed_by t h))
    by_sync true e =
        ap (λ (b : Bool). not (is_early (first_synced_of p t) (length h / 2)) && not b) e
        ∙ ends (not (is_early (first_synced_of p t) (length h / 2)))
        ∙ sym (ap (λ (b : Bool). is_some (first_free_sync_of p (followed_by t h)) && not b) e ∙ ends (is_some (first_free_sync_of p (followed_by t h))))
    by_sync false e =
        ap (λ (a : Bool). a && not (is_sync_at p t.history (length h / 2)))
        (by_first (find (is_synced_in p t h) (range_with_len 0 (length h / 2))) refl e ∙ sym (ap (λ (o : Option ℕ). is_some o) (first_is p t h)))

-- ---- the first cycles of a trace

pub same_records : (cycles : List TracedCycle) (n k : ℕ) → k < length (history_by (take n cycles)) → record_at (history_by cycles) k ≡ record_at (history_by (take n cycles)) k
unfolding history_by
same_records cycles n k lt =
    ap (λ (cs : List TracedCycle). record_at (fold and_then [] cs) k) (sym (take-append-drop n cycles))
    ∙ ap (λ (h : History). record_at h k) (fold-append and_then [] (take n cycles) (drop n cycles))
    ∙ record_stays (fold and_then [] (take n cycles)) (drop n cycles) k lt
