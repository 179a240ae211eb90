-- From when on a trace is in sync: the function finds it, and there is no other.
use Rattle.std.proofs.Common.{◌≡◌, ℕ, ◌/◌, ◌<◌, ◌≤◌, Bool, true, false, not, length, Option, None, Some, refl, sym, ◌∙◌, arith, ◌⊎◌, inl, inr}
use Rattle.std.specs.Prelude.{nat_lt}
use Rattle.std.proofs.lemmas.Bool.{and_parts}
use Rattle.fr_cluster.specs.Values.{Values}
use Rattle.fr_time.specs.Cycles.{even_cycle, odd_cycle}
use Rattle.fr_history.specs.History.{History, Record, record_at}
use Rattle.fr_bound.proofs.Sync.{in_sync_from, to_in_sync}
use Rattle.fr_history.specs.Sync.{IsInSyncAt, is_sync_at, is_sync_by}
use Rattle.fr_history.proofs.Synced.{IsFirstOf, found_first, none_passes, record_at-lt}
use Rattle.fr_trace.specs.Trace.{TraceView}
use Rattle.fr_verdict.specs.Sync.{IsFirstSynced, IsSyncedAt, first_synced_of, is_early, is_synced_at, may_follow}

-- ---- in sync, as a relation and as a test

pub is_in_sync_at : (p : Values) (h : History) (double : ℕ) → is_sync_at p h double ≡ true → IsInSyncAt p h double
is_in_sync_at p h double is = by_records (record_at h (even_cycle double)) (record_at h (odd_cycle double)) refl refl is
  where
    by_records : (even odd : Option Record) → record_at h (even_cycle double) ≡ even → record_at h (odd_cycle double) ≡ odd → is_sync_by p even odd ≡ true → IsInSyncAt p h double
    by_records None odd early late is = cc is
    by_records (Some even) None early late is = cc is
    by_records (Some even) (Some odd) early late is = record { even = even; odd = odd; has_even = early; has_odd = late; in_sync = in_sync_from p even.rows odd.rows is }

pub to_is_sync_at : (p : Values) (h : History) (double : ℕ) → IsInSyncAt p h double → is_sync_at p h double ≡ true
to_is_sync_at p h double w = rw (w.has_even, w.has_odd) (to_in_sync p w.even.rows w.odd.rows w.in_sync)

by_not : (b : Bool) → not b ≡ true → b ≡ false
by_not true e = cc e
by_not false e = refl

pub synced_by : (p : Values) (t : TraceView) (double : ℕ) → is_synced_at p t double ≡ true → IsSyncedAt p t double
synced_by p t double e =
    let parts : (is_sync_at p t.history double ≡ true) × (not (may_follow t double) ≡ true) = and_parts (is_sync_at p t.history double) (not (may_follow t double)) e in
    record { in_sync = is_in_sync_at p t.history double parts.0; none_follows = by_not (may_follow t double) parts.1 }

pub by_synced : (p : Values) (t : TraceView) (double : ℕ) → IsSyncedAt p t double → is_synced_at p t double ≡ true
by_synced p t double w = rw (to_is_sync_at p t.history double w.in_sync, w.none_follows) refl

pub not_in_sync : (p : Values) (h : History) (double : ℕ) → is_sync_at p h double ≡ false → IsInSyncAt p h double → ⊥
not_in_sync p h double e w = let both : true ≡ false = sym (to_is_sync_at p h double w) ∙ e in cc both

pub not_sync : (p : Values) (h : History) (double : ℕ) → (IsInSyncAt p h double → ⊥) → is_sync_at p h double ≡ false
not_sync p h double never = by_test (is_sync_at p h double) refl
  where
    by_test : (b : Bool) → is_sync_at p h double ≡ b → b ≡ false
    by_test true e = absurd (never (is_in_sync_at p h double e))
    by_test false e = refl

synced_within : (p : Values) (t : TraceView) (double : ℕ) → IsSyncedAt p t double → double < length t.history / 2
synced_within p t double w = let below : odd_cycle double < length t.history = record_at-lt t.history (odd_cycle double) w.in_sync.odd w.in_sync.has_odd in omega (arith, below)

-- ---- the first one

pub first_synced_is : (p : Values) (t : TraceView) (k : ℕ) → first_synced_of p t ≡ Some k → IsFirstSynced p t k
unfolding first_synced_of
first_synced_is p t k e =
    let w : IsFirstOf (is_synced_at p t) 0 (length t.history / 2) k = found_first (is_synced_at p t) 0 (length t.history / 2) k e in
    record {
      synced = synced_by p t k w.passes;
      first = λ j lt other. let fails : is_synced_at p t j ≡ false = w.earlier j (omega arith) lt in let both : true ≡ false = sym (by_synced p t j other) ∙ fails in cc both;
    }

pub never_synced : (p : Values) (t : TraceView) → first_synced_of p t ≡ None → (k : ℕ) → IsSyncedAt p t k → ⊥
unfolding first_synced_of
never_synced p t e k w =
    let fails : is_synced_at p t k ≡ false = none_passes (is_synced_at p t) 0 (length t.history / 2) e k (omega arith) (let lt = synced_within p t k w in omega arith) in
    let both : true ≡ false = sym (by_synced p t k w) ∙ fails in
    cc both

pub first_synced_is_one : (p : Values) (t : TraceView) (k l : ℕ) → IsFirstSynced p t k → IsFirstSynced p t l → k ≡ l
first_synced_is_one p t k l a b = by_order (compare k l)
  where
    compare : (m n : ℕ) → (m ≡ n) ⊎ ((m < n) ⊎ (n < m))
    compare m n = grind arith

    by_order : (k ≡ l) ⊎ ((k < l) ⊎ (l < k)) → k ≡ l
    by_order (inl same) = same
    by_order (inr (inl less)) = absurd (b.first k less a.synced)
    by_order (inr (inr more)) = absurd (a.first l more b.synced)

-- ---- before it, and not before it

pub record IsBehind (p : Values) (t : TraceView) (double : ℕ) : Type 0 where
  pub synced : ℕ
  pub first : IsFirstSynced p t synced
  pub from : synced ≤ double

pub behind_early : (p : Values) (t : TraceView) (double : ℕ) → is_early (first_synced_of p t) double ≡ false → IsBehind p t double
behind_early p t double e = by_first (first_synced_of p t) refl e
  where
    by_first : (o : Option ℕ) → first_synced_of p t ≡ o → is_early o double ≡ false → IsBehind p t double
    by_first None is e = cc e
    by_first (Some synced) is e = record { synced = synced; first = first_synced_is p t synced is; from = no_less double synced e }
      where
        no_less : (a b : ℕ) → nat_lt a b ≡ false → b ≤ a
        no_less a b e = grind arith

pub early_not : (p : Values) (t : TraceView) (double synced : ℕ) → IsFirstSynced p t synced → synced ≤ double → is_early (first_synced_of p t) double ≡ false
early_not p t double synced first from = by_first (first_synced_of p t) refl
  where
    no_less : (a b : ℕ) → b ≤ a → nat_lt a b ≡ false
    no_less a b e = grind arith

    by_first : (o : Option ℕ) → first_synced_of p t ≡ o → is_early o double ≡ false
    by_first None is = absurd (never_synced p t is synced first.synced)
    by_first (Some other) is = let same : other ≡ synced = first_synced_is_one p t other synced (first_synced_is p t other is) first in no_less double other (omega arith)
