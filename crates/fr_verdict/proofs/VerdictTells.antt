-- What the verdict on the trace of a run tells: the greatest skew of the run, and of a covered one from when on it is in sync.
use Rattle.std.proofs.Common.{◌≡◌, ℕ, ◌<◌, ◌≤◌, ℤ, pos, ◌≤ℤ◌, Bool, true, false, List, [], ◌∷◌, ◌++◌, Option, Some, None, refl, ap, sym, ◌∙◌, subst, arith, ◌⊎◌, inl, inr}
use Rattle.std.specs.Prelude.{Contains}
use Rattle.std.specs.List.{flat_map}
use Rattle.fr_cluster.proofs.Elements.{Contains-here, Contains-there}
use Rattle.fr_cluster.specs.Setting.{Setting}
use Rattle.fr_cluster.specs.Values.{Values, amount}
use Rattle.fr_cluster.specs.declared.names.ParamName.TheVariants as name
use Rattle.fr_cluster.specs.declared.nodes.NodeSpec.{NodeSpec}
use Rattle.fr_skew.specs.declared.peak.Peak.{Peak}
use Rattle.fr_time.specs.Cycles.{odd_cycle}
use Rattle.fr_history.proofs.Greatest.{greatest_is_found, greatest_is_one, greatest_is_there}
use Rattle.fr_history.proofs.Synced.{record_at-lt}
use Rattle.fr_history.proofs.Told.{told_length}
use Rattle.fr_history.proofs.UnfollowedSync.{first_unfollowed_sync_is, first_unfollowed_sync_is_one, never_unfollowed_sync}
use Rattle.fr_history.specs.Cycles.{Cycles, told_of}
use Rattle.fr_history.specs.History.{History}
use Rattle.fr_history.specs.Skew.{IsGreatestSkew, greatest_skew_of}
use Rattle.fr_history.specs.Unfollowed.{IsFirstUnfollowedSync, IsUnfollowedSyncAt, first_unfollowed_sync_of}
use Rattle.fr_trace.specs.Bare.{bare_history}
use Rattle.fr_trace.specs.Text.{joined_by}
use Rattle.fr_trace.specs.Trace.{TraceView}
use Rattle.fr_trace.specs.declared.trace.TracedJoin.{TracedJoin}
use Rattle.fr_verdict.proofs.BareRows.{skew-bare}
use Rattle.fr_verdict.proofs.CoveredRuns.{kept, sync-in-trace, synced-in-run}
use Rattle.fr_verdict.proofs.Tracing.{long}
use Rattle.fr_verdict.specs.Answer.{IsSyncedFrom}
use Rattle.fr_verdict.specs.CoveredRuns.{IsSyncByTrace, TellsGreatest, VerdictsTellGreatest, VerdictsTellSync, VerdictsTellSyncAlone}
use Rattle.fr_verdict.specs.Runs.{trace_of_run}
use Rattle.fr_verdict.specs.Sync.{IsFirstSynced, IsSyncedAt, may_follow}

-- ---- the greatest skew

greatest-told : (p : Values) (h : History) (skew : ℤ) (cycle macrotick : ℕ) → IsGreatestSkew p (bare_history h) skew cycle macrotick → IsGreatestSkew p h skew cycle macrotick
greatest-told p h skew cycle macrotick g =
    let same = long h in
    let below = g.cycle_in in
    record {
      cycle_in = omega (arith, same, below);
      macrotick_in = g.macrotick_in;
      reached = sym (skew-bare p h cycle macrotick) ∙ g.reached;
      greatest = λ n m lt within. subst (λ (z : ℤ). z ≤ℤ skew) (skew-bare p h n m) (g.greatest n m (omega (arith, same, lt)) within);
      first = λ n m within earlier is. g.first n m within earlier (skew-bare p h n m ∙ is);
    }

pub verdicts-tell-greatest : VerdictsTellGreatest
verdicts-tell-greatest x h v is = by (greatest_skew_of x.params (told_of h)) refl
  where
    told : IsGreatestSkew x.params (told_of h) v.skew v.cycle is.macrotick
    told = greatest-told x.params (told_of h) v.skew v.cycle is.macrotick is.skew

    by : (o : Option Peak) → greatest_skew_of x.params (told_of h) ≡ o → TellsGreatest x h v
    by None none =
        let lt = told.macrotick_in in
        let some : 0 < amount x.params name.gMacroPerCycle = omega (arith, lt) in
        let empty = greatest_is_there x.params (told_of h) some none in
        let there = told.cycle_in in
        absurd (omega (arith, empty, there))
    by (Some place) found =
        let same = greatest_is_one x.params (told_of h) v.skew place.skew v.cycle is.macrotick place.cycle place.macrotick told (greatest_is_found x.params (told_of h) place found) in
        record { place = place; greatest = found; skew = same.0; cycle = same.1; macrotick = is.is_macrotick ∙ ap pos same.2 }

-- ---- from when on it is in sync

-- where none may follow by the trace, a double cycle of the run in sync is one of the trace
in-trace : (x : Setting) (h : Cycles) (k : ℕ) → IsUnfollowedSyncAt x.params h k → may_follow (trace_of_run x h) k ≡ false → IsSyncedAt x.params (trace_of_run x h) k
in-trace x h k s clear = record { in_sync = sync-in-trace x h k s.synced; none_follows = clear }

may-or-not : (t : TraceView) (k : ℕ) → (may_follow t k ≡ false → ⊥) → may_follow t k ≡ true
may-or-not t k never = by (may_follow t k) refl
  where
    by : (b : Bool) → may_follow t k ≡ b → b ≡ true
    by true is = refl
    by false is = absurd (never is)

pub verdicts-tell-sync : VerdictsTellSync
verdicts-tell-sync x h v w is = by (first_unfollowed_sync_of x.params h) refl v.synced is.synced
  where
    by_none : first_unfollowed_sync_of x.params h ≡ None → (o : Option ℕ) → IsSyncedFrom x.params (trace_of_run x h) o → o ≡ None
    by_none none None from = refl
    by_none none (Some k) from = absurd (never_unfollowed_sync x.params h none k (synced-in-run x h k w.lawful from.synced))

    -- each double cycle from the first one on is in sync by the trace, but where one may follow
    synced : (from : ℕ) → IsFirstUnfollowedSync x.params h from → (k : ℕ) → from ≤ k → k < x.doubles → may_follow (trace_of_run x h) k ≡ false → IsSyncedAt x.params (trace_of_run x h) k
    synced from first k later within clear = record { in_sync = sync-in-trace x h k ((kept x h w from first.unfollowed).synced k later within); none_follows = clear }

    by_some : (from : ℕ) → IsFirstUnfollowedSync x.params h from → (o : Option ℕ) → IsSyncedFrom x.params (trace_of_run x h) o → IsSyncByTrace (trace_of_run x h) (Some from) o
    by_some from first None never = λ k later within. may-or-not (trace_of_run x h) k (λ clear. never k (synced from first k later within clear))
    by_some from first (Some double) told =
        let there = synced-in-run x h double w.lawful told.synced in
        let below = record_at-lt (trace_of_run x h).history (odd_cycle double) told.synced.in_sync.odd told.synced.in_sync.has_odd in
        let whole = w.whole in
        let same = long (told_of h) in
        let tells = told_length h in
        let within : double < x.doubles = omega (arith, below, whole, same, tells) in
        record {
          later = no-later from double (λ lt. first.first double lt there);
          inside = within;
          clear = told.synced.none_follows;
          first = λ k later lt. may-or-not (trace_of_run x h) k (λ clear. told.first k lt (synced from first k later (omega (arith, below, whole, same, tells, lt)) clear));
        }
      where
        no-later : (a b : ℕ) → (b < a → ⊥) → a ≤ b
        no-later a b never = by_order (compare a b)
          where
            compare : (m n : ℕ) → (m ≤ n) ⊎ (n < m)
            compare m n = grind arith

            by_order : (a ≤ b) ⊎ (b < a) → a ≤ b
            by_order (inl le) = le
            by_order (inr lt) = absurd (never lt)

    by : (o : Option ℕ) → first_unfollowed_sync_of x.params h ≡ o → (told : Option ℕ) → IsSyncedFrom x.params (trace_of_run x h) told → IsSyncByTrace (trace_of_run x h) o told
    by None none told from = by_none none told from
    by (Some from) found told is = by_some from (first_unfollowed_sync_is x.params h from found) told is

-- ---- where no node joins

none-joins : (x : Setting) (nodes : List NodeSpec) → ((node : NodeSpec) → Contains nodes node → x.join node.id ≡ None) → flat_map (λ node. joined_by node.id (x.join node.id)) nodes ≡ []
none-joins x [] alone = refl
none-joins x (node ∷ nodes) alone =
    let rest = none-joins x nodes (λ n there. alone n (Contains-there node nodes n there)) in
    λ i. joined_by node.id (alone node (Contains-here node nodes) i) ++ rest i

pub verdicts-tell-sync-alone : VerdictsTellSyncAlone
verdicts-tell-sync-alone x h v alone sane lawful is = by v.synced is.synced (first_unfollowed_sync_of x.params h) refl
  where
    clear : (k : ℕ) → may_follow (trace_of_run x h) k ≡ false
    clear k = ap (λ (joins : List TracedJoin). may_follow (record { doubles = x.doubles; arbitrary = (trace_of_run x h).arbitrary; joins = joins; history = (trace_of_run x h).history }) k) (none-joins x x.params.nodes alone)

    to_run : (k : ℕ) → IsFirstSynced x.params (trace_of_run x h) k → IsFirstUnfollowedSync x.params h k
    to_run k first = record {
      unfollowed = synced-in-run x h k lawful first.synced;
      first = λ j lt s. first.first j lt (in-trace x h j s (clear j));
    }

    by : (told : Option ℕ) → IsSyncedFrom x.params (trace_of_run x h) told → (o : Option ℕ) → first_unfollowed_sync_of x.params h ≡ o → told ≡ first_unfollowed_sync_of x.params h
    by None never None none = sym none
    by None never (Some k) found = absurd (never k (in-trace x h k (first_unfollowed_sync_is x.params h k found).unfollowed (clear k)))
    by (Some k) first None none = absurd (never_unfollowed_sync x.params h none k (synced-in-run x h k lawful first.synced))
    by (Some k) first (Some j) found =
        ap (λ (n : ℕ). Some n) (first_unfollowed_sync_is_one x.params h k j (to_run k first) (first_unfollowed_sync_is x.params h j found)) ∙ sym found
