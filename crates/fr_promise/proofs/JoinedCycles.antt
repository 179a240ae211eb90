-- A run that nodes join keeps the sharper precision in each cycle from a double cycle in sharp sync on in which none follows, where
-- first rates last to its end.
use Rattle.std.proofs.Common.{◌≡◌, ℕ, ◌+◌, ◌-◌, ◌*◌, ◌<◌, ◌≤◌, Bool, Some, All, length, refl, subst, arith}
use Rattle.fr_base.specs.declared.node_row.NodeRow.{NodeRow}
use Rattle.fr_cluster.specs.Setting.{Setting}
use Rattle.fr_history.specs.Cycles.{Cycle, Cycles, cycle_at}
use Rattle.fr_runs.specs.Rounds.{IsDoubleOf}
use Rattle.fr_runs.proofs.Parts.{cycle_within, each_cycle}
use Rattle.fr_promise.specs.JoinedHistories.{CyclesKeepJoined, FirstRatesLastToEnd, JoinedHistoriesKeepSharpPrecision, KeepsJoined, StaysJoined}
use Rattle.fr_bound.specs.SharpBounds.{sharp_precision}
use Rattle.fr_runs.specs.SharpHistories.{BeginsActive}
use Rattle.fr_promise.specs.SharpJoined.{IsSteadyJoinedFrom}
use Rattle.fr_promise.specs.SharpTested.{IsUnfollowedSharpSyncAt}
use Rattle.fr_promise.proofs.JoinedRuns.{joined_histories_keep_sharp_sync}
use Rattle.fr_promise.proofs.RunCycles.{active_by_cycle, active_last, skew_by_cycle}

-- ---- each cycle

module _ (x : Setting) (h : Cycles) (whole : length h ≡ 2 * x.doubles) (double apart : ℕ) (some : double < x.doubles) (active : (k : ℕ) → double ≤ k → k < x.doubles → BeginsActive h k)
    (keeps : (k : ℕ) → double ≤ k → k < x.doubles → KeepsJoined x h k apart) where
  Uncut : ℕ → Cycle → Type 0
  Uncut n c = All (λ (row : NodeRow). row.cut ≡ 0) c.told.rows × All (λ (row : NodeRow). row.cut ≡ 0) c.followers

  uncut_in : (cycle : ℕ) (c : Cycle) → 2 * double ≤ cycle → cycle_at h cycle ≡ Some c → All (λ row. row.cut ≡ 0) c.told.rows × All (λ row. row.cut ≡ 0) c.followers
  unfolding Uncut
  uncut_in =
      each_cycle h double x.doubles Uncut whole
      (λ k earlier even odd d after within. let ends = (keeps k after within).ends earlier even odd d in (ends.uncut_even, ends.uncut_odd))

  cycles_keep : CyclesKeepJoined x h double apart
  cycles_keep = record {
    skew = skew_by_cycle x h whole double apart (λ k after within. (keeps k after within).skew);
    active = active_by_cycle x h whole double active;
    uncut = uncut_in;
    after = active_last x h whole double some (λ k after within earlier even odd d. ((keeps k after within).ends earlier even odd d).active) h refl;
  }

-- ---- where first rates last

module _ (beside : Bool) (x : Setting) (from flutter : ℕ) (h : Cycles) (double : ℕ) (w : IsSteadyJoinedFrom beside x from flutter h) (late : from ≤ double) (begin : IsUnfollowedSharpSyncAt beside x.params flutter h double)
    (last : FirstRatesLastToEnd x flutter double) where
  stays : (k : ℕ) → double ≤ k → k < x.doubles → StaysJoined beside x flutter h double (k - double)
  stays k after within =
      joined_histories_keep_sharp_sync beside x from flutter h double w late begin (k - double) (omega (arith, after, within)) (λ m less. last m (omega (arith, after, within, less)))

  keeps_at : (k : ℕ) → double ≤ k → k < x.doubles → KeepsJoined x h k (sharp_precision beside x.params flutter)
  keeps_at k after within =
      let same : double + (k - double) ≡ k = omega (arith, after) in
      let At : ℕ → Type 0 = λ m. KeepsJoined x h m (sharp_precision beside x.params flutter) in
      subst At same ((stays k after within).keeps (last (k - double) (omega (arith, after, within))))

  active_at : (k : ℕ) → double ≤ k → k < x.doubles → BeginsActive h k
  active_at k after within earlier even odd d =
      let same : k ≡ double + (k - double) = omega (arith, after) in
      let At : ℕ → Type 0 = λ m. IsDoubleOf h m earlier even odd in
      let own = (stays k after within).joined earlier even odd (subst At same d) in
      (own.active_even, own.active_odd)

pub joined_histories_keep_sharp_precision : JoinedHistoriesKeepSharpPrecision
joined_histories_keep_sharp_precision beside x from flutter h double w late begin last =
    let whole : length h ≡ 2 * x.doubles = w.whole in
    let below : 2 * double < length h = cycle_within h (2 * double) begin.synced.even begin.synced.has_even in
    cycles_keep x h whole double (sharp_precision beside x.params flutter) (omega (arith, whole, below)) (active_at beside x from flutter h double w late begin last) (keeps_at beside x from flutter h double w late begin last)
