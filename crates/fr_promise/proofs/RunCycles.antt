-- From a double cycle in sharp sync on a lawful history that no node joins keeps the sharper precision in each cycle, where
-- lengths do not walk.
use Rattle.std.proofs.Common.{◌≡◌, ℕ, suc, ◌+◌, ◌-◌, ◌*◌, ◌<◌, ◌≤◌, Bool, true, false, ℤ, pos, Some, All, [], ◌∷◌, length, refl, ap, subst, lit≤, arith}
use Rattle.std.specs.Prelude.{◌≤ℤ◌, Contains}
use Rattle.fr_base.specs.declared.node_row.NodeRow.{NodeRow}
use Rattle.fr_base.specs.declared.state.State.TheVariants.{Active}
use Rattle.fr_cluster.specs.Setting.{IsSetting, Setting, correct_nodes}
use Rattle.fr_cluster.specs.Values.{amount}
use Rattle.fr_cluster.specs.declared.names.ParamName.TheVariants as name
use Rattle.fr_cluster.specs.declared.nodes.NodeSpec.{NodeSpec}
use Rattle.fr_history.specs.Cycles.{Cycle, Cycles, cycle_at, told_of}
use Rattle.fr_history.specs.Lawful.{IsLawful}
use Rattle.fr_history.specs.Next.{cycles_of}
use Rattle.fr_history.specs.Skew.{skew_at}
use Rattle.fr_history.specs.Terms.{status_in}
use Rattle.fr_runs.specs.Links.{cycle_in}
use Rattle.fr_runs.specs.Rounds.{IsDoubleOf}
use Rattle.fr_runs.proofs.Parts.{cycle_found, cycle_within, each_cycle}
use Rattle.fr_bound.specs.SharpBounds.{rate_walk, sharp_near, sharp_precision}
use Rattle.fr_bound.specs.SharpChecks.{sharp_holds_of, SharpChecksHold}
use Rattle.fr_runs.specs.SharpHistories.{BeginsActive, CyclesKeepApart, HistoriesKeepSharpPrecision, IsInSharpSyncAt, IsSteadyRunFrom, KeepsApart, KeepsSharpPrecision, StatedRunsAreSteady, StaysInSharpSyncAt}
use Rattle.fr_precision.specs.SharpRun.{WalkLastsAfter}
use Rattle.fr_precision.proofs.BoundLemmas.{first_check_stops_walk}
use Rattle.fr_precision.proofs.LastingLemmas.{up_to}
use Rattle.fr_precision.proofs.OlderLemmas.{does_not_walk, lasts_on, stays_in_range}
use Rattle.fr_promise.proofs.RunSync.{keeps_sync, sync_in}

-- ---- each cycle, whatever says so of each double cycle

module _ (x : Setting) (h : Cycles) (whole : length h ≡ 2 * x.doubles) (double : ℕ) where
  Near : ℕ → ℕ → Cycle → Type 0
  Near apart n c = (macrotick : ℕ) → macrotick < amount x.params name.gMacroPerCycle → skew_at x.params (told_of h) n macrotick ≤ℤ pos apart

  Active_in : ℕ → Cycle → Type 0
  Active_in n c = All (λ (row : NodeRow). row.state ≡ Active) c.told.rows

  -- macroticks lie no further apart
  pub skew_by_cycle : (apart : ℕ)
      → ((k : ℕ) → double ≤ k → k < x.doubles → (macrotick : ℕ) (is_odd : Bool) → macrotick < amount x.params name.gMacroPerCycle → skew_at x.params (told_of h) (cycle_in is_odd k) macrotick ≤ℤ pos apart)
      → (cycle macrotick : ℕ) → 2 * double ≤ cycle → cycle < length h → macrotick < amount x.params name.gMacroPerCycle → skew_at x.params (told_of h) cycle macrotick ≤ℤ pos apart
  unfolding Near
  skew_by_cycle apart skew cycle macrotick from less lt =
      let c = cycle_found h cycle less in
      each_cycle h double x.doubles (Near apart) whole
      (λ k earlier even odd d after within. (λ m below. skew k after within m false below, λ m below. skew k after within m true below)) cycle c.0 from c.1 macrotick lt

  -- nodes with rows are active
  pub active_by_cycle : ((k : ℕ) → double ≤ k → k < x.doubles → BeginsActive h k) → (cycle : ℕ) (c : Cycle) → 2 * double ≤ cycle → cycle_at h cycle ≡ Some c → All (λ row. row.state ≡ Active) c.told.rows
  unfolding Active_in
  active_by_cycle active = each_cycle h double x.doubles Active_in whole (λ k earlier even odd d after within. active k after within earlier even odd d)

  -- and each correct node behind the last one
  pub active_last : double < x.doubles
      → ((k : ℕ) → double ≤ k → k < x.doubles → (earlier : Cycles) (even odd : Cycle) → IsDoubleOf h k earlier even odd → (node : NodeSpec) → Contains (correct_nodes x) node
      → (status_in x.params (told_of (odd ∷ even ∷ earlier)) node.id).state ≡ Active)
      → (t : Cycles) → h ≡ t → (node : NodeSpec) → Contains (correct_nodes x) node → (status_in x.params (told_of t) node.id).state ≡ Active
  active_last some ends [] is node there = let none : length h ≡ 0 = ap (λ (t : Cycles). length t) is in absurd (omega (arith, whole, none, some))
  active_last some ends (odd ∷ []) is node there = let one : length h ≡ 1 = ap (λ (t : Cycles). length t) is in absurd (omega (arith, whole, one))
  active_last some ends (odd ∷ even ∷ earlier) is node there =
      let long : length h ≡ suc (suc (length earlier)) = ap (λ (t : Cycles). length t) is in
      let k : ℕ = x.doubles - 1 in
      let d : IsDoubleOf h k earlier even odd = record { later = []; parted = is; counted = omega (arith, whole, long) } in
      ends k (omega (arith, some)) (omega (arith, some)) earlier even odd d node there

module _ (x : Setting) (h : Cycles) (whole : length h ≡ 2 * x.doubles) (double apart : ℕ) (some : double < x.doubles) (active : (k : ℕ) → double ≤ k → k < x.doubles → BeginsActive h k)
    (keeps : (k : ℕ) → double ≤ k → k < x.doubles → KeepsApart x h k apart) where
  Uncut : ℕ → Cycle → Type 0
  Uncut n c = All (λ (row : NodeRow). row.cut ≡ 0) c.told.rows

  uncut_in : (cycle : ℕ) (c : Cycle) → 2 * double ≤ cycle → cycle_at h cycle ≡ Some c → All (λ row. row.cut ≡ 0) c.told.rows
  unfolding Uncut
  uncut_in =
      each_cycle h double x.doubles Uncut whole
      (λ k earlier even odd d after within. let ends = (keeps k after within).ends earlier even odd d in (ends.uncut_even, ends.uncut_odd))

  pub cycles_keep_apart : CyclesKeepApart x h double apart
  cycles_keep_apart = record {
    skew = skew_by_cycle x h whole double apart (λ k after within. (keeps k after within).skew);
    active = active_by_cycle x h whole double active;
    uncut = uncut_in;
    after = active_last x h whole double some (λ k after within earlier even odd d. ((keeps k after within).ends earlier even odd d).active) h refl;
  }

-- ---- where each double cycle keeps it

module _ (beside : Bool) (x : Setting) (from flutter : ℕ) (beyond : ℤ) (h : Cycles) (double : ℕ) (w : IsSteadyRunFrom beside x from flutter h) (some : double < x.doubles)
    (synced : (k : ℕ) → double ≤ k → k < x.doubles → IsInSharpSyncAt beside x.params flutter beyond h k)
    (keeps : (k : ℕ) → double ≤ k → k < x.doubles → KeepsApart x h k (sharp_precision beside x.params flutter)) where
  pub keeps_by_cycle : KeepsSharpPrecision beside x flutter beyond h double
  keeps_by_cycle = record {
    synced = synced;
    ends = λ k earlier even odd after within d. (keeps k after within).ends earlier even odd d;
    cycles =
        cycles_keep_apart x h w.whole double (sharp_precision beside x.params flutter) some
        (λ k after within earlier even odd d. let own = sync_in beside x from flutter h w k beyond (synced k after within) earlier even odd d in (own.active_even, own.active_odd)) keeps;
  }

-- ---- under all checks

module _ (beside : Bool) (x : Setting) (from flutter : ℕ) (h : Cycles) (double : ℕ) (w : IsSteadyRunFrom beside x from flutter h) (late : from ≤ double)
    (checks : (k : ℕ) → 1 ≤ k → k ≤ 5 → sharp_holds_of k flutter (sharp_near beside x.params flutter) x.params ≡ true) (sync : IsInSharpSyncAt beside x.params flutter (pos 0) h double) where
  still : rate_walk x.params flutter ≤ℤ pos 0
  still = (first_check_stops_walk x.params flutter (sharp_near beside x.params flutter) w.covered.timed.sane).0 (checks 1 (lit≤ tt) (lit≤ tt))

  lasts : (passed : ℕ) → WalkLastsAfter x.params flutter passed
  lasts passed = lasts_on x.params flutter passed (does_not_walk x.params flutter still)

  stays : (k : ℕ) → double ≤ k → k < x.doubles → StaysInSharpSyncAt beside x flutter h double (k - double)
  stays k after within =
      let rest : SharpChecksHold flutter (sharp_near beside x.params flutter) x.params = λ m low high. checks m (omega (arith, low)) high in
      keeps_sync beside x from flutter h w double late rest sync (k - double) (omega (arith, after, within))

  synced_at : (k : ℕ) → double ≤ k → k < x.doubles → IsInSharpSyncAt beside x.params flutter (pos 0) h k
  synced_at k after within =
      let same : double + (k - double) ≡ k = omega (arith, after) in
      let At : ℕ → Type 0 = λ m. IsInSharpSyncAt beside x.params flutter (pos 0) h m in
      let Beyond : ℤ → Type 0 = λ beyond. IsInSharpSyncAt beside x.params flutter beyond h (double + (k - double)) in
      subst At same (subst Beyond (stays_in_range x.params flutter (k - double) still) ((stays k after within).synced (up_to x.params flutter (k - double) (lasts (k - double)))))

  keeps_at : (k : ℕ) → double ≤ k → k < x.doubles → KeepsApart x h k (sharp_precision beside x.params flutter)
  keeps_at k after within =
      let same : double + (k - double) ≡ k = omega (arith, after) in
      let At : ℕ → Type 0 = λ m. KeepsApart x h m (sharp_precision beside x.params flutter) in
      subst At same ((stays k after within).keeps (lasts (k - double)))

  pub keeps_precision : KeepsSharpPrecision beside x flutter (pos 0) h double
  keeps_precision =
      let whole : length h ≡ 2 * x.doubles = w.whole in
      let below : 2 * double < length h = cycle_within h (2 * double) sync.even sync.has_even in
      keeps_by_cycle beside x from flutter (pos 0) h double w (omega (arith, whole, below)) synced_at keeps_at

pub histories_keep_sharp_precision : HistoriesKeepSharpPrecision
histories_keep_sharp_precision beside x from flutter h double w late checks sync = keeps_precision beside x from flutter h double w late checks sync

pub stated_runs_are_steady : ((x : Setting) (n : ℕ) → IsSetting x → IsLawful x (cycles_of x n)) → ((x : Setting) (n : ℕ) → length (cycles_of x n) ≡ n) → StatedRunsAreSteady
stated_runs_are_steady lawful long beside x from flutter setting covered may none = record {
  covered = covered;
  arbitrary = may;
  none_joins = none;
  lawful = lawful x (2 * x.doubles) setting;
  whole = long x (2 * x.doubles);
}
