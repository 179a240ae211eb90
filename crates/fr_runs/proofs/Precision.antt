-- A whole run keeps its precision from a double cycle in sync on in which none follows.
use Rattle.std.proofs.Common.{◌≡◌, ◌⊎◌, ℕ, zero, suc, ◌*◌, ◌<◌, ◌≤◌, pos, Option, Some, [], ◌∷◌, ◌++◌, All, ap, sym, ◌∙◌, subst, inl, inr, arith}
use Rattle.std.specs.Prelude.{◌≤ℤ◌}
use Rattle.std.specs.Option.{option_map, option_map_or}
use Rattle.fr_base.specs.declared.node_row.NodeRow.{NodeRow}
use Rattle.fr_base.specs.declared.state.State.TheVariants.{Active}
use Rattle.fr_cluster.specs.Values.{amount}
use Rattle.fr_cluster.specs.declared.names.ParamName.TheVariants as name
use Rattle.fr_time.specs.Position.{grid_for}
use Rattle.fr_bound.specs.Bounds.{precision_of}
use Rattle.fr_skew.specs.Spreads.{spread_at}
use Rattle.fr_history.specs.History.{Record, record_at}
use Rattle.fr_cluster.specs.Setting.{Setting}
use Rattle.fr_history.specs.Cycles.{Cycle, Cycles, told_of}
use Rattle.fr_history.specs.Unfollowed.{IsUnfollowedSyncAt}
use Rattle.fr_runs.specs.Precision.{AllCutsRun, UnfollowedRunsKeepPrecision}
use Rattle.fr_runs.specs.Rounds.{IsDoubleOf, IsFedFrom, IsRun, KeepsUp, RatesBegin}
use Rattle.fr_runs.proofs.Parts.{cycle_found, each_cycle, told_at}
use Rattle.fr_runs.proofs.UnfollowedSync.{unfollowed_runs_keep_up, unfollowed_sync_is}
use Rattle.fr_runs.proofs.Succeeding.{gathered_nodes_succeed}
use Rattle.fr_runs.proofs.Uncut.{CutsOf, FollowersAre, NoneCut, double_uncut}
use Rattle.fr_runs.proofs.Whole.{double_runs, none_follows, prior_of}

-- a whole run that is in sync in a double cycle in which none follows
pub record IsFedRun (x : Setting) (h : Cycles) (double : ℕ) : Type 0 where
  pub run : IsRun x h
  pub first : RatesBegin x
  pub fed : IsFedFrom x h double
  pub unfollowed : IsUnfollowedSyncAt x.params h double

up_at : (x : Setting) (h : Cycles) (double k : ℕ) (earlier : Cycles) (even odd : Cycle) → IsFedRun x h double → double ≤ k → k < x.doubles → IsDoubleOf h k earlier even odd
    → KeepsUp x earlier even odd k
up_at x h double k earlier even odd s from within d = unfollowed_runs_keep_up x h double s.run s.first s.fed s.unfollowed k earlier even odd from within d

-- ---- who follows

none_at_unfollowed : (x : Setting) (h : Cycles) (double : ℕ) (earlier : Cycles) (even odd : Cycle) → IsFedRun x h double → IsDoubleOf h double earlier even odd → FollowersAre x earlier double
none_at_unfollowed x h double earlier even odd s d node among =
    let unfollowed = unfollowed_sync_is x h double earlier even odd s.run.covered.sane s.first s.run.run s.unfollowed d in
    let runs = double_runs x h double earlier even odd d s.run.run in
    absurd (none_follows x earlier even node runs.1.0 unfollowed.none among)

followers_later : (x : Setting) (h : Cycles) (double m : ℕ) (earlier : Cycles) (even odd : Cycle) → IsFedRun x h double → double ≤ m → suc m < x.doubles
    → IsDoubleOf h (suc m) earlier even odd → FollowersAre x earlier (suc m)
followers_later x h double m [] even odd s from within d =
    let counted : 0 ≡ 2 * suc m = d.counted in
    absurd (omega (arith, counted))
followers_later x h double m (o ∷ []) even odd s from within d =
    let counted : 1 ≡ 2 * suc m = d.counted in
    absurd (omega (arith, counted))
followers_later x h double m (o ∷ e ∷ earlier) even odd s from within d =
    let before = up_at x h double m earlier e o s from (omega (arith, within)) (prior_of h m earlier e o even odd d) in
    let runs = double_runs x h (suc m) (o ∷ e ∷ earlier) even odd d s.run.run in
    (gathered_nodes_succeed x earlier e o even m before.gathered runs.1.0).followers_from

splits : (a b : ℕ) → a ≤ suc b → (a ≤ b) ⊎ (a ≡ suc b)
splits a b le = grind arith

same_followers : (x : Setting) (h : Cycles) (double k : ℕ) (earlier : Cycles) (even odd : Cycle) → double ≡ k → IsFedRun x h double → IsDoubleOf h k earlier even odd → FollowersAre x earlier k
same_followers x h double k earlier even odd same s d =
    let Are : ℕ → Type 0 = λ j. IsDoubleOf h j earlier even odd → FollowersAre x earlier j in
    subst Are same (λ own. none_at_unfollowed x h double earlier even odd s own) d

-- each node that follows does so for the second or for the first double cycle
pub followers_are : (x : Setting) (h : Cycles) (double k : ℕ) (earlier : Cycles) (even odd : Cycle) → IsFedRun x h double → double ≤ k → k < x.doubles → IsDoubleOf h k earlier even odd
    → FollowersAre x earlier k
followers_are x h double zero earlier even odd s from within d = same_followers x h double 0 earlier even odd (omega (arith, from)) s d
followers_are x h double (suc m) earlier even odd s from within d = elim (splits double m from) [
  | inl less ↦ followers_later x h double m earlier even odd s less within d
  | inr same ↦ same_followers x h double (suc m) earlier even odd same s d
]

-- ---- each cycle

SkewsIn : Setting → ℕ → Cycle → Type 0
SkewsIn x n c =
    (macrotick : ℕ) → macrotick < amount x.params name.gMacroPerCycle → spread_at (grid_for x.params) n c.told.rows macrotick ≤ℤ pos (precision_of x.params)

skews : (x : Setting) (h : Cycles) (double : ℕ) → IsFedRun x h double → (k : ℕ) (earlier : Cycles) (even odd : Cycle) → IsDoubleOf h k earlier even odd → double ≤ k
    → k < x.doubles → SkewsIn x (2 * k) even × SkewsIn x (suc (2 * k)) odd
unfolding SkewsIn
skews x h double s k earlier even odd d from within =
    let up = up_at x h double k earlier even odd s from within d in
    let Even : ℕ → Type 0 = λ n. SkewsIn x n even in
    let Odd : ℕ → Type 0 = λ n. SkewsIn x (suc n) odd in
    (subst Even d.counted up.even_skew, subst Odd d.counted up.odd_skew)

actives : (x : Setting) (h : Cycles) (double : ℕ) → IsFedRun x h double → (k : ℕ) (earlier : Cycles) (even odd : Cycle) → IsDoubleOf h k earlier even odd → double ≤ k
    → k < x.doubles → All (λ row. row.state ≡ Active) even.told.rows × All (λ row. row.state ≡ Active) odd.told.rows
actives x h double s k earlier even odd d from within =
    let sync = (up_at x h double k earlier even odd s from within d).gathered.in_sync in
    (sync.active_even, sync.active_odd)

cuts_of : (x : Setting) (later t : Cycles) → AllCutsRun x (later ++ t) → AllCutsRun x t
cuts_of x [] t cuts = cuts
cuts_of x (c ∷ later) t cuts = cuts_of x later t cuts.2

uncuts : (x : Setting) (h : Cycles) (double : ℕ) → IsFedRun x h double → AllCutsRun x h → (k : ℕ) (earlier : Cycles) (even odd : Cycle) → IsDoubleOf h k earlier even odd → double ≤ k
    → k < x.doubles → (NoneCut even.told.rows × NoneCut even.followers) × (NoneCut odd.told.rows × NoneCut odd.followers)
uncuts x h double s all k earlier even odd d from within =
    let cuts = cuts_of x d.later (odd ∷ even ∷ earlier) (subst (AllCutsRun x) d.parted all) in
    let late : CutsOf x (even ∷ earlier) odd = record { rows = cuts.0; followers = cuts.1 } in
    let early : CutsOf x earlier even = record { rows = cuts.2.0; followers = cuts.2.1 } in
    double_uncut x earlier even odd k (up_at x h double k earlier even odd s from within d) (followers_are x h double k earlier even odd s from within d) early late

pub unfollowed_runs_keep_precision_lem : UnfollowedRunsKeepPrecision
unfolding SkewsIn
unfollowed_runs_keep_precision_lem x h double run first cuts fed unfollowed =
    let s : IsFedRun x h double = record { run = run; first = first; fed = fed; unfollowed = unfollowed } in
    let Active_in : ℕ → Cycle → Type 0 = λ n c. All (λ (row : NodeRow). row.state ≡ Active) c.told.rows in
    let Uncut : ℕ → Cycle → Type 0 = λ n c. NoneCut c.told.rows × NoneCut c.followers in
    record {
      skew =
          λ cycle macrotick from less lt.
          let c = cycle_found h cycle less in
          let spread = each_cycle h double x.doubles (SkewsIn x) run.whole (skews x h double s) cycle c.0 from c.1 macrotick lt in
          let told : record_at (told_of h) cycle ≡ Some c.0.told = told_at h cycle ∙ ap (option_map (λ (e : Cycle). e.told)) c.1 in
          let Most : Option Record → Type 0 = λ o. option_map_or (λ r. spread_at (grid_for x.params) cycle r.rows macrotick) o (pos 0) ≤ℤ pos (precision_of x.params) in
          subst Most (sym told) spread;
      active = each_cycle h double x.doubles Active_in run.whole (actives x h double s);
      uncut = each_cycle h double x.doubles Uncut run.whole (uncuts x h double s cuts);
    }
