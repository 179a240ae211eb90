-- Whoever listens in a run that nodes join follows in the next four cycles, and has a row in those behind them.
use Rattle.std.proofs.Common.{◌≡◌, ℕ, Bool, suc, ◌+◌, ◌-◌, ◌*◌, ◌<◌, ◌≤◌, pos, Some, length, refl, sym, subst, arith}
use Rattle.std.specs.Prelude.{◌≤ℤ◌, Contains}
use Rattle.fr_cluster.specs.Setting.{Setting, correct_nodes}
use Rattle.fr_cluster.specs.declared.nodes.NodeSpec.{NodeSpec}
use Rattle.fr_history.specs.History.{row_for}
use Rattle.fr_cluster.specs.declared.join.Join.{Join}
use Rattle.fr_history.specs.Cycles.{Cycle, Cycles}
use Rattle.fr_runs.proofs.Parts.{each_cycle}
use Rattle.fr_runs.proofs.Joining.{told_in, CarriesOn, Told}
use Rattle.fr_runs.specs.References.{HaveReferences}
use Rattle.fr_runs.specs.Rounds.{IsDoubleOf}
use Rattle.fr_runs.specs.SteadyRuns.{IsTimedPartFrom}
use Rattle.fr_precision.specs.Lengths.{walked_after}
use Rattle.fr_bound.specs.SharpBounds.{sharp_precision}
use Rattle.fr_promise.specs.JoinedHistories.{FirstRatesLast, IsJoinedUpTo, JoinedListenersJoin, JoinedListenersJoinUpTo}
use Rattle.fr_promise.specs.SharpJoined.{IsFollowedDouble, IsReferenceCarried, IsSteadyJoinedFrom, NoneIsLeftBehind}
use Rattle.fr_promise.specs.SharpJoining.{sharp_group_spread, sharp_reach, GroupSpread}
use Rattle.fr_promise.specs.SharpTested.{IsUnfollowedSharpSyncAt}
use Rattle.fr_promise.proofs.FollowedRuns.{followed, followed_joins}
use Rattle.fr_promise.proofs.JoinedBeginning.{followed_listeners_begin, whole_carries}
use Rattle.fr_promise.proofs.JoinedDoubles.{joined_part}
use Rattle.fr_promise.proofs.JoinedRuns.{sharp_run}

-- ---- whatever is heard

-- a run whose double cycles from one on up to another lie within some bounds, while first rates last, and leave no follower behind
pub record IsListenedRun (x : Setting) (from flutter : ℕ) (h : Cycles) (double upto : ℕ) (spread : ℕ → GroupSpread) : Type 0 where
  pub part : IsTimedPartFrom x from flutter h
  pub whole : length h ≡ 2 * x.doubles
  pub referenced : HaveReferences x
  pub late : from ≤ double
  pub inside : upto ≤ x.doubles
  pub lasting : (m : ℕ) → double + m < upto → FirstRatesLast x.params flutter m
  pub near :
      (m : ℕ) → double + m < upto → (earlier : Cycles) (even odd : Cycle) → IsDoubleOf h (double + m) earlier even odd
      → IsFollowedDouble x (spread m) (walked_after x.params flutter m) earlier even odd (double + m)
  pub joins : (m : ℕ) → double + m < upto → (earlier : Cycles) (even odd : Cycle) → IsDoubleOf h (double + m) earlier even odd → NoneIsLeftBehind x (double + m) earlier even odd

-- a node that listens in it, to a reference whose frames come to it and whose start is not below 0
pub record Listener (x : Setting) (h : Cycles) (double : ℕ) (node : NodeSpec) (join : Join) : Type 0 where
  pub there : Contains (correct_nodes x) node
  pub at : x.join node.id ≡ Some join
  pub behind : double ≤ join.double
  pub carried : join.double < x.doubles → IsReferenceCarried x node join join.double
  pub starts : (earlier : Cycles) (even odd : Cycle) → IsDoubleOf h join.double earlier even odd → pos 0 ≤ℤ (row_for even.told.rows join.reference).start

module _
    (x : Setting) (from flutter : ℕ) (h : Cycles) (double upto : ℕ) (spread : ℕ → GroupSpread) (node : NodeSpec) (join : Join)
    (r : IsListenedRun x from flutter h double upto spread) (l : Listener x h double node join) where
  -- it is carried on
  carries_on : CarriesOn x h upto node join
  carries_on = record {
    lawful = r.part.lawful;
    there = l.there;
    at = l.at;
    begins = λ earlier even odd within d.
        let behind = l.behind in
        let late = r.late in
        let inside = r.inside in
        let m = join.double - double in
        let same : double + m ≡ join.double = omega (arith, behind) in
        let Of : ℕ → Type 0 = λ j. IsDoubleOf h j earlier even odd in
        let At : ℕ → Type 0 = λ j. IsFollowedDouble x (spread m) (walked_after x.params flutter m) earlier even odd j in
        let less : double + m < upto = omega (arith, same, within) in
        followed_listeners_begin x from flutter h join.double earlier even odd (spread m) (walked_after x.params flutter m) node join r.part r.referenced (omega (arith, late, behind)) d (r.lasting m less).1
        (subst At same (r.near m less earlier even odd (subst Of (sym same) d))) l.there l.at refl (l.carried (omega (arith, within, inside))) (l.starts earlier even odd d);
    onward = λ k earlier even odd listened within d.
        let behind = l.behind in
        let m = k - double in
        let same : double + m ≡ k = omega (arith, behind, listened) in
        let Of : ℕ → Type 0 = λ j. IsDoubleOf h j earlier even odd in
        let Left : ℕ → Type 0 = λ j. NoneIsLeftBehind x j earlier even odd in
        subst Left same (r.joins m (omega (arith, same, within)) earlier even odd (subst Of (sym same) d));
  }

  pub listener_joins_up_to : upto < x.doubles → IsJoinedUpTo h node.id join (2 * suc upto)
  listener_joins_up_to within cycle c before is =
      let Near : ℕ → Cycle → Type 0 = λ n one. n < 2 * suc upto → Told node join n one in
      let near : (k : ℕ) (earlier : Cycles) (even odd : Cycle) → IsDoubleOf h k earlier even odd → suc join.double ≤ k → k < x.doubles → Near (2 * k) even × Near (suc (2 * k)) odd =
      λ k earlier even odd d low high. (
        λ less. (told_in x h upto node join carries_on k earlier even odd d low (omega (arith, less))).0,
        λ less. (told_in x h upto node join carries_on k earlier even odd d low (omega (arith, less))).1,
      ) in
      let told = λ (later : 2 * suc join.double ≤ cycle). each_cycle h (suc join.double) x.doubles Near r.whole near cycle c later is before in
      (λ low high. (told (omega (arith, low))).0 low high, λ low. (told (omega (arith, low))).1 low)

-- ---- as near as in sharp sync

-- the double cycles from one in sharp sync in which none follows on, up to another before which first rates last
sharply_listened : (beside : Bool) (x : Setting) (from flutter : ℕ) (h : Cycles) (double upto : ℕ) → IsSteadyJoinedFrom beside x from flutter h → from ≤ double → IsUnfollowedSharpSyncAt beside x.params flutter h double
    → upto ≤ x.doubles → ((m : ℕ) → double + m < upto → FirstRatesLast x.params flutter m) → IsListenedRun x from flutter h double upto (λ k. sharp_group_spread beside x.params flutter)
sharply_listened beside x from flutter h double upto w late begin inside lasting =
    let run = sharp_run beside x from flutter h w double late begin in
    let spread : ℕ → GroupSpread = λ k. sharp_group_spread beside x.params flutter in
    let apart : ℕ → ℕ = λ k. sharp_precision beside x.params flutter in
    let reach = pos (sharp_reach beside x.params flutter) in
    record {
      part = joined_part beside x from flutter h w;
      whole = w.whole;
      referenced = w.referenced;
      late = late;
      inside = inside;
      lasting = lasting;
      near = λ m less. followed x from flutter h double spread apart reach run m (omega (arith, less, inside)) (λ j few. lasting j (omega (arith, less, few)));
      joins = λ m less. followed_joins x from flutter h double spread apart reach run m (omega (arith, less, inside)) (λ j few. lasting j (omega (arith, less, few))) (lasting m less);
    }

-- all is heard in them
sharp_listener : (beside : Bool) (x : Setting) (from flutter : ℕ) (h : Cycles) (double : ℕ) (node : NodeSpec) (join : Join) → IsSteadyJoinedFrom beside x from flutter h → from ≤ double → Contains (correct_nodes x) node
    → x.join node.id ≡ Some join → double ≤ join.double
    → ((earlier : Cycles) (even odd : Cycle) → IsDoubleOf h join.double earlier even odd → pos 0 ≤ℤ (row_for even.told.rows join.reference).start) → Listener x h double node join
sharp_listener beside x from flutter h double node join w late there at behind starts = record {
  there = there;
  at = at;
  behind = behind;
  carried = λ within. whole_carries x join.double node join (w.covered.links join.double (omega (arith, late, behind)) within) there;
  starts = starts;
}

pub joined_listeners_join_up_to : JoinedListenersJoinUpTo
joined_listeners_join_up_to beside x from flutter h double passed node join w late begin within lasting there at behind starts =
    listener_joins_up_to x from flutter h double (double + passed) (λ k. sharp_group_spread beside x.params flutter) node join
    (sharply_listened beside x from flutter h double (double + passed) w late begin (omega (arith, within)) (λ m less. lasting m (omega (arith, less))))
    (sharp_listener beside x from flutter h double node join w late there at behind starts) within

pub joined_listeners_join : JoinedListenersJoin
joined_listeners_join beside x from flutter h double node join w late begin lasting there at behind starts cycle c is =
    let run = sharply_listened beside x from flutter h double x.doubles w late begin (omega arith) lasting in
    let l = carries_on x from flutter h double x.doubles (λ k. sharp_group_spread beside x.params flutter) node join run (sharp_listener beside x from flutter h double node join w late there at behind starts) in
    let near : (k : ℕ) (earlier : Cycles) (even odd : Cycle) → IsDoubleOf h k earlier even odd → suc join.double ≤ k → k < x.doubles → Told node join (2 * k) even × Told node join (suc (2 * k)) odd =
    λ k earlier even odd d low high. told_in x h x.doubles node join l k earlier even odd d low (omega (arith, high)) in
    let told = λ (later : 2 * suc join.double ≤ cycle). each_cycle h (suc join.double) x.doubles (Told node join) w.whole near cycle c later is in
    (λ low high. (told (omega (arith, low))).0 low high, λ low. (told (omega (arith, low))).1 low)
