-- A run that nodes join: from a double cycle in sharp sync in which none follows each one is, while first rates last.
use Rattle.std.proofs.Common.{◌≡◌, ℕ, suc, ◌+◌, ◌*◌, ◌<◌, ◌≤◌, Bool, true, false, if◌then◌else◌, ℤ, pos, Option, Some, [], refl, ap, sym, ◌∙◌, subst, arith}
use Rattle.std.specs.Prelude.{◌+ℤ◌, ◌*ℤ◌, ◌≤ℤ◌, IfSome, int_le}
use Rattle.std.proofs.lemmas.Int.{ints}
use Rattle.fr_cluster.specs.Setting.{Setting}
use Rattle.fr_cluster.specs.Values.{Values}
use Rattle.fr_time.specs.Cycles.{odd_cycle}
use Rattle.fr_bound.specs.Checks.{holds_of, left_of, right_of}
use Rattle.fr_precision.proofs.Figures.{nat_le-true}
use Rattle.fr_history.specs.Cycles.{Cycle, Cycles, cycle_at}
use Rattle.fr_runs.specs.Rounds.{IsDoubleOf}
use Rattle.fr_runs.proofs.Parts.{double_at, even_is, odd_is, DoubleAt}
use Rattle.fr_precision.specs.Lengths.{walked_after}
use Rattle.fr_bound.specs.SharpBounds.{rate_walk, sharp_precision}
use Rattle.fr_bound.specs.SharpChecks.{RateSuffices}
use Rattle.fr_runs.specs.SharpHistories.{IsInSharpSyncAt}
use Rattle.fr_promise.specs.SharpJoining.{sharp_group_spread, sharp_reach, GroupSpread}
use Rattle.fr_precision.specs.SharpStep.{IsInSharpSync}
use Rattle.fr_promise.specs.SharpListening.{RateTakesIn}
use Rattle.fr_promise.specs.SharpJoined.{IsJoinedDouble, IsSteadyJoinedFrom, WalksJoined}
use Rattle.fr_promise.specs.SharpTested.{IsUnfollowedSharpSyncAt}
use Rattle.fr_promise.specs.JoinedHistories.{FirstRatesLast, FirstRatesLastOn, JoinedHistoriesKeepSharpSync}
use Rattle.fr_precision.proofs.BoundLemmas.{first_check_stops_walk, walk_is_held, walked_none}
use Rattle.fr_precision.proofs.OlderLemmas.{does_not_walk}
use Rattle.fr_promise.proofs.JoinBounds.{sharp_join_checks_suffice_lem}
use Rattle.fr_promise.proofs.JoinedDoubles.{joined_doubles_are_kept, joined_is_in_sharp_sync, joined_part, unfollowed_is_joined}
use Rattle.fr_promise.proofs.FollowedRuns.{followed, followed_keeps, IsFollowedRun}

-- ---- numbers

pub still_zero : (w z : ℤ) → w ≤ℤ pos 0 → (if int_le w (pos 0) then pos 0 else z) ≡ pos 0
still_zero w z le = by (int_le w (pos 0)) (tested w le)
  where
    tested : (w : ℤ) → w ≤ℤ pos 0 → int_le w (pos 0) ≡ true
    tested w le = grind (arith, ints)

    by : (b : Bool) → b ≡ true → (if b then pos 0 else z) ≡ pos 0
    by true is = refl
    by false is = absurd (cc)

pub first_rates_last_on : FirstRatesLastOn
first_rates_last_on beside p flutter reach passed sane first checks =
    let still = (first_check_stops_walk p flutter reach sane).0 first in
    let Lasts : Option ℕ → Type 0 = λ o. IfSome o (λ lasts. passed < lasts) in
    let Takes : ℤ → Type 0 = λ z. RateTakesIn p flutter z in
    (subst Lasts (sym (does_not_walk p flutter still)) tt, subst Takes (sym (still_zero (rate_walk p flutter) (pos passed *ℤ rate_walk p flutter) still)) (sharp_join_checks_suffice_lem beside p flutter sane checks).2)

-- ---- where it begins

-- the rate limit suffices for lengths in their range
pub within_range : (p : Values) → holds_of 2 p ≡ true → RateSuffices p (pos 0)
within_range p second = zero_suffices (right_of 2 p) (left_of 2 p) (nat_le-true (right_of 2 p) (left_of 2 p) second)
  where
    zero_suffices : (a b : ℕ) → a ≤ b → (pos a +ℤ pos 0) ≤ℤ pos b
    zero_suffices a b le = omega (arith, ints, le)

-- the two cycles of a double cycle in sharp sync in which none follows
pub unfollowed_in : (beside : Bool) (x : Setting) (flutter : ℕ) (h : Cycles) (double : ℕ) → IsUnfollowedSharpSyncAt beside x.params flutter h double → (earlier : Cycles) (even odd : Cycle) → IsDoubleOf h double earlier even odd
    → IsInSharpSync beside x.params flutter (pos 0) even.told.rows odd.told.rows × (even.followers ≡ [])
unfollowed_in beside x flutter h double begin earlier even odd d =
    let p = x.params in
    let s = begin.synced in
    let second_is : odd_cycle double ≡ suc (2 * double) = omega arith in
    let one : Some s.even ≡ Some even = sym s.has_even ∙ even_is h double earlier even odd d in
    let other : Some s.odd ≡ Some odd = sym s.has_odd ∙ ap (cycle_at h) second_is ∙ odd_is h double earlier even odd d in
    let same_even : s.even ≡ even = cc in
    let same_odd : s.odd ≡ odd = cc in
    let Even : Cycle → Type 0 = λ c. IsInSharpSync beside p flutter (pos 0) c.told.rows odd.told.rows in
    let Odd : Cycle → Type 0 = λ c. IsInSharpSync beside p flutter (pos 0) s.even.told.rows c.told.rows in
    let Free : Cycle → Type 0 = λ c. c.followers ≡ [] in
    (subst Even same_even (subst Odd same_odd s.in_sync), subst Free same_even begin.none_early)

-- ---- a history

module _ (beside : Bool) (x : Setting) (from flutter : ℕ) (h : Cycles) (w : IsSteadyJoinedFrom beside x from flutter h) where
  second : holds_of 2 x.params ≡ true
  second = (sharp_join_checks_suffice_lem beside x.params flutter w.covered.timed.sane w.checks).3 2 (omega arith) (omega arith)

  -- the numbers of a double cycle while first rates last
  numbers : (passed : ℕ) → FirstRatesLast x.params flutter passed
      → WalksJoined beside x flutter (walked_after x.params flutter passed) (rate_walk x.params flutter) (walked_after x.params flutter (suc passed))
  numbers passed last =
      let held = walk_is_held x.params flutter passed w.covered.timed.sane second last.0 in
      record { walks = held.0; joins = last.1; from = held.1; to = held.2 }

  -- ---- from the first on

  abbrev spread : ℕ → GroupSpread
  spread k = sharp_group_spread beside x.params flutter

  abbrev apart : ℕ → ℕ
  apart k = sharp_precision beside x.params flutter

  pub sharp_run : (double : ℕ) → from ≤ double → IsUnfollowedSharpSyncAt beside x.params flutter h double
      → IsFollowedRun x from flutter h double spread apart (pos (sharp_reach beside x.params flutter))
  sharp_run double late begin = record {
    part = joined_part beside x from flutter h w;
    whole = w.whole;
    referenced = w.referenced;
    late = late;
    second = second;
    first = λ earlier even odd d.
        let at = unfollowed_in beside x flutter h double begin earlier even odd d in
        let At : ℤ → Type 0 = λ z. IsJoinedDouble beside x flutter z earlier even odd double in
        subst At (sym (walked_none x.params flutter)) (unfollowed_is_joined beside x from flutter h double earlier even odd (pos 0) w late d (within_range x.params second) at.0 at.1);
    kept = λ k within last earlier even odd d g.
        joined_doubles_are_kept beside x from flutter h (double + k) earlier even odd (walked_after x.params flutter k) (rate_walk x.params flutter) (walked_after x.params flutter (suc k)) w
        (omega (arith, late)) d (numbers k last) g;
  }

  -- ---- what one of them comes to

  found_at : (k : ℕ) → k < x.doubles → DoubleAt h k
  found_at k within = let whole = w.whole in double_at h k (omega (arith, whole, within))

  synced_at : (k : ℕ) (beyond : ℤ) → from ≤ k → k < x.doubles
      → ((earlier : Cycles) (even odd : Cycle) → IsDoubleOf h k earlier even odd → IsJoinedDouble beside x flutter beyond earlier even odd k) → IsInSharpSyncAt beside x.params flutter beyond h k
  synced_at k beyond behind within joined =
      let f = found_at k within in
      let late : odd_cycle k ≡ suc (2 * k) = omega arith in
      record {
        even = f.even;
        odd = f.odd;
        has_even = even_is h k f.earlier f.even f.odd f.is;
        has_odd = ap (cycle_at h) late ∙ odd_is h k f.earlier f.even f.odd f.is;
        in_sync = joined_is_in_sharp_sync beside x from flutter h k f.earlier f.even f.odd beyond w behind f.is (joined f.earlier f.even f.odd f.is);
      }

pub joined_histories_keep_sharp_sync : JoinedHistoriesKeepSharpSync
joined_histories_keep_sharp_sync beside x from flutter h double w late begin passed within lasting =
    let p = x.params in
    let run = sharp_run beside x from flutter h w double late begin in
    let reach = pos (sharp_reach beside p flutter) in
    let joined = followed x from flutter h double (λ k. sharp_group_spread beside p flutter) (λ k. sharp_precision beside p flutter) reach run passed within lasting in
    record {
      synced = synced_at beside x from flutter h w (double + passed) (walked_after p flutter passed) (omega (arith, late)) within joined;
      joined = joined;
      keeps = λ last. followed_keeps x from flutter h double (λ k. sharp_group_spread beside p flutter) (λ k. sharp_precision beside p flutter) reach run passed within lasting last;
    }
