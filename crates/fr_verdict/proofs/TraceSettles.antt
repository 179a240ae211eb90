-- A trace that passes comes from sync in the older sense into sharp sync.
use Rattle.std.proofs.Common.{◌≡◌, ℕ, zero, suc, ◌+◌, ◌*◌, ◌<◌, ◌≤◌, Bool, true, Option, List, [], ◌∷◌, length, map, ℤ, pos, ap, sym, ◌∙◌, subst, lit≤, arith}
use Rattle.std.specs.Prelude.{◌≤ℤ◌, Contains}
use Rattle.std.proofs.lemmas.Int.{ints}
use Rattle.std.proofs.lemmas.List.Elements.{All-contains}
use Rattle.fr_base.specs.declared.node_row.NodeRow.{NodeRow}
use Rattle.fr_bound.specs.Bounds.{arrival_error, lambda_of, longest_micro, pi_of, precision_of}
use Rattle.fr_bound.specs.Checks.{holds_of}
use Rattle.fr_bound.specs.Sync.{IsInSync}
use Rattle.fr_cluster.specs.Values.{Values}
use Rattle.fr_history.specs.History.{History, Record, record_at}
use Rattle.fr_history.specs.Sync.{IsInSyncAt}
use Rattle.fr_precision.specs.Offsets.{LimitSuffices}
use Rattle.fr_precision.specs.Placement.{IsRegular}
use Rattle.fr_precision.specs.Step.{AreSpread, Member}
use Rattle.fr_precision.proofs.InstantLaws.{actions_stay_near}
use Rattle.fr_precision.proofs.OffsetLaws.{third_check_suffices}
use Rattle.fr_precision.proofs.StepLaws.{nodes_near, reach_fits, sync_is_spread}
use Rattle.fr_time.specs.Cycles.{odd_cycle}
use Rattle.fr_trace.specs.Trace.{TraceView}
use Rattle.fr_verdict.specs.Answer.{IsSyncedFrom}
use Rattle.fr_verdict.specs.Sync.{IsFirstSynced}
use Rattle.fr_verdict.proofs.Checked.{at_double, check_holds, checked_traces_keep_precision, of_part}
use Rattle.fr_verdict.proofs.Doubles.{Part, part_at}
use Rattle.fr_verdict.proofs.Heard.{double_within}
use Rattle.fr_verdict.proofs.Recorded.{prior_of, IsDouble, even_at, odd_at}
use Rattle.fr_precision.specs.Lengths.{walked_after}
use Rattle.fr_bound.specs.SharpBounds.{last_action, rate_walk, sharp_lambda, sharp_near, sharp_pi}
use Rattle.fr_bound.specs.SharpChecks.{sharp_holds_of}
use Rattle.fr_precision.specs.SharpRun.{lengths_from, starts_from, WalkLastsAfter}
use Rattle.fr_bound.specs.SharpSpreads.{IsSharplySettled}
use Rattle.fr_precision.specs.SharpSettling.{sharp_spread_after}
use Rattle.fr_precision.specs.SharpStep.{ActInReach, AreSharp}
use Rattle.fr_verdict.specs.SharpTraces.{recorded_flutter, IsRecordedInSharpSync, IsSteadyTrace, PassingTracesComeSharp}
use Rattle.fr_precision.proofs.BoundLemmas.{first_check_stops_walk, key_slots_act_early, older_checks_suffice, walk_is_held, walked_none}
use Rattle.fr_precision.proofs.LastingLemmas.{first_spread_is, nothing, spread_draws}
use Rattle.fr_precision.proofs.OlderLemmas.{does_not_walk, lasts_on, stays_in_range}
use Rattle.fr_precision.proofs.StepLemmas.{in_sync_is_sharp, runs_of, sharp_is_wider}
use Rattle.fr_precision.proofs.SettlingLemmas.{from_after}
use Rattle.fr_verdict.proofs.TraceAlike.{as_said}
use Rattle.fr_verdict.proofs.TraceCycles.{said_traces_keep_precision, traces_keep_sharp_precision}
use Rattle.fr_verdict.specs.Alike.{PassingTracesKeepSharply}
use Rattle.fr_verdict.proofs.TraceRows.{evens_are, members_regular, odds_are, traced_members}
use Rattle.fr_verdict.proofs.TraceStep.{next_stands, passes, IsTracedStep}
use Rattle.fr_verdict.proofs.TraceSync.{checked_traces_are_steady}

module _ (beside : Bool) (p : Values) (t : TraceView) (double : ℕ) (s : IsSteadyTrace beside p t double) (older : (number : ℕ) → 1 ≤ number → number ≤ 5 → holds_of number p ≡ true)
    (synced : (k : ℕ) → double ≤ k → k < t.doubles → IsInSyncAt p t.history k) where
  abbrev flutter : ℕ
  flutter = recorded_flutter p

  abbrev starts : ℕ → ℕ
  starts passed = starts_from beside p (recorded_flutter p) (pi_of p) (lambda_of p) passed

  abbrev lengths : ℕ → ℕ
  lengths passed = lengths_from beside p (recorded_flutter p) (pi_of p) (lambda_of p) passed

  abbrev walked : ℕ → ℤ
  walked passed = walked_after p (recorded_flutter p) passed

  le_itself : (n : ℕ) → n ≤ n
  le_itself n = omega arith

  pub sharp_check : (number : ℕ) → 1 ≤ number → number ≤ 5 → sharp_holds_of number flutter (sharp_near beside p flutter) p ≡ true
  sharp_check number from to = older_checks_suffice beside p flutter number s.sane (le_itself (2 * arrival_error p)) from to (older number from to)

  still : rate_walk p flutter ≤ℤ pos 0
  still = (first_check_stops_walk p flutter (sharp_near beside p flutter) s.sane).0 (sharp_check 1 (lit≤ tt) (lit≤ tt))

  lasts : (passed : ℕ) → WalkLastsAfter p flutter passed
  lasts passed = lasts_on p flutter passed (does_not_walk p flutter still)

  limit : LimitSuffices p (pos (precision_of p))
  limit = third_check_suffices p (older 3 (lit≤ tt) (lit≤ tt))

  -- ---- one double cycle, which is in sync in the older sense

  module _ (k : ℕ) (from : double ≤ k) (h : History) (even odd : Record) (d : IsDouble t h even odd k) where
    abbrev members : List Member
    members = traced_members p t even odd

    pub sync : IsInSync p even.rows odd.rows
    sync = at_double p t h even odd k d (synced k from (double_within t h even odd k s.trace d))

    spread : AreSpread p (pos (pi_of p)) (pos (lambda_of p)) (map (λ (node : Member). node.even) members) (map (λ (node : Member). node.odd) members)
    spread =
        let w = passes beside p t double (as_said beside p t double s) in
        let Even : List NodeRow → Type 0 = λ rows. AreSpread p (pos (pi_of p)) (pos (lambda_of p)) rows (map (λ (node : Member). node.odd) members) in
        let Odd : List NodeRow → Type 0 = λ rows. AreSpread p (pos (pi_of p)) (pos (lambda_of p)) even.rows rows in
        subst Even (sym (evens_are p t h even odd k w d)) (subst Odd (sym (odds_are p t h even odd k w d)) (sync_is_spread p even.rows odd.rows sync))

    regular : (node : Member) → Contains members node → IsRegular p node.even node.odd
    regular node here = All-contains (λ (node : Member). IsRegular p node.even node.odd) members node (members_regular p t h even odd k (passes beside p t double (as_said beside p t double s)) d) here

    acts : ActInReach p (pos (precision_of p)) (pos (last_action p)) members
    acts is_odd one other action here there first last =
        actions_stay_near p (pos (pi_of p)) (pos (lambda_of p)) (pos (precision_of p)) action is_odd one.even one.odd other.even other.odd s.sane
        (runs_of p one.even one.odd s.sane (regular one here)) (runs_of p other.even other.odd s.sane (regular other there))
        (nodes_near p (pos (pi_of p)) (pos (lambda_of p)) members one other spread here there)
        (reach_fits (pi_of p) (lambda_of p) (longest_micro p)) first (chain action (pos (last_action p)) p.correction last (key_slots_act_early p s.sane).1)
      where
        chain : (a b c : ℤ) → a ≤ℤ b → b ≤ℤ c → a ≤ℤ c
        chain a b c x y = omega (arith, ints, x, y)

    pub step_of : (passed : ℕ) → AreSharp p (starts passed) (lengths passed) (walked passed) even.rows
        → IsTracedStep beside p t even odd (starts passed) (lengths passed) (starts (suc passed)) (lengths (suc passed)) (walked passed) (walked (suc passed)) (pos (precision_of p))
    step_of passed near =
        let held = walk_is_held p flutter passed s.sane (older 2 (lit≤ tt) (lit≤ tt)) (lasts passed) in
        record {
          draws = spread_draws beside p flutter (pi_of p) (lambda_of p) passed;
          least = (from_after beside p flutter (pi_of p) (lambda_of p) passed).lengths_from;
          walks = held.0;
          from = held.1;
          takes = held.2;
          limit = limit;
          acts = acts;
          active_even = sync.active_even;
          active_odd = sync.active_odd;
          near = near;
        }

  -- ---- so many double cycles later the spreads hold

  near_after : (passed : ℕ) → (h : History) (even odd : Record) → IsDouble t h even odd (double + passed) → AreSharp p (starts passed) (lengths passed) (walked passed) even.rows
  near_after zero h even odd d =
      let same : double + 0 ≡ double = omega arith in
      let At : ℕ → Type 0 = λ k. IsDouble t h even odd k in
      let wide = first_spread_is beside p flutter (pi_of p) (lambda_of p) in
      let Beyond : ℤ → Type 0 = λ beyond. AreSharp p (starts 0) (lengths 0) beyond even.rows in
      subst Beyond (sym (walked_none p flutter))
      (
      sharp_is_wider p (pi_of p) (lambda_of p) (starts 0) (lengths 0) (pos 0) (pos 0) even.rows wide.0 wide.1 nothing
      (in_sync_is_sharp p even.rows odd.rows (sync double (le_itself double) h even odd (subst At same d)))
      )
  near_after (suc passed) [] even odd d = let counted : 0 ≡ 2 * (double + suc passed) = d.counted in absurd (omega (arith, counted))
  near_after (suc passed) (o ∷ []) even odd d = let counted : 1 ≡ 2 * (double + suc passed) = d.counted in absurd (omega (arith, counted))
  near_after (suc passed) (o ∷ e ∷ g) even odd d =
      let one : double + suc passed ≡ suc (double + passed) = omega arith in
      let At : ℕ → Type 0 = λ k. IsDouble t (o ∷ e ∷ g) even odd k in
      let here = subst At one d in
      let prior = prior_of t g e o even odd (double + passed) here in
      (
      next_stands beside p t double (as_said beside p t double s) (double + passed) (at_least double passed) (double_within t g e o (double + passed) s.trace prior) g e o prior (starts passed) (lengths passed) (starts (suc passed))
      (lengths (suc passed)) (walked passed) (walked (suc passed)) (pos (precision_of p))
      (step_of (double + passed) (at_least double passed) g e o prior passed (near_after passed g e o prior)) even odd here
      ).rows
    where
      at_least : (a b : ℕ) → a ≤ a + b
      at_least a b = omega arith

  pub reached : (rest : ℕ) → double + rest < t.doubles → IsSharplySettled beside p flutter (sharp_spread_after beside p flutter (pi_of p) (lambda_of p) rest)
      → IsRecordedInSharpSync beside p (pos 0) t.history (double + rest)
  reached rest within settled =
      let whole = s.trace.whole in
      let part : Part t.history (double + rest) = part_at t.history (double + rest) (omega (arith, whole, within)) in
      let d : IsDouble t part.earlier part.even part.odd (double + rest) = of_part t (double + rest) part in
      let late : odd_cycle (double + rest) ≡ suc (2 * (double + rest)) = omega arith in
      let both = sync (double + rest) (at_least double rest) part.earlier part.even part.odd d in
      let near = near_after rest part.earlier part.even part.odd d in
      let Starts : ℕ → Type 0 = λ n. AreSharp p n (lengths rest) (walked rest) part.even.rows in
      let Lengths : ℕ → Type 0 = λ n. AreSharp p (sharp_pi beside p flutter) n (walked rest) part.even.rows in
      let Beyond : ℤ → Type 0 = λ beyond. AreSharp p (sharp_pi beside p flutter) (sharp_lambda beside p flutter) beyond part.even.rows in
      record {
        even = part.even;
        odd = part.odd;
        has_even = even_at t part.earlier part.even part.odd (double + rest) d;
        has_odd = ap (record_at t.history) late ∙ odd_at t part.earlier part.even part.odd (double + rest) d;
        in_sync = record {
          active_even = both.active_even;
          active_odd = both.active_odd;
          rows = subst Beyond (stays_in_range p flutter rest still) (subst Lengths settled.0 (subst Starts settled.1 near));
        };
      }
    where
      at_least : (a b : ℕ) → a ≤ a + b
      at_least a b = omega arith

-- a trace that is steady from a double cycle on is so from each later one on
later_steady : (beside : Bool) (p : Values) (t : TraceView) (double later : ℕ) → double ≤ later → IsSteadyTrace beside p t double → IsSteadyTrace beside p t later
later_steady beside p t double later le s = record {
  sane = s.sane;
  trace = s.trace;
  fits = s.fits;
  none_joins = s.none_joins;
  arbitrary = s.arbitrary;
  lawful = s.lawful;
  counts = s.counts;
  lengths = s.lengths;
  changes = s.changes;
  heard = λ k from within. s.heard k (chain double later k le from) within;
}
  where
    chain : (a b c : ℕ) → a ≤ b → b ≤ c → a ≤ c
    chain a b c x y = omega (arith, x, y)

pub passing_traces_come_sharp : PassingTracesComeSharp
passing_traces_come_sharp beside p t v double rest sane trace fits none may verdict is settled within =
    let Synced : Option ℕ → Type 0 = IsSyncedFrom p t in
    let first : IsFirstSynced p t double = subst Synced is verdict.synced in
    let s = checked_traces_are_steady beside p t double double sane trace fits none may verdict.lawful (λ g gap. absurd (verdict.covered g gap)) first (le_itself double) in
    let older = λ (number : ℕ) (from : 1 ≤ number) (to : number ≤ 5). check_holds p t number verdict.covered from to in
    let keeps = checked_traces_keep_precision p t v sane trace fits verdict double is in
    let synced = λ (k : ℕ) (from : double ≤ k) (less : k < t.doubles). keeps.synced k from (short k t.doubles (length t.history) trace.whole less) in
    let check = sharp_check beside p t double s older synced in
    traces_keep_sharp_precision beside p t (double + rest) (later_steady beside p t double (double + rest) (at_least double rest) s) (check 1 (lit≤ tt) (lit≤ tt))
    (record { second = check 2 (lit≤ tt) (lit≤ tt); third = check 3 (lit≤ tt) (lit≤ tt) }) (reached beside p t double s older synced rest within settled)
  where
    le_itself : (n : ℕ) → n ≤ n
    le_itself n = omega arith

    at_least : (a b : ℕ) → a ≤ a + b
    at_least a b = omega arith

    short : (k doubles long : ℕ) → long ≡ 2 * doubles → k < doubles → suc (2 * k) < long
    short k doubles long whole less = omega (arith, whole, less)

pub passing_traces_keep_sharply : PassingTracesKeepSharply
passing_traces_keep_sharply beside p t v synced double sane trace fits none verdict is from said begins =
    let Synced : Option ℕ → Type 0 = IsSyncedFrom p t in
    let first : IsFirstSynced p t synced = subst Synced is verdict.synced in
    let s = checked_traces_are_steady true p t synced double sane trace fits none tt verdict.lawful (λ g gap. absurd (verdict.covered g gap)) first from in
    let check = λ (number : ℕ) (low : 1 ≤ number) (high : number ≤ 5).
    older_checks_suffice beside p (recorded_flutter p) number sane (le_itself (2 * arrival_error p)) low high (check_holds p t number verdict.covered low high) in
    said_traces_keep_precision beside p t double (record { steady = s; alike = said }) (check 1 (lit≤ tt) (lit≤ tt))
    (record { second = check 2 (lit≤ tt) (lit≤ tt); third = check 3 (lit≤ tt) (lit≤ tt) }) begins
  where
    le_itself : (n : ℕ) → n ≤ n
    le_itself n = omega arith
