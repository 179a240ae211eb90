-- A steady trace whose rows lie within stated numbers in a double cycle keeps to the spreads from them, and comes into sharp sync.
use Rattle.std.proofs.Common.{◌≡◌, ℕ, zero, suc, ◌+◌, ◌*◌, ◌<◌, ◌≤◌, Bool, true, Some, List, [], ◌∷◌, map, Option, ℤ, pos, ap, sym, ◌∙◌, subst, arith}
use Rattle.fr_base.specs.declared.node_row.NodeRow.{NodeRow}
use Rattle.fr_bound.specs.Checks.{holds_of}
use Rattle.fr_cluster.specs.Values.{Values}
use Rattle.fr_history.specs.History.{History, Record, record_at}
use Rattle.fr_precision.specs.Offsets.{LimitSuffices}
use Rattle.fr_precision.specs.Step.{Member}
use Rattle.fr_time.specs.Cycles.{odd_cycle}
use Rattle.fr_trace.specs.Trace.{TraceView}
use Rattle.fr_verdict.proofs.Checked.{of_part}
use Rattle.fr_verdict.proofs.Doubles.{Part, part_at}
use Rattle.fr_verdict.proofs.Recorded.{prior_of, IsDouble, even_at, odd_at}
use Rattle.fr_precision.specs.Lengths.{walked_after}
use Rattle.fr_bound.specs.SharpBounds.{last_action, precision_by, rate_walk, sharp_pi}
use Rattle.fr_precision.specs.SharpRun.{lengths_from, starts_from, WalkLastsAfter, WalkLastsUpTo}
use Rattle.fr_bound.specs.SharpSpreads.{sharply_apart_in}
use Rattle.fr_bound.specs.SharpSpreads.{IsSharplySettled}
use Rattle.fr_precision.specs.SharpSettling.{sharp_spread_after}
use Rattle.fr_precision.specs.SharpStep.{AreSharp}
use Rattle.fr_verdict.specs.SharpTraces.{recorded_flutter, IsRecordedNear, IsSteadyTrace, RecordsKeepApart, SettlesRecorded, StaysRecordedInSharpSync, TracedWayHolds, TracesSettleSharply}
use Rattle.fr_precision.proofs.BoundLemmas.{key_slots_act_early, third_check_suffices, walk_is_held, walked_none}
use Rattle.fr_precision.proofs.LastingLemmas.{earlier, first_spread_is, near_fits, nothing, settled_after, spread_draws, up_to}
use Rattle.fr_precision.proofs.SettlingLemmas.{from_after, next_starts_fit}
use Rattle.fr_precision.proofs.StepLemmas.{actions_lie_in_reach, sharp_is_wider}
use Rattle.fr_verdict.proofs.TraceAlike.{as_said, IsSteadySaid}
use Rattle.fr_verdict.proofs.TraceRows.{evens_are, members_regular, traced_members}
use Rattle.fr_verdict.proofs.TraceStep.{ends_well, next_stands, passes, skews, IsNextRecorded, IsTracedStep}

module _ (beside : Bool) (p : Values) (t : TraceView) (double : ℕ) (said : IsSteadySaid beside p t double) (start rate reach : ℕ) (way : TracedWayHolds beside p start rate reach)
    (begins : IsRecordedNear p start rate (pos 0) t.history double) where
  abbrev s : IsSteadyTrace true p t double
  s = said.steady

  abbrev flutter : ℕ
  flutter = recorded_flutter p

  abbrev starts : ℕ → ℕ
  starts passed = starts_from beside p (recorded_flutter p) start rate passed

  abbrev lengths : ℕ → ℕ
  lengths passed = lengths_from beside p (recorded_flutter p) start rate passed

  abbrev walked : ℕ → ℤ
  walked passed = walked_after p (recorded_flutter p) passed

  second : holds_of 2 p ≡ true
  second = way.second

  limit : LimitSuffices p (pos reach)
  limit = third_check_suffices p flutter reach way.third

  at_least : (a b : ℕ) → a ≤ a + b
  at_least a b = omega arith

  -- ---- one double cycle, while the walk lasts

  step_of : (k passed : ℕ) → WalkLastsAfter p flutter passed → (h : History) (even odd : Record) → IsDouble t h even odd k → IsNextRecorded p (starts passed) (lengths passed) (walked passed) even odd
      → IsTracedStep beside p t even odd (starts passed) (lengths passed) (starts (suc passed)) (lengths (suc passed)) (walked passed) (walked (suc passed)) (pos reach)
  step_of k passed before h even odd d now =
      let held = walk_is_held p flutter passed s.sane second before in
      let w = passes beside p t double said in
      let sharp : AreSharp p (starts passed) (lengths passed) (walked passed) (map (λ (node : Member). node.even) (traced_members p t even odd)) =
      subst (AreSharp p (starts passed) (lengths passed) (walked passed)) (sym (evens_are p t h even odd k w d)) now.rows in
      record {
        draws = spread_draws beside p flutter start rate passed;
        least = (from_after beside p flutter start rate passed).lengths_from;
        walks = held.0;
        from = held.1;
        takes = held.2;
        limit = limit;
        acts = λ is_odd one other action here there first last.
            actions_lie_in_reach p flutter (starts passed) (lengths passed) (walked passed) (rate_walk p flutter) (pos reach) (pos (last_action p)) action is_odd (traced_members p t even odd) one other
            (record {
              sane = s.sane;
              walks = held.0;
              suffices = limit;
              early = (key_slots_act_early p s.sane).1;
              fits = near_fits p (starts passed) (lengths passed) reach s.sane (way.fits passed);
            })
            sharp (members_regular p t h even odd k w d) here there first last;
        active_even = now.active_even;
        active_odd = now.active_odd;
        near = now.rows;
      }

  -- the records of the first are those that are found
  first_stands : (h : History) (even odd : Record) → IsDouble t h even odd double → IsNextRecorded p (starts 0) (lengths 0) (walked 0) even odd
  first_stands h even odd d =
      let late_is : odd_cycle double ≡ suc (2 * double) = omega arith in
      let early : ◌≡◌ {A = Option Record} (Some begins.even) (Some even) = sym begins.has_even ∙ even_at t h even odd double d in
      let late : ◌≡◌ {A = Option Record} (Some begins.odd) (Some odd) = sym begins.has_odd ∙ ap (record_at t.history) late_is ∙ odd_at t h even odd double d in
      let even_is : begins.even ≡ even = cc early in
      let odd_is : begins.odd ≡ odd = cc late in
      let wide = first_spread_is beside p flutter start rate in
      let Beyond : ℤ → Type 0 = λ beyond. AreSharp p (starts 0) (lengths 0) beyond begins.even.rows in
      let near = subst Beyond (sym (walked_none p flutter)) (sharp_is_wider p start rate (starts 0) (lengths 0) (pos 0) (pos 0) begins.even.rows wide.0 wide.1 nothing begins.near) in
      let Even : Record → Type 0 = λ r. IsNextRecorded p (starts 0) (lengths 0) (walked 0) r begins.odd in
      let Odd : Record → Type 0 = λ r. IsNextRecorded p (starts 0) (lengths 0) (walked 0) even r in
      subst Odd odd_is (subst Even even_is (record { active_even = begins.active_even; active_odd = begins.active_odd; rows = near }))

  stands_after : (passed : ℕ) → double + passed < t.doubles → WalkLastsUpTo p flutter passed → (h : History) (even odd : Record) → IsDouble t h even odd (double + passed)
      → IsNextRecorded p (starts passed) (lengths passed) (walked passed) even odd
  stands_after zero within before h even odd d =
      let same : double + 0 ≡ double = omega arith in
      let At : ℕ → Type 0 = λ k. IsDouble t h even odd k in
      first_stands h even odd (subst At same d)
  stands_after (suc passed) within before [] even odd d = let counted : 0 ≡ 2 * (double + suc passed) = d.counted in absurd (omega (arith, counted))
  stands_after (suc passed) within before (o ∷ []) even odd d = let counted : 1 ≡ 2 * (double + suc passed) = d.counted in absurd (omega (arith, counted))
  stands_after (suc passed) within before (o ∷ e ∷ g) even odd d =
      let one : double + suc passed ≡ suc (double + passed) = omega arith in
      let At : ℕ → Type 0 = λ k. IsDouble t (o ∷ e ∷ g) even odd k in
      let here = subst At one d in
      let prior = prior_of t g e o even odd (double + passed) here in
      let still = earlier p flutter passed before in
      let less : double + passed < t.doubles = omega (arith, within) in
      next_stands beside p t double said (double + passed) (at_least double passed) less g e o prior (starts passed) (lengths passed) (starts (suc passed)) (lengths (suc passed)) (walked passed) (walked (suc passed)) (pos reach)
      (step_of (double + passed) passed still g e o prior (stands_after passed less (up_to p flutter passed still) g e o prior)) even odd here

  -- ---- each of them

  found_at : (k : ℕ) → k < t.doubles → Part t.history k
  found_at k within = let whole = s.trace.whole in part_at t.history k (omega (arith, whole, within))

  near_at : (passed : ℕ) → double + passed < t.doubles → WalkLastsUpTo p flutter passed → IsRecordedNear p (starts passed) (lengths passed) (walked passed) t.history (double + passed)
  near_at passed within before =
      let part = found_at (double + passed) within in
      let d : IsDouble t part.earlier part.even part.odd (double + passed) = of_part t (double + passed) part in
      let late : odd_cycle (double + passed) ≡ suc (2 * (double + passed)) = omega arith in
      let now = stands_after passed within before part.earlier part.even part.odd d in
      record {
        even = part.even;
        odd = part.odd;
        has_even = even_at t part.earlier part.even part.odd (double + passed) d;
        has_odd = ap (record_at t.history) late ∙ odd_at t part.earlier part.even part.odd (double + passed) d;
        active_even = now.active_even;
        active_odd = now.active_odd;
        near = now.rows;
      }

  keeps_at : (passed : ℕ) → double + passed < t.doubles → WalkLastsAfter p flutter passed → RecordsKeepApart p t (double + passed) (sharply_apart_in p (sharp_spread_after beside p flutter start rate passed))
  keeps_at passed within before =
      let part = found_at (double + passed) within in
      let d : IsDouble t part.earlier part.even part.odd (double + passed) = of_part t (double + passed) part in
      let up = up_to p flutter passed before in
      record {
        skew =
            skews beside p t double said (double + passed) (at_least double passed) within part.earlier part.even part.odd d (starts passed) (lengths passed) (starts (suc passed)) (lengths (suc passed)) (walked passed)
            (walked (suc passed)) (pos reach)
            (step_of (double + passed) passed before part.earlier part.even part.odd d (stands_after passed within up part.earlier part.even part.odd d))
            (sharply_apart_in p (sharp_spread_after beside p flutter start rate passed)) (le_itself (sharply_apart_in p (sharp_spread_after beside p flutter start rate passed)))
            (next_starts_fit beside p flutter start rate passed);
        ends = λ later h even odd parted counted.
            let own : IsDouble t h even odd (double + passed) = record { later = later; parted = parted; counted = counted } in
            ends_well beside p t double said (double + passed) (at_least double passed) within h even odd own (starts passed) (lengths passed) (starts (suc passed)) (lengths (suc passed)) (walked passed) (walked (suc passed))
            (pos reach) (step_of (double + passed) passed before h even odd own (stands_after passed within up h even odd own));
      }
    where
      le_itself : (n : ℕ) → n ≤ n
      le_itself n = omega arith

  -- where the spreads have come to rest
  reached_at : (passed : ℕ) → double + passed < t.doubles → (rest : ℕ) → rest ≤ passed → IsSharplySettled beside p flutter (sharp_spread_after beside p flutter start rate rest)
      → StaysRecordedInSharpSync beside p t double passed
  reached_at passed within rest le settled =
      let now = settled_after beside p flutter start rate rest passed settled le in
      let Starts : ℕ → List NodeRow → Type 0 = λ n rows. AreSharp p n (lengths passed) (walked passed) rows in
      let Lengths : ℕ → List NodeRow → Type 0 = λ n rows. AreSharp p (sharp_pi beside p flutter) n (walked passed) rows in
      record {
        synced = λ before.
            let near = near_at passed within before in
            record {
              even = near.even;
              odd = near.odd;
              has_even = near.has_even;
              has_odd = near.has_odd;
              in_sync = record {
                active_even = near.active_even;
                active_odd = near.active_odd;
                rows = subst (λ (n : ℕ). Lengths n near.even.rows) now.0 (subst (λ (n : ℕ). Starts n near.even.rows) now.1 near.near);
              };
            };
        keeps = λ before.
            let Apart : ℕ → ℕ → Type 0 = λ a l. RecordsKeepApart p t (double + passed) (precision_by p a l) in
            subst (λ (n : ℕ). Apart (sharp_pi beside p flutter) n) now.0 (subst (λ (n : ℕ). Apart n (lengths passed)) now.1 (keeps_at passed within before));
      }

pub said_traces_settle : (beside : Bool) (p : Values) (t : TraceView) (start rate reach double : ℕ) → IsSteadySaid beside p t double → TracedWayHolds beside p start rate reach → IsRecordedNear p start rate (pos 0) t.history double
    → (passed : ℕ) → double + passed < t.doubles → SettlesRecorded beside p t start rate double passed
said_traces_settle beside p t start rate reach double s way begins passed within = record {
  near = near_at beside p t double s start rate reach way begins passed within;
  keeps = keeps_at beside p t double s start rate reach way begins passed within;
  reached = reached_at beside p t double s start rate reach way begins passed within;
}

pub traces_settle_sharply_lem : TracesSettleSharply
traces_settle_sharply_lem beside p t start rate reach double s = said_traces_settle beside p t start rate reach double (as_said beside p t double s)
