-- A lawful history that no node joins comes into sharp sync, from stated numbers and from sync in the older sense.
use Rattle.std.proofs.Common.{◌≡◌, ℕ, zero, suc, ◌+◌, ◌-◌, ◌*◌, ◌<◌, ◌≤◌, Bool, true, ℤ, pos, Some, List, All, [], ◌∷◌, length, map, refl, ap, sym, ◌∙◌, subst, lit≤, arith}
use Rattle.std.specs.Prelude.{◌≤ℤ◌, Contains}
use Rattle.std.proofs.lemmas.Int.{ints}
use Rattle.fr_base.specs.Within.{IsWithin}
use Rattle.fr_base.specs.declared.node_row.NodeRow.{NodeRow}
use Rattle.fr_base.specs.declared.state.State.TheVariants.{Active}
use Rattle.fr_cluster.specs.Sane.{IsSane}
use Rattle.fr_cluster.specs.Setting.{Setting}
use Rattle.fr_cluster.specs.Values.{Values}
use Rattle.fr_time.specs.Cycles.{odd_cycle}
use Rattle.fr_bound.specs.Bounds.{lambda_of, longest_micro, pi_of, precision_of}
use Rattle.fr_bound.specs.Checks.{holds_of}
use Rattle.fr_bound.specs.Sync.{IsInSync}
use Rattle.fr_precision.specs.Instants.{gap_of, row_in}
use Rattle.fr_precision.specs.Offsets.{LimitSuffices}
use Rattle.fr_precision.specs.Reception.{LeavesRoom}
use Rattle.fr_precision.specs.Step.{Member}
use Rattle.fr_precision.proofs.InstantLaws.{actions_stay_near}
use Rattle.fr_precision.proofs.OffsetLaws.{third_check_suffices}
use Rattle.fr_precision.proofs.ReceptionLaws.{room_checks_suffice}
use Rattle.fr_precision.proofs.Senders.{All-along}
use Rattle.fr_precision.proofs.StepLaws.{nodes_near, reach_fits, sync_is_spread}
use Rattle.fr_history.specs.Cycles.{Cycle, Cycles, cycle_at, told_of}
use Rattle.fr_history.specs.Laws.{row_laws}
use Rattle.fr_history.specs.Terms.{status_in}
use Rattle.fr_runs.specs.Rounds.{IsDoubleOf}
use Rattle.fr_runs.proofs.Doubles.{even_length, status_even}
use Rattle.fr_runs.proofs.Outcomes.{begun_active}
use Rattle.fr_runs.proofs.Parts.{even_is, odd_is}
use Rattle.fr_precision.specs.Lengths.{walked_after}
use Rattle.fr_sharp.specs.SettlingHistories.{BeginsSharply, HistoriesBeginActive, HistoriesKeepToSpreads, HistoriesReachSharpSync, IsOlderRun, KeepsToSpreadsAt, OlderHistoriesSettle, SettlesFromSync}
use Rattle.fr_bound.specs.SharpBounds.{last_action}
use Rattle.fr_runs.specs.SharpHistories.{members_at, senders_at, BeginsActive, IsSteadyRun, IsStatedRun, KeepsApart}
use Rattle.fr_precision.specs.SharpRun.{lengths_from, starts_from, BeginInSync, BeginSharp, BeginWithin, KeepsFromSync, KeepsToSpreads, WalkLastsAfter}
use Rattle.fr_bound.specs.SharpSpreads.{sharply_apart_in}
use Rattle.fr_precision.specs.SharpSettling.{sharp_spread_after}
use Rattle.fr_precision.specs.SharpStep.{ActInReach, AreSharp}
use Rattle.fr_precision.proofs.BoundLemmas.{key_slots_act_early, sharp_checks_suffice_lem}
use Rattle.fr_precision.proofs.LastingLemmas.{sharp_spreads_keep, stays_at_rest, up_to, AllActive}
use Rattle.fr_precision.proofs.OlderLemmas.{lasts_on, older_sync_settles}
use Rattle.fr_runs.proofs.RowsSupplied.{covered_runs_are_steady}
use Rattle.fr_promise.proofs.RunSync.{acting_by, active_by, are_doubles, doubles_in_reach, evens_at, found_at, keeps_apart, none_cuts, odds_at, regular_at, stays_at, timed}
use Rattle.fr_promise.proofs.TimedRuns.{lawful_run, rows_of}
use Rattle.fr_precision.proofs.SettlingLemmas.{older_way_fits}
use Rattle.fr_precision.proofs.StepLemmas.{runs_of}
use Rattle.fr_runs.proofs.Whole.{no_outcomes}

-- ---- the first double cycle

pub none_before : (n : ℕ) → 0 ≤ n
none_before n = omega arith

first_active : (x : Setting) (node : ℕ) → (status_in x.params (told_of []) node).state ≡ Active
first_active x node = begun_active x [] node (no_outcomes x node)

pub timed_begin_active : (x : Setting) (flutter : ℕ) (h : Cycles) → IsStatedRun x flutter h → BeginsActive h 0
timed_begin_active x flutter h w [] even odd d =
    let s = rows_of x 0 flutter h (lawful_run x 0 flutter h w) 0 (none_before 0) [] even odd d in (
      All-along (λ row. row.state ≡ (row_laws x []).state row.node) (λ row. row.state ≡ Active) even.told.rows (λ row is. is ∙ first_active x row.node) s.two.even_rows.states,
      All-along (λ row. row.state ≡ (row_laws x (even ∷ [])).state row.node) (λ row. row.state ≡ Active) odd.told.rows
          (λ row is. is ∙ status_even x (told_of []) even.told row.node (even_length 0 0 refl) ∙ first_active x row.node) s.two.odd_rows.states,
    )
timed_begin_active x flutter h w (c ∷ earlier) even odd d =
    let counted : suc (length earlier) ≡ 2 * 0 = d.counted in
    absurd (omega (arith, counted))

pub histories_begin_active : HistoriesBeginActive
histories_begin_active beside x flutter h w = timed_begin_active x flutter h (timed beside x 0 flutter h w)

-- ---- what is said of the nodes of the step, in the history

module _ (beside : Bool) (x : Setting) (flutter : ℕ) (h : Cycles) (w : IsSteadyRun beside x flutter h) (double : ℕ) (start rate : ℕ) where
  abbrev nodes : ℕ → List Member
  nodes k = members_at x h (double + k)

  members_active : (passed : ℕ) → double + passed < x.doubles → BeginsActive h (double + passed) → AllActive (nodes passed)
  members_active passed within active =
      let f = found_at beside x 0 flutter h w (double + passed) within in
      let both = active f.earlier f.even f.odd f.is in
      let Are : List NodeRow → Type 0 = λ rows. All (λ (row : NodeRow). row.state ≡ Active) rows in (
        subst Are (sym (evens_at beside x 0 flutter h w (double + passed) f.earlier f.even f.odd f.is)) both.0,
        subst Are (sym (odds_at beside x 0 flutter h w (double + passed) f.earlier f.even f.odd f.is)) both.1,
      )

  apart_at : (passed apart : ℕ) → double + passed < x.doubles
      → (BeginSharp x.params (walked_after x.params flutter) (starts_from beside x.params flutter start rate) (lengths_from beside x.params flutter start rate) nodes passed → BeginsActive h (double + passed))
      → KeepsToSpreads beside x.params flutter start rate nodes passed → WalkLastsAfter x.params flutter passed
      → ((one other : Member) (macrotick : ℤ) (is_odd : Bool) → Contains (nodes passed) one → Contains (nodes passed) other → pos 0 ≤ℤ macrotick → macrotick ≤ℤ x.params.macros
      → IsWithin (pos apart) (gap_of x.params is_odd macrotick (row_in is_odd one.even one.odd) (row_in is_odd other.even other.odd)))
      → KeepsApart x h (double + passed) apart
  apart_at passed apart within active kept before precise =
      keeps_apart beside x 0 flutter h w (double + passed) apart (none_before (double + passed)) within (active (kept.keeps.begins (up_to x.params flutter passed before)))
      (
      none_cuts x.params (starts_from beside x.params flutter start rate (suc passed)) (lengths_from beside x.params flutter start rate (suc passed)) (walked_after x.params flutter (suc passed)) (nodes passed)
      (kept.keeps.come before)
      )
      precise

  spreads_at : (passed : ℕ) → double + passed < x.doubles
      → (BeginSharp x.params (walked_after x.params flutter) (starts_from beside x.params flutter start rate) (lengths_from beside x.params flutter start rate) nodes passed → BeginsActive h (double + passed))
      → KeepsToSpreads beside x.params flutter start rate nodes passed → KeepsToSpreadsAt beside x flutter start rate h double passed
  spreads_at passed within active kept = record {
    begins = λ before even is.
        let p : Values = x.params in
        let f = found_at beside x 0 flutter h w (double + passed) within in
        let found : Some f.even ≡ Some even = sym (even_is h (double + passed) f.earlier f.even f.odd f.is) ∙ is in
        let same : f.even ≡ even = cc in
        let At : List NodeRow → Type 0 = λ rows.
        AreSharp p (starts_from beside p flutter start rate passed) (lengths_from beside p flutter start rate passed) (walked_after p flutter passed) rows in
        let Of : Cycle → Type 0 = λ c. At c.told.rows in
        subst Of same (subst At (evens_at beside x 0 flutter h w (double + passed) f.earlier f.even f.odd f.is) (kept.keeps.begins before).sharp);
    keeps = λ before. apart_at passed (sharply_apart_in x.params (sharp_spread_after beside x.params flutter start rate passed)) within active kept before (kept.precise before);
  }

-- ---- from stated numbers

module _ (beside : Bool) (x : Setting) (flutter start rate reach : ℕ) (h : Cycles) (double : ℕ) (b : BeginsSharply beside x flutter start rate reach h double) where
  sane : IsSane x.params
  sane = b.run.covered.timed.sane

  second : holds_of 2 x.params ≡ true
  second = b.checks 2 (lit≤ tt) (lit≤ tt)

  suffice : LimitSuffices x.params (pos reach) × LeavesRoom x.params (pos reach)
  suffice = sharp_checks_suffice_lem x.params flutter reach sane b.checks

  active : BeginsActive h double
  active earlier even odd d = by double refl
    where
      by : (n : ℕ) → double ≡ n → All (λ row. row.state ≡ Active) even.told.rows × All (λ row. row.state ≡ Active) odd.told.rows
      by zero is =
          let At : ℕ → Type 0 = λ m. IsDoubleOf h m earlier even odd in
          histories_begin_active beside x flutter h b.run earlier even odd (subst At is d)
      by (suc n) is = b.active (omega (arith, is)) earlier even odd d

  begin : double < x.doubles → BeginWithin beside x.params flutter start rate reach (x.doubles - double) (λ k. senders_at x h (double + k)) (λ k. members_at x h (double + k))
  begin within = record {
    doubles_are = doubles_in_reach beside x 0 flutter h b.run double (starts_from beside x.params flutter start rate) (lengths_from beside x.params flutter start rate) reach (none_before double) second suffice.0 suffice.1 b.near active;
    checks = b.checks;
    near = λ k short. b.near k (omega (arith, short));
    first =
        let same : double + 0 ≡ double = omega arith in
        let f = found_at beside x 0 flutter h b.run double within in
        let Rows : List NodeRow → Type 0 = λ rows. AreSharp x.params start rate (pos 0) rows in
        let At : ℕ → Type 0 = λ m. Rows (map (λ (node : Member). node.even) (members_at x h m)) in
        subst At (sym same)
        (subst Rows (sym (evens_at beside x 0 flutter h b.run double f.earlier f.even f.odd f.is)) (b.first f.even (even_is h double f.earlier f.even f.odd f.is)));
  }

  active_at : (k : ℕ)
      → BeginSharp x.params (walked_after x.params flutter) (starts_from beside x.params flutter start rate) (lengths_from beside x.params flutter start rate) (λ k. members_at x h (double + k)) k → BeginsActive h (double + k)
  active_at k begins =
      active_by beside x 0 flutter h b.run double (none_before double) second (starts_from beside x.params flutter start rate) (lengths_from beside x.params flutter start rate) (pos reach) suffice.0 suffice.1 active k begins

  keeps_spreads : (passed : ℕ) → double + passed < x.doubles → KeepsToSpreadsAt beside x flutter start rate h double passed
  keeps_spreads passed within =
      spreads_at beside x flutter h b.run double start rate passed within (active_at passed)
      (
      sharp_spreads_keep beside x.params flutter start rate reach (x.doubles - double) (λ k. senders_at x h (double + k)) (λ k. members_at x h (double + k)) (begin (omega (arith, within))) passed (omega (arith, within))
      )

pub histories_keep_to_spreads : HistoriesKeepToSpreads
histories_keep_to_spreads beside x flutter start rate reach h double b passed within = keeps_spreads beside x flutter start rate reach h double b passed within

pub histories_reach_sharp_sync : HistoriesReachSharpSync
histories_reach_sharp_sync beside x flutter start rate reach h double rest b settled passed le within =
    stays_at beside x 0 flutter h b.run double passed (none_before double) within
    (
    stays_at_rest beside x.params flutter start rate rest (λ k. members_at x h (double + k)) passed
    (λ begins. members_active beside x flutter h b.run double start rate passed within (active_at beside x flutter start rate reach h double b passed begins)) settled le
    (
    sharp_spreads_keep beside x.params flutter start rate reach (x.doubles - double) (λ k. senders_at x h (double + k)) (λ k. members_at x h (double + k))
    (begin beside x flutter start rate reach h double b (omega (arith, within))) passed (omega (arith, within))
    )
    )

-- ---- from sync in the older sense

module _ (beside : Bool) (x : Setting) (flutter : ℕ) (h : Cycles) (double : ℕ) (o : IsOlderRun beside x flutter h double) (within : double < x.doubles) where
  run : IsSteadyRun beside x flutter h
  run = record {
    covered = covered_runs_are_steady x 0 flutter o.covered o.flutters;
    arbitrary = o.arbitrary;
    none_joins = o.none_joins;
    lawful = o.lawful;
    whole = o.whole;
  }

  p : Values
  p = x.params

  abbrev starts : ℕ → ℕ
  starts = starts_from beside x.params flutter (pi_of x.params) (lambda_of x.params)

  abbrev lengths : ℕ → ℕ
  lengths = lengths_from beside x.params flutter (pi_of x.params) (lambda_of x.params)

  abbrev members : ℕ → List Member
  members k = members_at x h (double + k)

  -- the cycles of the double cycle in sync are those that are found
  older_sync : (earlier : Cycles) (even odd : Cycle) → IsDoubleOf h double earlier even odd → IsInSync x.params even.told.rows odd.told.rows
  older_sync earlier even odd d =
      let late : odd_cycle double ≡ suc (2 * double) = omega arith in
      let first : Some o.synced.even ≡ Some even = sym o.synced.has_even ∙ even_is h double earlier even odd d in
      let second : Some o.synced.odd ≡ Some odd = sym o.synced.has_odd ∙ ap (cycle_at h) late ∙ odd_is h double earlier even odd d in
      let same_even : o.synced.even ≡ even = cc in
      let same_odd : o.synced.odd ≡ odd = cc in
      let Even : Cycle → Type 0 = λ c. IsInSync x.params c.told.rows odd.told.rows in
      let Odd : Cycle → Type 0 = λ c. IsInSync x.params o.synced.even.told.rows c.told.rows in
      subst Even same_even (subst Odd same_odd o.synced.in_sync)

  older_active : BeginsActive h double
  older_active earlier even odd d = let sync = older_sync earlier even odd d in (sync.active_even, sync.active_odd)

  members_sync : IsInSync x.params (map (λ (node : Member). node.even) (members 0)) (map (λ (node : Member). node.odd) (members 0))
  members_sync =
      let same : double + 0 ≡ double = omega arith in
      let f = found_at beside x 0 flutter h run double within in
      let Even : List NodeRow → Type 0 = λ rows. IsInSync x.params rows (map (λ (node : Member). node.odd) (members_at x h double)) in
      let Odd : List NodeRow → Type 0 = λ rows. IsInSync x.params f.even.told.rows rows in
      let At : ℕ → Type 0 = λ m. IsInSync x.params (map (λ (node : Member). node.even) (members_at x h m)) (map (λ (node : Member). node.odd) (members_at x h m)) in
      subst At (sym same)
      (
      subst Even (sym (evens_at beside x 0 flutter h run double f.earlier f.even f.odd f.is))
      (subst Odd (sym (odds_at beside x 0 flutter h run double f.earlier f.even f.odd f.is)) (older_sync f.earlier f.even f.odd f.is))
      )

  older_second : holds_of 2 x.params ≡ true
  older_second = o.covered.checks 2 (lit≤ tt) (lit≤ tt)

  older_limit : LimitSuffices x.params (pos (precision_of x.params))
  older_limit = third_check_suffices x.params (o.covered.checks 3 (lit≤ tt) (lit≤ tt))

  older_room : LeavesRoom x.params (pos (precision_of x.params))
  older_room = room_checks_suffice x.params o.covered.sane (o.covered.checks 4 (lit≤ tt) (lit≤ tt)) (o.covered.checks 5 (lit≤ tt) (lit≤ tt))

  older_acting : (k : ℕ) → double + k < x.doubles → WalkLastsAfter x.params flutter k → BeginSharp x.params (walked_after x.params flutter) starts lengths members k
      → ActInReach x.params (pos (precision_of x.params)) (pos (last_action x.params)) (members k)
  older_acting zero short before begins is_odd one other action here there from to =
      let sane : IsSane x.params = o.covered.sane in
      let regular = regular_at beside x 0 flutter h run (double + 0) 0 (none_before (double + 0)) short older_second before begins.sharp.about in
      actions_stay_near x.params (pos (pi_of x.params)) (pos (lambda_of x.params)) (pos (precision_of x.params)) action is_odd one.even one.odd other.even other.odd sane
      (runs_of x.params one.even one.odd sane (regular one here)) (runs_of x.params other.even other.odd sane (regular other there))
      (
      nodes_near x.params (pos (pi_of x.params)) (pos (lambda_of x.params)) (members 0) one other
      (sync_is_spread x.params (map (λ (node : Member). node.even) (members 0)) (map (λ (node : Member). node.odd) (members 0)) members_sync) here there
      )
      (reach_fits (pi_of x.params) (lambda_of x.params) (longest_micro x.params)) from (chain action (pos (last_action x.params)) x.params.correction to (key_slots_act_early x.params sane).1)
    where
      chain : (a b c : ℤ) → a ≤ℤ b → b ≤ℤ c → a ≤ℤ c
      chain a b c h k = omega (arith, ints, h, k)
  older_acting (suc k) short before begins is_odd one other action here there from to =
      acting_by beside x 0 flutter h run double starts lengths (precision_of x.params) (suc k) (none_before double) older_second older_limit (older_way_fits beside x.params flutter k o.covered.sane o.little).near_fits short before begins is_odd one other action here there
      from to

  older_begin : BeginInSync beside x.params flutter (x.doubles - double) (λ k. senders_at x h (double + k)) members
  older_begin = record {
    doubles_are = are_doubles beside x 0 flutter h run double (none_before double) older_second starts lengths (pos (precision_of x.params)) older_limit older_room older_active older_acting;
    little = o.little;
    checks = o.covered.checks;
    sync = members_sync;
  }

  settles_at : (passed : ℕ) → double + passed < x.doubles → SettlesFromSync beside x flutter h double passed
  settles_at passed short =
      let kept : KeepsFromSync beside x.params flutter members passed =
      older_sync_settles beside x.params flutter (x.doubles - double) (λ k. senders_at x h (double + k)) members older_begin passed (omega (arith, short)) in
      let active = active_by beside x 0 flutter h run double (none_before double) older_second starts lengths (pos (precision_of x.params)) older_limit older_room older_active passed in
      let before = lasts_on x.params flutter passed kept.still in
      record {
        still = kept.still;
        spreads = spreads_at beside x flutter h run double (pi_of x.params) (lambda_of x.params) passed short active kept.spreads;
        older = apart_at beside x flutter h run double (pi_of x.params) (lambda_of x.params) passed (precision_of x.params) short active kept.spreads before kept.older;
        reached = λ rest le settled.
            stays_at beside x 0 flutter h run double passed (none_before double) short
            (
            stays_at_rest beside x.params flutter (pi_of x.params) (lambda_of x.params) rest members passed
            (λ begins. members_active beside x flutter h run double (pi_of x.params) (lambda_of x.params) passed short (active begins)) settled le kept.spreads
            );
      }

pub older_histories_settle : OlderHistoriesSettle
older_histories_settle beside x flutter h double o passed short = settles_at beside x flutter h double o (omega (arith, short)) passed short
