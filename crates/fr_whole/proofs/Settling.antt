-- A covered run that no node joins and that begins apart: each double cycle on the way lies as near as is computed.
use Rattle.std.proofs.Common.{◌≡◌, ◌⊎◌, ℕ, zero, suc, ◌*◌, ◌/◌, ◌<◌, ◌≤◌, true, false, Bool, ℤ, pos, Option, Some, None, List, [], ◌∷◌, All, length, map, filter, refl, ap, sym, ◌∙◌, subst, inl, inr, arith}
use Rattle.std.specs.Prelude.{◌≤ℤ◌, Contains}
use Rattle.std.specs.Option.{option_map, option_map_or}
use Rattle.std.proofs.lemmas.Bool.{cases_lt}
use Rattle.fr_base.specs.Within.{IsWithin}
use Rattle.fr_base.specs.declared.node_row.NodeRow.{NodeRow}
use Rattle.fr_base.specs.declared.state.State.TheVariants.{Active}
use Rattle.fr_cluster.specs.Values.{Values, amount}
use Rattle.fr_cluster.specs.Setting.{Setting, correct_nodes}
use Rattle.fr_cluster.specs.declared.join.Join.{Join}
use Rattle.fr_cluster.specs.declared.names.ParamName.TheVariants as name
use Rattle.fr_cluster.specs.declared.nodes.NodeSpec.{NodeSpec}
use Rattle.fr_time.specs.Cycles.{odd_cycle}
use Rattle.fr_time.specs.Position.{grid_for}
use Rattle.fr_bound.specs.Bounds.{longest_micro, pi_of}
use Rattle.fr_bound.specs.Settling.{next_spread, spread_after}
use Rattle.fr_bound.specs.declared.settling.Spread.{Spread}
use Rattle.fr_precision.specs.Instants.{gap_of, row_in}
use Rattle.fr_precision.specs.Step.{AreSpread}
use Rattle.fr_precision.proofs.InstantLaws.{macroticks_lie_within}
use Rattle.fr_precision.proofs.ReceiverLaws.{comes_near}
use Rattle.fr_precision.proofs.StepLaws.{spread_is_sync}
use Rattle.fr_skew.specs.Spreads.{spread_at}
use Rattle.fr_history.specs.History.{History, Record, record_at, row_for}
use Rattle.fr_history.specs.Skew.{skew_at}
use Rattle.fr_history.specs.Sync.{IsInSyncAt}
use Rattle.fr_history.specs.Cycles.{Cycle, Cycles, cycle_at, some_joins, told_of}
use Rattle.fr_history.specs.Standing.{following_nodes, follows, follows_by, has_row, has_row_by, row_nodes}
use Rattle.fr_history.specs.Unfollowed.{IsUnfollowedSyncAt, first_unfollowed_sync_of}
use Rattle.fr_history.proofs.UnfollowedSync.{first_unfollowed_sync_is, never_unfollowed_sync}
use Rattle.fr_runs.proofs.Doubles.{even_length, odd_length}
use Rattle.fr_runs.proofs.Receivers.{no_less}
use Rattle.fr_runs.proofs.Rows.{all_rows}
use Rattle.fr_runs.proofs.Spread.{RowsLie, macrotick_within, spread_within}
use Rattle.fr_runs.specs.Gathered.{CycleRuns}
use Rattle.fr_runs.specs.Rounds.{IsDoubleOf, RatesBegin}
use Rattle.fr_runs.proofs.Going.{rows_ascend}
use Rattle.fr_runs.proofs.Parts.{DoubleAt, double_at, even_is, odd_is, told_at}
use Rattle.fr_runs.proofs.Reach.{some_joins_by}
use Rattle.fr_runs.proofs.Standing.{filter_same}
use Rattle.fr_runs.proofs.Whole.{prior_of}
use Rattle.fr_runs.specs.Supplied.{IsCovered}
use Rattle.fr_runs.proofs.Covers.{coverage_suffices}
use Rattle.fr_runs.proofs.RowsDrawn.{member_at, next_spread_is, two_draw_near}
use Rattle.fr_runs.proofs.RowsHeard.{SpreadRows, row_near, row_runs}
use Rattle.fr_runs.specs.Apart.{AreRowsSpread, IsLawfulPart}
use Rattle.fr_runs.proofs.RowsRun.{next_rows, spread_rows}
use Rattle.fr_coverage.specs.Decided.{setting_of}
use Rattle.fr_promise.specs.Statement.{IsRunOf}
use Rattle.fr_promise.proofs.Stating.{files_are_covered_alone, rates_begin}
use Rattle.fr_whole.specs.Way.{BeginsWithin, FilesSettle, IsSyncedBy, RunsSettle, SettlesBy}
use Rattle.fr_whole.proofs.Numbers.{end_within, first_wide, fits, fits_twice, leaves_room, limit_suffices, shrinks, spread_wider}

-- ---- where no node joins

none_kept : {X : Type 0} (test : X → Bool) (xs : List X) → ((x : X) → Contains xs x → test x ≡ false) → filter test xs ≡ []
none_kept test xs fails = filter_same test (λ y. false) xs fails ∙ nothing xs
  where
    nothing : {Y : Type 0} (ys : List Y) → filter (λ y. false) ys ≡ []
    nothing [] = refl
    nothing (y ∷ ys) = nothing ys

no_rows : (rows : List NodeRow) → map (λ (row : NodeRow). row.node) rows ≡ [] → rows ≡ []
no_rows [] is = refl
no_rows (row ∷ rows) is = absurd (cc)

module _ (x : Setting) (none : some_joins x ≡ false) where
  joins_not : (node : NodeSpec) → Contains (correct_nodes x) node → x.join node.id ≡ None
  joins_not node there = by_join (x.join node.id) refl
    where
      by_join : (join : Option Join) → x.join node.id ≡ join → x.join node.id ≡ None
      by_join None at = at
      by_join (Some join) at = let e : false ≡ true = sym none ∙ some_joins_by x node join there at in absurd (cc)

  -- all correct nodes have rows in each cycle
  pub same_rows : (h t : Cycles) → row_nodes x h ≡ row_nodes x t
  same_rows h t =
      filter_same (λ (n : NodeSpec). has_row x h n.id) (λ (n : NodeSpec). has_row x t n.id) (correct_nodes x)
      (λ node there.
      let at = joins_not node there in
      ap (has_row_by x h node.id) at ∙ sym (ap (has_row_by x t node.id) at))

  -- and none follows
  pub no_followers : (h : Cycles) (c : Cycle) → CycleRuns x h c → c.followers ≡ []
  no_followers h c runs =
      let nobody : following_nodes x h ≡ [] = none_kept (λ (n : NodeSpec). follows x h n.id) (correct_nodes x) (λ node there. ap (follows_by x h node.id) (joins_not node there)) in
      no_rows c.followers (runs.followers.nodes ∙ ap (map (λ (n : NodeSpec). n.id)) nobody)

-- ---- a covered run that begins apart

record Begun (x : Setting) (h : Cycles) (start rate double peak : ℕ) : Type 0 where
  part : IsLawfulPart x h
  none : some_joins x ≡ false
  whole : length h ≡ 2 * x.doubles
  by : SettlesBy x.params start rate double peak
  within : double < x.doubles
  begins : BeginsWithin x.params (told_of h) start rate

next_after : (p : Values) (start rate k : ℕ) → spread_after p start rate (suc k) ≡ next_spread p (spread_after p start rate k)
unfolding spread_after
next_after p start rate k = refl

told_cycle : (h : Cycles) (n : ℕ) (c : Cycle) → cycle_at h n ≡ Some c → record_at (told_of h) n ≡ Some c.told
told_cycle h n c is = told_at h n ∙ ap (option_map (λ (d : Cycle). d.told)) is

-- the skew of a history by a record
skew_by : (p : Values) (h : History) (cycle macrotick : ℕ) (r : Record) (bound : ℤ) → record_at h cycle ≡ Some r → spread_at (grid_for p) cycle r.rows macrotick ≤ℤ bound → skew_at p h cycle macrotick ≤ℤ bound
skew_by p h cycle macrotick r bound is most =
    let Most : Option Record → Type 0 = λ o. option_map_or (λ s. spread_at (grid_for p) cycle s.rows macrotick) o (pos 0) ≤ℤ bound in
    subst Most (sym is) most

halves : (n : ℕ) → (n ≡ 2 * (n / 2)) ⊎ (n ≡ suc (2 * (n / 2)))
halves n = grind arith

module _ (x : Setting) (h : Cycles) (start rate double peak : ℕ) (w : Begun x h start rate double peak) where
  -- how far apart its clocks may lie in a double cycle
  abbrev spread_in : ℕ → Spread
  spread_in k = spread_after x.params start rate k

  abbrev Drawn : Cycle → Cycle → ℕ → Type 0
  Drawn even odd k = AreRowsSpread x even odd (pos (spread_in k).starts) (pos (spread_in k).lengths) (pos peak)

  abbrev Rows : Cycles → Cycle → Cycle → ℕ → Type 0
  Rows earlier even odd k = SpreadRows x earlier even odd k (pos (spread_in k).starts) (pos (spread_in k).lengths) (pos peak)

  rows_of : (k : ℕ) (earlier : Cycles) (even odd : Cycle) → IsDoubleOf h k earlier even odd → Drawn even odd k → Rows earlier even odd k
  rows_of k earlier even odd d drawn = spread_rows x h w.part k earlier even odd (pos (spread_in k).starts) (pos (spread_in k).lengths) (pos peak) d drawn

  drawn_by : (k : ℕ) (even odd : Cycle) → k ≤ double → All (λ (row : NodeRow). row.state ≡ Active) even.told.rows → All (λ (row : NodeRow). row.state ≡ Active) odd.told.rows
      → AreSpread x.params (pos (spread_in k).starts) (pos (spread_in k).lengths) even.told.rows odd.told.rows → Drawn even odd k
  drawn_by k even odd le active_even active_odd spread = record {
    active_even = active_even;
    active_odd = active_odd;
    limit = limit_suffices x.params peak w.by.checks;
    room = leaves_room x.params peak w.part.covered.clocks.sane w.by.checks;
    fits = fits (spread_in k).starts (spread_in k).lengths (longest_micro x.params) peak (w.by.peak_is.greatest k le);
    spread = spread;
  }

  -- ---- from the first one to the one in sync

  first_drawn : (earlier : Cycles) (even odd : Cycle) → IsDoubleOf h 0 earlier even odd → Drawn even odd 0
  first_drawn earlier even odd d =
      let p = x.params in
      let b = w.begins in
      let evens : Some b.even ≡ Some even.told = sym b.has_even ∙ told_cycle h 0 even (even_is h 0 earlier even odd d) in
      let odds : Some b.odd ≡ Some odd.told = sym b.has_odd ∙ told_cycle h 1 odd (odd_is h 0 earlier even odd d) in
      let even_same : b.even ≡ even.told = cc in
      let odd_same : b.odd ≡ odd.told = cc in
      let IsActive : Record → Type 0 = λ r. All (λ (row : NodeRow). row.state ≡ Active) r.rows in
      let wide = first_wide p start rate in
      let first : Spread = spread_in 0 in
      let spread = spread_wider p start rate first.starts first.lengths b.even.rows b.odd.rows wide.0 wide.1 b.spread in
      let Even : Record → Type 0 = λ r. AreSpread p (pos first.starts) (pos first.lengths) r.rows b.odd.rows in
      let Odd : Record → Type 0 = λ r. AreSpread p (pos first.starts) (pos first.lengths) even.told.rows r.rows in
      drawn_by 0 even odd (omega arith) (subst IsActive even_same b.active_even) (subst IsActive odd_same b.active_odd) (subst Odd odd_same (subst Even even_same spread))

  next_drawn : (k : ℕ) (earlier : Cycles) (prior_even prior_odd even odd : Cycle) → IsDoubleOf h (suc k) (prior_odd ∷ prior_even ∷ earlier) even odd → suc k ≤ double
      → Rows earlier prior_even prior_odd k → Drawn even odd (suc k)
  next_drawn k earlier prior_even prior_odd even odd d le rows =
      let p = x.params in
      let s : Spread = spread_in k in
      let next =
      next_spread_is x earlier prior_even prior_odd k (pos s.starts) (pos s.lengths) (pos peak) rows even odd (next_rows x h w.part k earlier prior_even prior_odd even odd d)
      (pos (next_spread p s).starts) (pos (next_spread p s).lengths) (same_rows x w.none (prior_odd ∷ prior_even ∷ earlier) earlier) (shrinks p s) in
      let Near : Spread → Type 0 = λ t. AreSpread p (pos t.starts) (pos t.lengths) even.told.rows odd.told.rows in
      drawn_by (suc k) even odd le next.0 next.1 (subst Near (sym (next_after p start rate k)) next.2)

  drawn_at : (k : ℕ) (earlier : Cycles) (even odd : Cycle) → IsDoubleOf h k earlier even odd → k ≤ double → Drawn even odd k
  drawn_at zero earlier even odd d le = first_drawn earlier even odd d
  drawn_at (suc k) [] even odd d le = let counted : 0 ≡ 2 * suc k = d.counted in absurd (omega (arith, counted))
  drawn_at (suc k) (c ∷ []) even odd d le = let counted : 1 ≡ 2 * suc k = d.counted in absurd (omega (arith, counted))
  drawn_at (suc k) (prior_odd ∷ prior_even ∷ earlier) even odd d le =
      let before = prior_of h k earlier prior_even prior_odd even odd d in
      next_drawn k earlier prior_even prior_odd even odd d le (rows_of k earlier prior_even prior_odd before (drawn_at k earlier prior_even prior_odd before (omega (arith, le))))

  -- ---- macroticks on the way

  two_lie : (k : ℕ) (earlier : Cycles) (even odd : Cycle) (is_odd : Bool) (macrotick : ℕ) (one other : NodeSpec) → Rows earlier even odd k → k ≤ double
      → macrotick < amount x.params name.gMacroPerCycle → Contains (row_nodes x earlier) one → Contains (row_nodes x earlier) other
      → IsWithin (pos peak)
      (
      gap_of x.params is_odd (pos macrotick) (row_in is_odd (row_for even.told.rows one.id) (row_for odd.told.rows one.id))
      (row_in is_odd (row_for even.told.rows other.id) (row_for odd.told.rows other.id))
      )
  two_lie k earlier even odd is_odd macrotick one other rows le less here there =
      let p = x.params in
      let s : Spread = spread_in k in
      let starts = pos s.starts in
      let lengths = pos s.lengths in
      let ends = pos (next_spread p s).starts in
      let reach = pos peak in
      let sane = w.part.covered.clocks.sane in
      let runs = row_runs x earlier even odd k starts lengths reach rows in
      let draw = two_draw_near x earlier even odd k starts lengths reach rows one other here there in
      let come = comes_near p starts lengths ends (pos (next_spread p s).lengths) (member_at x even odd one) (member_at x even odd other) (shrinks p s) draw in
      macroticks_lie_within p starts lengths ends reach (pos macrotick) is_odd (row_for even.told.rows one.id) (row_for odd.told.rows one.id) (row_for even.told.rows other.id) (row_for odd.told.rows other.id)
      sane (runs one here) (runs other there) (row_near x earlier even odd k starts lengths reach rows other one there here) come.starts
      (fits_twice s.starts s.lengths (longest_micro p) peak (w.by.peak_is.greatest k le)) (end_within p start rate double peak k w.by.settles w.by.peak_is le)
      (no_less macrotick) (macrotick_within p macrotick sane less)

  -- both cycles of a double cycle
  double_skews : (k : ℕ) (earlier : Cycles) (even odd : Cycle) (macrotick : ℕ) → IsDoubleOf h k earlier even odd → k ≤ double → macrotick < amount x.params name.gMacroPerCycle
      → (spread_at (grid_for x.params) (2 * k) even.told.rows macrotick ≤ℤ pos peak) × (spread_at (grid_for x.params) (suc (2 * k)) odd.told.rows macrotick ≤ℤ pos peak)
  double_skews k earlier even odd macrotick d le less =
      let p = x.params in
      let evens : List NodeRow = even.told.rows in
      let odds : List NodeRow = odd.told.rows in
      let rows = rows_of k earlier even odd d (drawn_at k earlier even odd d le) in
      let nodes = row_nodes x earlier in
      let ascend = rows_ascend x earlier w.part.covered.clocks.sane in
      let m = pos macrotick in
      let reach = pos peak in
      let lie = λ (is_odd : Bool) (one other : NodeSpec) (here : Contains nodes one) (there : Contains nodes other).
      two_lie k earlier even odd is_odd macrotick one other rows le less here there in
      let early : RowsLie p false reach evens macrotick =
      all_rows nodes evens (λ one. All (λ other. IsWithin reach (gap_of p false m one other)) evens) ascend rows.two.even_rows.nodes
      (λ one here.
      all_rows nodes evens (λ other. IsWithin reach (gap_of p false m (row_for evens one.id) other)) ascend rows.two.even_rows.nodes (λ other there. lie false one other here there)) in
      let late : RowsLie p true reach odds macrotick =
      all_rows nodes odds (λ one. All (λ other. IsWithin reach (gap_of p true m one other)) odds) ascend rows.two.odd_rows.nodes
      (λ one here.
      all_rows nodes odds (λ other. IsWithin reach (gap_of p true m (row_for odds one.id) other)) ascend rows.two.odd_rows.nodes (λ other there. lie true one other here there)) in
      let Even : ℕ → Type 0 = λ n. spread_at (grid_for p) n evens macrotick ≤ℤ reach in
      let Odd : ℕ → Type 0 = λ n. spread_at (grid_for p) (suc n) odds macrotick ≤ℤ reach in (
        subst Even d.counted (spread_within p (length earlier) reach evens macrotick false (even_length (length earlier) k d.counted) (no_less peak) early),
        subst Odd d.counted (spread_within p (suc (length earlier)) reach odds macrotick true (odd_length (length earlier) k d.counted) (no_less peak) late),
      )

  part_at : (k : ℕ) → k ≤ double → DoubleAt h k
  part_at k le =
      let whole : length h ≡ 2 * x.doubles = w.whole in
      let in_run : double < x.doubles = w.within in
      double_at h k (omega (arith, whole, in_run, le))

  skew_within : (cycle macrotick : ℕ) → cycle < 2 * suc double → macrotick < amount x.params name.gMacroPerCycle → skew_at x.params (told_of h) cycle macrotick ≤ℤ pos peak
  skew_within cycle macrotick to less =
      let p = x.params in
      let k = cycle / 2 in
      let k_to : k ≤ double = omega (arith, to) in
      let at = part_at k k_to in
      let both = double_skews k at.earlier at.even at.odd macrotick at.is k_to less in
      elim (halves cycle) [
        | inl even ↦
            let At : ℕ → Type 0 = λ n. spread_at (grid_for p) n at.even.told.rows macrotick ≤ℤ pos peak in
            skew_by p (told_of h) cycle macrotick at.even.told (pos peak) (ap (record_at (told_of h)) even ∙ told_cycle h (2 * k) at.even (even_is h k at.earlier at.even at.odd at.is)) (subst At (sym even) both.0)
        | inr odd ↦
            let At : ℕ → Type 0 = λ n. spread_at (grid_for p) n at.odd.told.rows macrotick ≤ℤ pos peak in
            skew_by p (told_of h) cycle macrotick at.odd.told (pos peak) (ap (record_at (told_of h)) odd ∙ told_cycle h (suc (2 * k)) at.odd (odd_is h k at.earlier at.even at.odd at.is)) (subst At (sym odd) both.1)
      ]

  -- ---- in sync

  unfollowed_at : IsUnfollowedSyncAt x.params h double
  unfollowed_at =
      let p = x.params in
      let at = part_at double (omega arith) in
      let drawn = drawn_at double at.earlier at.even at.odd at.is (omega arith) in
      let rows = rows_of double at.earlier at.even at.odd at.is drawn in
      let settled = w.by.settles.settled in
      let Starts : ℕ → Type 0 = λ n. AreSpread p (pos n) (pos (spread_in double).lengths) at.even.told.rows at.odd.told.rows in
      let Lengths : ℕ → Type 0 = λ n. AreSpread p (pos (pi_of p)) (pos n) at.even.told.rows at.odd.told.rows in
      let next : odd_cycle double ≡ suc (2 * double) = omega arith in
      record {
        synced = record {
          even = at.even;
          odd = at.odd;
          has_even = even_is h double at.earlier at.even at.odd at.is;
          has_odd = ap (cycle_at h) next ∙ odd_is h double at.earlier at.even at.odd at.is;
          in_sync = spread_is_sync p at.even.told.rows at.odd.told.rows drawn.active_even drawn.active_odd (subst Lengths settled.0 (subst Starts settled.1 drawn.spread));
        };
        none_early = no_followers x w.none at.earlier at.even rows.even_runs;
        none_late = no_followers x w.none (at.even ∷ at.earlier) at.odd rows.odd_runs;
      }

  in_sync_at : IsInSyncAt x.params (told_of h) double
  in_sync_at =
      let s = unfollowed_at.synced in
      record {
        even = s.even.told;
        odd = s.odd.told;
        has_even = told_cycle h (2 * double) s.even s.has_even;
        has_odd = told_cycle h (odd_cycle double) s.odd s.has_odd;
        in_sync = s.in_sync;
      }

begun : (x : Setting) (h : Cycles) (start rate double peak : ℕ) → IsCovered x → RatesBegin x → some_joins x ≡ false → IsRunOf x h
    → SettlesBy x.params start rate double peak → double < x.doubles → BeginsWithin x.params (told_of h) start rate → Begun x h start rate double peak
begun x h start rate double peak covered rates none run by within begins = record {
  part = record { covered = covered; rates = rates; lawful = run.lawful; within = (let whole = run.whole in omega (arith, whole)) };
  none = none;
  whole = run.whole;
  by = by;
  within = within;
  begins = begins;
}

pub runs_settle : RunsSettle
runs_settle x h start rate double peak covered rates none run by within begins =
    let w = begun x h start rate double peak covered rates none run by within begins in
    record {
      in_sync = in_sync_at x h start rate double peak w;
      skew = λ cycle macrotick to less. skew_within x h start rate double peak w cycle macrotick to less;
    }

-- ---- the first double cycle in sync

synced_by : (p : Values) (h : Cycles) (double : ℕ) (found : Option ℕ) → first_unfollowed_sync_of p h ≡ found → IsUnfollowedSyncAt p h double → IsSyncedBy p h double
synced_by p h double None is sync = absurd (never_unfollowed_sync p h is double sync)
synced_by p h double (Some found) is sync = record { found = found; is = is; by = no_later }
  where
    no_later : found ≤ double
    no_later = elim (cases_lt double found) [
      | inl less ↦ absurd ((first_unfollowed_sync_is p h found is).first double less sync)
      | inr other ↦ omega (arith, other)
    ]

pub files_settle : FilesSettle
files_settle p d s h start rate double peak sane fits alone none run by within begins =
    let x : Setting = setting_of p d s in
    let covered : IsCovered x = coverage_suffices x (files_are_covered_alone p d s sane alone none) in
    let rates : RatesBegin x = rates_begin p d s sane fits in
    let w = begun x h start rate double peak covered rates alone run by within begins in
    (runs_settle x h start rate double peak covered rates alone run by within begins, synced_by p h double (first_unfollowed_sync_of p h) refl (unfollowed_at x h start rate double peak w))
