-- The double cycles of a lawful history, whatever frames are lost in it: their rows, what follows them where each correct node has
-- one, as in a run that no node joins, and that action points lie within a reach that takes in the numbers.
use Rattle.std.proofs.Common.{◌≡◌, ℕ, zero, suc, ◌+◌, ◌-◌, ◌*◌, ◌<◌, ◌≤◌, Bool, true, false, ℤ, pos, Option, Some, List, All, [], ◌∷◌, map, refl, ap, sym, ◌∙◌, subst, arith}
use Rattle.std.specs.Prelude.{◌≤ℤ◌, Contains, IsSome}
use Rattle.std.specs.Option.{option_map, option_map_or}
use Rattle.fr_base.specs.Within.{IsWithin}
use Rattle.fr_base.specs.declared.node_row.NodeRow.{NodeRow}
use Rattle.fr_base.specs.declared.state.State.TheVariants.{Active}
use Rattle.fr_cluster.specs.Sane.{IsSane}
use Rattle.fr_cluster.specs.Setting.{Setting, correct_nodes}
use Rattle.fr_cluster.specs.Values.{Values, amount}
use Rattle.fr_cluster.specs.declared.names.ParamName.TheVariants as name
use Rattle.fr_cluster.specs.declared.nodes.NodeSpec.{NodeSpec}
use Rattle.fr_time.specs.Cycles.{odd_cycle}
use Rattle.fr_time.specs.Position.{grid_for}
use Rattle.fr_bound.specs.Checks.{holds_of}
use Rattle.fr_bound.specs.Sync.{cycle_length_of}
use Rattle.fr_precision.specs.Instants.{gap_of, row_in}
use Rattle.fr_precision.specs.Offsets.{LimitSuffices}
use Rattle.fr_precision.specs.Placement.{IsRegular}
use Rattle.fr_precision.specs.Reception.{LeavesRoom}
use Rattle.fr_precision.specs.Rows.{Sender}
use Rattle.fr_precision.specs.Step.{Member}
use Rattle.fr_skew.specs.Spreads.{spread_at}
use Rattle.fr_history.specs.Cycles.{Cycle, Cycles, cycle_at, some_joins, told_of}
use Rattle.fr_history.specs.History.{Record, record_at, row_of}
use Rattle.fr_history.specs.Skew.{skew_at}
use Rattle.fr_history.specs.Lawful.{IsLawful}
use Rattle.fr_runs.specs.Gathered.{CycleRuns}
use Rattle.fr_runs.specs.Links.{cycle_in}
use Rattle.fr_runs.specs.Rounds.{IsDoubleOf}
use Rattle.fr_runs.proofs.Doubles.{even_length, odd_length}
use Rattle.fr_runs.proofs.Parts.{double_at, even_is, odd_is, told_at, DoubleAt}
use Rattle.fr_runs.proofs.Receivers.{no_less}
use Rattle.fr_runs.proofs.Spread.{macrotick_within, spread_within}
use Rattle.fr_runs.proofs.Standing.{told_has}
use Rattle.fr_runs.proofs.Courses.{run_two, RunTwo}
use Rattle.fr_runs.proofs.Fed.{lawful_part}
use Rattle.fr_runs.proofs.Lawful.{lawful_cycles_run}
use Rattle.fr_runs.proofs.Succeeding.{followers_stay, rows_stay}
use Rattle.fr_runs.proofs.Whole.{double_runs, prior_of}
use Rattle.fr_runs.specs.SharpHistories.{IsLawfulStatedRunFrom}
use Rattle.fr_precision.specs.Lengths.{walked_after, CanWalk, IsAboutCycle}
use Rattle.fr_bound.specs.SharpBounds.{last_action, near_by, rate_walk}
use Rattle.fr_bound.specs.SharpChecks.{RateSuffices}
use Rattle.fr_runs.specs.SharpHistories.{members_at, senders_at, BeginsActive, EachHasRow, IsInSharpSyncAt, IsStatedRunFrom, KeepsApart}
use Rattle.fr_precision.specs.SharpRun.{AllUncut, BeginSharp, IsNextDouble, WalkLastsAfter}
use Rattle.fr_precision.specs.SharpStep.{ActInReach, AreSharp, IsInSharpSync, IsSharpDouble}
use Rattle.fr_runs.specs.SteadyRuns.{row_members, AreRowsInReach, IsTimedPartFrom, IsWhole, MayHaveArbitrary}
use Rattle.fr_precision.proofs.BoundLemmas.{key_slots_act_early, walk_is_held}
use Rattle.fr_precision.proofs.LastingLemmas.{near_fits}
use Rattle.fr_precision.proofs.RateRange.{walked_suffices}
use Rattle.fr_runs.proofs.RowsSupplied.{double_is_sharp, timed_rows_from, members_regular, rates_in_limit, LawfulRows}
use Rattle.fr_promise.proofs.RunDoubles.{all_have, all_stay, ends_well, evens_are, evens_by, members_found, next_double, odds_are, odds_by, rows_lie, senders_found, AllHave}
use Rattle.fr_precision.proofs.StepLemmas.{nodes_near, reached_by}

-- a run that no node joins is a lawful one
pub lawful_run : (x : Setting) (from flutter : ℕ) (h : Cycles) → IsStatedRunFrom x from flutter h → IsLawfulStatedRunFrom x from flutter h
lawful_run x from flutter h w = record { covered = w.covered; lawful = w.lawful; whole = w.whole }

module _ (x : Setting) (from flutter : ℕ) (h : Cycles) (w : IsLawfulStatedRunFrom x from flutter h) where
  pub part : IsTimedPartFrom x from flutter h
  part = record { covered = w.covered; lawful = w.lawful; within = (let whole = w.whole in omega (arith, whole)) }

  -- a double cycle of the run, and its rows
  pub found_of : (double : ℕ) → double < x.doubles → DoubleAt h double
  found_of double within = let whole = w.whole in double_at h double (omega (arith, whole, within))

  two_of : (double : ℕ) (earlier : Cycles) (even odd : Cycle) → IsDoubleOf h double earlier even odd → CycleRuns x earlier even × RunTwo x earlier even odd
  two_of double earlier even odd d =
      let runs = double_runs x h double earlier even odd d (lawful_cycles_run x h w.lawful) in
      (runs.1.0, run_two x earlier even odd runs.1.0 runs.0 (rows_stay x earlier even double d.counted runs.1.0) (followers_stay x earlier even double d.counted runs.1.0))

  -- with what is stated, from a double cycle on
  pub rows_of : (double : ℕ) → from ≤ double → (earlier : Cycles) (even odd : Cycle) → IsDoubleOf h double earlier even odd → LawfulRows x flutter earlier even odd double
  rows_of double late earlier even odd d = timed_rows_from x from flutter h part double late earlier even odd d

  pub evens_of : (double : ℕ) (earlier : Cycles) (even odd : Cycle) → IsDoubleOf h double earlier even odd → map (λ (node : Member). node.even) (members_at x h double) ≡ even.told.rows
  evens_of double earlier even odd d =
      ap (map (λ (node : Member). node.even)) (members_found x h double earlier even odd d) ∙ evens_by x earlier even odd w.covered.sane (two_of double earlier even odd d).1.even_rows.nodes

  pub odds_of : (double : ℕ) (earlier : Cycles) (even odd : Cycle) → IsDoubleOf h double earlier even odd → map (λ (node : Member). node.odd) (members_at x h double) ≡ odd.told.rows
  odds_of double earlier even odd d =
      ap (map (λ (node : Member). node.odd)) (members_found x h double earlier even odd d) ∙ odds_by x earlier even odd w.covered.sane (two_of double earlier even odd d).1.odd_rows.nodes

  -- ---- where each correct node has a row in a double cycle

  pub have_rows : (double : ℕ) → EachHasRow x h double → (earlier : Cycles) (even odd : Cycle) → IsDoubleOf h double earlier even odd → AllHave x earlier
  have_rows double each earlier even odd d node there = sym (told_has x earlier even node (two_of double earlier even odd d).0 there) ∙ each node there earlier even odd d

  rows_there : (double : ℕ) (earlier : Cycles) (even odd : Cycle) → IsDoubleOf h double earlier even odd → AllHave x earlier → (node : NodeSpec) → Contains (correct_nodes x) node
      → IsSome (row_of even.told.rows node.id)
  rows_there double earlier even odd d all node there = told_has x earlier even node (two_of double earlier even odd d).0 there ∙ all node there

  -- as they have where none joins
  pub each_alone : some_joins x ≡ false → (double : ℕ) → EachHasRow x h double
  each_alone none double node there earlier even odd d = rows_there double earlier even odd d (all_have x earlier none) node there

  -- each has one in the next double cycle
  pub each_later : (double : ℕ) → EachHasRow x h double → EachHasRow x h (suc double)
  each_later double each node there [] even odd d = let counted : 0 ≡ 2 * suc double = d.counted in absurd (omega (arith, counted))
  each_later double each node there (o ∷ []) even odd d = let counted : 1 ≡ 2 * suc double = d.counted in absurd (omega (arith, counted))
  each_later double each node there (o ∷ e ∷ earlier) even odd d =
      let before = prior_of h double earlier e o even odd d in
      let own = lawful_part x before.later (o ∷ e ∷ earlier) (subst (IsLawful x) before.parted w.lawful) in
      rows_there (suc double) (o ∷ e ∷ earlier) even odd d (all_stay x earlier e o own.1.0 own.0 (have_rows double each earlier e o before)) node there

  -- lengths lie no further beyond their range than so
  abbrev About : ℤ → List NodeRow → Type 0
  About beyond rows = All (λ row. IsAboutCycle x.params beyond (cycle_length_of x.params row)) rows

  -- where the rate limit suffices for that, rates are within it, and so rows are regular
  pub rates_of_double : (double : ℕ) (beyond : ℤ) → from ≤ double → RateSuffices x.params beyond → About beyond (map (λ (node : Member). node.even) (members_at x h double)) → (earlier : Cycles) (even odd : Cycle)
      → IsDoubleOf h double earlier even odd → All (λ row. IsWithin x.params.rate_limit row.rate) even.told.rows
  rates_of_double double beyond late suffices about earlier even odd d =
      rates_in_limit x flutter earlier even odd double (rows_of double late earlier even odd d) beyond suffices (subst (About beyond) (evens_of double earlier even odd d) about)

  regular_with : (double : ℕ) (beyond : ℤ) → from ≤ double → double < x.doubles → RateSuffices x.params beyond → About beyond (map (λ (node : Member). node.even) (members_at x h double)) → (node : Member)
      → Contains (members_at x h double) node → IsRegular x.params node.even node.odd
  regular_with double beyond late within suffices about node here =
      let d = found_of double within in
      let Has : List Member → Type 0 = λ nodes. Contains nodes node in
      members_regular x flutter d.earlier d.even d.odd double (rows_of double late d.earlier d.even d.odd d.is) (rates_of_double double beyond late suffices about d.earlier d.even d.odd d.is) node
      (subst Has (members_found x h double d.earlier d.even d.odd d.is) here)

  -- as it does while the walk lasts
  pub regular_of : (double passed : ℕ) → from ≤ double → double < x.doubles → holds_of 2 x.params ≡ true → WalkLastsAfter x.params flutter passed
      → All (λ row. IsAboutCycle x.params (walked_after x.params flutter passed) (cycle_length_of x.params row)) (map (λ (node : Member). node.even) (members_at x h double))
      → (node : Member) → Contains (members_at x h double) node → IsRegular x.params node.even node.odd
  regular_of double passed late within second before about node here =
      regular_with double (walked_after x.params flutter passed) late within (walked_suffices x.params flutter passed w.covered.sane second before) about node here

  -- ---- what a double cycle comes to in the history

  pub spread_in : (double apart : ℕ) → from ≤ double → (earlier : Cycles) (even odd : Cycle) → IsDoubleOf h double earlier even odd
      → ((one other : Member) (macrotick : ℤ) (is_odd : Bool) → Contains (members_at x h double) one → Contains (members_at x h double) other → pos 0 ≤ℤ macrotick → macrotick ≤ℤ x.params.macros
      → IsWithin (pos apart) (gap_of x.params is_odd macrotick (row_in is_odd one.even one.odd) (row_in is_odd other.even other.odd)))
      → (macrotick : ℕ) (is_odd : Bool) → macrotick < amount x.params name.gMacroPerCycle → skew_at x.params (told_of h) (cycle_in is_odd double) macrotick ≤ℤ pos apart
  spread_in double apart late earlier even odd d near macrotick is_odd less =
      let p : Values = x.params in
      let sane : IsSane p = w.covered.sane in
      let s = rows_of double late earlier even odd d in
      let Has : Member → List Member → Type 0 = λ node nodes. Contains nodes node in
      let same = sym (members_found x h double earlier even odd d) in
      let lie =
      rows_lie x flutter earlier even odd double s (pos apart) macrotick
      (λ is_odd one other here there. near one other (pos macrotick) is_odd (subst (Has one) same here) (subst (Has other) same there) (no_less macrotick) (macrotick_within p macrotick sane less)) in
      by is_odd lie.0 lie.1
    where
      Most : ℕ → Option Record → Type 0
      Most cycle o = option_map_or (λ r. spread_at (grid_for x.params) cycle r.rows macrotick) o (pos 0) ≤ℤ pos apart

      by : (is_odd : Bool) → All (λ one. All (λ other. IsWithin (pos apart) (gap_of x.params false (pos macrotick) one other)) even.told.rows) even.told.rows
          → All (λ one. All (λ other. IsWithin (pos apart) (gap_of x.params true (pos macrotick) one other)) odd.told.rows) odd.told.rows
          → skew_at x.params (told_of h) (cycle_in is_odd double) macrotick ≤ℤ pos apart
      by false early last =
          let told : record_at (told_of h) (2 * double) ≡ Some even.told = told_at h (2 * double) ∙ ap (option_map (λ (c : Cycle). c.told)) (even_is h double earlier even odd d) in
          subst (Most (2 * double)) (sym told) (spread_within x.params (2 * double) (pos apart) even.told.rows macrotick false (even_length (2 * double) double refl) (no_less apart) early)
      by true early last =
          let told : record_at (told_of h) (suc (2 * double)) ≡ Some odd.told = told_at h (suc (2 * double)) ∙ ap (option_map (λ (c : Cycle). c.told)) (odd_is h double earlier even odd d) in
          subst (Most (suc (2 * double))) (sym told) (spread_within x.params (suc (2 * double)) (pos apart) odd.told.rows macrotick true (odd_length (2 * double) double refl) (no_less apart) last)

  pub keeps_apart_of : (double apart : ℕ) → from ≤ double → double < x.doubles → EachHasRow x h double → BeginsActive h double → AllUncut (members_at x h double)
      → ((one other : Member) (macrotick : ℤ) (is_odd : Bool) → Contains (members_at x h double) one → Contains (members_at x h double) other → pos 0 ≤ℤ macrotick → macrotick ≤ℤ x.params.macros
      → IsWithin (pos apart) (gap_of x.params is_odd macrotick (row_in is_odd one.even one.odd) (row_in is_odd other.even other.odd)))
      → KeepsApart x h double apart
  keeps_apart_of double apart late within each active uncut near =
      let f = found_of double within in
      record {
        skew = spread_in double apart late f.earlier f.even f.odd f.is near;
        ends = λ earlier even odd d.
            let both = active earlier even odd d in
            ends_well x flutter earlier even odd double (rows_of double late earlier even odd d) both.0 both.1
            (subst AllUncut (members_found x h double earlier even odd d) uncut) (have_rows double each earlier even odd d);
      }

  -- where all is heard it is a double cycle as the sharper step asks for
  pub heard_of : (beside : Bool) (double : ℕ) (beyond reach : ℤ) → from ≤ double → MayHaveArbitrary beside x → double < x.doubles → IsWhole x double → LimitSuffices x.params reach → LeavesRoom x.params reach → RateSuffices x.params beyond → BeginsActive h double
      → About beyond (map (λ (node : Member). node.even) (members_at x h double)) → ActInReach x.params reach (pos (last_action x.params)) (members_at x h double)
      → IsSharpDouble beside x.params flutter (senders_at x h double) (members_at x h double) (pos (last_action x.params))
  heard_of beside double beyond reach late may short links limit room suffices active about acts =
      let p : Values = x.params in
      let last = pos (last_action p) in
      let f = found_of double short in
      let both = active f.earlier f.even f.odd f.is in
      let same = members_found x h double f.earlier f.even f.odd f.is in
      let Acts : List Member → Type 0 = λ some. ActInReach p reach last some in
      let r : AreRowsInReach x f.earlier f.even f.odd reach = record {
        active_even = both.0;
        active_odd = both.1;
        rates = rates_of_double double beyond late suffices about f.earlier f.even f.odd f.is;
        limit = limit;
        room = room;
        acts = subst Acts same acts;
      } in
      let own = double_is_sharp x flutter f.earlier f.even f.odd double reach (rows_of double late f.earlier f.even f.odd f.is) r links beside may in
      let Nodes : List Member → Type 0 = λ some. IsSharpDouble beside p flutter (senders_at x h double) some last in
      let Senders : List Sender → Type 0 = λ some. IsSharpDouble beside p flutter some (row_members x f.earlier f.even f.odd) last in
      subst Nodes (sym same) (subst Senders (sym (senders_found x h double f.earlier f.even f.odd f.is)) own)

  -- and the next one
  pub next_of : (double : ℕ) → from ≤ double → EachHasRow x h double → BeginsActive h double → AllUncut (members_at x h double) → (earlier : Cycles) (even odd : Cycle) → IsDoubleOf h (suc double) earlier even odd
      → IsNextDouble x.params (members_at x h double) (members_at x h (suc double))
  next_of double late each active uncut [] even odd d = let counted : 0 ≡ 2 * suc double = d.counted in absurd (omega (arith, counted))
  next_of double late each active uncut (o ∷ []) even odd d = let counted : 1 ≡ 2 * suc double = d.counted in absurd (omega (arith, counted))
  next_of double late each active uncut (o ∷ e ∷ earlier) even odd d =
      let before = prior_of h double earlier e o even odd d in
      let both = active earlier e o before in
      let same = members_found x h double earlier e o before in
      let next = members_found x h (suc double) (o ∷ e ∷ earlier) even odd d in
      let t = rows_of (suc double) (omega (arith, late)) (o ∷ e ∷ earlier) even odd d in
      let own = next_double x flutter earlier e o double (rows_of double late earlier e o before) even odd t (have_rows double each earlier e o before) both.0 both.1 (subst AllUncut same uncut) (evens_are x flutter (o ∷ e ∷ earlier) even odd (suc double) t) (odds_are x flutter (o ∷ e ∷ earlier) even odd (suc double) t) in
      let First : List Member → Type 0 = λ some. IsNextDouble x.params some (members_at x h (suc double)) in
      let Second : List Member → Type 0 = λ some. IsNextDouble x.params (row_members x earlier e o) some in
      subst First (sym same) (subst Second (sym next) own)

  -- those of a later one are active as it begins
  pub active_of : (double : ℕ) (beyond : ℕ → ℤ) (starts lengths : ℕ → ℕ) → BeginsActive h double → (k : ℕ) → BeginSharp x.params beyond starts lengths (λ k. members_at x h (double + k)) k → BeginsActive h (double + k)
  active_of double beyond starts lengths active zero begin earlier even odd d =
      let At : ℕ → Type 0 = λ m. IsDoubleOf h m earlier even odd in
      let same : double + 0 ≡ double = omega arith in
      active earlier even odd (subst At same d)
  active_of double beyond starts lengths active (suc k) begin earlier even odd d =
      let Are : List NodeRow → Type 0 = λ rows. All (λ (row : NodeRow). row.state ≡ Active) rows in
      (subst Are (evens_of (double + suc k) earlier even odd d) begin.active.0, subst Are (odds_of (double + suc k) earlier even odd d) begin.active.1)

  -- and the next one follows
  pub follows_of : ((double : ℕ) → EachHasRow x h double) → (double : ℕ) (starts lengths : ℕ → ℕ) → from ≤ double → BeginsActive h double → (k : ℕ) → suc k < x.doubles - double → BeginSharp x.params (walked_after x.params flutter) starts lengths (λ k. members_at x h (double + k)) k
      → AllUncut (members_at x h (double + k)) → IsNextDouble x.params (members_at x h (double + k)) (members_at x h (double + suc k))
  follows_of each double starts lengths late active k short begin uncut =
      let one : suc (double + k) ≡ double + suc k = omega arith in
      let later : suc (double + k) < x.doubles = omega (arith, short) in
      let f = found_of (suc (double + k)) later in
      let At : ℕ → Type 0 = λ m. IsNextDouble x.params (members_at x h (double + k)) (members_at x h m) in
      subst At one (next_of (double + k) (omega (arith, late)) (each (double + k)) (active_of double (walked_after x.params flutter) starts lengths active k begin) uncut f.earlier f.even f.odd f.is)

  -- ---- where a reach takes in the numbers

  pub acting_with : (double starts lengths : ℕ) (beyond : ℤ) (reach : ℕ) → from ≤ double → double < x.doubles → CanWalk x.params flutter beyond (rate_walk x.params flutter) → RateSuffices x.params beyond
      → LimitSuffices x.params (pos reach) → near_by x.params starts lengths ≤ reach → AreSharp x.params starts lengths beyond (map (λ (node : Member). node.even) (members_at x h double))
      → ActInReach x.params (pos reach) (pos (last_action x.params)) (members_at x h double)
  acting_with double starts lengths beyond reach late short walks suffices limit fits sharp is_odd one other action here there low high =
      let p : Values = x.params in
      let sane : IsSane p = w.covered.sane in
      let regular = regular_with double beyond late short suffices sharp.about in
      reached_by p flutter starts lengths beyond (rate_walk p flutter) (pos reach) (pos (last_action p)) action is_odd one.even one.odd other.even other.odd
      (record {
        sane = sane;
        walks = walks;
        suffices = limit;
        early = (key_slots_act_early p sane).1;
        fits = near_fits p starts lengths reach sane fits;
      })
      (regular one here) (regular other there) (nodes_near p starts lengths beyond (members_at x h double) (record { sane = sane; sharp = sharp; regular = regular }) one other here there) low high

  pub acting_of : (double : ℕ) (starts lengths : ℕ → ℕ) (reach k : ℕ) → from ≤ double → holds_of 2 x.params ≡ true → LimitSuffices x.params (pos reach) → near_by x.params (starts k) (lengths k) ≤ reach → double + k < x.doubles
      → WalkLastsAfter x.params flutter k → BeginSharp x.params (walked_after x.params flutter) starts lengths (λ k. members_at x h (double + k)) k
      → ActInReach x.params (pos reach) (pos (last_action x.params)) (members_at x h (double + k))
  acting_of double starts lengths reach k late second limit fits short before begin =
      let sane : IsSane x.params = w.covered.sane in
      acting_with (double + k) (starts k) (lengths k) (walked_after x.params flutter k) reach (omega (arith, late)) short (walk_is_held x.params flutter k sane second before).0
      (walked_suffices x.params flutter k sane second before) limit fits begin.sharp

  -- ---- sharp sync

  -- the cycles of a double cycle are those that are found
  pub sync_in_of : (beside : Bool) → (double : ℕ) (beyond : ℤ) → IsInSharpSyncAt beside x.params flutter beyond h double → (earlier : Cycles) (even odd : Cycle) → IsDoubleOf h double earlier even odd
      → IsInSharpSync beside x.params flutter beyond even.told.rows odd.told.rows
  sync_in_of beside double beyond s earlier even odd d =
      let at_odd : odd_cycle double ≡ suc (2 * double) = omega arith in
      let first : Some s.even ≡ Some even = sym s.has_even ∙ even_is h double earlier even odd d in
      let second : Some s.odd ≡ Some odd = sym s.has_odd ∙ ap (cycle_at h) at_odd ∙ odd_is h double earlier even odd d in
      let same_even : s.even ≡ even = cc in
      let same_odd : s.odd ≡ odd = cc in
      let Even : Cycle → Type 0 = λ c. IsInSharpSync beside x.params flutter beyond c.told.rows odd.told.rows in
      let Odd : Cycle → Type 0 = λ c. IsInSharpSync beside x.params flutter beyond s.even.told.rows c.told.rows in
      subst Even same_even (subst Odd same_odd s.in_sync)

  pub members_in_sync : (beside : Bool) → (double : ℕ) (beyond : ℤ) → double < x.doubles → IsInSharpSyncAt beside x.params flutter beyond h double
      → IsInSharpSync beside x.params flutter beyond (map (λ (node : Member). node.even) (members_at x h double)) (map (λ (node : Member). node.odd) (members_at x h double))
  members_in_sync beside double beyond within s =
      let f = found_of double within in
      let Even : List NodeRow → Type 0 = λ rows. IsInSharpSync beside x.params flutter beyond rows (map (λ (node : Member). node.odd) (members_at x h double)) in
      let Odd : List NodeRow → Type 0 = λ rows. IsInSharpSync beside x.params flutter beyond f.even.told.rows rows in
      subst Even (sym (evens_of double f.earlier f.even f.odd f.is)) (subst Odd (sym (odds_of double f.earlier f.even f.odd f.is)) (sync_in_of beside double beyond s f.earlier f.even f.odd f.is))

  pub active_in_sync : (beside : Bool) → (double : ℕ) (beyond : ℤ)
      → IsInSharpSync beside x.params flutter beyond (map (λ (node : Member). node.even) (members_at x h double)) (map (λ (node : Member). node.odd) (members_at x h double)) → BeginsActive h double
  active_in_sync beside double beyond sync earlier even odd d =
      let Are : List NodeRow → Type 0 = λ rows. All (λ (row : NodeRow). row.state ≡ Active) rows in
      (subst Are (evens_of double earlier even odd d) sync.active_even, subst Are (odds_of double earlier even odd d) sync.active_odd)
