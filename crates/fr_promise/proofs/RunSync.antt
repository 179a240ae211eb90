-- The double cycles of a lawful history that no node joins are as the law of many double cycles asks for, so a history in sharp
-- sync stays so.
use Rattle.std.proofs.Common.{◌≡◌, ℕ, suc, ◌+◌, ◌-◌, ◌*◌, ◌<◌, ◌≤◌, Bool, true, ℤ, pos, List, All, length, map, ap, sym, ◌∙◌, subst, lit≤, arith}
use Rattle.std.specs.Prelude.{◌+ℤ◌, ◌≤ℤ◌, Contains}
use Rattle.std.proofs.lemmas.List.Elements.{All-contains_itself}
use Rattle.fr_base.specs.Within.{IsWithin}
use Rattle.fr_base.specs.declared.node_row.NodeRow.{NodeRow}
use Rattle.fr_base.specs.declared.state.Outcome.TheVariants.{Within}
use Rattle.fr_base.specs.declared.state.State.TheVariants.{Active}
use Rattle.fr_cluster.specs.Sane.{IsSane}
use Rattle.fr_cluster.specs.Setting.{Setting}
use Rattle.fr_cluster.specs.Values.{Values}
use Rattle.fr_time.specs.Cycles.{odd_cycle}
use Rattle.fr_bound.specs.Checks.{holds_of}
use Rattle.fr_bound.specs.Sync.{cycle_length_of}
use Rattle.fr_precision.specs.Instants.{gap_of, row_in}
use Rattle.fr_precision.specs.Offsets.{LimitSuffices}
use Rattle.fr_precision.specs.Placement.{IsRegular}
use Rattle.fr_precision.specs.Reception.{LeavesRoom}
use Rattle.fr_precision.specs.Rows.{Sender}
use Rattle.fr_precision.specs.Step.{Member}
use Rattle.fr_precision.proofs.Senders.{All-along}
use Rattle.fr_history.specs.Cycles.{Cycle, Cycles, cycle_at}
use Rattle.fr_runs.specs.Rounds.{IsDoubleOf}
use Rattle.fr_runs.proofs.Parts.{cycle_within, even_is, odd_is, DoubleAt}
use Rattle.fr_runs.specs.SharpHistories.{IsLawfulStatedRunFrom}
use Rattle.fr_precision.specs.Lengths.{walked_after, CanWalk, IsAboutCycle}
use Rattle.fr_bound.specs.SharpBounds.{last_action, near_by, rate_walk, sharp_lambda, sharp_near, sharp_pi, sharp_precision}
use Rattle.fr_bound.specs.SharpChecks.{RateSuffices, SharpChecksHold}
use Rattle.fr_runs.specs.SharpHistories.{members_at, senders_at, BeginsActive, HistoriesAreSharpDoubles, HistoriesHaveMembers, HistoriesKeepSharpSync, HistoriesStepSharply, IsInSharpSyncAt, IsSteadyRunFrom, IsStatedRunFrom, KeepsApart, StaysInSharpSyncAt, EachHasRow}
use Rattle.fr_precision.specs.SharpRun.{AllUncut, AreSharpDoubles, BeginSharp, IsNextDouble, StaysInSharpSync, WalkLastsAfter}
use Rattle.fr_precision.specs.SharpStep.{ActInReach, ComeSharply, IsInSharpSync, IsSharpDouble, StaySharp}
use Rattle.fr_precision.proofs.BoundLemmas.{sharp_checks_suffice_lem, walk_is_bounded}
use Rattle.fr_precision.proofs.LastingLemmas.{sharp_sync_lasts_lem, up_to}
use Rattle.fr_precision.proofs.RateRange.{walked_suffices}
use Rattle.fr_runs.proofs.RowsSupplied.{LawfulRows}
use Rattle.fr_promise.proofs.TimedRuns.{acting_of, acting_with, active_in_sync, active_of, each_alone, evens_of, follows_of, found_of, heard_of, keeps_apart_of, lawful_run, members_in_sync, next_of, odds_of, regular_of, rows_of, sync_in_of}
use Rattle.fr_promise.proofs.RunDoubles.{senders_found}
use Rattle.fr_precision.proofs.StepLemmas.{next_is_in_sharp_sync, sharp_sync_is_kept_lem}

Active_in : List NodeRow → Type 0
Active_in rows = All (λ (row : NodeRow). row.state ≡ Active) rows

-- where any two come together, none cuts a term
pub none_cuts : (p : Values) (starts lengths : ℕ) (next : ℤ) (nodes : List Member) → ((one other : Member) → Contains nodes one → Contains nodes other → ComeSharply p starts lengths next one other)
    → AllUncut nodes
none_cuts p starts lengths next nodes come =
    All-along (Contains nodes) (λ (node : Member). (node.offset_term.outcome ≡ Within) × (node.rate_term.outcome ≡ Within)) nodes
    (λ node here. let both = come node node here here in (both.uncut, both.range.uncut)) (All-contains_itself nodes)

module _ (beside : Bool) (x : Setting) (from flutter : ℕ) (h : Cycles) (w : IsSteadyRunFrom beside x from flutter h) where
  pub timed : IsStatedRunFrom x from flutter h
  timed = record { covered = w.covered.timed; none_joins = w.none_joins; lawful = w.lawful; whole = w.whole }

  pub run : IsLawfulStatedRunFrom x from flutter h
  run = lawful_run x from flutter h timed

  -- each correct node has a row
  pub each_at : (double : ℕ) → EachHasRow x h double
  each_at = each_alone x from flutter h run w.none_joins

  -- a double cycle of the run, and its rows
  pub found_at : (double : ℕ) → double < x.doubles → DoubleAt h double
  found_at = found_of x from flutter h run

  pub rows_at : (double : ℕ) → from ≤ double → (earlier : Cycles) (even odd : Cycle) → IsDoubleOf h double earlier even odd → LawfulRows x flutter earlier even odd double
  rows_at = rows_of x from flutter h run

  pub evens_at : (double : ℕ) (earlier : Cycles) (even odd : Cycle) → IsDoubleOf h double earlier even odd → map (λ (node : Member). node.even) (members_at x h double) ≡ even.told.rows
  evens_at = evens_of x from flutter h run

  pub odds_at : (double : ℕ) (earlier : Cycles) (even odd : Cycle) → IsDoubleOf h double earlier even odd → map (λ (node : Member). node.odd) (members_at x h double) ≡ odd.told.rows
  odds_at = odds_of x from flutter h run

  -- lengths lie no further beyond their range than so
  abbrev About : ℤ → List NodeRow → Type 0
  About beyond rows = All (λ row. IsAboutCycle x.params beyond (cycle_length_of x.params row)) rows

  -- rows are regular while the walk lasts
  pub regular_at : (double passed : ℕ) → from ≤ double → double < x.doubles → holds_of 2 x.params ≡ true → WalkLastsAfter x.params flutter passed
      → All (λ row. IsAboutCycle x.params (walked_after x.params flutter passed) (cycle_length_of x.params row)) (map (λ (node : Member). node.even) (members_at x h double))
      → (node : Member) → Contains (members_at x h double) node → IsRegular x.params node.even node.odd
  regular_at = regular_of x from flutter h run

  -- what a double cycle comes to in the history
  pub keeps_apart : (double apart : ℕ) → from ≤ double → double < x.doubles → BeginsActive h double → AllUncut (members_at x h double)
      → ((one other : Member) (macrotick : ℤ) (is_odd : Bool) → Contains (members_at x h double) one → Contains (members_at x h double) other → pos 0 ≤ℤ macrotick → macrotick ≤ℤ x.params.macros
      → IsWithin (pos apart) (gap_of x.params is_odd macrotick (row_in is_odd one.even one.odd) (row_in is_odd other.even other.odd)))
      → KeepsApart x h double apart
  keeps_apart double apart late within = keeps_apart_of x from flutter h run double apart late within (each_at double)

  -- ---- one of them, and the next

  heard_with : (double : ℕ) (beyond reach : ℤ) → from ≤ double → double < x.doubles → LimitSuffices x.params reach → LeavesRoom x.params reach → RateSuffices x.params beyond → BeginsActive h double
      → About beyond (map (λ (node : Member). node.even) (members_at x h double)) → ActInReach x.params reach (pos (last_action x.params)) (members_at x h double)
      → IsSharpDouble beside x.params flutter (senders_at x h double) (members_at x h double) (pos (last_action x.params))
  heard_with double beyond reach late short = heard_of x from flutter h run beside double beyond reach late w.arbitrary short (w.covered.links double late short)

  pub next_at : (double : ℕ) → from ≤ double → BeginsActive h double → AllUncut (members_at x h double) → (earlier : Cycles) (even odd : Cycle) → IsDoubleOf h (suc double) earlier even odd
      → IsNextDouble x.params (members_at x h double) (members_at x h (suc double))
  next_at double late = next_of x from flutter h run double late (each_at double)

  -- ---- they are as the law of many double cycles asks for

  module _ (double : ℕ) (late : from ≤ double) (second : holds_of 2 x.params ≡ true) (starts lengths : ℕ → ℕ) (reach : ℤ) (limit : LimitSuffices x.params reach) (room : LeavesRoom x.params reach) (active : BeginsActive h double) where
    abbrev nodes : ℕ → List Member
    nodes k = members_at x h (double + k)

    abbrev senders : ℕ → List Sender
    senders k = senders_at x h (double + k)

    shorter : (k : ℕ) → k < x.doubles - double → double + k < x.doubles
    shorter k short = omega (arith, short)

    -- those of a later one are active as it begins
    pub active_by : (k : ℕ) → BeginSharp x.params (walked_after x.params flutter) starts lengths nodes k → BeginsActive h (double + k)
    active_by = active_of x from flutter h run double (walked_after x.params flutter) starts lengths active

    module _ (acting : (k : ℕ) → double + k < x.doubles → WalkLastsAfter x.params flutter k → BeginSharp x.params (walked_after x.params flutter) starts lengths nodes k → ActInReach x.params reach (pos (last_action x.params)) (nodes k)) where
      heard_at : (k : ℕ) → double + k < x.doubles → WalkLastsAfter x.params flutter k → BeginSharp x.params (walked_after x.params flutter) starts lengths nodes k
          → IsSharpDouble beside x.params flutter (senders k) (nodes k) (pos (last_action x.params))
      heard_at k short before begin =
          heard_with (double + k) (walked_after x.params flutter k) reach (omega (arith, late)) short limit room (walked_suffices x.params flutter k w.covered.timed.sane second before) (active_by k begin) begin.sharp.about
          (acting k short before begin)

      pub are_doubles : AreSharpDoubles beside x.params flutter (x.doubles - double) starts lengths senders nodes (pos (last_action x.params))
      are_doubles = record {
        sane = w.covered.timed.sane;
        second = second;
        heard = λ k short before begin. heard_at k (shorter k short) before begin;
        follows = λ k short before begin uncut. follows_of x from flutter h run each_at double starts lengths late active k short begin uncut;
      }

  -- ---- where a reach takes in the numbers

  pub acting_by : (double : ℕ) (starts lengths : ℕ → ℕ) (reach k : ℕ) → from ≤ double → holds_of 2 x.params ≡ true → LimitSuffices x.params (pos reach) → near_by x.params (starts k) (lengths k) ≤ reach → double + k < x.doubles
      → WalkLastsAfter x.params flutter k → BeginSharp x.params (walked_after x.params flutter) starts lengths (λ k. members_at x h (double + k)) k
      → ActInReach x.params (pos reach) (pos (last_action x.params)) (members_at x h (double + k))
  acting_by = acting_of x from flutter h run

  pub doubles_in_reach : (double : ℕ) (starts lengths : ℕ → ℕ) (reach : ℕ) → from ≤ double → holds_of 2 x.params ≡ true → LimitSuffices x.params (pos reach) → LeavesRoom x.params (pos reach)
      → ((k : ℕ) → double + k < x.doubles → near_by x.params (starts k) (lengths k) ≤ reach) → BeginsActive h double
      → AreSharpDoubles beside x.params flutter (x.doubles - double) starts lengths (λ k. senders_at x h (double + k)) (λ k. members_at x h (double + k)) (pos (last_action x.params))
  doubles_in_reach double starts lengths reach late second limit room fits active =
      are_doubles double late second starts lengths (pos reach) limit room active (λ k short before begin. acting_by double starts lengths reach k late second limit (fits k short) short before begin)

  -- ---- sharp sync

  -- the cycles of a double cycle are those that are found
  pub sync_in : (double : ℕ) (beyond : ℤ) → IsInSharpSyncAt beside x.params flutter beyond h double → (earlier : Cycles) (even odd : Cycle) → IsDoubleOf h double earlier even odd
      → IsInSharpSync beside x.params flutter beyond even.told.rows odd.told.rows
  sync_in = sync_in_of x from flutter h run beside

  pub sync_at : (double : ℕ) (beyond : ℤ) → double < x.doubles
      → IsInSharpSync beside x.params flutter beyond (map (λ (node : Member). node.even) (members_at x h double)) (map (λ (node : Member). node.odd) (members_at x h double))
      → IsInSharpSyncAt beside x.params flutter beyond h double
  sync_at double beyond within sync =
      let f = found_at double within in
      let at_odd : odd_cycle double ≡ suc (2 * double) = omega arith in
      let Even : List NodeRow → Type 0 = λ rows. IsInSharpSync beside x.params flutter beyond rows (map (λ (node : Member). node.odd) (members_at x h double)) in
      let Odd : List NodeRow → Type 0 = λ rows. IsInSharpSync beside x.params flutter beyond f.even.told.rows rows in
      record {
        even = f.even;
        odd = f.odd;
        has_even = even_is h double f.earlier f.even f.odd f.is;
        has_odd = ap (cycle_at h) at_odd ∙ odd_is h double f.earlier f.even f.odd f.is;
        in_sync = subst Odd (odds_at double f.earlier f.even f.odd f.is) (subst Even (evens_at double f.earlier f.even f.odd f.is) sync);
      }

  pub sync_of_members : (double : ℕ) (beyond : ℤ) → double < x.doubles → IsInSharpSyncAt beside x.params flutter beyond h double
      → IsInSharpSync beside x.params flutter beyond (map (λ (node : Member). node.even) (members_at x h double)) (map (λ (node : Member). node.odd) (members_at x h double))
  sync_of_members = members_in_sync x from flutter h run beside

  sync_active : (double : ℕ) (beyond : ℤ)
      → IsInSharpSync beside x.params flutter beyond (map (λ (node : Member). node.even) (members_at x h double)) (map (λ (node : Member). node.odd) (members_at x h double)) → BeginsActive h double
  sync_active = active_in_sync x from flutter h run beside

  -- what the law of many double cycles says of one, in the history
  pub stays_at : (double passed : ℕ) → from ≤ double → double + passed < x.doubles → StaysInSharpSync beside x.params flutter (λ k. members_at x h (double + k)) passed
      → StaysInSharpSyncAt beside x flutter h double passed
  stays_at double passed late within stays = record {
    synced = λ before. sync_at (double + passed) (walked_after x.params flutter passed) within (stays.sync before);
    keeps = λ before.
        keeps_apart (double + passed) (sharp_precision beside x.params flutter) (omega (arith, late)) within
        (sync_active (double + passed) (walked_after x.params flutter passed) (stays.sync (up_to x.params flutter passed before)))
        (
        none_cuts x.params (sharp_pi beside x.params flutter) (sharp_lambda beside x.params flutter) (walked_after x.params flutter (suc passed)) (members_at x h (double + passed))
        (λ one other here there. (stays.stay before one other here there).come)
        )
        (λ one other macrotick is_odd here there from to. (stays.stay before one other here there).precise macrotick is_odd from to);
  }

  pub keeps_sync : (double : ℕ) → from ≤ double → SharpChecksHold flutter (sharp_near beside x.params flutter) x.params → IsInSharpSyncAt beside x.params flutter (pos 0) h double → (passed : ℕ) → double + passed < x.doubles
      → StaysInSharpSyncAt beside x flutter h double passed
  keeps_sync double late checks sync passed within =
      let p : Values = x.params in
      let sane : IsSane p = w.covered.timed.sane in
      let near = sharp_near beside p flutter in
      let starts : ℕ → ℕ = λ k. sharp_pi beside p flutter in
      let lengths : ℕ → ℕ = λ k. sharp_lambda beside p flutter in
      let suffice = sharp_checks_suffice_lem p flutter near sane checks in
      let second : holds_of 2 p ≡ true = checks 2 (lit≤ tt) (lit≤ tt) in
      let active : BeginsActive h double = λ earlier even odd d. let own = sync_in double (pos 0) sync earlier even odd d in (own.active_even, own.active_odd) in
      let are = doubles_in_reach double starts lengths near late second suffice.0 suffice.1 (λ k short. le_itself near) active in
      let same : double ≡ double + 0 = omega arith in
      let Sync : ℕ → Type 0 = λ m.
      IsInSharpSync beside p flutter (pos 0) (map (λ (node : Member). node.even) (members_at x h m)) (map (λ (node : Member). node.odd) (members_at x h m)) in
      let first = subst Sync same (sync_of_members double (pos 0) (omega (arith, within)) sync) in
      stays_at double passed late within
      (
      sharp_sync_lasts_lem beside p flutter (x.doubles - double) (λ k. senders_at x h (double + k)) (λ k. members_at x h (double + k)) are checks first passed (omega (arith, within))
      )
    where
      le_itself : (n : ℕ) → n ≤ n
      le_itself n = omega arith

-- ---- one step

module _ (beside : Bool) (x : Setting) (from flutter : ℕ) (h : Cycles) (w : IsSteadyRunFrom beside x from flutter h) (double : ℕ) (late : from ≤ double) (beyond next : ℤ) (checks : SharpChecksHold flutter (sharp_near beside x.params flutter) x.params)
    (suffices : RateSuffices x.params beyond) (walks : RateSuffices x.params (beyond +ℤ rate_walk x.params flutter)) (some : pos 0 ≤ℤ next) (takes : (beyond +ℤ rate_walk x.params flutter) ≤ℤ next)
    (sync : IsInSharpSyncAt beside x.params flutter beyond h double) where
  abbrev near : ℕ
  near = sharp_near beside x.params flutter

  within : double < x.doubles
  within =
      let below : 2 * double < length h = cycle_within h (2 * double) sync.even sync.has_even in
      let whole : length h ≡ 2 * x.doubles = w.whole in
      omega (arith, below, whole)

  can_walk : CanWalk x.params flutter beyond (rate_walk x.params flutter)
  can_walk = record { bounds = walk_is_bounded x.params flutter w.covered.timed.sane; suffices = walks }

  own_sync : IsInSharpSync beside x.params flutter beyond (map (λ (node : Member). node.even) (members_at x h double)) (map (λ (node : Member). node.odd) (members_at x h double))
  own_sync = sync_of_members beside x from flutter h w double beyond within sync

  pub active : BeginsActive h double
  active = sync_active beside x from flutter h w double beyond own_sync

  pub heard : IsSharpDouble beside x.params flutter (senders_at x h double) (members_at x h double) (pos (last_action x.params))
  heard =
      let suffice = sharp_checks_suffice_lem x.params flutter near w.covered.timed.sane checks in
      heard_with beside x from flutter h w double beyond (pos near) late within suffice.0 suffice.1 suffices active own_sync.rows.about
      (acting_with x from flutter h (run beside x from flutter h w) double (sharp_pi beside x.params flutter) (sharp_lambda beside x.params flutter) beyond near late within can_walk suffices suffice.0 (le_itself near) own_sync.rows)
    where
      le_itself : (n : ℕ) → n ≤ n
      le_itself n = omega arith

  pub stay : (one other : Member) → Contains (members_at x h double) one → Contains (members_at x h double) other → StaySharp beside x.params flutter next one other
  stay =
      sharp_sync_is_kept_lem beside x.params flutter (senders_at x h double) (members_at x h double) beyond (rate_walk x.params flutter) next w.covered.timed.sane checks can_walk some takes own_sync heard

  pub uncut : AllUncut (members_at x h double)
  uncut =
      none_cuts x.params (sharp_pi beside x.params flutter) (sharp_lambda beside x.params flutter) next (members_at x h double) (λ one other here there. (stay one other here there).come)

  pub step_keeps_apart : KeepsApart x h double (sharp_precision beside x.params flutter)
  step_keeps_apart =
      keeps_apart beside x from flutter h w double (sharp_precision beside x.params flutter) late within active uncut
      (λ one other macrotick is_odd here there first last. (stay one other here there).precise macrotick is_odd first last)

  pub step_comes_to : suc double < x.doubles → IsInSharpSyncAt beside x.params flutter next h (suc double)
  step_comes_to later =
      let f = found_at beside x from flutter h w (suc double) later in
      let goes = next_at beside x from flutter h w double late active uncut f.earlier f.even f.odd f.is in
      let is =
      next_is_in_sharp_sync beside x.params flutter (senders_at x h double) (members_at x h double) beyond (rate_walk x.params flutter) next goes.next_even goes.next_odd w.covered.timed.sane checks can_walk some takes
      own_sync heard goes.followed in
      let Even : List NodeRow → Type 0 = λ rows. IsInSharpSync beside x.params flutter next rows (map goes.next_odd (members_at x h double)) in
      let Odd : List NodeRow → Type 0 = λ rows. IsInSharpSync beside x.params flutter next (map (λ (node : Member). node.even) (members_at x h (suc double))) rows in
      sync_at beside x from flutter h w (suc double) next later (subst Odd (sym goes.odds) (subst Even (sym goes.evens) is))

-- ---- the laws

pub histories_step_sharply : HistoriesStepSharply
histories_step_sharply beside x from flutter h double beyond next w late checks suffices walks some takes sync = (
  step_keeps_apart beside x from flutter h w double late beyond next checks suffices walks some takes sync,
  step_comes_to beside x from flutter h w double late beyond next checks suffices walks some takes sync,
)

pub histories_have_members : HistoriesHaveMembers
histories_have_members beside x from flutter h double earlier even odd w late d =
    (evens_at beside x from flutter h w double earlier even odd d, odds_at beside x from flutter h w double earlier even odd d, senders_found x h double earlier even odd d)

pub histories_are_sharp_doubles : HistoriesAreSharpDoubles
histories_are_sharp_doubles beside x from flutter h double starts lengths reach w late second limit room fits active =
    doubles_in_reach beside x from flutter h w double starts lengths reach late second limit room fits active

pub histories_keep_sharp_sync_lem : HistoriesKeepSharpSync
histories_keep_sharp_sync_lem beside x from flutter h double w late checks sync passed within = keeps_sync beside x from flutter h w double late checks sync passed within
