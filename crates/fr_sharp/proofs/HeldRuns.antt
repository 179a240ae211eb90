-- Where the walk is held, a lawful history that no node joins stays in sharp sync to the end of the run: its lengths stay between
-- two levels.
use Rattle.std.proofs.Common.{◌≡◌, ℕ, zero, suc, ◌+◌, ◌-◌, ◌*◌, ◌/◌, ◌<◌, ◌≤◌, Bool, true, false, ◌&&◌, ◌||◌, if◌then◌else◌, ℤ, pos, None, List, ◌++◌, length, map, All, refl, ap, sym, ◌∙◌, subst, inl, inr, ◌⊎◌, arith}
use Rattle.std.specs.Prelude.{◌↔◌, ◌+ℤ◌, ◌-ℤ◌, ◌*ℤ◌, ◌≤ℤ◌, ◌<ℤ◌, int_le, int_lt, nat_lt, Contains}
use Rattle.std.proofs.lemmas.Bool.{and_parts, cases_eq}
use Rattle.std.proofs.lemmas.Int.{ints}
use Rattle.std.proofs.lemmas.List.{length-append, length-map}
use Rattle.std.proofs.lemmas.List.Elements.{All-contains, All-contains_itself, All-map}
use Rattle.std.proofs.lemmas.List.Sorted.{length_permutation}
use Rattle.std.proofs.lemmas.Slice.Zip.{AllZip-long}
use Rattle.fr_base.specs.declared.node_row.NodeRow.{NodeRow}
use Rattle.fr_base.specs.declared.state.Outcome.TheVariants.{Within}
use Rattle.fr_cluster.specs.Sane.{IsSane}
use Rattle.fr_cluster.specs.Setting.{Setting}
use Rattle.fr_cluster.specs.Values.{Values, amount}
use Rattle.fr_cluster.specs.declared.names.ParamName.TheVariants as name
use Rattle.fr_midpoint.specs.Midpoint.{discarded}
use Rattle.fr_midpoint.specs.Receivers.{Hears}
use Rattle.fr_bound.specs.Bounds.{shortest_micro}
use Rattle.fr_bound.specs.Sync.{cycle_length_of}
use Rattle.fr_bound.specs.SharpBounds.{last_action, rate_room, rate_walk, sharp_lambda, sharp_near, sharp_pi, sharp_precision, walk_lasts}
use Rattle.fr_bound.specs.SharpChecks.{sharp_holds_of, RateSuffices, SharpChecksHold}
use Rattle.fr_precision.specs.Placement.{IsRegular}
use Rattle.fr_precision.specs.Rows.{longest_cycle, shortest_cycle, Sender}
use Rattle.fr_precision.specs.Step.{IsAmong, IsFollowed, Member}
use Rattle.fr_precision.proofs.Senders.{All-along}
use Rattle.fr_history.specs.Cycles.{Cycles}
use Rattle.fr_runs.proofs.Parts.{cycle_within}
use Rattle.fr_precision.proofs.RoundLemmas.{contains_map}
use Rattle.fr_sharp.specs.HeldHistories.{HeldHistoriesKeepSharpSync, HistoriesKeepForEver, IsHeldAt}
use Rattle.fr_promise.specs.HeldWalks.{beyond_for_ever, micros_of, oscillators_stay, sync_lasts, walk_is_held, IsHighLevel, IsLowLevel, LevelsAreThere, LevelsHold, LieBetween}
use Rattle.fr_precision.specs.Lengths.{IsAboutCycle, IsNextEven, KeepSenders}
use Rattle.fr_sharp.specs.SharpFiles.{SyncLastsOn}
use Rattle.fr_runs.specs.SharpHistories.{members_at, senders_at, IsInSharpSyncAt, IsSteadyRunFrom, KeepsApart, KeepsSharpPrecision}
use Rattle.fr_precision.specs.SharpRun.{AllUncut, IsNextDouble}
use Rattle.fr_precision.specs.SharpStep.{ComputesSharply, IsSharpDouble}
use Rattle.fr_precision.specs.Steady.{PlacesEven}
use Rattle.fr_sharp.proofs.HeldSenders.{micros_are_own, own_are_proper, own_micros, some_sender, unchanged}
use Rattle.fr_precision.proofs.OlderLemmas.{first_check_lasts_on}
use Rattle.fr_promise.proofs.RunCycles.{histories_keep_sharp_precision, keeps_by_cycle}
use Rattle.fr_promise.proofs.RunDoubles.{all_have, senders_found}
use Rattle.fr_promise.proofs.RunSync.{active, found_at, heard, next_at, rows_at, stay, step_comes_to, step_keeps_apart, sync_at, sync_of_members, uncut}
use Rattle.fr_precision.proofs.Signed.{signed_of}
use Rattle.fr_precision.proofs.StepLemmas.{among_rows, sharp_is_wider}

-- ---- numbers

-- how far beyond their range lengths may lie where the walk is held
abbrev pub less_than_micro : Values → ℤ
less_than_micro p = pos (shortest_micro p) -ℤ pos 1

-- no oscillator changes, the walk goes on, and the rate limit suffices before a walk and after it
pub record HeldNumbers (p : Values) (flutter : ℕ) : Type 0 where
  pub still : oscillators_stay p ≡ true
  pub from : pos 0 ≤ℤ less_than_micro p
  pub before : RateSuffices p (less_than_micro p)
  pub after : RateSuffices p (less_than_micro p +ℤ rate_walk p flutter)
  pub later : pos 0 ≤ℤ (less_than_micro p +ℤ rate_walk p flutter)

pub held_numbers : (p : Values) (flutter : ℕ) → IsSane p → walk_is_held p flutter ≡ true → HeldNumbers p flutter
held_numbers p flutter sane held =
    let s = signed_of p sane in
    let three = oscillators_stay p && int_lt (pos 0) (rate_walk p flutter) && int_lt (pos 3 *ℤ rate_walk p flutter) (pos (2 * shortest_micro p)) in
    let two = oscillators_stay p && int_lt (pos 0) (rate_walk p flutter) in
    let all = and_parts three (int_le (less_than_micro p +ℤ rate_walk p flutter) (pos (rate_room p))) held in
    let first = and_parts two (int_lt (pos 3 *ℤ rate_walk p flutter) (pos (2 * shortest_micro p))) all.0 in
    let both = and_parts (oscillators_stay p) (int_lt (pos 0) (rate_walk p flutter)) first.0 in
    let more = rises (rate_walk p flutter) both.1 in
    let room = fits (less_than_micro p) (rate_walk p flutter) (amount p name.pRateCorrectionOut * shortest_micro p) (2 * (amount p name.pMicroPerCycle * amount p name.xRateBound)) (none (shortest_micro p) s.qm_from) more all.1 in
    record {
      still = both.0;
      from = none (shortest_micro p) s.qm_from;
      before = room.0;
      after = room.1;
      later = room.2;
    }
  where
    rises : (walk : ℤ) → int_lt (pos 0) walk ≡ true → pos 0 <ℤ walk
    rises walk is = grind (arith, ints)

    none : (qm : ℕ) → pos 1 ≤ℤ pos qm → pos 0 ≤ℤ (pos qm -ℤ pos 1)
    none qm le = omega (arith, ints, le)

    within : (beyond walk : ℤ) (room : ℕ) → int_le (beyond +ℤ walk) (pos room) ≡ true → (beyond +ℤ walk) ≤ℤ pos room
    within beyond walk room is = grind (arith, ints)

    fits : (beyond walk : ℤ) (limit drift : ℕ) → pos 0 ≤ℤ beyond → pos 0 <ℤ walk → int_le (beyond +ℤ walk) (pos (limit - drift)) ≡ true
        → ((pos drift +ℤ beyond) ≤ℤ pos limit) × ((pos drift +ℤ (beyond +ℤ walk)) ≤ℤ pos limit) × (pos 0 ≤ℤ (beyond +ℤ walk))
    fits beyond walk limit drift from more is =
        let le = within beyond walk (limit - drift) is in
        (omega (arith, ints, from, more, le), omega (arith, ints, from, more, le), omega (arith, ints, from, more))

pub held_beyond : (p : Values) (flutter : ℕ) → walk_is_held p flutter ≡ true → beyond_for_ever p flutter ≡ less_than_micro p
held_beyond p flutter held = ap (λ b. if b then less_than_micro p else pos 0) held

never_beyond : (p : Values) (flutter : ℕ) → walk_is_held p flutter ≡ false → beyond_for_ever p flutter ≡ pos 0
never_beyond p flutter never = ap (λ b. if b then less_than_micro p else pos 0) never

pub held_lasts : (p : Values) (flutter : ℕ) → walk_is_held p flutter ≡ true → sync_lasts p flutter ≡ None
held_lasts p flutter held = ap (λ b. if b then None else walk_lasts p flutter) held

pub never_lasts : (p : Values) (flutter : ℕ) → walk_is_held p flutter ≡ false → sync_lasts p flutter ≡ walk_lasts p flutter
never_lasts p flutter never = ap (λ b. if b then None else walk_lasts p flutter) never

either : (a : Bool) → (a || true) ≡ true
either true = refl
either false = refl

as_first : (a : Bool) → a ≡ true → (a || false) ≡ true
as_first true is = refl
as_first false is = is

first_of : (a b : Bool) → b ≡ false → (a || b) ≡ true → a ≡ true
first_of true b is or = refl
first_of false b is or = absurd (let e : true ≡ false = sym or ∙ is in cc)

-- sync lasts without a number exactly where the first check holds or the walk is held
pub sync_lasts_on : SyncLastsOn
sync_lasts_on p flutter reach sane = by (walk_is_held p flutter) refl
  where
    by : (b : Bool) → walk_is_held p flutter ≡ b → (sync_lasts p flutter ≡ None) ↔ ((sharp_holds_of 1 flutter reach p || walk_is_held p flutter) ≡ true)
    by true held = (λ lasts. rw held (either (sharp_holds_of 1 flutter reach p)), λ some. held_lasts p flutter held)
    by false never =
        let first = first_check_lasts_on p flutter reach sane in (
          λ lasts. rw never (as_first (sharp_holds_of 1 flutter reach p) (first.1 (sym (never_lasts p flutter never) ∙ lasts))),
          λ some. never_lasts p flutter never ∙ first.0 (first_of (sharp_holds_of 1 flutter reach p) (walk_is_held p flutter) never some),
        )

rest : (k double : ℕ) → double ≤ k → double + (k - double) ≡ k
rest k double from = omega (arith, from)

short : (k double doubles : ℕ) → double ≤ k → k < doubles → double + (k - double) < doubles
short k double doubles from within = omega (arith, from, within)

-- ---- the crowd: what a list discards is no more than a third of the senders

no_less : (n bound : ℕ) → nat_lt n bound ≡ false → bound ≤ n
no_less n bound is = grind arith

discarded_by : (senders values further : ℕ) → values ≡ senders + further → further ≤ discarded values → (values ≡ senders) ⊎ (2 * discarded values + 1 ≤ senders) → 3 * discarded values ≤ senders
discarded_by senders values further size few keep = by (nat_lt values 3) (nat_lt values 8) refl refl
  where
    by : (none one : Bool) → nat_lt values 3 ≡ none → nat_lt values 8 ≡ one → 3 * discarded values ≤ senders
    by true one is also =
        let e : discarded values ≡ 0 = rw is refl in
        omega (arith, e)
    by false true is also =
        let e : discarded values ≡ 1 = rw (is, also) refl in
        let long = no_less values 3 is in
        split (discarded values) e long keep
      where
        split : (d : ℕ) → d ≡ 1 → 3 ≤ values → (values ≡ senders) ⊎ (2 * d + 1 ≤ senders) → 3 * d ≤ senders
        split d e long (inl same) = omega (arith, e, long, same)
        split d e long (inr less) = omega (arith, e, less)
    by false false is also =
        let e : discarded values ≡ 2 = rw (is, also) refl in
        let long = no_less values 8 also in
        omega (arith, e, long, size, few)

kept : (beside : Bool) (senders : List Sender) (values : List ℤ) → KeepSenders beside senders values values → (length values ≡ length senders) ⊎ (2 * discarded (length values) + 1 ≤ length senders)
kept false senders values (some, long, also) = inl long
kept true senders values keep = inr (twice (discarded (length values)) (length senders) keep)
  where
    twice : (d m : ℕ) → d + d + 1 ≤ m → 2 * d + 1 ≤ m
    twice d m le = omega (arith, le)

pub discarded_few : (beside : Bool) (p : Values) (flutter : ℕ) (senders : List Sender) (row : NodeRow) (values : List ℤ) → Hears Sender (λ sender value. PlacesEven p flutter sender row value) senders values
    → KeepSenders beside senders values values → 3 * discarded (length values) ≤ length senders
discarded_few beside p flutter senders row values hears keep =
    let all = length_permutation (hears.said ++ hears.further) values hears.parts in
    let parts = length-append hears.said hears.further in
    let said = AllZip-long (λ sender value. PlacesEven p flutter sender row value) senders hears.said hears.each in
    discarded_by (length senders) (length values) (length hears.further) (omega (arith, all, parts, said)) hears.few (kept beside senders values keep)

le_itself : (n : ℕ) → n ≤ n
le_itself n = omega arith

itself : (z : ℤ) → z ≤ℤ z
itself z = omega (arith, ints)

third : (n m : ℕ) → 3 * n ≤ m → n ≤ m / 3
third n m le = omega (arith, le)

thirds : (m : ℕ) → 3 * (m / 3) ≤ m
thirds m = omega arith

-- ---- rows between two levels

-- a length lies between them
Lies : Values → ℤ → ℤ → NodeRow → Type 0
Lies p low high row = (low <ℤ cycle_length_of p row) × (cycle_length_of p row <ℤ high)

-- they lie no further than a microtick beyond the range of lengths
pub record AreNearLevels (p : Values) (low high : ℤ) : Type 0 where
  pub below : low <ℤ pos (shortest_cycle p)
  pub from : (pos (shortest_cycle p) -ℤ pos (shortest_micro p)) ≤ℤ low
  pub above : pos (longest_cycle p) <ℤ high
  pub to : high ≤ℤ (pos (longest_cycle p) +ℤ pos (shortest_micro p))

about_between : (p : Values) (low high : ℤ) → AreNearLevels p low high → (row : NodeRow) → IsAboutCycle p (pos 0) (cycle_length_of p row) → Lies p low high row
unfolding Lies
about_between p low high near row about =
    let below = near.below in
    let above = near.above in
    let least = about.low in
    let most = about.high in
    step (pos (shortest_cycle p)) (pos (longest_cycle p)) low high (cycle_length_of p row) below above least most
  where
    step : (short long low high z : ℤ) → low <ℤ short → long <ℤ high → (short -ℤ pos 0) ≤ℤ z → z ≤ℤ (long +ℤ pos 0) → (low <ℤ z) × (z <ℤ high)
    step short long low high z a b c d = (omega (arith, ints, a, c), omega (arith, ints, b, d))

between_about : (p : Values) (low high : ℤ) → AreNearLevels p low high → (row : NodeRow) → Lies p low high row → IsAboutCycle p (less_than_micro p) (cycle_length_of p row)
unfolding Lies
between_about p low high near row lies =
    let from = near.from in
    let to = near.to in
    let step = by (pos (shortest_cycle p)) (pos (longest_cycle p)) (pos (shortest_micro p)) low high (cycle_length_of p row) from to lies.0 lies.1 in
    record { low = step.0; high = step.1 }
  where
    by : (short long micro low high z : ℤ) → (short -ℤ micro) ≤ℤ low → high ≤ℤ (long +ℤ micro) → low <ℤ z → z <ℤ high → ((short -ℤ (micro -ℤ pos 1)) ≤ℤ z) × (z ≤ℤ (long +ℤ (micro -ℤ pos 1)))
    by short long micro low high z a b c d = (omega (arith, ints, a, c), omega (arith, ints, b, d))

-- a node's odd cycle is as long as its even one
odd_is_even : (p : Values) (even odd : NodeRow) → oscillators_stay p ≡ true → IsRegular p even odd → cycle_length_of p odd ≡ cycle_length_of p even
odd_is_even p even odd still regular =
    let length_is = unchanged _ even.length odd.length still regular.steady in
    ap (λ (rate : ℤ). (p.micros +ℤ rate) *ℤ odd.length) regular.double.same_rate ∙ ap (λ (length : ℤ). (p.micros +ℤ even.rate) *ℤ length) length_is

-- ---- a run

module _ (beside : Bool) (x : Setting) (from flutter : ℕ) (h : Cycles) (w : IsSteadyRunFrom beside x from flutter h) (checks : SharpChecksHold flutter (sharp_near beside x.params flutter) x.params)
    (held : walk_is_held x.params flutter ≡ true) where
  abbrev evens : ℕ → List NodeRow
  evens k = map (λ (node : Member). node.even) (members_at x h k)

  numbers : HeldNumbers x.params flutter
  numbers = held_numbers x.params flutter w.covered.timed.sane held

  -- the microticks of the senders, and that there is one
  micros_at : (k : ℕ) → from ≤ k → k < x.doubles → micros_of (senders_at x h k) ≡ own_micros x from
  micros_at k late within =
      let f = found_at beside x from flutter h w k within in
      ap micros_of (senders_found x h k f.earlier f.even f.odd f.is)
      ∙ micros_are_own x from flutter f.earlier f.even f.odd k w.covered.timed late (rows_at beside x from flutter h w k late f.earlier f.even f.odd f.is) (all_have x f.earlier w.none_joins) numbers.still

  some_at : (k : ℕ) → from ≤ k → k < x.doubles → 1 ≤ length (senders_at x h k)
  some_at k late within =
      let f = found_at beside x from flutter h w k within in
      let Some_in : List Sender → Type 0 = λ senders. 1 ≤ length senders in
      subst Some_in (sym (senders_found x h k f.earlier f.even f.odd f.is))
      (some_sender x from flutter f.earlier f.even f.odd k w.covered.timed late (rows_at beside x from flutter h w k late f.earlier f.even f.odd f.is) (all_have x f.earlier w.none_joins) numbers.still)

  counted_at : (k : ℕ) → from ≤ k → k < x.doubles → length (senders_at x h k) ≡ length (own_micros x from)
  counted_at k late within = sym (length-map (senders_at x h k) (λ (sender : Sender). sender.even.length)) ∙ ap (λ (micros : List ℤ). length micros) (micros_at k late within)

  abbrev crowd : ℕ
  crowd = length (own_micros x from) / 3

  -- ---- from one double cycle to the next

  module _ (hold : LevelsHold) (low high : ℤ) (lows : IsLowLevel x.params flutter crowd (own_micros x from) low) (highs : IsHighLevel x.params flutter crowd (own_micros x from) high) where
    near : AreNearLevels x.params low high
    near = record { below = lows.below; from = lows.near; above = highs.above; to = highs.near }

    module _ (k : ℕ) (late : from ≤ k) (within : k < x.doubles) (sync : IsInSharpSyncAt beside x.params flutter (less_than_micro x.params) h k) (between : LieBetween x.params low high (map (λ (node : Member). node.even) (members_at x h k))) where
      abbrev nodes : List Member
      nodes = members_at x h k

      abbrev senders : List Sender
      senders = senders_at x h k

      abbrev next : ℤ
      next = less_than_micro x.params +ℤ rate_walk x.params flutter

      heard_here : IsSharpDouble beside x.params flutter senders nodes (pos (last_action x.params))
      heard_here = heard beside x from flutter h w k late (less_than_micro x.params) next checks numbers.before numbers.after numbers.later (itself next) sync

      stay_here : (node : Member) → Contains nodes node → node.rate_term.outcome ≡ Within
      stay_here node here =
          (stay beside x from flutter h w k late (less_than_micro x.params) next checks numbers.before numbers.after numbers.later (itself next) sync node node here here).come.range.uncut

      uncut_here : AllUncut nodes
      uncut_here = uncut beside x from flutter h w k late (less_than_micro x.params) next checks numbers.before numbers.after numbers.later (itself next) sync

      pub keeps_here : KeepsApart x h k (sharp_precision beside x.params flutter)
      keeps_here = step_keeps_apart beside x from flutter h w k late (less_than_micro x.params) next checks numbers.before numbers.after numbers.later (itself next) sync

      node_lies : (node : Member) → Contains nodes node → Lies x.params low high node.even
      unfolding Lies
      node_lies node here =
          let even : Member → NodeRow = λ node. node.even in
          All-contains (λ (row : NodeRow). (low <ℤ cycle_length_of x.params row) × (cycle_length_of x.params row <ℤ high)) (map even nodes) node.even between (contains_map even nodes node here)

      senders_lie : LieBetween x.params low high (map (λ (sender : Sender). sender.even) senders)
      unfolding Lies
      senders_lie =
          All-map (λ (row : NodeRow). (low <ℤ cycle_length_of x.params row) × (cycle_length_of x.params row <ℤ high)) (λ (sender : Sender). sender.even) senders
          (
          All-along (IsAmong nodes) (λ (sender : Sender). (low <ℤ cycle_length_of x.params sender.even) × (cycle_length_of x.params sender.even <ℤ high)) senders
          (λ sender among. among_rows (λ even odd. Lies x.params low high even) nodes sender among node_lies) heard_here.among
          )

      crowd_holds : (node : Member) → Contains nodes node → discarded (length node.rates) ≤ crowd
      crowd_holds node here =
          let c = All-contains (ComputesSharply x.params flutter senders) nodes node heard_here.computes here in
          let few = discarded_few beside x.params flutter senders node.odd node.rates c.by_rate.hears (heard_here.keep node node here here).1 in
          let counted = counted_at k late within in
          third (discarded (length node.rates)) (length (own_micros x from)) (subst (λ (m : ℕ). 3 * discarded (length node.rates) ≤ m) counted few)

      -- the next even row of a node
      follows : (node : Member) (even odd : NodeRow) → Contains nodes node → IsFollowed x.params node even odd → Lies x.params low high even
      unfolding Lies
      follows node even odd here followed =
          let p : Values = x.params in
          let c = All-contains (ComputesSharply p flutter senders) nodes node heard_here.computes here in
          let own = node_lies node here in
          let same = sym (odd_is_even p node.even node.odd numbers.still c.regular) in
          let micros = sym (micros_at k late within) in
          let after : IsNextEven p node.odd node.rate_term even = record {
            rate = followed.next.even_rate;
            micro = followed.next.even_micro;
            steady = followed.next.even_steady;
          } in
          hold p flutter crowd senders low high node.odd node.rates node.rate_term even w.covered.timed.sane held
          (subst (λ (some : List ℤ). All (λ (micro : ℤ). pos (shortest_micro p) ≤ℤ micro) some) micros (own_are_proper x from flutter w.covered.timed (omega (arith, late, within))))
          (subst (λ (some : List ℤ). IsLowLevel p flutter crowd some low) micros lows)
          (subst (λ (some : List ℤ). IsHighLevel p flutter crowd some high) micros highs) senders_lie (subst (λ (z : ℤ). low <ℤ z) same own.0) (subst (λ (z : ℤ). z <ℤ high) same own.1)
          (crowd_holds node here) c.by_rate (stay_here node here) after

      module _ (later : suc k < x.doubles) where
        next_here : IsNextDouble x.params nodes (members_at x h (suc k))
        next_here =
            let f = found_at beside x from flutter h w (suc k) later in
            next_at beside x from flutter h w k late (active beside x from flutter h w k late (less_than_micro x.params) next checks numbers.before numbers.after numbers.later (itself next) sync) uncut_here f.earlier f.even f.odd f.is

        pub next_between : LieBetween x.params low high (map (λ (node : Member). node.even) (members_at x h (suc k)))
        unfolding Lies
        next_between =
            let goes = next_here in
            let Followed : Member → Type 0 = λ node. IsFollowed x.params node (goes.next_even node) (goes.next_odd node) in
            subst (LieBetween x.params low high) (sym goes.evens)
            (
            All-map (λ (row : NodeRow). (low <ℤ cycle_length_of x.params row) × (cycle_length_of x.params row <ℤ high)) goes.next_even nodes
            (
            All-along (Contains nodes) (λ (node : Member). (low <ℤ cycle_length_of x.params (goes.next_even node)) × (cycle_length_of x.params (goes.next_even node) <ℤ high)) nodes
            (λ node here. follows node (goes.next_even node) (goes.next_odd node) here (All-contains Followed nodes node goes.followed here)) (All-contains_itself nodes)
            )
            )

        about_next : All (λ row. IsAboutCycle x.params (less_than_micro x.params) (cycle_length_of x.params row)) (evens (suc k))
        unfolding Lies
        about_next =
            All-along (λ (row : NodeRow). (low <ℤ cycle_length_of x.params row) × (cycle_length_of x.params row <ℤ high))
            (λ (row : NodeRow). IsAboutCycle x.params (less_than_micro x.params) (cycle_length_of x.params row)) (evens (suc k)) (λ row lies. between_about x.params low high near row lies) next_between

        pub next_sync : IsInSharpSyncAt beside x.params flutter (less_than_micro x.params) h (suc k)
        next_sync =
            let reached = step_comes_to beside x from flutter h w k late (less_than_micro x.params) next checks numbers.before numbers.after numbers.later (itself next) sync later in
            let own = sync_of_members beside x from flutter h w (suc k) next later reached in
            sync_at beside x from flutter h w (suc k) (less_than_micro x.params) later
            (record {
              active_even = own.active_even;
              active_odd = own.active_odd;
              rows = record { starts_lie = own.rows.starts_lie; lengths_lie = own.rows.lengths_lie; about = about_next };
            })

    -- ---- from the first on

    module _ (double : ℕ) (late : from ≤ double) (first : IsInSharpSyncAt beside x.params flutter (pos 0) h double) where
      first_between : double < x.doubles → LieBetween x.params low high (evens double)
      unfolding Lies
      first_between within =
          All-along (λ (row : NodeRow). IsAboutCycle x.params (pos 0) (cycle_length_of x.params row)) (λ (row : NodeRow). (low <ℤ cycle_length_of x.params row) × (cycle_length_of x.params row <ℤ high)) (evens double)
          (λ row about. about_between x.params low high near row about) (sync_of_members beside x from flutter h w double (pos 0) within first).rows.about

      first_sync : double < x.doubles → IsInSharpSyncAt beside x.params flutter (less_than_micro x.params) h double
      first_sync within =
          let p : Values = x.params in
          let own = sync_of_members beside x from flutter h w double (pos 0) within first in
          sync_at beside x from flutter h w double (less_than_micro p) within
          (record {
            active_even = own.active_even;
            active_odd = own.active_odd;
            rows =
                sharp_is_wider p (sharp_pi beside p flutter) (sharp_lambda beside p flutter) (sharp_pi beside p flutter) (sharp_lambda beside p flutter) (pos 0) (less_than_micro p) (evens double)
                (le_itself (sharp_pi beside p flutter)) (le_itself (sharp_lambda beside p flutter)) numbers.from own.rows;
          })

      pub state_after : (passed : ℕ) → double + passed < x.doubles → IsInSharpSyncAt beside x.params flutter (less_than_micro x.params) h (double + passed) × LieBetween x.params low high (evens (double + passed))
      state_after zero within =
          let same : double ≡ double + 0 = omega arith in
          let State : ℕ → Type 0 = λ m. IsInSharpSyncAt beside x.params flutter (less_than_micro x.params) h m × LieBetween x.params low high (map (λ (node : Member). node.even) (members_at x h m)) in
          let first_within : double < x.doubles = omega (arith, within) in
          subst State same (first_sync first_within, first_between first_within)
      state_after (suc passed) within =
          let one : suc (double + passed) ≡ double + suc passed = omega arith in
          let State : ℕ → Type 0 = λ m. IsInSharpSyncAt beside x.params flutter (less_than_micro x.params) h m × LieBetween x.params low high (map (λ (node : Member). node.even) (members_at x h m)) in
          let now : double + passed < x.doubles = omega (arith, within) in
          let later : suc (double + passed) < x.doubles = omega (arith, within) in
          let state = state_after passed now in
          subst State one (next_sync (double + passed) (omega (arith, late)) now state.0 state.1 later, next_between (double + passed) (omega (arith, late)) now state.0 state.1 later)

      pub held_after : (passed : ℕ) → double + passed < x.doubles → IsHeldAt beside x flutter h (double + passed)
      held_after passed within =
          let state = state_after passed within in
          let In : ℤ → Type 0 = λ beyond. IsInSharpSyncAt beside x.params flutter beyond h (double + passed) in
          record { synced = subst In (sym (held_beyond x.params flutter held)) state.0; keeps = keeps_here (double + passed) (omega (arith, late)) within state.0 state.1 }

-- ---- the laws

within_run : (beside : Bool) (x : Setting) (from flutter : ℕ) (h : Cycles) (double : ℕ) (beyond : ℤ) → IsSteadyRunFrom beside x from flutter h → IsInSharpSyncAt beside x.params flutter beyond h double → double < x.doubles
within_run beside x from flutter h double beyond w sync =
    let below : 2 * double < length h = cycle_within h (2 * double) sync.even sync.has_even in
    let whole : length h ≡ 2 * x.doubles = w.whole in
    omega (arith, below, whole)

pub held_histories_lem : LevelsAreThere → LevelsHold → HeldHistoriesKeepSharpSync
held_histories_lem there hold beside x from flutter h double w late checks held sync passed within =
    let p : Values = x.params in
    let first = within_run beside x from flutter h double (pos 0) w sync in
    let some = subst (λ (m : ℕ). 1 ≤ m) (counted_at beside x from flutter h w checks held double late first) (some_at beside x from flutter h w checks held double late first) in
    let levels = there p flutter (length (own_micros x from) / 3) (own_micros x from) w.covered.timed.sane held some (thirds (length (own_micros x from))) (own_are_proper x from flutter w.covered.timed (omega (arith, late, first))) in
    held_after beside x from flutter h w checks held hold levels.0.0 levels.1.0 levels.0.1 levels.1.1 double late sync passed within

pub keep_for_ever_lem : LevelsAreThere → LevelsHold → HistoriesKeepForEver
keep_for_ever_lem there hold beside x from flutter h double w late checks lasts sync = by (walk_is_held x.params flutter) refl
  where
    all_checks : sharp_holds_of 1 flutter (sharp_near beside x.params flutter) x.params ≡ true → (k : ℕ) → 1 ≤ k → k ≤ 5 → sharp_holds_of k flutter (sharp_near beside x.params flutter) x.params ≡ true
    all_checks first k low high = split (cases_eq k 1)
      where
        split : (k ≡ 1) ⊎ (k ≡ 1 → ⊥) → sharp_holds_of k flutter (sharp_near beside x.params flutter) x.params ≡ true
        split (inl one) = let Holds : ℕ → Type 0 = λ n. sharp_holds_of n flutter (sharp_near beside x.params flutter) x.params ≡ true in subst Holds (sym one) first
        split (inr more) = checks k (omega (arith, low, more)) high

    by : (b : Bool) → walk_is_held x.params flutter ≡ b → KeepsSharpPrecision beside x flutter (beyond_for_ever x.params flutter) h double
    by true held =
        let at : (k : ℕ) → double ≤ k → k < x.doubles → IsHeldAt beside x flutter h k =
        λ k after within. subst (IsHeldAt beside x flutter h) (rest k double after) (held_histories_lem there hold beside x from flutter h double w late checks held sync (k - double) (short k double x.doubles after within)) in
        keeps_by_cycle beside x from flutter (beyond_for_ever x.params flutter) h double w (within_run beside x from flutter h double (pos 0) w sync) (λ k after within. (at k after within).synced) (λ k after within. (at k after within).keeps)
    by false never =
        let Keeps : ℤ → Type 0 = λ beyond. KeepsSharpPrecision beside x flutter beyond h double in
        let none : walk_lasts x.params flutter ≡ None = sym (never_lasts x.params flutter never) ∙ lasts in
        let first = (first_check_lasts_on x.params flutter (sharp_near beside x.params flutter) w.covered.timed.sane).1 none in
        subst Keeps (sym (never_beyond x.params flutter never)) (histories_keep_sharp_precision beside x from flutter h double w late (all_checks first) sync)
