-- A double cycle that is judged goes on as its own numbers say.
use Rattle.std.proofs.Common.{◌≡◌, ◌∙◌, ℕ, suc, ◌+◌, ◌-◌, ◌*◌, ◌<◌, ◌≤◌, Bool, true, false, ℤ, pos, neg_ℤ, List, All, Some, map, refl, ap, sym, subst, inl, inr, lit≤, arith, if◌then◌else◌}
use Rattle.std.specs.Prelude.{◌+ℤ◌, ◌-ℤ◌, ◌≤ℤ◌, ◌||◌, Contains, int_lt, max, min, nat_le}
use Rattle.std.proofs.lemmas.Bool.{cases_lt}
use Rattle.std.proofs.lemmas.Bool.Decides.{nat_tests}
use Rattle.std.proofs.lemmas.Int.{ints}
use Rattle.std.proofs.lemmas.List.Elements.{All-contains, All-contains_itself, All-map}
use Rattle.fr_base.specs.Within.{IsWithin, LieWithin}
use Rattle.fr_base.specs.declared.node_row.NodeRow.{NodeRow}
use Rattle.fr_base.specs.declared.state.Outcome.TheVariants.{Exceeded, Missing, Within}
use Rattle.fr_base.specs.declared.state.State.TheVariants.{Active}
use Rattle.fr_cluster.specs.Sane.{IsSane}
use Rattle.fr_cluster.specs.Setting.{Setting}
use Rattle.fr_cluster.specs.Values.{Values, amount}
use Rattle.fr_cluster.specs.declared.names.ParamName.TheVariants as name
use Rattle.fr_midpoint.specs.Midpoint.{IsMidpoint}
use Rattle.fr_time.specs.Cycles.{odd_cycle}
use Rattle.fr_correct.specs.Terms.{damped, term_of, IsOffsetTerm, IsRateTerm}
use Rattle.fr_correct.specs.declared.term.Term.{Term}
use Rattle.fr_bound.specs.Bounds.{longest_micro, shortest_micro}
use Rattle.fr_bound.specs.Sync.{cycle_length_of}
use Rattle.fr_bound.specs.Judged.{apart_through, from_none, heard_spread, known_after, walked_on, IsJudgedDouble}
use Rattle.fr_bound.specs.SharpBounds.{last_action, rate_walk}
use Rattle.fr_bound.specs.SharpChecks.{RateSuffices}
use Rattle.fr_bound.specs.SharpSpreads.{lost_lengths, lost_starts, next_sharp_spread, sharply_apart_in, sharply_near_in}
use Rattle.fr_bound.specs.declared.judging.Heard.{Heard}
use Rattle.fr_bound.specs.declared.judging.Heard.TheVariants.{Clean, Meeting, Poor}
use Rattle.fr_bound.specs.declared.judging.Known.{Known}
use Rattle.fr_precision.specs.Offsets.{LimitSuffices}
use Rattle.fr_precision.specs.Placement.{IsRegular}
use Rattle.fr_precision.specs.Reception.{LeavesRoom}
use Rattle.fr_precision.specs.Rows.{Sender}
use Rattle.fr_precision.specs.Step.{IsFollowed, Member}
use Rattle.fr_precision.proofs.Senders.{All-along}
use Rattle.fr_history.specs.Cycles.{Cycle, Cycles, cycle_at}
use Rattle.fr_runs.specs.Gathered.{round_at}
use Rattle.fr_runs.specs.Rounds.{IsDoubleOf}
use Rattle.fr_runs.proofs.Parts.{even_is, odd_is}
use Rattle.fr_precision.specs.Among.{ComputesOwn}
use Rattle.fr_sharp.specs.JudgedSteps.{AppliesMidpoints, ComputeBy, GoesOnJudged, IsHeardIn, IsRoundBy, JudgedGoesOn, KnownIsMet, SharpSyncIsKnown, StatedRunsAreKnown, UnfollowedGoesOn}
use Rattle.fr_runs.specs.SharpHistories.{IsLawfulStatedRunFrom}
use Rattle.fr_precision.specs.Lengths.{CanWalk, IsAboutCycle}
use Rattle.fr_runs.specs.SharpHistories.{members_at, senders_at, BeginsActive, EachHasRow, IsKnownAt, KeepsApart}
use Rattle.fr_precision.specs.SharpRun.{AllUncut}
use Rattle.fr_precision.specs.SharpStep.{ActInReach, AreSharp, ComeSharply, ComputesSharply, IsSharpDouble, IsSharpLimit}
use Rattle.fr_runs.specs.SteadyRuns.{row_hearers, AreRowsInReach, IsWhole, MayHaveArbitrary, NoneIsDeaf}
use Rattle.fr_precision.proofs.AmongSteps.{lost_spreads_grow}
use Rattle.fr_precision.proofs.BoundLemmas.{key_slots_act_early, sharp_checks_suffice_lem, walk_is_bounded}
use Rattle.fr_sharp.proofs.RowsInPart.{computes_own, round_in_part}
use Rattle.fr_runs.proofs.RowsSupplied.{round_in_reach}
use Rattle.fr_promise.proofs.RunDoubles.{members_found}
use Rattle.fr_sharp.proofs.RunSettles.{timed_begin_active}
use Rattle.fr_sharp.proofs.RunStated.{first_sharp}
use Rattle.fr_promise.proofs.RunSync.{none_cuts}
use Rattle.fr_precision.proofs.SettlingLemmas.{next_spread_draws}
use Rattle.fr_precision.proofs.StepLemmas.{macroticks_stay_sharp, next_is_near, spreads_shrink_in_reach}
use Rattle.fr_promise.proofs.TimedRuns.{acting_with, each_alone, each_later, evens_of, found_of, have_rows, heard_of, keeps_apart_of, lawful_run, next_of, odds_of, rates_of_double, rows_of}

-- ---- the numbers

none_above : (z : ℤ) → z ≤ℤ pos (from_none z)
none_above z = grind (arith, ints)

-- under the second check the rate limit suffices for what it can follow
room_left : (limit drift beyond walk : ℕ) → nat_le drift limit ≡ true → beyond + walk ≤ limit - drift → drift + (beyond + walk) ≤ limit
room_left limit drift beyond walk check fits =
    let le : drift ≤ limit = grind (arith, nat_tests) in
    omega (arith, le, fits)

pub judged_suffices : (p : Values) (flutter : ℕ) (known : Known) → IsJudgedDouble p flutter known
    → RateSuffices p (pos known.beyond) × RateSuffices p (pos known.beyond +ℤ rate_walk p flutter)
judged_suffices p flutter known judged =
    let walk = rate_walk p flutter in
    let limit = amount p name.pRateCorrectionOut * shortest_micro p in
    let drift = 2 * (amount p name.pMicroPerCycle * amount p name.xRateBound) in
    let left : drift + (known.beyond + from_none walk) ≤ limit = room_left limit drift known.beyond (from_none walk) (judged.checks 2 (lit≤ tt) (lit≤ tt)) judged.room in
    (still limit drift known.beyond (from_none walk) left, on limit drift known.beyond (from_none walk) walk (none_above walk) left)
  where
    still : (limit drift beyond more : ℕ) → drift + (beyond + more) ≤ limit → (pos drift +ℤ pos beyond) ≤ℤ pos limit
    still limit drift beyond more left = omega (arith, ints, left)

    on : (limit drift beyond more : ℕ) (walk : ℤ) → walk ≤ℤ pos more → drift + (beyond + more) ≤ limit → (pos drift +ℤ (pos beyond +ℤ walk)) ≤ℤ pos limit
    on limit drift beyond more walk above left = omega (arith, ints, above, left)

-- ---- terms that are neither cut nor missing

uncut_value : (limit before : ℤ) → (term_of limit before).outcome ≡ Within → (term_of limit before).value ≡ before
uncut_value limit before uncut = by_tests (int_lt limit before) (int_lt before (neg_ℤ limit)) uncut
  where
    by_tests : (over under : Bool) → (if over || under then Exceeded else Within) ≡ Within → (if over then limit else (if under then neg_ℤ limit else before)) ≡ before
    by_tests true under is = absurd (cc is)
    by_tests false true is = absurd (cc is)
    by_tests false false is = refl

pub offset_middle : (limit : ℤ) (values : List ℤ) (term : Term) → IsOffsetTerm limit values term → term.outcome ≡ Within → IsMidpoint values term.value
offset_middle limit values term (inl none) uncut = absurd (let missing : Missing ≡ Within = sym (ap (λ (t : Term). t.outcome) none.1) ∙ uncut in cc missing)
offset_middle limit values term (inr some) uncut =
    let value : term.value ≡ some.0 = ap (λ (t : Term). t.value) some.2 ∙ uncut_value limit some.0 (sym (ap (λ (t : Term). t.outcome) some.2) ∙ uncut) in
    subst (IsMidpoint values) (sym value) some.1

-- damping takes a number no further than by itself
damped_near : (damping old middle : ℤ) → pos 0 ≤ℤ damping → IsWithin damping ((damped damping (old +ℤ middle) -ℤ old) -ℤ middle)
damped_near damping old middle from = by_tests (int_lt damping (old +ℤ middle)) (int_lt (old +ℤ middle) (neg_ℤ damping)) refl refl
  where
    above : (d o m : ℤ) → pos 0 ≤ℤ d → IsWithin d ((((o +ℤ m) -ℤ d) -ℤ o) -ℤ m)
    above d o m h = record { low = omega (arith, ints); high = omega (arith, ints) }

    below : (d o m : ℤ) → pos 0 ≤ℤ d → IsWithin d ((((o +ℤ m) +ℤ d) -ℤ o) -ℤ m)
    below d o m h = record { low = omega (arith, ints); high = omega (arith, ints) }

    at_zero : (d o m : ℤ) → int_lt d (o +ℤ m) ≡ false → int_lt (o +ℤ m) (neg_ℤ d) ≡ false → IsWithin d ((pos 0 -ℤ o) -ℤ m)
    at_zero d o m h k = record { low = grind (arith, ints); high = grind (arith, ints) }

    by_tests : (over under : Bool) → int_lt damping (old +ℤ middle) ≡ over → int_lt (old +ℤ middle) (neg_ℤ damping) ≡ under
        → IsWithin damping (((if over then (old +ℤ middle) -ℤ damping else (if under then (old +ℤ middle) +ℤ damping else pos 0)) -ℤ old) -ℤ middle)
    by_tests true under is also = above damping old middle from
    by_tests false true is also = below damping old middle from
    by_tests false false is also = at_zero damping old middle is also

-- what a rate term grows by
pub record Grows (values : List ℤ) (damping old value : ℤ) : Type 0 where
  pub middle : ℤ
  pub is : IsMidpoint values middle
  pub near : IsWithin damping ((value -ℤ old) -ℤ middle)

pub rate_middle : (old damping limit : ℤ) (values : List ℤ) (term : Term) → pos 0 ≤ℤ damping → IsRateTerm old damping limit values term → term.outcome ≡ Within
    → Grows values damping old term.value
rate_middle old damping limit values term from (inl none) uncut = absurd (let missing : Missing ≡ Within = sym (ap (λ (t : Term). t.outcome) none.1) ∙ uncut in cc missing)
rate_middle old damping limit values term from (inr some) uncut =
    let sum = damped damping (old +ℤ some.0) in
    let value : term.value ≡ sum = ap (λ (t : Term). t.value) some.2 ∙ uncut_value limit sum (sym (ap (λ (t : Term). t.outcome) some.2) ∙ uncut) in
    let Near : ℤ → Type 0 = λ v. IsWithin damping ((v -ℤ old) -ℤ some.0) in
    record { middle = some.0; is = some.1; near = subst Near (sym value) (damped_near damping old some.0 from) }

-- ---- a double cycle that is judged

module _ (x : Setting) (from flutter : ℕ) (h : Cycles) (double : ℕ) (known : Known) (w : IsLawfulStatedRunFrom x from flutter h) (late : from ≤ double) (short : double < x.doubles) (each : EachHasRow x h double) (at : IsKnownAt x h double known) (judged : IsJudgedDouble x.params flutter known) where
  abbrev p : Values
  p = x.params

  abbrev nodes : List Member
  nodes = members_at x h double

  abbrev senders : List Sender
  senders = senders_at x h double

  abbrev starts : ℕ
  starts = known.spread.starts

  abbrev lengths : ℕ
  lengths = known.spread.lengths

  abbrev beyond : ℤ
  beyond = pos known.beyond

  abbrev walk : ℤ
  walk = rate_walk x.params flutter

  abbrev next : ℤ
  next = pos (walked_on x.params flutter known.beyond)

  abbrev reach : ℕ
  reach = sharply_near_in x.params known.spread

  abbrev last : ℤ
  last = pos (last_action x.params)

  sane : IsSane x.params
  sane = w.covered.sane

  limit : LimitSuffices x.params (pos reach)
  limit = (sharp_checks_suffice_lem x.params flutter reach sane judged.checks).0

  room : LeavesRoom x.params (pos reach)
  room = (sharp_checks_suffice_lem x.params flutter reach sane judged.checks).1

  can_walk : CanWalk x.params flutter beyond walk
  can_walk = record { bounds = walk_is_bounded x.params flutter sane; suffices = (judged_suffices x.params flutter known judged).1 }

  is_limit : IsSharpLimit x.params flutter beyond walk (pos reach) last
  is_limit = record { sane = sane; walks = can_walk; suffices = limit; early = (key_slots_act_early x.params sane).1 }

  -- its cycles are those that are found
  abbrev Active_in : List NodeRow → Type 0
  Active_in rows = All (λ (row : NodeRow). row.state ≡ Active) rows

  abbrev Sharp_in : List NodeRow → Type 0
  Sharp_in rows = AreSharp x.params starts lengths beyond rows

  same_cycles : (earlier : Cycles) (even odd : Cycle) → IsDoubleOf h double earlier even odd → (at.even ≡ even) × (at.odd ≡ odd)
  same_cycles earlier even odd d =
      let at_odd : odd_cycle double ≡ suc (2 * double) = omega arith in
      let first : Some at.even ≡ Some even = sym at.has_even ∙ even_is h double earlier even odd d in
      let second : Some at.odd ≡ Some odd = sym at.has_odd ∙ ap (cycle_at h) at_odd ∙ odd_is h double earlier even odd d in
      (cc, cc)

  active : BeginsActive h double
  active earlier even odd d =
      let same = same_cycles earlier even odd d in
      (subst (λ (c : Cycle). Active_in c.told.rows) same.0 at.active_even, subst (λ (c : Cycle). Active_in c.told.rows) same.1 at.active_odd)

  sharp : Sharp_in (map (λ (node : Member). node.even) nodes)
  sharp =
      let f = found_of x from flutter h w double short in
      let same = same_cycles f.earlier f.even f.odd f.is in
      subst Sharp_in (sym (evens_of x from flutter h w double f.earlier f.even f.odd f.is)) (subst (λ (c : Cycle). Sharp_in c.told.rows) same.0 at.rows)

  acting : ActInReach x.params (pos reach) last nodes
  acting = acting_with x from flutter h w double starts lengths beyond reach late short can_walk (judged_suffices x.params flutter known judged).0 limit (itself reach) sharp
    where
      itself : (n : ℕ) → n ≤ n
      itself n = omega arith

  -- ---- what is heard

  heard_all : (beside : Bool) → MayHaveArbitrary beside x → IsWhole x double → IsSharpDouble beside x.params flutter senders nodes last
  heard_all beside may links =
      heard_of x from flutter h w beside double beyond (pos reach) late may short links limit room (judged_suffices x.params flutter known judged).0 active sharp.about acting

  in_reach : (earlier : Cycles) (even odd : Cycle) → IsDoubleOf h double earlier even odd → AreRowsInReach x earlier even odd (pos reach)
  in_reach earlier even odd d =
      let both = active earlier even odd d in
      let Acts : List Member → Type 0 = λ some. ActInReach x.params (pos reach) last some in
      record {
        active_even = both.0;
        active_odd = both.1;
        rates = rates_of_double x from flutter h w double beyond late (judged_suffices x.params flutter known judged).0 sharp.about earlier even odd d;
        limit = limit;
        room = room;
        acts = subst Acts (members_found x h double earlier even odd d) acting;
      }

  heard_own : MayHaveArbitrary false x → NoneIsDeaf x double → (node : Member) → Contains nodes node → ComputesOwn x.params flutter nodes last node
  heard_own none hears node here =
      let f = found_of x from flutter h w double short in
      let same = members_found x h double f.earlier f.even f.odd f.is in
      let Has : List Member → Type 0 = λ some. Contains some node in
      let Own : List Member → Type 0 = λ some. ComputesOwn x.params flutter some last node in
      subst Own (sym same)
      (
      computes_own x flutter f.earlier f.even f.odd double (pos reach) (rows_of x from flutter h w double late f.earlier f.even f.odd f.is) (in_reach f.earlier f.even f.odd f.is) node
      (have_rows x from flutter h w double each f.earlier f.even f.odd f.is) none hears (subst Has same here)
      )

  round_by : (what : Heard) → IsHeardIn what x double → (earlier : Cycles) (even odd : Cycle) → IsDoubleOf h double earlier even odd
      → IsRoundBy what (round_at x earlier even odd) flutter (pos reach) (row_hearers x earlier even odd)
  round_by Clean is earlier even odd d =
      round_in_reach x flutter earlier even odd double (pos reach) (rows_of x from flutter h w double late earlier even odd d) (in_reach earlier even odd d) is.1 false is.0
  round_by Meeting is earlier even odd d =
      round_in_reach x flutter earlier even odd double (pos reach) (rows_of x from flutter h w double late earlier even odd d) (in_reach earlier even odd d) is true tt
  round_by Poor is earlier even odd d =
      round_in_part x flutter earlier even odd double (pos reach) (rows_of x from flutter h w double late earlier even odd d) (in_reach earlier even odd d)
      (have_rows x from flutter h w double each earlier even odd d) is.0 is.1

  computes_by : (what : Heard) → IsHeardIn what x double → ComputeBy what x.params flutter senders nodes last
  computes_by Clean is = heard_all false is.0 is.1
  computes_by Meeting is = heard_all true tt is
  computes_by Poor is = heard_own is.0 is.1

  -- ---- what any two come to

  module _ (what : Heard) (computes : ComputeBy what x.params flutter senders nodes last) where
    abbrev next_starts : ℕ
    next_starts = (heard_spread what x.params flutter known.spread).starts

    abbrev next_lengths : ℕ
    next_lengths = (heard_spread what x.params flutter known.spread).lengths

    come : (one other : Member) → Contains nodes one → Contains nodes other → ComeSharply x.params next_starts next_lengths next one other
    come one other here there = by what computes
      where
        takes : (beyond +ℤ walk) ≤ℤ next
        takes = none_above (beyond +ℤ walk)

        some : pos 0 ≤ℤ next
        some = omega (arith, ints)

        itself : (n : ℕ) → n ≤ n
        itself n = omega arith

        all : (beside : Bool) → IsSharpDouble beside x.params flutter senders nodes last
            → ComeSharply x.params (next_sharp_spread beside x.params flutter known.spread).starts (next_sharp_spread beside x.params flutter known.spread).lengths next one other
        all beside heard =
            spreads_shrink_in_reach beside x.params flutter senders nodes starts lengths (next_sharp_spread beside x.params flutter known.spread).starts
            (next_sharp_spread beside x.params flutter known.spread).lengths beyond walk next (pos reach) last one other is_limit acting some takes
            (next_spread_draws beside x.params flutter known.spread) sharp heard here there

        by : (what : Heard) → ComputeBy what x.params flutter senders nodes last
            → ComeSharply x.params (heard_spread what x.params flutter known.spread).starts (heard_spread what x.params flutter known.spread).lengths next one other
        by Clean heard = all false heard
        by Meeting heard = all true heard
        by Poor own =
            lost_spreads_grow x.params flutter nodes starts lengths (lost_starts x.params starts lengths) (lost_lengths x.params flutter lengths) beyond walk next (pos reach) last one other
            is_limit acting some takes (itself (lost_starts x.params starts lengths)) (itself (lost_lengths x.params flutter lengths)) sharp own here there

    uncut : AllUncut nodes
    uncut = none_cuts x.params next_starts next_lengths next nodes come

    regular : (node : Member) → Contains nodes node → IsRegular x.params node.even node.odd
    regular node here = by what computes
      where
        by : (what : Heard) → ComputeBy what x.params flutter senders nodes last → IsRegular x.params node.even node.odd
        by Clean heard = (All-contains (ComputesSharply x.params flutter senders) nodes node heard.computes here).regular
        by Meeting heard = (All-contains (ComputesSharply x.params flutter senders) nodes node heard.computes here).regular
        by Poor own = (own node here).regular

    all_regular : All (λ (node : Member). IsRegular x.params node.even node.odd) nodes
    all_regular = All-along (Contains nodes) (λ (node : Member). IsRegular x.params node.even node.odd) nodes regular (All-contains_itself nodes)

    keeps : KeepsApart x h double (apart_through what x.params flutter known)
    keeps =
        keeps_apart_of x from flutter h w double (apart_through what x.params flutter known) late short each active uncut
        (λ one other macrotick is_odd here there low high.
        let fits = both (sharply_apart_in x.params known.spread) (next_starts + longest_micro x.params) in
        macroticks_stay_sharp x.params starts lengths next_starts next_lengths beyond next nodes one other (apart_through what x.params flutter known) macrotick is_odd sane sharp all_regular here there
        (come one other here there) fits.0 fits.1 low high)
      where
        both : (a b : ℕ) → (a ≤ max a b) × (b ≤ max a b)
        both a b = (grind arith, grind arith)

    -- the terms of a node, and what it applies
    applies : (node : Member) → Contains nodes node → AppliesMidpoints x.params node
    applies node here = by what computes
      where
        damping_from : pos 0 ≤ℤ x.params.damping
        damping_from = let range = sane.ranges name.pClusterDriftDamping in omega (arith, ints, range.0)

        with : IsOffsetTerm x.params.offset_limit node.offsets node.offset_term → node.odd.offset ≡ node.offset_term.value
            → IsRateTerm node.odd.rate x.params.damping x.params.rate_limit node.rates node.rate_term → AppliesMidpoints x.params node
        with offset applied rate =
            let two = come node node here here in
            let grows = rate_middle node.odd.rate x.params.damping x.params.rate_limit node.rates node.rate_term damping_from rate two.range.uncut in
            record {
              offset = subst (IsMidpoint node.offsets) (sym applied) (offset_middle x.params.offset_limit node.offsets node.offset_term offset two.uncut);
              middle = grows.middle;
              is_middle = grows.is;
              grown = grows.near;
            }

        sharply : ComputesSharply x.params flutter senders node → AppliesMidpoints x.params node
        sharply own = with own.by_offset.is_term own.by_offset.applied own.by_rate.is_term

        by : (what : Heard) → ComputeBy what x.params flutter senders nodes last → AppliesMidpoints x.params node
        by Clean heard = sharply (All-contains (ComputesSharply x.params flutter senders) nodes node heard.computes here)
        by Meeting heard = sharply (All-contains (ComputesSharply x.params flutter senders) nodes node heard.computes here)
        by Poor computes = let own = computes node here in with own.offsets.round.is_term own.offsets.round.applied own.rates.round.is_term

    -- ---- the next double cycle

    next_known : suc double < x.doubles → IsKnownAt x h (suc double) (known_after what x.params flutter known)
    next_known later =
        let f = found_of x from flutter h w (suc double) later in
        let goes = next_of x from flutter h w double late each active uncut f.earlier f.even f.odd f.is in
        let at_odd : odd_cycle (suc double) ≡ suc (2 * suc double) = omega arith in
        let Followed : Member → Type 0 = λ node. IsFollowed x.params node (goes.next_even node) (goes.next_odd node) in
        let evens : map goes.next_even nodes ≡ f.even.told.rows = sym goes.evens ∙ evens_of x from flutter h w (suc double) f.earlier f.even f.odd f.is in
        let odds : map goes.next_odd nodes ≡ f.odd.told.rows = sym goes.odds ∙ odds_of x from flutter h w (suc double) f.earlier f.even f.odd f.is in
        record {
          even = f.even;
          odd = f.odd;
          has_even = even_is h (suc double) f.earlier f.even f.odd f.is;
          has_odd = ap (cycle_at h) at_odd ∙ odd_is h (suc double) f.earlier f.even f.odd f.is;
          active_even =
              subst Active_in evens (All-map (λ (row : NodeRow). row.state ≡ Active) goes.next_even nodes (All-along Followed (λ node. (goes.next_even node).state ≡ Active) nodes (λ node is. is.active_even) goes.followed));
          active_odd =
              subst Active_in odds (All-map (λ (row : NodeRow). row.state ≡ Active) goes.next_odd nodes (All-along Followed (λ node. (goes.next_odd node).state ≡ Active) nodes (λ node is. is.active_odd) goes.followed));
          rows =
              subst (λ (rows : List NodeRow). AreSharp x.params next_starts next_lengths next rows) evens
              (next_is_near x.params nodes next_starts next_lengths next goes.next_even goes.next_odd come goes.followed);
        }

  pub judged_by : (what : Heard) → IsHeardIn what x double → GoesOnJudged what x flutter h double known
  judged_by what is =
      let computes = computes_by what is in
      record {
        keeps = keeps what computes;
        reached = in_reach;
        round = round_by what is;
        computes = computes;
        applies = applies what computes;
        next = next_known what computes;
      }

pub unfollowed_goes_on_lem : UnfollowedGoesOn
unfollowed_goes_on_lem what x from flutter h double known w late short is each at judged =
    (judged_by x from flutter h double known w late short each at judged what is, λ later. each_later x from flutter h w double each)

pub judged_goes_on_lem : JudgedGoesOn
judged_goes_on_lem what x from flutter h double known w late short is at judged =
    let run = lawful_run x from flutter h w in
    judged_by x from flutter h double known run late short (each_alone x from flutter h run w.none_joins double) at judged what is

-- ---- what is known in two ways

either_least : (P : ℕ → Type 0) (a b : ℕ) → P a → P b → P (min a b)
either_least P a b one other = elim (cases_lt a b) [
  | inl less ↦ let is : a ≡ min a b = grind arith in subst P is one
  | inr le ↦ let is : b ≡ min a b = grind arith in subst P is other
]

lie_met : (a b : ℕ) (xs : List ℤ) → LieWithin (pos a) xs → LieWithin (pos b) xs → LieWithin (pos (min a b)) xs
lie_met a b xs one other = either_least (λ (n : ℕ). LieWithin (pos n) xs) a b one other

sharp_is_met : (p : Values) (starts lengths beyond other_starts other_lengths other_beyond : ℕ) (rows : List NodeRow) → AreSharp p starts lengths (pos beyond) rows
    → AreSharp p other_starts other_lengths (pos other_beyond) rows → AreSharp p (min starts other_starts) (min lengths other_lengths) (pos (min beyond other_beyond)) rows
sharp_is_met p starts lengths beyond other_starts other_lengths other_beyond rows one other = record {
  starts_lie = lie_met starts other_starts (map (λ (row : NodeRow). row.start) rows) one.starts_lie other.starts_lie;
  lengths_lie = lie_met lengths other_lengths (map (cycle_length_of p) rows) one.lengths_lie other.lengths_lie;
  about = either_least (λ (n : ℕ). All (λ row. IsAboutCycle p (pos n) (cycle_length_of p row)) rows) beyond other_beyond one.about other.about;
}

pub known_is_met_lem : KnownIsMet
known_is_met_lem x h double known other at also =
    let first : Some at.even ≡ Some also.even = sym at.has_even ∙ also.has_even in
    let same : at.even ≡ also.even = cc in
    record {
      even = at.even;
      odd = at.odd;
      has_even = at.has_even;
      has_odd = at.has_odd;
      active_even = at.active_even;
      active_odd = at.active_odd;
      rows =
          sharp_is_met x.params known.spread.starts known.spread.lengths known.beyond other.spread.starts other.spread.lengths other.beyond at.even.told.rows at.rows
          (subst (λ (c : Cycle). AreSharp x.params other.spread.starts other.spread.lengths (pos other.beyond) c.told.rows) (sym same) also.rows);
    }

pub sharp_sync_is_known_lem : SharpSyncIsKnown
sharp_sync_is_known_lem beside x flutter past h double s = record {
  even = s.even;
  odd = s.odd;
  has_even = s.has_even;
  has_odd = s.has_odd;
  active_even = s.in_sync.active_even;
  active_odd = s.in_sync.active_odd;
  rows = s.in_sync.rows;
}

pub stated_runs_are_known_lem : StatedRunsAreKnown
stated_runs_are_known_lem x flutter start rate h w near some =
    let f = found_of x 0 flutter h (lawful_run x 0 flutter h w) 0 some in
    let active = timed_begin_active x flutter h w f.earlier f.even f.odd f.is in
    record {
      even = f.even;
      odd = f.odd;
      has_even = even_is h 0 f.earlier f.even f.odd f.is;
      has_odd = odd_is h 0 f.earlier f.even f.odd f.is;
      active_even = active.0;
      active_odd = active.1;
      rows = first_sharp x flutter h w start rate near f.even (even_is h 0 f.earlier f.even f.odd f.is);
    }
