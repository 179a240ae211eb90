-- A lawful history in which frames are lost keeps to the numbers by what was heard.
use Rattle.std.proofs.Common.{◌≡◌, ◌⊎◌, ℕ, zero, suc, ◌+◌, ◌-◌, ◌*◌, ◌<◌, ◌≤◌, ◌||◌, Bool, true, false, not, ℤ, pos, List, [], ◌∷◌, All, map, inl, inr, refl, ap, sym, ◌∙◌, subst, lit≤, arith, if◌then◌else◌}
use Rattle.std.specs.Prelude.{◌+ℤ◌, ◌≤ℤ◌, Contains, max, nat_lt}
use Rattle.std.proofs.lemmas.Bool.{cases_eq}
use Rattle.std.proofs.lemmas.Bool.Decides.{nat_tests}
use Rattle.std.proofs.lemmas.List.Elements.{All-contains, All-contains_itself}
use Rattle.fr_base.specs.declared.node_row.NodeRow.{NodeRow}
use Rattle.fr_base.specs.declared.state.Outcome.TheVariants.{Within, Missing}
use Rattle.fr_base.specs.declared.state.State.TheVariants.{Active}
use Rattle.fr_cluster.specs.Questions.{own_index}
use Rattle.fr_cluster.specs.Sane.{IsSane}
use Rattle.fr_cluster.specs.Setting.{Setting, correct_nodes}
use Rattle.fr_cluster.specs.Values.{Values, amount}
use Rattle.fr_cluster.specs.declared.names.ParamName.TheVariants as name
use Rattle.fr_cluster.specs.declared.nodes.NodeSpec.{NodeSpec}
use Rattle.fr_correct.specs.Terms.{offset_term_of, rate_term_of}
use Rattle.fr_correct.specs.declared.term.Term.{Term}
use Rattle.fr_correct.proofs.There.{offset_term_is_there, rate_term_is_there}
use Rattle.fr_measure.specs.Deviations.{rate_values_by}
use Rattle.fr_measure.specs.Values.{offset_at, rate_at}
use Rattle.fr_poc.specs.Control.{Status, step_of}
use Rattle.fr_poc.specs.Limits.{limits_of}
use Rattle.fr_bound.specs.Bounds.{cycle_change, longest_micro}
use Rattle.fr_bound.specs.Checks.{holds_of}
use Rattle.fr_precision.specs.Offsets.{LimitSuffices}
use Rattle.fr_precision.specs.Reception.{LeavesRoom}
use Rattle.fr_precision.specs.Round.{offsets_of, rates_of}
use Rattle.fr_precision.specs.Rows.{Sender}
use Rattle.fr_precision.specs.SharpRound.{as_member}
use Rattle.fr_precision.specs.Step.{IsFollowed, Member}
use Rattle.fr_precision.proofs.Senders.{All-along}
use Rattle.fr_history.specs.Cycles.{Cycle, Cycles, told_of}
use Rattle.fr_history.specs.History.{row_for}
use Rattle.fr_history.specs.Laws.{row_laws}
use Rattle.fr_history.specs.Rows.{offset_after}
use Rattle.fr_history.specs.Standing.{row_nodes}
use Rattle.fr_history.specs.Terms.{offset_term_in, rate_term_in, status_in}
use Rattle.fr_history.proofs.Lists.{map-map}
use Rattle.fr_runs.specs.Gathered.{round_at, row_hearer}
use Rattle.fr_runs.specs.Numbers.{rate_term_told}
use Rattle.fr_runs.specs.Rounds.{IsDoubleOf}
use Rattle.fr_runs.proofs.Courses.{is_correct_row, row_term_is}
use Rattle.fr_runs.proofs.Nodes.{correct_node}
use Rattle.fr_runs.proofs.Outcomes.{status_step}
use Rattle.fr_precision.proofs.RoundLemmas.{contains_map, map_contains}
use Rattle.fr_runs.proofs.Rows.{each_row, has_row as row_there, row_runs_by}
use Rattle.fr_runs.proofs.RowsSupplied.{LawfulRows}
use Rattle.fr_runs.proofs.Whole.{prior_of}
use Rattle.fr_precision.specs.Among.{apart_through_losses, spread_through_losses, AreLossyDoubles, GoInReach, HeardSo, LossyDoublesKeep, LossyDoublesStayApart, SpreadsGo}
use Rattle.fr_precision.specs.declared.kinds.Kinds.{Kinds}
use Rattle.fr_sharp.specs.Bearing.{borne, borne_outcome, KeepsThrough}
use Rattle.fr_runs.specs.SharpHistories.{IsLawfulStatedRunFrom}
use Rattle.fr_precision.specs.Lengths.{walked_through, CanWalk}
use Rattle.fr_sharp.specs.Losses.{HistoriesKeepThroughLosses, IsLossyRunFrom, RowsHear}
use Rattle.fr_bound.specs.SharpBounds.{last_action, precision_by, rate_walk, sharp_lambda, sharp_pi}
use Rattle.fr_bound.specs.SharpChecks.{RateSuffices, SharpChecksHold}
use Rattle.fr_runs.specs.SharpHistories.{members_at, senders_at, BeginsActive, IsInSharpSyncAt}
use Rattle.fr_precision.specs.SharpRun.{AllUncut, AreActiveAfter, BeginSharp, IsNextDouble, KeepsSharp, WalkLastsAfter}
use Rattle.fr_bound.specs.SharpSpreads.{sharply_near_in}
use Rattle.fr_precision.specs.SharpStep.{ActInReach, AreSharp, IsInSharpSync}
use Rattle.fr_runs.specs.SteadyRuns.{row_members, AreRowsInReach}
use Rattle.fr_traffic.specs.Traffic.{bears, heard_in, is_deaf, lacking_for, lacks_values, may_lack, none_lacks, some_keep, traffic_of, trusts_or_lacks}
use Rattle.fr_precision.proofs.BoundLemmas.{key_slots_act_early, sharp_checks_suffice_lem}
use Rattle.fr_precision.proofs.LastingLemmas.{earlier as earlier_walk, near_fits, up_to}
use Rattle.fr_promise.proofs.StrayLemmas.{in_range, none_strayed, walk_is_held_through}
use Rattle.fr_sharp.proofs.BearingRows.{bears_at, is_trusted_there, kept_offset, kept_rate, no_values}
use Rattle.fr_sharp.proofs.BearingStatus.{calm_outcome, limits_in_order, stands_on, stands_within, StandsBy}
use Rattle.fr_runs.proofs.KeyedCounts.{all_pass}
use Rattle.fr_traffic.proofs.HeardInPart.{heard_some}
use Rattle.fr_promise.proofs.RunDoubles.{all_among, all_have, evens_are, followed_at, member_among, members_found, next_row, next_rows_are, none_early, none_late, odds_are, senders_found, AllHave, IsCalm}
use Rattle.fr_promise.proofs.RunSync.{none_cuts}
use Rattle.fr_promise.proofs.TimedRuns.{acting_with, active_in_sync, active_of, found_of, lawful_run, members_in_sync, part, rates_of_double, rows_of, spread_in}

-- the rows of nodes are the same as they are borne
evens_same : (ns : List Member) → map (λ (node : Member). node.even) (map borne ns) ≡ map (λ (node : Member). node.even) ns
evens_same ns = map-map (λ (node : Member). node.even) borne ns

odds_same : (ns : List Member) → map (λ (node : Member). node.odd) (map borne ns) ≡ map (λ (node : Member). node.odd) ns
odds_same ns = map-map (λ (node : Member). node.odd) borne ns

plain_active : (k : ℕ) (ns : List Member) → AreActiveAfter k (map borne ns) → AreActiveAfter k ns
plain_active zero ns active = tt
plain_active (suc k) ns active =
    let Are : List NodeRow → Type 0 = λ rows. All (λ (row : NodeRow). row.state ≡ Active) rows in
    (subst Are (evens_same ns) active.0, subst Are (odds_same ns) active.1)

borne_follows : (p : Values) (node : Member) (even odd : NodeRow) → IsFollowed p node even odd → IsFollowed p (borne node) even odd
borne_follows p node even odd is = record {
  start = is.start;
  next = record {
    even_rate = is.next.even_rate;
    odd_rate = is.next.odd_rate;
    even_micro = is.next.even_micro;
    odd_micro = is.next.odd_micro;
    even_steady = is.next.even_steady;
    odd_steady = is.next.odd_steady;
  };
  active_even = is.active_even;
  active_odd = is.active_odd;
}

module _ (hear : RowsHear) (keep : LossyDoublesKeep) (stay : LossyDoublesStayApart) (goes : SpreadsGo) (beside : Bool) (x : Setting) (from flutter : ℕ) (h : Cycles) (double reach : ℕ) (w : IsLossyRunFrom beside x from flutter h) (late : from ≤ double)
    (checks : SharpChecksHold flutter reach x.params)
    (fits : (k : ℕ) → double + k < x.doubles → sharply_near_in x.params (spread_through_losses beside x.params flutter (λ m. heard_in (traffic_of x) (double + m)) k) ≤ reach)
    (strays : (k : ℕ) → double + k < x.doubles → WalkLastsAfter x.params flutter k → RateSuffices x.params (walked_through x.params flutter (λ m. some_keep (traffic_of x) (double + m)) (suc k)))
    (sync : IsInSharpSyncAt beside x.params flutter (pos 0) h double) (awake : none_lacks (traffic_of x) double ≡ true) (short : double < x.doubles) where
  abbrev on : ℕ → Kinds
  on k = heard_in (traffic_of x) (double + k)

  abbrev keeps_in : ℕ → Bool
  keeps_in k = some_keep (traffic_of x) (double + k)

  abbrev beyond : ℕ → ℤ
  beyond = walked_through x.params flutter (λ m. some_keep (traffic_of x) (double + m))

  abbrev starts : ℕ → ℕ
  starts k = (spread_through_losses beside x.params flutter (λ m. heard_in (traffic_of x) (double + m)) k).starts

  abbrev lengths : ℕ → ℕ
  lengths k = (spread_through_losses beside x.params flutter (λ m. heard_in (traffic_of x) (double + m)) k).lengths

  abbrev plain : ℕ → List Member
  plain k = members_at x h (double + k)

  abbrev nodes : ℕ → List Member
  nodes k = map borne (members_at x h (double + k))

  abbrev senders : ℕ → List Sender
  senders k = senders_at x h (double + k)

  abbrev last : ℤ
  last = pos (last_action x.params)

  run : IsLawfulStatedRunFrom x from flutter h
  run = lawful_run x from flutter h w.run

  sane : IsSane x.params
  sane = w.run.covered.sane

  second : holds_of 2 x.params ≡ true
  second = checks 2 (lit≤ tt) (lit≤ tt)

  limit : LimitSuffices x.params (pos reach)
  limit = (sharp_checks_suffice_lem x.params flutter reach sane checks).0

  room : LeavesRoom x.params (pos reach)
  room = (sharp_checks_suffice_lem x.params flutter reach sane checks).1

  -- the rate limit suffices for what lies beyond the range, and for one double cycle more
  suffices : (k : ℕ) → double + k < x.doubles → WalkLastsAfter x.params flutter k → RateSuffices x.params (beyond k)
  suffices zero within before = subst (RateSuffices x.params) (sym (none_strayed x.params flutter (λ m. some_keep (traffic_of x) (double + m)))) (in_range x.params second)
  suffices (suc k) within before = strays k (omega (arith, within)) (earlier_walk x.params flutter k (up_to x.params flutter (suc k) before))

  can_walk : (k : ℕ) → double + k < x.doubles → WalkLastsAfter x.params flutter k → CanWalk x.params flutter (beyond k) (rate_walk x.params flutter)
  can_walk k within before = (walk_is_held_through x.params flutter keeps_in k sane (strays k within before)).0

  own_sync : IsInSharpSync beside x.params flutter (pos 0) (map (λ (node : Member). node.even) (members_at x h double)) (map (λ (node : Member). node.odd) (members_at x h double))
  own_sync = members_in_sync x from flutter h run beside double (pos 0) short sync

  active : BeginsActive h double
  active = active_in_sync x from flutter h run beside double (pos 0) own_sync

  plain_begin : (k : ℕ) → BeginSharp x.params beyond starts lengths nodes k → BeginSharp x.params beyond starts lengths plain k
  plain_begin k begin =
      let Are : List NodeRow → Type 0 = λ rows. AreSharp x.params (starts k) (lengths k) (beyond k) rows in
      record { sharp = subst Are (evens_same (plain k)) begin.sharp; active = plain_active k (plain k) begin.active }

  active_at : (k : ℕ) → BeginSharp x.params beyond starts lengths nodes k → BeginsActive h (double + k)
  active_at k begin = active_of x from flutter h run double beyond starts lengths active k (plain_begin k begin)

  acting : (k : ℕ) → double + k < x.doubles → WalkLastsAfter x.params flutter k → BeginSharp x.params beyond starts lengths nodes k → ActInReach x.params (pos reach) last (plain k)
  acting k within before begin =
      acting_with x from flutter h run (double + k) (starts k) (lengths k) (beyond k) reach (omega (arith, late)) within (can_walk k within before) (suffices k within before) limit (fits k within) (plain_begin k begin).sharp

  -- the rows of a later double cycle, in reach of each other
  rows_in_reach : (k : ℕ) (within : double + k < x.doubles) → WalkLastsAfter x.params flutter k → BeginSharp x.params beyond starts lengths nodes k → (earlier : Cycles) (even odd : Cycle)
      → IsDoubleOf h (double + k) earlier even odd → AreRowsInReach x earlier even odd (pos reach)
  rows_in_reach k within before begin earlier even odd d =
      let both = active_at k begin earlier even odd d in
      let Acts : List Member → Type 0 = λ some. ActInReach x.params (pos reach) last some in
      record {
        active_even = both.0;
        active_odd = both.1;
        rates =
            rates_of_double x from flutter h run (double + k) (beyond k) (omega (arith, late)) (suffices k within before) (plain_begin k begin).sharp.about earlier even odd d;
        limit = limit;
        room = room;
        acts = subst Acts (members_found x h (double + k) earlier even odd d) (acting k within before begin);
      }

  -- the nodes with rows hear what is said of it
  heard_by : (k : ℕ) → double + k < x.doubles → WalkLastsAfter x.params flutter k → BeginSharp x.params beyond starts lengths nodes k
      → HeardSo (on k) (keeps_in k) x.params flutter (senders k) (nodes k) last
  heard_by k within before begin =
      let f = found_of x from flutter h run (double + k) within in
      let Nodes : List Member → Type 0 = λ some. HeardSo (on k) (keeps_in k) x.params flutter (senders k) (map borne some) last in
      let Senders : List Sender → Type 0 = λ some. HeardSo (on k) (keeps_in k) x.params flutter some (map borne (row_members x f.earlier f.even f.odd)) last in
      subst Nodes (sym (members_found x h (double + k) f.earlier f.even f.odd f.is))
      (
      subst Senders (sym (senders_found x h (double + k) f.earlier f.even f.odd f.is))
      (
      hear beside x from flutter h f.earlier f.even f.odd (double + k) (pos reach) w.run.none_joins (part x from flutter h run) w.arbitrary (omega (arith, late)) f.is
      (w.borne (double + k) (omega (arith, late)) within) (rows_in_reach k within before begin f.earlier f.even f.odd f.is)
      )
      )

  -- ---- how a double cycle ends

  -- none of its terms is outside its limit, as nodes are borne
  module _ (k : ℕ) (within : double + k < x.doubles) (before : WalkLastsAfter x.params flutter k) (begin : BeginSharp x.params beyond starts lengths nodes k) (uncut : AllUncut (nodes k))
      (earlier : Cycles) (even odd : Cycle) (d : IsDoubleOf h (double + k) earlier even odd) where
    rows : LawfulRows x flutter earlier even odd (double + k)
    rows = rows_of x from flutter h run (double + k) (omega (arith, late)) earlier even odd d

    have : AllHave x earlier
    have = all_have x earlier w.run.none_joins

    member : NodeSpec → Member
    member node = as_member x.params (row_hearer x even odd node.id)

    uncut_at : (node : NodeSpec) → Contains (row_nodes x earlier) node
        → (borne_outcome (as_member x.params (row_hearer x even odd node.id)).offset_term.outcome ≡ Within) × (borne_outcome (as_member x.params (row_hearer x even odd node.id)).rate_term.outcome ≡ Within)
    uncut_at node among =
        let Uncut : List Member → Type 0 = λ some. AllUncut (map borne some) in
        let own = as_member x.params (row_hearer x even odd node.id) in
        All-contains (λ (m : Member). (m.offset_term.outcome ≡ Within) × (m.rate_term.outcome ≡ Within)) (map borne (row_members x earlier even odd)) (borne own)
        (subst Uncut (members_found x h (double + k) earlier even odd d) uncut)
        (contains_map borne (row_members x earlier even odd) own (member_among x flutter earlier even odd (double + k) rows node among))

    calm_at : (node : NodeSpec) → Contains (row_nodes x earlier) node → IsCalm (as_member x.params (row_hearer x even odd node.id))
    calm_at node among =
        let own = as_member x.params (row_hearer x even odd node.id) in
        let both = uncut_at node among in
        (calm_outcome own.offset_term.outcome both.0, calm_outcome own.rate_term.outcome both.1)

    reach_is : AreRowsInReach x earlier even odd (pos reach)
    reach_is = rows_in_reach k within before begin earlier even odd d

    bears_it : (node : NodeSpec) → Contains (row_nodes x earlier) node
        → (trusts_or_lacks false (traffic_of x) (double + k) node ≡ true) × (trusts_or_lacks true (traffic_of x) (double + k) node ≡ true)
        × ((not (lacks_values (traffic_of x) (double + k) node) || may_lack x.params (traffic_of x) (double + k) node) ≡ true)
    bears_it node among =
        let correct = correct_node x node (is_correct_row x earlier node among) in
        bears_at x flutter earlier even odd (double + k) (pos reach) rows reach_is have node among
        (all_pass (bears x.params (traffic_of x) (double + k)) x.params.nodes node (w.borne (double + k) (omega (arith, late)) within) correct.there)

    -- a term lies within its limit where the node has values, and is missing where it has none
    offset_is : (node : NodeSpec) → Contains (row_nodes x earlier) node → is_deaf false (traffic_of x) (double + k) node ≡ false → (as_member x.params (row_hearer x even odd node.id)).offset_term.outcome ≡ Within
    offset_is node among hears =
        let p : Values = x.params in
        let n = row_hearer x even odd node.id in
        let trusted = is_trusted_there x flutter earlier even odd (double + k) (pos reach) rows reach_is have false node among (bears_it node among).0 hears in
        let some = heard_some (round_at x earlier even odd) (offset_at n.look n.own) trusted.some in
        ap (λ (t : Term). t.outcome) (sym (kept_offset p.offset_limit (offsets_of n) (offset_term_of p.offset_limit (offsets_of n)) some (offset_term_is_there p.offset_limit (offsets_of n))))
        ∙ (uncut_at node among).0

    rate_is : (node : NodeSpec) → Contains (row_nodes x earlier) node → is_deaf true (traffic_of x) (double + k) node ≡ false → (as_member x.params (row_hearer x even odd node.id)).rate_term.outcome ≡ Within
    rate_is node among hears =
        let p : Values = x.params in
        let n = row_hearer x even odd node.id in
        let trusted = is_trusted_there x flutter earlier even odd (double + k) (pos reach) rows reach_is have true node among (bears_it node among).1 hears in
        let some = heard_some (round_at x earlier even odd) (rate_at n.look n.own) trusted.some in
        let term = rate_term_of n.odd.rate p.damping p.rate_limit (rates_of n) in
        ap (λ (t : Term). t.outcome) (sym (kept_rate n.odd.rate p.damping p.rate_limit (rates_of n) term some (rate_term_is_there n.odd.rate p.damping p.rate_limit (rates_of n))))
        ∙ (uncut_at node among).1

    offset_gone : (node : NodeSpec) → Contains (row_nodes x earlier) node → is_deaf false (traffic_of x) (double + k) node ≡ true → (as_member x.params (row_hearer x even odd node.id)).offset_term.outcome ≡ Missing
    offset_gone node among deaf =
        ap (λ (values : List ℤ). (offset_term_of x.params.offset_limit values).outcome) (no_values x flutter earlier even odd (double + k) (pos reach) rows reach_is have false node among deaf)

    rate_gone : (node : NodeSpec) → Contains (row_nodes x earlier) node → is_deaf true (traffic_of x) (double + k) node ≡ true → (as_member x.params (row_hearer x even odd node.id)).rate_term.outcome ≡ Missing
    rate_gone node among deaf =
        let n = row_hearer x even odd node.id in
        ap (λ (values : List ℤ). (rate_term_of n.odd.rate x.params.damping x.params.rate_limit values).outcome) (no_values x flutter earlier even odd (double + k) (pos reach) rows reach_is have true node among deaf)

    -- operation control takes one step
    abbrev status_before : NodeSpec → Status
    status_before node = status_in x.params (told_of earlier) node.id

    abbrev status_behind : NodeSpec → Status
    status_behind node = status_in x.params (told_of (odd ∷ even ∷ earlier)) node.id

    step_is : (node : NodeSpec) → Contains (row_nodes x earlier) node
        → status_in x.params (told_of (odd ∷ even ∷ earlier)) node.id
        ≡ step_of (limits_of x.params) (status_in x.params (told_of earlier) node.id) (as_member x.params (row_hearer x even odd node.id)).offset_term.outcome (as_member x.params (row_hearer x even odd node.id)).rate_term.outcome
    step_is node among =
        let p : Values = x.params in
        let has = row_there (row_nodes x earlier) odd.told.rows node rows.two.odd_rows.nodes among in
        let row = row_for odd.told.rows node.id in
        let own = as_member p (row_hearer x even odd node.id) in
        let was = status_in p (told_of earlier) node.id in
        let rate = (rate_term_in p (told_of (even ∷ earlier)) odd.told.devs row).outcome in
        status_step x earlier even odd (double + k) node.id row rows.counted has.is
        ∙ ap (λ (n : ℕ). step_of (limits_of p) was (offset_term_in p (told_of (even ∷ earlier)) odd.told.devs n).outcome rate) has.number
        ∙ ap (λ (t : Term). step_of (limits_of p) was own.offset_term.outcome t.outcome) (row_term_is x earlier even odd node.id has.number)

    active_before : (node : NodeSpec) → Contains (row_nodes x earlier) node → (status_in x.params (told_of earlier) node.id).state ≡ Active
    active_before node among =
        let early = row_runs_by (row_laws x earlier) (offset_after x.params (told_of earlier) even.told) (row_nodes x earlier) even.told.rows node rows.two.even_rows among in
        sym early.state ∙ each_row (row_nodes x earlier) even.told.rows (λ row. row.state ≡ Active) node rows.two.even_rows.nodes among (active_at k begin earlier even odd d).0

    within_both : (node : NodeSpec) → Contains (row_nodes x earlier) node → (missed : ℕ) → lacks_values (traffic_of x) (double + k) node ≡ false
        → StandsBy (status_in x.params (told_of (odd ∷ even ∷ earlier)) node.id) missed
    within_both node among missed hears =
        let both = neither (is_deaf false (traffic_of x) (double + k) node) (is_deaf true (traffic_of x) (double + k) node) hears in
        let own = as_member x.params (row_hearer x even odd node.id) in
        let By : Status → Type 0 = λ status. StandsBy status missed in
        subst By (sym (step_is node among))
        (
        stands_within (limits_of x.params) (status_in x.params (told_of earlier) node.id) own.offset_term.outcome own.rate_term.outcome missed (active_before node among) (offset_is node among both.0)
        (rate_is node among both.1)
        )
      where
        neither : (a b : Bool) → (a || b) ≡ false → (a ≡ false) × (b ≡ false)
        neither false false fails = (refl, refl)
        neither false true fails = absurd (cc)
        neither true b fails = absurd (cc)

    misses_one : (node : NodeSpec) → Contains (row_nodes x earlier) node → (missed : ℕ) → (status_in x.params (told_of earlier) node.id).bad ≤ missed → suc missed < (limits_of x.params).passive
        → StandsBy (status_in x.params (told_of (odd ∷ even ∷ earlier)) node.id) (suc missed)
    misses_one node among missed few less =
        let both = uncut_at node among in
        let own = as_member x.params (row_hearer x even odd node.id) in
        let By : Status → Type 0 = λ status. StandsBy status (suc missed) in
        subst By (sym (step_is node among))
        (
        stands_on (limits_of x.params) (status_in x.params (told_of earlier) node.id) own.offset_term.outcome own.rate_term.outcome missed (limits_in_order x.params sane) (active_before node among) few less
        both.0 both.1
        )

  -- so each stands behind a double cycle
  Stands : ℕ → Type 0
  Stands k =
      (earlier : Cycles) (even odd : Cycle) → IsDoubleOf h (double + k) earlier even odd → (node : NodeSpec) → Contains (row_nodes x earlier) node
      → StandsBy (status_in x.params (told_of (odd ∷ even ∷ earlier)) node.id) (lacking_for (traffic_of x) node (double + k))

  within_run : (k : ℕ) → k < x.doubles - double → double + k < x.doubles
  within_run k less = omega (arith, less)

  first : AreSharp x.params (starts 0) (lengths 0) (beyond 0) (map (λ (node : Member). node.even) (nodes 0))
  unfolding spread_through_losses
  first =
      let same : double ≡ double + 0 = omega arith in
      let At : ℕ → Type 0 = λ m. AreSharp x.params (sharp_pi beside x.params flutter) (sharp_lambda beside x.params flutter) (pos 0) (map (λ (node : Member). node.even) (map borne (members_at x h m))) in
      let Are : List NodeRow → Type 0 = λ rows. AreSharp x.params (sharp_pi beside x.params flutter) (sharp_lambda beside x.params flutter) (pos 0) rows in
      let From : ℤ → Type 0 = λ far. AreSharp x.params (sharp_pi beside x.params flutter) (sharp_lambda beside x.params flutter) far (map (λ (node : Member). node.even) (map borne (members_at x h (double + 0)))) in
      subst From (sym (none_strayed x.params flutter (λ m. some_keep (traffic_of x) (double + m)))) (subst At same (subst Are (sym (evens_same (members_at x h double))) own_sync.rows))

  -- ---- the next double cycle, where each stands behind one

  next_by : (k : ℕ) → double + k < x.doubles → WalkLastsAfter x.params flutter k → BeginSharp x.params beyond starts lengths nodes k → AllUncut (nodes k) → Stands k
      → (earlier : Cycles) (even odd : Cycle) → IsDoubleOf h (suc (double + k)) earlier even odd → IsNextDouble x.params (nodes k) (map borne (members_at x h (suc (double + k))))
  unfolding Stands
  next_by k within before begin uncut stands [] even odd d = let counted : 0 ≡ 2 * suc (double + k) = d.counted in absurd (omega (arith, counted))
  next_by k within before begin uncut stands (o ∷ []) even odd d = let counted : 1 ≡ 2 * suc (double + k) = d.counted in absurd (omega (arith, counted))
  next_by k within before begin uncut stands (o ∷ e ∷ earlier) even odd d =
      let p : Values = x.params in
      let was = prior_of h (double + k) earlier e o even odd d in
      let both = active_at k begin earlier e o was in
      let s = rows_of x from flutter h run (double + k) (omega (arith, late)) earlier e o was in
      let t = rows_of x from flutter h run (suc (double + k)) (omega (arith, late)) (o ∷ e ∷ earlier) even odd d in
      let all = all_have x earlier w.run.none_joins in
      let members = row_members x earlier e o in
      let later = row_members x (o ∷ e ∷ earlier) even odd in
      let calm = calm_at k within before begin uncut earlier e o was in
      let stays = λ (node : NodeSpec) (among : Contains (row_nodes x earlier) node). (stands earlier e o was node among).0 in
      let Followed : Member → Type 0 = λ node. IsFollowed p node (next_row even node) (next_row odd node) in
      let own : IsNextDouble p (map borne members) (map borne later) = record {
        next_even = next_row even;
        next_odd = next_row odd;
        followed =
            All-along (Contains (map borne members)) Followed (map borne members)
            (λ node here.
            let m = map_contains borne members node here in
            subst Followed m.2
            (borne_follows p m.0 (next_row even m.0) (next_row odd m.0) (followed_at x flutter earlier e o (double + k) s both.0 both.1 calm stays even odd t all m.0 m.1)))
            (All-contains_itself (map borne members));
        evens =
            evens_same later ∙ evens_are x flutter (o ∷ e ∷ earlier) even odd (suc (double + k)) t
            ∙ sym (map-map (next_row even) borne members ∙ next_rows_are x flutter earlier e o (double + k) s both.0 both.1 calm stays even odd t all even t.two.even_rows.nodes);
        odds =
            odds_same later ∙ odds_are x flutter (o ∷ e ∷ earlier) even odd (suc (double + k)) t
            ∙ sym (map-map (next_row odd) borne members ∙ next_rows_are x flutter earlier e o (double + k) s both.0 both.1 calm stays even odd t all odd t.two.odd_rows.nodes);
      } in
      let First : List Member → Type 0 = λ some. IsNextDouble p (map borne some) (map borne (members_at x h (suc (double + k)))) in
      let Second : List Member → Type 0 = λ some. IsNextDouble p (map borne members) (map borne some) in
      subst First (sym (members_found x h (double + k) earlier e o was)) (subst Second (sym (members_found x h (suc (double + k)) (o ∷ e ∷ earlier) even odd d)) own)

  follows_stood : (k : ℕ) → double + suc k < x.doubles → WalkLastsAfter x.params flutter k → BeginSharp x.params beyond starts lengths nodes k → AllUncut (nodes k) → Stands k
      → IsNextDouble x.params (nodes k) (nodes (suc k))
  follows_stood k short before begin uncut stands =
      let one : suc (double + k) ≡ double + suc k = omega arith in
      let later : suc (double + k) < x.doubles = omega (arith, short) in
      let f = found_of x from flutter h run (suc (double + k)) later in
      let At : ℕ → Type 0 = λ m. IsNextDouble x.params (nodes k) (map borne (members_at x h m)) in
      subst At one (next_by k (omega (arith, short)) before begin uncut stands f.earlier f.even f.odd f.is)

  -- ---- one double cycle after another

  Until : ℕ → Type 0
  Until n = (j : ℕ) → j < n → double + j < x.doubles → WalkLastsAfter x.params flutter j → Stands j

  module _ (n : ℕ) (until : Until n) (within : double + n < x.doubles) where
    within_of : (k : ℕ) → k < suc n → double + k < x.doubles
    within_of k less = omega (arith, less, within)

    are : AreLossyDoubles x.params flutter (suc n) on keeps_in beyond starts lengths senders nodes last
    unfolding Until
    are = record {
      sane = sane;
      heard = λ k less before begin. heard_by k (within_of k less) before begin;
      follows = λ k less before begin uncut.
          let here = sooner_than k n less in
          follows_stood k (within_of (suc k) less) before begin uncut (until k here.0 (within_of k here.1) before);
    }
      where
        sooner_than : (k n : ℕ) → suc k < suc n → (k < n) × (k < suc n)
        sooner_than k n less = (omega (arith, less), omega (arith, less))

    held : (k : ℕ) → k < suc n → WalkLastsAfter x.params flutter k
        → CanWalk x.params flutter (beyond k) (rate_walk x.params flutter) × (pos 0 ≤ℤ beyond (suc k)) × ((beyond k +ℤ rate_walk x.params flutter) ≤ℤ beyond (suc k))
        × (keeps_in k ≡ true → (beyond k +ℤ pos (2 * cycle_change x.params)) ≤ℤ beyond (suc k))
    held k less before = walk_is_held_through x.params flutter keeps_in k sane (strays k (within_of k less) before)

    go : GoInReach x.params flutter (suc n) on keeps_in beyond starts lengths (pos reach) last
    go = record {
      walks = λ k less before. (held k less before).0;
      from_range = λ k less before. (held k less before).1;
      takes_walk = λ k less before. (held k less before).2;
      takes_changes = λ k less before. (held k less before).3;
      goes = λ k. goes beside x.params flutter on k;
      suffices = limit;
      early = (key_slots_act_early x.params sane).1;
      fits = λ k less. near_fits x.params (starts k) (lengths k) reach sane (fits k (within_of k less));
    }

    keeps : KeepsSharp x.params flutter beyond starts lengths nodes n
    keeps = keep x.params flutter (suc n) on keeps_in beyond starts lengths senders nodes (pos reach) last are go first n (omega arith)

    begins : WalkLastsAfter x.params flutter n → BeginSharp x.params beyond starts lengths nodes n
    begins before = keeps.begins (up_to x.params flutter n before)

    uncut_of : WalkLastsAfter x.params flutter n → AllUncut (nodes n)
    uncut_of before = none_cuts x.params (starts (suc n)) (lengths (suc n)) (beyond (suc n)) (nodes n) (keeps.come before)

  awake_at : (node : NodeSpec) → Contains (correct_nodes x) node → lacks_values (traffic_of x) double node ≡ false
  awake_at node there =
      let correct = correct_node x node there in
      let is = all_pass (λ (b : NodeSpec). x.is_arbitrary b.id || not (lacks_values (traffic_of x) double b)) x.params.nodes node awake correct.there in
      right (x.is_arbitrary node.id) (lacks_values (traffic_of x) double node) correct.correct is
    where
      right : (a b : Bool) → a ≡ false → (a || not b) ≡ true → b ≡ false
      right false false fails is = refl
      right false true fails is = absurd (cc)
      right true b fails is = absurd (cc)

  stand_at : (n : ℕ) → Until n → double + n < x.doubles → WalkLastsAfter x.params flutter n → Stands n
  unfolding Stands Until lacking_for
  stand_at zero until within before earlier even odd d node among =
      let same : double ≡ double + 0 = omega arith in
      let hears = ap (λ (m : ℕ). lacks_values (traffic_of x) m node) (sym same) ∙ awake_at node (is_correct_row x earlier node among) in
      within_both 0 within before (begins 0 until within before) (uncut_of 0 until within before) earlier even odd d node among (lacking_for (traffic_of x) node (double + 0)) hears
  stand_at (suc m) until within before [] even odd d node among = let counted : 0 ≡ 2 * (double + suc m) = d.counted in absurd (omega (arith, counted))
  stand_at (suc m) until within before (o ∷ []) even odd d node among = let counted : 1 ≡ 2 * (double + suc m) = d.counted in absurd (omega (arith, counted))
  stand_at (suc m) until within before (o ∷ e ∷ earlier) even odd d node among = by (lacks_values (traffic_of x) (double + suc m) node) refl
    where
      number : double + suc m ≡ suc (double + m)
      number = omega arith

      lacking : lacks_values (traffic_of x) (double + suc m) node ≡ true → lacking_for (traffic_of x) node (double + suc m) ≡ suc (lacking_for (traffic_of x) node (double + m))
      lacking lacks =
          let also : lacks_values (traffic_of x) (suc (double + m)) node ≡ true = ap (λ (n : ℕ). lacks_values (traffic_of x) n node) (sym number) ∙ lacks in
          ap (lacking_for (traffic_of x) node) number ∙ ap (λ (b : Bool). if b then suc (lacking_for (traffic_of x) node (double + m)) else 0) also

      passes : (a b : Bool) → a ≡ true → (not a || b) ≡ true → b ≡ true
      passes true b lacks is = is
      passes false b lacks is = absurd (cc)

      fewer : (n limit missed : ℕ) → n ≡ suc missed → nat_lt n limit ≡ true → suc missed < limit
      fewer n limit missed same is = grind (arith, nat_tests)

      by : (lacks : Bool) → lacks_values (traffic_of x) (double + suc m) node ≡ lacks
          → StandsBy (status_in x.params (told_of (odd ∷ even ∷ o ∷ e ∷ earlier)) node.id) (lacking_for (traffic_of x) node (double + suc m))
      by false hears =
          within_both (suc m) within before (begins (suc m) until within before) (uncut_of (suc m) until within before) (o ∷ e ∷ earlier) even odd d node among
          (lacking_for (traffic_of x) node (double + suc m)) hears
      by true lacks =
          let p : Values = x.params in
          let t = traffic_of x in
          let Of : ℕ → Type 0 = λ n. IsDoubleOf h n (o ∷ e ∷ earlier) even odd in
          let was = prior_of h (double + m) earlier e o even odd (subst Of number d) in
          let walk = earlier_walk p flutter m (up_to p flutter (suc m) before) in
          let there = all_among x earlier node (all_have x earlier w.run.none_joins) (is_correct_row x (o ∷ e ∷ earlier) node among) in
          let stood = until m (omega arith) (omega (arith, within)) walk earlier e o was node there in
          let missed = lacking_for t node (double + m) in
          let begin = begins (suc m) until within before in
          let uncut = uncut_of (suc m) until within before in
          let bears = bears_it (suc m) within before begin uncut (o ∷ e ∷ earlier) even odd d node among in
          let may = passes (lacks_values t (double + suc m) node) (nat_lt (lacking_for t node (double + suc m)) (amount p name.gMaxWithoutClockCorrectionPassive)) lacks bears.2 in
          let less = fewer (lacking_for t node (double + suc m)) (amount p name.gMaxWithoutClockCorrectionPassive) missed (lacking lacks) may in
          let By : ℕ → Type 0 = λ n. StandsBy (status_in p (told_of (odd ∷ even ∷ o ∷ e ∷ earlier)) node.id) n in
          subst By (sym (lacking lacks)) (misses_one (suc m) within before begin uncut (o ∷ e ∷ earlier) even odd d node among missed stood.1 less)

  until_of : (n : ℕ) → Until n
  unfolding Until
  until_of zero j less within before = absurd (omega (arith, less))
  until_of (suc n) j less within before = by (until_of n) (cases_eq j n)
    where
      by : Until n → (j ≡ n) ⊎ (j ≡ n → ⊥) → Stands j
      by until (inl same) =
          let Within : ℕ → Type 0 = λ m. double + m < x.doubles in
          subst Stands (sym same) (stand_at n until (subst Within same within) (subst (WalkLastsAfter x.params flutter) same before))
      by until (inr other) = until j (omega (arith, less, other)) within before

  -- the terms by the row's own number
  rate_told_is : (earlier : Cycles) (even odd : Cycle) (m : ℕ) → LawfulRows x flutter earlier even odd m → (node : NodeSpec) → Contains (row_nodes x earlier) node
      → (rate_term_told x even odd node).outcome ≡ (as_member x.params (row_hearer x even odd node.id)).rate_term.outcome
  rate_told_is earlier even odd m rows node among =
      let p : Values = x.params in
      ap (λ (id : ℕ). (rate_term_of (row_for odd.told.rows node.id).rate p.damping p.rate_limit (rate_values_by p even.told.devs odd.told.devs id (own_index p node.id))).outcome)
      (row_there (row_nodes x earlier) odd.told.rows node rows.two.odd_rows.nodes among).number

  pub keeps_through : (passed : ℕ) → double + passed < x.doubles → WalkLastsAfter x.params flutter passed → KeepsThrough x h (double + passed) (apart_through_losses beside x.params flutter on passed)
  unfolding Stands
  keeps_through passed within before =
      let p : Values = x.params in
      let until = until_of passed in
      let begin = begins passed until within before in
      let uncut = uncut_of passed until within before in
      let apart = apart_through_losses beside p flutter on passed in
      let one = most (precision_by p (starts passed) (lengths passed)) (starts (suc passed) + longest_micro p) in
      let f = found_of x from flutter h run (double + passed) within in
      record {
        skew =
            spread_in x from flutter h run (double + passed) apart (omega (arith, late)) f.earlier f.even f.odd f.is
            (λ one_node other macrotick is_odd here there low high.
            stay p flutter (suc passed) on keeps_in beyond starts lengths senders nodes (pos reach) last (are passed until within) (go passed until within) first passed apart (borne one_node) (borne other) macrotick is_odd (omega arith) before one.0 one.1
            (contains_map borne (plain passed) one_node here) (contains_map borne (plain passed) other there) low high);
        ends = λ earlier even odd d.
            let both = active_at passed begin earlier even odd d in
            let s = rows_of x from flutter h run (double + passed) (omega (arith, late)) earlier even odd d in
            let stands = stand_at passed until within before earlier even odd d in
            let have = all_have x earlier w.run.none_joins in
            let stays = λ (node : NodeSpec) (among : Contains (row_nodes x earlier) node). (stands node among).0 in
            let calm = calm_at passed within before begin uncut earlier even odd d in
            record {
              offset_within = λ node there hears. offset_is passed within before begin uncut earlier even odd d node (all_among x earlier node have there) hears;
              offset_missing = λ node there deaf. offset_gone passed within before begin uncut earlier even odd d node (all_among x earlier node have there) deaf;
              rate_within = λ node there hears.
                  let among = all_among x earlier node have there in
                  rate_told_is earlier even odd (double + passed) s node among ∙ rate_is passed within before begin uncut earlier even odd d node among hears;
              rate_missing = λ node there deaf.
                  let among = all_among x earlier node have there in
                  rate_told_is earlier even odd (double + passed) s node among ∙ rate_gone passed within before begin uncut earlier even odd d node among deaf;
              uncut_even = none_early x flutter earlier even odd (double + passed) s both.0 both.1 calm stays;
              uncut_odd = none_late x flutter earlier even odd (double + passed) s both.0 both.1 calm stays;
              active = λ node there. stays node (all_among x earlier node have there);
            };
      }
    where
      most : (a b : ℕ) → (a ≤ max a b) × (b ≤ max a b)
      most a b = (grind arith, grind arith)

pub histories_keep_through_losses_lem : RowsHear → LossyDoublesKeep → LossyDoublesStayApart → SpreadsGo → HistoriesKeepThroughLosses
histories_keep_through_losses_lem hear keep stay goes beside x from flutter h double reach w late checks fits strays sync awake passed within before =
    keeps_through hear keep stay goes beside x from flutter h double reach w late checks fits strays sync awake (omega (arith, within)) passed within before
