-- A round with nodes that follow, whatever supplies it, is such a group as the sharper step asks for.
use Rattle.std.proofs.Common.{◌≡◌, ℕ, Bool, false, ℤ, pos, subst, inl, inr}
use Rattle.std.specs.Prelude.{◌≤ℤ◌, Contains}
use Rattle.fr_base.specs.Within.{IsWithin}
use Rattle.fr_precision.specs.Instants.{gap_of, row_in}
use Rattle.fr_precision.specs.Placement.{IsRegular}
use Rattle.fr_precision.specs.Round.{senders_of, Hearer, IsHearer, Round}
use Rattle.fr_precision.specs.Step.{Member}
use Rattle.fr_runs.specs.Group.{IsOf}
use Rattle.fr_runs.specs.Hearers.{group_of, member_from, Hearers, IsOneOf}
use Rattle.fr_bound.specs.SharpBounds.{last_action}
use Rattle.fr_precision.specs.Lengths.{KeepSenders}
use Rattle.fr_precision.specs.SharpRound.{IsRoundInReach}
use Rattle.fr_precision.specs.SharpStep.{ComputesSharply, IsSharpDouble}
use Rattle.fr_promise.specs.SharpJoining.{sharp_group_spread, GroupSpread}
use Rattle.fr_promise.specs.SharpGroup.{IsSteadyRoundFollowed, SharpRoundsAreFollowed, SteadyRoundsAreFollowed}
use Rattle.fr_precision.proofs.HearingLemmas.{hearers_keep_senders}
use Rattle.fr_precision.proofs.RoundLemmas.{computes_sharply, contains_map, hears_in_reach, map_contains, rounds_in_reach_are_sharp}
use Rattle.fr_promise.proofs.SharpGrouped.{apart_reached}
use Rattle.fr_precision.proofs.StepLemmas.{nodes_near, Double}

module _
    (beside : Bool) (r : Round) (flutter : ℕ) (now : GroupSpread) (beyond walk : ℤ) (g : Hearers) (reach : ℤ)
    (s : IsSteadyRoundFollowed beside r flutter now beyond walk g reach) where
  -- ---- receivers and nodes of the step

  is_of : (n : Hearer) → IsOneOf g n → IsOf (group_of r.params g) (member_from r.params n)
  is_of n (inl (inl here)) = inl (inl (contains_map (member_from r.params) g.rows n here))
  is_of n (inl (inr here)) = inl (inr (contains_map (member_from r.params) g.seconds n here))
  is_of n (inr here) = inr (contains_map (member_from r.params) g.firsts n here)

  hearer_of : (node : Member) → IsOf (group_of r.params g) node → (n : Hearer) × IsOneOf g n × (member_from r.params n ≡ node)
  hearer_of node (inl (inl here)) = let found = map_contains (member_from r.params) g.rows node here in (found.0, inl (inl found.1), found.2)
  hearer_of node (inl (inr here)) = let found = map_contains (member_from r.params) g.seconds node here in (found.0, inl (inr found.1), found.2)
  hearer_of node (inr here) = let found = map_contains (member_from r.params) g.firsts node here in (found.0, inr found.1, found.2)

  regular : (node : Member) → IsOf (group_of r.params g) node → IsRegular r.params node.even node.odd
  regular node here =
      let n = hearer_of node here in
      let Regular : Member → Type 0 = λ m. IsRegular r.params m.even m.odd in
      subst Regular n.2 (s.supplied n.0 n.1).regular

  -- ---- each is within reach of those with rows

  double : Double r.params now.rows.starts now.rows.lengths beyond (group_of r.params g).rows
  double = record { sane = s.round.sane; sharp = s.placed.sharp; regular = λ node here. regular node (inl (inl here)) }

  reached : (is_odd : Bool) (row node : Member) (action : ℤ) → Contains (group_of r.params g).rows row → IsOf (group_of r.params g) node → pos 0 ≤ℤ action → action ≤ℤ pos (last_action r.params)
      → IsWithin reach (gap_of r.params is_odd action (row_in is_odd row.even row.odd) (row_in is_odd node.even node.odd))
  reached is_odd row node action there (inl (inl here)) from to =
      let near = nodes_near r.params now.rows.starts now.rows.lengths beyond (group_of r.params g).rows double row node there here in
      apart_reached r.params now.rows.starts now.rows.lengths reach is_odd row node action s.round.sane s.takes.fits (regular row (inl (inl there))) (regular node (inl (inl here))) near.by_start near.by_even from to
  reached is_odd row node action there (inl (inr here)) from to =
      apart_reached r.params now.seconds now.rows.lengths reach is_odd row node action s.round.sane
      (s.takes.fits_seconds node here) (regular row (inl (inl there))) (regular node (inl (inr here))) (s.placed.seconds_start row node there here) (s.placed.seconds_last row node (inl there) here) from to
  reached is_odd row node action there (inr here) from to =
      apart_reached r.params now.firsts.starts now.firsts.lengths reach is_odd row node action s.round.sane (s.takes.fits_firsts node here)
      (regular row (inl (inl there))) (regular node (inr here)) (s.placed.firsts_start row node there here) (s.placed.firsts_last row node (inl there) here) from to

  rows_in_reach : IsRoundInReach beside r flutter reach g.rows
  rows_in_reach = record {
    round = s.round;
    arbitrary = s.arbitrary;
    suffices = s.takes.limit;
    acts = λ is_odd one other action here there from to. reached is_odd one other action here (inl (inl there)) from to;
    supplied = λ n here. s.supplied n (inl (inl here));
    among = s.among;
  }

  rows_sharp : IsSharpDouble beside r.params flutter (senders_of r) (group_of r.params g).rows (pos (last_action r.params))
  rows_sharp = rounds_in_reach_are_sharp beside r flutter reach g.rows rows_in_reach

  -- ---- each hears the round

  hearer : (n : Hearer) → IsOneOf g n → IsHearer r reach n
  hearer n here =
      let at = member_from r.params in
      hears_in_reach r flutter reach g.rows n s.round s.takes.limit (s.supplied n here) s.among
      (λ row action there. reached false (at row) (at n) action (contains_map at g.rows row there) (is_of n here))

  keep : (one other : Member) → IsOf (group_of r.params g) one → IsOf (group_of r.params g) other
      → KeepSenders beside (senders_of r) one.offsets other.offsets × KeepSenders beside (senders_of r) one.rates other.rates
  keep one other here there =
      let first = hearer_of one here in
      let second = hearer_of other there in
      let kept = hearers_keep_senders beside r reach reach first.0 second.0 s.round s.arbitrary (hearer first.0 first.1) (hearer second.0 second.1) in
      let Keep : Member → Member → Type 0 = λ a b. KeepSenders beside (senders_of r) a.offsets b.offsets × KeepSenders beside (senders_of r) a.rates b.rates in
      let First : Member → Type 0 = λ a. Keep a other in
      subst First first.2 (subst (Keep (member_from r.params first.0)) second.2 kept)

pub steady_rounds_are_followed : SteadyRoundsAreFollowed
steady_rounds_are_followed beside r flutter now beyond walk g reach s =
    let rows = rows_sharp beside r flutter now beyond walk g reach s in (
      record {
        sane = s.round.sane;
        walks = s.walks;
        takes = s.takes;
        among = rows.among;
        acts = rows.acts;
        placed = s.placed;
      },
      record {
        computes =
            λ node here.
            let n = hearer_of beside r flutter now beyond walk g reach s node here in
            subst (ComputesSharply r.params flutter (senders_of r)) n.2 (computes_sharply r flutter reach n.0 s.round (hearer beside r flutter now beyond walk g reach s n.0 n.1) (s.supplied n.0 n.1));
        keep = keep beside r flutter now beyond walk g reach s;
      },
    )

pub sharp_rounds_are_followed : SharpRoundsAreFollowed
sharp_rounds_are_followed beside r flutter = steady_rounds_are_followed beside r flutter (sharp_group_spread beside r.params flutter)
